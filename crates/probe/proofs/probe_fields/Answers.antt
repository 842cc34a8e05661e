-- What `frame` answered is what the definition says of the file.
use Rattle.probe.proofs.probe_fields.Goals as goal

pub sum_records-requires : goal.sum_records-requires
sum_records-requires c = cc
