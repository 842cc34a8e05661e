-- What `frame` answered is what the definition says of the file.
use Rattle.frames.proofs.list.Goals as goal

pub write_records-requires : goal.write_records-requires
write_records-requires c = cc
