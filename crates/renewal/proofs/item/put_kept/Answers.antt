-- By what is known of the record.
use Rattle.renewal.proofs.SameLaws.{copy_same}
use Rattle.std.proofs.Common.{rules}
use Rattle.renewal.proofs.item.put_kept.Goals as goal

pub put_copy-requires : goal.put_copy-requires
put_copy-requires c = (search rules, search (rules, copy_same), search rules)
