-- By what is known of the records.
use Rattle.reissue.proofs.PlanLaws.{copies}
use Rattle.std.proofs.Common.{rules}
use Rattle.reissue.proofs.write.put_rest.Goals as goal

pub put_copies-requires : goal.put_copies-requires
put_copies-requires c = (search rules, search (rules, copies), search rules)
