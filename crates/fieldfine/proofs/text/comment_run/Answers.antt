-- No byte is a run too.
use Rattle.std.proofs.Common.{false, rules}
use Rattle.fieldfine.proofs.TextLaws.{run_start}
use Rattle.fieldfine.proofs.text.comment_run.Goals as goal

pub returns-then-d-from-eq31 : goal.returns-then-d-from-eq31
returns-then-d-from-eq31 c = (run_start false _ _, search rules)
