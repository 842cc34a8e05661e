-- By the first two tags, and by how far the tags of the lists take the rows behind them.
use Rattle.std.proofs.Common.{rules}
use Rattle.itemrows.proofs.TakenLaws.{plain_no, plain_vector, plain_feature}
use Rattle.itemrows.proofs.plain.is_plain.Goals as goal

pub returns-then-n-gt8 : goal.returns-then-n-gt8
returns-then-n-gt8 c = search (rules, plain_no)

pub returns-then-tag-ne-FIRST : goal.returns-then-tag-ne-FIRST
returns-then-tag-ne-FIRST c = search (rules, plain_no)

pub returns-then-tag-eq-VRID : goal.returns-then-tag-eq-VRID
returns-then-tag-eq-VRID c = search (rules, plain_vector)

pub returns : goal.returns
returns c = search (rules, plain_feature)
