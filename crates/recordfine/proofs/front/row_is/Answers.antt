-- One test a way out.
use Rattle.recordfine.proofs.FrontLaws.{is_not, is_so}
use Rattle.std.proofs.Common.{rules}
use Rattle.recordfine.proofs.front.row_is.Goals as goal

pub returns-then-tag_at-tag : goal.returns-then-tag_at-tag
returns-then-tag_at-tag c = is_not

pub returns-then-not-says : goal.returns-then-not-says
returns-then-not-says c = is_not

pub returns-then-not-says-2 : goal.returns-then-not-says-2
returns-then-not-says-2 c = is_not

pub returns-then-h-due : goal.returns-then-h-due
returns-then-h-due c = is_not

pub returns : goal.returns
returns c = search (rules, is_so)
