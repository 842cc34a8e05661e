-- The text behind the nine fixed bytes, without the 1F.
use Rattle.std.proofs.Common.{rules}
use Rattle.attributes.proofs.FfptLaws.{comment_read}
use Rattle.attributes.proofs.comment_good.Goals as goal

pub returns : goal.returns
returns c = search (rules, comment_read)
