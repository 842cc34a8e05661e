-- The four bytes of a tag, the highest first. Assumes nothing.
use Rattle.records.proofs.HeadLaws.{tag_put}
use Rattle.std.proofs.Common.{rules}
use Rattle.records.proofs.head.put_tag.Goals as goal

pub returns : goal.returns
returns c = search (rules, tag_put)
