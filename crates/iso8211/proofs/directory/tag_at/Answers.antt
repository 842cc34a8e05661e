-- The four bytes, as they are read.
use Rattle.iso8211.proofs.DirectoryLaws.{tag_is}
use Rattle.iso8211.proofs.directory.tag_at.Goals as goal

pub returns : goal.returns
returns c = tag_is _ _ _ _ _ _ c.wide.ensures.0 c.wide-2.ensures.0
    c.wide-3.ensures.0 c.wide-4.ensures.0
