-- A row is what its three readers answer.
use Rattle.iso8211.proofs.DirectoryLaws.{row_is}
use Rattle.iso8211.proofs.directory.row_at.Goals as goal

pub returns : goal.returns
returns c = (
  row_is _ _ _ _ _ _ _ c.tag_at-tag.ensures c.get_digits-length.ensures c.get_digits-position.ensures,
  (c.get_digits-length.ensures.most, c.get_digits-position.ensures.most),
)
