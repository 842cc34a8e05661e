-- The tag of row k, which is the field's.
use Rattle.iso8211.proofs.DirectoryLaws.{field_tag}
use Rattle.iso8211.proofs.field.Record.tag.Goals as goal

pub returns : goal.returns
returns c = field_tag _ _ _ _ _ _ _ (record {
  headed = c.args.self.now.headed.headed;
  lengths = c.args.self.now.headed.lengths;
  positions =
      c.args.self.now.headed.positions;
  below = c.requires;
}) c.row_place-i.ensures.0 c.tag_at.ensures
