-- The field of row k, from its tag, its length and the start that is known.
use Rattle.iso8211.proofs.DirectoryLaws.{field_on_is, length_sure}
use Rattle.iso8211.proofs.field.Record.field_on.Goals as goal

pub sure_at-length-requires : goal.sure_at-length-requires
sure_at-length-requires c = length_sure _ _ _ _ _ _ (record {
  headed = c.args.self.now.headed.headed;
  lengths = c.args.self.now.headed.lengths;
  positions = c.args.self.now.headed.positions;
  below = c.requires.0;
}) c.row_place-i.ensures.0 c.row_place-i.ensures.1 c.requires.1.1

pub returns : goal.returns
returns c = field_on_is _ _ _ _ _ _ _ _ _ (record {
  headed = c.args.self.now.headed.headed;
  lengths = c.args.self.now.headed.lengths;
  positions = c.args.self.now.headed.positions;
  below = c.requires.0;
}) c.row_place-i.ensures.0
    c.tag_at-tag.ensures c.sure_at-length.ensures.0 c.requires.1.0
