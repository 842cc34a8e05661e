-- The field of row k, from the row's three numbers.
use Rattle.std.proofs.Common.{arith}
use Rattle.iso8211.proofs.DirectoryLaws.{field_is}
use Rattle.iso8211.proofs.field.Record.field.Goals as goal

pub overflow_add-result-2 : goal.overflow_add-result-2
overflow_add-result-2 c = omega (arith, c.row_at-row.ensures.1.1)

pub returns : goal.returns
returns c = field_is _ _ _ _ _ _ _ _ c.row_at-row.ensures.0 c.row_place-i.ensures.0 c.args.self.now.headed.base
    (record {
      headed = c.args.self.now.headed.headed;
      lengths = c.args.self.now.headed.lengths;
      positions = c.args.self.now.headed.positions;
      below = c.requires;
    })
