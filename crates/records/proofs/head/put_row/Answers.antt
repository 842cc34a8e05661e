-- Tag, length and position, one behind the other. Assumes nothing.
use Rattle.records.proofs.HeadLaws.{row_put, wrote_by, tag_length}
use Rattle.octets.proofs.DigitsLaws.{digits_length}
use Rattle.std.proofs.Common.{arith, rules}
use Rattle.records.proofs.head.put_row.Goals as goal

pub put_digits-last-requires : goal.put_digits-last-requires
put_digits-last-requires c = omega (arith, wrote_by 4 (tag_length _) c.put_tag-next.ensures, c.put_tag-next.auto.out)

pub put_digits-requires : goal.put_digits-requires
put_digits-requires c = omega (
  arith,
  wrote_by _ (digits_length _ _) c.put_digits-last.ensures,
  c.put_digits-last.auto.area,
  wrote_by 4 (tag_length _) c.put_tag-next.ensures,
  c.put_tag-next.auto.out,
)

pub returns : goal.returns
returns c = search (rules, row_put)
