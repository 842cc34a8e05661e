-- The numbers of the leader, read one by one.
use Rattle.std.proofs.Common.{◌+◌, ◌-◌, div-le_self, arith, rules}
use Rattle.iso8211.proofs.DirectoryLaws.{base_sure, count_is}
use Rattle.iso8211.proofs.field.head_of.Goals as goal

pub sure_digits-base-requires : goal.sure_digits-base-requires
sure_digits-base-requires c = search (rules, base_sure)

pub overflow_cast-result-2 : goal.overflow_cast-result-2
overflow_cast-result-2 c = omega (
  arith,
  c.sure_digits-base.ensures.1,
  div-le_self (c.sure_digits-base.result - 25) (4 + c.digit_at-lengths.result + c.digit_at-positions.result),
)

pub returns : goal.returns
returns c = record {
  headed = c.requires;
  base = c.sure_digits-base.ensures.0;
  lengths = c.digit_at-lengths.ensures.0;
  positions =
      c.digit_at-positions.ensures.0;
  count = count_is _ _ _ _ _ c.sure_digits-base.ensures.0 c.digit_at-lengths.ensures.0 c.digit_at-positions.ensures.0;
}
