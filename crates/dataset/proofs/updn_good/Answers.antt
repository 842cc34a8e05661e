-- By the kind of file, one law for each way out; that the digits are few enough to be read follows from the rule that they passed.
use Rattle.std.proofs.Common.{not, ap, arith, rules}
use Rattle.values.proofs.RuleLaws.{digits_few}
use Rattle.dataset.proofs.DsidLaws.{updn_cell, updn_bad, updn_same}
use Rattle.dataset.proofs.updn_good.Goals as goal

pub returns-then-not-update : goal.returns-then-not-update
returns-then-not-update c = search (rules, updn_cell)

pub get_digits-requires-then-digits_within : goal.get_digits-requires-then-digits_within
get_digits-requires-then-digits_within c = omega (arith, digits_few _ _ _ _ _ _ _ c.digits_within-2.ensures (ap not c.if-digits_within.true))

pub returns-then-digits_within : goal.returns-then-digits_within
returns-then-digits_within c = search (rules, updn_same)

pub returns-else-digits_within : goal.returns-else-digits_within
returns-else-digits_within c = search (rules, updn_bad)
