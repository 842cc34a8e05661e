-- Whether a unit is the terminator, by its one byte or its two.
use Rattle.entries.proofs.TextLaws.{unit_one, unit_two}
use Rattle.std.proofs.Common.{refl, rules}
use Rattle.entries.proofs.ends_at.Goals as goal

pub returns-then-unit-eq1 : goal.returns-then-unit-eq1
returns-then-unit-eq1 c = unit_one c.args.b.now c.args.at _ _ c.if-unit-eq1.true refl

pub returns-else-unit-eq1 : goal.returns-else-unit-eq1
returns-else-unit-eq1 c = search (rules, unit_two)
