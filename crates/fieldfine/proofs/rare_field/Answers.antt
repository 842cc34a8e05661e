-- Each way out is one test; the last is a field that is fine.
use Rattle.std.proofs.Common.{refl, arith, rules}
use Rattle.fieldvalue.proofs.ValueLaws.{attributes_none}
use Rattle.fieldfine.proofs.FieldLaws.{field_not, field_rare}
use Rattle.fieldfine.proofs.rare_field.Goals as goal

pub returns-then-k-eq-ATTV : goal.returns-then-k-eq-ATTV
returns-then-k-eq-ATTV c = field_not refl

pub returns-then-k-eq-ATTF : goal.returns-then-k-eq-ATTF
returns-then-k-eq-ATTF c = field_not refl

pub returns-then-k-eq-NATF : goal.returns-then-k-eq-NATF
returns-then-k-eq-NATF c = field_not refl

pub returns-then-marks-k-ne1 : goal.returns-then-marks-k-ne1
returns-then-marks-k-ne1 c = field_not refl

pub returns-then-not-placed : goal.returns-then-not-placed
returns-then-not-placed c = field_not refl

pub rare_fine-requires : goal.rare_fine-requires
rare_fine-requires c = search (rules, attributes_none)

pub returns-then-not-rare_fine : goal.returns-then-not-rare_fine
returns-then-not-rare_fine c = field_not refl

pub returns : goal.returns
returns c = field_rare _ _ c.kind_of-k.ensures.0
    (let b = c.kind_of-k.ensures.1 in omega arith)
    c.if-k-eq-ATTV.false c.if-k-eq-ATTF.false
    c.if-k-eq-NATF.false c.if-marks-k-ne1.false c.placed.ensures
    c.if-not-placed.false-raw c.rare_fine.ensures c.if-not-rare_fine.false-raw
