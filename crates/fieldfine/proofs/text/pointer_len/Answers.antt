-- RIND first, then the text up to its 1F.
use Rattle.std.proofs.Common.{refl, rules}
use Rattle.fieldfine.proofs.TextLaws.{pointer_not, pointer_so}
use Rattle.fieldfine.proofs.text.pointer_len.Goals as goal

pub returns-then-d-at-lt11 : goal.returns-then-d-at-lt11
returns-then-d-at-lt11 c = pointer_not refl

pub returns-then-rind-lt2 : goal.returns-then-rind-lt2
returns-then-rind-lt2 c = pointer_not refl

pub returns-then-d-end-ne31 : goal.returns-then-d-end-ne31
returns-then-d-end-ne31 c = pointer_not refl

pub returns : goal.returns
returns c = search (rules, pointer_so)
