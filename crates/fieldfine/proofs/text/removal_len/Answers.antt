-- Four bytes, the last two 7F and 1F.
use Rattle.std.proofs.Common.{refl, rules}
use Rattle.fieldfine.proofs.TextLaws.{attribute_not, removal_so}
use Rattle.fieldfine.proofs.text.removal_len.Goals as goal

pub returns-then-d-at-lt5 : goal.returns-then-d-at-lt5
returns-then-d-at-lt5 c = attribute_not refl

pub returns-then-wide-ne127 : goal.returns-then-wide-ne127
returns-then-wide-ne127 c = attribute_not refl

pub returns-then-wide-ne31 : goal.returns-then-wide-ne31
returns-then-wide-ne31 c = attribute_not refl

pub returns : goal.returns
returns c = search (rules, removal_so)
