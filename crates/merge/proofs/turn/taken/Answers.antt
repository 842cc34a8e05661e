-- A law for each of the six ways: the words of the cell or of the update are used up, one name is lower than the other, or both are the same
-- and the update deletes or modifies.
use Rattle.merge.proofs.TurnLaws.{turn_new, turn_kept, turn_before, turn_behind, turn_gone, turn_edit}
use Rattle.std.proofs.Common.{Less, Equal, Greater, ◌<◌, ◌≡◌, ◌/◌, ◌∙◌, sym, rules}
use Rattle.std.proofs.lemmas.Cmp.{ranked}
use Rattle.merge.proofs.turn.taken.Goals as goal

pub returns-then-i-eq0 : goal.returns-then-i-eq0
returns-then-i-eq0 c = search (rules, turn_new)

pub returns-then-j-eq0 : goal.returns-then-j-eq0
returns-then-j-eq0 c = search (rules, turn_kept)

pub returns-in-Less : goal.returns-in-Less
returns-in-Less c =
    let less : c.get-c.result / 16777216 < c.get-u.result / 16777216 = ranked _ _ Less (sym c.in-Less.is ∙ c.cmp.ensures) in
    search (rules, turn_before)

pub returns-in-Greater : goal.returns-in-Greater
returns-in-Greater c =
    let more : c.get-u.result / 16777216 < c.get-c.result / 16777216 = ranked _ _ Greater (sym c.in-Greater.is ∙ c.cmp.ensures) in
    search (rules, turn_behind)

pub returns-in-Equal : goal.returns-in-Equal
returns-in-Equal c =
    let same : c.get-c.result / 16777216 ≡ c.get-u.result / 16777216 = ranked _ _ Equal (sym c.in-Equal.is ∙ c.cmp.ensures) in
    search (rules, turn_gone)

pub returns-in-Equal-2 : goal.returns-in-Equal-2
returns-in-Equal-2 c =
    let same : c.get-c.result / 16777216 ≡ c.get-u.result / 16777216 = ranked _ _ Equal (sym c.in-Equal-2.is ∙ c.cmp.ensures) in
    search (rules, turn_edit)
