-- What the laws of `merge` take of an update without a fault: its targets are good, its inserts have their names, a modify keeps the name,
-- and the names of what is held rise. Assumes nothing.
use Prim.Native.Nat.{ℕ, ◌<◌}
use mathlib.Core.Bool.{true, false}
use mathlib.Core.List.{List, [], ◌∷◌}
use mathlib.Core.Logic.{⊎_elim}
use mathlib.Core.Option.{none, some}
use mathlib.Core.Path.{◌≡◌, refl}
use native.Mathlib.Omega.{arith}
use lib.Dec.{eqb}
use borrow.Author.Tests.{eq-eqb}
use Rattle.octets.proofs.Cases.{true_or_false}
use Rattle.items.specs.Item.{Item, item_name}
use Rattle.held.specs.Chart.{Chart}
use Rattle.held.specs.Good.{Ordered, GoodChart}
use Rattle.held.specs.Good.Ordered.{ordered_none, ordered_more}
use Rattle.merge.specs.Updated as walk
use Rattle.merge.specs.Updated.{rules_of, AllFit, Over, Rising, Named, AllMade}
use Rattle.merge.specs.Updated.Over.{over_none, over_more}
use Rattle.merge.specs.Updated.Rising.{rise_none, rise_more}
use Rattle.merge.specs.Updated.AllMade.{made_none, made_more}
use Rattle.merge.specs.Update.{result}
use Rattle.merge.specs.Targets.{holds, target_good}
use Rattle.merge.specs.Updated.AllFit.{fit_none, fit_more}
use Rattle.merge.proofs.UpdateLaws.{result_updated}
use Rattle.changes.specs.Change.{Amendment, Change}
use Rattle.changes.specs.Amend.{held_by, change_fault}
use Rattle.changes.specs.Updated.{amended, by_amendment}
use Rattle.changes.specs.Good.{GoodChange}
use Rattle.changes.proofs.AmendLaws.{AllAllowed, Obeys, obeys_told, changes_told}
use Rattle.changes.proofs.AmendLaws.AllAllowed.{allowed_none, allowed_more}
use Rattle.changes.proofs.AmendLaws.Obeys.{obeys_insert, obeys_edit}

-- ---- a name is held where something is held under it
pub holds_none : (held : List Item) (n : ℕ) → held_by held n ≡ none → holds item_name n held ≡ false
unfolding held_by holds
holds_none [] n e = refl
holds_none (t ∷ ts) n e =
    ⊎_elim (λ (is : eqb (item_name t) n ≡ true). let z : some t ≡ none = rw is at e in absurd (let y : ◌≡◌ {A = ℕ} 0 1 = cc in omega arith))
    (λ (out : eqb (item_name t) n ≡ false). rw out (holds_none ts n (rw out at e))) (true_or_false (eqb (item_name t) n))

pub holds_some : (held : List Item) (n : ℕ) (t : Item) → held_by held n ≡ some t → holds item_name n held ≡ true
unfolding held_by holds
holds_some [] n u e = absurd (let y : ◌≡◌ {A = ℕ} 0 1 = cc in omega arith)
holds_some (t ∷ ts) n u e =
    ⊎_elim (λ (is : eqb (item_name t) n ≡ true). rw is)
    (λ (out : eqb (item_name t) n ≡ false). rw out (holds_some ts n u (rw out at e))) (true_or_false (eqb (item_name t) n))

-- ---- "13 Target"
target_good_lem : {held : List Item} {a : Amendment} → Obeys held a → target_good by_amendment held a ≡ true
unfolding target_good
target_good_lem {held} {a} (obeys_insert i) = rw (eq-eqb a.ruin 1 i.ruin, holds_none held (item_name a.object) i.free)
target_good_lem {held} {a} (obeys_edit {t = t} i) = rw i.ruin (holds_some held (item_name a.object) t i.found)

pub all_fit : {held : List Item} {us : List Amendment} → AllAllowed held us → AllFit by_amendment held us
all_fit allowed_none = fit_none
all_fit {held} (allowed_more {a = a} e all) = fit_more {u = a} (target_good_lem (obeys_told held a e)) (all_fit all)

-- ---- an insert has its name, a modify keeps it
pub amended_name : (a : Amendment) (t : Item) → item_name (amended a t) ≡ item_name t
unfolding amended
amended_name a t = refl

pub amended_named : Named (rules_of by_amendment)
amended_named = record { keep = amended_name }

pub all_made : (us : List Amendment) → AllMade (rules_of by_amendment) us
all_made [] = made_none
all_made (a ∷ us) = made_more {u = a} refl (all_made us)

-- ---- the names of what is held rise
over_ordered : {aall nall low : ℕ} (n : ℕ) {ts : List Item} → n < low → Ordered aall nall low ts → Over item_name n ts
over_ordered n less ordered_none = over_none
over_ordered n less (ordered_more {t = t} le good more) = over_more {a = t} (omega arith) (over_ordered n (omega arith) more)

pub ordered_rising : {aall nall low : ℕ} {ts : List Item} → Ordered aall nall low ts → Rising item_name ts
ordered_rising ordered_none = rise_none
ordered_rising (ordered_more {t = t} le good more) = rise_more {a = t} (over_ordered (item_name t) (omega arith) more) (ordered_rising more)

pub chart_rising : {c : Chart} → GoodChart c → Rising item_name c.items
chart_rising g = ordered_rising g.items

-- so the records one after the other are the walk over names
pub chart_walked : {c : Chart} {u : Change} → GoodChart c → GoodChange u → (change_fault c u).code ≡ 0
    → result by_amendment c.items u.amendments ≡ walk.updated (rules_of by_amendment) c.items u.amendments
chart_walked {c} {u} g v fault =
    result_updated by_amendment amended_named c.items u.amendments (chart_rising g) (all_made u.amendments) v.names (all_fit (changes_told c u fault).1)
