-- What an update does to the objects of a chart: those that it names become what its records say, all others stay, in their order.
-- Assumes nothing.
use Prim.Native.Nat.{ℕ}
use mathlib.Core.Bool.{Bool, true, false, cond}
use mathlib.Core.List.{List, [], ◌∷◌}
use mathlib.Core.Logic.{◌⊎◌, ⊎_elim}
use mathlib.Core.Option.{none, some}
use mathlib.Core.Path.{◌≡◌, refl, sym, ap, ◌∙◌}
use native.Mathlib.Omega.{arith}
use lib.Dec.{ltb, eqb}
use borrow.Author.Tests.{eqb-false, eq-eqb, ne_eqb}
use Rattle.octets.proofs.Cases.{true_or_false}
use Rattle.items.specs.Item.{Item}
use Rattle.held.specs.Chart.{Chart}
use Rattle.merge.specs.Updated.{rules_of, Named, AllMade, Differs, Apart}
use Rattle.merge.specs.Updated.AllMade.{made_none, made_more}
use Rattle.merge.specs.Updated.Differs.{diff_none, diff_more}
use Rattle.merge.specs.Updated.Apart.{apart_none, apart_more}
use Rattle.merge.specs.Update as merge
use Rattle.merge.specs.Update.{placed, without, changed, obeyed, result, unnamed}
use Rattle.changes.specs.Change.{Amendment, Change}
use Rattle.changes.specs.Amend.{held_by, change_fault}
use Rattle.changes.specs.Updated.{amended, by_amendment, updated}
use Rattle.changes.specs.Rules.{All, Done}
use Rattle.changes.specs.Rules.All.{all_none, all_more}
use Rattle.changes.specs.Rules.Done.{inserted, deleted, modified}
use Rattle.changes.specs.Good.{AllGood, GoodChange}
use Rattle.changes.specs.Good.AllGood.{good_none, good_more}
use Rattle.changes.proofs.AmendLaws.{AllAllowed, Inserts, Edits, Obeys, obeys_told, changes_told}
use Rattle.changes.proofs.AmendLaws.AllAllowed.{allowed_none, allowed_more}
use Rattle.changes.proofs.AmendLaws.Obeys.{obeys_insert, obeys_edit}
use Rattle.changes.proofs.FitLaws.{amended_named, all_made}
use Rattle.changes.proofs.HeldLaws.{name_of, placed_held, without_held, changed_held, obeyed_other, result_other, allowed_obeyed}

-- ---- what has other names than n, through a record that names n
module _ {A : Type 0} (key : A → ℕ) where
  without_placed : (new : A) (l : List A) → without key (key new) (placed key new l) ≡ without key (key new) l
  unfolding without placed
  without_placed new [] = rw (eq-eqb (key new) (key new) refl)
  without_placed new (a ∷ l) =
      ⊎_elim (λ (h : ltb (key a) (key new) ≡ true). rw (h, without_placed new l))
      (λ (h : ltb (key a) (key new) ≡ false). rw (h, eq-eqb (key new) (key new) refl)) (true_or_false (ltb (key a) (key new)))

  without_twice : (n : ℕ) (l : List A) → without key n (without key n l) ≡ without key n l
  unfolding without
  without_twice n [] = refl
  without_twice n (a ∷ l) =
      ⊎_elim (λ (h : eqb (key a) n ≡ true). rw (h, without_twice n l))
      (λ (h : eqb (key a) n ≡ false). rw (h, h, without_twice n l)) (true_or_false (eqb (key a) n))

  without_changed : (n : ℕ) (f : A → A) (l : List A) → ((a : A) → key (f a) ≡ key a) → without key n (changed key n f l) ≡ without key n l
  unfolding without changed
  without_changed n f [] keep = refl
  without_changed n f (a ∷ l) keep =
      ⊎_elim (λ (h : eqb (key a) n ≡ true). rw (h, keep a, h, without_changed n f l keep))
      (λ (h : eqb (key a) n ≡ false). rw (h, h, without_changed n f l keep)) (true_or_false (eqb (key a) n))

  -- names that are taken away, in any order
  without_pick : (n k : ℕ) (a : A) (l : List A) (x y : Bool) → eqb (key a) n ≡ x → eqb (key a) k ≡ y
      → without key n (without key k l) ≡ without key k (without key n l)
      → without key n (cond y (without key k l) (a ∷ without key k l)) ≡ without key k (cond x (without key n l) (a ∷ without key n l))
  unfolding without
  without_pick n k a l true true e f rest = rest
  without_pick n k a l true false e f rest = rw (e, rest)
  without_pick n k a l false true e f rest = rw (f, rest)
  without_pick n k a l false false e f rest = rw (e, f, rest)

  without_comm : (n k : ℕ) (l : List A) → without key n (without key k l) ≡ without key k (without key n l)
  unfolding without
  without_comm n k [] = refl
  without_comm n k (a ∷ l) = without_pick n k a l (eqb (key a) n) (eqb (key a) k) refl refl (without_comm n k l)

-- ---- the same of one record and of all
module _ {A U : Type 0} (by : merge.Change A U) (named : Named (rules_of by)) where
  obeyed_without : (u : U) (l : List A) → by.key (by.made u) ≡ by.name u → without by.key (by.name u) (obeyed by u l) ≡ without by.key (by.name u) l
  unfolding obeyed
  obeyed_without u l e =
      ⊎_elim (λ (i : eqb (by.ruin u) 1 ≡ true). rw (i, ← e) (without_placed by.key (by.made u) l))
      (λ (i : eqb (by.ruin u) 1 ≡ false).
      ⊎_elim (λ (d : eqb (by.ruin u) 2 ≡ true). rw (i, d) (without_twice by.key (by.name u) l))
      (λ (d : eqb (by.ruin u) 2 ≡ false). rw (i, d) (without_changed by.key (by.name u) (by.edit u) l (named.keep u))) (true_or_false (eqb (by.ruin u) 2)))
      (true_or_false (eqb (by.ruin u) 1))

  unnamed_without : (us : List U) (n : ℕ) (l : List A) → unnamed by us (without by.key n l) ≡ without by.key n (unnamed by us l)
  unfolding unnamed
  unnamed_without [] n l = refl
  unnamed_without (u ∷ us) n l = rw (without_comm by.key (by.name u) n l) (unnamed_without us n (without by.key (by.name u) l))

  pub result_unnamed : (held : List A) (us : List U) → AllMade (rules_of by) us → unnamed by us (result by held us) ≡ unnamed by us held
  unfolding unnamed result
  result_unnamed held [] made_none = refl
  result_unnamed held (u ∷ us) (made_more e made) =
      unnamed_without us (by.name u) (result by (obeyed by u held) us)
      ∙ ap (without by.key (by.name u)) (result_unnamed (obeyed by u held) us made)
      ∙ sym (unnamed_without us (by.name u) (obeyed by u held))
      ∙ ap (unnamed by us) (obeyed_without u held e)

-- the objects that no record names are in the result as they were, in the same order, and nothing else is there that none names
pub unnamed_kept : (c : Chart) (u : Change) → unnamed by_amendment u.amendments (updated c u).items ≡ unnamed by_amendment u.amendments c.items
unfolding updated
unnamed_kept c u = result_unnamed by_amendment amended_named c.items u.amendments (all_made u.amendments)

-- what is held under a name that no record has
pub other_kept : (c : Chart) (u : Change) (n : ℕ) → Differs name_of n u.amendments → held_by (updated c u).items n ≡ held_by c.items n
unfolding updated
other_kept c u n d = result_other n c.items d

-- ---- what a record names
insert_obeyed : (a : Amendment) (l : List Item) → Inserts l a → held_by (obeyed by_amendment a l) (name_of a) ≡ some a.object
unfolding obeyed
insert_obeyed a l i = rw (eq-eqb a.ruin 1 i.ruin) (placed_held a.object l)

delete_obeyed : (a : Amendment) (l : List Item) → a.ruin ≡ 2 → held_by (obeyed by_amendment a l) (name_of a) ≡ none
unfolding obeyed
delete_obeyed a l e = rw e (without_held (name_of a) l)

modify_obeyed : (a : Amendment) {t : Item} (l : List Item) → a.ruin ≡ 3 → Edits l a t → held_by (obeyed by_amendment a l) (name_of a) ≡ some (amended a t)
unfolding obeyed
modify_obeyed a {t} l e i = rw (ne_eqb a.ruin 1 (λ z. omega arith), ne_eqb a.ruin 2 (λ z. omega arith)) (changed_held a (name_of a) l t i.found)

-- the records behind it have other names
module _ (a : Amendment) (l : List Item) {us : List Amendment} (d : Differs name_of (name_of a) us) where
  here_done : (a.ruin ≡ 1) ⊎ ((a.ruin ≡ 2) ⊎ (a.ruin ≡ 3)) → Obeys l a → Done l (result by_amendment (obeyed by_amendment a l) us) a
  here_done known (obeys_insert i) = inserted i.ruin (result_other (name_of a) (obeyed by_amendment a l) d ∙ insert_obeyed a l i)
  here_done known (obeys_edit {t = t} i) =
      ⊎_elim (λ (e : a.ruin ≡ 1). absurd (eqb-false a.ruin 1 i.ruin e))
      (λ (o : (a.ruin ≡ 2) ⊎ (a.ruin ≡ 3)).
      ⊎_elim (λ (e : a.ruin ≡ 2). deleted e (result_other (name_of a) (obeyed by_amendment a l) d ∙ delete_obeyed a l e))
      (λ (e : a.ruin ≡ 3). modified e i.found (result_other (name_of a) (obeyed by_amendment a l) d ∙ modify_obeyed a l e i)) o) known

-- a record in front, of another name, changes nothing of what is held
done_before : (a b : Amendment) (l after : List Item) → (name_of a ≡ name_of b → ⊥) → Done (obeyed by_amendment a l) after b → Done l after b
done_before a b l after ne (inserted e h) = inserted e h
done_before a b l after ne (deleted e h) = deleted e h
done_before a b l after ne (modified e was h) = modified e (rw (obeyed_other a (name_of b) l ne) at was) h

rest_done : (a : Amendment) (l after : List Item) {us : List Amendment} → Differs name_of (name_of a) us → All (Done (obeyed by_amendment a l) after) us → All (Done l after) us
rest_done a l after diff_none all_none = all_none
rest_done a l after (diff_more {u = b} ne rest) (all_more h all) = all_more (done_before a b l after ne h) (rest_done a l after rest all)

pub result_done : {aall nall : ℕ} (l : List Item) {us : List Amendment} → AllGood aall nall us → Apart name_of us → AllAllowed l us
    → All (Done l (result by_amendment l us)) us
unfolding result
result_done l good_none apart_none allowed_none = all_none
result_done l (good_more {a = a} {more = us} good goods) (apart_more d rest) (allowed_more e allowed) =
    all_more (here_done a l d good.known (obeys_told l a e))
    (rest_done a l (result by_amendment (obeyed by_amendment a l) us) d (result_done (obeyed by_amendment a l) goods rest (allowed_obeyed a d allowed)))

-- each record of an update without a fault is done
pub named_done : (c : Chart) {u : Change} → GoodChange u → (change_fault c u).code ≡ 0 → All (Done c.items (updated c u).items) u.amendments
unfolding updated
named_done c {u} v fault = result_done c.items v.records v.names (changes_told c u fault).1
