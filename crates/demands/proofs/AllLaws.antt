-- A rule that each of a list keeps is kept by its parts, and by the list after an edit. Assumes nothing.
use Prim.Native.Nat.{ℕ, zero, suc, ◌-◌, ◌+◌}
use mathlib.Core.Bool.{Bool, true, false, cond}
use mathlib.Core.List.{List, ◌++◌, flatten}
use mathlib.Core.Option.{Option, none, some}
use lib.ListN.{take, drop}
use lib.Dec.{ltb, eqb}
use Rattle.merge.specs.Update.{placed, without, changed}
use Rattle.edits.specs.Control.{Control, gone, edited, edited_by}
use Rattle.edits.specs.AttributeEdit.{change, changes}
use Rattle.edits.specs.Lists.{list_edited}
use Rattle.changes.specs.Rules.{All}
use Rattle.changes.specs.Rules.All.{all_none, all_more}

module _ {E : Type 0} {rule : E → Type 0} where
  pub all_join : {a b : List E} → All rule a → All rule b → All rule (a ++ b)
  all_join all_none q = q
  all_join (all_more h p) q = all_more h (all_join p q)

  pub all_take : (n : ℕ) {l : List E} → All rule l → All rule (take n l)
  all_take zero p = all_none
  all_take (suc n) all_none = all_none
  all_take (suc n) (all_more h p) = all_more h (all_take n p)

  pub all_drop : (n : ℕ) {l : List E} → All rule l → All rule (drop n l)
  all_drop zero p = p
  all_drop (suc n) all_none = all_none
  all_drop (suc n) (all_more h p) = all_drop n p

  pub all_flatten : {ls : List (List E)} → All (All rule) ls → All rule (flatten ls)
  unfolding flatten
  all_flatten all_none = all_none
  all_flatten (all_more p ps) = all_join p (all_flatten ps)

  -- one of two lists
  pub all_cond : (b : Bool) {x y : List E} → All rule x → All rule y → All rule (cond b x y)
  all_cond true p q = p
  all_cond false p q = q

  -- ---- the edits of one record's lists
  change_all : (label : E → ℕ) (removes : E → Bool) (a : E) {l : List E} → rule a → All rule l → All rule (change label removes a l)
  unfolding change
  change_all label removes a h all_none = all_cond (removes a) all_none (all_more h all_none)
  change_all label removes a h (all_more {e = e} g p) =
      all_cond (eqb (label e) (label a)) (all_cond (removes a) p (all_more h p)) (all_more g (change_all label removes a h p))

  pub changes_all : (label : E → ℕ) (removes : E → Bool) {held brought : List E} → All rule held → All rule brought → All rule (changes label removes held brought)
  unfolding changes
  changes_all label removes p all_none = p
  changes_all label removes {held = held} p (all_more {e = a} h q) = changes_all label removes {held = change label removes a held} (change_all label removes a h p) q

  pub edited_all : (o : Option Control) {held brought : List E} → All rule held → All rule brought → All rule (list_edited o held brought)
  unfolding list_edited edited_by edited
  edited_all none p q = p
  edited_all (some c) p q = all_join (all_take (c.index - 1) p) (all_join q (all_drop (c.index - 1 + gone c) p))

  -- ---- the edits of what is held
  module _ (key : E → ℕ) where
    pub placed_all : (new : E) {l : List E} → rule new → All rule l → All rule (placed key new l)
    unfolding placed
    placed_all new h all_none = all_more h all_none
    placed_all new h (all_more {e = e} g p) = all_cond (ltb (key e) (key new)) (all_more g (placed_all new h p)) (all_more h (all_more g p))

    pub without_all : (n : ℕ) {l : List E} → All rule l → All rule (without key n l)
    unfolding without
    without_all n all_none = all_none
    without_all n (all_more {e = e} g p) = all_cond (eqb (key e) n) (without_all n p) (all_more g (without_all n p))

    pub changed_all : (n : ℕ) (f : E → E) → ((e : E) → rule e → rule (f e)) → {l : List E} → All rule l → All rule (changed key n f l)
    unfolding changed
    changed_all n f keep all_none = all_none
    changed_all n f keep (all_more {e = e} g p) = all_more (pick (eqb (key e) n)) (changed_all n f keep p)
      where
        pick : (b : Bool) → rule (cond b (f e) e)
        pick true = keep e g
        pick false = g
