-- What an update doesn't name stays as it is. Assumes nothing.
use Prim.Native.Nat.{ℕ, ◌≤◌, ◌<◌}
use mathlib.Core.Bool.{Bool, true, false, cond}
use mathlib.Core.List.{List, [], ◌∷◌}
use mathlib.Core.Logic.{◌⊎◌, ⊎_elim}
use mathlib.Core.Path.{◌≡◌, refl}
use native.Mathlib.Omega.{arith}
use lib.Dec.{eqb}
use borrow.Author.Tests.{eq-eqb}
use Rattle.octets.proofs.Cases.{true_or_false}
use Rattle.merge.specs.Update.{Change, without, result, unnamed}
use Rattle.merge.specs.Updated.{Rules, worked, updated, Rising, Named, AllMade, made_none, made_more, Apart, rules_of, AllFit}
use Rattle.merge.proofs.UpdatedLaws.{lt_or_le, worked_past, worked_new, worked_gone, worked_edit}
use Rattle.merge.proofs.UpdateLaws.{result_updated}

-- ---- names that are taken away, in any order
without_pick : {A : Type 0} (key : A → ℕ) (n k : ℕ) (a : A) (l : List A) (x y : Bool) → eqb (key a) n ≡ x → eqb (key a) k ≡ y
    → without key n (without key k l) ≡ without key k (without key n l)
    → without key n (cond y (without key k l) (a ∷ without key k l)) ≡ without key k (cond x (without key n l) (a ∷ without key n l))
unfolding without
without_pick key n k a l true true e f rest = rest
without_pick key n k a l true false e f rest = rw (e, rest)
without_pick key n k a l false true e f rest = rw (f, rest)
without_pick key n k a l false false e f rest = rw (e, f, rest)

without_comm : {A : Type 0} (key : A → ℕ) (n k : ℕ) (l : List A) → without key n (without key k l) ≡ without key k (without key n l)
unfolding without
without_comm key n k [] = refl
without_comm key n k (a ∷ l) = without_pick key n k a l (eqb (key a) n) (eqb (key a) k) refl refl (without_comm key n k l)

module _ {A U : Type 0} (by : Rules A U) (named : Named by) (u : U) (e : by.key (by.made u) ≡ by.name u) where
  unnamed_by : (a : A) (l : List A) → without by.key (by.name u) (worked by u l) ≡ without by.key (by.name u) l
      → (by.key a < by.name u) ⊎ (by.name u ≤ by.key a) → (by.name u < by.key a) ⊎ (by.key a ≤ by.name u) → (by.gone u ≡ true) ⊎ (by.gone u ≡ false)
      → without by.key (by.name u) (worked by u (a ∷ l)) ≡ without by.key (by.name u) (a ∷ l)
  unfolding without
  unnamed_by a l rest low high gone =
      ⊎_elim (λ (h : by.key a < by.name u). rw (worked_past by u a l h, rest))
      (λ (h : by.name u ≤ by.key a).
      ⊎_elim (λ (k : by.name u < by.key a). rw (worked_new by u a l k, eq-eqb (by.key (by.made u)) (by.name u) e))
      (λ (k : by.key a ≤ by.name u).
      let same : by.key a ≡ by.name u = omega arith in
      ⊎_elim (λ (g : by.gone u ≡ true). rw (worked_gone by u a l same g, eq-eqb (by.key a) (by.name u) same))
      (λ (g : by.gone u ≡ false). rw (worked_edit by u a l same g, named.keep u a, eq-eqb (by.key a) (by.name u) same)) gone) high) low

  -- a change touches nothing of another name
  pub worked_unnamed : (l : List A) → without by.key (by.name u) (worked by u l) ≡ without by.key (by.name u) l
  unfolding without worked
  worked_unnamed [] = rw (eq-eqb (by.key (by.made u)) (by.name u) e)
  worked_unnamed (a ∷ l) = unnamed_by a l (worked_unnamed l) (lt_or_le (by.key a) (by.name u)) (lt_or_le (by.name u) (by.key a)) (true_or_false (by.gone u))

unnamed_without : {A U : Type 0} (by : Change A U) (us : List U) (n : ℕ) (l : List A) → unnamed by us (without by.key n l) ≡ without by.key n (unnamed by us l)
unfolding unnamed
unnamed_without by [] n l = refl
unnamed_without by (u ∷ us) n l = rw (without_comm by.key (by.name u) n l) (unnamed_without by us n (without by.key (by.name u) l))

unnamed_updated : {A U : Type 0} (by : Change A U) (held : List A) (us : List U) → Named (rules_of by) → AllMade (rules_of by) us
    → unnamed by us (updated (rules_of by) held us) ≡ unnamed by us held
unfolding unnamed updated
unnamed_updated by held [] named made_none = refl
unnamed_updated by held (u ∷ us) named (made_more e made) =
    rw (
      worked_unnamed (rules_of by) named u e (updated (rules_of by) held us),
      unnamed_without by us (by.name u) (updated (rules_of by) held us),
      unnamed_updated by held us named made,
      unnamed_without by us (by.name u) held,
    )

-- what the update doesn't name is in the result as it was, in the same order, and nothing else is there that it doesn't name
pub unnamed_kept : {A U : Type 0} (by : Change A U) (held : List A) (us : List U) → Named (rules_of by) → Rising by.key held
    → AllMade (rules_of by) us → Apart by.name us → AllFit by held us
    → unnamed by us (result by held us) ≡ unnamed by us held
unnamed_kept by held us named so made apart fit = rw (result_updated by named held us so made apart fit) (unnamed_updated by held us named made)
