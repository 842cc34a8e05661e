-- SGCC means one of the two lists of coordinates: the other stays as it is and can bring nothing, so one of the two is empty before and
-- after. Assumes nothing.
use Prim.Native.Nat.{ℕ}
use mathlib.Core.Bool.{true, false}
use mathlib.Core.List.{List, [], ◌∷◌}
use mathlib.Core.Logic.{◌⊎◌, inl, inr, ⊎_elim}
use mathlib.Core.Path.{◌≡◌, refl, ◌∙◌}
use native.Mathlib.Omega.{arith}
use lib.ListN.{length}
use borrow.Author.Tests.{eqb-true}
use Rattle.octets.proofs.Cases.{true_or_false}
use Rattle.table.specs.Table.{SG2D, SG3D}
use Rattle.fieldvalue.specs.Value.{is_attributes}
use Rattle.edits.specs.Lists.{Edit, list_allowed, list_edited, is_none, coordinates, control_of, lists_edited, allowed_at}

empty_length : {E : Type 0} (l : List E) → length l ≡ 0 → l ≡ []
empty_length [] h = refl
empty_length (x ∷ l) h = absurd (omega arith)

none_told : {E : Type 0} (l : List E) → is_none l ≡ true → l ≡ []
unfolding is_none
none_told [] h = refl
none_told (x ∷ l) h = absurd (let z : ◌≡◌ {A = ℕ} 0 1 = cc in omega arith)

module _ (u : Edit) (held : ℕ → List (List ℕ)) where
  -- the kind that SGCC doesn't mean stays as it is
  pub pairs_kept : coordinates held u.lists ≡ SG3D → lists_edited u held SG2D ≡ held SG2D
  unfolding lists_edited is_attributes control_of list_edited
  pairs_kept c = rw c

  pub soundings_kept : coordinates held u.lists ≡ SG2D → lists_edited u held SG3D ≡ held SG3D
  unfolding lists_edited is_attributes control_of list_edited
  soundings_kept c = rw c

  -- "Soundings and pairs can't replace or join each other"
  pub pairs_alone : is_none (held SG2D) ≡ false → allowed_at u held SG3D ≡ true → u.lists SG3D ≡ []
  unfolding allowed_at is_attributes control_of list_allowed coordinates
  pairs_alone is a = empty_length (u.lists SG3D) (eqb-true (length (u.lists SG3D)) 0 (rw is at a))

  pub soundings_alone : is_none (held SG2D) ≡ true → is_none (held SG3D) ≡ false → allowed_at u held SG2D ≡ true → u.lists SG2D ≡ []
  unfolding allowed_at is_attributes control_of list_allowed coordinates
  soundings_alone out is a = empty_length (u.lists SG2D) (eqb-true (length (u.lists SG2D)) 0 (rw (out, is) at a))

  -- one of the two is empty, before and after
  neither_held : held SG2D ≡ [] → held SG3D ≡ [] → (lists_edited u held SG2D ≡ []) ⊎ (lists_edited u held SG3D ≡ [])
  unfolding coordinates is_none
  neither_held p s =
      ⊎_elim (λ (t : is_none (u.lists SG3D) ≡ true). inr (soundings_kept (rw (p, s, t)) ∙ s))
      (λ (f : is_none (u.lists SG3D) ≡ false). inl (pairs_kept (rw (p, s, f)) ∙ p)) (true_or_false (is_none (u.lists SG3D)))

  pub either_stays : (held SG2D ≡ []) ⊎ (held SG3D ≡ []) → (lists_edited u held SG2D ≡ []) ⊎ (lists_edited u held SG3D ≡ [])
  unfolding coordinates is_none
  either_stays e =
      ⊎_elim
      (λ (p : held SG2D ≡ []).
      ⊎_elim (λ (t : is_none (held SG3D) ≡ true). neither_held p (none_told (held SG3D) t))
      (λ (f : is_none (held SG3D) ≡ false). inl (pairs_kept (rw (p, f)) ∙ p)) (true_or_false (is_none (held SG3D))))
      (λ (s : held SG3D ≡ []).
      ⊎_elim (λ (t : is_none (held SG2D) ≡ true). neither_held (none_told (held SG2D) t) s)
      (λ (f : is_none (held SG2D) ≡ false). inr (soundings_kept (rw f) ∙ s)) (true_or_false (is_none (held SG2D))))
      e
