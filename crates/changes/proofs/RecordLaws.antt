-- What a record of a readable update brings: its object, and its controls. Assumes nothing.
use Prim.Native.Nat.{ℕ, ◌≤◌, ◌<◌}
use mathlib.Core.Bool.{true}
use mathlib.Core.List.{List}
use mathlib.Core.Logic.{◌⊎◌, inl, inr, ⊎_elim}
use mathlib.Core.Path.{◌≡◌, sym, ap, ◌∙◌}
use native.Mathlib.Omega.{arith}
use lib.Dec.{leb}
use borrow.Author.Tests.{leb-true}
use Rattle.octets.specs.Number.{byte_at}
use Rattle.octets.proofs.Cases.{eq_or_ne}
use Rattle.octets.proofs.Tests.{both}
use Rattle.table.specs.Table.{VRID, FRID}
use Rattle.values.specs.Rule.{within, ruin_good}
use Rattle.layout.specs.Layout.{opens}
use Rattle.layout.proofs.KindLaws.{kind_few, opens_item, opens_feature}
use Rattle.items.specs.Identity.{ruin_at}
use Rattle.records.specs.Premises.{pieces_at}
use Rattle.itemfields.specs.Views.{kind_in}
use Rattle.itemfields.proofs.ReadLaws.{Opened, vector_read, feature_read}
use Rattle.changes.specs.Change.{amendment_at}
use Rattle.changes.specs.Good.{brought_vector, brought_feature, GoodAmendment}

-- ---- the object
ruin_known : (r : ℕ) → ruin_good true r ≡ true → (r ≡ 1) ⊎ ((r ≡ 2) ⊎ (r ≡ 3))
unfolding ruin_good within
ruin_known r h =
    let p = both (leb 1 r) (leb r 3) h in
    let low = leb-true 1 r p.0 in
    let high = leb-true r 3 p.1 in
    ⊎_elim (λ (a : r ≡ 1). inl a) (λ (a : r ≡ 1 → ⊥). inr (⊎_elim (λ (b : r ≡ 2). inl b) (λ (b : r ≡ 2 → ⊥). inr (omega arith)) (eq_or_ne r 2))) (eq_or_ne r 1)

module _ (stage : ℕ) (marks : List ℕ) (aall nall : ℕ) (s : List ℕ) (at : ℕ) (small : (i : ℕ) → byte_at s i < 256) (o : Opened true stage marks aall nall (pieces_at s at)) where
  of_vector : kind_in o.two ≡ VRID → GoodAmendment aall nall (amendment_at s at)
  of_vector vrid =
      let v = vector_read true stage marks aall nall s at small o vrid in
      record { known = ruin_known (ruin_at s at) v.ruin_is_good; body = brought_vector v.item }

  of_feature_lem : kind_in o.two ≡ FRID → GoodAmendment aall nall (amendment_at s at)
  of_feature_lem frid =
      let f = feature_read true stage marks aall nall s at small o frid in
      record { known = ruin_known (ruin_at s at) f.ruin_is_good; body = brought_feature f.item }

  pub opened_good : 2 ≤ stage → stage ≤ 3 → GoodAmendment aall nall (amendment_at s at)
  opened_good low high =
      let k = kind_in o.two in
      let few = kind_few o.two.named in
      ⊎_elim (λ (e : stage ≡ 2).
      let opening : opens 2 k ≡ true = ap (λ (i : ℕ). opens i k) (sym e) ∙ o.opening in
      ⊎_elim (λ (v : k ≡ VRID). of_vector v) (λ (f : k ≡ FRID). of_feature_lem f) (opens_item k few opening))
      (λ (e : stage ≡ 2 → ⊥).
      let three : stage ≡ 3 = omega arith in
      let opening : opens 3 k ≡ true = ap (λ (i : ℕ). opens i k) (sym three) ∙ o.opening in
      of_feature_lem (opens_feature k few opening))
      (eq_or_ne stage 2)
