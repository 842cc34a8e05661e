-- The code of one record: one law for each way through the code. Assumes nothing.
use Prim.Native.Nat.{ℕ, ◌+◌}
use mathlib.Core.Bool.{Bool, true, false, not}
use mathlib.Core.List.{List}
use mathlib.Core.Option.{none, some}
use mathlib.Core.Path.{◌≡◌, sym, ◌∙◌}
use native.Mathlib.Omega.{arith}
use lib.Dec.{eqb}
use borrow.Author.Tests.{eq-eqb, ne_eqb}
use Rattle.octets.proofs.Tests.{told_no, told_yes}
use Rattle.items.specs.Identity.{rcnm_at, ruin_at, version_at}
use Rattle.items.specs.Item.{Item}
use Rattle.edits.specs.InsertDelete.{insert_allowed, delete_allowed}
use Rattle.edits.specs.Lists.{lists_allowed}
use Rattle.changes.specs.Change.{amendment_at, edit_of}
use Rattle.changes.specs.Amend.{kinds_of, insert_code, identity_same, edit_allowed, modify_code, found_code}

-- ---- a number as it was read
is_not : (r n m : ℕ) → r ≡ n → (r ≡ m → ⊥) → eqb n m ≡ false
is_not r n m is ne = ne_eqb n m (λ (e : n ≡ m). ne (is ∙ e))

is_so : (r n m : ℕ) → r ≡ n → r ≡ m → eqb n m ≡ true
is_so r n m is e = eq-eqb n m (sym is ∙ e)

-- ---- of a name that isn't held: r is RUIN, v RVER, q whether the insert is allowed
module _ (s : List ℕ) (at r : ℕ) (ruin : r ≡ ruin_at s at) where
  pub missing_target : (r ≡ 1 → ⊥) → 13 ≡ found_code (amendment_at s at) none
  unfolding found_code
  missing_target ne = rw (is_not r (ruin_at s at) 1 ruin ne)

  module _ (inserts : r ≡ 1) (v : ℕ) (version : v ≡ version_at s at) where
    pub missing_version : (v ≡ 1 → ⊥) → 14 ≡ found_code (amendment_at s at) none
    unfolding found_code insert_code
    missing_version ne = rw (is_so r (ruin_at s at) 1 ruin inserts, is_not v (version_at s at) 1 version ne)

    module _ (new : v ≡ 1) (q : Bool) (told : q ≡ insert_allowed (kinds_of (rcnm_at s at)) (edit_of (amendment_at s at))) where
      pub missing_edit : not q ≡ true → 16 ≡ found_code (amendment_at s at) none
      unfolding found_code insert_code
      missing_edit t = rw (is_so r (ruin_at s at) 1 ruin inserts, is_so v (version_at s at) 1 version new, told_no q _ told t)

      pub missing_fine : not q ≡ false → 0 ≡ found_code (amendment_at s at) none
      unfolding found_code insert_code
      missing_fine t = rw (is_so r (ruin_at s at) 1 ruin inserts, is_so v (version_at s at) 1 version new, told_yes q _ told t)

-- ---- of a name that is: r is RUIN, v RVER, w the held RVER, t what is held
module _ (s : List ℕ) (at r : ℕ) (ruin : r ≡ ruin_at s at) (t : Item) where
  pub held_target : r ≡ 1 → 13 ≡ found_code (amendment_at s at) (some t)
  unfolding found_code
  held_target e = rw (is_so r (ruin_at s at) 1 ruin e)

  module _ (other : r ≡ 1 → ⊥) (v w : ℕ) (version : v ≡ version_at s at) (old : w ≡ t.version) where
    pub held_version : (v ≡ w + 1 → ⊥) → 14 ≡ found_code (amendment_at s at) (some t)
    unfolding found_code modify_code
    held_version ne =
        let no : eqb (version_at s at) (t.version + 1) ≡ false = ne_eqb _ _ (λ (e : version_at s at ≡ t.version + 1). ne (omega arith)) in
        rw (is_not r (ruin_at s at) 1 ruin other, no)

    module _ (next : v ≡ w + 1) (q : Bool) (told : q ≡ identity_same (amendment_at s at).object t) where
      follows : eqb (version_at s at) (t.version + 1) ≡ true
      follows = eq-eqb (version_at s at) (t.version + 1) (omega arith)

      pub held_identity : not q ≡ true → 15 ≡ found_code (amendment_at s at) (some t)
      unfolding found_code modify_code
      held_identity n = rw (is_not r (ruin_at s at) 1 ruin other, follows, told_no q _ told n)

      module _ (same : not q ≡ false) (p : Bool) (edit : p ≡ edit_allowed (amendment_at s at) t) where
        pub held_edit : not p ≡ true → 16 ≡ found_code (amendment_at s at) (some t)
        unfolding found_code modify_code
        held_edit n = rw (is_not r (ruin_at s at) 1 ruin other, follows, told_yes q _ told same, told_no p _ edit n)

        pub held_fine : not p ≡ false → 0 ≡ found_code (amendment_at s at) (some t)
        unfolding found_code modify_code
        held_fine n = rw (is_not r (ruin_at s at) 1 ruin other, follows, told_yes q _ told same, told_yes p _ edit n)

-- ---- the edit of a delete, and that of a modify
module _ (s : List ℕ) (at r : ℕ) (ruin : r ≡ ruin_at s at) (t : Item) (p : Bool) where
  pub edit_delete : r ≡ 2 → rcnm_at s at ≡ t.rcnm → p ≡ delete_allowed (kinds_of (rcnm_at s at)) (edit_of (amendment_at s at)) → p ≡ edit_allowed (amendment_at s at) t
  unfolding edit_allowed
  edit_delete e class told = rw (is_so r (ruin_at s at) 2 ruin e, ← class) told

  pub edit_modify : (r ≡ 2 → ⊥) → p ≡ lists_allowed (kinds_of t.rcnm) (edit_of (amendment_at s at)) t.lists → p ≡ edit_allowed (amendment_at s at) t
  unfolding edit_allowed
  edit_modify ne told = rw (is_not r (ruin_at s at) 2 ruin ne) told
