-- The walks over a list of attributes and over a list of FFPT, turn by turn: whole and without fault so far. Assumes nothing.
use Prim.Native.Nat.{ℕ, ◌+◌, ◌-◌, ◌≤◌, ◌<◌}
use mathlib.Core.Bool.{Bool, true, false, not}
use mathlib.Core.List.{List}
use mathlib.Core.Path.{◌≡◌, refl, sym}
use native.Mathlib.Omega.{arith}
use lib.ListN.{length, take, drop, get_or, set, length-drop}
use lib.Dec.{eqb}
use borrow.Author.Tests.{eqb-false}
use Rattle.entries.proofs.EntryLaws.{entry_short}
use Rattle.attributes.specs.Attributes.{attribute, pointer, label_of}
use Rattle.attributes.proofs.AttributesLaws.{Walked, walked_start, walked_on, walked_end}
use Rattle.attributes.proofs.FfptLaws as ffpt
use Rattle.values.proofs.FaultLaws.{told_none}
use Rattle.fieldfine.specs.Told.{content_in, AttributesTold, PointersTold}
use Rattle.fieldfine.specs.Text.{Ended, AttributeTold, PointerTold}
use Rattle.fieldfine.proofs.TextLaws.{content_long}
use Rattle.fieldfine.proofs.FullLaws.{Filling, filling_start, filling_on, filling_end}

never : {A : Type 0} → false ≡ true → A
never e = absurd (let z : ◌≡◌ {A = ℕ} 0 1 = cc in omega arith)

-- a test that a place isn't 0
not_zero : (at : ℕ) → not (eqb at 0) ≡ true → at ≡ 0 → ⊥
not_zero at h = eqb-false at 0 (off (eqb at 0) h)
  where
    off : (b : Bool) → not b ≡ true → b ≡ false
    off true e = never e
    off false e = refl

-- ---- attributes
pub attributes_no : {update high : Bool} {c : List ℕ} {stamp : ℕ} {before after : List ℕ} → AttributesTold update high c stamp before after false
attributes_no = record { full = λ e. never e; judged = λ e. never e }

-- where the walk stands
pub record Attributing (update high : Bool) (c : List ℕ) (stamp : ℕ) (before t : List ℕ) (at : ℕ) : Type 0 where
  pub filling : Filling attribute c at
  pub walked : Walked update high c stamp before t at

pub attributing_start : (update high : Bool) (c : List ℕ) (stamp : ℕ) (t : List ℕ) → Attributing update high c stamp t t 0
attributing_start update high c stamp t = record { filling = filling_start attribute c; walked = walked_start update high c stamp t }

pub attributing_on : {update high : Bool} {c : List ℕ} {stamp : ℕ} {before t : List ℕ} {at : ℕ} (n label : ℕ) → Attributing update high c stamp before t at
    → AttributeTold update high c at n → (n ≡ 0 → ⊥) → label ≡ label_of (take n (drop at c)) → label < 65536 → (get_or t label 0 ≡ stamp → ⊥) → length t ≡ 65536
    → Attributing update high c stamp before (set t label stamp) (at + n)
attributing_on n label so told some read small fresh long =
    let good = told.told some in
    record {
      filling = filling_on n so.filling good.size some;
      walked = walked_on so.walked n good.size some good.fits label read small fresh long true (sym good.value) refl;
    }

pub attribute_fits : {update high : Bool} {d : List ℕ} {at : ℕ} (n : ℕ) → Ended d → AttributeTold update high (content_in d) at n → (n ≡ 0 → ⊥) → at + n ≤ length d - 1
attribute_fits n e told some = let long = content_long e in let fits = (told.told some).fits in omega arith

pub attribute_some : {update high : Bool} {c : List ℕ} {at : ℕ} (n : ℕ) → AttributeTold update high c at n → (n ≡ 0 → ⊥) → 3 ≤ n
attribute_some n told some = (told.told some).long

pub attributing_end : {update high : Bool} {d : List ℕ} {stamp : ℕ} {before t : List ℕ} (at : ℕ) → Ended d → Attributing update high (content_in d) stamp before t at
    → length d - 1 ≤ at → at ≤ length d - 1
    → AttributesTold update high (content_in d) stamp before t (not (eqb at 0))
attributing_end {d = d} at e so past low =
    let long = content_long e in
    let c = content_in d in
    record {
      full = λ h. filling_end at so.filling (omega arith) (omega arith) (not_zero at h);
      judged = λ h. walked_end so.walked 0 (sym (entry_short attribute (drop at c) (let x = length-drop at c in omega arith))) refl;
    }

-- ---- FFPT
pub pointers_no : {c : List ℕ} → PointersTold c false
pointers_no = record { full = λ e. never e; judged = λ e. never e }

pub record Pointing (c : List ℕ) (at : ℕ) : Type 0 where
  pub filling : Filling pointer c at
  pub walked : ffpt.Walked c at

pub pointing_start : (c : List ℕ) → Pointing c 0
pointing_start c = record { filling = filling_start pointer c; walked = ffpt.walked_start c }

pub pointing_on : {c : List ℕ} {at : ℕ} (n : ℕ) → Pointing c at → PointerTold c at n → (n ≡ 0 → ⊥) → Pointing c (at + n)
pointing_on n so told some =
    let good = told.told some in
    record {
      filling = filling_on n so.filling good.size some;
      walked = ffpt.walked_on so.walked n good.size some good.fits true (sym good.rind) refl true (sym good.comment) refl;
    }

pub pointer_fits : {d : List ℕ} {at : ℕ} (n : ℕ) → Ended d → PointerTold (content_in d) at n → (n ≡ 0 → ⊥) → at + n ≤ length d - 1
pointer_fits n e told some = let long = content_long e in let fits = (told.told some).fits in omega arith

pub pointing_end : {d : List ℕ} (at : ℕ) → Ended d → Pointing (content_in d) at → length d - 1 ≤ at → at ≤ length d - 1 → PointersTold (content_in d) (not (eqb at 0))
pointing_end {d} at e so past low =
    let long = content_long e in
    let c = content_in d in
    record {
      full = λ h. filling_end at so.filling (omega arith) (omega arith) (not_zero at h);
      judged = λ h. told_none _ (ffpt.walked_end so.walked 0 (sym (entry_short pointer (drop at c) (let x = length-drop at c in omega arith))) refl) refl;
    }
