-- A leader that is that of the held form: what the tests of its bytes tell, and that its record is copied whole. Assumes nothing.
use Prim.Native.Nat.{ℕ, ◌+◌, ◌-◌, ◌≤◌, ◌<◌}
use mathlib.Core.Bool.{Bool, true, false, not}
use mathlib.Core.List.{List, [], ◌∷◌, ◌++◌}
use mathlib.Core.Path.{◌≡◌, refl, sym, ap, ◌∙◌}
use native.Mathlib.Omega.{arith}
use lib.ListN.{length, take, drop}
use lib.Dec.{eqb}
use borrow.Author.Tests.{eqb-true, not-false}
use Rattle.octets.specs.Number.{byte_at, bytes_of}
use Rattle.octets.specs.Digits.{none}
use Rattle.octets.specs.Premises.{Number, Reads, Sure}
use Rattle.octets.specs.Area.{Wrote}
use Rattle.octets.proofs.AreaLaws.{wrote_as}
use Rattle.iso8211.specs.Leader.{size_at, base_at}
use Rattle.iso8211.specs.Field.{Headed}
use Rattle.iso8211.proofs.DirectoryLaws.{base_sure}
use Rattle.items.specs.Premises.{LaidOut}
use Rattle.itemfields.proofs.BytesLaws.{num_bytes}
use Rattle.asheld.specs.Held.{Same, LeadTold, BackTold, FrontTold, long_of, base_of, front_of, whole_of, held_bytes}
use Rattle.asheld.proofs.PartLaws.{join}
use Rattle.asheld.proofs.DigitLaws.{digits_back}
use Rattle.asheld.proofs.WriteLaws.{held_fits, held_put}

never : {A : Type 0} → false ≡ true → A
never e = absurd (let z : ◌≡◌ {A = ℕ} 0 1 = cc in omega arith)

pub lead_no : (s : List ℕ) (at size : ℕ) → LeadTold s at size false
lead_no s at size = record { is = λ (e : false ≡ true). never e; read = λ (e : false ≡ true). never e }

pub back_no : (s : List ℕ) (at : ℕ) → BackTold s at false
back_no s at = record { is = λ (e : false ≡ true). never e }

pub front_no : (s : List ℕ) (at size : ℕ) → FrontTold s at size false
front_no s at size = record { is = λ (e : false ≡ true). never e; read = λ (e : false ≡ true). never e }

module _ (s : List ℕ) (small : (i : ℕ) → byte_at s i < 256) where
  -- a number that is known has known bytes
  read_as : (p n r v : ℕ) → p + n ≤ length s → Reads s p n r → r ≡ v → bytes_of n v ≡ take n (drop p s)
  read_as p n r v room read e = ap (bytes_of n) (sym e ∙ read.is) ∙ num_bytes s small n p room

  three_of : (p c d : ℕ) → p + 3 ≤ length s → Reads s p 2 c → c ≡ 8224 → Reads s (p + 2) 1 d → d ≡ 32 → 32 ∷ 32 ∷ 32 ∷ [] ≡ take 3 (drop p s)
  unfolding bytes_of
  three_of p c d room rc ec rd ed =
      ap (λ (l : List ℕ). 32 ∷ 32 ∷ l) (read_as (p + 2) 1 d 32 (omega arith) rd ed)
      ∙ ap (λ (l : List ℕ). l ++ take 1 (drop (p + 2) s)) (read_as p 2 c 8224 (omega arith) rc ec) ∙ join s p (p + 2) 2 1 refl (omega arith)

  seven_of : (p q b : ℕ) → p + 4 ≡ q → p + 7 ≤ length s → Reads s p 4 b → b ≡ 538985504 → 32 ∷ 32 ∷ 32 ∷ [] ≡ take 3 (drop q s)
      → 32 ∷ 68 ∷ 32 ∷ 32 ∷ 32 ∷ 32 ∷ 32 ∷ [] ≡ take 7 (drop p s)
  unfolding bytes_of
  seven_of p q b next room rb eb three =
      ap (λ (l : List ℕ). 32 ∷ 68 ∷ 32 ∷ 32 ∷ l) three ∙ ap (λ (l : List ℕ). l ++ take 3 (drop q s)) (read_as p 4 b 538985504 (omega arith) rb eb)
      ∙ join s p q 4 3 next (omega arith)

  long_of_lem : (at size : ℕ) → Sure s at 5 → at + 12 ≤ length s → size_at s at ≡ size → 32 ∷ 68 ∷ 32 ∷ 32 ∷ 32 ∷ 32 ∷ 32 ∷ [] ≡ take 7 (drop (at + 5) s)
      → long_of size ≡ take 12 (drop at s)
  unfolding long_of
  long_of_lem at size sure room same seven =
      rw (← same, digits_back sure, seven) (join s at (at + 5) 5 7 refl (omega arith))

  pub lead_by : (at size a b c d : ℕ) → size < none → at + 12 ≤ length s → Number s at 5 a → a ≡ size → Reads s (at + 5) 4 b → b ≡ 538985504 → Reads s (at + 9) 2 c → c ≡ 8224
      → Reads s (at + 11) 1 d → LeadTold s at size (eqb d 32)
  lead_by at size a b c d low room read is rb eb rc ec rd =
      let same : size_at s at ≡ size = sym read.is ∙ is in
      let sure : Sure s at 5 = record { few = omega arith; room = omega arith; number = rw same low } in
      let next : at + 9 + 2 ≡ at + 11 = omega arith in
      record {
        is = λ (e : eqb d 32 ≡ true).
            long_of_lem at size sure room same
            (seven_of (at + 5) (at + 9) b (omega arith) (omega arith) rb eb (three_of (at + 9) c d (omega arith) rc ec (rw next rd) (eqb-true d 32 e)));
        read = λ (e : eqb d 32 ≡ true). same;
      }

  pub back_by : (at c d : ℕ) → Headed s at → Reads s (at + 17) 2 c → c ≡ 8224 → Reads s (at + 19) 1 d → BackTold s at (eqb d 32)
  unfolding base_of
  back_by at c d headed rc ec rd =
      let there = headed.led.there in
      let next : at + 17 + 2 ≡ at + 19 = omega arith in
      record {
        is = λ (e : eqb d 32 ≡ true).
            rw (digits_back (base_sure headed), three_of (at + 17) c d (omega arith) rc ec (rw next rd) (eqb-true d 32 e))
            (join s (at + 12) (at + 17) 5 3 (omega arith) (omega arith));
      }

pub front_by : (s : List ℕ) (at size : ℕ) (a b : Bool) → Headed s at → LeadTold s at size a → not a ≡ false → BackTold s at b → FrontTold s at size b
unfolding front_of
front_by s at size a b headed lead ya back =
    let there = headed.led.there in
    record {
      is = λ (e : b ≡ true).
          ap (λ (l : List ℕ). l ++ base_of (base_at s at)) (lead.is (not-false a ya)) ∙ ap (λ (l : List ℕ). take 12 (drop at s) ++ l) (back.is e)
          ∙ join s at (at + 12) 12 8 refl (omega arith);
      read = λ (e : b ≡ true). lead.read (not-false a ya);
    }

-- ---- the record is copied whole
module _ (s : List ℕ) (at : ℕ) (laid : LaidOut s at) (same : Same s at) where
  pub size_sure : Sure s at 5
  size_sure =
      let there = laid.inside.headed.led.there in
      let few = same.few in
      record { few = omega arith; room = omega arith; number = omega arith }

  same_fits : at + size_at s at ≤ length s
  same_fits = held_fits s at (size_at s at) laid same.held

  pub same_end : (size : ℕ) → size ≡ size_at s at → at + size ≤ length s
  same_end size e = omega (arith, same_fits)

  module _ (small : (i : ℕ) → byte_at s i < 256) {a d e : List ℕ} {place end z : ℕ} (number size base : ℕ) (size_is : size ≡ size_at s at) (base_is : base ≡ base_at s at)
      (some : base_at s at + 2 ≤ size_at s at) (x : Wrote a place (take (at + size - at) (drop at s)) d end) (y : Wrote d (place + base) (bytes_of 2 number) e z) where
    whole : take (at + size - at) (drop at s) ≡ whole_of s at base (size_at s at)
    unfolding whole_of
    whole =
        let low = laid.inside.headed.low in
        let fits = same_fits in
        let sum : at + size - at ≡ 20 + (size_at s at - 20) = omega arith in
        ap (λ (k : ℕ). take k (drop at s)) sum ∙ sym (join s at (at + 20) 20 (size_at s at - 20) refl (omega arith))
        ∙ ap (λ (l : List ℕ). l ++ take (size_at s at - 20) (drop (at + 20) s)) (sym same.front ∙ ap (front_of (size_at s at)) (sym base_is))

    pub same_put : Wrote a place (held_bytes number s at (size_at s at)) e end
    same_put =
        held_put s at (size_at s at) laid same.held small number base_is (omega arith)
        (wrote_as (whole_of s at base (size_at s at)) whole x) y
