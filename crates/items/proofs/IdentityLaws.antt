-- Laws of names: the number of a name and the word of a name and a place, taken apart again. Assumes nothing.
use Prim.Native.Nat.{ℕ, ◌+◌, ◌*◌, ◌/◌, ◌%◌, ◌≤◌, ◌<◌}
use mathlib.Core.Bool.{Bool, true, false, cond}
use mathlib.Core.List.{List}
use mathlib.Core.Path.{◌≡◌, sym, ap, ◌∙◌}
use native.Mathlib.Omega.{arith}
use lib.ListN.{length}
use lib.Dec.{eqb}
use borrow.Author.Tests.{eq-eqb, ne_eqb}
use Rattle.octets.specs.Number.{byte_at, num_at}
use Rattle.octets.specs.Premises.{Reads}
use Rattle.iso8211.specs.Field.{field_at}
use Rattle.iso8211.specs.declared.field.Field.{Field}
use Rattle.items.specs.Premises.{Identified, Featured}
use Rattle.items.specs.Identity.{id_at, rcnm_at, rcid_at, prim_at, objl_at, foid_at, rank_of, version_at, ruin_at, name_from, name_at, word_for}
use Rattle.items.specs.Word.{name_of, word_offset, name_weight}

-- ---- classes
few : (a b c : Bool) → cond a 0 (cond b 1 (cond c 2 3)) ≤ 3
few true b c = omega arith
few false true c = omega arith
few false false true = omega arith
few false false false = omega arith

pub rank_few : (rcnm : ℕ) → rank_of rcnm ≤ 3
unfolding rank_of
rank_few rcnm = few (eqb rcnm 110) (eqb rcnm 120) (eqb rcnm 130)

pub rank_connected : (rcnm : ℕ) → rcnm ≡ 120 → 1 ≡ rank_of rcnm
unfolding rank_of
rank_connected rcnm e = rw e

pub rank_edge : (rcnm : ℕ) → rcnm ≡ 130 → 2 ≡ rank_of rcnm
unfolding rank_of
rank_edge rcnm e = rw e

-- ---- a name's number
pub name_rank : (rcnm rcid : ℕ) → rcid < 4294967296 → name_from rcnm rcid / 4294967296 ≡ rank_of rcnm
unfolding name_from
name_rank rcnm rcid h = omega arith

pub name_rcid : (rcnm rcid : ℕ) → rcid < 4294967296 → name_from rcnm rcid % 4294967296 ≡ rcid
unfolding name_from
name_rcid rcnm rcid h = omega arith

pub name_small : (rcnm rcid : ℕ) → rcid < 4294967296 → name_from rcnm rcid < 17179869184
unfolding name_from
name_small rcnm rcid h = omega (arith, rank_few rcnm)

-- ---- a word's name and place
pub word_name : (s : List ℕ) (at : ℕ) → at < name_weight → name_of (word_for s at) ≡ name_at s at
unfolding word_for
word_name s at h = omega arith

pub word_offset_lem : (s : List ℕ) (at : ℕ) → at < name_weight → word_offset (word_for s at) ≡ at
unfolding word_for
word_offset_lem s at h = omega arith

pub word_small : (s : List ℕ) (at : ℕ) → at < name_weight → rcid_at s at < 4294967296 → word_for s at < 18446744073709551616
unfolding word_for name_at
word_small s at h small = omega (arith, name_small (rcnm_at s at) (rcid_at s at) small)

-- ---- as the code reads them
pub foid_room : (s : List ℕ) (at : ℕ) (f : Field) → Featured s at → f ≡ field_at s at 2 → f.start + 8 ≤ length s
foid_room s at f known e = rw e known.whole

pub num_one : (s : List ℕ) (p : ℕ) → num_at s p 1 ≡ byte_at s p
unfolding num_at
num_one s p = omega arith

module _ (s : List ℕ) (at id r : ℕ) (start : id ≡ id_at s at) where
  pub rcnm_read : Reads s id 1 r → (r ≡ rcnm_at s at) × (r < 256)
  unfolding rcnm_at
  rcnm_read reads = (reads.is ∙ num_one s id ∙ rw start, reads.small)

  pub rcid_read : Reads s (id + 1) 4 r → (r ≡ rcid_at s at) × (r < 4294967296)
  unfolding rcid_at
  rcid_read reads = (rw start at reads.is, reads.small)

  pub prim_read : Reads s (id + 5) 1 r → (r ≡ prim_at s at) × (r < 256)
  unfolding prim_at
  prim_read reads = (reads.is ∙ num_one s (id + 5) ∙ rw start, reads.small)

  pub objl_read : Reads s (id + 7) 2 r → (r ≡ objl_at s at) × (r < 65536)
  unfolding objl_at
  objl_read reads = (rw start at reads.is, reads.small)

  module _ (class : ℕ) (named : Reads s id 1 class) where
    pub version_room : Identified s at → class ≡ 100 → id + 9 + 2 ≤ length s
    unfolding rcnm_at
    version_room known e =
        let is : byte_at s (id_at s at) ≡ 100 = sym (named.is ∙ num_one s id ∙ rw start) ∙ e in
        let long = (known.feature is).long in
        omega arith

    pub version_feature : class ≡ 100 → Reads s (id + 9) 2 r → (r ≡ version_at s at) × (r < 65536)
    unfolding version_at rcnm_at
    version_feature e reads =
        let is : byte_at s (id_at s at) ≡ 100 = sym (named.is ∙ num_one s id ∙ rw start) ∙ e in
        (rw (eq-eqb (byte_at s (id_at s at)) 100 is) (rw start at reads.is), reads.small)

    pub version_vector : (class ≡ 100 → ⊥) → Reads s (id + 5) 2 r → (r ≡ version_at s at) × (r < 65536)
    unfolding version_at rcnm_at
    version_vector ne reads =
        let other : byte_at s (id_at s at) ≡ 100 → ⊥ = λ (e : byte_at s (id_at s at) ≡ 100). ne (named.is ∙ num_one s id ∙ rw start e) in
        (rw (ne_eqb (byte_at s (id_at s at)) 100 other) (rw start at reads.is), reads.small)

    pub ruin_room : Identified s at → class ≡ 100 → id + 11 + 1 ≤ length s
    unfolding rcnm_at
    ruin_room known e =
        let is : byte_at s (id_at s at) ≡ 100 = sym (named.is ∙ num_one s id ∙ rw start) ∙ e in
        let long = (known.feature is).long in
        omega arith

    pub ruin_feature : class ≡ 100 → Reads s (id + 11) 1 r → (r ≡ ruin_at s at) × (r < 256)
    unfolding ruin_at rcnm_at
    ruin_feature e reads =
        let is : byte_at s (id_at s at) ≡ 100 = sym (named.is ∙ num_one s id ∙ rw start) ∙ e in
        (rw (eq-eqb (byte_at s (id_at s at)) 100 is) (reads.is ∙ num_one s (id + 11) ∙ rw start), reads.small)

    pub ruin_vector : (class ≡ 100 → ⊥) → Reads s (id + 7) 1 r → (r ≡ ruin_at s at) × (r < 256)
    unfolding ruin_at rcnm_at
    ruin_vector ne reads =
        let other : byte_at s (id_at s at) ≡ 100 → ⊥ = λ (e : byte_at s (id_at s at) ≡ 100). ne (named.is ∙ num_one s id ∙ rw start e) in
        (rw (ne_eqb (byte_at s (id_at s at)) 100 other) (reads.is ∙ num_one s (id + 7) ∙ rw start), reads.small)

pub foid_read : (s : List ℕ) (at r : ℕ) (f : Field) → f ≡ field_at s at 2 → Reads s f.start 8 r → r ≡ foid_at s at
unfolding foid_at
foid_read s at r f e reads = rw e at reads.is

pub name_read : (s : List ℕ) (at rank rcnm rcid : ℕ) → rcnm ≡ rcnm_at s at → rank ≡ rank_of rcnm → rcid ≡ rcid_at s at → rcid < 4294967296
    → (rank * 4294967296 + rcid ≡ name_at s at) × (rank * 4294967296 + rcid < 17179869184)
unfolding name_at name_from
name_read s at rank rcnm rcid a b c small =
    let e : rank ≡ rank_of (rcnm_at s at) = b ∙ ap rank_of a in
    (rw (e, c), omega (arith, b, rank_few rcnm))

pub word_read : (s : List ℕ) (at name : ℕ) → name ≡ name_at s at → name * name_weight + at ≡ word_for s at
unfolding word_for
word_read s at name e = rw e
