-- The identifier fields, written and read back. Assumes nothing.
use Prim.Native.Nat.{ℕ, ◌+◌, ◌≤◌, ◌<◌}
use mathlib.Core.Bool.{true, false}
use mathlib.Core.List.{List, [], ◌∷◌, ◌++◌}
use mathlib.Core.Path.{◌≡◌, refl}
use native.Mathlib.Omega.{arith}
use lib.ListN.{length}
use borrow.Author.Tests.{le-leb}
use Rattle.octets.proofs.ListLaws.{has_self}
use Rattle.octets.specs.Number.{byte_at, num_at, bytes_of}
use Rattle.octets.specs.Area.{Has}
use Rattle.octets.proofs.AreaLaws.{has_left, has_right, has_head}
use Rattle.octets.proofs.NumberLaws.{num_read}
use Rattle.values.specs.Fault.{fault_at, first}
use Rattle.values.specs.Rule.{within, rcid_good, rver_good, ruin_good}
use Rattle.values.specs.Vrid.{is_vector, vrid_fault}
use Rattle.values.specs.Frid.{prim_good, frid_fault}
use Rattle.values.specs.Class.{objl_good}
use Rattle.items.specs.Item.{Item}
use Rattle.itemfields.specs.Fields.{vrid_bytes, frid_bytes}

-- ---- VRID
pub record VridRead (v : List ℕ) (t : Item) : Type 0 where
  pub long : length v ≡ 8
  pub rcnm_is : num_at v 0 1 ≡ t.rcnm
  pub rcid_is : num_at v 1 4 ≡ t.rcid
  pub version_is : num_at v 5 2 ≡ t.version
  pub ruin_is : byte_at v 7 ≡ 1

pub vrid_long : (t : Item) → length (vrid_bytes t) ≡ 8
unfolding vrid_bytes bytes_of
vrid_long t = refl

pub frid_long : (t : Item) → length (frid_bytes t) ≡ 12
unfolding frid_bytes bytes_of
frid_long t = refl

pub vrid_read : (t : Item) → t.rcnm < 256 → t.rcid < 4294967296 → t.version < 65536 → VridRead (vrid_bytes t) t
unfolding vrid_bytes bytes_of
vrid_read t a b c =
    let v = vrid_bytes t in
    let h = has_self v in
    let r3 : List ℕ = 1 ∷ [] in
    let r2 = bytes_of 2 t.version ++ r3 in
    let r1 = bytes_of 4 t.rcid ++ r2 in
    let h1 : Has v 1 r1 = has_right (bytes_of 1 t.rcnm) r1 h in
    let h2 : Has v 5 r2 = has_right (bytes_of 4 t.rcid) r2 h1 in
    let h3 : Has v 7 r3 = has_right (bytes_of 2 t.version) r3 h2 in
    record {
      long = refl;
      rcnm_is = num_read 1 t.rcnm a (has_left (bytes_of 1 t.rcnm) r1 h);
      rcid_is = num_read 4 t.rcid b (has_left (bytes_of 4 t.rcid) r2 h1);
      version_is = num_read 2 t.version c (has_left (bytes_of 2 t.version) r3 h2);
      ruin_is = has_head h3;
    }

-- ---- FRID
pub record FridRead (v : List ℕ) (t : Item) : Type 0 where
  pub long : length v ≡ 12
  pub rcnm_is : num_at v 0 1 ≡ t.rcnm
  pub rcid_is : num_at v 1 4 ≡ t.rcid
  pub prim_is : num_at v 5 1 ≡ t.prim
  pub grup_is : num_at v 6 1 ≡ t.grup
  pub objl_is : num_at v 7 2 ≡ t.objl
  pub version_is : num_at v 9 2 ≡ t.version
  pub ruin_is : byte_at v 11 ≡ 1

pub frid_read : (t : Item) → t.rcnm < 256 → t.rcid < 4294967296 → t.prim < 256 → t.grup < 256 → t.objl < 65536 → t.version < 65536 → FridRead (frid_bytes t) t
unfolding frid_bytes bytes_of
frid_read t a b c d e f =
    let v = frid_bytes t in
    let h = has_self v in
    let r6 : List ℕ = 1 ∷ [] in
    let r5 = bytes_of 2 t.version ++ r6 in
    let r4 = bytes_of 2 t.objl ++ r5 in
    let r3 = bytes_of 1 t.grup ++ r4 in
    let r2 = bytes_of 1 t.prim ++ r3 in
    let r1 = bytes_of 4 t.rcid ++ r2 in
    let h1 : Has v 1 r1 = has_right (bytes_of 1 t.rcnm) r1 h in
    let h2 : Has v 5 r2 = has_right (bytes_of 4 t.rcid) r2 h1 in
    let h3 : Has v 6 r3 = has_right (bytes_of 1 t.prim) r3 h2 in
    let h4 : Has v 7 r4 = has_right (bytes_of 1 t.grup) r4 h3 in
    let h5 : Has v 9 r5 = has_right (bytes_of 2 t.objl) r5 h4 in
    let h6 : Has v 11 r6 = has_right (bytes_of 2 t.version) r6 h5 in
    record {
      long = refl;
      rcnm_is = num_read 1 t.rcnm a (has_left (bytes_of 1 t.rcnm) r1 h);
      rcid_is = num_read 4 t.rcid b (has_left (bytes_of 4 t.rcid) r2 h1);
      prim_is = num_read 1 t.prim c (has_left (bytes_of 1 t.prim) r3 h2);
      grup_is = num_read 1 t.grup d (has_left (bytes_of 1 t.grup) r4 h3);
      objl_is = num_read 2 t.objl e (has_left (bytes_of 2 t.objl) r5 h4);
      version_is = num_read 2 t.version f (has_left (bytes_of 2 t.version) r6 h5);
      ruin_is = has_head h6;
    }

-- ---- their values
one_byte : (s : List ℕ) (p : ℕ) → byte_at s p ≡ num_at s p 1
unfolding num_at
one_byte s p = omega arith

pub vrid_fine : (v : List ℕ) (t : Item) → VridRead v t → is_vector t.rcnm ≡ true → 1 ≤ t.rcid → t.rcid ≤ 4294967294 → 1 ≤ t.version → vrid_fault false v ≡ 0
unfolding vrid_fault fault_at first rcid_good rver_good ruin_good within
vrid_fine v t r a b c d =
    rw (one_byte v 0, r.rcnm_is, a, r.rcid_is, le-leb 1 t.rcid b, le-leb t.rcid 4294967294 c, r.version_is, le-leb 1 t.version d, r.ruin_is)

pub frid_fine : (v : List ℕ) (t : Item) → FridRead v t → t.rcnm ≡ 100 → 1 ≤ t.rcid → t.rcid ≤ 4294967294 → prim_good t.prim ≡ true → objl_good t.objl ≡ true
    → 1 ≤ t.version → frid_fault false v ≡ 0
unfolding frid_fault fault_at first rcid_good rver_good ruin_good within
frid_fine v t r a b c d e f =
    rw (
      one_byte v 0,
      r.rcnm_is,
      a,
      r.rcid_is,
      le-leb 1 t.rcid b,
      le-leb t.rcid 4294967294 c,
      one_byte v 5,
      r.prim_is,
      d,
      r.objl_is,
      e,
      r.version_is,
      le-leb 1 t.version f,
      r.ruin_is,
    )
