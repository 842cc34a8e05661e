-- What the crates above get from a fault: where it stands, and, where there is none, the facts of numbers that the field's values give. Assumes nothing.
use Prim.Native.Nat.{ℕ, ◌≤◌}
use mathlib.Core.Bool.{Bool, true, cond}
use mathlib.Core.List.{List}
use mathlib.Core.Path.{◌≡◌}
use native.Mathlib.Omega.{arith}
use lib.ListN.{length}
use lib.Dec.{leb, eqb}
use borrow.Author.Tests.{leb-true, eqb-true}
use Rattle.octets.specs.Number.{byte_at, num_at}
use Rattle.octets.proofs.Tests.{both}
use Rattle.values.specs.Rule.{within, rcid_good, rver_good, ruin_good}
use Rattle.values.specs.Class.{objl_good}
use Rattle.headvalues.specs.Dssi.{dssi_fault}
use Rattle.headvalues.specs.Dspm.{datum_fault, units_fault, factors_fault, dspm_fault, most_comf}
use Rattle.headvalues.specs.Premises.{DspmLaid}
use Rattle.values.specs.Vrid.{is_vector, vrid_fault}
use Rattle.values.specs.Frid.{prim_good, frid_fault}
use Rattle.values.proofs.FaultLaws.{fault_none, first_none, fault_within, first_within}

-- ---- a fault stands in its field: its number is at most the field's length
pub vrid_within : (update : Bool) (s : List ℕ) → length s ≡ 8 → vrid_fault update s ≤ length s
unfolding vrid_fault
vrid_within update s e =
    first_within _ _ _ (fault_within _ 0 _ (omega arith)) (first_within _ _ _ (fault_within _ 1 _ (omega arith))
    (first_within _ _ _ (fault_within _ 5 _ (omega arith)) (fault_within _ 7 _ (omega arith))))

pub frid_within : (update : Bool) (s : List ℕ) → length s ≡ 12 → frid_fault update s ≤ length s
unfolding frid_fault
frid_within update s e =
    first_within _ _ _ (fault_within _ 0 _ (omega arith)) (first_within _ _ _ (fault_within _ 1 _ (omega arith))
    (first_within _ _ _ (fault_within _ 5 _ (omega arith)) (first_within _ _ _ (fault_within _ 7 _ (omega arith))
    (first_within _ _ _ (fault_within _ 9 _ (omega arith)) (fault_within _ 11 _ (omega arith))))))

pub dssi_within : (update : Bool) (s : List ℕ) → length s ≡ 35 → dssi_fault update s ≤ length s
unfolding dssi_fault
dssi_within update s e =
    first_within _ _ _ (fault_within _ 0 _ (omega arith)) (first_within _ _ _ (fault_within _ 1 _ (omega arith))
    (first_within _ _ _ (fault_within _ 2 _ (omega arith)) (first_within _ _ _ (fault_within _ 7 _ (omega arith))
    (fault_within _ 31 _ (omega arith)))))

pub dspm_within : (s : List ℕ) → DspmLaid s → dspm_fault s ≤ length s
unfolding dspm_fault datum_fault units_fault factors_fault
dspm_within s laid =
    let long = laid.long in
    first_within _ _ _
    (first_within _ _ _ (fault_within _ 0 _ (omega arith)) (first_within _ _ _ (fault_within _ 1 _ (omega arith)) (fault_within _ 5 _ (omega arith))))
    (first_within _ _ _
    (first_within _ _ _ (fault_within _ 12 _ (omega arith)) (first_within _ _ _ (fault_within _ 13 _ (omega arith))
    (first_within _ _ _ (fault_within _ 14 _ (omega arith)) (fault_within _ 15 _ (omega arith)))))
    (first_within _ _ _ (fault_within _ 16 _ (omega arith)) (first_within _ _ _ (fault_within _ 20 _ (omega arith)) (fault_within _ 24 _ (omega arith)))))

-- ---- a number that is within two others
pub within_told : (low high v : ℕ) → within low high v ≡ true → (low ≤ v) × (v ≤ high)
unfolding within
within_told low high v h =
    let p = both (leb low v) (leb v high) h in (leb-true low v p.0, leb-true v high p.1)

-- ---- a VRID and a FRID without fault
pub record VridGood (update : Bool) (s : List ℕ) : Type 0 where
  pub rcnm : is_vector (byte_at s 0) ≡ true
  pub rcid : (1 ≤ num_at s 1 4) × (num_at s 1 4 ≤ 4294967294)
  pub rver : 1 ≤ num_at s 5 2
  pub ruin : (1 ≤ byte_at s 7) × (byte_at s 7 ≤ cond update 3 1)

pub vrid_good : (update : Bool) (s : List ℕ) → vrid_fault update s ≡ 0 → VridGood update s
unfolding vrid_fault rcid_good rver_good ruin_good
vrid_good update s h =
    let a = first_none _ _ h in
    let b = first_none _ _ a.1 in
    let c = first_none _ _ b.1 in
    record {
      rcnm = fault_none 0 (is_vector (byte_at s 0)) a.0;
      rcid = within_told 1 4294967294 (num_at s 1 4) (fault_none 1 (rcid_good s 1) b.0);
      rver = leb-true 1 (num_at s 5 2) (fault_none 5 (rver_good s 5) c.0);
      ruin = within_told 1 (cond update 3 1) (byte_at s 7) (fault_none 7 (ruin_good update (byte_at s 7)) c.1);
    }

pub record FridGood (update : Bool) (s : List ℕ) : Type 0 where
  pub rcnm : byte_at s 0 ≡ 100
  pub rcid : (1 ≤ num_at s 1 4) × (num_at s 1 4 ≤ 4294967294)
  pub prim : prim_good (byte_at s 5) ≡ true
  pub objl : objl_good (num_at s 7 2) ≡ true
  pub rver : 1 ≤ num_at s 9 2
  pub ruin : (1 ≤ byte_at s 11) × (byte_at s 11 ≤ cond update 3 1)

pub frid_good : (update : Bool) (s : List ℕ) → frid_fault update s ≡ 0 → FridGood update s
unfolding frid_fault rcid_good rver_good ruin_good
frid_good update s h =
    let a = first_none _ _ h in
    let b = first_none _ _ a.1 in
    let c = first_none _ _ b.1 in
    let d = first_none _ _ c.1 in
    let e = first_none _ _ d.1 in
    record {
      rcnm = eqb-true (byte_at s 0) 100 (fault_none 0 (eqb (byte_at s 0) 100) a.0);
      rcid = within_told 1 4294967294 (num_at s 1 4) (fault_none 1 (rcid_good s 1) b.0);
      prim = fault_none 5 (prim_good (byte_at s 5)) c.0;
      objl = fault_none 7 (objl_good (num_at s 7 2)) d.0;
      rver = leb-true 1 (num_at s 9 2) (fault_none 9 (rver_good s 9) e.0);
      ruin = within_told 1 (cond update 3 1) (byte_at s 11) (fault_none 11 (ruin_good update (byte_at s 11)) e.1);
    }

-- ---- a DSSI and a DSPM without fault
pub record DssiGood (update : Bool) (s : List ℕ) : Type 0 where
  pub aall : byte_at s 1 ≤ 1
  pub nall : byte_at s 2 ≤ 1

pub dssi_good : (update : Bool) (s : List ℕ) → dssi_fault update s ≡ 0 → DssiGood update s
unfolding dssi_fault
dssi_good update s h =
    let a = first_none _ _ h in
    let b = first_none _ _ a.1 in
    let c = first_none _ _ b.1 in
    record {
      aall = leb-true (byte_at s 1) 1 (fault_none 1 (leb (byte_at s 1) 1) b.0);
      nall = leb-true (byte_at s 2) 1 (fault_none 2 (leb (byte_at s 2) 1) c.0);
    }

pub record DspmGood (s : List ℕ) : Type 0 where
  pub rcid : (1 ≤ num_at s 1 4) × (num_at s 1 4 ≤ 4294967294)
  pub comf : (1 ≤ num_at s 16 4) × (num_at s 16 4 ≤ most_comf)
  pub somf : num_at s 20 4 ≡ 10

pub dspm_good : (s : List ℕ) → dspm_fault s ≡ 0 → DspmGood s
unfolding dspm_fault datum_fault factors_fault rcid_good
dspm_good s h =
    let a = first_none _ _ h in
    let datum = first_none _ _ (first_none _ _ a.0).1 in
    let factors = first_none _ _ (first_none _ _ a.1).1 in
    record {
      rcid = within_told 1 4294967294 (num_at s 1 4) (fault_none 1 (rcid_good s 1) datum.0);
      comf = within_told 1 most_comf (num_at s 16 4) (fault_none 16 (within 1 most_comf (num_at s 16 4)) factors.0);
      somf = eqb-true (num_at s 20 4) 10 (fault_none 20 (eqb (num_at s 20 4) 10) (first_none _ _ factors.1).0);
    }
