-- What the crates above get from a fault of DSID: where it stands, and, where there is none, the facts of numbers that its values give. Assumes nothing.
use Prim.Native.Nat.{ℕ, ◌+◌, ◌-◌, ◌≤◌}
use mathlib.Core.Bool.{Bool, true, cond}
use mathlib.Core.List.{List}
use mathlib.Core.Path.{◌≡◌}
use native.Mathlib.Omega.{arith}
use lib.ListN.{length}
use lib.Dec.{leb}
use borrow.Author.Tests.{leb-true}
use Rattle.octets.specs.Digits.{number_at}
use Rattle.octets.proofs.Tests.{both, all3}
use Rattle.values.specs.Rule.{within, digits_within}
use Rattle.values.proofs.FaultLaws.{fault_none, first_none, fault_within, first_within}
use Rattle.headvalues.proofs.Promise.{within_told}
use Rattle.dates.specs.Date.{date_good}
use Rattle.dataset.specs.Dsid.{dsid_ends, dsnm_good, edtn_good, updn_digits, updn_good, head_fault, names_fault, issue_fault, product_fault, dsid_over, dsid_fault}
use Rattle.dataset.specs.Premises.{Filled, DsidLaid}
use Rattle.dataset.specs.declared.Ends.{Ends}

-- ---- a fault stands in its field: its number is at most the field's length
over_within : (update : Bool) (s : List ℕ) (e : Ends) → Filled s e → dsid_over update s e ≤ length s
unfolding dsid_over head_fault names_fault issue_fault product_fault
over_within update s e laid =
    first_within _ _ _
    (first_within _ _ _ (fault_within _ 0 _ (omega arith)) (first_within _ _ _ (fault_within _ 1 _ (omega arith))
    (first_within _ _ _ (fault_within _ 5 _ (omega arith)) (fault_within _ 6 _ (omega arith)))))
    (first_within _ _ _
    (first_within _ _ _ (fault_within _ 7 _ (omega arith)) (first_within _ _ _ (fault_within _ (e.dsnm + 1) _ (omega arith)) (fault_within _ (e.edtn + 1) _ (omega arith))))
    (first_within _ _ _
    (first_within _ _ _ (fault_within _ (e.updn + 1) _ (omega arith)) (first_within _ _ _ (fault_within _ (e.updn + 1 + 8) _ (omega arith))
    (first_within _ _ _ (fault_within _ (e.updn + 1 + 16) _ (omega arith)) (fault_within _ (e.updn + 1 + 20) _ (omega arith)))))
    (first_within _ _ _ (fault_within _ (e.updn + 22) _ (omega arith)) (first_within _ _ _ (fault_within _ (e.psdn + 1) _ (omega arith))
    (first_within _ _ _ (fault_within _ (e.pred + 1) _ (omega arith)) (fault_within _ (e.pred + 4) _ (omega arith)))))))

pub dsid_within : (update : Bool) (s : List ℕ) → DsidLaid s → dsid_fault update s ≤ length s
unfolding dsid_fault
dsid_within update s laid = over_within update s (dsid_ends s) laid

-- ---- a DSID without fault, whose texts end as e says
-- one to `width` digits from i up to e, which make a number from least to most
pub record DigitsGood (width least most : ℕ) (s : List ℕ) (i e : ℕ) : Type 0 where
  pub some : 1 ≤ e - i
  pub few : e - i ≤ width
  pub low : least ≤ number_at s i (e - i)
  pub high : number_at s i (e - i) ≤ most

digits_good : (width least most : ℕ) (s : List ℕ) (i e : ℕ) → digits_within width least most s i e ≡ true → DigitsGood width least most s i e
unfolding digits_within
digits_good width least most s i e h =
    let t = all3 (leb 1 (e - i)) (leb (e - i) width) (within least most (number_at s i (e - i))) h in
    let w = within_told least most (number_at s i (e - i)) t.2 in
    record { some = leb-true 1 (e - i) t.0; few = leb-true (e - i) width t.1; low = w.0; high = w.1 }

pub record DsidGood (update : Bool) (s : List ℕ) (e : Ends) : Type 0 where
  pub name : dsnm_good update s e.dsnm ≡ true
  pub edition : DigitsGood 4 1 9999 s (e.dsnm + 1) e.edtn
  pub number : DigitsGood 3 (cond update 1 0) 999 s (e.edtn + 1) e.updn
  pub issued : date_good s (e.updn + 1 + 8) ≡ true

over_good : (update : Bool) (s : List ℕ) (e : Ends) → dsid_over update s e ≡ 0 → DsidGood update s e
unfolding dsid_over names_fault issue_fault edtn_good updn_good updn_digits
over_good update s e h =
    let a = first_none _ _ (first_none _ _ h).1 in
    let n = first_none _ _ a.0 in
    let m = first_none _ _ n.1 in
    let i = first_none _ _ (first_none _ _ (first_none _ _ a.1).0).1 in
    let digits = digits_within 3 (cond update 1 0) 999 s (e.edtn + 1) e.updn in
    record {
      name = fault_none 7 (dsnm_good update s e.dsnm) n.0;
      edition = digits_good 4 1 9999 s (e.dsnm + 1) e.edtn (fault_none (e.dsnm + 1) (edtn_good s (e.dsnm + 1) e.edtn) m.0);
      number = digits_good 3 (cond update 1 0) 999 s (e.edtn + 1) e.updn (both digits _ (fault_none (e.edtn + 1) (updn_good update s (e.edtn + 1) e.updn) m.1)).0;
      issued = fault_none (e.updn + 1 + 8) (date_good s (e.updn + 1 + 8)) i.0;
    }

pub dsid_good : (update : Bool) (s : List ℕ) → dsid_fault update s ≡ 0 → DsidGood update s (dsid_ends s)
unfolding dsid_fault
dsid_good update s h = over_good update s (dsid_ends s) h
