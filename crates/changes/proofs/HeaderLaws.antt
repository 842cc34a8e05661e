-- What the DSID of a readable update says: where its texts end, its UPDN, its date. Assumes nothing.
use Prim.Native.Nat.{ℕ, zero, suc, ◌+◌, ◌-◌, ◌*◌, ◌≤◌}
use mathlib.Core.Bool.{true}
use mathlib.Core.List.{List}
use mathlib.Core.Path.{◌≡◌, refl, ◌∙◌}
use native.Mathlib.Nat.{add_assoc, add-zero}
use native.Mathlib.Omega.{arith}
use lib.ListN.{take, drop}
use lib.Dec.{eqb}
use borrow.Author.Tests.{eqb-true}
use Rattle.octets.proofs.ListLaws.{part_byte, part_long}
use Rattle.octets.specs.Number.{byte_at}
use Rattle.octets.specs.Digits.{digits_from, number_at}
use Rattle.octets.proofs.Tests.{both}
use Rattle.dates.specs.Date.{date_good}
use Rattle.dataset.specs.Dsid.{dsnm_end, updn_end, dsid_ends, dsid_laid, dsnm_good, dsid_fault}
use Rattle.dataset.proofs.DsidLaws.{dsid_is_laid}
use Rattle.dataset.proofs.Promise.{dsid_good}
use Rattle.header.specs.Dsid.{dsid_of}
use Rattle.layout.specs.General.{number_in}
use Rattle.header.specs.Known.{Known}
use Rattle.changes.specs.Good.{DsidBrought}

-- ---- a date moves with its bytes
digits_part : (n : ℕ) (c : List ℕ) (at size p led : ℕ) → p + n ≤ size → digits_from n (take size (drop at c)) p led ≡ digits_from n c (at + p) led
unfolding digits_from
digits_part zero c at size p led h = refl
digits_part (suc n) c at size p led h =
    rw (part_byte c at size p (omega arith), digits_part n c at size (p + 1) (led * 10 + (byte_at c (at + p) - 48)) (omega arith), add_assoc at p 1)

number_part : (n : ℕ) (c : List ℕ) (at size p : ℕ) → p + n ≤ size → number_at (take size (drop at c)) p n ≡ number_at c (at + p) n
unfolding number_at
number_part n c at size p h = digits_part n c at size p 0 h

date_part : (c : List ℕ) (at : ℕ) → date_good (take 8 (drop at c)) 0 ≡ date_good c at
unfolding date_good
date_part c at = rw (number_part 4 c at 8 0 (omega arith), number_part 2 c at 8 4 (omega arith), number_part 2 c at 8 6 (omega arith), add-zero at)

-- ---- the field
module _ (d : List ℕ) (laid : dsid_laid d ≡ true) (fine : dsid_fault true d ≡ 0) where
  pub update_known : Known d
  unfolding dsid_ends dsnm_good
  update_known =
      let f = dsid_is_laid d laid in
      let g = dsid_good true d fine in
      let name : dsnm_end d ≡ 19 = eqb-true (dsnm_end d) 19 (both (eqb (dsnm_end d) 19) _ g.name).0 in
      let e = f.edition in
      let u = f.number in
      let i = f.issue in
      let p = f.product in
      let c = f.comment in
      let l = f.full in
      let ew = g.edition.few in
      let uw = g.number.few in
      record { name = name; edition = omega arith; edition_few = omega arith; number = u; number_few = omega arith; behind = omega arith }

  pub update_brought : DsidBrought (dsid_of d)
  unfolding dsid_ends dsid_of number_in
  update_brought =
      let g = dsid_good true d fine in
      let b = update_known.behind in
      let e : updn_end d + 1 + 8 ≡ updn_end d + 9 = omega arith in
      record {
        number_low = g.number.low;
        number_high = g.number.high;
        long = part_long d (updn_end d + 9) 8 (omega arith);
        date = date_part d (updn_end d + 9) ∙ rw e at g.issued;
      }
