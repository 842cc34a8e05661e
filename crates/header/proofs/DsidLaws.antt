-- A good DSID, written with the fewest digits, is good and says the same, also with another UPDN and other dates. Assumes nothing.
use Prim.Native.Nat.{ℕ, zero, suc, ◌+◌, ◌-◌, ◌*◌, ◌/◌, ◌%◌, ◌^◌, ◌≤◌, ◌<◌}
use mathlib.Core.Bool.{Bool, true, false, ◌&&◌}
use mathlib.Core.List.{List, [], ◌∷◌, ◌++◌, append_assoc}
use mathlib.Core.Logic.{⊎_elim}
use mathlib.Core.Path.{◌≡◌, refl, sym, ap, ◌∙◌}
use native.Mathlib.Nat.{add-zero}
use native.Mathlib.Omega.{arith}
use lib.ListN.{length, take, drop, length-append, length-drop, get_or-append}
use lib.Seq.{get_or-take, get_or-drop, take_at, drop_at, drop-drop, drop-append-le, length-take-le}
use lib.Dec.{eqb, leb}
use borrow.Author.Tests.{eq-eqb, ne_eqb, le-leb, eqb-true, leb-true}
use Rattle.octets.proofs.ListLaws.{has_self}
use Rattle.octets.specs.Number.{byte_at, num_at}
use Rattle.octets.specs.Digits.{digits_from, number_at, digits_of, fewest}
use Rattle.octets.specs.Area.{Has}
use Rattle.octets.proofs.Cases.{true_or_false}
use Rattle.octets.proofs.Tests.{both, all3}
use Rattle.octets.proofs.AreaLaws.{has_left, has_right, has_at}
use Rattle.octets.proofs.DigitsLaws.{digits_length, number_read, fewest_least, fewest_some, fewest_most}
use Rattle.values.specs.Fault.{fault_at}
use Rattle.values.specs.Fault as fault
use Rattle.values.specs.Rule.{within, rcid_good, digits_within}
use Rattle.headvalues.specs.Text.{until_end, text_end}
use Rattle.dates.specs.Date.{date_good}
use Rattle.dataset.specs.Dsid.{dsnm_end, edtn_end, updn_end, psdn_end, pred_end, comt_end, dsid_ends, dsid_laid, codes_at, dsnm_good, edtn_good, updn_digits, updn_good, uadt_good, sted_good}
use Rattle.dataset.specs.Dsid.{pred_good, head_fault, names_fault, issue_fault, product_fault, dsid_over, dsid_fault}
use Rattle.dataset.specs.Premises.{DsidLaid}
use Rattle.dataset.proofs.DsidLaws.{dsid_is_laid}
use Rattle.header.specs.Dsid.{Dsid, shortest, dsid_with, dsid_of, dsid_bytes, revised}
use Rattle.layout.specs.General.{edition_in, number_in}
use Rattle.header.specs.Known.{Known, dated}
use Rattle.itemfields.proofs.ReadLaws.{none_first, none_at}

-- ---- the first 1F
until_digits : (w v : ℕ) (ys : List ℕ) → until_end (digits_of w v ++ (31 ∷ ys)) ≡ w
unfolding until_end digits_of
until_digits zero v ys = refl
until_digits (suc w) v ys = rw (ne_eqb (48 + v / 10 ^ w % 10) 31 (λ e. omega arith), until_digits w v ys)

until_take : (n : ℕ) (l ys : List ℕ) → until_end l < n → n ≤ length l → until_end (take n l ++ ys) ≡ until_end l
unfolding until_end
until_take zero l ys h f = absurd (omega arith)
until_take (suc n) [] ys h f = absurd (omega arith)
until_take (suc n) (b ∷ bs) ys h f =
    ⊎_elim (λ (e : eqb b 31 ≡ true). rw e) (λ (e : eqb b 31 ≡ false). let g : suc (until_end bs) < suc n = rw e at h in rw (e, until_take n bs ys (omega arith) (omega arith)))
    (true_or_false (eqb b 31))

-- ---- what stands elsewhere
-- the same bytes from i of s and from j of t on
pub record Moved (s : List ℕ) (i : ℕ) (t : List ℕ) (j : ℕ) : Type 0 where
  pub is : drop i s ≡ drop j t

moved_on : {s t : List ℕ} {i j : ℕ} (k : ℕ) → Moved s i t j → Moved s (i + k) t (j + k)
moved_on {s} {t} {i} {j} k m = record { is = sym (drop-drop k i s) ∙ ap (drop k) m.is ∙ drop-drop k j t }

moved_byte : {s t : List ℕ} {i j : ℕ} (k : ℕ) → Moved s i t j → byte_at s (i + k) ≡ byte_at t (j + k)
moved_byte {s} {t} {i} {j} k m = sym (get_or-drop i s k 0) ∙ ap (λ (l : List ℕ). byte_at l k) m.is ∙ get_or-drop j t k 0

moved_first : {s t : List ℕ} {i j : ℕ} → Moved s i t j → byte_at s i ≡ byte_at t j
moved_first {s} {t} {i} {j} m = ap (byte_at s) (sym (add-zero i)) ∙ moved_byte 0 m ∙ ap (byte_at t) (add-zero j)

digits_moved : (n led : ℕ) {s t : List ℕ} {i j : ℕ} → Moved s i t j → digits_from n s i led ≡ digits_from n t j led
unfolding digits_from
digits_moved zero led m = refl
digits_moved (suc n) led {s} {t} {i} {j} m =
    rw (moved_first m, digits_moved n (led * 10 + (byte_at t j - 48)) (moved_on 1 m))

number_moved : {s t : List ℕ} (n i j : ℕ) → Moved s i t j → number_at s i n ≡ number_at t j n
unfolding number_at
number_moved n i j m = digits_moved n 0 m

end_moved : {s t : List ℕ} {i j : ℕ} → Moved s i t j → text_end s i + j ≡ text_end t j + i
unfolding text_end
end_moved {s} {t} {i} {j} m = rw m.is (omega arith)

date_moved : {s t : List ℕ} (i j : ℕ) → Moved s i t j → date_good s i ≡ date_good t j
unfolding date_good
date_moved i j m = rw (number_moved 4 i j m, number_moved 2 (i + 4) (j + 4) (moved_on 4 m), number_moved 2 (i + 6) (j + 6) (moved_on 6 m))

sted_moved : {s t : List ℕ} (i j : ℕ) → Moved s i t j → sted_good s i ≡ sted_good t j
unfolding sted_good
sted_moved i j m = rw (moved_first m, moved_byte 1 m, moved_byte 2 m, moved_byte 3 m)

fine_first : (a b : ℕ) → a ≡ 0 → b ≡ 0 → fault.first a b ≡ 0
unfolding fault.first
fine_first a b e f = rw (e, f)

fine_at : (i : ℕ) (good : Bool) → good ≡ true → fault_at i good ≡ 0
unfolding fault_at
fine_at i good e = rw e

-- ---- the front: RCNM to DSNM
pub record Same (n : ℕ) (s t : List ℕ) : Type 0 where
  pub byte : (k : ℕ) → k < n → byte_at s k ≡ byte_at t k

num_same : {n : ℕ} {s t : List ℕ} (p k : ℕ) → p + k ≤ n → Same n s t → num_at s p k ≡ num_at t p k
unfolding num_at
num_same p zero h e = refl
num_same p (suc k) h e = rw (e.byte p (omega arith), num_same (suc p) k (omega arith) e)

digits_same : {n : ℕ} {s t : List ℕ} (p k led : ℕ) → p + k ≤ n → Same n s t → digits_from k s p led ≡ digits_from k t p led
unfolding digits_from
digits_same p zero led h e = refl
digits_same {t = t} p (suc k) led h e = rw (e.byte p (omega arith), digits_same (p + 1) k (led * 10 + (byte_at t p - 48)) (omega arith) e)

codes_same : {n : ℕ} {s t : List ℕ} (k p : ℕ) → p + k ≤ n → Same n s t → codes_at k s p ≡ codes_at k t p
unfolding codes_at
codes_same zero p h e = refl
codes_same (suc k) p h e = rw (e.byte p (omega arith), codes_same k (p + 1) (omega arith) e)

head_same : {s t : List ℕ} → Same 20 s t → head_fault false s ≡ head_fault false t
unfolding head_fault rcid_good
head_same e = rw (e.byte 0 (omega arith), num_same 1 4 (omega arith) e, e.byte 5 (omega arith), e.byte 6 (omega arith))

name_same : {s t : List ℕ} (i : ℕ) → Same 20 s t → dsnm_good false s i ≡ dsnm_good false t i
unfolding dsnm_good number_at
name_same i e =
    rw (
      codes_same 2 7 (omega arith) e,
      e.byte 9 (omega arith),
      e.byte 6 (omega arith),
      codes_same 5 10 (omega arith) e,
      e.byte 15 (omega arith),
      digits_same 16 3 0 (omega arith) e,
    )

-- ---- what a good DSID says
pub record DsidGood (d : List ℕ) : Type 0 where
  pub head : head_fault false d ≡ 0
  pub name : dsnm_good false d (dsnm_end d) ≡ true
  pub edition : edtn_good d (dsnm_end d + 1) (edtn_end d) ≡ true
  pub number : updn_digits false d (edtn_end d + 1) (updn_end d) ≡ true
  pub issue : issue_fault false d (updn_end d + 1) ≡ 0
  pub product : product_fault false d (dsid_ends d) ≡ 0

dsid_good : (d : List ℕ) → dsid_fault false d ≡ 0 → DsidGood d
unfolding dsid_fault dsid_over names_fault dsid_ends updn_good
dsid_good d h =
    let a = none_first _ _ h in
    let b = none_first _ _ a.1 in
    let c = none_first _ _ b.1 in
    let n = none_first _ _ b.0 in
    let m = none_first _ _ n.1 in
    record { head = a.0; name = none_at _ _ n.0; edition = none_at _ _ m.0; number = (both _ _ (none_at _ _ m.1)).0; issue = c.0; product = c.1 }

good_dsid : (d : List ℕ) → DsidGood d → dsid_fault false d ≡ 0
unfolding dsid_fault dsid_over names_fault dsid_ends updn_good
good_dsid d g =
    fine_first _ _ g.head
    (fine_first _ _ (fine_first _ _ (fine_at 7 _ g.name) (fine_first _ _ (fine_at (dsnm_end d + 1) _ g.edition) (fine_at (edtn_end d + 1) _ (rw g.number))))
    (fine_first _ _ g.issue g.product))

-- ---- a DSID with two numbers
drop_take : (m n : ℕ) (l : List ℕ) → drop m (take (m + n) l) ≡ take n (drop m l)
drop_take zero n l = let e : 0 + n ≡ n = omega arith in ap (λ (k : ℕ). take k l) e
drop_take (suc m) n [] = rw (lib.Seq.take-nil (suc m + n), lib.Seq.take-nil n)
drop_take (suc m) n (b ∷ bs) = ap (λ (k : ℕ). drop (suc m) (take k (b ∷ bs))) (native.Mathlib.Nat.suc-add m n) ∙ drop_take m n bs

module _ (front : List ℕ) (ed nu : ℕ) (back : List ℕ) (long : length front ≡ 20) where
  abbrev v : List ℕ
  v = dsid_with front ed nu back

  abbrev a : ℕ
  a = fewest ed

  abbrev b : ℕ
  b = fewest nu

  drop_edition : drop 20 v ≡ shortest ed ++ (31 ∷ (shortest nu ++ (31 ∷ back)))
  unfolding dsid_with
  drop_edition = drop_at front (shortest ed ++ (31 ∷ (shortest nu ++ (31 ∷ back)))) 20 long

  drop_number : drop (21 + a) v ≡ shortest nu ++ (31 ∷ back)
  unfolding shortest
  drop_number =
      let e : 21 + a ≡ 20 + (a + 1) = omega arith in
      ap (λ (k : ℕ). drop k v) e ∙ sym (drop-drop (a + 1) 20 v) ∙ ap (drop (a + 1)) drop_edition
      ∙ ap (drop (a + 1)) (sym (append_assoc (digits_of a ed) (31 ∷ []) (shortest nu ++ (31 ∷ back))))
      ∙ drop_at (digits_of a ed ++ (31 ∷ [])) (shortest nu ++ (31 ∷ back)) (a + 1) (rw (length-append, digits_length a ed))

  drop_back : drop (22 + a + b) v ≡ back
  unfolding shortest
  drop_back =
      let e : 22 + a + b ≡ 21 + a + (b + 1) = omega arith in
      ap (λ (k : ℕ). drop k v) e ∙ sym (drop-drop (b + 1) (21 + a) v) ∙ ap (drop (b + 1)) drop_number
      ∙ ap (drop (b + 1)) (sym (append_assoc (digits_of b nu) (31 ∷ []) back))
      ∙ drop_at (digits_of b nu ++ (31 ∷ [])) back (b + 1) (rw (length-append, digits_length b nu))

  edition_end : text_end v 20 ≡ 20 + a
  unfolding text_end shortest
  edition_end = rw (drop_edition, until_digits a ed (digits_of b nu ++ (31 ∷ back)))

  number_end : text_end v (21 + a) ≡ 21 + a + b
  unfolding text_end shortest
  number_end = rw (drop_number, until_digits b nu back)

  dsid_length : length v ≡ 22 + a + b + length back
  unfolding dsid_with shortest
  dsid_length = rw (
    length-append,
    length-append (digits_of a ed) (31 ∷ (digits_of b nu ++ (31 ∷ back))),
    length-append (digits_of b nu) (31 ∷ back),
    digits_length a ed,
    digits_length b nu,
    long,
  ) (omega arith)

  has_edition : Has v 20 (shortest ed ++ (31 ∷ (shortest nu ++ (31 ∷ back))))
  unfolding dsid_with
  has_edition = has_at 20 (let e = long in omega arith) (has_right front (shortest ed ++ (31 ∷ (shortest nu ++ (31 ∷ back)))) (has_self v))

  edition_read : number_at v 20 a ≡ ed
  unfolding shortest
  edition_read = number_read a ed (fewest_least ed) (has_left (digits_of a ed) (31 ∷ (digits_of b nu ++ (31 ∷ back))) has_edition)

  nu_read : number_at v (21 + a) b ≡ nu
  unfolding shortest
  nu_read =
      let h = has_right (digits_of a ed) (31 ∷ (digits_of b nu ++ (31 ∷ back))) has_edition in
      let r = has_right (31 ∷ []) (digits_of b nu ++ (31 ∷ back)) h in
      number_read b nu (fewest_least nu) (has_left (digits_of b nu) (31 ∷ back) (has_at (21 + a) (rw (digits_length a ed) (omega arith)) r))

  front_same : Same 20 v front
  unfolding dsid_with
  front_same = record { byte = λ k h. get_or-append front (shortest ed ++ (31 ∷ (shortest nu ++ (31 ∷ back)))) 0 k (let e = long in omega arith) }

  take_front : take 20 v ≡ front
  unfolding dsid_with
  take_front = lib.Seq.take_at front (shortest ed ++ (31 ∷ (shortest nu ++ (31 ∷ back)))) 20 long

edition_is : (d : List ℕ) → edition_in d ≡ number_at d (dsnm_end d + 1) (edtn_end d - (dsnm_end d + 1))
unfolding edition_in
edition_is d = refl

number_is : (d : List ℕ) → number_in d ≡ number_at d (edtn_end d + 1) (updn_end d - (edtn_end d + 1))
unfolding number_in
number_is d = refl

-- ---- a value that is written as a good DSID that says the same
pub record DsidBack (h : Dsid) : Type 0 where
  pub laid : dsid_laid (dsid_bytes h) ≡ true
  pub fine : dsid_fault false (dsid_bytes h) ≡ 0
  pub back : dsid_of (dsid_bytes h) ≡ h

-- ---- dates
-- eight bytes that are a date
pub record Dated (x : List ℕ) : Type 0 where
  pub long : length x ≡ 8
  pub date : date_good x 0 ≡ true

date_same : {s t : List ℕ} → Same 8 s t → date_good s 0 ≡ date_good t 0
unfolding date_good number_at
date_same e = rw (digits_same 0 4 0 (omega arith) e, digits_same 4 2 0 (omega arith) e, digits_same 6 2 0 (omega arith) e)

-- a date in front of other bytes
date_front : (x ys : List ℕ) → Dated x → date_good (x ++ ys) 0 ≡ true
date_front x ys so = date_same (record { byte = λ k h. get_or-append x ys 0 k (let l = so.long in omega arith) }) ∙ so.date

-- a date inside
date_inside : (d : List ℕ) (i : ℕ) → i + 8 ≤ length d → date_good d i ≡ true → Dated (take 8 (drop i d))
date_inside d i room so = record {
  long = length-take-le 8 (drop i d) (omega (arith, length-drop i d));
  date = date_same (record { byte = λ k h. get_or-take 8 (drop i d) k 0 h }) ∙ date_moved 0 i (record { is = refl }) ∙ so;
}

-- ---- a good DSID
module _ (d : List ℕ) (filled : DsidLaid d) (g : DsidGood d) where
  nineteen : dsnm_end d ≡ 19
  unfolding dsnm_good
  nineteen = eqb-true (dsnm_end d) 19 (both (eqb (dsnm_end d) 19) _ g.name).0

  order : (19 < edtn_end d) × (edtn_end d < updn_end d) × (updn_end d + 22 ≤ psdn_end d) × (psdn_end d < pred_end d) × (pred_end d + 4 ≤ comt_end d) × (comt_end d + 1 ≡ length d)
  unfolding dsid_ends
  order = let n = nineteen in let e = filled.edition in (omega arith, filled.number, filled.issue, filled.product, filled.comment, filled.full)

  front_long : length (take 20 d) ≡ 20
  front_long = let o = order in length-take-le 20 d (omega arith)

  until_name : until_end (drop 7 d) ≡ 12
  unfolding text_end
  until_name = let e = nineteen in omega arith

  edition_range : (1 ≤ edition_in d) × (edition_in d ≤ 9999)
  unfolding edition_in edtn_good digits_within within
  edition_range =
      let w = edtn_end d - (dsnm_end d + 1) in
      let v0 = number_at d (dsnm_end d + 1) w in
      let p = all3 (leb 1 w) (leb w 4) (leb 1 v0 && leb v0 9999) g.edition in
      let r = both (leb 1 v0) (leb v0 9999) p.2 in
      (leb-true _ _ r.0, leb-true _ _ r.1)

  number_range : number_in d ≤ 999
  unfolding number_in updn_digits digits_within within
  number_range =
      let w = updn_end d - (edtn_end d + 1) in
      let v0 = number_at d (edtn_end d + 1) w in
      let p = all3 (leb 1 w) (leb w 3) (leb 0 v0 && leb v0 999) g.number in
      leb-true _ _ (both (leb 0 v0) (leb v0 999) p.2).1

  applied_good : Dated (take 8 (drop (updn_end d + 1) d))
  unfolding issue_fault uadt_good
  applied_good =
      let o = order in
      let a = none_first _ _ g.issue in
      date_inside d (updn_end d + 1) (omega arith) (none_at _ _ a.0)

  issued_good : Dated (take 8 (drop (updn_end d + 9) d))
  unfolding issue_fault uadt_good
  issued_good =
      let o = order in
      let a = none_first _ _ g.issue in
      let b = none_first _ _ a.1 in
      let e : updn_end d + 1 + 8 ≡ updn_end d + 9 = omega arith in
      date_inside d (updn_end d + 9) (omega arith) (rw e at (none_at _ _ b.0))

  edition_width : edtn_end d ≤ 24
  unfolding edtn_good digits_within within
  edition_width =
      let w = edtn_end d - (dsnm_end d + 1) in
      let v0 = number_at d (dsnm_end d + 1) w in
      let p = all3 (leb 1 w) (leb w 4) (leb 1 v0 && leb v0 9999) g.edition in
      let few = leb-true w 4 p.1 in
      let e = nineteen in
      omega arith

  number_width : updn_end d ≤ edtn_end d + 4
  unfolding updn_digits digits_within within
  number_width =
      let w = updn_end d - (edtn_end d + 1) in
      let v0 = number_at d (edtn_end d + 1) w in
      let p = all3 (leb 1 w) (leb w 3) (leb 0 v0 && leb v0 999) g.number in
      let few = leb-true w 3 p.1 in
      omega arith

  known_of : Known d
  known_of =
      let o = order in
      record { name = nineteen; edition = o.0; edition_few = edition_width; number = o.1; number_few = number_width; behind = omega arith }

  -- ---- the same with another UPDN and other dates, written with the fewest digits
  module _ (nu : ℕ) (most : nu ≤ 999) (applied issued : List ℕ) (first : Dated applied) (second : Dated issued) where
    abbrev rest : List ℕ
    rest = drop (updn_end d + 17) d

    abbrev behind : List ℕ
    behind = applied ++ (issued ++ rest)

    abbrev n : List ℕ
    n = dsid_with (take 20 d) (edition_in d) nu behind

    abbrev x : ℕ
    x = fewest (edition_in d)

    abbrev y : ℕ
    y = fewest nu

    -- the first text ends where it did
    name_end : text_end n 7 ≡ 19
    unfolding text_end dsid_with
    name_end =
        let o = order in
        let more = shortest (edition_in d) ++ (31 ∷ (shortest nu ++ (31 ∷ behind))) in
        let past = until_take 13 (drop 7 d) more (rw until_name (omega arith)) (rw length-drop (omega arith)) in
        rw (drop-append-le 7 (take 20 d) more (rw front_long (omega arith)), drop_take 7 13 d, past, until_name)

    edition_ends : edtn_end n ≡ 20 + x
    edition_ends = rw name_end (edition_end (take 20 d) (edition_in d) nu behind front_long)

    number_ends : updn_end n ≡ 21 + x + y
    number_ends = ap (λ (i : ℕ). text_end n (i + 1)) edition_ends ∙ shift (20 + x + 1) (21 + x) (omega arith) ∙ number_end (take 20 d) (edition_in d) nu behind front_long
      where
        shift : (i j : ℕ) → i ≡ j → text_end n i ≡ text_end n j
        shift i j e = rw e

    -- the dates stand behind UPDN, and behind them what stood behind the dates
    from_applied : drop (updn_end n + 1) n ≡ behind
    from_applied =
        let e : updn_end n + 1 ≡ 22 + x + y = (let u = number_ends in omega arith) in
        ap (λ (i : ℕ). drop i n) e ∙ drop_back (take 20 d) (edition_in d) nu behind front_long

    from_issued : drop (updn_end n + 9) n ≡ issued ++ rest
    from_issued =
        let e : updn_end n + 9 ≡ updn_end n + 1 + 8 = omega arith in
        ap (λ (i : ℕ). drop i n) e ∙ sym (drop-drop 8 (updn_end n + 1) n) ∙ ap (drop 8) from_applied ∙ drop_at applied (issued ++ rest) 8 first.long

    from_rest : drop (updn_end n + 17) n ≡ rest
    from_rest =
        let e : updn_end n + 17 ≡ updn_end n + 9 + 8 = omega arith in
        ap (λ (i : ℕ). drop i n) e ∙ sym (drop-drop 8 (updn_end n + 9) n) ∙ ap (drop 8) from_issued ∙ drop_at issued rest 8 second.long

    moved_to : (u w : ℕ) → updn_end n + 17 ≤ u → w + (updn_end n + 17) ≡ u + (updn_end d + 17) → Moved n u d w
    moved_to u w le e =
        let m : Moved n (updn_end n + 17) d (updn_end d + 17) = record { is = from_rest } in
        let a1 : updn_end n + 17 + (u - (updn_end n + 17)) ≡ u = omega arith in
        let a2 : updn_end d + 17 + (u - (updn_end n + 17)) ≡ w = omega arith in
        rw (a1, a2) at (moved_on (u - (updn_end n + 17)) m)

    -- the texts behind end as far behind
    psdn_moved : psdn_end n + updn_end d ≡ psdn_end d + updn_end n
    psdn_moved =
        let m : Moved n (updn_end n + 22) d (updn_end d + 22) = moved_to (updn_end n + 22) (updn_end d + 22) (omega arith) (omega arith) in
        omega (arith, end_moved m)

    pred_moved : pred_end n + updn_end d ≡ pred_end d + updn_end n
    pred_moved =
        let p = psdn_moved in
        let o2 = order.2 in
        let m : Moved n (psdn_end n + 1) d (psdn_end d + 1) = moved_to (psdn_end n + 1) (psdn_end d + 1) (omega arith) (omega arith) in
        omega (arith, end_moved m)

    comt_moved : comt_end n + updn_end d ≡ comt_end d + updn_end n
    comt_moved =
        let p = pred_moved in
        let o2 = order.2 in
        let o3 = order.3 in
        let m : Moved n (pred_end n + 4) d (pred_end d + 4) = moved_to (pred_end n + 4) (pred_end d + 4) (omega arith) (omega arith) in
        omega (arith, end_moved m)

    written_laid : dsid_laid n ≡ true
    unfolding dsid_laid
    written_laid =
        let o2 = order.2 in
        let o3 = order.3 in
        let o4 = order.4 in
        let o5 = order.5 in
        let c = comt_moved in
        let e = number_ends in
        let l = dsid_length (take 20 d) (edition_in d) nu behind front_long in
        let a = length-append applied (issued ++ rest) in
        let b = length-append issued rest in
        let f = first.long in
        let s = second.long in
        let k : length rest ≡ length d - (updn_end d + 17) = length-drop (updn_end d + 17) d in
        eq-eqb (comt_end n + 1) (length n) (omega arith)

    same_front : Same 20 n d
    same_front = record { byte = λ k h. (front_same (take 20 d) (edition_in d) nu behind front_long).byte k h ∙ get_or-take 20 d k 0 h }

    edition_good : edtn_good n (dsnm_end n + 1) (edtn_end n) ≡ true
    unfolding edtn_good digits_within within
    edition_good =
        let r = edition_range in
        let low = r.0 in
        let high = r.1 in
        let some = fewest_some (edition_in d) in
        let few : x ≤ 4 = fewest_most 3 (edition_in d) (omega arith) in
        let wide : 20 + x - (19 + 1) ≡ x = omega arith in
        let e = edition_ends in
        let m = name_end in
        let read : number_at n 20 x ≡ edition_in d = edition_read (take 20 d) (edition_in d) nu behind front_long in
        rw (e, m, wide, le-leb 1 x some, le-leb x 4 few, read, le-leb 1 (edition_in d) low, le-leb (edition_in d) 9999 high)

    number_good : updn_digits false n (edtn_end n + 1) (updn_end n) ≡ true
    unfolding updn_digits digits_within within
    number_good =
        let some = fewest_some nu in
        let few : y ≤ 3 = fewest_most 2 nu (omega arith) in
        let from : edtn_end n + 1 ≡ 21 + x = (let e = edition_ends in omega arith) in
        let wide : 21 + x + y - (21 + x) ≡ y = omega arith in
        let read : number_at n (21 + x) y ≡ nu = nu_read (take 20 d) (edition_in d) nu behind front_long in
        let z : 0 ≤ nu = omega arith in
        rw (number_ends, from, wide, le-leb 1 y some, le-leb y 3 few, read, le-leb 0 nu z, le-leb nu 999 most)

    applied_read : date_good n (updn_end n + 1) ≡ true
    applied_read = date_moved (updn_end n + 1) 0 (record { is = from_applied }) ∙ date_front applied (issued ++ rest) first

    issued_read : date_good n (updn_end n + 1 + 8) ≡ true
    issued_read =
        let e : updn_end n + 1 + 8 ≡ updn_end n + 9 = omega arith in
        rw e (date_moved (updn_end n + 9) 0 (record { is = from_issued }) ∙ date_front issued rest second)

    issue_good : issue_fault false n (updn_end n + 1) ≡ 0
    unfolding issue_fault uadt_good
    issue_good =
        let a = none_first _ _ g.issue in
        let b = none_first _ _ a.1 in
        let c = none_first _ _ b.1 in
        let m : Moved n (updn_end n + 1 + 16) d (updn_end d + 1 + 16) = moved_to (updn_end n + 1 + 16) (updn_end d + 1 + 16) (omega arith) (omega arith) in
        let p : byte_at n (updn_end n + 1 + 16 + 4) ≡ byte_at d (updn_end d + 1 + 16 + 4) = moved_byte 4 m in
        let e : updn_end n + 1 + 16 + 4 ≡ updn_end n + 1 + 20 = omega arith in
        let f : updn_end d + 1 + 16 + 4 ≡ updn_end d + 1 + 20 = omega arith in
        fine_first _ _ (fine_at (updn_end n + 1) _ applied_read)
        (fine_first _ _ (fine_at (updn_end n + 1 + 8) _ issued_read)
        (fine_first _ _ (fine_at (updn_end n + 1 + 16) _ (sted_moved (updn_end n + 1 + 16) (updn_end d + 1 + 16) m ∙ none_at _ _ c.0))
        (fine_at (updn_end n + 1 + 20) _ (rw (rw (e, f) at p) (none_at _ _ c.1)))))

    product_good : product_fault false n (dsid_ends n) ≡ 0
    unfolding product_fault dsid_ends pred_good
    product_good =
        let o2 = order.2 in
        let o3 = order.3 in
        let o4 = order.4 in
        let ps = psdn_moved in
        let pr = pred_moved in
        let co = comt_moved in
        let h = g.product in
        let a = none_first _ _ h in
        let b = none_first _ _ a.1 in
        let c = none_first _ _ b.1 in
        let empty : psdn_end d ≡ updn_end d + 22 = eqb-true _ _ (none_at _ _ a.0) in
        let m1 : Moved n (psdn_end n + 1) d (psdn_end d + 1) = moved_to (psdn_end n + 1) (psdn_end d + 1) (omega arith) (omega arith) in
        let m2 : Moved n (pred_end n + 1) d (pred_end d + 1) = moved_to (pred_end n + 1) (pred_end d + 1) (omega arith) (omega arith) in
        let m4 : Moved n (pred_end n + 4) d (pred_end d + 4) = moved_to (pred_end n + 4) (pred_end d + 4) (omega arith) (omega arith) in
        let pg = none_at _ _ b.0 in
        let pq = both (eqb (pred_end d) (psdn_end d + 1 + 3)) _ pg in
        let pe : pred_end d ≡ psdn_end d + 1 + 3 = eqb-true _ _ pq.0 in
        let front0 : byte_at n (psdn_end n + 1) ≡ byte_at d (psdn_end d + 1) = moved_first m1 in
        let prof : byte_at n (pred_end n + 1) ≡ byte_at d (pred_end d + 1) = moved_first m2 in
        let size : comt_end n - (pred_end n + 4) ≡ comt_end d - (pred_end d + 4) = omega arith in
        fine_first _ _ (fine_at (updn_end n + 22) _ (eq-eqb (psdn_end n) (updn_end n + 22) (omega arith)))
        (fine_first _ _ (fine_at (psdn_end n + 1) _ (rw (eq-eqb (pred_end n) (psdn_end n + 1 + 3) (omega arith), front0, moved_byte 1 m1, moved_byte 2 m1) pq.1))
        (fine_first _ _ (fine_at (pred_end n + 1) _ (rw prof (none_at _ _ c.0)))
        (fine_at (pred_end n + 4) _ (rw (size, m4.is) (none_at _ _ c.1)))))

    written_fine : dsid_fault false n ≡ 0
    written_fine = good_dsid n (record {
      head = head_same same_front ∙ g.head;
      name = rw name_end (name_same 19 same_front ∙ rw nineteen at g.name);
      edition = edition_good;
      number = number_good;
      issue = issue_good;
      product = product_good;
    })

    edition_again : edition_in n ≡ edition_in d
    edition_again =
        let wide : 20 + x - (19 + 1) ≡ x = omega arith in
        edition_is n ∙ rw (edition_ends, name_end, wide) (edition_read (take 20 d) (edition_in d) nu behind front_long)

    number_again : number_in n ≡ nu
    number_again =
        let from : edtn_end n + 1 ≡ 21 + x = (let e = edition_ends in omega arith) in
        let wide : 21 + x + y - (21 + x) ≡ y = omega arith in
        number_is n ∙ rw (number_ends, from, wide) (nu_read (take 20 d) (edition_in d) nu behind front_long)

    written_back : dsid_of n ≡ dated d nu applied issued
    unfolding dsid_of
    written_back =
        rw (
          edition_again,
          number_again,
          from_applied,
          from_issued,
          from_rest,
          take_at applied (issued ++ rest) 8 first.long,
          take_at issued rest 8 second.long,
          take_front (take 20 d) (edition_in d) nu behind front_long,
        )

    all_back : DsidBack (dated d nu applied issued)
    unfolding dsid_bytes
    all_back = record { laid = written_laid; fine = written_fine; back = written_back }

-- ---- a good DSID's value: what is written for it is a good DSID that says the same
pub dsid_back : (d : List ℕ) → dsid_laid d ≡ true → dsid_fault false d ≡ 0 → DsidBack (dsid_of d)
unfolding dsid_of
dsid_back d laid fine =
    let f = dsid_is_laid d laid in
    let g = dsid_good d fine in
    all_back d f g (number_in d) (number_range d f g) (take 8 (drop (updn_end d + 1) d)) (take 8 (drop (updn_end d + 9) d)) (applied_good d f g) (issued_good d f g)

-- ---- the same of the result's: UPDN up to 999 and a date are enough of the update's
revised_back : (d : List ℕ) (e : Dsid) → dsid_laid d ≡ true → dsid_fault false d ≡ 0 → e.number ≤ 999 → Dated e.issued → DsidBack (revised (dsid_of d) e)
unfolding revised dsid_of
revised_back d e laid fine few date = all_back d (dsid_is_laid d laid) (dsid_good d fine) e.number few e.issued e.issued date date

pub revised_good : (h e : Dsid) → DsidBack h → e.number ≤ 999 → Dated e.issued → DsidBack (revised h e)
revised_good h e so few date = rw so.back at (revised_back (dsid_bytes h) e so.laid so.fine few date)

-- what the writer asks of a DSID
pub dsid_known : (d : List ℕ) → dsid_laid d ≡ true → dsid_fault false d ≡ 0 → Known d
dsid_known d laid fine = known_of d (dsid_is_laid d laid) (dsid_good d fine)
