-- What the crates above may use of a framed file: where its records start and end, and what is known of each record and of each of its
-- fields. Assumes nothing.
use Prim.Native.Nat.{ℕ, zero, suc, ◌+◌, ◌-◌, ◌≤◌, ◌<◌}
use mathlib.Core.Bool.{Bool, true, false, cond, ◌&&◌}
use mathlib.Core.List.{List, [], ◌∷◌}
use mathlib.Core.Logic.{⊎_elim, ◌⊎◌, inl, inr}
use mathlib.Core.Path.{◌≡◌, refl, sym, ◌∙◌}
use native.Mathlib.Nat.{add_assoc, le_refl}
use native.Mathlib.Numerals.{add-one}
use native.Mathlib.Omega.{arith}
use lib.ListN.{length, get_or}
use lib.Dec.{eqb, leb}
use borrow.Author.Tests.{eqb-true, leb-true}
use Rattle.std.specs.Prelude.{Result, Ok, Err}
use Rattle.octets.specs.Number.{byte_at}
use Rattle.octets.proofs.Cases.{eq_or_ne}
use Rattle.octets.proofs.Tests.{both, all4}
use Rattle.iso8211.specs.Leader.{size_at, base_at, length_digits, position_digits}
use Rattle.iso8211.specs.Directory.{len, position}
use Rattle.iso8211.specs.Record.{field_good, in_row, record_good, end_of}
use Rattle.iso8211.specs.Field.{count_at, directory_at, field_at, Headed, FieldIn, FieldsIn}
use Rattle.iso8211.specs.Premises.{FramedAt, RecordIn, Due}
use Rattle.iso8211.specs.File.{framed_from, frame_of, record_at}
use Rattle.iso8211.specs.declared.field.Field.{Field}
use Rattle.iso8211.proofs.DirectoryLaws.{rows_length}
use Rattle.iso8211.proofs.RecordLaws.{record_framed, record_row}
use Rattle.iso8211.proofs.FileLaws.{apart, end_past}

-- ---- records
good_from : (f : ℕ) (s : List ℕ) (at k n j : ℕ) → framed_from f s at k ≡ Ok n → at ≡ record_at s k → k ≤ j → j < n → record_good (eqb j 0) s (record_at s j) ≡ true
unfolding framed_from record_at
good_from zero s at k n j v e low high = absurd (let z : ◌≡◌ {A = ℕ} 0 1 = cc in omega arith)
good_from (suc f) s at k n j v e low high =
    let a = apart (record_good (eqb k 0) s at) (eqb (end_of s at) (length s)) k n (framed_from f s (end_of s at) (k + 1)) v in
    ⊎_elim (λ (same : k ≡ j). rw (← same, ← e) a.0)
    (λ (other : k ≡ j → ⊥).
    ⊎_elim (λ (last : (eqb (end_of s at) (length s) ≡ true) × (k + 1 ≡ n)). let m = last.1 in absurd (omega arith))
    (λ (on : (eqb (end_of s at) (length s) ≡ false) × (framed_from f s (end_of s at) (k + 1) ≡ Ok n)).
    good_from f s (end_of s at) (k + 1) n j on.1 (rw (add-one k, e)) (omega arith) high)
    a.1)
    (eq_or_ne k j)

good_at : (s : List ℕ) (n k : ℕ) → frame_of s ≡ Ok n → k < n → record_good (eqb k 0) s (record_at s k) ≡ true
unfolding frame_of record_at
good_at s n k v h = good_from (suc (length s)) s 0 0 n k v refl (omega arith) h

-- each record is framed
pub framed_at : (s : List ℕ) (n k at : ℕ) → frame_of s ≡ Ok n → k < n → at ≡ record_at s k → FramedAt s at
framed_at s n k at v h e = rw e (record_framed (eqb k 0) s (record_at s k) (good_at s n k v h))

-- so that its fields can be read
pub framed_headed : {s : List ℕ} {at : ℕ} → FramedAt s at → Headed s at
framed_headed framed = framed.headed

-- the next starts where it ends
pub at_first : (s : List ℕ) → record_at s 0 ≡ 0
unfolding record_at
at_first s = refl

pub at_next : (s : List ℕ) (k at : ℕ) → at ≡ record_at s k → end_of s at ≡ record_at s (k + 1)
unfolding record_at
at_next s k at e = rw (add-one k, e)

-- the two as a walk over the records takes them, e being what `record_end` answered
pub at_start : (s : List ℕ) → 0 ≡ record_at s 0
at_start s = sym (at_first s)

pub at_on : (s : List ℕ) (k at e : ℕ) → at ≡ record_at s k → e ≡ end_of s at → e ≡ record_at s (k + 1)
at_on s k at e so is = is ∙ at_next s k at so

pub at_past : (s : List ℕ) (n k : ℕ) → frame_of s ≡ Ok n → k < n → record_at s k < record_at s (k + 1)
unfolding record_at
at_past s n k v h = rw (add-one k) (end_past (eqb k 0) s (record_at s k) (good_at s n k v h))

-- a record takes a byte at least
pub at_least : (s : List ℕ) (n k : ℕ) → frame_of s ≡ Ok n → k ≤ n → k ≤ record_at s k
at_least s n zero v h = omega arith
at_least s n (suc k) v h =
    let low = at_least s n k v (omega arith) in
    let past : record_at s k < record_at s (suc k) = rw (add-one k) at (at_past s n k v (omega arith)) in
    omega arith

ends_from : (f : ℕ) (s : List ℕ) (at k n : ℕ) → framed_from f s at k ≡ Ok n → at ≡ record_at s k → (k < n) × (record_at s n ≡ length s)
unfolding framed_from record_at
ends_from zero s at k n v e = absurd (let z : ◌≡◌ {A = ℕ} 0 1 = cc in omega arith)
ends_from (suc f) s at k n v e =
    let a = apart (record_good (eqb k 0) s at) (eqb (end_of s at) (length s)) k n (framed_from f s (end_of s at) (k + 1)) v in
    ⊎_elim (λ (last : (eqb (end_of s at) (length s) ≡ true) × (k + 1 ≡ n)).
    (let m = last.1 in omega arith, rw (← last.1, add-one k) (rw (← e) (eqb-true _ _ last.0))))
    (λ (on : (eqb (end_of s at) (length s) ≡ false) × (framed_from f s (end_of s at) (k + 1) ≡ Ok n)).
    let r = ends_from f s (end_of s at) (k + 1) n on.1 (rw (add-one k, e)) in (let q = r.0 in omega arith, r.1))
    a.1

-- "one or more records and nothing after"
pub last_ends : (s : List ℕ) (n : ℕ) → frame_of s ≡ Ok n → (0 < n) × (record_at s n ≡ length s)
unfolding frame_of record_at
last_ends s n v = ends_from (suc (length s)) s 0 0 n v refl

-- the number in a verdict is at most that of the bytes
pub records_few : (s : List ℕ) (n : ℕ) → frame_of s ≡ Ok n → n ≤ length s
records_few s n v = let low = at_least s n n v (le_refl n) in let e = last_ends s n v in omega (arith, e.1)

pub broken_apart : (good last : Bool) (k j : ℕ) (on : Result ℕ ℕ) → cond good (cond last (Ok (k + 1)) on) (Err k) ≡ Err j → (k ≡ j) ⊎ ((good ≡ true) × (on ≡ Err j))
broken_apart true true k j on v = absurd (let z : ◌≡◌ {A = ℕ} 0 1 = cc in omega arith)
broken_apart true false k j on v = inr (refl, v)
broken_apart false last k j on v = inl cc

broken_from : (f : ℕ) (s : List ℕ) (at k j : ℕ) → framed_from f s at k ≡ Err j → k ≤ at → at ≤ length s → j ≤ length s
unfolding framed_from
broken_from zero s at k j v low high = let e : k ≡ j = cc in omega arith
broken_from (suc f) s at k j v low high =
    ⊎_elim (λ (e : k ≡ j). omega arith)
    (λ (on : (record_good (eqb k 0) s at ≡ true) × (framed_from f s (end_of s at) (k + 1) ≡ Err j)).
    let past = end_past (eqb k 0) s at on.0 in
    let fits = (record_framed (eqb k 0) s at on.0).fits in
    broken_from f s (end_of s at) (k + 1) j on.1 (omega arith) fits)
    (broken_apart (record_good (eqb k 0) s at) (eqb (end_of s at) (length s)) k j (framed_from f s (end_of s at) (k + 1)) v)

pub broken_few : (s : List ℕ) (k : ℕ) → frame_of s ≡ Err k → k ≤ length s
unfolding frame_of
broken_few s k v = broken_from (suc (length s)) s 0 0 k v (omega arith) (omega arith)

-- ---- fields
row_in : (s : List ℕ) (body size due : ℕ) (es : List (List ℕ)) (j : ℕ) → in_row s body size es due ≡ true → j < length es
    → (1 ≤ len (get_or es j [])) × (position (get_or es j []) + len (get_or es j []) ≤ size) × (byte_at s (body + (position (get_or es j []) + len (get_or es j [])) - 1) ≡ 30)
unfolding in_row field_good
row_in s body size due [] j v h = absurd (omega arith)
row_in s body size due (e ∷ es) zero v h =
    let p = both _ (in_row s body size es (due + len e)) v in
    let q = all4 (eqb (position e) due) (leb 1 (len e)) (leb (due + len e) size) (eqb (byte_at s (body + (due + len e) - 1)) 30) p.0 in
    let at : position e ≡ due = eqb-true _ _ q.0 in
    (leb-true _ _ q.1, rw at (leb-true _ _ q.2), rw at (eqb-true _ _ q.3))
row_in s body size due (e ∷ es) (suc j) v h =
    let p = both (eqb (position e) due && (leb 1 (len e) && (leb (due + len e) size && eqb (byte_at s (body + (due + len e) - 1)) 30))) (in_row s body size es (due + len e)) v in
    row_in s body size (due + len e) es j p.1 (omega arith)

-- how many fields
pub directory_length : (s : List ℕ) (at : ℕ) → length (directory_at s at) ≡ count_at s at
unfolding directory_at
directory_length s at = rows_length (count_at s at) s (length_digits s at) (position_digits s at) (at + 24)

-- "Field positions start at 0, follow without gaps"
row_next : (s : List ℕ) (body size due : ℕ) (es : List (List ℕ)) (j : ℕ) → in_row s body size es due ≡ true → j + 1 < length es
    → position (get_or es (suc j) []) ≡ position (get_or es j []) + len (get_or es j [])
unfolding in_row field_good
row_next s body size due [] j v h = absurd (omega arith)
row_next s body size due (e ∷ []) zero v h = absurd (omega arith)
row_next s body size due (e ∷ f ∷ es) zero v h =
    let p = both _ (in_row s body size (f ∷ es) (due + len e)) v in
    let here = all4 (eqb (position e) due) (leb 1 (len e)) (leb (due + len e) size) _ p.0 in
    let q = both _ (in_row s body size es (due + len e + len f)) p.1 in
    let next = all4 (eqb (position f) (due + len e)) (leb 1 (len f)) (leb (due + len e + len f) size) _ q.0 in
    let at : position e ≡ due = eqb-true _ _ here.0 in
    eqb-true _ _ next.0 ∙ rw at
row_next s body size due (e ∷ es) (suc j) v h =
    let p = both (eqb (position e) due && (leb 1 (len e) && (leb (due + len e) size && eqb (byte_at s (body + (due + len e) - 1)) 30))) (in_row s body size es (due + len e)) v in
    row_next s body size (due + len e) es j p.1 (omega arith)

row_first : (s : List ℕ) (body size due : ℕ) (es : List (List ℕ)) → in_row s body size es due ≡ true → 0 < length es → position (get_or es 0 []) ≡ due
unfolding in_row field_good
row_first s body size due [] v h = absurd (omega arith)
row_first s body size due (e ∷ es) v h =
    let p = both _ (in_row s body size es (due + len e)) v in
    eqb-true _ _ (all4 (eqb (position e) due) (leb 1 (len e)) (leb (due + len e) size) _ p.0).0

-- fields in a row: `size` bytes of them, behind the directory
module _ (s : List ℕ) (at size : ℕ) (row : in_row s (at + base_at s at) size (directory_at s at) 0 ≡ true) where
  -- each lies there
  field_in : (j : ℕ) → j < count_at s at → FieldIn s at (at + base_at s at + size) (field_at s at j)
  unfolding field_at
  field_in j less =
      let es = directory_at s at in
      let facts = row_in s (at + base_at s at) size 0 es j row (rw (directory_length s at) less) in
      let long = facts.0 in
      let within = facts.1 in
      record {
        after = omega arith;
        long = long;
        within = omega arith;
        ends = rw (add_assoc (at + base_at s at) (position (get_or es j [])) (len (get_or es j []))) facts.2;
      }

  -- the first starts at the base address
  field_first : 1 ≤ count_at s at → (field_at s at 0).start ≡ at + base_at s at
  unfolding field_at
  field_first some =
      let z : position (get_or (directory_at s at) 0 []) ≡ 0 = row_first s (at + base_at s at) size 0 (directory_at s at) row (rw (directory_length s at) some) in
      omega arith

  -- each starts where the one before it ends
  field_next : (j : ℕ) → j + 1 < count_at s at → (field_at s at (j + 1)).start ≡ (field_at s at j).start + (field_at s at j).length
  unfolding field_at
  field_next j less =
      let next = row_next s (at + base_at s at) size 0 (directory_at s at) j row (rw (directory_length s at) less) in
      rw (add-one j) (omega arith)

  -- so that they can be read
  pub fields_row : Headed s at → at + base_at s at + size ≤ length s → base_at s at + size ≤ 300000 → FieldsIn s at
  fields_row headed fits small = record {
    headed = headed;
    end = at + base_at s at + size;
    fits = fits;
    small = omega arith;
    fields = field_in;
    front = field_first headed.some;
    gapless = field_next;
  }

-- a good record with its fields
pub good_in : (first : Bool) (s : List ℕ) (at : ℕ) → record_good first s at ≡ true → RecordIn s at
good_in first s at good =
    let framed = record_framed first s at good in
    let high = framed.high in
    let size = size_at s at - base_at s at in
    let end : at + base_at s at + size ≡ end_of s at = omega arith in
    let row = record_row first s at good in
    record {
      framed = framed;
      fields = λ (j : ℕ) (less : j < count_at s at). rw (← end) (field_in s at size row j less);
      front = field_first s at size row framed.headed.some;
      gapless = field_next s at size row;
    }

-- each record of a framed file
pub record_in : (s : List ℕ) (n k at : ℕ) → frame_of s ≡ Ok n → k < n → at ≡ record_at s k → RecordIn s at
record_in s n k at v h e = good_in (eqb k 0) s at (rw e (good_at s n k v h))

-- the same by its directory alone
pub fields_in : {s : List ℕ} {at : ℕ} → RecordIn s at → FieldsIn s at
fields_in {s} {at} known = record {
  headed = known.framed.headed;
  end = end_of s at;
  fits = known.framed.fits;
  small = let small = known.framed.small in omega arith;
  fields = known.fields;
  front = known.front;
  gapless = known.gapless;
}

-- ---- a walk over the fields of a record: where each starts
pub due_first : {s : List ℕ} {at : ℕ} (x : ℕ) → RecordIn s at → x ≡ at + base_at s at → Due s at 0 x
due_first x known e = record { is = λ h. e ∙ sym known.front }

pub due_next : {s : List ℕ} {at : ℕ} (j : ℕ) (f : Field) → RecordIn s at → f ≡ field_at s at j → Due s at (j + 1) (f.start + f.length)
due_next {s} {at} j f known e = record { is = λ h. rw e (sym (known.gapless j h)) }
