-- Laws of rows and of the walk that judges their fields: its equations, and one law for each way through a turn. Assumes nothing.
use Prim.Native.Nat.{ℕ, zero, suc, ◌+◌, ◌-◌, ◌*◌, ◌/◌, ◌≤◌, ◌<◌}
use mathlib.Core.Bool.{false, ◌&&◌}
use mathlib.Core.List.{List, [], ◌∷◌, ◌++◌}
use mathlib.Core.Path.{◌≡◌, refl, sym, ap, ◌∙◌}
use native.Mathlib.Nat.{add-zero, zero-add, add_assoc, suc-mul, mul-le-mul_right}
use native.Mathlib.Numerals.{add-one}
use native.Mathlib.Omega.{arith}
use lib.ListN.{length, take, drop, get_or, set, length-take, drop_of_length-le}
use lib.Seq.{drop-cons, get_or-take, take-suc-set, length-take-le}
use lib.Dec.{leb, eqb}
use borrow.Author.Tests.{le-leb, lt-leb, eq-eqb, ne_eqb}
use Rattle.std.specs.Prelude.{Option, Some, None}
use Rattle.octets.specs.Number.{byte_at}
use Rattle.octets.specs.Digits.{number_at}
use Rattle.octets.specs.Premises.{Number, Sure}
use Rattle.iso8211.specs.Directory.{tag_at, row_at, row_width, rows, len, position}
use Rattle.iso8211.specs.Record.{field_good, in_row}
use Rattle.iso8211.specs.Premises.{onward, StepWithin, RowStep, BatchStep, Rowed, Due}
use Rattle.iso8211.specs.Leader.{base_at, length_digits, position_digits}
use Rattle.iso8211.specs.Field.{count_at, directory_at, field_at, Headed, FieldsIn}
use Rattle.iso8211.specs.declared.field.Field.{Field}

-- ---- a row
pub row_is : (s : List ℕ) (l p i t a b : ℕ) → t ≡ tag_at s i → Number s (i + 4) l a → Number s (i + 4 + l) p b → t ∷ a ∷ b ∷ [] ≡ row_at s l p i
unfolding row_at
row_is s l p i t a b e f g = rw (e, ← f.is, ← g.is)

-- ---- rows
pub rows_length : (n : ℕ) (s : List ℕ) (l p i : ℕ) → length (rows n s l p i) ≡ n
unfolding rows
rows_length zero s l p i = refl
rows_length (suc n) s l p i = ap suc (rows_length n s l p (i + row_width l p))

-- row k
pub rows_row : (n k : ℕ) (s : List ℕ) (l p i : ℕ) → k < n → get_or (rows n s l p i) k [] ≡ row_at s l p (i + k * row_width l p)
unfolding rows
rows_row zero k s l p i h = absurd (omega arith)
rows_row (suc n) zero s l p i h = rw (native.Mathlib.Nat.zero-mul, add-zero)
rows_row (suc n) (suc k) s l p i h =
    rows_row n k s l p (i + row_width l p) (omega arith)
    ∙ ap (row_at s l p) (add_assoc i (row_width l p) (k * row_width l p)
    ∙ ap (λ (x : ℕ). i + x) (native.Mathlib.Nat.add_comm (row_width l p) (k * row_width l p) ∙ sym (suc-mul k (row_width l p))))

-- one row more at the end
rows_grow : (n : ℕ) (s : List ℕ) (l p i : ℕ) → rows (suc n) s l p i ≡ rows n s l p i ++ (row_at s l p (i + n * row_width l p) ∷ [])
unfolding rows
rows_grow zero s l p i = rw (native.Mathlib.Nat.zero-mul, add-zero)
rows_grow (suc n) s l p i =
    ap (λ (r : List (List ℕ)). row_at s l p i ∷ r)
    (rows_grow n s l p (i + row_width l p)
    ∙ ap (λ (k : ℕ). rows n s l p (i + row_width l p) ++ (row_at s l p k ∷ []))
    (add_assoc i (row_width l p) (n * row_width l p) ∙ ap (λ (x : ℕ). i + x) (native.Mathlib.Nat.add_comm (row_width l p) (n * row_width l p) ∙ sym (suc-mul n (row_width l p)))))

-- the rows of a batch and the rest
pub rows_split : (n m c : ℕ) (s : List ℕ) (l p i : ℕ) → c ≡ n + m → rows c s l p i ≡ rows n s l p i ++ rows m s l p (i + n * row_width l p)
unfolding rows
rows_split zero m c s l p i e = rw (e, zero-add m, native.Mathlib.Nat.zero-mul, add-zero i)
rows_split (suc n) m zero s l p i e = absurd (omega arith)
rows_split (suc n) m (suc c) s l p i e =
    ap (λ (r : List (List ℕ)). row_at s l p i ∷ r)
    (rows_split n m c s l p (i + row_width l p) (omega arith)
    ∙ ap (λ (k : ℕ). rows n s l p (i + row_width l p) ++ rows m s l p k)
    (add_assoc i (row_width l p) (n * row_width l p) ∙ ap (λ (x : ℕ). i + x) (native.Mathlib.Nat.add_comm (row_width l p) (n * row_width l p) ∙ sym (suc-mul n (row_width l p)))))

-- ---- batch: one row a turn
pub row_room : (i k n w long : ℕ) → k < n → i + n * w ≤ long → i + k * w + w ≤ long
row_room i k n w long h fit = let step : (k + 1) * w ≤ n * w = mul-le-mul_right w (omega arith) in omega (arith, suc-mul k w, ap (λ (x : ℕ). x * w) (add-one k))

pub row_next : (i k w at : ℕ) → at ≡ i + k * w → at + w ≡ i + (k + 1) * w
row_next i k w at e = rw (e, add-one k, suc-mul k w) (omega arith)

pub batch_more : (s : List ℕ) (l p i at k : ℕ) (out : List (List ℕ)) (row : List ℕ) → k < length out → at ≡ i + k * row_width l p → take k out ≡ rows k s l p i
    → row ≡ row_at s l p at
    → take (k + 1) (set out k row) ≡ rows (k + 1) s l p i
batch_more s l p i at k out row h e so r = rw (add-one k, take-suc-set out k row h, so, rows_grow k s l p i, r, e)

-- ---- the walk's equations
in_row_end : (s : List ℕ) (body size due : ℕ) → in_row s body size [] due ≡ eqb due size
unfolding in_row
in_row_end s body size due = refl

pub in_row_next : (s : List ℕ) (body size due : ℕ) (row : List ℕ) (more : List (List ℕ)) → in_row s body size (row ∷ more) due
    ≡ (field_good s body size due row && in_row s body size more (due + len row))
unfolding in_row
in_row_next s body size due row more = refl

-- ---- a tag, from its four bytes
pub tag_is : (s : List ℕ) (i a b d e : ℕ) → a ≡ byte_at s i → b ≡ byte_at s (i + 1) → d ≡ byte_at s (i + 2) → e ≡ byte_at s (i + 3) → ((a * 256 + b) * 256 + d) * 256 + e ≡ tag_at s i
unfolding tag_at
tag_is s i a b d e ha hb hd he = rw (ha, hb, hd, he)

pub rows_none : (s : List ℕ) (l p i : ℕ) → [] ≡ rows 0 s l p i
unfolding rows
rows_none s l p i = refl

-- the whole batch
pub batch_all : (s : List ℕ) (l p i k n : ℕ) (out : List (List ℕ)) → k ≤ n → n ≤ k → take k out ≡ rows k s l p i → take n out ≡ rows n s l p i
batch_all s l p i k n out a b so = let e : k ≡ n = omega arith in rw e at so

-- a bad step is within any size
pub bad_within : (size : ℕ) → StepWithin size None
unfolding StepWithin
bad_within size = tt

pub on_within : (size due : ℕ) → due ≤ size → StepWithin size (Some due)
unfolding StepWithin
on_within size due h = h

-- ---- field_step: one law for each way out
-- a test that fails, or all that hold, of a row with these two numbers
by_row : (s : List ℕ) (body size due long place : ℕ) (row : List ℕ) → len row ≡ long → position row ≡ place
    → field_good s body size due row ≡ (eqb place due && (leb 1 long && (leb (due + long) size && eqb (byte_at s (body + (due + long) - 1)) 30)))
unfolding field_good
by_row s body size due long place row e f = rw (e, f)

row_bad : (s : List ℕ) (body size due long place : ℕ) → (eqb place due && (leb 1 long && (leb (due + long) size && eqb (byte_at s (body + (due + long) - 1)) 30))) ≡ false
    → RowStep s body size long place due None
unfolding onward
row_bad s body size due long place h = record {
  is = λ row more e f. in_row_next s body size due row more ∙ rw (by_row s body size due long place row e f ∙ h);
  within = bad_within size;
}

module _ (s : List ℕ) (body size due long place : ℕ) where
  pub place_bad : (place ≡ due → ⊥) → RowStep s body size long place due None
  place_bad h = row_bad s body size due long place (rw (ne_eqb _ _ h))

  pub short_bad : place ≡ due → long < 1 → RowStep s body size long place due None
  short_bad e h = row_bad s body size due long place (rw (eq-eqb _ _ e, lt-leb _ _ h))

  pub long_bad : place ≡ due → 1 ≤ long → size < due + long → RowStep s body size long place due None
  long_bad e l h = row_bad s body size due long place (rw (eq-eqb _ _ e, le-leb _ _ l, lt-leb _ _ h))

  pub end_bad : place ≡ due → 1 ≤ long → due + long ≤ size → (byte_at s (body + (due + long) - 1) ≡ 30 → ⊥) → RowStep s body size long place due None
  end_bad e l f h = row_bad s body size due long place (rw (eq-eqb _ _ e, le-leb _ _ l, le-leb _ _ f, ne_eqb _ _ h))

  pub row_good : place ≡ due → 1 ≤ long → due + long ≤ size → byte_at s (body + (due + long) - 1) ≡ 30 → RowStep s body size long place due (Some (due + long))
  unfolding onward
  row_good e l f h = record {
    is = λ row more g k. in_row_next s body size due row more ∙ rw (by_row s body size due long place row g k, eq-eqb _ _ e, le-leb _ _ l, le-leb _ _ f, eq-eqb _ _ h, g);
    within = on_within size (due + long) f;
  }

-- ---- judged: row by row
-- the first n rows from row k on
pub peel : (batch : List (List ℕ)) (k n : ℕ) → k < n → n ≤ length batch → drop k (take n batch) ≡ get_or batch k [] ∷ drop (k + 1) (take n batch)
peel batch k n h f =
    rw (add-one k) (drop-cons (take n batch) k [] (rw (length-take-le n batch f) h) ∙ ap (λ (row : List ℕ). row ∷ drop (suc k) (take n batch)) (get_or-take n batch k [] h))

-- the fields of these rows are good exactly if those from row k on are, the next due at `at`
pub record Rowing (s : List ℕ) (body size : ℕ) (some : List (List ℕ)) (due k at : ℕ) : Type 0 where
  pub is : (more : List (List ℕ)) → in_row s body size (some ++ more) due ≡ in_row s body size (drop k some ++ more) at

pub rowing_start : (s : List ℕ) (body size : ℕ) (some : List (List ℕ)) (due : ℕ) → Rowing s body size some due 0 due
rowing_start s body size some due = record { is = λ more. refl }

module _ {s : List ℕ} {body size due k at n long place : ℕ} (batch : List (List ℕ)) (so : Rowing s body size (take n batch) due k at) (here : k < n) (fit : n ≤ length batch)
    (e : len (get_or batch k []) ≡ long) (f : position (get_or batch k []) ≡ place) where
  onto : {r : Option ℕ} → RowStep s body size long place at r → (more : List (List ℕ)) → in_row s body size (take n batch ++ more) due ≡ onward s body size
      (drop (k + 1) (take n batch) ++ more) r
  onto step more = so.is more ∙ ap (λ (x : List (List ℕ)). in_row s body size (x ++ more) at) (peel batch k n here fit)
      ∙ step.is (get_or batch k []) (drop (k + 1) (take n batch) ++ more) e f

  pub rowing_bad : {r : Option ℕ} → RowStep s body size long place at r → r ≡ None → BatchStep s body size (take n batch) due None
  unfolding onward
  rowing_bad step told = let bad = rw told at step in record { is = onto bad; within = bad_within size }

  pub rowing_on : {r : Option ℕ} {next : ℕ} → RowStep s body size long place at r → r ≡ Some next → Rowing s body size (take n batch) due (k + 1) next
  unfolding onward
  rowing_on {next = next} step told = let on = rw told at step in record { is = onto on }

pub step_most : {s : List ℕ} {body size long place due : ℕ} {r : Option ℕ} {next : ℕ} → RowStep s body size long place due r → r ≡ Some next → next ≤ size
unfolding StepWithin
step_most step told = (rw told at step).within

pub rowing_end : {s : List ℕ} {body size : ℕ} {due at : ℕ} (k n : ℕ) (batch : List (List ℕ)) → n ≤ k → at ≤ size → Rowing s body size (take n batch) due k at
    → BatchStep s body size (take n batch) due (Some at)
unfolding onward
rowing_end {s} {body} {size} {due} {at} k n batch h w so = record {
  is = λ more. so.is more ∙ ap (λ (x : List (List ℕ)). in_row s body size (x ++ more) at) (drop_of_length-le (take n batch) {i = k} (rw length-take (omega arith)));
  within = on_within size at w;
}

-- ---- the place of a row
pub row_within : {s : List ℕ} {at l p k : ℕ} → Rowed s at l p k → at + 24 + k * (4 + l + p) + (4 + l + p) ≤ length s
row_within {s} {at} {l} {p} {k} r =
    let w = row_width (length_digits s at) (position_digits s at) in
    let step = row_room (at + 24) k (count_at s at) w (at + 24 + count_at s at * w) r.below (native.Mathlib.Nat.le_refl (at + 24 + count_at s at * w)) in
    rw (r.lengths, r.positions) (let whole = r.headed.whole in let room = r.headed.room in omega arith)

-- ---- the numbers of the leader
pub base_sure : {s : List ℕ} {at : ℕ} → Headed s at → Sure s (at + 12) 5
base_sure {s} {at} headed =
    let there = headed.led.there in
    let short = headed.short in
    record { few = omega arith; room = omega arith; number = omega arith }

pub count_is : (s : List ℕ) (at base l p : ℕ) → base ≡ base_at s at → l ≡ length_digits s at → p ≡ position_digits s at → (base - 25) / (4 + l + p) ≡ count_at s at
unfolding count_at
count_is s at base l p e f g = rw (e, f, g)

-- ---- field k, from its row's three numbers
pub field_is : (s : List ℕ) (at base l p i k : ℕ) (row : List ℕ) → row ≡ row_at s l p i → i ≡ at + 24 + k * row_width l p → base ≡ base_at s at → Rowed s at l p k
    → record { tag = get_or row 0 0; start = at + base + get_or row 2 0; length = get_or row 1 0 } ≡ field_at s at k
unfolding field_at directory_at
field_is s at base l p i k row e f g r =
    rw (g, rows_row (count_at s at) k s (length_digits s at) (position_digits s at) (at + 24) r.below, ← r.lengths, ← r.positions, ← f, ← e)

-- its tag alone
pub field_tag : (s : List ℕ) (at l p i k t : ℕ) → Rowed s at l p k → i ≡ at + 24 + k * row_width l p → t ≡ tag_at s i → t ≡ (field_at s at k).tag
unfolding row_at
field_tag s at l p i k t r place is =
    is ∙ ap (λ (f : Field). f.tag) (field_is s at (base_at s at) l p i k (row_at s l p i) refl place refl r)

-- the same where its start is known
pub field_on_is : (s : List ℕ) (at l p i k t n start : ℕ) → Rowed s at l p k → i ≡ at + 24 + k * row_width l p → t ≡ tag_at s i → n ≡ number_at s (i + 4) l → Due s at k start
    → record { tag = t; start = start; length = n } ≡ field_at s at k
unfolding row_at
field_on_is s at l p i k t n start r place is long due =
    let whole = field_is s at (base_at s at) l p i k (row_at s l p i) refl place refl r in
    let there = due.is r.below ∙ ap (λ (f : Field). f.start) (sym whole) in
    rw (is, long, there) whole

-- its length is a number: the field lies in the file
pub length_sure : (s : List ℕ) (at l p i k : ℕ) → Rowed s at l p k → i ≡ at + 24 + k * row_width l p → i + row_width l p ≤ length s → FieldsIn s at → Sure s (i + 4) l
unfolding row_at
length_sure s at l p i k r place room inside =
    let whole = field_is s at (base_at s at) l p i k (row_at s l p i) refl place refl r in
    let long : number_at s (i + 4) l ≡ (field_at s at k).length = ap (λ (f : Field). f.length) whole in
    let field = inside.fields k r.below in
    let after = field.after in
    let within = field.within in
    let small = inside.small in
    let digits = r.lengths in
    let nine = r.headed.led.l_high in
    record { few = omega arith; room = omega arith; number = omega arith }
