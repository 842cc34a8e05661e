-- What is written as a record is framed, and has the fields that it was written from. Assumes nothing.
use Prim.Native.Nat.{ℕ, suc, ◌+◌, ◌-◌, ◌*◌, ◌/◌, ◌%◌, ◌^◌, ◌≤◌, ◌<◌}
use mathlib.Core.Bool.{true, false}
use mathlib.Core.List.{List, [], ◌∷◌, ◌++◌, append_assoc}
use mathlib.Core.Path.{◌≡◌, refl, sym, ap, ◌∙◌}
use native.Mathlib.Nat.{suc-mul, mul-le-mul_right, mul-mod_left, mul-div_left}
use native.Mathlib.Omega.{arith}
use lib.ListN.{length, take, drop, get_or, length-append}
use lib.Seq.{get_or_at}
use lib.Dec.{lit<}
use borrow.Author.Tests.{le-leb, eq-eqb}
use Rattle.octets.specs.Number.{byte_at}
use Rattle.octets.specs.Digits.{digits_of}
use Rattle.octets.specs.Area.{Has}
use Rattle.octets.proofs.AreaLaws.{has_at, has_left, has_right, has_head, has_tail, has_part}
use Rattle.octets.proofs.DigitsLaws.{digits_length, number_read, fewest_least, fewest_some, fewest_most}
use Rattle.iso8211.specs.Leader.{size_at, base_at, length_digits, position_digits, kind_good, size_good, leader_good}
use Rattle.iso8211.specs.Directory.{tag_at, row_at, rows, len, position, row_width}
use Rattle.iso8211.specs.Record.{field_good, in_row, body_good, record_good, end_of}
use Rattle.iso8211.specs.Field.{count_at, directory_at, field_at, Headed, FieldsIn}
use Rattle.iso8211.proofs.Promise.{fields_row}
use Rattle.records.specs.Pieces.{Piece}
use Rattle.records.specs.Premises.{piece_of, pieces_from, pieces_at}
use Rattle.records.specs.Written.{tag_bytes, piece_length, body_of, rows_for, longest, farthest, length_size, position_size, row_bytes, rows_bytes, base_for, leader_of, head_over}
use Rattle.records.specs.Written.{head_bytes, record_bytes, size_of, Fits}

-- ---- lengths
pub rows_count : (fs : List Piece) (due : ℕ) → length (rows_for due fs) ≡ length fs
unfolding rows_for
rows_count [] due = refl
rows_count (f ∷ fs) due = ap suc (rows_count fs (due + piece_length f))

pub row_length : (l p : ℕ) (e : List ℕ) → length (row_bytes l p e) ≡ row_width l p
unfolding row_bytes tag_bytes
row_length l p e = rw (length-append, length-append (digits_of l (len e)) (digits_of p (position e)), digits_length l (len e), digits_length p (position e)) (omega arith)

pub rows_length : (l p : ℕ) (es : List (List ℕ)) → length (rows_bytes l p es) ≡ length es * row_width l p
unfolding rows_bytes
rows_length l p [] = sym (native.Mathlib.Nat.zero-mul (row_width l p))
rows_length l p (e ∷ es) = rw (length-append, row_length l p e, rows_length l p es, suc-mul (length es) (row_width l p)) (omega arith)

pub leader_length : (size base l p : ℕ) → length (leader_of size base l p) ≡ 24
unfolding leader_of digits_of
leader_length size base l p = refl

pub head_length : (size l p : ℕ) (es : List (List ℕ)) (base : ℕ) → length (head_over size base l p es) ≡ 25 + length es * row_width l p
unfolding head_over
head_length size l p es base = rw (length-append, leader_length size base l p, length-append, rows_length l p es) (omega arith)

pub record_length : (fs : List Piece) → length (record_bytes fs) ≡ size_of fs
unfolding record_bytes head_bytes size_of base_for
record_length fs =
    let es = rows_for 0 fs in
    rw (length-append, head_length (base_for es + length (body_of fs)) (length_size es) (position_size es) es (base_for es))

-- ---- bounds
longest_within : (fs : List Piece) (due : ℕ) → longest (rows_for due fs) ≤ length (body_of fs)
unfolding longest rows_for body_of
longest_within [] due = omega arith
longest_within (f ∷ fs) due = rw length-append (let r = longest_within fs (due + piece_length f) in omega arith)

farthest_within : (fs : List Piece) (due : ℕ) → farthest (rows_for due fs) ≤ due + length (body_of fs)
unfolding farthest rows_for body_of
farthest_within [] due = omega arith
farthest_within (f ∷ fs) due = rw length-append (let r = farthest_within fs (due + piece_length f) in omega arith)

-- ---- a row is read back
tag_read : {s : List ℕ} {i : ℕ} (t : ℕ) → Has s i (tag_bytes t) → tag_at s i ≡ t
unfolding tag_at tag_bytes
tag_read {s} {i} t h =
    let a = has_head h in
    let b = h.byte 1 (lit< tt) in
    let c = h.byte 2 (lit< tt) in
    let d = h.byte 3 (lit< tt) in
    rw (a, b, c, d) (omega arith)

tag_past : {s : List ℕ} {i : ℕ} (t : ℕ) (xs : List ℕ) → Has s i (tag_bytes t ++ xs) → Has s (i + 4) xs
unfolding tag_bytes
tag_past t xs h = has_right (tag_bytes t) xs h

row_read : {s : List ℕ} {i : ℕ} (l p t n d : ℕ) → n < 10 ^ l → d < 10 ^ p → Has s i (row_bytes l p (t ∷ n ∷ d ∷ [])) → row_at s l p i ≡ t ∷ n ∷ d ∷ []
unfolding row_at row_bytes
row_read {s} {i} l p t n d small near h =
    let a = has_left (tag_bytes t) (digits_of l n ++ digits_of p d) h in
    let r = tag_past t (digits_of l n ++ digits_of p d) h in
    let b = has_left (digits_of l n) (digits_of p d) r in
    let e : Has s (i + 4 + l) (digits_of p d) = has_at (i + 4 + l) (rw digits_length) (has_right (digits_of l n) (digits_of p d) r) in
    rw (tag_read t a, number_read l n small b, number_read p d near e)

rows_read : (fs : List Piece) (l p due : ℕ) {s : List ℕ} {i : ℕ} → longest (rows_for due fs) < 10 ^ l → farthest (rows_for due fs) < 10 ^ p → Has s i (rows_bytes l p (rows_for due fs))
    → rows (length fs) s l p i ≡ rows_for due fs
unfolding rows rows_for rows_bytes longest farthest
rows_read [] l p due long far h = refl
rows_read (f ∷ fs) l p due {s} {i} long far h =
    let n = piece_length f in
    let e : List ℕ = f.named ∷ n ∷ due ∷ [] in
    let es = rows_for (due + n) fs in
    let first = row_read l p f.named n due (omega arith) (omega arith) (has_left (row_bytes l p e) (rows_bytes l p es) h) in
    let rest = rows_read fs l p (due + n) (omega arith) (omega arith) (has_at (i + row_width l p) (rw (row_length l p e)) (has_right (row_bytes l p e) (rows_bytes l p es) h)) in
    rw (first, rest)

-- ---- the fields follow each other and end in 1E
in_row_read : (fs : List Piece) (s : List ℕ) (body size due : ℕ) → size ≡ due + length (body_of fs) → Has s (body + due) (body_of fs) → in_row s body size (rows_for due fs) due ≡ true
unfolding in_row field_good rows_for body_of
in_row_read [] s body size due e h = eq-eqb due size (omega arith)
in_row_read (f ∷ fs) s body size due e h =
    let c = f.content in
    let n = piece_length f in
    let sum : size ≡ due + (length c + suc (length (body_of fs))) = rw length-append at e in
    let r = has_right c (30 ∷ body_of fs) h in
    let last : byte_at s (body + (due + n) - 1) ≡ 30 = ap (λ (k : ℕ). byte_at s k) (omega arith) ∙ has_head r in
    let rest = in_row_read fs s body size (due + n) (omega arith) (has_at (body + (due + n)) (omega arith) (has_tail r)) in
    rw (eq-eqb due due refl, le-leb 1 n (omega arith), le-leb (due + n) size (omega arith), eq-eqb _ _ last, rest)

-- ---- the leader, but for the length of the record
pub record LeaderRead (s : List ℕ) (at base l p : ℕ) : Type 0 where
  pub there : at + 24 ≤ length s
  pub base_is : base_at s at ≡ base
  pub data_is : byte_at s (at + 6) ≡ 68
  pub l_is : byte_at s (at + 20) ≡ 48 + l
  pub p_is : byte_at s (at + 21) ≡ 48 + p
  pub zero_is : byte_at s (at + 22) ≡ 48
  pub four_is : byte_at s (at + 23) ≡ 52

leader_read : {s : List ℕ} {at : ℕ} (size base l p : ℕ) → base < 10 ^ 5 → Has s at (leader_of size base l p) → LeaderRead s at base l p
unfolding leader_of digits_of
leader_read {s} {at} size base l p low h = record {
  there = omega (arith, h.room);
  base_is = number_read 5 base low
      (has_left (digits_of 5 base) (32 ∷ 32 ∷ 32 ∷ (48 + l) ∷ (48 + p) ∷ 48 ∷ 52 ∷ [])
      (has_right (digits_of 5 size ++ (32 ∷ 68 ∷ 32 ∷ 32 ∷ 32 ∷ 32 ∷ 32 ∷ [])) (digits_of 5 base ++ (32 ∷ 32 ∷ 32 ∷ (48 + l) ∷ (48 + p) ∷ 48 ∷ 52 ∷ [])) h));
  data_is = h.byte 6 (lit< tt);
  l_is = h.byte 20 (lit< tt);
  p_is = h.byte 21 (lit< tt);
  zero_is = h.byte 22 (lit< tt);
  four_is = h.byte 23 (lit< tt);
}

-- that length, where five digits can say it
size_read : {s : List ℕ} {at : ℕ} (size base l p : ℕ) → size < 10 ^ 5 → Has s at (leader_of size base l p) → size_at s at ≡ size
unfolding leader_of
size_read size base l p small h =
    number_read 5 size small (has_left (digits_of 5 size) (32 ∷ 68 ∷ 32 ∷ 32 ∷ 32 ∷ 32 ∷ 32 ∷ (digits_of 5 base ++ (32 ∷ 32 ∷ 32 ∷ (48 + l) ∷ (48 + p) ∷ 48 ∷ 52 ∷ []))) h)

leader_good_lem : {s : List ℕ} {at base l p : ℕ} → LeaderRead s at base l p → 1 ≤ l → l ≤ 9 → 1 ≤ p → p ≤ 9 → leader_good false s at ≡ true
unfolding leader_good kind_good size_good
leader_good_lem {s} {at} {base} {l} {p} r a b c d =
    rw (
      le-leb (at + 24) (length s) r.there,
      r.data_is,
      r.l_is,
      r.p_is,
      r.zero_is,
      r.four_is,
      le-leb 49 (48 + l) (omega arith),
      le-leb (48 + l) 57 (omega arith),
      le-leb 49 (48 + p) (omega arith),
      le-leb (48 + p) 57 (omega arith),
    )

base_of_lem : (fs : List Piece) → base_for (rows_for 0 fs) ≡ 25 + length fs * row_width (length_size (rows_for 0 fs)) (position_size (rows_for 0 fs))
unfolding base_for
base_of_lem fs = rw (rows_count fs 0)

-- ---- leader and directory
-- fields whose record can be read by its directory alone: it may be longer than the five digits in its leader can say
pub record Loose (fs : List Piece) : Type 0 where
  pub some : 1 ≤ length fs
  pub short : base_for (rows_for 0 fs) ≤ 99999
  pub small : size_of fs ≤ 300000

pub fits_loose : {fs : List Piece} → Fits fs → Loose fs
unfolding size_of
fits_loose {fs} fit = let small : base_for (rows_for 0 fs) + length (body_of fs) ≤ 99999 = fit.small in record { some = fit.some; short = omega arith; small = omega arith }

-- few fields have a short directory
pub few_loose : (fs : List Piece) → 1 ≤ length fs → length fs ≤ 8 → size_of fs ≤ 300000 → Loose fs
unfolding size_of
few_loose fs some few small =
    let es = rows_for 0 fs in
    let w = row_width (length_size es) (position_size es) in
    let l : length_size es ≤ 6 = fewest_most 5 (longest es) (omega (arith, longest_within fs 0)) in
    let p : position_size es ≤ 6 = fewest_most 5 (farthest es) (omega (arith, farthest_within fs 0)) in
    let all : length fs * w ≤ 8 * w = mul-le-mul_right w few in
    record { some = some; short = omega (arith, base_of_lem fs); small = small }

-- what stands in them if they were written from fs: base address, digit sizes l and p, n rows of w bytes
pub record HeadRead (s : List ℕ) (at base l p n : ℕ) (fs : List Piece) : Type 0 where
  pub led : LeaderRead s at base l p
  pub l_some : 1 ≤ l
  pub l_most : l ≤ 9
  pub p_some : 1 ≤ p
  pub p_most : p ≤ 9
  pub l_of : length_digits s at ≡ l
  pub p_of : position_digits s at ≡ p
  pub low : 25 + row_width l p ≤ base
  pub sum : 25 + n * row_width l p ≡ base
  pub whole : (base - 25) % row_width l p ≡ 0
  pub count : (base - 25) / row_width l p ≡ n
  pub rows_of : rows n s l p (at + 24) ≡ rows_for 0 fs
  pub closing : byte_at s (at + base - 1) ≡ 30
  pub fields : Has s (at + base) (body_of fs)

head_read : (fs : List Piece) {s : List ℕ} {at : ℕ} → Loose fs → Has s at (record_bytes fs)
    → HeadRead s at (base_for (rows_for 0 fs)) (length_size (rows_for 0 fs)) (position_size (rows_for 0 fs)) (length fs) fs
unfolding record_bytes head_bytes head_over size_of
head_read fs {s} {at} fit h =
    let es = rows_for 0 fs in
    let l = length_size es in
    let p = position_size es in
    let base = base_for es in
    let body = body_of fs in
    let size = base + length body in
    let w = row_width l p in
    let head = head_over size base l p es in
    let n = length fs in
    let base_is : base ≡ 25 + n * w = base_of_lem fs in
    let some = fit.some in
    let short : base ≤ 99999 = fit.short in
    let small : size ≤ 300000 = fit.small in
    let long : longest es ≤ length body = longest_within fs 0 in
    let far : farthest es ≤ 0 + length body = farthest_within fs 0 in
    let l_some : 1 ≤ l = fewest_some (longest es) in
    let l_most : l ≤ 6 = fewest_most 5 (longest es) (omega arith) in
    let p_some : 1 ≤ p = fewest_some (farthest es) in
    let p_most : p ≤ 6 = fewest_most 5 (farthest es) (omega arith) in
    let row : 1 * w ≤ n * w = mul-le-mul_right w some in
    let in_head = has_left head body h in
    let led = leader_read size base l p (omega arith) (has_left (leader_of size base l p) (rows_bytes l p es ++ (30 ∷ [])) in_head) in
    let rest : Has s (at + 24) (rows_bytes l p es ++ (30 ∷ [])) = has_at (at + 24) (rw (leader_length size base l p))
    (has_right (leader_of size base l p) (rows_bytes l p es ++ (30 ∷ [])) in_head) in
    let times : base - 25 ≡ n * w = omega arith in
    record {
      led = led;
      l_some = l_some;
      l_most = omega arith;
      p_some = p_some;
      p_most = omega arith;
      l_of = rw led.l_is (omega arith);
      p_of = rw led.p_is (omega arith);
      low = omega arith;
      sum = sym base_is;
      whole = rw times (mul-mod_left n w);
      count = rw times (mul-div_left n (omega arith));
      rows_of = rows_read fs l p 0 (fewest_least (longest es)) (fewest_least (farthest es)) (has_left (rows_bytes l p es) (30 ∷ []) rest);
      closing = ap (λ (k : ℕ). byte_at s k) (rw (rows_length l p es, rows_count fs 0) (omega arith)) ∙ has_head (has_right (rows_bytes l p es) (30 ∷ []) rest);
      fields = has_at (at + base) (rw (head_length size l p es base, rows_count fs 0) (omega arith)) (has_right head body h);
    }

-- ---- the whole record
-- what its leader and its directory say of a record that was written from fs, whatever its length is
pub record LooseRead (s : List ℕ) (at : ℕ) (fs : List Piece) : Type 0 where
  pub inside : FieldsIn s at
  pub count_is : count_at s at ≡ length fs
  pub rows_are : directory_at s at ≡ rows_for 0 fs
  pub body_is : Has s (at + base_at s at) (body_of fs)

pub loose_read : (fs : List Piece) {s : List ℕ} {at : ℕ} → Loose fs → Has s at (record_bytes fs) → LooseRead s at fs
unfolding size_of count_at directory_at
loose_read fs {s} {at} fit h =
    let r = head_read fs fit h in
    let led = r.led in
    let low = r.low in
    let base = base_for (rows_for 0 fs) in
    let size = length (body_of fs) in
    let short = fit.short in
    let small : base + size ≤ 300000 = fit.small in
    let there : at + (base + size) ≤ length s = omega (arith, h.room, record_length fs) in
    let count_is : count_at s at ≡ length fs = rw (led.base_is, r.l_of, r.p_of) r.count in
    let rows_are : directory_at s at ≡ rows_for 0 fs = rw (led.base_is, r.l_of, r.p_of, r.count) r.rows_of in
    let body_is : Has s (at + base_at s at) (body_of fs) = rw led.base_is r.fields in
    let headed : Headed s at = record {
      led = record {
        there = led.there;
        l_low = rw led.l_is (omega (arith, r.l_some));
        l_high = rw led.l_is (omega (arith, r.l_most));
        p_low = rw led.p_is (omega (arith, r.p_some));
        p_high = rw led.p_is (omega (arith, r.p_most));
      };
      room = rw led.base_is (omega arith);
      short = rw led.base_is short;
      low = rw (led.base_is, r.l_of, r.p_of) r.low;
      whole = rw (count_is, led.base_is, r.l_of, r.p_of) r.sum;
      some = rw count_is fit.some;
    } in
    let row : in_row s (at + base_at s at) size (directory_at s at) 0 ≡ true =
    rw rows_are (in_row_read fs s (at + base_at s at) size 0 (omega arith) (has_at (at + base_at s at + 0) (omega arith) body_is)) in
    record {
      inside = fields_row s at size row headed (rw led.base_is (omega arith)) (rw led.base_is small);
      count_is = count_is;
      rows_are = rows_are;
      body_is = body_is;
    }

-- what the framing says of it where five digits can say its length
pub record RecordRead (s : List ℕ) (at : ℕ) (fs : List Piece) : Type 0 where
  pub good : record_good false s at ≡ true
  pub size_is : size_at s at ≡ size_of fs
  pub loose : LooseRead s at fs

less : (a b : ℕ) → a + b - a ≡ b
less a b = omega arith

pub record_read : (fs : List Piece) {s : List ℕ} {at : ℕ} → Fits fs → Has s at (record_bytes fs) → RecordRead s at fs
unfolding record_bytes head_bytes head_over size_of record_good body_good
record_read fs {s} {at} fit h =
    let es = rows_for 0 fs in
    let base = base_for es in
    let body = body_of fs in
    let size = base + length body in
    let head = head_over size base (length_size es) (position_size es) es in
    let r = head_read fs (fits_loose fit) h in
    let small : size ≤ 99999 = fit.small in
    let size_is : size_at s at ≡ size =
    size_read size base (length_size es) (position_size es) (omega arith)
    (has_left (leader_of size base (length_size es) (position_size es)) (rows_bytes (length_size es) (position_size es) es ++ (30 ∷ [])) (has_left head body h)) in
    let row_is_in = in_row_read fs s (at + base) (length body) 0 (omega arith) (has_at (at + base + 0) (omega arith) r.fields) in
    record {
      good = rw (
        leader_good_lem r.led r.l_some r.l_most r.p_some r.p_most,
        size_is,
        r.led.base_is,
        r.l_of,
        r.p_of,
        le-leb size 99999 small,
        le-leb (at + size) (length s) (omega (arith, h.room, record_length fs)),
        le-leb base size (omega arith),
        le-leb (25 + row_width (length_size es) (position_size es)) base r.low,
        eq-eqb _ _ r.whole,
        eq-eqb _ _ r.closing,
        r.count,
        r.rows_of,
        less base (length body),
      ) row_is_in;
      size_is = size_is;
      loose = loose_read fs (fits_loose fit) h;
    }

-- ---- its fields
pieces_read : {s : List ℕ} (at : ℕ) (fs : List Piece) (before : List (List ℕ)) (due j : ℕ) → directory_at s at ≡ before ++ rows_for due fs → j ≡ length before
    → Has s (at + base_at s at + due) (body_of fs) → pieces_from (length fs) s at j ≡ fs
unfolding pieces_from piece_of field_at rows_for body_of
pieces_read at [] before due j e f h = refl
pieces_read {s} at (f ∷ fs) before due j e i h =
    let n = piece_length f in
    let row : List ℕ = f.named ∷ n ∷ due ∷ [] in
    let here : get_or (directory_at s at) j [] ≡ row = rw e (get_or_at before row (rows_for (due + n) fs) [] j (sym i)) in
    let c : take (length f.content) (drop (at + base_at s at + due) s) ≡ f.content = has_part f.content (has_left f.content (30 ∷ body_of fs) h) in
    let rest = pieces_read at fs (before ++ (row ∷ [])) (due + n) (j + 1) (e ∙ sym (append_assoc before (row ∷ []) (rows_for (due + n) fs)))
    (rw length-append (omega arith))
    (has_at (at + base_at s at + (due + n)) (omega arith) (has_tail (has_right f.content (30 ∷ body_of fs) h))) in
    let short : n - 1 ≡ length f.content = omega arith in
    rw (here, rest, short, c)

pub loose_pieces : {s : List ℕ} {at : ℕ} (fs : List Piece) → LooseRead s at fs → pieces_at s at ≡ fs
unfolding pieces_at
loose_pieces {s} {at} fs r = rw r.count_is (pieces_read at fs [] 0 0 r.rows_are refl (has_at (at + base_at s at + 0) (omega arith) r.body_is))

pub fields_read : {s : List ℕ} {at : ℕ} (fs : List Piece) → RecordRead s at fs → pieces_at s at ≡ fs
fields_read fs r = loose_pieces fs r.loose

pub end_read : {s : List ℕ} {at : ℕ} (fs : List Piece) → RecordRead s at fs → end_of s at ≡ at + length (record_bytes fs)
end_read {s} {at} fs r = rw (r.size_is, record_length fs)
