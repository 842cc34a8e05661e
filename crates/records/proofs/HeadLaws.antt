-- The code that writes leader and directory: turns of its loops, and how what its calls wrote joins. Assumes nothing.
use Prim.Native.Nat.{ℕ, ◌+◌, ◌*◌, ◌/◌, ◌%◌, ◌≤◌, ◌<◌, max}
use mathlib.Core.List.{List, [], ◌∷◌, ◌++◌, map}
use mathlib.Core.Path.{◌≡◌, refl, sym, ap, ◌∙◌}
use native.Mathlib.Nat.{mul-le-mul_right}
use native.Mathlib.Numerals.{add-one}
use native.Mathlib.Omega.{arith}
use lib.ListN.{length, take, drop, get_or, length-append, drop_of_length-le}
use lib.Seq.{drop-cons, length-take-le}
use Rattle.std.specs.List.{fold, reduce}
use Rattle.std.specs.Option.{option_map, unwrap_or}
use Rattle.std.specs.Prelude.{Option, None, Some}
use Rattle.octets.specs.Number.{bytes_of}
use Rattle.octets.specs.Digits.{digits_of, fewest}
use Rattle.octets.specs.Area.{Wrote, Going}
use Rattle.octets.proofs.AreaLaws.{wrote_join, wrote_as, going_step, going_end, going_room}
use Rattle.octets.proofs.DigitsLaws.{digits_length}
use Rattle.iso8211.specs.Directory.{row_width, len, position}
use Rattle.records.specs.Written.{tag_bytes, longest, farthest, row_bytes, rows_bytes, base_for, leader_of, head_over, head_bytes}
use Rattle.records.proofs.WrittenLaws.{row_length, leader_length}

-- ---- where a writer ended, its bytes counted
pub wrote_by : {a b : List ℕ} {at r : ℕ} {xs : List ℕ} (n : ℕ) → length xs ≡ n → Wrote a at xs b r → r ≡ at + n
wrote_by n e w = rw (← e) w.end

pub byte_one : (v : ℕ) → v < 256 → bytes_of 1 v ≡ v ∷ []
unfolding bytes_of
byte_one v h = let e : v % 256 ≡ v = omega arith in rw e

pub two_put : {x y z : List ℕ} {at m r a b : ℕ} → a < 256 → b < 256 → Wrote x at (bytes_of 1 a) y m → Wrote y m (bytes_of 1 b) z r → Wrote x at (a ∷ b ∷ []) z r
two_put {a = a} {b = b} small few f g = wrote_join (wrote_as (a ∷ []) (byte_one a small) f) (wrote_as (b ∷ []) (byte_one b few) g)

pub tag_put : {a b d : List ℕ} {at m r : ℕ} (t : ℕ) → Wrote a at (t / 256 / 256 / 256 ∷ t / 256 / 256 % 256 ∷ []) b m → Wrote b m (t / 256 % 256 ∷ t % 256 ∷ []) d r
    → Wrote a at (tag_bytes t) d r
unfolding tag_bytes
tag_put t f g = wrote_join f g

pub tag_length : (t : ℕ) → length (tag_bytes t) ≡ 4
unfolding tag_bytes
tag_length t = refl

pub row_put : {a b d e : List ℕ} {at m q r : ℕ} (l p t n x : ℕ) → Wrote a at (tag_bytes t) b m → Wrote b m (digits_of l n) d q → Wrote d q (digits_of p x) e r
    → Wrote a at (row_bytes l p (t ∷ n ∷ x ∷ [])) e r
unfolding row_bytes
row_put l p t n x f g h = wrote_join f (wrote_join g h)

-- ---- the rows one after the other
module _ (rows : List (List ℕ)) (k l p : ℕ) (here : k < length rows) where
  rows_next : rows_bytes l p (drop k rows) ≡ row_bytes l p (get_or rows k []) ++ rows_bytes l p (drop (k + 1) rows)
  unfolding rows_bytes
  rows_next = rw (add-one k, drop-cons rows k [] here) refl

  pub rows_room : {a b : List ℕ} {at m : ℕ} {all : List ℕ} → Going a at all b m (rows_bytes l p (drop k rows)) → at + length all ≤ length a → m + row_width l p ≤ length b
  rows_room g room =
      let r = going_room g room in
      let e = ap length rows_next ∙ length-append (row_bytes l p (get_or rows k [])) (rows_bytes l p (drop (k + 1) rows)) in
      let w = row_length l p (get_or rows k []) in
      omega arith

  pub rows_more : {a b d : List ℕ} {at m q : ℕ} {all : List ℕ} → Going a at all b m (rows_bytes l p (drop k rows))
      → Wrote b m (row_bytes l p (get_or (get_or rows k []) 0 0 ∷ get_or (get_or rows k []) 1 0 ∷ get_or (get_or rows k []) 2 0 ∷ [])) d q
      → Going a at all d q (rows_bytes l p (drop (k + 1) rows))
  unfolding row_bytes
  rows_more g w = going_step (row_bytes l p (get_or rows k [])) (rows_bytes l p (drop (k + 1) rows)) g rows_next w

pub rows_all : {a b : List ℕ} {at m : ℕ} {all : List ℕ} (rows : List (List ℕ)) (k l p : ℕ) → length rows ≤ k
    → Going a at all b m (rows_bytes l p (drop k rows)) → Wrote a at all b m
unfolding rows_bytes
rows_all rows k l p h g = going_end g (rw (drop_of_length-le rows {i = k} h) refl)

-- ---- the greatest of a number of each row
taken : (o : Option ℕ) → unwrap_or (option_map (λ x. x) o) 0 ≡ unwrap_or o 0
taken None = refl
taken (Some x) = refl

longest_over : (es : List (List ℕ)) (m : ℕ) → fold max m (map len es) ≡ max m (longest es)
unfolding longest
longest_over [] m = omega arith
longest_over (e ∷ es) m = longest_over es (max m (len e)) ∙ omega arith

longest_reduced : (es : List (List ℕ)) → unwrap_or (reduce max (map len es)) 0 ≡ longest es
unfolding longest
longest_reduced [] = refl
longest_reduced (e ∷ es) = longest_over es (len e)

pub longest_by : (es : List (List ℕ)) (o : Option ℕ) (r : ℕ) → option_map (λ x. x) o ≡ reduce max (map len es) → r ≡ unwrap_or o 0 → r ≡ longest es
longest_by es o r e is = is ∙ sym (taken o) ∙ ap (λ (x : Option ℕ). unwrap_or x 0) e ∙ longest_reduced es

farthest_over : (es : List (List ℕ)) (m : ℕ) → fold max m (map position es) ≡ max m (farthest es)
unfolding farthest
farthest_over [] m = omega arith
farthest_over (e ∷ es) m = farthest_over es (max m (position e)) ∙ omega arith

farthest_reduced : (es : List (List ℕ)) → unwrap_or (reduce max (map position es)) 0 ≡ farthest es
unfolding farthest
farthest_reduced [] = refl
farthest_reduced (e ∷ es) = farthest_over es (position e)

pub farthest_by : (es : List (List ℕ)) (o : Option ℕ) (r : ℕ) → option_map (λ x. x) o ≡ reduce max (map position es) → r ≡ unwrap_or o 0 → r ≡ farthest es
farthest_by es o r e is = is ∙ sym (taken o) ∙ ap (λ (x : Option ℕ). unwrap_or x 0) e ∙ farthest_reduced es

-- ---- the leader
pub five_put : {a b : List ℕ} {at r : ℕ} (v : ℕ) → Wrote a at (digits_of 5 v) b r → r ≡ at + 5
five_put v w = wrote_by 5 (digits_length 5 v) w

pub leader_put : {a b d e f : List ℕ} {at i j k r : ℕ} (size base l p : ℕ) → Wrote a at (digits_of 5 size) b i → Wrote b i (32 ∷ 68 ∷ 32 ∷ 32 ∷ 32 ∷ 32 ∷ 32 ∷ []) d j
    → Wrote d j (digits_of 5 base) e k
    → Wrote e k (32 ∷ 32 ∷ 32 ∷ (48 + l) ∷ (48 + p) ∷ 48 ∷ 52 ∷ []) f r → Wrote a at (leader_of size base l p) f r
unfolding leader_of
leader_put size base l p w x y z = wrote_join w (wrote_join x (wrote_join y z))

pub sizes_put : {a b d e : List ℕ} {at i j r : ℕ} (l p : ℕ) → Wrote a at (32 ∷ 32 ∷ 32 ∷ []) b i → Wrote b i ((48 + l) ∷ (48 + p) ∷ []) d j → Wrote d j (48 ∷ 52 ∷ []) e r
    → Wrote a at (32 ∷ 32 ∷ 32 ∷ (48 + l) ∷ (48 + p) ∷ 48 ∷ 52 ∷ []) e r
sizes_put l p w x y = wrote_join w (wrote_join x y)

-- ---- leader, directory, 1E
pub over_put : {a b d e : List ℕ} {at i j r : ℕ} (size base l p : ℕ) (es : List (List ℕ)) → Wrote a at (leader_of size base l p) b i → Wrote b i (rows_bytes l p es) d j
    → Wrote d j (bytes_of 1 30) e r
    → Wrote a at (head_over size base l p es) e r
unfolding head_over bytes_of
over_put size base l p es w x y = wrote_join w (wrote_join x y)

pub over_lengths : (size base l p : ℕ) (es : List (List ℕ)) → length (head_over size base l p es) ≡ 24 + (length (rows_bytes l p es) + 1)
unfolding head_over
over_lengths size base l p es = rw (length-append, leader_length size base l p, length-append)

-- the base address
pub base_few : (n l p : ℕ) → n ≤ 8 → l ≤ 10 → p ≤ 10 → n * (4 + l + p) ≤ 192
base_few n l p h x y =
    let few : n * (4 + l + p) ≤ 8 * (4 + l + p) = mul-le-mul_right (4 + l + p) h in
    omega arith

pub base_is : (rows : List (List ℕ)) (n l p a b base : ℕ) → length rows ≡ 8 → n ≤ 8 → a ≡ longest (take n rows) → b ≡ farthest (take n rows) → l ≡ fewest a → p ≡ fewest b
    → base ≡ 25 + n * row_width l p
    → base ≡ base_for (take n rows)
unfolding base_for
base_is rows n l p a b base eight few x y z w is = is ∙ rw (length-take-le n rows (omega arith), ← x, ← y, ← z, ← w)

module _ (rows : List (List ℕ)) (n body base l p x y : ℕ) (eight : length rows ≡ 8) (few : n ≤ 8) (ex : x ≡ longest (take n rows)) (ey : y ≡ farthest (take n rows))
    (el : l ≡ fewest x) (ep : p ≡ fewest y)
    (is : base ≡ 25 + n * row_width l p) where
  head_is : head_bytes (take n rows) body ≡ head_over (base + body) base l p (take n rows)
  unfolding head_bytes
  head_is = rw (← (base_is rows n l p x y base eight few ex ey el ep is), ← ex, ← ey, ← el, ← ep)

  pub head_put : {a d : List ℕ} {at r : ℕ} → Wrote a at (head_over (base + body) base l p (take n rows)) d r → Wrote a at (head_bytes (take n rows) body) d r
  head_put w = wrote_as (head_bytes (take n rows) body) (sym head_is) w

  pub head_room : (at k : ℕ) → at + length (head_bytes (take n rows) body) ≤ k → at + (25 + length (rows_bytes l p (take n rows))) ≤ k
  head_room at k h = omega (arith, ap length head_is, over_lengths (base + body) base l p (take n rows))
