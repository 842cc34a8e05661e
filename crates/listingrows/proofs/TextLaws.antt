-- Laws of numbers as text: how long they are, and how a line is put together from what its writers wrote. Assumes nothing.
use Prim.Native.Nat.{ℕ, ◌+◌, ◌^◌, ◌≤◌, ◌<◌}
use mathlib.Core.List.{List, [], ◌∷◌, ◌++◌}
use mathlib.Core.Path.{◌≡◌, refl}
use native.Mathlib.Numerals.{add-one}
use native.Mathlib.Omega.{arith}
use lib.ListN.{length, get_or, drop, length-append, drop_of_length-le}
use lib.Seq.{drop-cons}
use Rattle.octets.specs.Number.{bytes_of}
use Rattle.octets.specs.Digits.{digits_of, fewest}
use Rattle.octets.specs.Area.{Wrote, Going}
use Rattle.octets.proofs.AreaLaws.{wrote_join, wrote_length, going_start, going_step, going_end, going_room, room_first, room_rest}
use Rattle.octets.proofs.DigitsLaws.{digits_length, fewest_most}
use Rattle.table.specs.Text.{bytes}
use Rattle.listingrows.specs.Text.{ShortNumbers, number_text, tabbed, line_of, refused_text}

-- ---- a number
pub number_length : (v : ℕ) → length (number_text v) ≡ fewest v
unfolding number_text
number_length v = digits_length (fewest v) v

pub number_few : (w v : ℕ) → v < 10 ^ (w + 1) → length (number_text v) ≤ w + 1
number_few w v h = rw (number_length v) (fewest_most w v h)

pub number_room : (w v at n : ℕ) → w ≡ fewest v → at + length (number_text v) ≤ n → at + w ≤ n
number_room w v at n e h = omega (arith, number_length v)

pub number_wrote : {a b : List ℕ} {at r : ℕ} (w v : ℕ) → w ≡ fewest v → Wrote a at (digits_of w v) b r → Wrote a at (number_text v) b r
unfolding number_text
number_wrote w v e h = rw e at h

-- ---- a tab, and a number
pub next_room : {a b : List ℕ} {at m : ℕ} (v : ℕ) → at + length (9 ∷ number_text v) ≤ length a → Wrote a at (bytes_of 1 9) b m
    → m + length (number_text v) ≤ length b
unfolding bytes_of
next_room v h w = room_rest (9 ∷ []) (number_text v) h w

pub next_wrote : {a b c : List ℕ} {at m r : ℕ} (v : ℕ) → Wrote a at (bytes_of 1 9) b m → Wrote b m (number_text v) c r
    → Wrote a at (9 ∷ number_text v) c r
unfolding bytes_of
next_wrote v f g = wrote_join f g

-- ---- the rest of a line
tabbed_more : (vs : List ℕ) (k : ℕ) → k < length vs → tabbed (drop k vs) ≡ (9 ∷ number_text (get_or vs k 0)) ++ tabbed (drop (k + 1) vs)
unfolding tabbed
tabbed_more vs k h = rw (drop-cons vs k 0 h, add-one k)

tabbed_last : (vs : List ℕ) (k : ℕ) → length vs ≤ k → tabbed (drop k vs) ≡ 10 ∷ []
unfolding tabbed
tabbed_last vs k h = rw (drop_of_length-le vs {i = k} h)

pub tabbed_start : (a : List ℕ) (at : ℕ) (vs : List ℕ) → at + length (tabbed vs) ≤ length a → Going a at (tabbed vs) a at (tabbed (drop 0 vs))
tabbed_start a at vs h = going_start a at (tabbed vs) (omega arith)

module _ {a b : List ℕ} {at p : ℕ} (k : ℕ) (vs : List ℕ) (going : Going a at (tabbed vs) b p (tabbed (drop k vs))) where
  pub tabbed_room : at + length (tabbed vs) ≤ length a → k < length vs → p + length (9 ∷ number_text (get_or vs k 0)) ≤ length b
  tabbed_room fit more =
      room_first (9 ∷ number_text (get_or vs k 0)) (tabbed (drop (k + 1) vs)) p (length b)
      (rw (tabbed_more vs k more) at (going_room going fit))

  pub tabbed_on : {c : List ℕ} {q : ℕ} → k < length vs → Wrote b p (9 ∷ number_text (get_or vs k 0)) c q
      → Going a at (tabbed vs) c q (tabbed (drop (k + 1) vs))
  tabbed_on more wrote = going_step (9 ∷ number_text (get_or vs k 0)) (tabbed (drop (k + 1) vs)) going (tabbed_more vs k more) wrote

  pub tabbed_feed : at + length (tabbed vs) ≤ length a → length vs ≤ k → p + 1 ≤ length b
  tabbed_feed fit end = rw (tabbed_last vs k end) at (going_room going fit)

  pub tabbed_end : {c : List ℕ} {r : ℕ} → length vs ≤ k → Wrote b p (bytes_of 1 10) c r → Wrote a at (tabbed vs) c r
  unfolding bytes_of
  tabbed_end end wrote = going_end (going_step (10 ∷ []) [] going (tabbed_last vs k end) wrote) refl

-- ---- a line
pub line_first : (v : ℕ) (vs : List ℕ) (at n : ℕ) → at + length (line_of v vs) ≤ n → at + length (number_text v) ≤ n
unfolding line_of
line_first v vs at n h = room_first (number_text v) (tabbed vs) at n h

pub line_rest : {a b : List ℕ} {at m : ℕ} (v : ℕ) (vs : List ℕ) → at + length (line_of v vs) ≤ length a → Wrote a at (number_text v) b m
    → m + length (tabbed vs) ≤ length b
unfolding line_of
line_rest v vs h w = room_rest (number_text v) (tabbed vs) h w

pub line_wrote : {a b c : List ℕ} {at m r : ℕ} (v : ℕ) (vs : List ℕ) → Wrote a at (number_text v) b m → Wrote b m (tabbed vs) c r
    → Wrote a at (line_of v vs) c r
unfolding line_of
line_wrote v vs f g = wrote_join f g

-- ---- a refusal
tabbed_length : (v : ℕ) (vs : List ℕ) → length (tabbed (v ∷ vs)) ≡ 1 + length (number_text v) + length (tabbed vs)
unfolding tabbed
tabbed_length v vs = simp length-append (omega arith)

tabbed_none : length (tabbed []) ≡ 1
unfolding tabbed
tabbed_none = refl

refused_long : (code file index : ℕ) → code < 10 ^ 10 → file < 10 ^ 10 → index < 10 ^ 10 → length (tabbed (code ∷ file ∷ index ∷ [])) ≤ 34
refused_long code file index f g h =
    rw (tabbed_length code (file ∷ index ∷ []), tabbed_length file (index ∷ []), tabbed_length index [], tabbed_none)
    (omega (arith, number_few 9 code f, number_few 9 file g, number_few 9 index h))

pub refused_room : {a b : List ℕ} {m : ℕ} (code file index : ℕ) → code < 10 ^ 10 → file < 10 ^ 10 → index < 10 ^ 10 → 71 ≤ length a
    → Wrote a 0 (bytes "refused") b m → m + length (tabbed (code ∷ file ∷ index ∷ [])) ≤ length b
unfolding bytes
refused_room {a} {b} {m} code file index f g h fit w =
    let e : m ≡ 7 = w.end in
    omega (arith, refused_long code file index f g h, wrote_length w)

pub refused_wrote : {a b c : List ℕ} {m r : ℕ} (code file index : ℕ) → Wrote a 0 (bytes "refused") b m
    → Wrote b m (tabbed (code ∷ file ∷ index ∷ [])) c r → Wrote a 0 (refused_text code file index) c r
unfolding refused_text
refused_wrote code file index f g = wrote_join f g

-- ---- a line of seven numbers of ten digits
short_number : (v : ℕ) → v < 10000000000 → length (number_text v) ≤ 10
short_number v h = number_few 9 v h

pub line_few : (v : ℕ) (vs : List ℕ) → v < 10000000000 → length vs ≡ 6 → ShortNumbers vs → length (line_of v vs) ≤ 80
unfolding line_of
line_few v [] h e short = absurd (omega arith)
line_few v (a ∷ []) h e short = absurd (omega arith)
line_few v (a ∷ b ∷ []) h e short = absurd (omega arith)
line_few v (a ∷ b ∷ c ∷ []) h e short = absurd (omega arith)
line_few v (a ∷ b ∷ c ∷ d ∷ []) h e short = absurd (omega arith)
line_few v (a ∷ b ∷ c ∷ d ∷ f ∷ []) h e short = absurd (omega arith)
line_few v (a ∷ b ∷ c ∷ d ∷ f ∷ g ∷ []) h e short =
    rw (
      length-append (number_text v) (tabbed (a ∷ b ∷ c ∷ d ∷ f ∷ g ∷ [])),
      tabbed_length a (b ∷ c ∷ d ∷ f ∷ g ∷ []),
      tabbed_length b (c ∷ d ∷ f ∷ g ∷ []),
      tabbed_length c (d ∷ f ∷ g ∷ []),
      tabbed_length d (f ∷ g ∷ []),
      tabbed_length f (g ∷ []),
      tabbed_length g [],
      tabbed_none,
    )
    (omega (
      arith,
      short_number v h,
      short_number a (short.each 0 (omega arith)),
      short_number b (short.each 1 (omega arith)),
      short_number c (short.each 2 (omega arith)),
      short_number d (short.each 3 (omega arith)),
      short_number f (short.each 4 (omega arith)),
      short_number g (short.each 5 (omega arith)),
    ))
line_few v (a ∷ b ∷ c ∷ d ∷ f ∷ g ∷ i ∷ vs) h e short = absurd (omega arith)
