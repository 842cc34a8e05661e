-- What is written behind m words, where their notes stand, leaves all else as it is. Assumes nothing.
use Prim.Native.Nat.{ℕ, ◌+◌, ◌-◌, ◌*◌, ◌≤◌, ◌<◌}
use mathlib.Core.List.{List}
use mathlib.Core.Path.{◌≡◌, refl, sym, ap, ◌∙◌}
use native.Mathlib.Omega.{arith}
use lib.ListN.{length, take, drop}
use lib.Seq.{take-take, drop-drop}
use Rattle.words.specs.Words.{words_in, put_at}
use Rattle.words.specs.Order.{Sorts}
use Rattle.words.proofs.WordsLaws.{put_length, put_front, put_back, words_front}
use Rattle.topology.specs.Notes.{Beside}

-- ---- less of what is the same in front, or behind
front_less : (a b : List ℕ) (k n : ℕ) → take n a ≡ take n b → k ≤ n → take k a ≡ take k b
front_less a b k n e h = sym (take-take k n a h) ∙ ap (take k) e ∙ take-take k n b h

pub back_less : (a b : List ℕ) (k n : ℕ) → drop k a ≡ drop k b → k ≤ n → drop n a ≡ drop n b
back_less a b k n e h =
    let d : n ≡ k + (n - k) = omega arith in
    rw d (sym (drop-drop (n - k) k a) ∙ ap (drop (n - k)) e ∙ drop-drop (n - k) k b)

-- ---- steps
pub beside_same : (a : List ℕ) (m : ℕ) → Beside a m a
beside_same a m = record { front = refl; back = refl; size = refl }

pub beside_join : {a b c : List ℕ} {m : ℕ} → Beside a m b → Beside b m c → Beside a m c
beside_join p q = record { front = q.front ∙ p.front; back = q.back ∙ p.back; size = q.size ∙ p.size }

pub beside_put : {a b : List ℕ} {m : ℕ} (i w : ℕ) (c : List ℕ) → Beside a m b → i < m → 8 * (m + i) + 8 ≤ length b → c ≡ put_at b (m + i) w → Beside a m c
beside_put {a} {b} {m} i w c so more room put =
    beside_join so (record {
      front = rw put (front_less (put_at b (m + i) w) b (8 * m) (8 * (m + i)) (put_front b (m + i) w room) (omega arith));
      back = rw put (back_less (put_at b (m + i) w) b (8 * (m + i + 1)) (8 * (m + m)) (put_back b (m + i) w room) (omega arith));
      size = rw put (put_length b (m + i) w);
    })

pub beside_sorts : {a b : List ℕ} (m k n : ℕ) → Sorts a (m + k) n b → k + n ≤ m → Beside a m b
beside_sorts {a} {b} m k n so few = record {
  front = front_less b a (8 * m) (8 * (m + k)) so.front (omega arith);
  back = back_less b a (8 * (m + k + n)) (8 * (m + m)) so.back (omega arith);
  size = so.size;
}

-- ---- the words stay
pub beside_words : {a b : List ℕ} {m : ℕ} → Beside a m b → (i n : ℕ) → i + n ≤ m → words_in b i n ≡ words_in a i n
beside_words {a} {b} {m} so i n h = words_front b a m i n so.front h
