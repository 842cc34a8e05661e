-- Laws of words in an area: the list of words by index, a word written is a `set` of that list, bytes that stay are words that stay.
-- Above these no proof sees a byte. Assumes nothing.
use Prim.Native.Nat.{ℕ, zero, suc, ◌+◌, ◌-◌, ◌*◌, ◌/◌, ◌^◌, ◌≤◌, ◌<◌}
use mathlib.Core.List.{List, [], ◌∷◌, ◌++◌}
use mathlib.Core.Path.{◌≡◌, refl, sym, ap, ◌∙◌}
use mathlib.Core.Logic.{◌⊎◌, ⊎_elim}
use native.Mathlib.Nat.{add-zero, zero-add, add-suc, suc-add}
use native.Mathlib.Numerals.{add-one}
use native.Mathlib.Omega.{arith}
use lib.ListN.{length, take, drop, get_or, set, length-set}
use lib.Seq.{length-sets, drop-cons, ext_get_or, get_or-take, get_or-drop, get_or-set_same, get_or-set_other}
use Rattle.octets.specs.Number.{byte_at, num_at, bytes_of}
use Rattle.octets.specs.Area.{Wrote}
use Rattle.octets.proofs.Cases.{le_or_lt, eq_or_ne}
use Rattle.octets.proofs.AreaLaws.{wrote_front, wrote_back, wrote_has}
use Rattle.octets.proofs.NumberLaws.{num_read, bytes_length}
use Rattle.words.specs.Words.{word_at, words_in, words_of, put_at}

-- ---- a number depends on its bytes alone
pub num_same : (n : ℕ) (s t : List ℕ) (p q : ℕ) → ((k : ℕ) → k < n → byte_at s (p + k) ≡ byte_at t (q + k)) → num_at s p n ≡ num_at t q n
unfolding num_at
num_same zero s t p q h = refl
num_same (suc n) s t p q h =
    let first : byte_at s p ≡ byte_at t q = rw (add-zero p, add-zero q) at (h 0 (omega arith)) in
    let rest : num_at s (suc p) n ≡ num_at t (suc q) n =
    num_same n s t (suc p) (suc q)
    (λ k b. rw (suc-add p k, suc-add q k, ← add-suc p k, ← add-suc q k) (h (suc k) (omega arith))) in
    rw (first, rest)

-- and bytes below 256 are told by their number
pub num_only : (n : ℕ) (s t : List ℕ) (p q : ℕ) → ((k : ℕ) → byte_at s k < 256) → ((k : ℕ) → byte_at t k < 256) → num_at s p n ≡ num_at t q n
    → (k : ℕ) → k < n → byte_at s (p + k) ≡ byte_at t (q + k)
unfolding num_at
num_only zero s t p q hs ht e k b = absurd (omega arith)
num_only (suc n) s t p q hs ht e zero b = let x = hs p in let y = ht q in rw (add-zero p, add-zero q) (omega arith)
num_only (suc n) s t p q hs ht e (suc k) b =
    let x = hs p in
    let y = ht q in
    rw (add-suc p k, add-suc q k, ← suc-add p k, ← suc-add q k) (num_only n s t (suc p) (suc q) hs ht (omega arith) k (omega arith))

-- ---- the list of words
pub words_length : (s : List ℕ) (i n : ℕ) → length (words_in s i n) ≡ n
unfolding words_in
words_length s i zero = refl
words_length s i (suc n) = ap suc (words_length s (suc i) n)

pub words_at : (s : List ℕ) (i n k : ℕ) → k < n → get_or (words_in s i n) k 0 ≡ word_at s (i + k)
unfolding words_in
words_at s i zero k h = absurd (omega arith)
words_at s i (suc n) zero h = rw (add-zero i)
words_at s i (suc n) (suc k) h = words_at s (suc i) n k (omega arith) ∙ rw (suc-add i k, add-suc i k)

-- the words from word k on, the first of them in hand
pub word_is : (s : List ℕ) (n k w : ℕ) → k < n → w ≡ word_at s k → get_or (words_in s 0 n) k 0 ≡ w
word_is s n k w here read = words_at s 0 n k here ∙ ap (λ (i : ℕ). word_at s i) (zero-add k) ∙ sym read

pub words_from_lem : (s : List ℕ) (n k w : ℕ) → k < n → w ≡ word_at s k → drop k (words_in s 0 n) ≡ w ∷ drop (k + 1) (words_in s 0 n)
words_from_lem s n k w here read =
    rw (add-one k)
    (drop-cons (words_in s 0 n) k 0 (rw (words_length s 0 n) here) ∙ ap (λ (x : ℕ). x ∷ drop (suc k) (words_in s 0 n)) (word_is s n k w here read))

-- all words of a slice
pub all_at : (s : List ℕ) (k : ℕ) → k < length s / 8 → get_or (words_of s) k 0 ≡ word_at s k
all_at s k h = rw zero-add at (words_at s 0 (length s / 8) k h)

pub all_length : (s : List ℕ) → length (words_of s) ≡ length s / 8
all_length s = words_length s 0 (length s / 8)

-- two areas with the same words in two runs have the same lists of them
pub words_same : (s t : List ℕ) (i j n : ℕ) → ((k : ℕ) → k < n → word_at s (i + k) ≡ word_at t (j + k)) → words_in s i n ≡ words_in t j n
unfolding words_in
words_same s t i j zero h = refl
words_same s t i j (suc n) h =
    let first : word_at s i ≡ word_at t j = rw (add-zero i, add-zero j) at (h 0 (omega arith)) in
    let rest : words_in s (suc i) n ≡ words_in t (suc j) n =
    words_same s t (suc i) (suc j) n (λ k b. rw (suc-add i k, suc-add j k, ← add-suc i k, ← add-suc j k) (h (suc k) (omega arith))) in
    rw (first, rest)

-- a run is its front and its rest
pub words_split : (s : List ℕ) (i m n : ℕ) → words_in s i (m + n) ≡ words_in s i m ++ words_in s (i + m) n
unfolding words_in
words_split s i zero n = rw (add-zero i, zero-add n)
words_split s i (suc m) n = rw (suc-add m n, words_split s (suc i) m n, suc-add i m, add-suc i m)

-- ---- bytes that are as they were
pub word_front : (a b : List ℕ) (m i : ℕ) → take (8 * m) a ≡ take (8 * m) b → i < m → word_at a i ≡ word_at b i
word_front a b m i e h =
    num_same 8 a b (8 * i) (8 * i)
    (λ k less. sym (get_or-take (8 * m) a (8 * i + k) 0 (omega arith)) ∙ ap (λ (l : List ℕ). get_or l (8 * i + k) 0) e ∙ get_or-take (8 * m) b (8 * i + k) 0 (omega arith))

pub word_back : (a b : List ℕ) (m i : ℕ) → drop (8 * m) a ≡ drop (8 * m) b → m ≤ i → word_at a i ≡ word_at b i
word_back a b m i e h =
    num_same 8 a b (8 * i) (8 * i)
    (λ k less.
    let d = 8 * i + k - 8 * m in
    let sum : 8 * m + d ≡ 8 * i + k = omega arith in
    let there : get_or (drop (8 * m) a) d 0 ≡ get_or (drop (8 * m) b) d 0 = ap (λ (l : List ℕ). get_or l d 0) e in
    rw (← sum) (sym (get_or-drop (8 * m) a d 0) ∙ there ∙ get_or-drop (8 * m) b d 0))

pub words_front : (a b : List ℕ) (m i n : ℕ) → take (8 * m) a ≡ take (8 * m) b → i + n ≤ m → words_in a i n ≡ words_in b i n
words_front a b m i n e h = words_same a b i i n (λ k less. word_front a b m (i + k) e (omega arith))

pub words_back_lem : (a b : List ℕ) (m i n : ℕ) → drop (8 * m) a ≡ drop (8 * m) b → m ≤ i → words_in a i n ≡ words_in b i n
words_back_lem a b m i n e h = words_same a b i i n (λ k less. word_back a b m (i + k) e (omega arith))

-- ---- a part that starts at a word
pub part_words : (s : List ℕ) (i n : ℕ) → words_in (take (8 * (i + n) - 8 * i) (drop (8 * i) s)) 0 n ≡ words_in s i n
part_words s i n =
    let d = 8 * (i + n) - 8 * i in
    words_same (take d (drop (8 * i) s)) s 0 i n
    (λ k less.
    rw (zero-add k)
    (num_same 8 (take d (drop (8 * i) s)) s (8 * k) (8 * (i + k))
    (λ b small.
    let sum : 8 * i + (8 * k + b) ≡ 8 * (i + k) + b = omega arith in
    get_or-take d (drop (8 * i) s) (8 * k + b) 0 (omega arith) ∙ get_or-drop (8 * i) s (8 * k + b) 0 ∙ ap (λ (q : ℕ). get_or s q 0) sum)))

-- ---- a word written
module _ (s : List ℕ) (i w : ℕ) where
  pub put_length : length (put_at s i w) ≡ length s
  put_length = length-sets s (8 * i) (bytes_of 8 w)

module _ (s : List ℕ) (i w : ℕ) (fit : 8 * i + 8 ≤ length s) where
  put_wrote : Wrote s (8 * i) (bytes_of 8 w) (put_at s i w) (8 * (i + 1))
  put_wrote = record { is = refl; end = omega (arith, bytes_length 8 w); room = omega arith }

  pub put_front : take (8 * i) (put_at s i w) ≡ take (8 * i) s
  put_front = wrote_front put_wrote

  pub put_back : drop (8 * (i + 1)) (put_at s i w) ≡ drop (8 * (i + 1)) s
  put_back = wrote_back put_wrote

  pub put_same : w < 2 ^ 64 → word_at (put_at s i w) i ≡ w
  put_same small = num_read 8 w small (wrote_has put_wrote)

  pub put_other : (k : ℕ) → (k ≡ i → ⊥) → word_at (put_at s i w) k ≡ word_at s k
  put_other k ne =
      ⊎_elim (λ (h : i + 1 ≤ k). word_back (put_at s i w) s (i + 1) k put_back h)
      (λ (h : k < i + 1). word_front (put_at s i w) s i k put_front (below (le_or_lt i k) h))
      (le_or_lt (i + 1) k)
    where
      below : (i ≤ k) ⊎ (k < i) → k < i + 1 → k < i
      below t h = ⊎_elim (λ (g : i ≤ k). absurd (ne (omega arith))) (λ (g : k < i). g) t

-- in a run of words it is a `set`
pub words_put : (s : List ℕ) (i n k w : ℕ) → 8 * (i + n) ≤ length s → k < n → w < 2 ^ 64 → words_in (put_at s (i + k) w) i n ≡ set (words_in s i n) k w
words_put s i n k w fit h small =
    let t = put_at s (i + k) w in
    let l = words_in s i n in
    let long = words_length s i n in
    ext_get_or 0 (words_in t i n) (set l k w) (words_length t i n ∙ sym (length-set l k w ∙ long))
    (λ q b.
    let less : q < n = rw (words_length t i n) at b in
    words_at t i n q less
    ∙ ⊎_elim (λ (e : q ≡ k). rw e (put_same s (i + k) w (omega arith) small ∙ sym (get_or-set_same l k w 0 (omega arith))))
    (λ (ne : q ≡ k → ⊥). put_other s (i + k) w (omega arith) (i + q) (λ e. ne (omega arith)) ∙ sym (words_at s i n q less) ∙ sym (get_or-set_other l k q w 0 ne))
    (eq_or_ne q k))

-- words before it and behind it stay
pub words_put_behind : (s : List ℕ) (at i n w : ℕ) → 8 * at + 8 ≤ length s → i + n ≤ at → words_in (put_at s at w) i n ≡ words_in s i n
words_put_behind s at i n w fit h = words_front (put_at s at w) s at i n (put_front s at w fit) h

pub words_put_before : (s : List ℕ) (at i n w : ℕ) → 8 * at + 8 ≤ length s → at < i → words_in (put_at s at w) i n ≡ words_in s i n
words_put_before s at i n w fit h = words_back_lem (put_at s at w) s (at + 1) i n (put_back s at w fit) (omega arith)

-- one word more behind a run
pub words_grow : (s : List ℕ) (i n w : ℕ) → 8 * (i + n) + 8 ≤ length s → w < 2 ^ 64 → words_in (put_at s (i + n) w) i (n + 1) ≡ words_in s i n ++ (w ∷ [])
unfolding words_in
words_grow s i n w fit small =
    words_split (put_at s (i + n) w) i n 1
    ∙ rw (words_put_behind s (i + n) i n w fit (omega arith), put_same s (i + n) w fit small)

-- all words of a slice, one of them written
pub all_put : (s : List ℕ) (k w : ℕ) → k < length s / 8 → w < 2 ^ 64 → words_of (put_at s k w) ≡ set (words_of s) k w
all_put s k w h small = rw (put_length s k w) (rw (zero-add k) at (words_put s 0 (length s / 8) k w (omega arith) h small))
