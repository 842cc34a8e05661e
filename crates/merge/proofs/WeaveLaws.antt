-- Laws of the weaving. Assumes nothing.
use Prim.Native.Nat.{ℕ, zero, suc, ◌+◌, ◌-◌, ◌*◌, ◌^◌, ◌≤◌, ◌<◌}
use mathlib.Core.List.{List, [], ◌∷◌, ◌++◌, append_assoc, append-nil}
use mathlib.Core.Path.{◌≡◌, refl, sym, ap, ◌∙◌}
use native.Mathlib.Nat.{add-zero, zero-add, sub-zero, suc-add}
use native.Mathlib.Omega.{arith}
use lib.ListN.{length, take, drop}
use lib.Seq.{drop-drop, take-take}
use Rattle.words.specs.Words.{word_at, words_in, put_at}
use Rattle.words.proofs.WordsLaws.{words_length, words_at, words_back_lem, words_grow, put_length, put_front, put_back, word_front, put_same, put_other, words_put_behind}
use Rattle.items.specs.Word.{name_of}
use Rattle.merge.specs.Updated.{updated}
use Rattle.names.specs.Premises.{Strict}
use Rattle.merge.specs.Words.{result_words, modifies}
use Rattle.merge.specs.Area.{words_back, Halves, Weaves, Turned, SetDown, Settled}
use Rattle.merge.specs.declared.turn.Turn.{Turn}

-- ---- words from the last on
pub back_same : (s t : List ℕ) (e n : ℕ) → n ≤ e → ((k : ℕ) → e ≤ k + n → k < e → word_at s k ≡ word_at t k) → words_back s e n ≡ words_back t e n
unfolding words_back
back_same s t e zero h same = refl
back_same s t e (suc n) h same =
    rw (same (e - 1) (omega arith) (omega arith), back_same s t (e - 1) n (omega arith) (λ k low high. same k (omega arith) (omega arith)))

pub back_last : (s : List ℕ) (e n : ℕ) → n < e → words_back s e (n + 1) ≡ words_back s e n ++ (word_at s (e - 1 - n) ∷ [])
unfolding words_back
back_last s e zero h = let z : e - 1 - 0 ≡ e - 1 = omega arith in rw z
back_last s e (suc n) h =
    let z : e - 1 - suc n ≡ e - 1 - 1 - n = omega arith in
    rw (z, suc-add n 1) (ap (λ (l : List ℕ). word_at s (e - 1) ∷ l) (back_last s (e - 1) n (omega arith)))

pub back_put : (s : List ℕ) (at e n w : ℕ) → 8 * at + 8 ≤ length s → at + n < e → words_back (put_at s at w) e n ≡ words_back s e n
back_put s at e n w fit h = back_same (put_at s at w) s e n (omega arith) (λ k low high. put_other s at w fit k (λ z. omega arith))

pub put_drop : (s : List ℕ) (at e w : ℕ) → 8 * at + 8 ≤ length s → at < e → drop (8 * e) (put_at s at w) ≡ drop (8 * e) s
put_drop s at e w fit h =
    let d = 8 * e - 8 * (at + 1) in
    let sum : 8 * e ≡ 8 * (at + 1) + d = omega arith in
    rw (sum, ← drop-drop d (8 * (at + 1)) (put_at s at w), ← drop-drop d (8 * (at + 1)) s, put_back s at w fit)

-- ---- one word more, or none
pub front_some : (s : List ℕ) (n w k : ℕ) → k ≤ 1 → 8 * n + 8 ≤ length s → w < 2 ^ 64 → words_in (put_at s n w) 0 (n + k) ≡ words_in s 0 n ++ take k (w ∷ [])
front_some s n w zero h fit small = rw (add-zero n, append-nil (words_in s 0 n)) (words_put_behind s n 0 n w fit (omega arith))
front_some s n w (suc zero) h fit small = rw zero-add at (words_grow s 0 n w (omega arith) small)
front_some s n w (suc (suc k)) h fit small = absurd (omega arith)

pub back_some : (s : List ℕ) (e n w k : ℕ) → k ≤ 1 → n < e → 8 * e ≤ length s → w < 2 ^ 64
    → words_back (put_at s (e - 1 - n) w) e (n + k) ≡ words_back s e n ++ take k (w ∷ [])
back_some s e n w zero h more fit small =
    rw (add-zero n, append-nil (words_back s e n)) (back_put s (e - 1 - n) e n w (omega arith) (omega arith))
back_some s e n w (suc zero) h more fit small =
    let last = put_same s (e - 1 - n) w (omega arith) small in
    back_last (put_at s (e - 1 - n) w) e n more ∙ rw (last, back_put s (e - 1 - n) e n w (omega arith) (omega arith))
back_some s e n w (suc (suc k)) h more fit small = absurd (omega arith)

-- ---- a run without its first words
pub words_drop : (s : List ℕ) (p n x : ℕ) → x ≤ n → drop x (words_in s p n) ≡ words_in s (p + x) (n - x)
unfolding words_in
words_drop s p n zero h = rw (add-zero p, sub-zero n)
words_drop s p zero (suc x) h = absurd (omega arith)
words_drop s p (suc n) (suc x) h =
    let a : suc p + x ≡ p + suc x = omega arith in
    let b : n - x ≡ suc n - suc x = omega arith in
    words_drop s (suc p) n x (omega arith) ∙ rw (a, b)

pub strict_drop : (s : List ℕ) (p n x q k : ℕ) → Strict (words_in s p n) → x ≤ n → q ≡ p + x → k ≡ n - x → Strict (words_in s q k)
strict_drop s p n x q k so h e f = record {
  up = λ a b less low.
      let short : b < n - x = omega (arith, words_length s q k) in
      let one : name_of (word_at s (p + (x + a))) < name_of (word_at s (p + (x + b))) =
      rw (words_at s p n (x + a) (omega arith), words_at s p n (x + b) (omega arith)) at (so.up (x + a) (x + b) (omega arith) (omega (arith, words_length s p n))) in
      let i : q + a ≡ p + (x + a) = omega arith in
      let j : q + b ≡ p + (x + b) = omega arith in
      rw (words_at s q k a (omega arith), words_at s q k b (omega arith), i, j) one;
}

pub set_down : (a b c : List ℕ) (h count edits : ℕ) (t : Turn) → b ≡ put_at a (h - 1 - edits) t.by → c ≡ put_at b count t.word → t.by < 2 ^ 64 → t.word < 2 ^ 64
    → SetDown a h count edits t c
set_down a b c h count edits t first second low small = record { is = rw (← first) second; low = low; small = small }

-- ---- while it goes on: i words of the cell and j of the update are used up
pub record Weaving (work : List ℕ) (h n m i j count edits : ℕ) (next : List ℕ) : Type 0 where
  pub half : h ≡ n + m
  pub left : i ≤ n
  pub right : j ≤ m
  pub few : count + edits ≤ i + j
  pub words : words_in next 0 count ++ result_words (words_in work (h + i) (n - i)) (words_in work (h + n + j) (m - j))
      ≡ result_words (words_in work h n) (words_in work (h + n) m)
  pub changes : words_back next h edits ++ modifies (words_in work (h + i) (n - i)) (words_in work (h + n + j) (m - j))
      ≡ modifies (words_in work h n) (words_in work (h + n) m)
  pub back : drop (8 * h) next ≡ drop (8 * h) work
  pub size : length next ≡ length work

pub weaving_start : (work : List ℕ) (h n m : ℕ) → h ≡ n + m → Weaving work h n m 0 0 0 0 work
unfolding words_in words_back
weaving_start work h n m e = record {
  half = e;
  left = omega arith;
  right = omega arith;
  few = omega arith;
  words = rw (add-zero h, add-zero (h + n), sub-zero n, sub-zero m);
  changes = rw (add-zero h, add-zero (h + n), sub-zero n, sub-zero m);
  back = refl;
  size = refl;
}

module _ {work : List ℕ} {h n m i j count edits : ℕ} {a : List ℕ} (so : Weaving work h n m i j count edits a) (halves : Halves work n m) where
  same_cell : words_in a (h + i) (n - i) ≡ words_in work (h + i) (n - i)
  same_cell = words_back_lem a work h (h + i) (n - i) so.back (omega arith)

  same_update : words_in a (h + n + j) (m - j) ≡ words_in work (h + n + j) (m - j)
  same_update = words_back_lem a work h (h + n + j) (m - j) so.back (omega arith)

  pub weaving_cell : Strict (words_in a (h + i) (n - i))
  weaving_cell = rw same_cell (strict_drop work h n i (h + i) (n - i) (rw so.half halves.cell) so.left refl refl)

  pub weaving_update : Strict (words_in a (h + n + j) (m - j))
  weaving_update = rw same_update (strict_drop work (h + n) m j (h + n + j) (m - j) (rw so.half halves.update) so.right refl refl)

  pub weaving_room : 16 * h ≤ length a
  weaving_room = let size = so.size in let room = halves.room in let half = so.half in omega arith

  module _ {t : Turn} (turn : Turned (words_in a (h + i) (n - i)) (words_in a (h + n + j) (m - j)) t) (more : i + j < h) where
    x_left : t.x ≤ n - i
    x_left = rw (words_length a (h + i) (n - i)) at turn.left

    y_right : t.y ≤ m - j
    y_right = rw (words_length a (h + n + j) (m - j)) at turn.right

    rest_cell : drop t.x (words_in a (h + i) (n - i)) ≡ words_in work (h + (i + t.x)) (n - (i + t.x))
    rest_cell =
        let p : h + i + t.x ≡ h + (i + t.x) = omega arith in
        let q : n - i - t.x ≡ n - (i + t.x) = omega arith in
        rw (same_cell, words_drop work (h + i) (n - i) t.x x_left, p, q)

    rest_update : drop t.y (words_in a (h + n + j) (m - j)) ≡ words_in work (h + n + (j + t.y)) (m - (j + t.y))
    rest_update =
        let p : h + n + j + t.y ≡ h + n + (j + t.y) = omega arith in
        let q : m - j - t.y ≡ m - (j + t.y) = omega arith in
        rw (same_update, words_drop work (h + n + j) (m - j) t.y y_right, p, q)

    turn_words : result_words (words_in work (h + i) (n - i)) (words_in work (h + n + j) (m - j))
        ≡ take t.keep (t.word ∷ []) ++ result_words (words_in work (h + (i + t.x)) (n - (i + t.x))) (words_in work (h + n + (j + t.y)) (m - (j + t.y)))
    turn_words = rw (← same_cell, ← same_update, ← rest_cell, ← rest_update) turn.words

    turn_changes : modifies (words_in work (h + i) (n - i)) (words_in work (h + n + j) (m - j))
        ≡ take t.change (t.by ∷ []) ++ modifies (words_in work (h + (i + t.x)) (n - (i + t.x))) (words_in work (h + n + (j + t.y)) (m - (j + t.y)))
    turn_changes = rw (← same_cell, ← same_update, ← rest_cell, ← rest_update) turn.edits

    module _ {b c : List ℕ} (first : b ≡ put_at a (h - 1 - edits) t.by) (second : c ≡ put_at b count t.word) (low : t.by < 2 ^ 64) (small : t.word < 2 ^ 64) where
      size_b : length b ≡ length a
      size_b = rw first (put_length a (h - 1 - edits) t.by)

      size_c : length c ≡ length a
      size_c = rw second (put_length b count t.word) ∙ size_b

      weaving_step : Weaving work h n m (i + t.x) (j + t.y) (count + t.keep) (edits + t.change) c
      weaving_step =
          let room = weaving_room in
          let sb = size_b in
          let xl = x_left in
          let yr = y_right in
          let few = so.few in
          let half = so.half in
          let sl = so.left in
          let sr = so.right in
          let fair = turn.fair in
          let one = turn.one in
          let once = turn.once in
          let stay : words_in b 0 count ≡ words_in a 0 count = rw first (words_put_behind a (h - 1 - edits) 0 count t.by (omega arith) (omega arith)) in
          let front : words_in c 0 (count + t.keep) ≡ words_in a 0 count ++ take t.keep (t.word ∷ []) =
          rw (second, ← stay) (front_some b count t.word t.keep one (omega arith) small) in
          let grown : words_back b h (edits + t.change) ≡ words_back a h edits ++ take t.change (t.by ∷ []) =
          rw first (back_some a h edits t.by t.change (omega arith) (omega arith) (omega arith) low) in
          let behind : words_back c h (edits + t.change) ≡ words_back a h edits ++ take t.change (t.by ∷ []) =
          rw (second, ← grown) (back_put b count h (edits + t.change) t.word (omega arith) (omega arith)) in
          let back_b : drop (8 * h) b ≡ drop (8 * h) a = rw first (put_drop a (h - 1 - edits) h t.by (omega arith) (omega arith)) in
          let back_c : drop (8 * h) c ≡ drop (8 * h) b = rw second (put_drop b count h t.word (omega arith) (omega arith)) in
          record {
            half = half;
            left = omega arith;
            right = omega arith;
            few = omega arith;
            words = rw (front, append_assoc (words_in a 0 count) (take t.keep (t.word ∷ [])), ← turn_words) so.words;
            changes = rw (behind, append_assoc (words_back a h edits) (take t.change (t.by ∷ [])), ← turn_changes) so.changes;
            back = back_c ∙ back_b ∙ so.back;
            size = size_c ∙ so.size;
          }

    pub weaving_on : {c : List ℕ} → SetDown a h count edits t c → Weaving work h n m (i + t.x) (j + t.y) (count + t.keep) (edits + t.change) c
    weaving_on down = weaving_step {b = put_at a (h - 1 - edits) t.by} refl down.is down.low down.small

pub weaving_done : {work : List ℕ} {h n m i j count edits : ℕ} {a : List ℕ} → Weaving work h n m i j count edits a → h ≤ i + j
    → Weaves work n m a (record { count = count; edits = edits })
unfolding words_in result_words updated modifies
weaving_done {work} {h} {n} {m} {i} {j} {count} {edits} {a} so high =
    let half = so.half in
    let sl = so.left in
    let sr = so.right in
    let few = so.few in
    let e : n - i ≡ 0 = omega arith in
    let f : m - j ≡ 0 = omega arith in
    record {
      words = rw (← half) (sym (append-nil (words_in a 0 count)) ∙ rw (e, f) at so.words);
      edits = rw (← half) (sym (append-nil (words_back a h edits)) ∙ rw (e, f) at so.changes);
      few = omega arith;
      back = rw (← half) so.back;
      size = so.size;
    }

-- ---- the modifies copied to the end
pub record Settling (work : List ℕ) (h i : ℕ) (next : List ℕ) : Type 0 where
  pub changes : words_back next (2 * h) i ≡ words_back work h i
  pub front : take (8 * h) next ≡ take (8 * h) work
  pub size : length next ≡ length work

pub settling_start : (work : List ℕ) (h : ℕ) → Settling work h 0 work
unfolding words_back
settling_start work h = record { changes = refl; front = refl; size = refl }

pub settling_on : {work : List ℕ} {h i : ℕ} {a : List ℕ} (w edits : ℕ) (b : List ℕ) → Settling work h i a → 16 * h ≤ length work → i < edits → edits ≤ h
    → w ≡ word_at a (h - 1 - i) → w < 2 ^ 64
    → b ≡ put_at a (2 * h - 1 - i) w → Settling work h (i + 1) b
settling_on {work} {h} {i} {a} w edits b so room more few is small put =
    let size = so.size in
    let fit : 8 * (2 * h - 1 - i) + 8 ≤ length a = omega arith in
    let here : w ≡ word_at work (h - 1 - i) = is ∙ word_front a work h (h - 1 - i) so.front (omega arith) in
    let before : take (8 * h) (put_at a (2 * h - 1 - i) w) ≡ take (8 * h) a =
    sym (take-take (8 * h) (8 * (2 * h - 1 - i)) (put_at a (2 * h - 1 - i) w) (omega arith))
    ∙ ap (take (8 * h)) (put_front a (2 * h - 1 - i) w fit) ∙ take-take (8 * h) (8 * (2 * h - 1 - i)) a (omega arith) in
    let grown : words_back (put_at a (2 * h - 1 - i) w) (2 * h) (i + 1) ≡ words_back a (2 * h) i ++ (w ∷ []) =
    back_some a (2 * h) i w 1 (omega arith) (omega arith) (omega arith) small in
    record {
      changes = rw put (grown ∙ rw (so.changes, here) (sym (back_last work h i (omega arith))));
      front = rw put (before ∙ so.front);
      size = rw put (put_length a (2 * h - 1 - i) w ∙ so.size);
    }

pub settling_done : {work : List ℕ} {h i : ℕ} {a : List ℕ} (edits : ℕ) → Settling work h i a → i ≤ edits → edits ≤ i → Settled work h edits a
settling_done {work} {h} {i} {a} edits so low high =
    let e : i ≡ edits = omega arith in
    record { changes = rw e at so.changes; front = so.front; size = so.size }
