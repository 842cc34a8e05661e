-- Laws of an edge: its ends by its pointers and by its note, and the step along it. Assumes nothing.
use Prim.Native.Nat.{ℕ, zero, suc, ◌+◌, ◌*◌, ◌/◌, ◌%◌, ◌≤◌, ◌<◌}
use mathlib.Core.Bool.{Bool, true, false, not}
use mathlib.Core.List.{List, [], ◌∷◌}
use mathlib.Core.Path.{◌≡◌, refl, sym, ◌∙◌}
use native.Mathlib.Omega.{arith}
use lib.ListN.{length, get_or}
use lib.Dec.{eqb}
use borrow.Author.Tests.{eq-eqb, ne_eqb}
use Rattle.std.specs.Prelude.{Option, Some, None}
use Rattle.octets.specs.Number.{byte_at}
use Rattle.octets.specs.Premises.{Reads}
use Rattle.octets.proofs.Tests.{told_no, told_yes}
use Rattle.entries.specs.Rules.{through}
use Rattle.words.specs.Words.{word_at, words_in}
use Rattle.words.proofs.WordsLaws.{words_length, words_at}
use Rattle.lookups.specs.Lookup.{name_in}
use Rattle.lookups.specs.LookupWords.{index_of}
use Rattle.ring.specs.Walk.{ends_with, node_at, taken_with, taken_of}
use Rattle.items.specs.Word.{end_in}
use Rattle.ring.specs.Ring.{node_step, node_with, found, step, step_of, usage_good}

-- ---- one pointer of an edge: b is its TOPI
module _ (topi node b : ℕ) (e : List ℕ) (is : b ≡ byte_at e 7) where
  pub node_here : (r : ℕ) → Reads e 1 4 r → b ≡ topi → r ≡ node_step topi node e
  unfolding node_step
  node_here r read h = let same : byte_at e 7 ≡ topi = sym is ∙ h in rw (eq-eqb (byte_at e 7) topi same) read.is

  pub node_other : (b ≡ topi → ⊥) → node ≡ node_step topi node e
  unfolding node_step
  node_other ne = rw (ne_eqb (byte_at e 7) topi (λ (h : byte_at e 7 ≡ topi). ne (is ∙ h)))

-- ---- both ends in one word
pub ends_both : (es : List (List ℕ)) (a b : ℕ) → a ≡ through (node_step 1) 0 es → b ≡ through (node_step 2) 0 es → a * 4294967296 + b ≡ ends_with es
unfolding ends_with node_with
ends_both es a b first last = rw (first, last)

-- the same of two pointers: p and q are the nodes behind the first
pub ends_two : (e f : List ℕ) (p q a b : ℕ) → p ≡ node_step 1 0 e → a ≡ node_step 1 p f → q ≡ node_step 2 0 e → b ≡ node_step 2 q f → a * 4294967296 + b ≡ ends_with (e ∷ f ∷ [])
unfolding through
ends_two e f p q a b one first two last = ends_both (e ∷ f ∷ []) a b (rw (first, one)) (rw (last, two))

-- ---- the note of an edge
get_d_past : (l : List ℕ) (i : ℕ) → length l ≤ i → get_or l i 0 ≡ 0
get_d_past [] i h = refl
get_d_past (x ∷ l) zero h = absurd (omega arith)
get_d_past (x ∷ l) (suc i) h = get_d_past l i (omega arith)

module _ (work : List ℕ) (m v i : ℕ) where
  pub ends_past : v ≤ i → 0 ≡ get_or (words_in work m v) i 0
  ends_past h = sym (get_d_past (words_in work m v) i (omega (arith, words_length work m v)))

  pub ends_here : (x : ℕ) → i < v → x ≡ word_at work (m + i) → x ≡ get_or (words_in work m v) i 0
  ends_here x h there = there ∙ sym (words_at work m v i h)

-- ---- the step along an edge: f is what the look-up of its name answered
module _ (ws ends e : List ℕ) (name : ℕ) (f : Option ℕ) (named : name ≡ name_in e) (is : f ≡ index_of ws name) where
  pub step_missing : f ≡ None → None ≡ taken_of (index_of ws) (node_at ws ends) e
  unfolding taken_of taken_with
  step_missing h = rw (← named, ← is, h)

  -- w is the word of its ends
  module _ (i w a b u : ℕ) (at : f ≡ Some i) (noted : w ≡ get_or ends i 0) (first : a ≡ w / 4294967296) (last : b ≡ w % 4294967296) (usage : u ≡ byte_at e 6) where
    pub step_back : byte_at e 5 ≡ 2 → Some (step b a u) ≡ taken_of (index_of ws) (node_at ws ends) e
    unfolding taken_of taken_with step_of node_at end_in found
    step_back h = rw (eq-eqb (byte_at e 5) 2 h, ← named, ← is, at, ← noted, ← first, ← last, usage)

    pub step_forth : (byte_at e 5 ≡ 2 → ⊥) → Some (step a b u) ≡ taken_of (index_of ws) (node_at ws ends) e
    unfolding taken_of taken_with step_of node_at end_in found
    step_forth ne = rw (ne_eqb (byte_at e 5) 2 ne, ← named, ← is, at, ← noted, ← first, ← last, usage)

-- ---- the usage of an edge
pub usage_within : (exterior : Bool) (u : ℕ) → not exterior ≡ true → eqb u 2 ≡ usage_good exterior u
unfolding usage_good
usage_within exterior u h = rw (told_no exterior exterior refl h)

module _ (exterior : Bool) (u : ℕ) (h : not exterior ≡ false) where
  pub usage_one : u ≡ 1 → true ≡ usage_good exterior u
  unfolding usage_good
  usage_one e = rw (told_yes exterior exterior refl h, e)

  pub usage_three : (u ≡ 1 → ⊥) → eqb u 3 ≡ usage_good exterior u
  unfolding usage_good
  usage_three ne = rw (told_yes exterior exterior refl h, ne_eqb u 1 ne)
