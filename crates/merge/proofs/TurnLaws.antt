-- Laws of one turn of the weaving. Assumes nothing.
use Prim.Native.Nat.{ℕ, zero, suc, ◌+◌, ◌-◌, ◌/◌, ◌≤◌, ◌<◌}
use mathlib.Core.Bool.{Bool, true, false}
use mathlib.Core.List.{List, [], ◌∷◌}
use mathlib.Core.Path.{◌≡◌, refl, sym, ◌∙◌}
use native.Mathlib.Omega.{arith}
use lib.ListN.{length, get_or}
use borrow.Author.Tests.{ne_eqb, eq-eqb}
use Rattle.words.specs.Words.{word_at, words_in}
use Rattle.items.specs.Word.{name_of, marked, name_weight}
use Rattle.names.specs.Premises.{Strict}
use Rattle.merge.specs.Updated.{Over, over_none, over_more, Named, AllMade, made_none, made_more}
use Rattle.merge.specs.Words.{word_rules, result_words, modifies, deletes, has_name}
use Rattle.merge.specs.Area.{kept_turn, inserted_turn, deleted_turn, modified_turn, Turned}
use Rattle.merge.specs.declared.turn.Turn.{Turn}
use Rattle.merge.proofs.UpdatedLaws.{over_less, front_kept, front_new, front_gone, front_edit}

-- ---- words have names
pub mark_name : (u : ℕ) → name_of (marked u) ≡ name_of u
unfolding marked
mark_name u = omega arith

pub words_named : Named word_rules
words_named = record { keep = λ (u a : ℕ). refl }

pub words_made : (us : List ℕ) → AllMade word_rules us
words_made [] = made_none
words_made (u ∷ us) = made_more (mark_name u) (words_made us)

-- ---- rising words
pub strict_tail : {w : ℕ} {ws : List ℕ} → Strict (w ∷ ws) → Strict ws
strict_tail {w} {ws} so = record { up = λ p q h b. so.up (suc p) (suc q) (omega arith) (omega arith) }

over_each : (n : ℕ) (ws : List ℕ) → ((q : ℕ) → q < length ws → n < name_of (get_or ws q 0)) → Over (λ (w : ℕ). name_of w) n ws
over_each n [] each = over_none
over_each n (w ∷ ws) each = over_more (each 0 (omega arith)) (over_each n ws (λ q b. each (suc q) (omega arith)))

pub strict_over : {w : ℕ} {ws : List ℕ} → Strict (w ∷ ws) → Over (λ (w : ℕ). name_of w) (name_of w) ws
strict_over {w} {ws} so = over_each (name_of w) ws (λ q b. so.up 0 (suc q) (omega arith) (omega arith))

-- ---- names that are held
pub has_not : (n : ℕ) (cs : List ℕ) → Over (λ (w : ℕ). name_of w) n cs → has_name n cs ≡ false
unfolding has_name
has_not n [] over_none = refl
has_not n (c ∷ cs) (over_more h rest) = rw (ne_eqb (name_of c) n (λ e. omega arith), has_not n cs rest)

modifies_past : (c : ℕ) (cs us : List ℕ) → Over (λ (w : ℕ). name_of w) (name_of c) us → modifies (c ∷ cs) us ≡ modifies cs us
unfolding modifies has_name
modifies_past c cs [] over_none = refl
modifies_past c cs (u ∷ us) (over_more h rest) = rw (ne_eqb (name_of c) (name_of u) (λ e. omega arith), modifies_past c cs us rest)

-- ---- the turns, over lists
list_new : (u : ℕ) (cs us : List ℕ) → Over (λ (w : ℕ). name_of w) (name_of u) cs → Over (λ (w : ℕ). name_of w) (name_of u) us
    → Turned cs (u ∷ us) (inserted_turn (marked u))
unfolding result_words modifies
list_new u cs us b rest = record {
  words = front_new words_named u cs us (words_made us) b rest;
  edits = rw (has_not (name_of u) cs b);
  some = omega arith;
  fair = omega arith;
  left = omega arith;
  right = omega arith;
  one = omega arith;
  x_one = omega arith;
  y_one = omega arith;
  once = omega arith;
}

list_kept : (c : ℕ) (cs us : List ℕ) → Over (λ (w : ℕ). name_of w) (name_of c) us
    → Turned (c ∷ cs) us (kept_turn c)
unfolding result_words
list_kept c cs us b = record {
  words = front_kept words_named c cs us b;
  edits = modifies_past c cs us b;
  some = omega arith;
  fair = omega arith;
  left = omega arith;
  right = omega arith;
  one = omega arith;
  x_one = omega arith;
  y_one = omega arith;
  once = omega arith;
}

module _ (c u : ℕ) (cs us : List ℕ) (same : name_of c ≡ name_of u) (b : Over (λ (w : ℕ). name_of w) (name_of u) us) where
  list_gone : deletes u ≡ true → Turned (c ∷ cs) (u ∷ us) (deleted_turn c)
  unfolding result_words modifies has_name
  list_gone g = record {
    words = front_gone words_named c cs u us same b g;
    edits = rw (eq-eqb (name_of c) (name_of u) same, g) (modifies_past c cs us (rw same b));
    some = omega arith;
    fair = omega arith;
    left = omega arith;
    right = omega arith;
    one = omega arith;
    x_one = omega arith;
    y_one = omega arith;
    once = omega arith;
  }

  list_edit : deletes u ≡ false → Turned (c ∷ cs) (u ∷ us) (modified_turn c u)
  unfolding result_words modifies has_name
  list_edit g = record {
    words = front_edit words_named c cs u us same b g;
    edits = rw (eq-eqb (name_of c) (name_of u) same, g, modifies_past c cs us (rw same b));
    some = omega arith;
    fair = omega arith;
    left = omega arith;
    right = omega arith;
    one = omega arith;
    x_one = omega arith;
    y_one = omega arith;
    once = omega arith;
  }

-- ---- the turns, over words of an area
words_first : (s : List ℕ) (p n w : ℕ) → (n ≡ 0 → ⊥) → w ≡ word_at s p → words_in s p n ≡ w ∷ words_in s (suc p) (n - 1)
unfolding words_in
words_first s p zero w ne e = absurd (ne refl)
words_first s p (suc n) w ne e = let m : suc n - 1 ≡ n = omega arith in rw (m, e)

words_none : (s : List ℕ) (p n : ℕ) → n ≡ 0 → words_in s p n ≡ []
unfolding words_in
words_none s p n e = rw e

first_over_lem : (s : List ℕ) (p n w : ℕ) → (n ≡ 0 → ⊥) → w ≡ word_at s p → Strict (words_in s p n) → Over (λ (w : ℕ). name_of w) (name_of w) (words_in s (suc p) (n - 1))
first_over_lem s p n w ne e so = strict_over (rw (words_first s p n w ne e) at so)

module _ (s : List ℕ) (p i q j : ℕ) (t : Turn) where
  pub turn_new : (u w : ℕ) → i ≡ 0 → 1 ≤ i + j → Strict (words_in s q j) → u ≡ word_at s q → w ≡ marked u → t ≡ inserted_turn w → Turned (words_in s p i) (words_in s q j) t
  turn_new u w e h so is mark turn =
      let ne : j ≡ 0 → ⊥ = λ z. omega arith in
      rw (turn, words_none s p i e, words_first s q j u ne is, mark) (list_new u [] (words_in s (suc q) (j - 1)) over_none (first_over_lem s q j u ne is so))

  pub turn_kept : (c : ℕ) → (i ≡ 0 → ⊥) → j ≡ 0 → c ≡ word_at s p → t ≡ kept_turn c → Turned (words_in s p i) (words_in s q j) t
  turn_kept c ne e is turn = rw (turn, words_none s q j e, words_first s p i c ne is) (list_kept c (words_in s (suc p) (i - 1)) [] over_none)

  module _ (c u : ℕ) (cell : i ≡ 0 → ⊥) (update : j ≡ 0 → ⊥) (is : c ≡ word_at s p) (by : u ≡ word_at s q) (cs : Strict (words_in s p i)) (us : Strict (words_in s q j)) where
    pub turn_before : c / name_weight < u / name_weight → t ≡ kept_turn c → Turned (words_in s p i) (words_in s q j) t
    turn_before h turn =
        let over = over_less word_rules (name_of c) (name_of u) (words_in s (suc q) (j - 1)) h (first_over_lem s q j u update by us) in
        rw (turn, words_first s p i c cell is, words_first s q j u update by)
        (list_kept c (words_in s (suc p) (i - 1)) (u ∷ words_in s (suc q) (j - 1)) (over_more h over))

    pub turn_behind : (w : ℕ) → w ≡ marked u → u / name_weight < c / name_weight → t ≡ inserted_turn w → Turned (words_in s p i) (words_in s q j) t
    turn_behind w mark h turn =
        let over = over_less word_rules (name_of u) (name_of c) (words_in s (suc p) (i - 1)) h (first_over_lem s p i c cell is cs) in
        rw (turn, words_first s p i c cell is, words_first s q j u update by, mark)
        (list_new u (c ∷ words_in s (suc p) (i - 1)) (words_in s (suc q) (j - 1)) (over_more h over) (first_over_lem s q j u update by us))

    module _ (same : c / name_weight ≡ u / name_weight) (d : Bool) (told : d ≡ deletes u) where
      pub turn_gone : d ≡ true → t ≡ deleted_turn c → Turned (words_in s p i) (words_in s q j) t
      turn_gone g turn =
          rw (turn, words_first s p i c cell is, words_first s q j u update by)
          (list_gone c u (words_in s (suc p) (i - 1)) (words_in s (suc q) (j - 1)) (omega arith) (first_over_lem s q j u update by us) (sym told ∙ g))

      pub turn_edit : d ≡ false → t ≡ modified_turn c u → Turned (words_in s p i) (words_in s q j) t
      turn_edit g turn =
          rw (turn, words_first s p i c cell is, words_first s q j u update by)
          (list_edit c u (words_in s (suc p) (i - 1)) (words_in s (suc q) (j - 1)) (omega arith) (first_over_lem s q j u update by us) (sym told ∙ g))
