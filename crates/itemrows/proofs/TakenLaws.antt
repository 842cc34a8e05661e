-- The rows of a record as the code reads them, and how four tags take them: turns of the loop. Assumes nothing.
use Prim.Native.Nat.{ℕ, ◌+◌, ◌*◌, ◌≤◌, ◌<◌}
use mathlib.Core.Bool.{true, false, cond}
use mathlib.Core.List.{List, [], ◌∷◌}
use mathlib.Core.Logic.{⊎_elim, inl, inr}
use mathlib.Core.Path.{◌≡◌, refl, sym, ap, ◌∙◌}
use native.Mathlib.Nat.{add-zero}
use native.Mathlib.Numerals.{add-one}
use native.Mathlib.Omega.{arith}
use lib.ListN.{length, take, drop, get_or, drop_of_length-le}
use lib.Seq.{drop-cons}
use lib.Dec.{eqb}
use borrow.Author.Tests.{eqb-true}
use Rattle.octets.proofs.Cases.{true_or_false}
use Rattle.iso8211.specs.Directory.{tag, row_width, rows}
use Rattle.iso8211.specs.Field.{count_at, directory_at, field_at}
use Rattle.iso8211.specs.Premises.{HeadOf}
use Rattle.iso8211.specs.declared.field.Head.{Head}
use Rattle.iso8211.proofs.Promise.{directory_length}
use Rattle.table.specs.Table.{table, as_number, row_of, tag_of}
use Rattle.table.specs.Text.{bytes}
use Rattle.itemrows.specs.Plain.{tags_of, untaken, PlainTold}
use Rattle.itemrows.proofs.ChosenLaws.{untaken_none}

-- ---- four tags in turn, the one at i due, the row at j next
peel : (s : List ℕ) (at j : ℕ) → j < count_at s at → drop j (directory_at s at) ≡ get_or (directory_at s at) j [] ∷ drop (j + 1) (directory_at s at)
peel s at j h = rw (add-one j) (drop-cons (directory_at s at) j [] (rw (directory_length s at) h))

past : (s : List ℕ) (at j : ℕ) → count_at s at ≤ j → drop j (directory_at s at) ≡ []
past s at j h = drop_of_length-le (directory_at s at) {i = j} (rw (directory_length s at) h)

pub record Taking (s : List ℕ) (at from : ℕ) (tags : List ℕ) (j i : ℕ) : Type 0 where
  pub inside : i ≤ 4
  pub behind : from ≤ j
  pub are : untaken (drop i tags) (drop j (directory_at s at)) ≡ untaken tags (drop from (directory_at s at))

pub taking_start : (s : List ℕ) (at from : ℕ) (tags : List ℕ) → Taking s at from tags from 0
taking_start s at from tags = record { inside = omega arith; behind = omega arith; are = refl }

taken_one : (t : ℕ) (ts row : List ℕ) (rows : List (List ℕ)) (j r : ℕ) → drop j rows ≡ row ∷ drop (j + 1) rows → r ≡ cond (eqb (tag row) t) 1 0
    → untaken ts (drop (j + r) rows) ≡ untaken (t ∷ ts) (drop j rows)
unfolding untaken
taken_one t ts row rows j r next e =
    ⊎_elim
    (λ (same : eqb (tag row) t ≡ true). let one : r ≡ 1 = rw same at e in rw (next, same, one))
    (λ (other : eqb (tag row) t ≡ false). let none : r ≡ 0 = rw other at e in rw (none, add-zero j, next, other))
    (true_or_false (eqb (tag row) t))

module _ {s : List ℕ} {at from j i : ℕ} {tags : List ℕ} (so : Taking s at from tags j i) (n : ℕ) (count : n ≡ count_at s at) (four : length tags ≡ 4) where
  pub taking_on : (named r : ℕ) → i < 4 → j < n → named ≡ (field_at s at j).tag → (r ≡ cond (eqb named (get_or tags i 0)) 1 0) × (r ≤ 1) → Taking s at from tags (j + r) (i + 1)
  unfolding field_at
  taking_on named r here more read (e, le) =
      let behind = so.behind in
      let next : drop i tags ≡ get_or tags i 0 ∷ drop (i + 1) tags = rw (add-one i) (drop-cons tags i 0 (omega arith)) in
      record {
        inside = omega arith;
        behind = omega arith;
        are = taken_one (get_or tags i 0) (drop (i + 1) tags) (get_or (directory_at s at) j []) (directory_at s at) j r (peel s at j (omega arith)) (rw read at e)
            ∙ ap (λ (ts : List ℕ). untaken ts (drop j (directory_at s at))) (sym next) ∙ so.are;
      }

  -- all rows are passed, or all tags
  pub taking_past : n ≤ j → drop j (directory_at s at) ≡ untaken tags (drop from (directory_at s at))
  taking_past all =
      let gone = past s at j (omega arith) in
      gone ∙ sym (untaken_none (drop i tags)) ∙ ap (λ (rs : List (List ℕ)). untaken (drop i tags) rs) (sym gone) ∙ so.are

  pub taking_end : 4 ≤ i → drop j (directory_at s at) ≡ untaken tags (drop from (directory_at s at))
  unfolding untaken
  taking_end all =
      let gone : drop i tags ≡ [] = drop_of_length-le tags {i = i} (omega arith) in
      sym (ap (λ (ts : List ℕ). untaken ts (drop j (directory_at s at))) gone) ∙ so.are

-- ---- the verdict
pub plain_no : (s : List ℕ) (at : ℕ) → PlainTold s at false
plain_no s at = record { few = λ (e : false ≡ true). never e; is = λ (e : false ≡ true). never e }
  where
    never : {A : Type 0} → false ≡ true → A
    never e = absurd (let z : ◌≡◌ {A = ℕ} 0 1 = cc in omega arith)

module _ (s : List ℕ) (at n t one two : ℕ) (count : n ≡ count_at s at) (few : n ≤ 8) (first_read : one ≡ (field_at s at 0).tag) (front : one ≡ 808464433)
    (second_read : two ≡ (field_at s at 1).tag) where
  all_gone : t ≡ n → drop t (directory_at s at) ≡ []
  all_gone e = past s at t (omega arith)

  pub plain_vector : two ≡ 1448233284
      → (drop t (directory_at s at) ≡ untaken (1096045654 ∷ 1448235092 ∷ 1397174852 ∷ 1397175108 ∷ []) (drop 2 (directory_at s at))) × (2 ≤ t) → PlainTold s at (eqb t n)
  unfolding field_at tags_of tag_of row_of table as_number bytes
  plain_vector e (are, low) = record {
    few = λ (told : eqb t n ≡ true). omega arith;
    is = λ (told : eqb t n ≡ true).
        record { front = sym first_read ∙ front; lists = inl (sym second_read ∙ e, sym are ∙ all_gone (eqb-true t n told)) };
  }

  pub plain_feature : (two ≡ 1448233284 → ⊥)
      → (drop t (directory_at s at) ≡ untaken (1096045638 ∷ 1312904262 ∷ 1179013204 ∷ 1179865172 ∷ []) (drop 3 (directory_at s at))) × (3 ≤ t) → PlainTold s at (eqb t n)
  unfolding field_at tags_of tag_of row_of table as_number bytes
  plain_feature ne (are, low) = record {
    few = λ (told : eqb t n ≡ true). omega arith;
    is = λ (told : eqb t n ≡ true).
        record {
          front = sym first_read ∙ front;
          lists = inr ((λ (e : tag (get_or (directory_at s at) 1 []) ≡ 1448233284). ne (second_read ∙ e)), sym are ∙ all_gone (eqb-true t n told));
        };
  }

-- ---- the rows as they are read
pub rows_read : {s : List ℕ} {at : ℕ} {h : Head} (out : List (List ℕ)) → HeadOf s at h → take h.count out ≡ rows h.count s h.lengths h.positions (at + 24)
    → take (count_at s at) out ≡ directory_at s at
unfolding directory_at
rows_read out head read = rw (← head.count, ← head.lengths, ← head.positions) read

pub rows_within : {s : List ℕ} {at : ℕ} {h : Head} → HeadOf s at h → at + 24 + h.count * row_width h.lengths h.positions ≤ length s
rows_within {s} {at} {h} head =
    let whole = head.headed.whole in
    let room = head.headed.room in
    rw (head.count, head.lengths, head.positions) (omega arith)
