-- Laws of both files' names in one work area, and of the codes 4 to 8 of both. Assumes nothing.
use Prim.Native.Nat.{ℕ, ◌+◌, ◌-◌, ◌*◌, ◌≤◌, ◌<◌}
use mathlib.Core.Bool.{true, false}
use mathlib.Core.List.{List, ◌++◌}
use mathlib.Core.Path.{◌≡◌, sym, ap, ◌∙◌}
use native.Mathlib.Nat.{zero-add}
use native.Mathlib.Omega.{arith}
use lib.ListN.{length, take, get_or, get_or-append}
use lib.Seq.{get_or-drop, drop_at, length-take-le}
use borrow.Rule.Slice.PartMut.{mid_of, post_of, put_mid, mid_len, take_put}
use Rattle.words.specs.Words.{words_in}
use Rattle.words.specs.Order.{sorted}
use Rattle.words.proofs.WordsLaws.{num_same, words_same, words_front}
use Rattle.names.specs.NameWords.{name_words}
use Rattle.names.specs.Premises.{Readable, HeldIn}
use Rattle.reader.specs.Reader.{cell_fault, update_fault, both_checked, both_fault}
use Rattle.reader.proofs.ReaderLaws.{update_good, cell_good}
use Rattle.answers.specs.declared.refusal.Refusal.{Refusal}
use Rattle.answers.specs.Answer.{answer, filed, outcome, answer_of}
use Rattle.std.specs.Prelude.{Result, Ok, Err}
use Rattle.reader.specs.Lent.{FileOpened, BothOpened, ComeIn, BothIn}
use Rattle.answers.specs.declared.answer.Answer.{Answer}
use Rattle.answers.proofs.FirstLaws.{first_told}
use Rattle.answers.proofs.AnswerLaws.{filed_some, filed_told, filed_first, filed_on}
use Rattle.answers.proofs.OutcomeLaws.{none_of, some_of, fine_is, answer_told}
use Rattle.readboth.proofs.CallLaws.{worked_on}

-- ---- what is lent
pub both_opened : {cell update work : List ℕ} {n m : ℕ} → FileOpened cell n → FileOpened update m → 16 * (n + m) ≤ length work → BothOpened cell n update m work
both_opened held come room = record { held = held; come = come; room = room }

-- ---- a part that is lent from word i on, with room for n words, and comes back as ys
module _ (s ys : List ℕ) (i n : ℕ) (fit : 8 * (i + n) ≤ length s) (long : length ys ≡ length (mid_of (8 * i) (length s - 8 * i) s)) where
  abbrev next : List ℕ
  next = put_mid (8 * i) (length s - 8 * i) s ys

  part_size : length ys ≡ length s - 8 * i
  part_size = long ∙ mid_len (8 * i) (length s) s (omega arith)

  part_byte : (k : ℕ) → k < length ys → get_or next (8 * i + k) 0 ≡ get_or ys k 0
  part_byte k less =
      let post = post_of (8 * i) (length s - 8 * i) s in
      let there = drop_at (take (8 * i) s) (ys ++ post) (8 * i) (length-take-le (8 * i) s (omega arith)) in
      sym (get_or-drop (8 * i) next k 0) ∙ ap (λ (l : List ℕ). get_or l k 0) there ∙ get_or-append ys post 0 k less

  part_words : (j : ℕ) → j ≤ n → words_in next i j ≡ words_in ys 0 j
  part_words j few =
      words_same next ys i 0 j
      (λ k less.
      rw (zero-add k)
      (num_same 8 next ys (8 * (i + k)) (8 * k)
      (λ b small.
      let sum : 8 * (i + k) + b ≡ 8 * i + (8 * k + b) = omega arith in
      let size = part_size in
      rw sum (part_byte (8 * k + b) (omega arith)))))

  pub cell_placed : (cell : List ℕ) → HeldIn cell n ys → words_in next i (n - 3) ≡ sorted (name_words false cell n)
  cell_placed cell held = part_words (n - 3) (omega arith) ∙ held.words

  pub update_placed : (update : List ℕ) → ComeIn update n ys → words_in next i (n - 2) ≡ sorted (name_words true update n)
  update_placed update come = part_words (n - 2) (omega arith) ∙ come.words

  pub part_front : take (8 * i) next ≡ take (8 * i) s
  part_front = take_put (8 * i) (length s - 8 * i) s ys (omega arith)

-- ---- the codes of both
module _ (cell update : List ℕ) (n m : ℕ) (a : Answer) {q : Result Unit Refusal} (is : q ≡ outcome (cell_fault cell n)) where
  pub first_cell : {r : Refusal} → q ≡ Err r → a ≡ answer r.code 1 r.index 0 r.offset → a ≡ both_fault cell n update m
  first_cell {r} h e = let p = some_of _ is h in rw (← p.0) (filed_first 1 r (filed 2 (update_fault update m)) a p.1 (filed_some 1 r a p.1 e))

  pub first_update : {u : Unit} {v : Result Unit Refusal} → q ≡ Ok u → v ≡ outcome (update_fault update m) → a ≡ answer_of 2 v → a ≡ both_fault cell n update m
  first_update h v e = filed_on 1 (cell_fault cell n) (filed 2 (update_fault update m)) a (none_of _ is h) (e ∙ answer_told 2 _ v)

-- a refusal promises no words
pub both_none : {cell update work : List ℕ} {n m : ℕ} (a : Answer) (file : ℕ) {q : Result Unit Refusal} {r : Refusal} → q ≡ outcome (cell_fault cell n) → q ≡ Err r
    → a ≡ answer r.code file r.index 0 r.offset → a.code ≡ 0 → BothIn cell n update m work
both_none a file {r = r} is h e z = absurd ((some_of _ is h).1 (ap (λ (x : Answer). x.code) (sym e) ∙ z))

-- the cell's words stay while the update is read: w is the work area before that, x after it
module _ (cell update w x : List ℕ) (n m a b : ℕ) (ea : a ≡ n - 3) (eb : b ≡ m - 2)
    (held : words_in w (a + b) (n - 3) ≡ sorted (name_words false cell n)) (front : take (8 * (a + b + a)) x ≡ take (8 * (a + b + a)) w) where
  both_in : words_in x (a + b + a) (m - 2) ≡ sorted (name_words true update m) → BothIn cell n update m x
  both_in come = record {
    held = rw (← ea, ← eb) (words_front x w (a + b + a) (a + b) a front (omega arith) ∙ rw (← ea) at held);
    come = rw (← ea, ← eb) (rw (← eb) at come);
  }

  pub both_words : {v : Result Unit Refusal} (k : Answer) → v ≡ outcome (update_fault update m) → (v ≡ Ok tt → words_in x (a + b + a) (m - 2) ≡ sorted (name_words true update m))
      → k ≡ answer_of 2 v → k.code ≡ 0 → BothIn cell n update m x
  both_words k is come e z =
      both_in (come (fine_is _ is (filed_told 2 (update_fault update m) (ap (λ (q : Answer). q.code) (sym (e ∙ answer_told 2 _ is)) ∙ z))))

-- ---- out of no refusal of both
pub both_apart : (cell : List ℕ) (n : ℕ) (update : List ℕ) (m : ℕ) → (both_fault cell n update m).code ≡ 0 → ((cell_fault cell n).code ≡ 0) × ((update_fault update m).code ≡ 0)
both_apart cell n update m z =
    let t = first_told (λ (x : Answer). x.code) (filed 1 (cell_fault cell n)) (filed 2 (update_fault update m)) z in
    (filed_told 1 (cell_fault cell n) t.0, filed_told 2 (update_fault update m) t.2)

module _ {cell update work : List ℕ} {n m : ℕ} (o : BothOpened cell n update m work) (z : (both_fault cell n update m).code ≡ 0) where
  pub both_cell_none : (cell_fault cell n).code ≡ 0
  both_cell_none = (both_apart cell n update m z).0

  pub both_update_none : (update_fault update m).code ≡ 0
  both_update_none = (both_apart cell n update m z).1

  pub both_cell_good : Readable false cell n
  both_cell_good = cell_good cell n o.held.framed o.held.short both_cell_none

  pub both_update_good : Readable true update m
  both_update_good = update_good update m o.come.framed o.come.short both_update_none

-- ---- both_checked
pub checked_both : (cell update : List ℕ) (w n m : ℕ) (a : Answer) → 16 * (n + m) ≤ w → a ≡ both_fault cell n update m → a ≡ both_checked cell update w n m
unfolding both_checked
checked_both cell update w n m a room e = worked_on w (n + m) (both_fault cell n update m) a room e
