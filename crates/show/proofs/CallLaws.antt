-- Laws of the call: the codes in document 01's order, one law for each way out. Assumes nothing.
use Prim.Native.Nat.{ℕ, ◌+◌, ◌*◌, ◌≤◌, ◌<◌}
use mathlib.Core.Bool.{false}
use mathlib.Core.List.{List}
use mathlib.Core.Path.{◌≡◌, sym, ap, ◌∙◌}
use native.Mathlib.Omega.{arith}
use lib.ListN.{length}
use lib.Dec.{eqb}
use borrow.Author.Tests.{eq-eqb, ne_eqb}
use Rattle.names.specs.Names.{first_item}
use Rattle.names.specs.Premises.{HeldIn}
use Rattle.reader.specs.Reader.{front_of, cell_fault, cell_checked, both_checked, both_fault, fronted}
use Rattle.std.specs.Prelude.{Result, Ok, Err}
use Rattle.reader.proofs.ReaderLaws.{cell_good, cell_parts, update_parts}
use Rattle.readboth.proofs.BothLaws.{both_cell_none, both_update_none, both_cell_good, both_update_good}
use Rattle.show.specs.Show.{cell_sight, both_sight, after_reading, alone_sight, pair_sight, update_sight, sight_of, sight_answer, sight_bytes, show_of, shown_part}
use Rattle.show.specs.Listed.{Listed, BothListed}
use Rattle.answers.specs.declared.refusal.Refusal.{Refusal}
use Rattle.answers.specs.Answer.{answer, filed, outcome}
use Rattle.answers.proofs.OutcomeLaws.{none_of, some_of}
use Rattle.reader.specs.Lent.{FileOpened, BothOpened, BothIn}
use Rattle.answers.specs.declared.answer.Answer.{Answer}
use Rattle.readboth.proofs.CallLaws.{work_short, work_on}
use Rattle.answers.proofs.AnswerLaws.{filed_code, filed_some}
use Rattle.answers.specs.Sixteen.{answer_area}
use Rattle.show.specs.declared.span.Span.{Span}

-- ---- alone
module _ (cell : List ℕ) (n w rcnm rcid : ℕ) where
  pub alone_work : (a : Answer) → w < 16 * n → a ≡ answer 3 0 0 (16 * n) 0 → Err a ≡ alone_sight cell n w rcnm rcid
  unfolding alone_sight after_reading cell_checked
  alone_work a h e = rw (work_short w n (filed 1 (cell_fault cell n)) h, e)

  module _ (room : 16 * n ≤ w) {q : Result Unit Refusal} (is : q ≡ outcome (cell_fault cell n)) where
    alone_checked : cell_checked cell w n ≡ filed 1 (cell_fault cell n)
    unfolding cell_checked
    alone_checked = work_on w n (filed 1 (cell_fault cell n)) room

    pub alone_filed : (a : Answer) {r : Refusal} → q ≡ Err r → a ≡ answer r.code 1 r.index 0 r.offset → Err a ≡ alone_sight cell n w rcnm rcid
    unfolding alone_sight after_reading
    alone_filed a {r} told e =
        let p = some_of _ is told in
        let other : eqb (filed 1 r).code 0 ≡ false = ne_eqb (filed 1 r).code 0 (λ (z : (filed 1 r).code ≡ 0). p.1 (sym (filed_code 1 r) ∙ z)) in
        rw (alone_checked, ← p.0, other, filed_some 1 r a p.1 e)

    pub alone_on : {u : Unit} (t : Result Span Answer) → q ≡ Ok u → t ≡ cell_sight cell n rcnm rcid → t ≡ alone_sight cell n w rcnm rcid
    unfolding alone_sight after_reading
    alone_on t none e = rw (alone_checked, eq-eqb (filed 1 (cell_fault cell n)).code 0 (filed_code 1 (cell_fault cell n) ∙ none_of _ is none)) e

-- the words of a cell that isn't refused
pub alone_listed : (cell work : List ℕ) (n : ℕ) {q : Result Unit Refusal} {u : Unit} → q ≡ outcome (cell_fault cell n) → q ≡ Ok u → FileOpened cell n
    → 16 * n ≤ length work → HeldIn cell n work → Listed false cell n work 0
unfolding first_item
alone_listed cell work n is none so room held =
    let z : (cell_fault cell n).code ≡ 0 = none_of _ is none in
    record {
      good = cell_good cell n so.framed so.short z;
      once = (cell_parts cell n z).1;
      room = omega arith;
      words = held.words;
    }

-- ---- pair
module _ (cell : List ℕ) (n : ℕ) (update : List ℕ) (m w rcnm rcid : ℕ) where
  pub pair_work : (a : Answer) → w < 16 * (n + m) → a ≡ answer 3 0 0 (16 * (n + m)) 0 → Err a ≡ pair_sight cell n update m w rcnm rcid
  unfolding pair_sight after_reading both_checked
  pair_work a h e = rw (work_short w (n + m) (both_fault cell n update m) h, e)

  module _ (room : 16 * (n + m) ≤ w) (a : Answer) (is : a ≡ both_fault cell n update m) where
    pair_checked : both_checked cell update w n m ≡ a
    unfolding both_checked
    pair_checked = work_on w (n + m) (both_fault cell n update m) room ∙ sym is

    pub pair_filed : (a.code ≡ 0 → ⊥) → Err a ≡ pair_sight cell n update m w rcnm rcid
    unfolding pair_sight after_reading
    pair_filed ne = rw (pair_checked, ne_eqb a.code 0 ne)

    pub pair_on : (t : Result Span Answer) → a.code ≡ 0 → t ≡ both_sight cell n update m rcnm rcid → t ≡ pair_sight cell n update m w rcnm rcid
    unfolding pair_sight after_reading
    pair_on t none e = rw (pair_checked, eq-eqb a.code 0 none) e

-- the words of two files that aren't refused
pub pair_listed : (cell update work : List ℕ) (n m : ℕ) (a : Answer) → a ≡ both_fault cell n update m → a.code ≡ 0
    → FileOpened cell n → FileOpened update m → 16 * (n + m) ≤ length work → BothIn cell n update m work → BothListed cell n update m work
unfolding first_item
pair_listed cell update work n m a is none held come room words =
    let o : BothOpened cell n update m work = record { held = held; come = come; room = room } in
    let z : (both_fault cell n update m).code ≡ 0 = ap (λ (q : Answer). q.code) (sym is) ∙ none in
    record {
      held = record { good = both_cell_good o z; once = (cell_parts cell n (both_cell_none o z)).1; room = omega arith; words = words.held };
      come = record { good = both_update_good o z; once = (update_parts update m (both_update_none o z)).1; room = omega arith; words = words.come };
    }

-- ---- with_update
module _ (cell : List ℕ) (n : ℕ) (update : List ℕ) (w rcnm rcid : ℕ) where
  pub update_none : (t : Result Span Answer) → length update ≡ 0 → t ≡ alone_sight cell n w rcnm rcid → t ≡ update_sight cell n update w rcnm rcid
  unfolding update_sight
  update_none t z e = rw (eq-eqb (length update) 0 z) e

  module _ (some : length update ≡ 0 → ⊥) (f : Result ℕ Answer) (is : f ≡ front_of 2 update) where
    pub update_refused : (a : Answer) → f ≡ Err a → Err a ≡ update_sight cell n update w rcnm rcid
    unfolding update_sight fronted
    update_refused a told = rw (ne_eqb (length update) 0 some, ← is, told)

    pub update_counted : (m : ℕ) (t : Result Span Answer) → f ≡ Ok m → t ≡ pair_sight cell n update m w rcnm rcid → t ≡ update_sight cell n update w rcnm rcid
    unfolding update_sight fronted
    update_counted m t told e = rw (ne_eqb (length update) 0 some, ← is, told) e

-- ---- seen
module _ (cell update : List ℕ) (w rcnm rcid : ℕ) (f : Result ℕ Answer) (is : f ≡ front_of 1 cell) where
  pub seen_refused : (a : Answer) → f ≡ Err a → Err a ≡ sight_of cell update w rcnm rcid
  unfolding sight_of fronted
  seen_refused a told = rw (← is, told)

  pub seen_on : (n : ℕ) (t : Result Span Answer) → f ≡ Ok n → t ≡ update_sight cell n update w rcnm rcid → t ≡ sight_of cell update w rcnm rcid
  unfolding sight_of fronted
  seen_on n t told e = rw (← is, told) e

-- ---- show
module _ (cell update : List ℕ) (w rcnm rcid : ℕ) (sight : Result Span Answer) (is : sight ≡ sight_of cell update w rcnm rcid) where
  pub show_part : (r : List ℕ) → r ≡ sight_bytes cell update sight → r ≡ shown_part cell update w rcnm rcid
  unfolding shown_part
  show_part r e = e ∙ rw is

  pub show_area : (a : Answer) (before told : List ℕ) → a ≡ sight_answer sight → told ≡ answer_area before a → told ≡ answer_area before (show_of cell update w rcnm rcid)
  unfolding show_of
  show_area a before told q e = e ∙ ap (answer_area before) (q ∙ ap sight_answer is)
