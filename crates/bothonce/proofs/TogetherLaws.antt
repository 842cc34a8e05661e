-- Laws of a cell and an update that are read in one pass each. Assumes nothing.
use Prim.Native.Nat.{ℕ, ◌+◌, ◌-◌, ◌*◌, ◌≤◌}
use mathlib.Core.List.{List}
use mathlib.Core.Path.{◌≡◌, ◌∙◌, subst}
use native.Mathlib.Nat.{add-zero}
use native.Mathlib.Omega.{arith}
use lib.ListN.{length, take}
use Rattle.words.proofs.WordsLaws.{words_front}
use Rattle.answers.specs.declared.answer.Answer.{Answer}
use Rattle.answers.specs.Answer.{filed}
use Rattle.answers.proofs.FirstLaws.{first_tested}
use Rattle.answers.proofs.AnswerLaws.{filed_tested}
use Rattle.names.proofs.ReadableLaws.{readable_three}
use Rattle.reader.specs.Reader.{cell_fault, update_fault, both_fault}
use Rattle.reader.specs.Lent.{BothIn}
use Rattle.reader.proofs.ReaderLaws.{cell_good}
use Rattle.readboth.proofs.CallLaws.{few, front_opened}
use Rattle.readonce.specs.Once.{CellRead}
use Rattle.bothonce.specs.Both.{PlacedTold, Raised, BothRead, BothTold}
use Rattle.std.specs.Prelude.{Some}
use Rattle.bothonce.proofs.RaiseLaws.{raised_part}

-- ---- the cell
module _ {cell work : List ℕ} {n : ℕ} (so : CellRead cell n work) where
  pub held_three : 3 ≤ n
  held_three = let o = front_opened 1 cell n so.front in readable_three (cell_good cell n o.framed o.short so.fine)

  pub held_few : n ≤ 5242880
  held_few = few (front_opened 1 cell n so.front)

-- ---- the update
module _ {update work : List ℕ} {i m : ℕ} (told : PlacedTold update i work m) (some : m ≡ 0 → ⊥) where
  pub come_two : 2 ≤ m
  come_two = (told.told some).two

  pub come_few : m ≤ 5242880
  come_few = few (front_opened 2 update m (told.told some).front)

-- ---- both: the cell's words stay while the update is read, then both are copied up
module _ {cell update before work after : List ℕ} {n i m : ℕ} (so : CellRead cell n before) (here : i ≡ n - 3) (told : PlacedTold update i work m) (some : m ≡ 0 → ⊥)
    (front : take (8 * i) work ≡ take (8 * i) before) (raised : Raised work (i + (m - 2)) after) where
  words_both : BothIn cell n update m after
  words_both =
      let up : Raised work (n - 3 + (m - 2)) after = rw here at raised in
      let held = raised_part 0 (n - 3) up (omega arith) in
      let come = raised_part (n - 3) (m - 2) up (omega arith) in
      record {
        held = rw (add-zero (n - 3 + (m - 2))) at held ∙ words_front work before i 0 (n - 3) front (omega arith) ∙ so.words.words;
        come = come ∙ rw here at (told.told some).words;
      }

  pub both_all : 16 * (n + m) ≤ length after → BothTold cell update after (Some (n, m))
  both_all room =
      let u = told.told some in
      let read : BothRead cell n update m after = record {
        first = so.front;
        second = u.front;
        room = room;
        cell_fine = so.fine;
        update_fine = u.fine;
        words = words_both;
      } in
      record { all = λ k j e. subst (λ (p : ℕ × ℕ). BothRead cell p.0 update p.1 after) (let same : (n, m) ≡ (k, j) = cc in same) read }

-- the two have no code
pub both_fine : {cell update work : List ℕ} {n m : ℕ} → BothRead cell n update m work → (both_fault cell n update m).code ≡ 0
both_fine {cell} {update} {work} {n} {m} so =
    first_tested (λ (x : Answer). x.code) (filed 1 (cell_fault cell n)) (filed 2 (update_fault update m)) (filed_tested 1 (cell_fault cell n) so.cell_fine)
    (filed_tested 2 (update_fault update m) so.update_fine)
