-- Laws of the first stages: the codes of reading in document 01's order, then Apply whole. Assumes nothing.
use Prim.Native.Nat.{ℕ, ◌+◌, ◌*◌, ◌≤◌, ◌<◌}
use mathlib.Core.List.{List}
use mathlib.Core.Path.{◌≡◌, refl, sym, ap, ◌∙◌}
use native.Mathlib.Omega.{arith}
use lib.ListN.{length}
use Rattle.octets.specs.Number.{byte_at}
use Rattle.answers.specs.Answer.{answer, filed}
use Rattle.answers.specs.First.{first_answer}
use Rattle.answers.specs.declared.answer.Answer.{Answer}
use Rattle.answers.proofs.FirstLaws.{first_on, first_stays, first_join}
use Rattle.reader.specs.Reader.{front_of, fronted, records_in, work_answer, cell_fault, update_fault, both_fault}
use Rattle.reader.specs.Lent.{BothOpened, BothIn}
use Rattle.std.specs.Prelude.{Option, Some, Result, Ok, Err}
use Rattle.readboth.proofs.CallLaws.{few, front_opened, front_refused, worked_short, worked_on}
use Rattle.readboth.proofs.BothLaws.{both_apart}
use Rattle.bothonce.specs.Both.{BothRead, BothTold}
use Rattle.bothonce.proofs.TogetherLaws.{both_fine}
use Rattle.loader.specs.Admit.{area_by, cell_chart}
use Rattle.loader.specs.Apply.{result_of, apply_of, updated_by, apply_area}
use Rattle.loader.proofs.AdmitLaws.{area_kept}
use Rattle.resultstages.specs.Stages.{result_answer, change_answer, BothReady}

-- ---- applied: of an opened cell and an opened update
module _ (cell : List ℕ) (n : ℕ) (update : List ℕ) (m : ℕ) (first : front_of 1 cell ≡ Ok n) (second : front_of 2 update ≡ Ok m) where
  pub both_few : n + m ≤ 10485760
  both_few = let a = few (front_opened 1 cell n first) in let b = few (front_opened 2 update m second) in omega arith

  pub both_work : (work : List ℕ) → 16 * (n + m) ≤ length work → BothOpened cell n update m work
  both_work work room = record { held = front_opened 1 cell n first; come = front_opened 2 update m second; room = room }

  -- the codes of reading both files are the next two stages of the row
  apply_opened : (w o : ℕ) → apply_of cell update w o ≡ first_answer (work_answer w (n + m)) (first_answer (both_fault cell n update m) (change_answer cell n update m o))
  unfolding apply_of fronted change_answer result_answer
  apply_opened w o =
      rw (first, second)
      (ap (first_answer (work_answer w (n + m)))
      (sym (first_join (λ (x : Answer). x.code) (filed 1 (cell_fault cell n)) (filed 2 (update_fault update m)) (change_answer cell n update m o))))

  module _ (w o : ℕ) (a : Answer) where
    pub applied_work : w < 16 * (n + m) → a ≡ answer 3 0 0 (16 * (n + m)) 0 → a ≡ apply_of cell update w o
    applied_work h e = worked_short w (n + m) _ a h e ∙ sym (apply_opened w o)

    module _ (room : 16 * (n + m) ≤ w) (r : Answer) (is : r ≡ both_fault cell n update m) where
      pub applied_read : (r.code ≡ 0 → ⊥) → r ≡ apply_of cell update w o
      applied_read ne =
          rw (apply_opened w o, ← is) (worked_on w (n + m) _ r room (sym (first_stays (λ (x : Answer). x.code) r (change_answer cell n update m o) ne)))

      pub applied_on : r.code ≡ 0 → a ≡ change_answer cell n update m o → a ≡ apply_of cell update w o
      applied_on none e =
          rw (apply_opened w o, ← is) (worked_on w (n + m) _ a room (e ∙ sym (first_on (λ (x : Answer). x.code) r (change_answer cell n update m o) none)))

  pub applied_before : (r : Answer) → r ≡ both_fault cell n update m → r.code ≡ 0 → (work : List ℕ) → ((i : ℕ) → byte_at cell i < 256)
      → ((i : ℕ) → byte_at update i < 256) → 16 * (n + m) ≤ length work → BothIn cell n update m work → BothReady cell n update m work
  applied_before r is none work old new long words =
      let fine = both_apart cell n update m (ap (λ (x : Answer). x.code) (sym is) ∙ none) in
      record {
        held = front_opened 1 cell n first;
        come = front_opened 2 update m second;
        cell_fine = fine.0;
        update_fine = fine.1;
        small = record { old = old; new = new };
        room = long;
        words = words;
      }

  -- ---- update_opened
  pub area_applied : (w : ℕ) (out next : List ℕ) (a : Answer) → a ≡ apply_of cell update w (length out) → next ≡ area_by a (result_of cell n update m) out
      → next ≡ apply_area cell update w out
  unfolding apply_area records_in
  area_applied w out next a is e = e ∙ rw (first, second, is)

-- an answer with a code leaves the output
pub apply_kept : (cell update : List ℕ) (w : ℕ) (out : List ℕ) (a : Answer) → a ≡ apply_of cell update w (length out) → (a.code ≡ 0 → ⊥) → out ≡ apply_area cell update w out
unfolding apply_area
apply_kept cell update w out a is ne = rw (← is) (area_kept (updated_by (cell_chart cell) update) out a ne)

module _ (cell : List ℕ) (n : ℕ) (update : List ℕ) (front : front_of 1 cell ≡ Ok n) (f : Result ℕ Answer) (is : f ≡ front_of 2 update) (a : Answer) (told : f ≡ Err a) where
  pub second_refused : (w o : ℕ) → a ≡ apply_of cell update w o
  unfolding apply_of fronted
  second_refused w o = rw (front, ← is, told)

  pub second_kept : (w : ℕ) (out : List ℕ) → out ≡ apply_area cell update w out
  second_kept w out = apply_kept cell update w out a (second_refused w (length out)) (front_refused 2 update a (sym is ∙ told))

-- ---- applied_again
module _ (cell update : List ℕ) (f : Result ℕ Answer) (is : f ≡ front_of 1 cell) (a : Answer) (told : f ≡ Err a) where
  pub first_refused : (w o : ℕ) → a ≡ apply_of cell update w o
  unfolding apply_of fronted
  first_refused w o = rw (← is, told)

  pub first_kept : (w : ℕ) (out : List ℕ) → out ≡ apply_area cell update w out
  first_kept w out = apply_kept cell update w out a (first_refused w (length out)) (front_refused 1 cell a (sym is ∙ told))

-- ---- applied_once: of a cell and an update that one pass each read
pub read_all : {cell update work : List ℕ} {n m : ℕ} (r : Option (ℕ × ℕ)) → BothTold cell update work r → r ≡ Some (n, m) → BothRead cell n update m work
read_all r told e = told.all _ _ e

pub once_ready : {cell update work : List ℕ} {n m : ℕ} → BothRead cell n update m work → ((i : ℕ) → byte_at cell i < 256) → ((i : ℕ) → byte_at update i < 256)
    → BothReady cell n update m work
once_ready {cell} {update} {work} {n} {m} so old new =
    applied_before cell n update m so.first so.second (both_fault cell n update m) refl (both_fine so) work old new so.room so.words

-- the work area keeps its length while the files are read
pub once_applied : {cell update work : List ℕ} {n m : ℕ} (w : ℕ) (out next : List ℕ) (a : Answer) → BothRead cell n update m work → length work ≡ w
    → (a ≡ change_answer cell n update m (length out)) × (next ≡ area_by a (result_of cell n update m) out)
    → (a ≡ apply_of cell update w (length out)) × (next ≡ apply_area cell update w out)
once_applied {cell} {update} {work} {n} {m} w out next a so size told =
    let room = so.room in
    let is = applied_on cell n update m so.first so.second w (length out) a (omega arith) (both_fault cell n update m) refl (both_fine so) told.0 in
    (is, area_applied cell n update m so.first so.second w out next a is told.1)

pub apply_along : (cell update out : List ℕ) {next : List ℕ} {v w : ℕ} {a : Answer} → v ≡ w → (a ≡ apply_of cell update v (length out)) × (next ≡ apply_area cell update v out)
    → (a ≡ apply_of cell update w (length out)) × (next ≡ apply_area cell update w out)
apply_along cell update out e so = rw e at so
