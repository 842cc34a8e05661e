-- Laws of the walk that notes every item. Assumes nothing.
use Prim.Native.Nat.{ℕ, ◌+◌, ◌*◌, ◌≤◌, ◌<◌}
use mathlib.Core.Bool.{Bool}
use mathlib.Core.List.{List, ◌∷◌}
use mathlib.Core.Path.{◌≡◌}
use native.Mathlib.Omega.{arith}
use lib.ListN.{length}
use Rattle.words.specs.Words.{words_in}
use Rattle.words.specs.Order.{Sorted}
use Rattle.topology.specs.Notes.{note_for, notes_for, Beside, NotesPut, Prepared}
use Rattle.topology.proofs.BesideLaws.{beside_join}
use Rattle.topology.proofs.NotesLaws.{Noting, noting_start, noting_room, noting_on, noting_done, put_order, put_room, put_prepared}
use Rattle.merge.specs.Places.{places_from, Woof, Headed}
use Rattle.merge.specs.declared.walk.At.{At}
use Rattle.merge.proofs.PlacesLaws.{places_start, places_end}
use Rattle.resultitems.specs.Result.{object_of, items_by, result_items}
use Rattle.resultitems.specs.Able.{Able, AllAble, Laid}
use Rattle.result.specs.Cleared.{NotePut}
use Rattle.resultitems.proofs.PlacesLaws.{beside_woof, beside_headed, walk_able, walk_rest}

-- the first i items are noted in `next`, of which j are changed; `work` is as it was before
pub record Walked (cell update work : List ℕ) (end count edits i j : ℕ) (next : List ℕ) : Type 0 where
  pub so : Noting (notes_for (result_items cell update work end count edits)) work count i (notes_for (items_by cell update (places_from work end count edits i j))) next
  pub able : AllAble cell update (places_from work end count edits i j)
  pub left : j ≤ edits

pub walked_start : {cell update work : List ℕ} {end count edits : ℕ} → Laid cell update work end count edits → Walked cell update work end count edits 0 0 work
walked_start {cell} {update} {work} {end} {count} {edits} laid = record {
  so = rw (places_start work end count edits) (noting_start (notes_for (result_items cell update work end count edits)) work count);
  able = rw (places_start work end count edits) laid.able;
  left = omega arith;
}

module _ {cell update work : List ℕ} {end count edits i j : ℕ} {next : List ℕ} (walked : Walked cell update work end count edits i j next)
    (laid : Laid cell update work end count edits)
    (more : i < count) where
  pub walked_woof : Woof next end count edits
  walked_woof = beside_woof end count edits walked.so.beside laid.notes laid.woof

  fits : 16 * count ≤ length work
  fits = let wide = laid.woof.room in let few = laid.notes in omega arith

  pub walked_room : 8 * (count + i) + 8 ≤ length next
  walked_room = noting_room walked.so fits more

  module _ {p : At} (head : Headed next end count edits i j p) where
    pub walked_headed : Headed work end count edits i j p
    walked_headed = beside_headed end count edits walked.so.beside laid.notes more walked.left head

    pub walked_able : Able cell update p
    walked_able = walk_able walked_headed walked.able

    pub walked_on : {comf : ℕ} {c : List ℕ} {good : Bool} → NotePut comf (object_of cell update p) next count (count + i) c good
        → Walked cell update work end count edits (i + 1) (j + p.change) c
    unfolding notes_for
    walked_on {comf} {c} {good} told =
        let left = items_by cell update (places_from work end count edits (i + 1) (j + p.change)) in
        let is : notes_for (items_by cell update (places_from work end count edits i j)) ≡ note_for (object_of cell update p) ∷ notes_for left = rw walked_headed.is in
        record {
          so = noting_on walked.so fits more (note_for (object_of cell update p)) (notes_for left) c is told.small told.put;
          able = walk_rest walked_headed walked.able;
          left = head.left;
        }

pub walked_done : {cell update work : List ℕ} {end count edits i j : ℕ} {next : List ℕ} → Walked cell update work end count edits i j next → i ≤ count → count ≤ i
    → NotesPut (notes_for (result_items cell update work end count edits)) work count next
unfolding notes_for
walked_done {cell} {update} {work} {end} {count} {edits} {i} {j} {next} walked low high =
    noting_done walked.so (rw (places_end work end count edits i j high)) low high

-- ---- notes put, then sorted
pub laid_room : {cell update work : List ℕ} {end count edits : ℕ} → Laid cell update work end count edits → 8 * count ≤ length work
laid_room laid = let wide = laid.woof.room in let few = laid.notes in omega arith

module _ {cell update work : List ℕ} {end count edits : ℕ} (laid : Laid cell update work end count edits) {put : List ℕ}
    (noted : NotesPut (notes_for (result_items cell update work end count edits)) work count put) where
  pub noted_order : Sorted (words_in put 0 count)
  noted_order = put_order noted laid.order

  pub noted_room : 16 * count ≤ length put
  noted_room = put_room noted (let wide = laid.woof.room in let few = laid.notes in omega arith)

  module _ {c : List ℕ} {v : ℕ} (so : Prepared (words_in put count count) (words_in put 0 count) count c v) (beside : Beside put count c) where
    pub noted_prepared : Prepared (notes_for (result_items cell update work end count edits)) (words_in work 0 count) count c v
    noted_prepared = put_prepared noted so

    pub noted_beside : Beside work count c
    noted_beside = beside_join noted.beside beside
