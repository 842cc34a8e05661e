-- What Apply does with other updates of the small cell, computed: an insert, an edit of pointers, and which of several faults of one record is told; those
-- that try the errors that document 01 has met are in `errors`. Assumes nothing.
use mathlib.Core.List.{List, [], ◌∷◌, map}
use mathlib.Core.Path.{◌≡◌, refl}
use Prim.Native.Nat.{ℕ}
use Rattle.table.specs.Table.{FSPT}
use Rattle.answers.specs.Answer.{refusal, answer}
use Rattle.reader.specs.Reader.{records_in}
use Rattle.items.specs.Item.{Item}
use Rattle.held.specs.Chart.{Chart}
use Rattle.changes.specs.Amend.{change_fault}
use Rattle.loader.specs.Apply.{apply_of, file_change, updated_by}
use Rattle.witness.specs.SmallCell.{small}
use Rattle.witness.specs.SmallUpdates.{chart_small}
use Rattle.cases.specs.OtherUpdates.{inserting, masking, faulty}
use Rattle.witness.proofs.Computing.{judging, admitting, applying, small_files}
use Rattle.cases.proofs.Computing.{other_files}

-- a list of each object: node 1, node 2, the edge, the line
abbrev lists_in : ℕ → Chart → List (List (List ℕ))
lists_in k c = map (λ (t : Item). t.lists k) c.items

-- ---- an insert: node 3 stands behind node 2
pub inserted : (apply_of small inserting 160 2144 ≡ answer 0 0 0 2144 0) × (map (λ (t : Item). t.rcid) (updated_by chart_small inserting).items ≡ 1 ∷ 2 ∷ 3 ∷ 1 ∷ 1 ∷ [])
unfolding judging admitting applying small_files other_files records_in
inserted = (refl, refl)

-- ---- FSPC on the line: its one pointer is replaced
pub pointer_masked : (apply_of small masking 160 2077 ≡ answer 0 0 0 2077 0)
    × (lists_in FSPT (updated_by chart_small masking) ≡ [] ∷ [] ∷ [] ∷ ((130 ∷ 1 ∷ 0 ∷ 0 ∷ 0 ∷ 1 ∷ 255 ∷ 1 ∷ []) ∷ []) ∷ [])
unfolding judging admitting applying small_files other_files records_in
pointer_masked = (refl, refl)

-- ---- one record with several faults: "13 to 16 record by record", and of one record the lowest. RVER isn't the held plus 1, OBJL isn't the held, and FSPT has no control;
-- then the last two; then the last
pub lowest_told : (change_fault chart_small (file_change (faulty 3 31)) ≡ refusal 14 2 0) × (change_fault chart_small (file_change (faulty 2 31)) ≡ refusal 15 2 0)
    × (change_fault chart_small (file_change (faulty 2 30)) ≡ refusal 16 2 0)
unfolding judging admitting applying small_files other_files records_in
lowest_told = (refl, refl, refl)

-- ---- "length 0 is Frame", of an update
pub empty_update : apply_of small [] 160 2077 ≡ answer 2 2 0 0 0
unfolding judging admitting applying small_files
empty_update = refl
