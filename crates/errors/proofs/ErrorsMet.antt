-- What Apply does with updates of the small cell that try the three errors that document 01 has met, computed. Assumes nothing.
use mathlib.Core.List.{List, [], ◌∷◌, map}
use mathlib.Core.Path.{◌≡◌, refl}
use Prim.Native.Nat.{ℕ}
use Rattle.table.specs.Table.{ATTF}
use Rattle.answers.specs.Answer.{fine, answer}
use Rattle.reader.specs.Reader.{update_fault, records_in}
use Rattle.items.specs.Item.{Item}
use Rattle.held.specs.Chart.{Chart}
use Rattle.changes.specs.Amend.{change_fault}
use Rattle.loader.specs.Apply.{apply_of, file_change, updated_by}
use Rattle.witness.specs.SmallCell.{small}
use Rattle.witness.specs.SmallUpdates.{chart_small}
use Rattle.cases.specs.OtherUpdates.{from_zero, sinking, clearing, naming, emptying, removing}
use Rattle.witness.proofs.Computing.{judging, admitting, applying, small_files}
use Rattle.cases.proofs.Computing.{other_files}

-- ---- "Errors we have met": "Counting list indexes from 0": index 0 is refused
pub index_zero : apply_of small from_zero 160 2077 ≡ answer 16 2 2 0 581
unfolding judging admitting applying small_files other_files
index_zero = refl

-- ---- "Resolving pointers before the update's own deletes": node 2 goes, at which the edge ends; the edge is record 4 of the result
pub sinking_18 : apply_of small sinking 160 2077 ≡ answer 18 3 4 0 0
unfolding judging admitting applying small_files other_files
sinking_18 = refl

-- with the edge and the line, which are deleted behind it, it may go: node 1 is left
pub clearing_done : (apply_of small clearing 192 2077).code ≡ 0
unfolding judging admitting applying small_files other_files
clearing_done = refl

-- ---- "Taking an empty value as removal": update 1 appends the attribute, update 2 makes its value empty and it stays, update 3 has 7F and removes it
abbrev chart_named : Chart
chart_named = updated_by chart_small naming

abbrev chart_emptied : Chart
chart_emptied = updated_by chart_named emptying

abbrev chart_removed : Chart
chart_removed = updated_by chart_emptied removing

-- a list of each object: node 1, node 2, the edge, the line
abbrev lists_in : ℕ → Chart → List (List (List ℕ))
lists_in k c = map (λ (t : Item). t.lists k) c.items

pub attribute_given : (change_fault chart_small (file_change naming) ≡ fine) × (lists_in ATTF chart_named ≡ [] ∷ [] ∷ [] ∷ ((116 ∷ 0 ∷ 65 ∷ 31 ∷ []) ∷ []) ∷ [])
unfolding judging admitting applying small_files other_files records_in
attribute_given = (refl, refl)

pub empty_stays : (change_fault chart_named (file_change emptying) ≡ fine) × (lists_in ATTF chart_emptied ≡ [] ∷ [] ∷ [] ∷ ((116 ∷ 0 ∷ 31 ∷ []) ∷ []) ∷ [])
unfolding judging admitting applying small_files other_files records_in
empty_stays = (refl, refl)

pub removal_removes : (change_fault chart_emptied (file_change removing) ≡ fine) × (lists_in ATTF chart_removed ≡ [] ∷ [] ∷ [] ∷ [] ∷ [])
unfolding judging admitting applying small_files other_files records_in
removal_removes = (refl, refl)

-- the three files are readable
pub attribute_files : (update_fault naming 3 ≡ fine) × (update_fault emptying 3 ≡ fine) × (update_fault removing 3 ≡ fine)
unfolding judging applying small_files other_files
attribute_files = (refl, refl, refl)
