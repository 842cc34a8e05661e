-- What Show gives of the small cell, alone and with the update that moves node 2, computed to the bytes and their place. Assumes nothing.
use Prim.Native.Nat.{ℕ, ◌*◌, ◌≤◌}
use mathlib.Core.Bool.{Bool, true, false, cond}
use mathlib.Core.List.{List, [], ◌∷◌, flatten}
use mathlib.Core.Path.{◌≡◌, refl, ◌∙◌}
use lib.ListN.{length, take, drop}
use borrow.Author.Tests.{le-ltb}
use Rattle.octets.specs.Number.{bytes_of}
use Rattle.table.specs.Text.{bytes}
use Rattle.answers.specs.Answer.{fine, answer, filed}
use Rattle.answers.specs.First.{first_by}
use Rattle.reader.specs.Reader.{front_of, fronted, cell_fault, update_fault, work_answer, cell_checked, both_checked}
use Rattle.answers.specs.declared.answer.Answer.{Answer}
use Rattle.std.specs.Prelude.{Ok, Err}
use Rattle.show.specs.Show.{cell_sight, both_sight, after_reading, alone_sight, pair_sight, update_sight, sight_of, sight_answer, bytes_of_span, sight_bytes, show_of, shown_part}
use Rattle.show.specs.Place.{within, place_of_span, sight_place, shown_place}
use Rattle.show.proofs.Exactly.{of_cell_lem, of_update_lem, Gives}
use Rattle.witness.specs.Records.{field_end, vrid, pair, node}
use Rattle.witness.specs.SmallCell.{small}
use Rattle.witness.specs.SmallUpdates.{moving}
use Rattle.witness.proofs.Computing.{judging, applying, small_files}
use Rattle.cases.proofs.Computing.{showing}

-- ---- the answer and the part, from what is seen
module _ {cell update : List ℕ} {w rcnm rcid : ℕ} where
  shown : (second : Bool) (from size : ℕ) {part : List ℕ} → sight_of cell update w rcnm rcid ≡ Ok (record { update = second; from = from; size = size })
      → take size (drop from (cond second update cell)) ≡ part → Gives cell update w rcnm rcid (answer 0 0 0 size 0) part (λ here there. within (cond second there here) from)
  unfolding show_of shown_part shown_place sight_answer sight_bytes bytes_of_span sight_place place_of_span
  shown second from size seen is = record { answered = rw seen; shown = rw seen is; lies = λ here there. rw seen }

  denied : {a : Answer} → sight_of cell update w rcnm rcid ≡ Err a → Gives cell update w rcnm rcid a [] (of_cell_lem 0)
  unfolding show_of shown_part shown_place sight_answer sight_bytes sight_place
  denied seen = record { answered = rw seen; shown = rw seen; lies = λ here there. rw seen }

-- ---- both files are readable: the cell has seven records, the update three
small_front : front_of 1 small ≡ Ok 7
unfolding judging small_files
small_front = refl

moving_front : front_of 2 moving ≡ Ok 3
unfolding judging small_files
moving_front = refl

moving_length : length moving ≡ 661
unfolding judging small_files
moving_length = refl

small_fine : cell_fault small 7 ≡ fine
unfolding judging small_files
small_fine = refl

moving_fine : update_fault moving 3 ≡ fine
unfolding judging applying small_files
moving_fine = refl

alone : (w rcnm rcid : ℕ) → 112 ≤ w → sight_of small [] w rcnm rcid ≡ cell_sight small 7 rcnm rcid
unfolding sight_of fronted update_sight alone_sight after_reading cell_checked work_answer first_by filed
alone w rcnm rcid work = rw (small_front, le-ltb w (16 * 7) work, small_fine)

both : (w rcnm rcid : ℕ) → 160 ≤ w → sight_of small moving w rcnm rcid ≡ both_sight small 7 moving 3 rcnm rcid
unfolding sight_of fronted update_sight pair_sight after_reading both_checked work_answer first_by filed
both w rcnm rcid work = rw (small_front, moving_length, moving_front, le-ltb w (16 * 10) work, small_fine, moving_fine)

-- ---- the cell alone, with any work area of 112 bytes or more
-- node 1: its 67 bytes, which stand in record 4, at 1,027
node_seen : cell_sight small 7 120 1 ≡ Ok (record { update = false; from = 1027; size = 67 })
unfolding judging small_files showing
node_seen = refl

node_bytes : take 67 (drop 1027 small) ≡ node 4 1 1 0
unfolding judging small_files
node_bytes = refl

pub node_shown : (w : ℕ) → 112 ≤ w → Gives small [] w 120 1 (answer 0 0 0 67 0) (node 4 1 1 0) (of_cell_lem 1027)
node_shown w work = shown false 1027 67 (alone w 120 1 work ∙ node_seen) node_bytes

-- "Show finds no such name": there is no node 3
none_seen : cell_sight small 7 120 3 ≡ Err (answer 22 0 0 0 0)
unfolding judging small_files showing
none_seen = refl

pub absent_22 : (w : ℕ) → 112 ≤ w → Gives small [] w 120 3 (answer 22 0 0 0 0) [] (of_cell_lem 0)
absent_22 w work = denied (alone w 120 3 work ∙ none_seen)

-- "that vector or feature record": record 1 has RCNM 10 and RCID 1, and is neither
class_seen : cell_sight small 7 10 1 ≡ Err (answer 22 0 0 0 0)
unfolding judging small_files showing
class_seen = refl

pub class_22 : (w : ℕ) → 112 ≤ w → Gives small [] w 10 1 (answer 22 0 0 0 0) [] (of_cell_lem 0)
class_22 w work = denied (alone w 10 1 work ∙ class_seen)

-- a byte of work too few: 3, with the bytes needed, whatever the name
pub alone_3 : (rcnm rcid : ℕ) → Gives small [] 111 rcnm rcid (answer 3 0 0 112 0) [] (of_cell_lem 0)
unfolding sight_of fronted update_sight alone_sight after_reading cell_checked work_answer first_by
alone_3 rcnm rcid = denied (rw small_front)

-- ---- with the update, with any work area of 160 bytes or more
-- "a part of the update if it has one so named": node 2, a modify of 80 bytes, its last record
unfoldable pub moved_node : List ℕ
moved_node =
    flatten
    (bytes "00080 D     00053   1204" ∷ bytes "0001300" ∷ bytes "VRID903" ∷ bytes "SGCC612" ∷ bytes "SG2D918" ∷ field_end
    ∷ bytes_of 2 2 ∷ field_end ∷ vrid 120 2 2 3 ∷ field_end ∷ (3 ∷ []) ∷ bytes_of 2 1 ∷ bytes_of 2 1 ∷ field_end ∷ pair 20000000 ∷ field_end ∷ [])

moved_seen : both_sight small 7 moving 3 120 2 ≡ Ok (record { update = true; from = 581; size = 80 })
unfolding judging small_files showing
moved_seen = refl

moved_bytes : take 80 (drop 581 moving) ≡ moved_node
unfolding judging small_files moved_node
moved_bytes = refl

pub update_shown : (w : ℕ) → 160 ≤ w → Gives small moving w 120 2 (answer 0 0 0 80 0) moved_node (of_update_lem 581)
update_shown w work = shown true 581 80 (both w 120 2 work ∙ moved_seen) moved_bytes

-- "else of the cell": node 1
kept_seen : both_sight small 7 moving 3 120 1 ≡ Ok (record { update = false; from = 1027; size = 67 })
unfolding judging small_files showing
kept_seen = refl

pub cell_shown : (w : ℕ) → 160 ≤ w → Gives small moving w 120 1 (answer 0 0 0 67 0) (node 4 1 1 0) (of_cell_lem 1027)
cell_shown w work = shown false 1027 67 (both w 120 1 work ∙ kept_seen) node_bytes

-- neither has node 3; record 1 of both has RCNM 10 and RCID 1
both_none : both_sight small 7 moving 3 120 3 ≡ Err (answer 22 0 0 0 0)
unfolding judging small_files showing
both_none = refl

both_class : both_sight small 7 moving 3 10 1 ≡ Err (answer 22 0 0 0 0)
unfolding judging small_files showing
both_class = refl

pub both_22 : (w : ℕ) → 160 ≤ w → Gives small moving w 120 3 (answer 22 0 0 0 0) [] (of_cell_lem 0) × Gives small moving w 10 1 (answer 22 0 0 0 0) [] (of_cell_lem 0)
both_22 w work = (denied (both w 120 3 work ∙ both_none), denied (both w 10 1 work ∙ both_class))

-- a byte of work too few
pub both_3 : (rcnm rcid : ℕ) → Gives small moving 159 rcnm rcid (answer 3 0 0 160 0) [] (of_cell_lem 0)
unfolding sight_of fronted update_sight pair_sight after_reading both_checked work_answer first_by
both_3 rcnm rcid = denied (rw (small_front, moving_length, moving_front))

-- ---- "2 Frame: framing broken": an update of one byte is no file; "an update (length 0 here means none)" is none
byte_front : front_of 2 (0 ∷ []) ≡ Err (answer 2 2 0 0 0)
unfolding judging
byte_front = refl

pub byte_2 : (w rcnm rcid : ℕ) → Gives small (0 ∷ []) w rcnm rcid (answer 2 2 0 0 0) [] (of_cell_lem 0)
unfolding sight_of fronted update_sight
byte_2 w rcnm rcid = denied (rw (small_front, byte_front))
