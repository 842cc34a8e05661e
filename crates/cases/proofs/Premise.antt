-- Why demand 3 asks for one file to a number (`OneEach`). `premise_needed`: two updates 1 of the small cell, both accepted; two units that show 1, and other bytes in
-- each. Assumes nothing.
use Prim.Native.Nat.{ℕ}
use mathlib.Core.List.Memᴰ
use mathlib.Core.List.{List, [], ◌∷◌}
use mathlib.Core.Path.{◌≡◌, refl, sym, ap, ◌∙◌}
use native.Mathlib.Omega.{arith}
use lib.ListN.{length, get_or}
use Rattle.answers.specs.Answer.{answer}
use Rattle.answers.specs.declared.answer.Answer.{Answer}
use Rattle.held.specs.Chart.{Chart}
use Rattle.held.specs.Held.{held_of}
use Rattle.loader.specs.Apply.{apply_of, changes_in, updated_by}
use Rattle.changes.specs.Rules.All.{all_none, all_more}
use Rattle.reader.specs.Reader.{records_in}
use Rattle.demands.specs.Cell.{Bytes}
use Rattle.demands.specs.Update.{Allowed}
use Rattle.demands.specs.ByteChart.{Whole}
use Rattle.demands.proofs.Apply.{accepted_readable, accepted_exactly}
use Rattle.unit.specs.Unit.{admit_wrote, Offer, offered, In, BytesEach, UnitOf}
use Rattle.unit.specs.Unit.UnitOf.{begun, given}
use Rattle.unit.specs.Reissue.{chart_number, shown, number_of, OneEach}
use Rattle.unit.proofs.CallLaws.{offered_done}
use Rattle.unit.proofs.OfferLaws.{in_each}
use Rattle.unit.proofs.UnitLaws.{same_number_same_bytes}
use Rattle.witness.specs.SmallCell.{small}
use Rattle.witness.specs.SmallUpdates.{moving, chart_small, held_small, held_moved}
use Rattle.cases.specs.OtherUpdates.{elsewhere, held_elsewhere}
use Rattle.witness.specs.SmallOffers.{room, lent}
use Rattle.witness.proofs.Computing.{judging, admitting, applying, small_files}
use Rattle.cases.proofs.Computing.{other_files}
use Rattle.witness.proofs.BytesLaws.{is_byte, bytes_tested}
use Rattle.witness.proofs.Admitted.{small_bytes, small_held, room_length}
use Rattle.witness.proofs.Applied.{small_means, small_whole, small_records, moving_bytes}
use Rattle.witness.proofs.HeldLaws.{held_means, next_whole, accepted_here}
use Rattle.offered.proofs.Offered.{shown_each, first_taken, room_accepted, begins}

-- ---- computed
elsewhere_bytes : Bytes elsewhere
unfolding judging small_files other_files is_byte
elsewhere_bytes = bytes_tested elsewhere refl

moves : apply_of small elsewhere 160 2077 ≡ answer 0 0 0 2077 0
unfolding judging admitting applying small_files other_files
moves = refl

elsewhere_held : held_of (updated_by chart_small elsewhere) ≡ held_elsewhere
unfolding judging admitting applying small_files other_files records_in
elsewhere_held = refl

elsewhere_number : (number_of elsewhere ≡ 1) × (chart_number (updated_by chart_small elsewhere) ≡ 1) × (length held_elsewhere ≡ 2077)
unfolding number_of judging admitting applying small_files other_files records_in
elsewhere_number = (refl, refl, refl)

elsewhere_count : changes_in elsewhere ≡ 3
unfolding judging small_files other_files records_in
elsewhere_count = refl

-- the first byte of node 2's XCOO, which is 20,000,000 or 30,000,000
differing : (get_or held_moved 1901 0 ≡ 0) × (get_or held_elsewhere 1901 0 ≡ 128)
unfolding judging admitting small_files other_files
differing = (refl, refl)

-- ---- the second update 1 is taken
elsewhere_allowed : Allowed chart_small elsewhere
elsewhere_allowed =
    let h : (apply_of small elsewhere 160 2077).code ≡ 0 = ap (λ (a : Answer). a.code) moves in
    ((accepted_exactly small elsewhere 160 2077 elsewhere_bytes (accepted_readable small elsewhere 160 2077 h)).0 h).0

elsewhere_whole : Whole (updated_by chart_small elsewhere)
elsewhere_whole = next_whole chart_small small_whole held_small small_held elsewhere elsewhere_bytes elsewhere_allowed held_elsewhere elsewhere_held

elsewhere_taken : offered held_small (lent elsewhere) ≡ held_elsewhere
elsewhere_taken =
    offered_done held_small (lent elsewhere)
    (accepted_here chart_small small_whole held_small small_held elsewhere elsewhere_bytes elsewhere_allowed held_elsewhere elsewhere_held 160 (length room)
    (omega (arith, small_records, elsewhere_count)) (omega (arith, room_length, elsewhere_number.2)))
    ∙ ap (λ (c : Chart). held_of (updated_by c elsewhere)) small_means
    ∙ elsewhere_held

elsewhere_shown : shown held_elsewhere ≡ 1
unfolding shown
elsewhere_shown = ap (λ (c : Chart). chart_number c) (held_means (updated_by chart_small elsewhere) elsewhere_whole held_elsewhere elsewhere_held) ∙ elsewhere_number.1

-- ---- two units
abbrev pub two_files : List Offer
two_files = lent moving ∷ lent elsewhere ∷ []

begun_unit : UnitOf (In two_files) small held_small
begun_unit = let u : UnitOf (In two_files) small (admit_wrote small 112 room) = begun 112 room room_accepted in rw begins at u

pub first_unit : UnitOf (In two_files) small held_moved
first_unit = let u : UnitOf (In two_files) small (offered held_small (lent moving)) = given (lent moving) (Memᴰ.head refl) begun_unit in rw first_taken at u

pub second_unit : UnitOf (In two_files) small held_elsewhere
second_unit =
    let u : UnitOf (In two_files) small (offered held_small (lent elsewhere)) = given (lent elsewhere) (Memᴰ.tail (Memᴰ.head refl)) begun_unit in
    rw elsewhere_taken at u

-- both show 1 and hold other bytes: so it is the premise that they don't meet
pub premise_needed : (shown held_moved ≡ shown held_elsewhere) × (held_moved ≡ held_elsewhere → ⊥)
premise_needed = (shown_each.1 ∙ sym elsewhere_shown, λ e. let same = ap (λ (s : List ℕ). get_or s 1901 0) e in omega (arith, differing.0, differing.1))

two_bytes : BytesEach (In two_files)
two_bytes = in_each two_files (all_more moving_bytes (all_more elsewhere_bytes all_none))

pub premise_unmet : OneEach (In two_files) chart_small → ⊥
premise_unmet one = premise_needed.1 (same_number_same_bytes small_bytes two_bytes one first_unit second_unit premise_needed.0)
