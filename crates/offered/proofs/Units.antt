-- Demand 3 on the small files: the premises of its theorems are met, and this is what they say. Assumes nothing.
use Prim.Native.Nat.{ℕ, ◌+◌, ◌-◌}
use mathlib.Core.List.Memᴰ
use mathlib.Core.List.{List, [], ◌∷◌, ◌++◌}
use mathlib.Core.Path.{◌≡◌, refl}
use native.Mathlib.Omega.{arith}
use lib.ListN.{length}
use Rattle.held.specs.Held.{held_of}
use Rattle.changes.specs.Rules.{All}
use Rattle.changes.specs.Rules.All.{all_none, all_more}
use Rattle.loader.specs.Admit.{admit_of, cell_chart}
use Rattle.loader.specs.Apply.{apply_of, updated_by}
use Rattle.demands.specs.Cell.{Room}
use Rattle.demands.specs.Update.{Areas}
use Rattle.demands.proofs.Apply.{accepted_exactly}
use Rattle.demands.proofs.Admit.{admitted_exactly}
use Rattle.unit.specs.Unit.{admit_wrote, Offer, offered, after, files_of, In, BytesEach, UnitOf}
use Rattle.unit.specs.Unit.UnitOf.{begun, given}
use Rattle.unit.specs.Reissue.{shown, number_of, OneEach, worked, Series, Worked, Reissue}
use Rattle.unit.specs.Reissue.Series.{ended, next}
use Rattle.unit.specs.Enough.{Enough}
use Rattle.unit.specs.Enough.Enough.{enough_none, enough_more}
use Rattle.unit.specs.Library.{reissue_at, Shelved}
use Rattle.unit.proofs.OfferLaws.{in_left, in_each, in_one_each, unit_after, unit_shows_each, two_units, two_units_again, unit_reaches}
use Rattle.unit.proofs.LibraryLaws.{unit_is}
use Rattle.unit.proofs.UnitLaws.{unit_worked}
use Rattle.unit.proofs.StepLaws.{unit_steps, unit_takes, unit_gap, unit_earlier, unit_once, unit_admits}
use Rattle.witness.specs.SmallCell.{small}
use Rattle.witness.specs.SmallUpdates.{moving, deleting, chart_small, chart_moved, held_small, held_moved, held_deleted}
use Rattle.witness.specs.SmallOffers.{room, lent, tight, offers, others, library}
use Rattle.witness.proofs.Admitted.{room_length, small_bytes, small_held}
use Rattle.witness.proofs.Applied.{small_means, moving_bytes, deleting_bytes, small_whole, moved_whole, moved_held, moving_allowed, deleting_allowed, moving_accepted}
use Rattle.witness.proofs.Applied.{deleting_accepted}
use Rattle.witness.proofs.HeldLaws.{held_is_bytes, held_is_readable}
use Rattle.offered.proofs.Offered.{numbers, shown_each, first_taken, room_accepted, begins, after_each, after_others, moved_accepted, again_others}

-- ---- the premises of demand 3: the files are bytes, and of those offered to any unit there is one to a number
abbrev all_offers : List Offer
all_offers = offers ++ others

pub offers_bytes : BytesEach (In all_offers)
offers_bytes =
    in_each all_offers
    (all_more deleting_bytes (all_more moving_bytes (all_more moving_bytes (all_more deleting_bytes
    (all_more moving_bytes (all_more moving_bytes (all_more moving_bytes (all_more deleting_bytes (all_more moving_bytes all_none)))))))))

-- the files of which this is the only one of its number
Only : List ℕ → Type 0
Only a = All (λ (b : List ℕ). number_of a ≡ number_of b → a ≡ b) (files_of all_offers)

only_moving : Only moving
unfolding Only
only_moving =
    let same : number_of moving ≡ number_of moving → moving ≡ moving = λ e. refl in
    let not : number_of moving ≡ number_of deleting → moving ≡ deleting = λ e. absurd (omega (arith, numbers.3, numbers.4)) in
    all_more not (all_more same (all_more same (all_more not (all_more same (all_more same (all_more same (all_more not (all_more same all_none))))))))

only_deleting : Only deleting
unfolding Only
only_deleting =
    let same : number_of deleting ≡ number_of deleting → deleting ≡ deleting = λ e. refl in
    let not : number_of deleting ≡ number_of moving → deleting ≡ moving = λ e. absurd (omega (arith, numbers.3, numbers.4)) in
    all_more same (all_more not (all_more not (all_more same (all_more not (all_more not (all_more not (all_more same (all_more not all_none))))))))

pub offers_one : OneEach (In all_offers) chart_small
unfolding Only
offers_one =
    in_one_each all_offers
    (all_more only_deleting (all_more only_moving (all_more only_moving (all_more only_deleting
    (all_more only_moving (all_more only_moving (all_more only_moving (all_more only_deleting (all_more only_moving all_none)))))))))

-- ---- `unit_worked` of the first unit after all its offers, without the second premise: offered updates of the numbers 1 and 2 are worked in
pub small_worked : Worked (In all_offers) chart_small 2 held_deleted
small_worked =
    rw (after_each.3, shown_each.2) at
    (unit_worked small_bytes offers_bytes (unit_after (admit_wrote small 112 room) offers (in_left offers others) (begun 112 room room_accepted)))

-- ---- `unit_shows_each` of the first unit after all its offers: the bytes held are the re-issue of the base at 2
pub small_shows : Reissue (In all_offers) chart_small 2 held_deleted
small_shows = rw (after_each.3, shown_each.2) at (unit_shows_each small small_bytes 112 room room_accepted offers others offers_bytes offers_one)

-- ---- `two_units`: both show 2
pub small_two_units : after (admit_wrote small 112 room) offers ≡ after (admit_wrote small 112 room) others
small_two_units = two_units small small_bytes 112 room room_accepted 112 room room_accepted offers others offers_bytes offers_one (rw (after_each.3, after_others))

-- ---- `two_units_again`: the second began from what the first held at 1
pub small_two_again : after (admit_wrote small 112 room) offers ≡ after (admit_wrote (after (admit_wrote small 112 room) (lent deleting ∷ lent moving ∷ [])) 112 room) others
small_two_again =
    two_units_again small small_bytes 112 room room_accepted (lent deleting ∷ lent moving ∷ []) (lent moving ∷ lent deleting ∷ []) others 112 room
    (rw after_each.1 moved_accepted) offers_bytes offers_one (rw (after_each.3, after_each.1, again_others))

-- ---- `unit_reaches`: both updates, in order, are taken
small_unit : UnitOf (In all_offers) small held_small
small_unit = let u : UnitOf (In all_offers) small (admit_wrote small 112 room) = begun 112 room room_accepted in rw begins at u

small_series : Series (In all_offers) chart_small (moving ∷ deleting ∷ [])
small_series = next (Memᴰ.tail (Memᴰ.head refl)) moving_allowed (next (Memᴰ.head refl) deleting_allowed ended)

first_areas : Areas held_small moving 160 (length room)
first_areas =
    ((accepted_exactly held_small moving 160 (length room) moving_bytes
    (held_is_readable chart_small small_whole held_small small_held)).0 (moving_accepted 160 (length room) (omega arith) (omega (arith, room_length)))).1

second_areas : Areas held_moved deleting 160 (length room)
second_areas =
    ((accepted_exactly held_moved deleting 160 (length room) deleting_bytes
    (held_is_readable chart_moved moved_whole held_moved moved_held)).0 (deleting_accepted 160 (length room) (omega arith) (omega (arith, room_length)))).1

small_enough : Enough held_small (lent moving ∷ lent deleting ∷ [])
small_enough =
    let rest : Enough (offered held_small (lent moving)) (lent deleting ∷ []) = rw first_taken (enough_more {os = []} second_areas enough_none) in
    enough_more first_areas rest

pub small_reaches : (after held_small (lent moving ∷ lent deleting ∷ []) ≡ held_of (worked (cell_chart held_small) (moving ∷ deleting ∷ [])))
    × (shown (after held_small (lent moving ∷ lent deleting ∷ [])) ≡ shown held_small + 2)
small_reaches = unit_reaches small_bytes offers_bytes (lent moving ∷ lent deleting ∷ []) small_unit (rw small_means small_series) small_enough

-- ---- `unit_steps`, `unit_takes`: update 1 on the cell at 0; `unit_gap`, `unit_earlier`, `unit_once`: update 2 on it, update 1 on the cell at 1
moving_in : In all_offers moving
moving_in = Memᴰ.tail (Memᴰ.head refl)

moved_unit : UnitOf (In all_offers) small held_moved
moved_unit = let u : UnitOf (In all_offers) small (offered held_small (lent moving)) = given (lent moving) moving_in small_unit in rw first_taken at u

first_code_lem : (apply_of held_small moving 160 (length room)).code ≡ 0
first_code_lem = moving_accepted 160 (length room) (omega arith) (omega (arith, room_length))

pub small_steps : (number_of moving ≡ shown held_small + 1) × (shown (offered held_small (lent moving)) ≡ number_of moving)
small_steps = unit_steps small_bytes offers_bytes small_unit (lent moving) moving_bytes first_code_lem

pub small_takes : (offered held_small (lent moving) ≡ held_of (updated_by (cell_chart held_small) moving)) × (shown (offered held_small (lent moving)) ≡ shown held_small + 1)
small_takes = unit_takes small_bytes offers_bytes small_unit (lent moving) moving_bytes (rw small_means moving_allowed) first_areas

pub small_gap : offered held_small (lent deleting) ≡ held_small
small_gap = unit_gap small_bytes offers_bytes small_unit (lent deleting) deleting_bytes (omega (arith, shown_each.0, numbers.4))

pub small_earlier : offered held_moved (lent moving) ≡ held_moved
small_earlier = unit_earlier small_bytes offers_bytes moved_unit (lent moving) moving_bytes (omega (arith, shown_each.1, numbers.3))

pub small_once : offered (offered held_small (lent moving)) (tight moving) ≡ offered held_small (lent moving)
small_once = unit_once small_bytes offers_bytes small_unit (lent moving) (tight moving) moving_in refl first_code_lem

-- ---- `unit_admits`: Admit of the cell at 1 gives it again
moved_room : Room held_moved 112 (length room)
moved_room = ((admitted_exactly held_moved 112 (length room) (held_is_bytes chart_moved moved_whole held_moved moved_held)).0 moved_accepted).areas

pub small_admits : ((admit_of held_moved 112 (length room)).code ≡ 0) × (admit_wrote held_moved 112 room ≡ held_moved)
small_admits = unit_admits small_bytes offers_bytes moved_unit 112 room moved_room

-- ---- `unit_is`: a library of the two
shelved : Shelved (In all_offers) library chart_small
unfolding library
shelved =
    let one : library (number_of moving) ≡ moving = rw numbers.3 in
    let two : library (number_of deleting) ≡ deleting = rw numbers.4 in
    let each : (file : List ℕ) → In all_offers file → library (number_of file) ≡ file =
    in_each all_offers (all_more two (all_more one (all_more one (all_more two (all_more one (all_more one (all_more one (all_more two (all_more one all_none))))))))) in
    record { there = λ file m own. each file m }

pub small_is : held_moved ≡ held_of (reissue_at library chart_small (shown held_moved - shown small))
small_is = unit_is small_bytes offers_bytes shelved moved_unit
