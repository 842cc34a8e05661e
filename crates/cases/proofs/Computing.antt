-- The definitions that Show stands on besides, and those of the other updates, under one name each: what unfolds the name unfolds them all. Nothing here
-- need be believed. Assumes nothing.
use Prim.Native.Nat.{ℕ}
use Rattle.shownames.specs.Named.{is_named, named_from, named_in}
use Rattle.show.specs.Show.{span_of, found_sight, absent, cell_sight, both_sight}
use Rattle.cases.specs.OtherUpdates.{elsewhere, held_elsewhere, from_zero, vector_delete, sinking, inserting, line_update, clearing, valued, naming, emptying, removing}
use Rattle.cases.specs.OtherUpdates.{masking, faulty}

-- the other updates, besides
unfoldable pub other_files : ℕ
unfolding elsewhere held_elsewhere from_zero vector_delete sinking inserting line_update clearing valued naming emptying removing masking faulty
other_files = 0

-- Show, besides: what is seen of files that reading doesn't refuse
unfoldable pub showing : ℕ
unfolding is_named named_from named_in span_of found_sight absent cell_sight both_sight
showing = 0
