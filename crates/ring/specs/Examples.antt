-- Rings of a few edges, computed. Assumes nothing.
use Rattle.std.specs.Prelude.{ℕ, ◌+◌, ◌*◌, true, false, List, [], ◌∷◌, ◌≡◌, refl}
use Rattle.octets.specs.Number.{num_at}
use Rattle.entries.specs.Rules.{through}
use Rattle.items.specs.Identity.{rank_of, name_from}
use Rattle.items.specs.Item.{Item}
use Rattle.lookups.specs.Lookup.{name_in, found_code}
use Rattle.lookups.specs.LookupWords.{index_from, index_of}
use Rattle.pointer.specs.Pointer.{names_code}
use Rattle.answers.specs.First.{first_by}
use Rattle.ring.specs.Walk.{ends_with, node_at, area_code}
use Rattle.items.specs.Word.{end_in}
use Rattle.ring.specs.Ring.{node_step, node_with, found, step_of, usage_good, along, rings_from, rings_good, ring_code}

-- ---- an edge's pointers: NAME of a connected node, ORNT, USAG, TOPI, MASK
unfoldable pointer : ℕ → ℕ → List ℕ
pointer rcid topi = 120 ∷ rcid ∷ 0 ∷ 0 ∷ 0 ∷ 255 ∷ 255 ∷ topi ∷ 255 ∷ []

-- "TOPI 1 (begin) .. TOPI 2 (end)": the end may stand first
ends : ends_with (pointer 7 2 ∷ pointer 5 1 ∷ []) ≡ 5 * 4294967296 + 7
unfolding pointer ends_with node_with node_step through num_at
ends = refl

-- ---- five edges: a triangle of 1 to 2, 2 to 3 and 1 to 3, and two that end where they begin, at 4 and at 2
unfoldable word : ℕ → ℕ
word rcid = (2 * 4294967296 + rcid) * 16777216

unfoldable corner : ℕ → ℕ → ℕ
corner =
    node_at (word 1 ∷ word 2 ∷ word 3 ∷ word 4 ∷ word 5 ∷ [])
    ((1 * 4294967296 + 2) ∷ (2 * 4294967296 + 3) ∷ (1 * 4294967296 + 3) ∷ (4 * 4294967296 + 4) ∷ (2 * 4294967296 + 2) ∷ [])

-- an area's pointer to one of them
unfoldable edge : ℕ → ℕ → ℕ → List ℕ
edge rcid ornt usag = 130 ∷ rcid ∷ 0 ∷ 0 ∷ 0 ∷ ornt ∷ usag ∷ 2 ∷ []

-- an area with these pointers
unfoldable area : List (List ℕ) → Item
area es = record { rcnm = 100; rcid = 1; version = 1; prim = 3; grup = 2; objl = 42; foid = 0; lists = λ k. es }

-- "ORNT 2 reversed": 1 forward, 2 forward, 3 reversed is a ring
triangle : ring_code corner (area (edge 1 1 1 ∷ edge 2 1 1 ∷ edge 3 2 1 ∷ [])) ≡ 0
unfolding word corner edge area num_at rank_of name_from name_in index_from index_of found end_in node_at step_of usage_good along rings_from rings_good ring_code
triangle = refl

-- and is none with 3 forward
apart : ring_code corner (area (edge 1 1 1 ∷ edge 2 1 1 ∷ edge 3 1 1 ∷ [])) ≡ 19
unfolding word corner edge area num_at rank_of name_from name_in index_from index_of found end_in node_at step_of usage_good along rings_from rings_good ring_code
apart = refl

-- "the last ring must close"
unclosed : rings_good corner (edge 1 1 1 ∷ edge 2 1 1 ∷ []) ≡ false
unfolding word corner edge num_at rank_of name_from name_in index_from index_of found end_in node_at step_of usage_good along rings_from rings_good
unclosed = refl

-- an edge that ends where it begins is a ring
loop_alone : rings_good corner (edge 4 1 1 ∷ []) ≡ true
unfolding word corner edge num_at rank_of name_from name_in index_from index_of found end_in node_at step_of usage_good along rings_from rings_good
loop_alone = refl

-- "a ring ends at its first return to its start node", not at another node met before: such an edge at 2 leaves the ring from 1 open, so the
-- edges behind it are exterior still
loop_within : rings_good corner (edge 1 1 1 ∷ edge 5 1 1 ∷ edge 2 1 1 ∷ edge 3 2 1 ∷ []) ≡ true
unfolding word corner edge num_at rank_of name_from name_in index_from index_of found end_in node_at step_of usage_good along rings_from rings_good
loop_within = refl

-- at the start it ends the ring: those behind it are another, which is not exterior
loop_first : rings_good corner (edge 5 1 1 ∷ edge 2 1 1 ∷ edge 3 2 1 ∷ edge 1 1 1 ∷ []) ≡ false
unfolding word corner edge num_at rank_of name_from name_in index_from index_of found end_in node_at step_of usage_good along rings_from rings_good
loop_first = refl

-- "The first ring is USAG 1 or 3 throughout, all others 2"
interior : rings_good corner (edge 1 1 3 ∷ edge 2 1 1 ∷ edge 3 2 1 ∷ edge 4 1 2 ∷ []) ≡ true
unfolding word corner edge num_at rank_of name_from name_in index_from index_of found end_in node_at step_of usage_good along rings_from rings_good
interior = refl

second_exterior : rings_good corner (edge 1 1 3 ∷ edge 2 1 1 ∷ edge 3 2 1 ∷ edge 4 1 1 ∷ []) ≡ false
unfolding word corner edge num_at rank_of name_from name_in index_from index_of found end_in node_at step_of usage_good along rings_from rings_good
second_exterior = refl

-- Pointer comes before Ring: of two edges that run in no ring the second is missing
missing_first : area_code (index_of (word 1 ∷ [])) corner (edge 1 1 1 ∷ edge 3 1 1 ∷ []) ≡ 18
unfolding word corner edge num_at rank_of name_from name_in index_from index_of found_code first_by names_code found end_in node_at step_of usage_good along rings_from rings_good area_code
missing_first = refl

both_there : area_code (index_of (word 1 ∷ word 3 ∷ [])) corner (edge 1 1 1 ∷ edge 3 1 1 ∷ []) ≡ 19
unfolding word corner edge num_at rank_of name_from name_in index_from index_of found_code first_by names_code found end_in node_at step_of usage_good along rings_from rings_good area_code
both_there = refl
