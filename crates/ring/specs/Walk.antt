-- The code's way through an area, by a word for each edge. It serves the proofs, and nothing here need be believed. Assumes nothing.
use Rattle.std.specs.Prelude.{ℕ, Bool, true, false, cond, ◌&&◌, List, eqb, Option, Some, None}
use Rattle.answers.specs.Codes.{RING}
use Rattle.items.specs.Word.{note_of, end_in}
use Rattle.lookups.specs.Lookup.{name_in}
use Rattle.lookups.specs.LookupWords.{index_of}
use Rattle.pointer.specs.Pointer.{names_code}
use Rattle.answers.specs.First.{first_code}
use Rattle.ring.specs.declared.step.Step.{Step}
use Rattle.ring.specs.Ring.{node_with, found, step_of, usage_good, rings_from, rings_good}

-- ---- the same from the note of each edge
unfoldable pub ends_with : List (List ℕ) → ℕ
ends_with es = note_of (node_with 1 es) (node_with 2 es)

-- by the words of all names and those of the edges' ends
unfoldable pub node_at : List ℕ → List ℕ → ℕ → ℕ → ℕ
node_at ws ends topi name = end_in topi (found ends (index_of ws name))

-- ---- each edge is looked up once, for its name and its ring together
-- an FSPT by what the look-up of its name answered
unfoldable pub taken_with : Option ℕ → Step → Option Step
taken_with (Some k) t = Some t
taken_with None t = None

unfoldable pub taken_of : (ℕ → Option ℕ) → (ℕ → ℕ → ℕ) → List ℕ → Option Step
taken_of place node e = taken_with (place (name_in e)) (step_of node e)

-- the edges behind t, which joins the ring that began at `start`
unfoldable pub behind : (ℕ → ℕ → ℕ) → Bool → ℕ → Step → List (List ℕ) → Bool
behind node exterior start t es =
    usage_good exterior t.usage && cond (eqb t.to start) (rings_from node false false 0 0 es) (rings_from node exterior true start t.to es)

-- every name is found, and the rings are good
unfoldable pub named_and : (ℕ → Option ℕ) → List (List ℕ) → Bool → Bool
named_and place es good = eqb (names_code place es) 0 && good

unfoldable pub area_closed : (ℕ → Option ℕ) → (ℕ → ℕ → ℕ) → List (List ℕ) → Bool
area_closed place node es = named_and place es (rings_good node es)

-- the code of an area's FSPT, by Pointer and then by Ring
unfoldable pub area_code : (ℕ → Option ℕ) → (ℕ → ℕ → ℕ) → List (List ℕ) → ℕ
area_code place node es = first_code (names_code place es) (cond (rings_good node es) 0 RING)
