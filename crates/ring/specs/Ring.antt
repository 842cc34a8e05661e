-- Document 01's Ring, of one item: whether the edges of an area run in closed rings. Assumes nothing.
use Rattle.std.specs.Prelude.{ℕ, Bool, true, false, cond, ◌&&◌, ◌||◌, List, [], ◌∷◌, get_or, eqb, Option, Some, None}
use Rattle.answers.specs.Codes.{RING}
use Rattle.octets.specs.Number.{byte_at, num_at}
use Rattle.entries.specs.Rules.{through}
use Rattle.table.specs.Table.{VRPT, FSPT}
use Rattle.items.specs.Item.{Item}
use Rattle.lookups.specs.Lookup.{name_in}
use Rattle.names.specs.Held.{place_in}
use Rattle.ring.specs.declared.step.Step.{Step}
use Rattle.table.specs.Offsets.{RCID, VRPT_TOPI, FSPT_ORNT, FSPT_USAG}

-- ---- where an edge begins and ends
-- the RCID of the node that a VRPT names, if it has this TOPI: "TOPI 1 (begin) .. TOPI 2 (end)"
unfoldable pub node_step : ℕ → ℕ → List ℕ → ℕ
node_step topi node e = cond (eqb (byte_at e VRPT_TOPI) topi) (num_at e RCID 4) node

-- of an edge's VRPT the node with this TOPI; by Shape there is one
unfoldable pub node_with : ℕ → List (List ℕ) → ℕ
node_with topi es = through (node_step topi) 0 es

-- of an item, which is an edge
unfoldable pub node_of : ℕ → Item → ℕ
node_of topi i = cond (eqb i.rcnm 130) (node_with topi (i.lists VRPT)) 0

unfoldable pub nodes_of : ℕ → List Item → List ℕ
nodes_of topi [] = []
nodes_of topi (i ∷ is) = node_of topi i ∷ nodes_of topi is

unfoldable pub found : List ℕ → Option ℕ → ℕ
found xs (Some k) = get_or xs k 0
found xs None = 0

-- of the edge that has this name: for TOPI 1 its begin, else its end
unfoldable pub node_in : List Item → ℕ → ℕ → ℕ
node_in all topi name = found (nodes_of (cond (eqb topi 1) 1 2) all) (place_in all name)

-- ---- along the edges of an area: `node` tells the begin and the end of an edge by its name
abbrev pub step : ℕ → ℕ → ℕ → Step
step from to usage = record { from = from; to = to; usage = usage }

-- one FSPT: its NAME, then ORNT, USAG and MASK. "ORNT 2 reversed"
unfoldable pub step_of : (ℕ → ℕ → ℕ) → List ℕ → Step
step_of node e =
    cond (eqb (byte_at e FSPT_ORNT) 2) (step (node 2 (name_in e)) (node 1 (name_in e)) (byte_at e FSPT_USAG)) (step (node 1 (name_in e)) (node 2 (name_in e)) (byte_at e FSPT_USAG))

-- "The first ring is USAG 1 or 3 throughout, all others 2": `exterior` is the first
unfoldable pub usage_good : Bool → ℕ → Bool
usage_good exterior usage = cond exterior (eqb usage 1 || eqb usage 3) (eqb usage 2)

-- "each edge starts where the one before ended; a ring ends at its first return to its start node": an edge in a ring that began at `start`
-- and has come to `here`; `closed` and `on` say how it goes on where the edge ends at the start and where it doesn't
unfoldable pub along : Bool → ℕ → ℕ → Step → Bool → Bool → Bool
along exterior start here t closed on = eqb t.from here && (usage_good exterior t.usage && cond (eqb t.to start) closed on)

-- the edges from here on, inside a ring (open) or between two: "the next edge starts anew; the last ring must close"
unfoldable pub rings_from : (ℕ → ℕ → ℕ) → Bool → Bool → ℕ → ℕ → List (List ℕ) → Bool
rings_from node exterior false start here [] = true
rings_from node exterior true start here [] = false
rings_from node exterior false start here (e ∷ es) =
    along exterior (step_of node e).from (step_of node e).from (step_of node e)
    (rings_from node false false 0 0 es) (rings_from node exterior true (step_of node e).from (step_of node e).to es)
rings_from node exterior true start here (e ∷ es) =
    along exterior start here (step_of node e)
    (rings_from node false false 0 0 es) (rings_from node exterior true start (step_of node e).to es)

unfoldable pub rings_good : (ℕ → ℕ → ℕ) → List (List ℕ) → Bool
rings_good node es = rings_from node true false 0 0 es

-- "Ring, PRIM 3"
unfoldable pub ring_code : (ℕ → ℕ → ℕ) → Item → ℕ
ring_code node i = cond (eqb i.rcnm 100 && eqb i.prim 3) (cond (rings_good node (i.lists FSPT)) 0 RING) 0
