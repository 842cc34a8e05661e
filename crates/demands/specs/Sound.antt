-- What topology asks of a chart, as propositions: demand 2 speaks of these. Assumes nothing.
use Rattle.std.specs.Prelude.{ℕ, true, List, ◌∷◌, ◌≡◌}
use Rattle.octets.specs.Number.{num_at}
use Rattle.table.specs.Table.{VRPT, FFPT, FSPT}
use Rattle.lookups.specs.Lookup.{name_in}
use Rattle.vectorshape.specs.Shape.{shape_good}
use Rattle.ring.specs.Ring.{node_in, rings_good}
use Rattle.items.specs.Item.{Item, item_name}
use Rattle.held.specs.Chart.{Chart}
use Rattle.changes.specs.Rules.{All}

-- one of a list keeps a rule
pub data Any {E : Type 0} (rule : E → Type 0) : List E → Type 0 where
  any_here : {e : E} {es : List E} → rule e → Any rule (e ∷ es)
  any_later : {e : E} {es : List E} → Any rule es → Any rule (e ∷ es)

-- "a NAME is refused exactly if no record of the cell has it": the NAME with which an entry of VRPT or FSPT starts is that of one of these objects. Shape
-- has seen that its class is 110, 120 or 130, so that the name as a number is the name
abbrev pub Named : List Item → List ℕ → Type 0
Named ts e = Any (λ (t : Item). item_name t ≡ name_in e) ts

-- "an LNAM exactly if no feature has that FOID (several may)": LNAM is the first eight bytes of an entry of FFPT
abbrev pub Related : List Item → List ℕ → Type 0
Related ts e = Any (λ (t : Item). (t.rcnm ≡ 100) × (t.foid ≡ num_at e 0 8)) ts

-- one object among all: "All so far is Shape"; Pointer, of a vector its VRPT, of a feature its FFPT and FSPT; "Ring, PRIM 3"
pub record SoundAmong (comf : ℕ) (all : List Item) (t : Item) : Type 0 where
  pub shape : shape_good comf t ≡ true
  pub ends : (t.rcnm ≡ 100 → ⊥) → All (Named all) (t.lists VRPT)
  pub related : t.rcnm ≡ 100 → All (Related all) (t.lists FFPT)
  pub spatial : t.rcnm ≡ 100 → All (Named all) (t.lists FSPT)
  pub rings : t.rcnm ≡ 100 → t.prim ≡ 3 → rings_good (node_in all) (t.lists FSPT) ≡ true

-- COMF is the four bytes at 16 of DSPM
abbrev pub comf_of : Chart → ℕ
comf_of c = num_at c.header.dspm 16 4

-- ---- the chart has none of the codes 17 to 19
pub record Sound (c : Chart) : Type 0 where
  pub each : All (SoundAmong (comf_of c) c.items) c.items
