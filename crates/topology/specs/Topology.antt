-- Topology: the verdict on all items, in held order. Assumes nothing.
use Rattle.std.specs.Prelude.{ℕ, ◌+◌, ◌-◌, Bool, cond, List, [], ◌∷◌, get_or, eqb, Option}
use Rattle.items.specs.Item.{Item}
use Rattle.names.specs.Held.{place_in, object_in, held_items, held_offsets}
use Rattle.vectorshape.specs.Shape.{shape_code}
use Rattle.pointer.specs.Pointer.{pointer_code}
use Rattle.answers.specs.First.{first_code}
use Rattle.ring.specs.Ring.{node_in, ring_code}
use Rattle.layout.specs.General.{comf_at}
use Rattle.answers.specs.Answer.{refusal, fine}
use Rattle.answers.specs.declared.refusal.Refusal.{Refusal}

-- "17 to 19 record by record", within one item in this order
unfoldable pub item_code : ℕ → (ℕ → Option ℕ) → (ℕ → Bool) → (ℕ → ℕ → ℕ) → Item → ℕ
item_code comf place object node i = first_code (shape_code comf i) (first_code (pointer_code place object i) (ring_code node i))

-- of an item among all
unfoldable pub code_among : ℕ → List Item → Item → ℕ
code_among comf all = item_code comf (place_in all) (object_in all) (node_in all)

-- the first of these items that has a code, the first being item k: "place in held order"
unfoldable pub fault_from : (Item → ℕ) → ℕ → List Item → Refusal
fault_from code k [] = fine
fault_from code k (i ∷ is) = cond (eqb (code i) 0) (fault_from code (k + 1) is) (refusal (code i) k 0)

-- the first vector has the place 3, behind record 0, DSID's and DSPM's
unfoldable pub topology_of : ℕ → List Item → Refusal
topology_of comf all = fault_from (code_among comf all) 3 all

-- with its byte, where the item's record starts: `offsets` are those of all items, the first being item k
unfoldable pub located : ℕ → List ℕ → Refusal → Refusal
located k offsets r = refusal r.code r.index (cond (eqb r.code 0) 0 (get_or offsets (r.index - k) 0))

-- of a cell of n records
unfoldable pub topology_fault : List ℕ → ℕ → Refusal
topology_fault s n = located 3 (held_offsets s n) (topology_of (comf_at s) (held_items s n))
