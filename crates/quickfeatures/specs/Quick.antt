-- What the quick tests tell of a feature, each one way: where one says yes. It serves the proofs, and nothing here need be believed.
-- Assumes nothing.
use Rattle.std.specs.Prelude.{ℕ, ◌+◌, ◌-◌, ◌≤◌, ◌<◌, Bool, true, not, cond, ◌&&◌, List, ◌≡◌, length, take, drop, eqb, Option, Some, None}
use Rattle.words.specs.Words.{words_in}
use Rattle.table.specs.Table.{FFPT}
use Rattle.entries.specs.Entries.{entries_of}
use Rattle.entries.specs.Rules.{all_of}
use Rattle.layout.specs.Layout.{shape_of}
use Rattle.items.specs.Item.{Item}
use Rattle.lookups.specs.Lookup.{name_in}
use Rattle.lookups.specs.LookupWords.{index_of}
use Rattle.vectorshape.specs.Shape.{spatial_good, spatial_count}
use Rattle.pointer.specs.Pointer.{names_code, lnams_code}
use Rattle.pointer.specs.Premises.{held_foid}
use Rattle.ring.specs.Ring.{rings_good}
use Rattle.ring.specs.Walk.{node_at}
use Rattle.spans.specs.Spans.{rest_of}
use Rattle.spans.specs.declared.Span.{Span}
use Rattle.quickvectors.specs.Quick.{Faultless}

-- an FSPT that the primitive wants, and its index
unfoldable pub SpatialTold : List ℕ → ℕ → List ℕ → ℕ → Option ℕ → Type 0
SpatialTold e prim work m (Some i) = (spatial_good prim e ≡ true) × (index_of (words_in work 0 m) (name_in e) ≡ Some i) × (i < m)
SpatialTold e prim work m None = Unit {0}

-- all FSPT in the bytes from `from` up to `to` are wanted, and there
pub record NamesTold (s : List ℕ) (from to prim : ℕ) (work : List ℕ) (m : ℕ) (r : Bool) : Type 0 where
  pub shape : r ≡ true → all_of (spatial_good prim) (rest_of 8 s from to) ≡ true
  pub names : r ≡ true → names_code (index_of (words_in work 0 m)) (rest_of 8 s from to) ≡ 0

-- the FSPT of a span
abbrev pub pointers : List ℕ → Span → List (List ℕ)
pointers s sp = rest_of 8 s sp.from sp.to

-- Shape of a feature by its numbers: q tells whether it is a collection
unfoldable pub shaped_by : ℕ → Bool → List (List ℕ) → Bool
shaped_by prim q es = cond (eqb prim 255) (q && eqb (length es) 0) (not q && (spatial_count prim (length es) && all_of (spatial_good prim) es))

pub record SpatialsTold (s : List ℕ) (sp : Span) (prim : ℕ) (q : Bool) (work : List ℕ) (m v : ℕ) (r : Bool) : Type 0 where
  pub order : r ≡ true → sp.from ≤ sp.to
  pub shape : r ≡ true → shaped_by prim q (pointers s sp) ≡ true
  pub names : r ≡ true → names_code (index_of (words_in work 0 m)) (pointers s sp) ≡ 0
  pub rings : r ≡ true → prim ≡ 3 → rings_good (node_at (words_in work 0 m) (words_in work m v)) (pointers s sp) ≡ true

-- the LNAM of the FFPT in these bytes, and in those of a span
pub record LnamsTold (b work : List ℕ) (m v : ℕ) (r : Bool) : Type 0 where
  pub is : r ≡ true → lnams_code (held_foid (words_in work (m + v) (m - v))) (entries_of (shape_of FFPT) b) ≡ 0

pub record RelatedTold (s : List ℕ) (sp : Span) (work : List ℕ) (m v : ℕ) (r : Bool) : Type 0 where
  pub order : r ≡ true → sp.from ≤ sp.to
  pub is : r ≡ true → lnams_code (held_foid (words_in work (m + v) (m - v))) (entries_of (shape_of FFPT) (take (sp.to - sp.from) (drop sp.from s))) ≡ 0

-- the item has no fault, whatever COMF
pub record Drawn (work : List ℕ) (m v : ℕ) (i : Item) (r : Bool) : Type 0 where
  pub is : r ≡ true → (comf : ℕ) → Faultless comf work m v i
