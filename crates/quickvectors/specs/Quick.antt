-- What the quick tests tell, each one way: where one says yes. It serves the proofs, and nothing here need be believed. Assumes nothing.
use Rattle.std.specs.Prelude.{◌≡◌, ℕ, ◌+◌, ◌-◌, ◌*◌, ◌≤◌, Bool, true, false, ◌⊎◌, List, [], ◌∷◌, length}
use Rattle.words.specs.Words.{words_in}
use Rattle.words.specs.Order.{Sorted}
use Rattle.entries.specs.Entries.{entries_of}
use Rattle.entries.specs.Rules.{all_of, through}
use Rattle.items.specs.Identity.{id_at, rcnm_at}
use Rattle.items.specs.Premises.{Identified}
use Rattle.items.specs.Item.{Item}
use Rattle.lookups.specs.Lookup.{name_in, found_code}
use Rattle.lookups.specs.LookupWords.{index_of}
use Rattle.vectorshape.specs.Shape.{magnitude, pair_good, end_good, add_topi, shape_code}
use Rattle.pointer.specs.Pointer.{names_code, pointer_code}
use Rattle.pointer.specs.Premises.{held_foid}
use Rattle.ring.specs.Ring.{ring_code}
use Rattle.ring.specs.Walk.{node_at}
use Rattle.spans.specs.Spans.{SpanOf, LonePair, rest_of}
use Rattle.spans.specs.declared.Span.{Span}
use Rattle.spans.specs.declared.Spans.{Spans}

-- an item in which Shape, Pointer and Ring find no fault, by the words and notes of m items, of which v are vectors
pub record Faultless (comf : ℕ) (work : List ℕ) (m v : ℕ) (i : Item) : Type 0 where
  pub shape : shape_code comf i ≡ 0
  pub pointer : pointer_code (index_of (words_in work 0 m)) (held_foid (words_in work (m + v) (m - v))) i ≡ 0
  pub ring : ring_code (node_at (words_in work 0 m) (words_in work m v)) i ≡ 0

-- where r says yes, the item is one
pub record Quick (comf : ℕ) (work : List ℕ) (m v : ℕ) (i : Item) (r : Bool) : Type 0 where
  pub is : r ≡ true → Faultless comf work m v i

-- the same of a vector, for which neither FOIDs nor the ends of edges are asked: ws are the words of all items
pub record FaultlessVector (comf : ℕ) (ws : List ℕ) (i : Item) : Type 0 where
  pub shape : shape_code comf i ≡ 0
  pub pointer : (object : ℕ → Bool) → pointer_code (index_of ws) object i ≡ 0
  pub ring : (node : ℕ → ℕ → ℕ) → ring_code node i ≡ 0

pub record VectorTold (comf : ℕ) (ws : List ℕ) (i : Item) (r : Bool) : Type 0 where
  pub is : r ≡ true → FaultlessVector comf ws i

-- the same of one that names nothing, whatever the words
pub record WordlessTold (comf : ℕ) (i : Item) (r : Bool) : Type 0 where
  pub is : r ≡ true → (ws : List ℕ) → FaultlessVector comf ws i

-- a vector whose identifier field starts at `id`, and whose three lists lie in these spans
pub record VectorIn (s : List ℕ) (at id : ℕ) (sp : Spans) : Type 0 where
  pub known : Identified s at
  pub there : id ≡ id_at s at
  pub vector : rcnm_at s at ≡ 100 → ⊥
  pub ends : SpanOf s at 1448235092 sp.one
  pub pairs : SpanOf s at 1397174852 sp.two
  pub soundings : SpanOf s at 1397175108 sp.three

-- a node whose lists hold one pair, from `from` on
pub record NodeIn (s : List ℕ) (at from : ℕ) : Type 0 where
  pub known : Identified s at
  pub vector : rcnm_at s at ≡ 100 → ⊥
  pub node : rcnm_at s at ≡ 130 → ⊥
  pub pair : LonePair s at from

-- the words of m items in order, at the front of the work area
pub record NamesIn (work : List ℕ) (m : ℕ) : Type 0 where
  pub room : 8 * m ≤ length work
  pub order : Sorted (words_in work 0 m)

-- ---- coordinates: where r says no, none is beyond its limit
pub record BeyondTold (u limit : ℕ) (r : Bool) : Type 0 where
  pub is : r ≡ false → magnitude u ≤ limit

pub record PairTold (comf : ℕ) (e : List ℕ) (r : Bool) : Type 0 where
  pub is : r ≡ false → pair_good comf e ≡ true

-- where r says yes, all are within
pub record PairsTold (comf size : ℕ) (b : List ℕ) (r : Bool) : Type 0 where
  pub is : r ≡ true → all_of (pair_good comf) (entries_of (record { fixed = size; unit = 0 }) b) ≡ true

pub record ListTold (comf size : ℕ) (s : List ℕ) (sp : Span) (r : Bool) : Type 0 where
  pub order : r ≡ true → sp.from ≤ sp.to
  pub is : r ≡ true → all_of (pair_good comf) (rest_of size s sp.from sp.to) ≡ true

-- ---- the sizes of a node's lists
abbrev pub bytes_in : Span → ℕ
bytes_in sp = sp.to - sp.from

pub record NodeTold (rcnm : ℕ) (ends pairs soundings : Span) (r : Bool) : Type 0 where
  pub none : r ≡ true → ends.from ≡ ends.to
  pub is : r ≡ true → ((bytes_in pairs ≡ 8) × (bytes_in soundings ≡ 0)) ⊎ ((rcnm ≡ 110) × (bytes_in pairs ≡ 0) × (12 ≤ bytes_in soundings))

-- ---- the pointers of an edge
pub record TwoEnds (work : List ℕ) (m : ℕ) (es : List (List ℕ)) : Type 0 where
  pub two : length es ≡ 2
  pub good : all_of end_good es ≡ true
  pub sum : through add_topi 0 es ≡ 3
  pub there : names_code (index_of (words_in work 0 m)) es ≡ 0

-- of two entries that are lent by themselves: their shape, whether the name of one is held, and both
pub record PairedTold (a b : List ℕ) (r : Bool) : Type 0 where
  pub first : r ≡ true → end_good a ≡ true
  pub last : r ≡ true → end_good b ≡ true
  pub sum : r ≡ true → through add_topi 0 (a ∷ b ∷ []) ≡ 3

pub record HeldTold (e work : List ℕ) (m : ℕ) (r : Bool) : Type 0 where
  pub is : r ≡ true → found_code (index_of (words_in work 0 m) (name_in e)) ≡ 0

pub record EndsTold (a b work : List ℕ) (m : ℕ) (r : Bool) : Type 0 where
  pub is : r ≡ true → TwoEnds work m (a ∷ b ∷ [])

pub record EdgeTold (s : List ℕ) (ends : Span) (work : List ℕ) (m : ℕ) (r : Bool) : Type 0 where
  pub order : r ≡ true → ends.from ≤ ends.to
  pub is : r ≡ true → TwoEnds work m (rest_of 9 s ends.from ends.to)
