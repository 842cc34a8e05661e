-- The walk along an area's edges that also judges each FSPT. It serves the proofs, and nothing here need be believed. Assumes nothing.
use Rattle.std.specs.Prelude.{ℕ, ◌+◌, ◌-◌, ◌≤◌, Bool, true, ◌&&◌, List, ◌≡◌, take, drop, Option, Some, None}
use Rattle.words.specs.Words.{words_in}
use Rattle.entries.specs.Rules.{all_of}
use Rattle.lookups.specs.LookupWords.{index_of}
use Rattle.vectorshape.specs.Shape.{spatial_good}
use Rattle.ring.specs.declared.step.Step.{Step}
use Rattle.ring.specs.Ring.{rings_good}
use Rattle.ring.specs.Walk.{node_at, taken_of, named_and}
use Rattle.spans.specs.Spans.{rest_of}

-- a step along an FSPT that an area wants
unfoldable pub TrodTold : List ℕ → List ℕ → ℕ → ℕ → Option (Step × ℕ) → Type 0
TrodTold e work m v (Some (t, next)) =
    (spatial_good 3 e ≡ true) × (Some t ≡ taken_of (index_of (words_in work 0 m)) (node_at (words_in work 0 m) (words_in work m v)) e)
TrodTold e work m v None = Unit {0}

-- that of the FSPT at i
unfoldable pub TrodAt : List ℕ → ℕ → ℕ → List ℕ → ℕ → ℕ → Option (Step × ℕ) → Type 0
TrodAt s i to work m v (Some (t, next)) =
    (i + 8 ≤ to) × (spatial_good 3 (take (i + 8 - i) (drop i s)) ≡ true)
    × (Some t ≡ taken_of (index_of (words_in work 0 m)) (node_at (words_in work 0 m) (words_in work m v)) (take (i + 8 - i) (drop i s)))
TrodAt s i to work m v None = Unit {0}

-- every FSPT is wanted and there, and the rings are good
unfoldable pub area_sound : List ℕ → ℕ → List (List ℕ) → Bool → Bool
area_sound work m es rings = all_of (spatial_good 3) es && named_and (index_of (words_in work 0 m)) es rings

-- where r says yes, all is so of the FSPT in the bytes from `from` up to `to`
pub record RingsTold (s : List ℕ) (from to : ℕ) (work : List ℕ) (m v : ℕ) (r : Bool) : Type 0 where
  pub is : r ≡ true → area_sound work m (rest_of 8 s from to) (rings_good (node_at (words_in work 0 m) (words_in work m v)) (rest_of 8 s from to)) ≡ true
