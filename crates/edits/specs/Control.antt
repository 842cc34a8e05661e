-- The edit of a list by a control. It never looks into an entry: all here is for any type of entries. Assumes nothing.
use Rattle.std.specs.Prelude.{ℕ, ◌+◌, ◌-◌, ◌≤◌, Bool, cond, ◌&&◌, List, ◌++◌, ◌≡◌, take, drop, leb, eqb}

-- "A control (1 insert, 2 delete, 3 modify; index from 1; count n of at least 1)"
pub record Control : Type 0 where
  pub instruction : ℕ
  pub index : ℕ
  pub count : ℕ

-- "delete and modify need index to index + n - 1 held": how many of these go, insert taking none away
unfoldable pub gone : Control → ℕ
gone c = cond (eqb c.instruction 1) 0 c.count

-- "Insert and modify bring exactly n entries, delete none"
unfoldable pub come : Control → ℕ
come c = cond (eqb c.instruction 2) 0 c.count

-- "insert puts n so that the first stands at the index (at most length + 1); delete and modify need index to index + n - 1 held": on a
-- list of `held` entries, the update bringing `brought`. The last test is both: with none gone, index ≤ held + 1; else index + n - 1 ≤ held
unfoldable pub allowed : Control → ℕ → ℕ → Bool
allowed c held brought =
    leb 1 c.instruction && (leb c.instruction 3 && (leb 1 c.index && (leb 1 c.count && (eqb brought (come c) && leb (c.index + gone c) (held + 1)))))

-- the same in numbers, for proofs
pub record Allowed (c : Control) (held brought : ℕ) : Type 0 where
  pub known : (1 ≤ c.instruction) × (c.instruction ≤ 3)
  pub first : 1 ≤ c.index
  pub some : 1 ≤ c.count
  pub brings : brought ≡ come c
  pub within : c.index + gone c ≤ held + 1

-- the first `before` stay, the next `out` go, `new` come in their place, all others stay
unfoldable pub edited : {E : Type 0} → ℕ → ℕ → List E → List E → List E
edited before out held new = take before held ++ (new ++ drop (before + out) held)

-- "acts on its list", "index from 1"
unfoldable pub edited_by : {E : Type 0} → Control → List E → List E → List E
edited_by c held brought = edited (c.index - 1) (gone c) held brought
