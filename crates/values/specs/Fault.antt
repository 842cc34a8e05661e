-- The fault of a field: 0 where every rule holds, else one more than the place of the first byte of the subfield that is wrong. Assumes nothing.
use Rattle.std.specs.Prelude.{ℕ, zero, suc, ◌+◌, Bool, cond, eqb, Result, Ok, Err}
use Rattle.values.specs.declared.fault.Fault.{Fault}

-- the fault of the subfield that begins at i, whose rule holds or not. Which byte is named is our own, for a later request: the first byte of the
-- first subfield that is wrong, the later one where a rule joins two (UPDN with DSNM, DSNM with INTU, a second ATTL)
unfoldable pub fault_at : ℕ → Bool → ℕ
fault_at i good = cond good 0 (i + 1)

-- of two faults, a of the subfields before and b of those after, the first
unfoldable pub first : ℕ → ℕ → ℕ
first a b = cond (eqb a 0) b a

-- how the code tells a fault: Ok where there is none, else the byte that is named
unfoldable pub told : ℕ → Result Unit Fault
told zero = Ok tt
told (suc i) = Err (record { at = i })

-- how it tells a place that is wrong, which is never 0: Ok at 0, else the place itself
unfoldable pub told_place : ℕ → Result Unit Fault
told_place zero = Ok tt
told_place (suc i) = Err (record { at = suc i })
