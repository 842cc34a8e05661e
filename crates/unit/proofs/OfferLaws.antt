-- Demand 3 of units that are given by lists of offers. `unit_shows_each`: after each offer of a list. `two_units`, `two_units_again`: two units, the second begun from the
-- same base or from what the first held. `unit_reaches`: the next updates, offered in order with areas that suffice, are all taken. Assumes nothing.
use Prim.Native.Nat.{ℕ, ◌+◌}
use mathlib.Core.List.Memᴰ
use mathlib.Core.List.{List, [], ◌∷◌, ◌++◌}
use mathlib.Core.Logic.{⊎_elim}
use mathlib.Core.Path.{◌≡◌, refl, ap, ◌∙◌}
use native.Mathlib.Omega.{arith}
use lib.ListN.{length}
use Rattle.held.specs.Chart.{Chart}
use Rattle.held.specs.Held.{held_of}
use Rattle.loader.specs.Admit.{admit_of, cell_chart}
use Rattle.changes.specs.Rules.{All}
use Rattle.changes.specs.Rules.All.{all_more}
use Rattle.demands.specs.Cell.{Bytes}
use Rattle.loader.specs.Apply.{updated_by}
use Rattle.demands.specs.Update.{Allowed, Areas}
use Rattle.demands.proofs.Whole.{whole_back, whole_updated}
use Rattle.unit.specs.Unit.{admit_wrote, Offer, offered, after, files_of, In, BytesEach, UnitOf}
use Rattle.unit.specs.Unit.UnitOf.{begun, given, again}
use Rattle.unit.specs.Reissue.{shown, number_of, OneEach, worked, Series, Reissue}
use Rattle.unit.specs.Reissue.Series.{next}
use Rattle.unit.specs.Enough.{Enough}
use Rattle.unit.specs.Enough.Enough.{enough_none, enough_more}
use Rattle.unit.proofs.StandsLaws.{stands_whole, stands_held, unit_stands}
use Rattle.unit.proofs.UnitLaws.{unit_shows, same_number_same_bytes}
use Rattle.unit.proofs.StepLaws.{unit_takes}

-- ---- a file of one list of offers is one of both
pub in_left : (os ps : List Offer) (file : List ℕ) → In os file → In (os ++ ps) file
in_left [] ps file m = absurd (Memᴰ.not-nil m)
in_left (o ∷ os) ps file m =
    ⊎_elim (λ (h : file ≡ o.file). Memᴰ.head h) (λ (n : In os file). Memᴰ.tail (in_left os ps file n)) (Memᴰ.cases_cons m)

pub in_right : (os ps : List Offer) (file : List ℕ) → In ps file → In (os ++ ps) file
in_right [] ps file m = m
in_right (o ∷ os) ps file m = Memᴰ.tail (in_right os ps file m)

-- ---- the premises, of a list that is written out: a rule that each file keeps, and one that any two keep
pub in_each : {P : List ℕ → Type 0} (os : List Offer) → All P (files_of os) → (file : List ℕ) → In os file → P file
in_each [] h file m = absurd (Memᴰ.not-nil m)
in_each {P} (o ∷ os) (all_more p rest) file m =
    ⊎_elim (λ (e : file ≡ o.file). rw e p) (λ (n : In os file). in_each os rest file n) (Memᴰ.cases_cons m)

pub in_one_each : {base : Chart} (os : List Offer) → All (λ (a : List ℕ). All (λ (b : List ℕ). number_of a ≡ number_of b → a ≡ b) (files_of os)) (files_of os)
    → OneEach (In os) base
in_one_each os h = record { same = λ a b p q own too. in_each os (in_each os h a p) b q }

-- ---- a unit after any list of offers is a unit
pub unit_after : {Offered : List ℕ → Type 0} {base : List ℕ} (cell : List ℕ) (os : List Offer) → ((file : List ℕ) → In os file → Offered file)
    → UnitOf Offered base cell → UnitOf Offered base (after cell os)
unfolding after
unit_after cell [] all u = u
unit_after cell (o ∷ os) all u = unit_after (offered cell o) os (λ file m. all file (Memᴰ.tail m)) (given o (all o.file (Memᴰ.head refl)) u)

module _ (base : List ℕ) (b : Bytes base) (w : ℕ) (area : List ℕ) (accepted : (admit_of base w (length area)).code ≡ 0) where
  -- ---- after each offer: `os` are the offers until now, `later` those to come
  pub unit_shows_each : (os later : List Offer) → BytesEach (In (os ++ later)) → OneEach (In (os ++ later)) (cell_chart base)
      → Reissue (In (os ++ later)) (cell_chart base) (shown (after (admit_wrote base w area) os)) (after (admit_wrote base w area) os)
  unit_shows_each os later octets one = unit_shows b octets one (unit_after (admit_wrote base w area) os (in_left os later) (begun w area accepted))

  -- ---- "two units with the same number hold equal bytes"
  pub two_units : (v : ℕ) (room : List ℕ) → (admit_of base v (length room)).code ≡ 0 → (os ps : List Offer) → BytesEach (In (os ++ ps))
      → OneEach (In (os ++ ps)) (cell_chart base) → shown (after (admit_wrote base w area) os) ≡ shown (after (admit_wrote base v room) ps)
      → after (admit_wrote base w area) os ≡ after (admit_wrote base v room) ps
  two_units v room too os ps octets one h =
      same_number_same_bytes b octets one
      (unit_after (admit_wrote base w area) os (in_left os ps) (begun w area accepted))
      (unit_after (admit_wrote base v room) ps (in_right os ps) (begun v room too)) h

  -- "also where one began from the other's re-issue": from what the first held after `os`
  pub two_units_again : (os later ps : List Offer) (v : ℕ) (room : List ℕ) → (admit_of (after (admit_wrote base w area) os) v (length room)).code ≡ 0
      → BytesEach (In ((os ++ later) ++ ps)) → OneEach (In ((os ++ later) ++ ps)) (cell_chart base)
      → shown (after (admit_wrote base w area) (os ++ later)) ≡ shown (after (admit_wrote (after (admit_wrote base w area) os) v room) ps)
      → after (admit_wrote base w area) (os ++ later) ≡ after (admit_wrote (after (admit_wrote base w area) os) v room) ps
  two_units_again os later ps v room too octets one h =
      let all = (os ++ later) ++ ps in
      let first : UnitOf (In all) base (admit_wrote base w area) = begun w area accepted in
      let until = unit_after (admit_wrote base w area) os (λ file m. in_left (os ++ later) ps file (in_left os later file m)) first in
      same_number_same_bytes b octets one
      (unit_after (admit_wrote base w area) (os ++ later) (in_left (os ++ later) ps) first)
      (unit_after (admit_wrote (after (admit_wrote base w area) os) v room) ps (in_right (os ++ later) ps) (again v room too until)) h

-- ---- "Demand 3 alone lets the first pass, so it is read over demand 2": updates that the rules allow one after the other are all taken, if the areas suffice
module _ {Offered : List ℕ → Type 0} {base : List ℕ} (b : Bytes base) (octets : BytesEach Offered) where
  taken_chart : {cell : List ℕ} (o : Offer) → Offered o.file → UnitOf Offered base cell → Allowed (cell_chart cell) o.file
      → Areas cell o.file o.work (length o.area) → cell_chart (offered cell o) ≡ updated_by (cell_chart cell) o.file
  taken_chart {cell} o off u a enough =
      let these = octets o.file off in
      let whole = whole_updated (cell_chart cell) o.file these (stands_whole octets (unit_stands octets b u)) a in
      ap cell_chart (unit_takes b octets u o these a enough).0 ∙ (whole_back (updated_by (cell_chart cell) o.file) whole).2

  pub unit_reaches : {cell : List ℕ} (os : List Offer) → UnitOf Offered base cell → Series Offered (cell_chart cell) (files_of os) → Enough cell os
      → (after cell os ≡ held_of (worked (cell_chart cell) (files_of os))) × (shown (after cell os) ≡ shown cell + length os)
  unfolding after worked
  unit_reaches [] u s enough_none = (stands_held octets (unit_stands octets b u), omega arith)
  unit_reaches {cell} (o ∷ os) u (next off a s) (enough_more areas more) =
      let e = taken_chart o off u a areas in
      let rest = unit_reaches {cell = offered cell o} os (given o off u) (rw e s) more in
      let one = (unit_takes b octets u o (octets o.file off) a areas).1 in
      let others = rest.1 in
      (rest.0 ∙ ap (λ (c : Chart). held_of (worked c (files_of os))) e, omega arith)
