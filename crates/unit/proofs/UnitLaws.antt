-- The owner's demand 3: "The update number on the screen is all a mate can check. Take an admitted base cell. Among the files offered to any unit that read as updates
-- of its name and edition, let any two with the same number be the same bytes. Offer files in any order, repeated or with gaps. After each, the unit's cell is the
-- re-issue of the base with every update after the base's own number up to the number shown applied once, in order, by demand 2's rules. Two units of this base showing
-- the same number therefore hold equal bytes, also where one began from a re-issue that the other wrote earlier."
-- `unit_worked`: a unit's cell is the held form of its base with offered updates worked in, one of each number after the base's own up to that shown, in order; of the
-- files nothing is asked but that they are bytes. `unit_shows`: by the owner's premise (`OneEach`) every one up to the number shown is among them. `reissue_only`: there
-- is then one such cell. `same_number_same_bytes`: so two units that show one number hold equal bytes. Nothing is asked of the order, of the areas, or of any other
-- file. Assumes nothing.
use Prim.Native.Nat.{ℕ}
use mathlib.Core.List.{List}
use mathlib.Core.Path.{◌≡◌, refl, sym, ap, ◌∙◌}
use native.Mathlib.Omega.{arith}
use Rattle.held.specs.Chart.{Chart}
use Rattle.held.specs.Held.{held_of}
use Rattle.loader.specs.Admit.{cell_chart}
use Rattle.demands.specs.Cell.{Bytes}
use Rattle.unit.specs.Unit.{BytesEach, UnitOf}
use Rattle.unit.specs.Reissue.{shown, OneEach, worked, Worked, Reissue}
use Rattle.unit.proofs.SeriesLaws.{series_numbers, series_same, series_every}
use Rattle.unit.proofs.StandsLaws.{stands_shown, unit_stands}

-- ---- the re-issue, by charts alone: at a number there is one
pub reissue_only : {Offered : List ℕ → Type 0} {base : Chart} {n : ℕ} {a b : List ℕ} → OneEach Offered base → Reissue Offered base n a → Reissue Offered base n b → a ≡ b
reissue_only {base = base} one r q =
    let a = r.made in
    let b = q.made in
    let same = series_same base one refl refl a.series b.series (omega (arith, a.last, b.last)) in
    a.bytes ∙ ap (λ (us : List (List ℕ)). held_of (worked base us)) same ∙ sym b.bytes

-- ---- "Offer files in any order, repeated or with gaps. After each, the unit's cell is the re-issue of the base with .. applied once, in order, by demand 2's rules.":
-- one update of each number after the base's own up to that shown; the owner's premise isn't asked for here
pub unit_worked : {Offered : List ℕ → Type 0} {base cell : List ℕ} → Bytes base → BytesEach Offered → UnitOf Offered base cell
    → Worked Offered (cell_chart base) (shown cell) cell
unit_worked b octets u =
    let st = unit_stands octets b u in
    record { updates = st.updates; last = stands_shown octets st; numbers = series_numbers st.series; series = st.series; bytes = st.bytes }

-- "with every update after the base's own number up to the number shown", by the owner's premise: "let any two with the same number be the same bytes."
pub unit_shows : {Offered : List ℕ → Type 0} {base cell : List ℕ} → Bytes base → BytesEach Offered → OneEach Offered (cell_chart base)
    → UnitOf Offered base cell → Reissue Offered (cell_chart base) (shown cell) cell
unit_shows {base = base} b octets one u =
    let m = unit_worked b octets u in
    record { made = m; every = λ file off own low high. series_every (cell_chart base) one refl refl m.series file off own low (omega (arith, m.last)) }

-- ---- "Two units of this base showing the same number therefore hold equal bytes, also where one began from a re-issue that the other wrote earlier."
pub same_number_same_bytes : {Offered : List ℕ → Type 0} {base cell other : List ℕ} → Bytes base → BytesEach Offered
    → OneEach Offered (cell_chart base) → UnitOf Offered base cell → UnitOf Offered base other → shown cell ≡ shown other → cell ≡ other
same_number_same_bytes b octets one u v h = reissue_only one (unit_shows b octets one u) (rw h (unit_shows b octets one v))
