-- The re-issue said a second way: one equation has a unit's bytes by the number shown, over a library of the files. Assumes nothing.
use Prim.Native.Nat.{ℕ, ◌+◌, ◌-◌}
use mathlib.Core.List.{List}
use mathlib.Core.Path.{◌≡◌, refl, sym, ap, ◌∙◌}
use native.Mathlib.Omega.{arith}
use lib.ListN.{length}
use Rattle.held.specs.Chart.{Chart}
use Rattle.held.specs.Held.{held_of}
use Rattle.changes.specs.Follow.{chart_name}
use Rattle.loader.specs.Admit.{cell_chart}
use Rattle.demands.specs.Cell.{Bytes}
use Rattle.loader.specs.Apply.{updated_by}
use Rattle.demands.proofs.Updated.{updated_once}
use Rattle.unit.specs.Unit.{BytesEach, UnitOf}
use Rattle.unit.specs.Reissue.{chart_number, shown, OneEach, worked, Series, Reissue}
use Rattle.unit.specs.Reissue.Series.{ended, next}
use Rattle.unit.specs.Library.{reissue_at, Shelved}
use Rattle.unit.proofs.SeriesLaws.{allowed_next, of_base}
use Rattle.unit.proofs.UnitLaws.{unit_shows}

module _ {Offered : List ℕ → Type 0} {library : ℕ → List ℕ} {base : Chart} (has : Shelved Offered library base) where
  -- a library has one file to a number
  pub library_one : OneEach Offered base
  library_one = record { same = λ a b p q own too h. sym (has.there a p own) ∙ ap library h ∙ has.there b q too }

  series_library : {c : Chart} {us : List (List ℕ)} → chart_name c.header.dsid ≡ chart_name base.header.dsid
      → c.header.dsid.edition ≡ base.header.dsid.edition → Series Offered c us → worked c us ≡ reissue_at library c (length us)
  unfolding worked reissue_at
  series_library n e ended = refl
  series_library n e (next {c = c} {file = u} {files = us} o a s) =
      let is : u ≡ library (chart_number c + 1) = sym (has.there u o (of_base base c u n e a)) ∙ ap library (allowed_next c u a) in
      let kept = updated_once c u a in
      series_library (kept.name ∙ n) (kept.edition ∙ e) s ∙ ap (λ (f : List ℕ). reissue_at library (updated_by c f) (length us)) is

  pub reissue_is : {n : ℕ} {cell : List ℕ} → Reissue Offered base n cell → cell ≡ held_of (reissue_at library base (n - chart_number base))
  reissue_is {n} r =
      let m = r.made in
      let k : length m.updates ≡ n - chart_number base = omega (arith, m.last) in
      m.bytes ∙ ap held_of (series_library refl refl m.series) ∙ ap (λ (x : ℕ). held_of (reissue_at library base x)) k

-- ---- one equation: the unit's bytes by its number
pub unit_is : {Offered : List ℕ → Type 0} {library : ℕ → List ℕ} {base cell : List ℕ} → Bytes base → BytesEach Offered
    → Shelved Offered library (cell_chart base) → UnitOf Offered base cell → cell ≡ held_of (reissue_at library (cell_chart base) (shown cell - shown base))
unfolding shown
unit_is b octets has u = reissue_is has (unit_shows b octets (library_one has) u)
