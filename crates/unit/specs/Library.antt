-- The re-issue said a second way: as a function of a library, which has a file for each number. Nothing here need be believed besides. Assumes nothing.
use Rattle.std.specs.Prelude.{ℕ, zero, suc, ◌+◌, List, ◌≡◌}
use Rattle.held.specs.Chart.{Chart}
use Rattle.loader.specs.Apply.{updated_by}
use Rattle.unit.specs.Reissue.{chart_number, number_of, UpdateOf}

-- the chart with the library's next k updates
unfoldable pub reissue_at : (ℕ → List ℕ) → Chart → ℕ → Chart
reissue_at library c zero = c
reissue_at library c (suc k) = reissue_at library (updated_by c (library (chart_number c + 1))) k

-- each offered file that reads as an update of the base stands in the library, under its number
pub record Shelved (Offered : List ℕ → Type 0) (library : ℕ → List ℕ) (base : Chart) : Type 0 where
  pub there : (file : List ℕ) → Offered file → UpdateOf base file → library (number_of file) ≡ file
