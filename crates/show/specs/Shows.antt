-- What the call Show promises. Assumes nothing.
use Rattle.std.specs.Prelude.{ℕ, List, ◌≡◌, length, replicate}
use Rattle.answers.specs.Sixteen.{answer_area}
use Rattle.show.specs.Show.{show_of, shown_part}
use Rattle.show.specs.Place.{shown_place}

-- of the bytes of the part, of the answer area, which was `answer` before and is `told` now, of the work area, which was `work` and is
-- `after`, and of the place where the part lies: `here` and `there` are those where the cell and the update begin, `at` is the part's.
-- The bytes alone wouldn't say it: both files may have the record byte for byte, and an empty part has none
pub record Shows (cell update work after answer told : List ℕ) (rcnm rcid : ℕ) (part : List ℕ) (here there at : ℕ × ℕ) : Type 0 where
  pub bytes : part ≡ shown_part cell update (length work) rcnm rcid
  pub area : told ≡ answer_area answer (show_of cell update (length work) rcnm rcid)
  pub zero : after ≡ replicate (length work) 0
  pub place : at ≡ shown_place here there cell update (length work) rcnm rcid
