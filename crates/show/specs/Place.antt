-- Where a part lies. A place in memory is a block and a byte of it, and a part of a file lies in the file's block. Assumes nothing.
use Rattle.std.specs.Prelude.{ℕ, ◌+◌, cond, List, Result, Ok, Err}
use Rattle.show.specs.Show.{sight_of}
use Rattle.show.specs.declared.span.Span.{Span}
use Rattle.answers.specs.declared.answer.Answer.{Answer}

-- byte `from` of what begins at this place
abbrev pub within : ℕ × ℕ → ℕ → ℕ × ℕ
within place from = (place.0, place.1 + from)

-- "a part of the update .. else of the cell", which begin at these places
unfoldable pub place_of_span : ℕ × ℕ → ℕ × ℕ → Span → ℕ × ℕ
place_of_span cell update span = within (cond span.update update cell) span.from

-- "A refusal returns an empty part of the cell": at its first byte
unfoldable pub sight_place : ℕ × ℕ → ℕ × ℕ → Result Span Answer → ℕ × ℕ
sight_place cell update (Ok span) = place_of_span cell update span
sight_place cell update (Err a) = within cell 0

-- where the part lies that Show returns of a cell and an update at these places
unfoldable pub shown_place : ℕ × ℕ → ℕ × ℕ → List ℕ → List ℕ → ℕ → ℕ → ℕ → ℕ × ℕ
shown_place here there cell update w rcnm rcid = sight_place here there (sight_of cell update w rcnm rcid)
