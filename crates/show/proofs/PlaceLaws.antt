-- Laws of where a part lies. Assumes nothing.
use Prim.Native.Nat.{ℕ, ◌+◌}
use mathlib.Core.Bool.{true, false}
use mathlib.Core.List.{List}
use mathlib.Core.Path.{◌≡◌, ◌∙◌}
use Rattle.answers.specs.declared.answer.Answer.{Answer}
use Rattle.show.specs.Show.{sight_of}
use Rattle.show.specs.Place.{within, place_of_span, sight_place, shown_place}
use Rattle.show.specs.declared.span.Span.{Span}
use Rattle.std.specs.Prelude.{Result, Ok, Err}

-- ---- part
pub part_place : (s : ℕ × ℕ) (from : ℕ) (r : ℕ × ℕ) → r.0 ≡ s.0 → r.1 ≡ s.1 + from → r ≡ within s from
part_place s from r block byte i = (block i, byte i)

-- ---- lent
module _ (cell update : ℕ × ℕ) (span : Span) (r : ℕ × ℕ) where
  pub update_place : span.update ≡ true → r ≡ within update span.from → r ≡ place_of_span cell update span
  unfolding place_of_span
  update_place t e = e ∙ rw t

  pub cell_place : span.update ≡ false → r ≡ within cell span.from → r ≡ place_of_span cell update span
  unfolding place_of_span
  cell_place f e = e ∙ rw f

-- ---- sight_part
module _ (cell update : ℕ × ℕ) (sight : Result Span Answer) where
  pub shown_place_lem : (span : Span) (r : ℕ × ℕ) → sight ≡ Ok span → r ≡ place_of_span cell update span → r ≡ sight_place cell update sight
  unfolding sight_place
  shown_place_lem span r told e = e ∙ rw told

  pub denied_there : (a : Answer) → sight ≡ Err a → within cell 0 ≡ sight_place cell update sight
  unfolding sight_place
  denied_there a told = rw told

  pub denied_place : (r : ℕ × ℕ) → within cell 0 ≡ sight_place cell update sight → r.0 ≡ cell.0 → r.1 ≡ cell.1 + 0 → r ≡ sight_place cell update sight
  denied_place r there block byte = part_place cell 0 r block byte ∙ there

-- ---- show
pub show_place : (here there : ℕ × ℕ) (cell update : List ℕ) (w rcnm rcid : ℕ) (sight : Result Span Answer) → sight ≡ sight_of cell update w rcnm rcid → (r : ℕ × ℕ)
    → r ≡ sight_place here there sight → r ≡ shown_place here there cell update w rcnm rcid
unfolding shown_place
show_place here there cell update w rcnm rcid sight is r e = e ∙ rw is
