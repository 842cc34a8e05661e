-- Number is the part's length, and a refusal's part is empty: whatever was given. Assumes nothing.
use Prim.Native.Nat.{ℕ}
use mathlib.Core.Bool.{cond}
use mathlib.Core.List.{List, []}
use mathlib.Core.Path.{◌≡◌, refl}
use native.Mathlib.Omega.{arith}
use lib.ListN.{length, drop, length-drop}
use lib.Seq.{length-take-le}
use Rattle.show.specs.Show.{sight_of, sight_answer, bytes_of_span, sight_bytes, show_of, shown_part}
use Rattle.show.specs.Listed.{SpanIn, SightIn}
use Rattle.show.specs.declared.span.Span.{Span}
use Rattle.std.specs.Prelude.{Result, Ok, Err}
use Rattle.show.proofs.SightLaws.{sight_in}
use Rattle.answers.specs.declared.answer.Answer.{Answer}

-- ---- "Number: .. part length for Show"
span_length : (cell update : List ℕ) (span : Span) → SpanIn cell update span → length (bytes_of_span cell update span) ≡ span.size
unfolding bytes_of_span
span_length cell update span so =
    let f = cond span.update update cell in
    let inside = so.inside in
    length-take-le span.size (drop span.from f) (omega (arith, length-drop span.from f))

sight_length : (cell update : List ℕ) (sight : Result Span Answer) → SightIn cell update sight
    → ((sight_answer sight).code ≡ 0 → length (sight_bytes cell update sight) ≡ (sight_answer sight).number) × (((sight_answer sight).code ≡ 0 → ⊥) → sight_bytes cell update sight ≡ [])
unfolding sight_answer sight_bytes
sight_length cell update (Ok span) so = (λ z. span_length cell update span (so.each span refl), λ ne. absurd (ne refl))
sight_length cell update (Err a) so = (λ z. absurd (so.refused a refl z), λ ne. refl)

module _ (cell update : List ℕ) (w rcnm rcid : ℕ) where
  pub show_length : (show_of cell update w rcnm rcid).code ≡ 0 → length (shown_part cell update w rcnm rcid) ≡ (show_of cell update w rcnm rcid).number
  unfolding show_of shown_part
  show_length = (sight_length cell update (sight_of cell update w rcnm rcid) (sight_in cell update w rcnm rcid (sight_of cell update w rcnm rcid) refl)).0

  -- "A refusal returns an empty part"
  pub show_refused : ((show_of cell update w rcnm rcid).code ≡ 0 → ⊥) → shown_part cell update w rcnm rcid ≡ []
  unfolding show_of shown_part
  show_refused = (sight_length cell update (sight_of cell update w rcnm rcid) (sight_in cell update w rcnm rcid (sight_of cell update w rcnm rcid) refl)).1
