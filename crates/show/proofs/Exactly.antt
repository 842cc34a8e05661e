-- Show on readable files, said of their records and not of a walk: the update's record that has the name, else the cell's, else 22. Assumes nothing.
use Prim.Native.Nat.{ℕ, ◌+◌, ◌≤◌, ◌<◌}
use mathlib.Core.Bool.{true, false}
use mathlib.Core.List.{List, []}
use mathlib.Core.Path.{◌≡◌, refl, ap, ◌∙◌}
use native.Mathlib.Omega.{arith}
use lib.ListN.{length, take, drop}
use borrow.Author.Tests.{eq-eqb, ne_eqb}
use Rattle.octets.specs.Number.{byte_at}
use Rattle.iso8211.specs.Leader.{size_at}
use Rattle.iso8211.specs.File.{record_at}
use Rattle.iso8211.proofs.Promise.{records_few, last_ends}
use Rattle.names.specs.Premises.{Readable}
use Rattle.names.specs.Names.{first_item, twice_of}
use Rattle.reader.specs.Reader.{front_of, cell_fault, update_fault, cell_checked, both_checked, both_fault, fronted}
use Rattle.std.specs.Prelude.{Result, Ok}
use Rattle.readboth.proofs.CallLaws.{counted, work_told}
use Rattle.reader.proofs.ReaderLaws.{cell_good, update_good, cell_parts, update_parts}
use Rattle.shownames.specs.Named.{is_named}
use Rattle.shownames.specs.Premises.{is_class}
use Rattle.show.specs.Show.{span_of, found_sight, absent, cell_sight, both_sight, after_reading, alone_sight, pair_sight, update_sight, sight_of, sight_answer, bytes_of_span}
use Rattle.show.specs.Show.{sight_bytes, show_of, shown_part}
use Rattle.show.specs.Place.{within, place_of_span, sight_place, shown_place}
use Rattle.shownames.proofs.NamedLaws.{named_only, named_none, other_class}
use Rattle.answers.specs.Answer.{answer, filed}
use Rattle.reader.specs.Lent.{FileOpened}
use Rattle.answers.specs.declared.answer.Answer.{Answer}
use Rattle.answers.proofs.AnswerLaws.{filed_told}
use Rattle.readboth.proofs.BothLaws.{both_apart}
use Rattle.show.specs.declared.span.Span.{Span}

-- the whole bytes of record k
abbrev pub record_bytes : List ℕ → ℕ → List ℕ
record_bytes s k = take (size_at s (record_at s k)) (drop (record_at s k) s)

-- byte `from` of the cell, and of the update, which begin at these places
abbrev pub of_cell_lem : ℕ → ℕ × ℕ → ℕ × ℕ → ℕ × ℕ
of_cell_lem from here there = within here from

abbrev pub of_update_lem : ℕ → ℕ × ℕ → ℕ × ℕ → ℕ × ℕ
of_update_lem from here there = within there from

-- what Show gives: this answer and this part, which lies at this place, wherever the two files begin
pub record Gives (cell update : List ℕ) (w rcnm rcid : ℕ) (a : Answer) (part : List ℕ) (at : ℕ × ℕ → ℕ × ℕ → ℕ × ℕ) : Type 0 where
  pub answered : show_of cell update w rcnm rcid ≡ a
  pub shown : shown_part cell update w rcnm rcid ≡ part
  pub lies : (here there : ℕ × ℕ) → shown_place here there cell update w rcnm rcid ≡ at here there

gives : (cell update : List ℕ) (w rcnm rcid : ℕ) (sight : Result Span Answer) → sight_of cell update w rcnm rcid ≡ sight
    → Gives cell update w rcnm rcid (sight_answer sight) (sight_bytes cell update sight) (λ here there. sight_place here there sight)
unfolding show_of shown_part shown_place
gives cell update w rcnm rcid sight e =
    record { answered = ap sight_answer e; shown = ap (sight_bytes cell update) e; lies = λ here there. ap (sight_place here there) e }

-- ---- a cell without an update
module _ (cell update : List ℕ) (w n rcnm rcid : ℕ) (front : front_of 1 cell ≡ Ok n) (none : length update ≡ 0) (fine : (cell_checked cell w n).code ≡ 0) where
  alone_sight_lem : sight_of cell update w rcnm rcid ≡ cell_sight cell n rcnm rcid
  unfolding sight_of fronted update_sight alone_sight after_reading
  alone_sight_lem = rw (front, eq-eqb (length update) 0 none, eq-eqb (cell_checked cell w n).code 0 fine)

  alone_read : (cell_fault cell n).code ≡ 0
  unfolding cell_checked
  alone_read = filed_told 1 (cell_fault cell n) (work_told w n (filed 1 (cell_fault cell n)) fine).2

  alone_good : Readable false cell n
  alone_good = let so = counted 1 cell (front_of 1 cell) n refl front in cell_good cell n so.framed so.short alone_read

  alone_once : (twice_of false cell n).index ≡ 0
  alone_once = (cell_parts cell n alone_read).1

  pub alone_shown : (k : ℕ) → 3 ≤ k → k < n → is_named cell (record_at cell k) rcnm rcid ≡ true
      → Gives cell update w rcnm rcid (answer 0 0 0 (size_at cell (record_at cell k)) 0) (record_bytes cell k) (of_cell_lem (record_at cell k))
  unfolding cell_sight found_sight span_of sight_answer sight_bytes bytes_of_span sight_place place_of_span first_item
  alone_shown k low high is =
      gives cell update w rcnm rcid (Ok (span_of false cell (record_at cell k))) (alone_sight_lem ∙ rw (named_only alone_good alone_once k rcnm rcid low high is))

  pub alone_absent : ((k : ℕ) → 3 ≤ k → k < n → is_named cell (record_at cell k) rcnm rcid ≡ false) → Gives cell update w rcnm rcid (answer 22 0 0 0 0) [] (of_cell_lem 0)
  unfolding cell_sight found_sight absent sight_answer sight_bytes sight_place first_item
  alone_absent lost = gives cell update w rcnm rcid absent (alone_sight_lem ∙ rw (named_none false cell n rcnm rcid lost))

  -- names of class 10 or 20, or of any other class than the four, are 22
  pub alone_class : ((i : ℕ) → byte_at cell i < 256) → rcid < 4294967296 → is_class rcnm ≡ false → Gives cell update w rcnm rcid (answer 22 0 0 0 0) [] (of_cell_lem 0)
  unfolding cell_sight found_sight absent sight_answer sight_bytes sight_place
  alone_class held small other = gives cell update w rcnm rcid absent (alone_sight_lem ∙ rw (other_class alone_good alone_once held rcnm rcid small other))

-- ---- a cell and an update, whichever cell that is of
module _ (cell update : List ℕ) (w n m rcnm rcid : ℕ) (front : front_of 1 cell ≡ Ok n) (second : front_of 2 update ≡ Ok m)
    (fine : (both_checked cell update w n m).code ≡ 0) where
  update_short : FileOpened update m
  update_short = counted 2 update (front_of 2 update) m refl second

  update_some : length update ≡ 0 → ⊥
  update_some z = let one = (last_ends update m update_short.framed).0 in let few = records_few update m update_short.framed in omega arith

  pair_sight_lem : sight_of cell update w rcnm rcid ≡ both_sight cell n update m rcnm rcid
  unfolding sight_of fronted update_sight pair_sight after_reading
  pair_sight_lem = rw (front, ne_eqb (length update) 0 update_some, second, eq-eqb (both_checked cell update w n m).code 0 fine)

  pair_read : ((cell_fault cell n).code ≡ 0) × ((update_fault update m).code ≡ 0)
  unfolding both_checked
  pair_read = both_apart cell n update m (work_told w (n + m) (both_fault cell n update m) fine).2

  pair_held : Readable false cell n
  pair_held = let so = counted 1 cell (front_of 1 cell) n refl front in cell_good cell n so.framed so.short pair_read.0

  pair_come : Readable true update m
  pair_come = update_good update m update_short.framed update_short.short pair_read.1

  -- "a part of the update if it has one so named"
  pub update_shown : (k : ℕ) → 2 ≤ k → k < m → is_named update (record_at update k) rcnm rcid ≡ true
      → Gives cell update w rcnm rcid (answer 0 0 0 (size_at update (record_at update k)) 0) (record_bytes update k) (of_update_lem (record_at update k))
  unfolding both_sight found_sight span_of sight_answer sight_bytes bytes_of_span sight_place place_of_span first_item
  update_shown k low high is =
      gives cell update w rcnm rcid (Ok (span_of true update (record_at update k)))
      (pair_sight_lem ∙ rw (named_only pair_come (update_parts update m pair_read.1).1 k rcnm rcid low high is))

  module _ (lost : (k : ℕ) → 2 ≤ k → k < m → is_named update (record_at update k) rcnm rcid ≡ false) where
    rest_sight : sight_of cell update w rcnm rcid ≡ cell_sight cell n rcnm rcid
    unfolding both_sight found_sight first_item
    rest_sight = pair_sight_lem ∙ rw (named_none true update m rcnm rcid lost)

    -- "else of the cell"
    pub cell_shown : (k : ℕ) → 3 ≤ k → k < n → is_named cell (record_at cell k) rcnm rcid ≡ true
        → Gives cell update w rcnm rcid (answer 0 0 0 (size_at cell (record_at cell k)) 0) (record_bytes cell k) (of_cell_lem (record_at cell k))
    unfolding cell_sight found_sight span_of sight_answer sight_bytes bytes_of_span sight_place place_of_span first_item
    cell_shown k low high is =
        gives cell update w rcnm rcid (Ok (span_of false cell (record_at cell k)))
        (rest_sight ∙ rw (named_only pair_held (cell_parts cell n pair_read.0).1 k rcnm rcid low high is))

    -- "22 Absent: Show finds no such name"
    pub none_shown : ((k : ℕ) → 3 ≤ k → k < n → is_named cell (record_at cell k) rcnm rcid ≡ false) → Gives cell update w rcnm rcid (answer 22 0 0 0 0) [] (of_cell_lem 0)
    unfolding cell_sight found_sight absent sight_answer sight_bytes sight_place first_item
    none_shown none = gives cell update w rcnm rcid absent (rest_sight ∙ rw (named_none false cell n rcnm rcid none))

  pub class_absent : ((i : ℕ) → byte_at cell i < 256) → ((i : ℕ) → byte_at update i < 256) → rcid < 4294967296 → is_class rcnm ≡ false
      → Gives cell update w rcnm rcid (answer 22 0 0 0 0) [] (of_cell_lem 0)
  unfolding both_sight cell_sight found_sight absent sight_answer sight_bytes sight_place
  class_absent held come small other =
      gives cell update w rcnm rcid absent
      (pair_sight_lem
      ∙ rw (
        other_class pair_come (update_parts update m pair_read.1).1 come rcnm rcid small other,
        other_class pair_held (cell_parts cell n pair_read.0).1 held rcnm rcid small other,
      ))
