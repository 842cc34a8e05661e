-- Show: the answer and the part, for every cell, every update, every name and every work area. Assumes nothing.
use Rattle.std.specs.Prelude.{ℕ, Bool, true, false, cond, List, [], length, take, drop, eqb, Option, Some, None, Result, Ok, Err}
use Rattle.iso8211.specs.Leader.{size_at}
use Rattle.answers.specs.Codes.{ABSENT}
use Rattle.answers.specs.Answer.{answer}
use Rattle.reader.specs.Reader.{front_of, fronted, cell_checked, both_checked}
use Rattle.answers.specs.declared.answer.Answer.{Answer}
use Rattle.shownames.specs.Named.{named_in}
use Rattle.show.specs.declared.span.Span.{Span}

-- ---- what is shown
-- "the whole bytes of that .. record": of the record at `at`, as many as its leader says
unfoldable pub span_of : Bool → List ℕ → ℕ → Span
span_of update s at = record { update = update; from = at; size = size_at s at }

-- the record that was found, or what else is seen
unfoldable pub found_sight : Bool → List ℕ → Option ℕ → Result Span Answer → Result Span Answer
found_sight update s (Some p) on = Ok (span_of update s p)
found_sight update s None on = on

-- "22 Absent: Show finds no such name: 0, 0"
unfoldable pub absent : Result Span Answer
absent = Err (answer ABSENT 0 0 0 0)

-- a readable cell of n records
unfoldable pub cell_sight : List ℕ → ℕ → ℕ → ℕ → Result Span Answer
cell_sight cell n rcnm rcid = found_sight false cell (named_in false cell n rcnm rcid) absent

-- and with it a readable update of m: "a part of the update if it has one so named, else of the cell"
unfoldable pub both_sight : List ℕ → ℕ → List ℕ → ℕ → ℕ → ℕ → Result Span Answer
both_sight cell n update m rcnm rcid = found_sight true update (named_in true update m rcnm rcid) (cell_sight cell n rcnm rcid)

-- ---- the order: "Show stops after the 7s and 8 and gives 0 or 22"
-- reading's refusal, or what is seen of files that it doesn't refuse
unfoldable pub after_reading : Answer → Result Span Answer → Result Span Answer
after_reading a on = cond (eqb a.code 0) on (Err a)

-- framed files, with w bytes of work: "3; cell 4, .. 7, 8; update 4, 5/6, 7", then these
unfoldable pub alone_sight : List ℕ → ℕ → ℕ → ℕ → ℕ → Result Span Answer
alone_sight cell n w rcnm rcid = after_reading (cell_checked cell w n) (cell_sight cell n rcnm rcid)

unfoldable pub pair_sight : List ℕ → ℕ → List ℕ → ℕ → ℕ → ℕ → ℕ → Result Span Answer
pair_sight cell n update m w rcnm rcid = after_reading (both_checked cell update w n m) (both_sight cell n update m rcnm rcid)

-- "update 1, 2", then these; "an update (length 0 here means none)"
unfoldable pub update_sight : List ℕ → ℕ → List ℕ → ℕ → ℕ → ℕ → Result Span Answer
update_sight cell n update w rcnm rcid =
    cond (eqb (length update) 0) (alone_sight cell n w rcnm rcid) (fronted Err (λ (m : ℕ). pair_sight cell n update m w rcnm rcid) (front_of 2 update))

-- "cell 1, 2", then these
unfoldable pub sight_of : List ℕ → List ℕ → ℕ → ℕ → ℕ → Result Span Answer
sight_of cell update w rcnm rcid = fronted Err (λ (n : ℕ). update_sight cell n update w rcnm rcid) (front_of 1 cell)

-- ---- the answer: "0 done: 0, 0"; "Number: .. part length for Show"
unfoldable pub sight_answer : Result Span Answer → Answer
sight_answer (Ok span) = answer 0 0 0 span.size 0
sight_answer (Err a) = a

-- ---- the part: "A refusal returns an empty part of the cell"
unfoldable pub bytes_of_span : List ℕ → List ℕ → Span → List ℕ
bytes_of_span cell update span = take span.size (drop span.from (cond span.update update cell))

unfoldable pub sight_bytes : List ℕ → List ℕ → Result Span Answer → List ℕ
sight_bytes cell update (Ok span) = bytes_of_span cell update span
sight_bytes cell update (Err a) = []

-- ---- Show, with w bytes of work
unfoldable pub show_of : List ℕ → List ℕ → ℕ → ℕ → ℕ → Answer
show_of cell update w rcnm rcid = sight_answer (sight_of cell update w rcnm rcid)

unfoldable pub shown_part : List ℕ → List ℕ → ℕ → ℕ → ℕ → List ℕ
shown_part cell update w rcnm rcid = sight_bytes cell update (sight_of cell update w rcnm rcid)
