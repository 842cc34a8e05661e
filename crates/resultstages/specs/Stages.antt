-- What is known before each stage of Apply, and what it answers. Nothing here need be believed: it is shown to be what crates/loader/specs/Apply.antt
-- says. Assumes nothing.
use Rattle.std.specs.Prelude.{ℕ, ◌+◌, ◌*◌, ◌≤◌, false, List, ◌≡◌, length, Ok}
use Rattle.octets.specs.Number.{num_at}
use Rattle.iso8211.specs.File.{frame_of}
use Rattle.words.specs.Order.{sorted}
use Rattle.names.specs.NameWords.{name_words, items_at}
use Rattle.reader.specs.Reader.{cell_fault, update_fault}
use Rattle.held.specs.Chart.{Chart, header_of, chart_of}
use Rattle.merge.specs.Places.{places_of, Woof}
use Rattle.changes.specs.Change.{change_of}
use Rattle.changes.specs.Follow.{follow_code}
use Rattle.changes.specs.Amend.{amendments_fault, placed_in, change_fault}
use Rattle.verdict.specs.Verdict.{chart_topology}
use Rattle.resultitems.specs.Able.{AllAble, Laid}
use Rattle.resultitems.specs.Items.{objects_in}
use Rattle.revisedfront.specs.Front.{Fronted}
use Rattle.renewal.specs.Renewed.{renewed}
use Rattle.revision.specs.Following.{Small}
use Rattle.loader.specs.Admit.{held_answer}
use Rattle.loader.specs.Apply.{result_of}
use Rattle.layout.specs.General.{comf_at}
use Rattle.layout.specs.Premises.{DspmThere}
use Rattle.answers.specs.Answer.{filed}
use Rattle.reader.specs.Lent.{FileOpened, BothIn}
use Rattle.answers.specs.declared.answer.Answer.{Answer}
use Rattle.answers.specs.Codes.{work_each}
use Rattle.answers.specs.First.{first_answer}

-- ---- what is left of Apply's row of stages, and the output behind it
-- "17 to 19 record by record in held order; 20; 21"
unfoldable pub result_answer : ℕ → Chart → Answer
result_answer o c = first_answer (filed 3 (chart_topology c)) (held_answer o c)

-- "13 to 16 record by record in the update's order", then these
unfoldable pub amended_answer : List ℕ → ℕ → List ℕ → ℕ → ℕ → Answer
amended_answer cell n update m o =
    first_answer (filed 2 (placed_in update (amendments_fault (chart_of cell n).items 2 (change_of update m).amendments))) (result_answer o (result_of cell n update m))

-- "9 to 12", then these
unfoldable pub change_answer : List ℕ → ℕ → List ℕ → ℕ → ℕ → Answer
change_answer cell n update m o =
    first_answer (filed 2 (placed_in update (change_fault (chart_of cell n) (change_of update m)))) (result_answer o (result_of cell n update m))

-- the result by the words in the work area
abbrev pub renewed_in : List ℕ → List ℕ → List ℕ → ℕ → ℕ → ℕ → Chart
renewed_in cell update work end count edits = renewed cell update (objects_in cell update work end count edits)

-- ---- before the result is written: its words stand in the work area
pub record Resulting (cell update work : List ℕ) (end count edits : ℕ) : Type 0 where
  pub front : Fronted cell update
  pub woof : Woof work end count edits
  pub able : AllAble cell update (places_of work end count edits)

-- before it is judged
pub record Judging (cell : List ℕ) (n : ℕ) (update work : List ℕ) (end count edits : ℕ) : Type 0 where
  pub framed : frame_of cell ≡ Ok n
  pub three : 3 ≤ n
  pub dspm : DspmThere cell
  pub comf : num_at (header_of cell).dspm 16 4 ≡ comf_at cell
  pub front : Fronted cell update
  pub laid : Laid cell update work end count edits

-- ---- before 9 to 12: both files are readable, and their words stand in the work area
pub record BothReady (cell : List ℕ) (n : ℕ) (update : List ℕ) (m : ℕ) (work : List ℕ) : Type 0 where
  pub held : FileOpened cell n
  pub come : FileOpened update m
  pub cell_fine : (cell_fault cell n).code ≡ 0
  pub update_fine : (update_fault update m).code ≡ 0
  pub small : Small cell update
  pub room : work_each * (n + m) ≤ length work
  pub words : BothIn cell n update m work

-- before 13 to 16: the update is the next of the cell besides
pub record Amending (cell : List ℕ) (n : ℕ) (update : List ℕ) (m : ℕ) (work : List ℕ) : Type 0 where
  pub both : BothReady cell n update m work
  pub follows : follow_code (header_of cell) (change_of update m) ≡ 0

-- behind them: no record of the update has a code
pub record Merging (cell : List ℕ) (n : ℕ) (update : List ℕ) (m : ℕ) (work : List ℕ) : Type 0 where
  pub next : Amending cell n update m work
  pub none : (amendments_fault (items_at cell (sorted (name_words false cell n))) 2 (change_of update m).amendments).code ≡ 0
