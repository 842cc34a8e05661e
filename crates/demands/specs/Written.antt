-- What a call wrote, and what is said of it: demand 2 speaks of these. Assumes nothing.
use Rattle.std.specs.Prelude.{ℕ, List, ◌≡◌, length, take}
use Rattle.items.specs.Item.{item_name}
use Rattle.held.specs.Chart.{Chart}
use Rattle.merge.specs.Update.{unnamed}
use Rattle.changes.specs.Change.{Amendment}
use Rattle.changes.specs.Amend.{held_by}
use Rattle.changes.specs.Updated.{by_amendment}
use Rattle.changes.specs.Rules.{All, Done}
use Rattle.loader.specs.Admit.{admit_of, admit_area, cell_chart}
use Rattle.loader.specs.Apply.{apply_of, apply_area, file_change, updated_by}
use Rattle.demands.specs.Cell.{Readable}

-- "the bytes an accepted Admit wrote (as many as Number says)", and those of Apply, with w bytes of work and this output area lent
abbrev pub admitted_bytes : List ℕ → ℕ → List ℕ → List ℕ
admitted_bytes cell w out = take (admit_of cell w (length out)).number (admit_area cell w out)

abbrev pub applied_bytes : List ℕ → List ℕ → ℕ → List ℕ → List ℕ
applied_bytes cell file w out = take (apply_of cell file w (length out)).number (apply_area cell file w out)

-- "reads back": it is a readable cell and means this chart
pub record ReadsAs (bytes : List ℕ) (c : Chart) : Type 0 where
  pub readable : Readable bytes
  pub chart : cell_chart bytes ≡ c

-- ---- what was written is what the file makes of the cell
pub record Applied (cell file written : List ℕ) : Type 0 where
  pub reads : ReadsAs written (updated_by (cell_chart cell) file)
  -- "records it doesn't name keep all their values but the running number": the objects that no record of the file names, in their order, and each by its name
  pub unnamed_stay : unnamed by_amendment (file_change file).amendments (cell_chart written).items ≡ unnamed by_amendment (file_change file).amendments (cell_chart cell).items
  pub others_stay : (n : ℕ) → All (λ (a : Amendment). n ≡ item_name a.object → ⊥) (file_change file).amendments
      → held_by (cell_chart written).items n ≡ held_by (cell_chart cell).items n
  -- each record of the file is done
  pub named : All (Done (cell_chart cell).items (cell_chart written).items) (file_change file).amendments
