-- The re-issue of a base at a number, by charts and demand 2's rules alone: no call is named here. Assumes nothing.
use Rattle.std.specs.Prelude.{ℕ, zero, suc, ◌+◌, ◌≤◌, ◌<◌, ◌≡◌, length}
use mathlib.Core.List.{List, [], ◌∷◌, Memᴰ, map}
use Rattle.held.specs.Chart.{Chart}
use Rattle.held.specs.Held.{held_of}
use Rattle.changes.specs.Follow.{chart_name}
use Rattle.loader.specs.Admit.{cell_chart}
use Rattle.loader.specs.Apply.{file_change, updated_by}
use Rattle.demands.specs.Update.{ReadableUpdate, Allowed}

-- ---- numbers: UPDN of a chart, of a cell, of an update
abbrev pub chart_number : Chart → ℕ
chart_number c = c.header.dsid.number

-- the owner's demand 3: "up to the number shown": that of the cell that the unit holds
unfoldable pub shown : List ℕ → ℕ
shown cell = chart_number (cell_chart cell)

unfoldable pub number_of : List ℕ → ℕ
number_of file = (file_change file).dsid.number

-- ---- the files
-- a file that reads as an update of the chart's name and edition: none of the codes 1, 2, 4 to 7, 9 and 10
pub record UpdateOf (c : Chart) (file : List ℕ) : Type 0 where
  pub reads : ReadableUpdate file
  pub name : chart_name (file_change file).dsid ≡ chart_name c.header.dsid
  pub edition : (file_change file).dsid.edition ≡ c.header.dsid.edition

-- the owner's premise, in demand 3: "Take an admitted base cell. Among the files offered to any unit that read as updates of its name and edition, let any two with the
-- same number be the same bytes." Why the owner wrote it: without it two units that show the same number can hold other bytes (`premise_needed`, crate `cases`, computes
-- two). Nothing is asked of files that aren't readable, nor of those of another name or edition
pub record OneEach (Offered : List ℕ → Type 0) (base : Chart) : Type 0 where
  pub same : (a b : List ℕ) → Offered a → Offered b → UpdateOf base a → UpdateOf base b → number_of a ≡ number_of b → a ≡ b

-- ---- updates one after the other
-- "applied once, in order": each on what those before it made
unfoldable pub worked : Chart → List (List ℕ) → Chart
worked c [] = c
worked c (file ∷ files) = worked (updated_by c file) files

-- "by demand 2's rules": offered files, each allowed by them on what those before it made
pub data Series (Offered : List ℕ → Type 0) : Chart → List (List ℕ) → Type 0 where
  ended : {c : Chart} → Series Offered c []
  next : {c : Chart} {file : List ℕ} {files : List (List ℕ)} → Offered file → Allowed c file → Series Offered (updated_by c file) files → Series Offered c (file ∷ files)

-- k numbers after n, in order: n + 1, n + 2, ..
unfoldable pub numbers_after : ℕ → ℕ → List ℕ
numbers_after n zero = []
numbers_after n (suc k) = (n + 1) ∷ numbers_after (n + 1) k

-- ---- these are the bytes of the base with offered updates "applied once, in order, by demand 2's rules": one of each number "after the base's own number up to the
-- number shown", which is n, each allowed on what those before it made
pub record Worked (Offered : List ℕ → Type 0) (base : Chart) (n : ℕ) (cell : List ℕ) : Type 0 where
  pub updates : List (List ℕ)
  pub last : chart_number base + length updates ≡ n
  pub numbers : map number_of updates ≡ numbers_after (chart_number base) (length updates)
  pub series : Series Offered base updates
  pub bytes : cell ≡ held_of (worked base updates)

-- ---- the owner's demand 3: "the re-issue of the base with every update after the base's own number up to the number shown applied once, in order, by demand 2's
-- rules", n being the number shown: besides, each offered update of the base with such a number is among them
pub record Reissue (Offered : List ℕ → Type 0) (base : Chart) (n : ℕ) (cell : List ℕ) : Type 0 where
  pub made : Worked Offered base n cell
  pub every : (file : List ℕ) → Offered file → UpdateOf base file → chart_number base < number_of file → number_of file ≤ n → Memᴰ file made.updates
