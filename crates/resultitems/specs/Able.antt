-- What the code takes of the items of the result: where their records stand, and the areas that it is lent. Nothing here need be believed.
-- Assumes nothing.
use Rattle.std.specs.Prelude.{ℕ, ◌+◌, ◌*◌, ◌≤◌, List, [], ◌∷◌, ◌≡◌, length}
use Rattle.words.specs.Words.{words_in}
use Rattle.words.specs.Order.{Sorted}
use Rattle.topology.specs.Notes.{Worded}
use Rattle.held.specs.Good.{Good}
use Rattle.itemrows.specs.Plain.{Writable}
use Rattle.items.specs.Word.{mark_of, marked_offset}
use Rattle.merge.specs.Places.{places_of, Woof}
use Rattle.merge.specs.declared.walk.At.{At}
use Rattle.amend.specs.Sides.{Areas}
use Rattle.raising.specs.Record.{Editable}
use Rattle.resultitems.specs.Result.{object_of}

-- the lent areas, in which the record of an item that the update modifies is built
pub record Rooms (join table room : List ℕ) : Type 0 where
  pub areas : Areas join table
  pub long : 200500 ≤ length room

-- an item that the update modifies: its record can be built, and is one of a chart
pub record Changed (cell update : List ℕ) (p : At) : Type 0 where
  pub held : mark_of p.word ≡ 0
  pub edit : Editable cell (marked_offset p.word) update (marked_offset p.by)
  pub aall : ℕ
  pub nall : ℕ
  pub good : Good aall nall (object_of cell update p)

-- an item of the result: its word has its name, and its record stands in the cell, in the update, or can be built of both
pub record Able (cell update : List ℕ) (p : At) : Type 0 where
  pub worded : Worded (object_of cell update p) p.word
  pub one : p.change ≤ 1
  pub kept : p.change ≡ 0 → mark_of p.word ≡ 0 → Writable cell (marked_offset p.word)
  pub new : p.change ≡ 0 → mark_of p.word ≡ 1 → Writable update (marked_offset p.word)
  pub changed : p.change ≡ 1 → Changed cell update p

pub data AllAble (cell update : List ℕ) : List At → Type 0 where
  able_none : AllAble cell update []
  able_more : {p : At} {ps : List At} → Able cell update p → AllAble cell update ps → AllAble cell update (p ∷ ps)

-- the words of the result in order in front of the work area, room for as many notes behind them, then the words of its modifies
pub record Laid (cell update work : List ℕ) (end count edits : ℕ) : Type 0 where
  pub woof : Woof work end count edits
  pub notes : 2 * count + edits ≤ end
  pub order : Sorted (words_in work 0 count)
  pub able : AllAble cell update (places_of work end count edits)
