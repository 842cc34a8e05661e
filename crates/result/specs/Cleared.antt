-- The walk over the items of a result by which they are judged. It serves the proofs, and nothing here need be believed. Assumes nothing.
use Rattle.std.specs.Prelude.{ℕ, ◌+◌, ◌^◌, ◌≤◌, ◌<◌, Bool, true, List, ◌⊎◌, ◌≡◌}
use Rattle.words.specs.Words.{words_in, put_at}
use Rattle.items.specs.Item.{Item}
use Rattle.lookups.specs.LookupWords.{index_of}
use Rattle.quickvectors.specs.Quick.{FaultlessVector}
use Rattle.topology.specs.Topology.{item_code, fault_from}
use Rattle.topology.specs.Notes.{note_for}
use Rattle.merge.specs.Places.{places_from}
use Rattle.resultitems.specs.Result.{items_by, result_items}
use Rattle.resultitems.specs.Able.{AllAble}
use Rattle.result.specs.declared.Clear.{Clear}

-- the note of an item stands at word `place` of `next`, which else is `work`; where r says yes, the item has no code by the words of `work`
pub record NotePut (comf : ℕ) (i : Item) (work : List ℕ) (count place : ℕ) (next : List ℕ) (r : Bool) : Type 0 where
  pub put : next ≡ put_at work place (note_for i)
  pub small : note_for i < 2 ^ 64
  pub clear : r ≡ true → FaultlessVector comf (words_in work 0 count) i

-- the first i items, of which j are changed, have no code: the refusal is that of the rest
pub record JudgedFrom (code : Item → ℕ) (cell update work : List ℕ) (end count edits i j : ℕ) : Type 0 where
  pub is : fault_from code 3 (result_items cell update work end count edits) ≡ fault_from code (3 + i) (items_by cell update (places_from work end count edits i j))
  pub able : AllAble cell update (places_from work end count edits i j)
  pub left : j ≤ edits

-- so many items at the front, whatever is said of FOIDs and nodes
pub record ClearTo (comf : ℕ) (cell update work : List ℕ) (end count edits : ℕ) (c : Clear) : Type 0 where
  pub few : c.items ≤ count
  pub is : (object : ℕ → Bool) (node : ℕ → ℕ → ℕ)
      → JudgedFrom (item_code comf (index_of (words_in work 0 count)) object node) cell update work end count edits c.items c.edits

-- r counts the item `before` too, behind which come item i and number j of the changed ones, if it is clear and all before it are counted
pub record ClearWith (c : Clear) (before i j : ℕ) (good : Bool) (r : Clear) : Type 0 where
  pub is : (r ≡ c) ⊎ ((good ≡ true) × (c.items ≡ before) × (r.items ≡ i) × (r.edits ≡ j))
