-- The notes beside the name words in the work area, from which pointers and rings are judged. They serve the proofs, and nothing here need be
-- believed. Assumes nothing.
use Rattle.std.specs.Prelude.{ℕ, ◌+◌, ◌-◌, ◌*◌, ◌≤◌, ◌<◌, Bool, true, cond, List, [], ◌∷◌, ◌⊎◌, ◌≡◌, length, get_or, take, drop, eqb}
use Rattle.table.specs.Table.{VRPT}
use Rattle.words.specs.Words.{words_in}
use Rattle.words.specs.Order.{sorted}
use Rattle.words.specs.Find.{first_from}
use Rattle.items.specs.Identity.{rcnm_at, rank_of}
use Rattle.items.specs.Word.{name_of, word_offset, feature_word, rank_in}
use Rattle.items.specs.Item.{Item, item_name, item_at}
use Rattle.lookups.specs.LookupWords.{index_of}
use Rattle.pointer.specs.Premises.{held_foid}
use Rattle.ring.specs.Ring.{node_with}
use Rattle.topology.specs.Topology.{item_code}
use Rattle.items.specs.Premises.{LaidOut, Identified}
use Rattle.answers.specs.Answer.{refusal, fine}
use Rattle.answers.specs.declared.refusal.Refusal.{Refusal}
use Rattle.names.specs.Premises.{AllStand, Noted}
use Rattle.ring.specs.Walk.{ends_with, node_at}
use Rattle.quickvectors.specs.Quick.{FaultlessVector, NodeIn}
use Rattle.topology.specs.declared.seen.Seen.{Seen}

-- of a feature its FOID, of an edge its ends
unfoldable pub note_for : Item → ℕ
note_for i = cond (eqb (rank_of i.rcnm) 3) i.foid (cond (eqb (rank_of i.rcnm) 2) (ends_with (i.lists VRPT)) 0)

unfoldable pub notes_for : List Item → List ℕ
notes_for [] = []
notes_for (i ∷ is) = note_for i ∷ notes_for is

-- a record that is laid out, and the rank of its class
pub record Ranked (s : List ℕ) (at rank : ℕ) : Type 0 where
  pub laid : LaidOut s at
  pub known : Identified s at
  pub is : rank ≡ rank_of (rcnm_at s at)

-- m words of items, for each of which there is room for a note
pub record Roomy (s work : List ℕ) (m : ℕ) : Type 0 where
  pub room : 16 * m ≤ length work
  pub stand : AllStand s (words_in work 0 m)

-- `next` differs from `work` at most in the notes of m words, which stand behind these
pub record Beside (work : List ℕ) (m : ℕ) (next : List ℕ) : Type 0 where
  pub front : take (8 * m) next ≡ take (8 * m) work
  pub back : drop (8 * (m + m)) next ≡ drop (8 * (m + m)) work
  pub size : length next ≡ length work

-- in `next` these notes stand, one for each of the m words of `work`, which are as they were
pub record NotesPut (notes work : List ℕ) (m : ℕ) (next : List ℕ) : Type 0 where
  pub is : words_in next m m ≡ notes
  pub beside : Beside work m next

-- the notes of m items with these words, those of the features in order; v is the number of vectors
pub record Prepared (notes ws : List ℕ) (m : ℕ) (next : List ℕ) (v : ℕ) : Type 0 where
  pub noted : Noted next m v
  pub words : words_in next 0 m ≡ ws
  pub first : v ≡ first_from feature_word ws
  pub ends : words_in next m v ≡ take v notes
  pub foids : words_in next (m + v) (m - v) ≡ sorted (drop v notes)

-- ---- what is seen of items while the notes are put: ws are the words of all items
-- the note of one, and, where it is said to be clear, that it has no code
pub record SeenTold (comf : ℕ) (ws : List ℕ) (i : Item) (r : Seen) : Type 0 where
  pub note : r.note ≡ note_for i
  pub clear : r.clear ≡ true → FaultlessVector comf ws i

-- where r says yes, a vector of this rank is a node, and its lists hold one pair, from `due` on
pub record AloneTold (s : List ℕ) (at rank due : ℕ) (r : Bool) : Type 0 where
  pub node : r ≡ true → rank ≡ 2 → ⊥
  pub is : r ≡ true → NodeIn s at due

-- the first k have no code
pub record ClearTo (comf : ℕ) (s ws : List ℕ) (k : ℕ) : Type 0 where
  pub few : k ≤ length ws
  pub each : (j : ℕ) → j < k → FaultlessVector comf ws (item_at s (word_offset (get_or ws j 0)))

-- r counts item i too, if it is clear and all before it are counted
pub record ClearWith (clear i : ℕ) (good : Bool) (r : ℕ) : Type 0 where
  pub is : (r ≡ clear) ⊎ ((good ≡ true) × (clear ≡ i) × (r ≡ i + 1))

-- the code of an item, by words and notes
abbrev pub noted_code : ℕ → List ℕ → ℕ → ℕ → Item → ℕ
noted_code comf work m v = item_code comf (index_of (words_in work 0 m)) (held_foid (words_in work (m + v) (m - v))) (node_at (words_in work 0 m) (words_in work m v))

-- the first of the items at these words that has a code, and the byte where its record starts
unfoldable pub word_fault : (Item → ℕ) → List ℕ → ℕ → List ℕ → Refusal
word_fault code s k [] = fine
word_fault code s k (w ∷ ws) =
    cond (eqb (code (item_at s (word_offset w))) 0) (word_fault code s (k + 1) ws) (refusal (code (item_at s (word_offset w))) k (word_offset w))

-- ---- words that stand for items
-- the word has the item's name and the rank of its class, and of an edge the end fits its half of the note
pub record Worded (i : Item) (w : ℕ) : Type 0 where
  pub name : name_of w ≡ item_name i
  pub rank : rank_in w ≡ rank_of i.rcnm
  pub class : rank_of i.rcnm ≡ 3 → i.rcnm ≡ 100
  pub few : node_with 2 (i.lists VRPT) < 4294967296

pub data AllWorded : List Item → List ℕ → Type 0 where
  worded_none : AllWorded [] []
  worded_more : {i : Item} {is : List Item} {w : ℕ} {ws : List ℕ} → Worded i w → AllWorded is ws → AllWorded (i ∷ is) (w ∷ ws)
