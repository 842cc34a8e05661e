-- The words of the work area: the name of a record and where the record starts, in one number of 64 bits; and the notes beside them. Here
-- the parts of both have their names and weights, once. Assumes nothing.
use Rattle.std.specs.Prelude.{ℕ, ◌+◌, ◌*◌, ◌/◌, ◌%◌, cond, eqb}

-- ---- a word, from its lowest bit on: the offset of the record in its file (23 bits), the mark (1 bit), and the name: RCID (32 bits) and the
-- rank of the class (2 bits). So the order of words is the held order: "vectors by class 110, 120, 130, then features, RCID ascending"
-- what one of each part counts. A file is at most 5,242,880 bytes long, so each offset is below the mark's weight
abbrev pub mark_weight : ℕ
mark_weight = 8388608

abbrev pub name_weight : ℕ
name_weight = 16777216

abbrev pub rank_weight : ℕ
rank_weight = 72057594037927936

-- in a name alone: RCID is below this
abbrev pub class_weight : ℕ
class_weight = 4294967296

-- the name
abbrev pub name_of : ℕ → ℕ
name_of w = w / name_weight

-- the rank of its class: 0 an isolated node, 1 a connected node, 2 an edge, 3 a feature
abbrev pub rank_in : ℕ → ℕ
rank_in w = w / rank_weight

-- the least word of a feature, of rank 3
abbrev pub feature_word : ℕ
feature_word = 216172782113783808

-- the offset of a word without mark
abbrev pub word_offset : ℕ → ℕ
word_offset w = w % name_weight

-- the mark: among the words of an update it tells a delete, in the result a record of the update
abbrev pub mark_of : ℕ → ℕ
mark_of w = w / mark_weight % 2

-- the offset, whether the word is marked or not
abbrev pub marked_offset : ℕ → ℕ
marked_offset w = w % mark_weight

-- the word with the mark set
unfoldable pub marked : ℕ → ℕ
marked w = w / name_weight * name_weight + mark_weight + w % mark_weight

-- ---- the note of an edge: the RCID of the node at which it begins, above that of the node at which it ends. The note of a feature is its FOID
abbrev pub begin_weight : ℕ
begin_weight = 4294967296

-- the note of an edge from one node to another
abbrev pub note_of : ℕ → ℕ → ℕ
note_of begin end = begin * begin_weight + end

-- for TOPI 1 the begin, else the end
unfoldable pub end_in : ℕ → ℕ → ℕ
end_in topi note = cond (eqb topi 1) (note / begin_weight) (note % begin_weight)
