-- What the code knows of records, fields and directories. It serves the proofs, and nothing here need be believed. Assumes nothing.
use Rattle.std.specs.Prelude.{ℕ, ◌+◌, ◌≤◌, ◌<◌, List, ◌∷◌, ◌++◌, length, ◌≡◌, Bool, false, cond, Option, Some, None}
use Rattle.iso8211.specs.Leader.{size_at, base_at, length_digits, position_digits}
use Rattle.iso8211.specs.Directory.{position, len}
use Rattle.iso8211.specs.Record.{end_of, in_row, record_good}
use Rattle.iso8211.specs.declared.field.Head.{Head}
use Rattle.iso8211.specs.Field.{FieldIn, Headed, count_at, field_at}

-- what is known of a record whose framing is good
pub record FramedAt (s : List ℕ) (at : ℕ) : Type 0 where
  pub headed : Headed s at
  pub fits : at + size_at s at ≤ length s
  pub small : size_at s at ≤ 99999
  pub high : base_at s at ≤ size_at s at

-- h has the numbers of the leader of such a record that reading its fields takes
pub record HeadOf (s : List ℕ) (at : ℕ) (h : Head) : Type 0 where
  pub headed : Headed s at
  pub base : h.base ≡ base_at s at
  pub lengths : h.lengths ≡ length_digits s at
  pub positions : h.positions ≡ position_digits s at
  pub count : h.count ≡ count_at s at

-- row k is one of the directory's, with l digits of length and p of position
pub record Rowed (s : List ℕ) (at l p k : ℕ) : Type 0 where
  pub headed : Headed s at
  pub lengths : l ≡ length_digits s at
  pub positions : p ≡ position_digits s at
  pub below : k < count_at s at

-- what is known of a record whose framing is good, and of its fields: "Field positions start at 0, follow without gaps"
pub record RecordIn (s : List ℕ) (at : ℕ) : Type 0 where
  pub framed : FramedAt s at
  pub fields : (j : ℕ) → j < count_at s at → FieldIn s at (end_of s at) (field_at s at j)
  pub front : (field_at s at 0).start ≡ at + base_at s at
  pub gapless : (j : ℕ) → j + 1 < count_at s at → (field_at s at (j + 1)).start ≡ (field_at s at j).start + (field_at s at j).length

-- x is where field j starts, if there is one
pub record Due (s : List ℕ) (at j x : ℕ) : Type 0 where
  pub is : j < count_at s at → x ≡ (field_at s at j).start

-- what the rest of the fields makes of a step's answer: where the next field is due, or that one was bad
unfoldable pub onward : List ℕ → ℕ → ℕ → List (List ℕ) → Option ℕ → Bool
onward s body size more (Some due) = in_row s body size more due
onward s body size more None = false

-- the place where the next field is due lies within the fields
unfoldable pub StepWithin : ℕ → Option ℕ → Type 0
StepWithin size (Some due) = due ≤ size
StepWithin size None = Unit {0}

-- r is what judging the field of a row of this length and position answers, whatever rows come after it
pub record RowStep (s : List ℕ) (body size long place due : ℕ) (r : Option ℕ) : Type 0 where
  pub is : (row : List ℕ) (more : List (List ℕ)) → len row ≡ long → position row ≡ place → in_row s body size (row ∷ more) due ≡ onward s body size more r
  pub within : StepWithin size r

-- r is what judging the fields of these rows answers, whatever rows come after them
pub record BatchStep (s : List ℕ) (body size : ℕ) (some : List (List ℕ)) (due : ℕ) (r : Option ℕ) : Type 0 where
  pub is : (more : List (List ℕ)) → in_row s body size (some ++ more) due ≡ onward s body size more r
  pub within : StepWithin size r

-- what judging a record answers: its end, or 0 where its framing is broken
unfoldable pub good_end : Bool → List ℕ → ℕ → ℕ
good_end first s at = cond (record_good first s at) (end_of s at) 0
