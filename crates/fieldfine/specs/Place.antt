-- What is told of one field by its place and its content together. It serves the proofs, and nothing here need be believed. Assumes nothing.
use Rattle.std.specs.Prelude.{ℕ, ◌≤◌, Bool, true, false, cond, ◌&&◌, List, ◌≡◌, length, get_or, leb, eqb, Ok}
use Rattle.table.specs.Table.{kind_of}
use Rattle.layout.specs.Layout.{placed, filled}
use Rattle.fieldvalue.specs.Value.{is_attributes}
use Rattle.fieldvalue.specs.Judged.{PlainJudged, FieldJudged}
use Rattle.fieldfine.specs.Told.{groups_good, AttributesTold, PointersTold}

-- a list of kind k is declared, and stands behind a field of a kind from low to k
unfoldable pub list_stands : List ℕ → ℕ → ℕ → ℕ → Bool
list_stands marks prev low k = eqb (get_or marks k 0) 1 && (leb low prev && leb prev k)

-- there is no fault where r says so
pub record NoFault (fault : ℕ) (r : Bool) : Type 0 where
  pub none : r ≡ true → fault ≡ 0

-- ---- forms of a field: where the answer r isn't START, it is the kind k, and this holds
pub record SingleField (n fixed : ℕ) (marks : List ℕ) (prev behind k r : ℕ) : Type 0 where
  pub is : (r ≡ 20 → ⊥) → r ≡ k
  pub long : (r ≡ 20 → ⊥) → n ≡ fixed
  pub after : (r ≡ 20 → ⊥) → prev ≡ behind
  pub declared : (r ≡ 20 → ⊥) → get_or marks k 0 ≡ 1

pub record IdentifierField (fixed fault : ℕ) (c marks : List ℕ) (prev stage most k r : ℕ) : Type 0 where
  pub is : (r ≡ 20 → ⊥) → r ≡ k
  pub long : (r ≡ 20 → ⊥) → length c ≡ fixed
  pub after : (r ≡ 20 → ⊥) → prev ≡ 18
  pub due : (r ≡ 20 → ⊥) → (2 ≤ stage) × (stage ≤ most)
  pub declared : (r ≡ 20 → ⊥) → get_or marks k 0 ≡ 1
  pub fine : (r ≡ 20 → ⊥) → fault ≡ 0

pub record GroupsField (n fixed : ℕ) (marks : List ℕ) (prev low k r : ℕ) : Type 0 where
  pub is : (r ≡ 20 → ⊥) → r ≡ k
  pub stands : (r ≡ 20 → ⊥) → list_stands marks prev low k ≡ true
  pub full : (r ≡ 20 → ⊥) → groups_good fixed n ≡ true

pub record AttributesField (update high : Bool) (c marks : List ℕ) (prev low k stamp : ℕ) (before after : List ℕ) (r : ℕ) : Type 0 where
  pub is : (r ≡ 20 → ⊥) → r ≡ k
  pub stands : (r ≡ 20 → ⊥) → list_stands marks prev low k ≡ true
  pub fine : (r ≡ 20 → ⊥) → AttributesTold update high c stamp before after true

pub record PointersField (c marks : List ℕ) (prev low k r : ℕ) : Type 0 where
  pub is : (r ≡ 20 → ⊥) → r ≡ k
  pub stands : (r ≡ 20 → ⊥) → list_stands marks prev low k ≡ true
  pub fine : (r ≡ 20 → ⊥) → PointersTold c true

-- ---- a field of this tag and content behind one of kind prev: its kind r, where it may stand there and is declared, filled and without fault
pub record PlainFine (update : Bool) (stage : ℕ) (marks : List ℕ) (prev tag : ℕ) (c : List ℕ) (r : ℕ) : Type 0 where
  pub kind : r ≡ kind_of tag
  pub few : r ≤ 19
  pub stands : placed update stage prev r ≡ true
  pub declared : get_or marks r 0 ≡ 1
  pub full : filled r c ≡ true
  pub other : is_attributes r ≡ false
  pub judged : PlainJudged update r c (Ok tt)

pub record PlainField (update : Bool) (stage : ℕ) (marks : List ℕ) (prev tag : ℕ) (c : List ℕ) (r : ℕ) : Type 0 where
  pub told : (r ≡ 20 → ⊥) → PlainFine update stage marks prev tag c r

-- the same of any field, a list of attributes among them, whose labels are stamped
pub record FieldFine (update : Bool) (stage : ℕ) (marks : List ℕ) (aall nall prev tag : ℕ) (c : List ℕ) (stamp fresh : ℕ) (before after : List ℕ) (r : ℕ) : Type 0 where
  pub kind : r ≡ kind_of tag
  pub few : r ≤ 19
  pub stands : placed update stage prev r ≡ true
  pub declared : get_or marks r 0 ≡ 1
  pub full : filled r c ≡ true
  pub judged : FieldJudged update aall nall r c (cond (eqb prev r) stamp fresh) before after (Ok tt)

pub record FieldTold (update : Bool) (stage : ℕ) (marks : List ℕ) (aall nall prev tag : ℕ) (c : List ℕ) (stamp fresh : ℕ) (before after : List ℕ) (r : ℕ) : Type 0 where
  pub told : (r ≡ 20 → ⊥) → FieldFine update stage marks aall nall prev tag c stamp fresh before after r
