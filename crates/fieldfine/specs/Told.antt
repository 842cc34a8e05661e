-- What is told of a field's content in one go, one way only: of "fine" alone. It serves the proofs, and nothing here need be believed. Assumes nothing.
use Rattle.std.specs.Prelude.{ℕ, ◌-◌, ◌%◌, Bool, true, ◌&&◌, List, ◌≡◌, length, take, leb, eqb, Ok}
use Rattle.entries.specs.Entries.{whole_good}
use Rattle.attributes.specs.Attributes.{attribute, pointer, ffpt_fault}
use Rattle.attributes.specs.Judged.{AttributesJudged}
use Rattle.layout.specs.Layout.{filled}
use Rattle.fieldvalue.specs.Judged.{PlainJudged}

-- the content of a field, its bytes d having the closing 1E
abbrev pub content_in : List ℕ → List ℕ
content_in d = take (length d - 1) d

-- the field c of attributes is whole and without fault
pub record AttributesTold (update high : Bool) (c : List ℕ) (stamp : ℕ) (before after : List ℕ) (r : Bool) : Type 0 where
  pub full : r ≡ true → whole_good attribute c ≡ true
  pub judged : r ≡ true → AttributesJudged update high c stamp before after (Ok tt)

-- the field c of FFPT is whole and without fault
pub record PointersTold (c : List ℕ) (r : Bool) : Type 0 where
  pub full : r ≡ true → whole_good pointer c ≡ true
  pub judged : r ≡ true → ffpt_fault c ≡ 0

-- n bytes are whole groups, one or more
unfoldable pub groups_good : ℕ → ℕ → Bool
groups_good fixed n = leb 1 n && eqb (n % fixed) 0

-- the content c of a field of kind k, no list of attributes, is filled and without fault
pub record PlainTold (update : Bool) (k : ℕ) (c : List ℕ) (r : Bool) : Type 0 where
  pub full : r ≡ true → filled k c ≡ true
  pub judged : r ≡ true → PlainJudged update k c (Ok tt)
