-- Where the walk over a record's fields stands, and what is told of its first rows. It serves the proofs, and nothing here need be believed. Assumes nothing.
use Rattle.std.specs.Prelude.{ℕ, ◌+◌, ◌-◌, ◌*◌, ◌≤◌, ◌<◌, Bool, true, false, List, ◌≡◌, length, take, drop, get_or}
use Rattle.octets.specs.Digits.{number_at}
use Rattle.iso8211.specs.Leader.{size_at, base_at}
use Rattle.iso8211.specs.Directory.{tag_at}
use Rattle.iso8211.specs.Record.{record_good, in_row}
use Rattle.iso8211.specs.Field.{count_at, directory_at}
use Rattle.layout.specs.Layout.{laid_from, layout_fault}
use Rattle.fieldvalue.specs.Value.{values_from, value_fault}
use Rattle.attributes.specs.Premises.{Stamped, Upto}
use Rattle.fieldfine.specs.Told.{content_in}
use Rattle.fieldfine.specs.Place.{PlainField}
use Rattle.recordfine.specs.Premises.{RowGood}
use Rattle.recordfine.specs.declared.open.Open.{Open}
use Rattle.recordfine.specs.declared.front.Next.{Next}

-- ---- the values of the fields, with the place of a list's first row as its stamp: where the row at i is next
pub record Now (update : Bool) (aall nall : ℕ) (s : List ℕ) (at : ℕ) (t : List ℕ) (j i prev stamp : ℕ) : Type 0 where
  pub seen : List ℕ
  pub stamped : prev ≤ 19 → Stamped t stamp seen
  pub upto : Upto t stamp
  pub below : stamp < i
  pub answer : value_fault update aall nall s at ≡ values_from (count_at s at - j) update aall nall s at j prev seen

pub record Valued (update : Bool) (aall nall : ℕ) (s : List ℕ) (at : ℕ) (before t : List ℕ) (j i prev stamp : ℕ) : Type 0 where
  pub here : Upto before at → Now update aall nall s at t j i prev stamp

-- ---- where the row at i is next: of field j
pub record Passed (update : Bool) (stage : ℕ) (marks : List ℕ) (aall nall : ℕ) (s : List ℕ) (at w : ℕ) (before t : List ℕ) (i prev stamp due : ℕ) : Type 0 where
  pub j : ℕ
  pub few : j ≤ count_at s at
  pub here : i ≡ at + 24 + j * w
  pub framing : record_good false s at ≡ in_row s (at + base_at s at) (size_at s at - base_at s at) (drop j (directory_at s at)) due
  pub laid : layout_fault update stage marks s at ≡ laid_from (count_at s at - j) update stage marks s at j prev
  pub valued : Valued update aall nall s at before t j i prev stamp

-- ---- the front
-- a row at i of the leader h lies in the file, and so does the record
pub record RowIn (s : List ℕ) (i : ℕ) (h : Open) : Type 0 where
  pub row : i + (4 + h.lengths + h.positions) ≤ length s
  pub room : h.body ≤ h.end
  pub fits : h.end ≤ length s
  pub slim : (h.lengths ≤ 9) × (h.positions ≤ 9)

-- where r says yes, v stands in the n digits from i on
pub record SaysTold (s : List ℕ) (i n v : ℕ) (r : Bool) : Type 0 where
  pub told : r ≡ true → number_at s i n ≡ v

-- where r says yes, the row at i is that of a field of this tag and length, framed well
pub record RowIs (s : List ℕ) (i : ℕ) (h : Open) (tag due long : ℕ) (r : Bool) : Type 0 where
  pub tagged : r ≡ true → tag ≡ tag_at s i
  pub row : r ≡ true → RowGood s i h.lengths h.positions h.body (h.end - h.body) due long

-- the same, and kind k is declared
pub record MarkedTold (marks s : List ℕ) (i : ℕ) (h : Open) (tag due long k : ℕ) (r : Bool) : Type 0 where
  pub is : RowIs s i h tag due long r
  pub declared : r ≡ true → get_or marks k 0 ≡ 1

-- where r says yes, the row at i is such a one, and the field is fine and of kind k
pub record FrontTold (update : Bool) (stage : ℕ) (marks s : List ℕ) (i : ℕ) (h : Open) (prev tag due long k : ℕ) (r : Bool) : Type 0 where
  pub is : RowIs s i h tag due long r
  pub fine : r ≡ true → PlainField update stage marks prev tag (content_in (take (h.body + due + long - (h.body + due)) (drop (h.body + due) s))) k

-- the walk over the record at `at` stands at n, and no table was touched
pub record Behind (update : Bool) (stage : ℕ) (marks s : List ℕ) (at : ℕ) (h : Open) (n : Next) : Type 0 where
  pub passed : (aall nall : ℕ) (t : List ℕ) → Passed update stage marks aall nall s at (4 + h.lengths + h.positions) t t n.row n.prev n.stamp n.due
  pub within : n.due ≤ h.end - h.body

-- where it stands behind a first field of three bytes
abbrev pub past_first : ℕ → Open → Next
past_first at h = record { row = at + 24 + (4 + h.lengths + h.positions); prev = 18; stamp = at + 24; due = 3 }

-- and behind a VRID of nine
abbrev pub past_vrid : ℕ → Open → Next
past_vrid at h =
    record { row = at + 24 + (4 + h.lengths + h.positions) + (4 + h.lengths + h.positions); prev = 3; stamp = at + 24 + (4 + h.lengths + h.positions); due = 12 }
