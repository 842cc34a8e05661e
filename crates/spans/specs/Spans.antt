-- Where the bytes of a list lie. It serves the proofs, and nothing here need be believed. Assumes nothing.
use Rattle.std.specs.Prelude.{ℕ, ◌+◌, ◌-◌, ◌≤◌, Bool, true, cond, List, ◌++◌, ◌≡◌, length, take, drop, eqb}
use Rattle.iso8211.specs.Field.{count_at, field_at}
use Rattle.iso8211.specs.Premises.{HeadOf, Due}
use Rattle.iso8211.specs.declared.field.Head.{Head}
use Rattle.iso8211.specs.declared.field.Field.{Field}
use Rattle.table.specs.Table.{row_of, kind_of}
use Rattle.entries.specs.Entries.{entries_of}
use Rattle.items.specs.Lists.{join_from, list_at, entries_at}
use Rattle.items.specs.Identity.{id_at, rcnm_at}
use Rattle.items.specs.Premises.{LaidOut}
use Rattle.spans.specs.declared.Span.{Span}
use Rattle.spans.specs.declared.Front.{Front}
use Rattle.spans.specs.declared.Front.TheVariants.{Vector, Feature, Other}

-- the fields of this tag, and no others, are those of the list of kind k
pub record Tagged (k tag : ℕ) : Type 0 where
  pub list : (row_of k).list ≡ true
  pub is : kind_of tag ≡ k
  pub only : (t : ℕ) → kind_of t ≡ k → t ≡ tag

-- field j of a record that is laid out is due at `due`, and no field before it is one of a list
pub record Reached (s : List ℕ) (at : ℕ) (h : Head) (j due : ℕ) : Type 0 where
  pub laid : LaidOut s at
  pub head : HeadOf s at h
  pub below : j ≤ count_at s at
  pub next : Due s at j due
  pub fresh : (k : ℕ) → (row_of k).list ≡ true → list_at s at k ≡ join_from (count_at s at - j) s at k j

-- where the identifier field starts, and that the lists are still to come where field 2, or 3 of a feature, is due; of a feature FOID stands 13
-- bytes behind it
unfoldable pub FrontTold : List ℕ → ℕ → Head → Front → Type 0
FrontTold s at h (Vector id due) = (id ≡ id_at s at) × (rcnm_at s at ≡ 100 → ⊥) × Reached s at h 2 due
FrontTold s at h (Feature id due) = (id ≡ id_at s at) × (rcnm_at s at ≡ 100) × Reached s at h 3 due × (id + 13 ≡ (field_at s at 2).start)
FrontTold s at h Other = Unit {0}

abbrev pub span : ℕ → ℕ → Span
span from to = record { from = from; to = to }

-- the span of the list with this tag behind field f, sp being the one before it
unfoldable pub span_with : Span → Field → ℕ → Span
span_with sp f tag = cond (eqb f.tag tag) (cond (eqb sp.from sp.to) (span f.start (f.start + (f.length - 1))) (span 1 0)) sp

-- its bytes lie in the file, unless it stands for a list in several fields
pub record SpanIn (s : List ℕ) (sp : Span) : Type 0 where
  pub within : sp.from ≤ sp.to → sp.to ≤ length s

-- the list with this tag is the bytes of the span, and what comes from field j on
pub record SpanTo (s : List ℕ) (at tag j : ℕ) (sp : Span) : Type 0 where
  pub inside : SpanIn s sp
  pub is : (k : ℕ) → Tagged k tag → sp.from ≤ sp.to → list_at s at k ≡ take (sp.to - sp.from) (drop sp.from s) ++ join_from (count_at s at - j) s at k j

-- it is the bytes of the span
pub record SpanOf (s : List ℕ) (at tag : ℕ) (sp : Span) : Type 0 where
  pub inside : SpanIn s sp
  pub is : (k : ℕ) → Tagged k tag → sp.from ≤ sp.to → list_at s at k ≡ take (sp.to - sp.from) (drop sp.from s)

-- ---- one pair, the eight bytes from `from` on, is all that a vector's lists hold
pub record LonePair (s : List ℕ) (at from : ℕ) : Type 0 where
  pub room : from + 8 ≤ length s
  pub ends : SpanOf s at 1448235092 (span 0 0)
  pub pairs : SpanOf s at 1397174852 (span from (from + 8))
  pub soundings : SpanOf s at 1397175108 (span 0 0)

-- where r says yes, it is
pub record LoneTold (s : List ℕ) (at from : ℕ) (r : Bool) : Type 0 where
  pub is : r ≡ true → LonePair s at from

-- ---- entries of n bytes, without a text, in the bytes from i up to `to`
unfoldable pub rest_of : ℕ → List ℕ → ℕ → ℕ → List (List ℕ)
rest_of n s i to = entries_of (record { fixed = n; unit = 0 }) (take (to - i) (drop i s))

-- such entries, and no others, are those of the list of kind k
pub record Lies (s : List ℕ) (at k n from to : ℕ) : Type 0 where
  pub order : from ≤ to
  pub within : to ≤ length s
  pub are : entries_at s at k ≡ rest_of n s from to
