-- What the code knows of a record that passed Layout and Value. It serves the proofs, and nothing here need be believed. Assumes nothing.
use Rattle.std.specs.Prelude.{ℕ, ◌+◌, ◌≤◌, ◌<◌, true, List, ◌⊎◌, ◌≡◌, length}
use Rattle.iso8211.specs.Field.{count_at, field_at, FieldsIn}
use Rattle.iso8211.specs.Premises.{HeadOf}
use Rattle.iso8211.specs.declared.field.Head.{Head}
use Rattle.table.specs.Table.{row_of, VRID, FRID, FOID}
use Rattle.layout.specs.Layout.{filled}
use Rattle.layout.specs.Record.{kind_at, content_at}
use Rattle.items.specs.Identity.{id_at, rcnm_at}

-- every name is below this: four ranks, each of as many RCIDs as four bytes can say
abbrev pub name_bound : ℕ
name_bound = 17179869184

-- a record that is laid out: its fields lie in the file and "follow without gaps", and each is filled by its subfields
pub record LaidOut (s : List ℕ) (at : ℕ) : Type 0 where
  pub inside : FieldsIn s at
  pub two : 2 ≤ count_at s at
  pub fills : (j : ℕ) → j < count_at s at → filled (kind_at s at j) (content_at s at j) ≡ true

-- such a record with its head, and a kind of field that is a list
pub record Listed (s : List ℕ) (at : ℕ) (h : Head) (k : ℕ) : Type 0 where
  pub laid : LaidOut s at
  pub head : HeadOf s at h
  pub list : (row_of k).list ≡ true

-- "Feature: 0001 FRID FOID ..": the twelve bytes of FRID are there, and behind it the eight of FOID
pub record Featured (s : List ℕ) (at : ℕ) : Type 0 where
  pub is : kind_at s at 1 ≡ FRID
  pub long : id_at s at + 12 ≤ length s
  pub third : 3 ≤ count_at s at
  pub object : kind_at s at 2 ≡ FOID
  pub whole : (field_at s at 2).start + 8 ≤ length s

-- "Vector: 0001 VRID ..": the eight bytes of VRID, or those of a feature, are there; "100 feature" is no vector's RCNM; and RCNM is one of
-- the four
pub record Identified (s : List ℕ) (at : ℕ) : Type 0 where
  pub is : (kind_at s at 1 ≡ VRID) ⊎ (kind_at s at 1 ≡ FRID)
  pub long : id_at s at + 8 ≤ length s
  pub feature : rcnm_at s at ≡ 100 → Featured s at
  pub class : (rcnm_at s at ≡ 110) ⊎ ((rcnm_at s at ≡ 120) ⊎ ((rcnm_at s at ≡ 130) ⊎ (rcnm_at s at ≡ 100)))
