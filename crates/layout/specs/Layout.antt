-- The layout of a record: which fields stand in it, in which order, each filled by its subfields. Assumes nothing.
use Rattle.std.specs.Prelude.{ℕ, zero, suc, ◌+◌, ◌-◌, Bool, not, cond, ◌&&◌, ◌||◌, List, length, take, drop, get_or, eqb, ltb}
use Rattle.iso8211.specs.Record.{end_of}
use Rattle.iso8211.specs.Field.{count_at, field_at}
use Rattle.iso8211.specs.declared.field.Field.{Field}
use Rattle.entries.specs.Entries.{whole_good}
use Rattle.entries.specs.declared.Shape.{Shape}
use Rattle.dataset.specs.Dsid.{dsid_laid}
use Rattle.headvalues.specs.Dspm.{dspm_laid}
use Rattle.table.specs.Table.{row_of, kind_of, first, DSID, DSPM, FRID, FOID, kind_count}

-- no field yet: where a record begins
abbrev pub start : ℕ
start = kind_count

-- "Cell: 0; then 0001 DSID DSSI; then 0001 DSPM; then vectors; then features": which kind of record is due, 0 that of DSID, 1 that of
-- DSPM, 2 a vector or a feature, 3 a feature; and whether a field of kind k opens such a record behind its 0001
unfoldable pub opens : ℕ → ℕ → Bool
opens stage k = eqb (row_of k).order 1 && (eqb (row_of k).group stage || (eqb stage 2 && eqb (row_of k).group 3))

-- "Vector: 0001 VRID ATTV* VRPT* and SG2D* or SG3D*. Feature: 0001 FRID FOID ATTF* NATF* FFPT* FSPT*. Repeats of a tag join into one
-- list. In updates VRPC, SGCC, FFPC, FSPC may stand once each before the place of their lists": whether a field of kind k may stand
-- behind one of kind prev
unfoldable pub follows : Bool → ℕ → ℕ → Bool
follows update prev k =
    eqb (row_of prev).group (row_of k).group
    && ((ltb (row_of prev).order (row_of k).order || (eqb prev k && (row_of k).list))
    && ((not (eqb prev FRID) || eqb k FOID) && (not (row_of k).control || update)))

unfoldable pub placed : Bool → ℕ → ℕ → ℕ → Bool
placed update stage prev k = cond (eqb prev start) (eqb k first) (cond (eqb prev first) (opens stage k) (follows update prev k))

-- "0001 DSID DSSI", "Feature: 0001 FRID FOID": a record does not end behind 0001, DSID or FRID, else "a .. field missing"
unfoldable pub may_end : ℕ → Bool
may_end prev = not (eqb prev first || (eqb prev DSID || eqb prev FRID))

-- the bytes of a field without its closing 1E
abbrev pub content_of : List ℕ → Field → List ℕ
content_of s f = take (f.length - 1) (drop f.start s)

-- the shape of the entries of a list of kind k
abbrev pub shape_of : ℕ → Shape
shape_of k = record { fixed = (row_of k).fixed; unit = cond (row_of k).text 1 0 }

-- "not filled by its subfields": a list field holds whole groups, one or more; any other its subfields once
unfoldable pub filled : ℕ → List ℕ → Bool
filled k c =
    cond (eqb k DSID) (dsid_laid c)
    (cond (eqb k DSPM) (dspm_laid c) (cond (row_of k).list (whole_good (shape_of k) c) (eqb (length c) (row_of k).fixed)))

-- "a field wrongly placed, undeclared or not filled by its subfields": a field behind one of kind prev, the marks those of record 0
unfoldable pub field_laid : Bool → ℕ → List ℕ → List ℕ → ℕ → Field → Bool
field_laid update stage marks s prev f =
    placed update stage prev (kind_of f.tag) && (eqb (get_or marks (kind_of f.tag) 0) 1 && filled (kind_of f.tag) (content_of s f))

-- n fields of the record at `at` from field j on, the one before of kind prev: 0 where they are laid out well, else where the first wrong
-- field starts, or the record's end where a field is missing
unfoldable pub laid_from : ℕ → Bool → ℕ → List ℕ → List ℕ → ℕ → ℕ → ℕ → ℕ
laid_from zero update stage marks s at j prev = cond (may_end prev) 0 (end_of s at)
laid_from (suc n) update stage marks s at j prev =
    cond (field_laid update stage marks s prev (field_at s at j))
    (laid_from n update stage marks s at (j + 1) (kind_of (field_at s at j).tag))
    (field_at s at j).start

unfoldable pub layout_fault : Bool → ℕ → List ℕ → List ℕ → ℕ → ℕ
layout_fault update stage marks s at = laid_from (count_at s at) update stage marks s at 0 start
