-- The values of a record, field by field. Assumes nothing.
use Rattle.std.specs.Prelude.{ℕ, zero, suc, ◌+◌, ◌-◌, Bool, cond, ◌&&◌, ◌||◌, List, [], eqb}
use Rattle.iso8211.specs.Field.{count_at, field_at}
use Rattle.table.specs.Table.{kind_of, DSID, DSSI, DSPM, VRID, ATTV, FRID, ATTF, NATF, FFPT}
use Rattle.layout.specs.Layout.{content_of, start}
use Rattle.dataset.specs.Dsid.{dsid_fault}
use Rattle.headvalues.specs.Dssi.{dssi_fault}
use Rattle.headvalues.specs.Dspm.{dspm_fault}
use Rattle.values.specs.Vrid.{vrid_fault}
use Rattle.values.specs.Frid.{frid_fault}
use Rattle.attributes.specs.Attributes.{attributes_fault, met_after, ffpt_fault}

-- a list of attributes
unfoldable pub is_attributes : ℕ → Bool
is_attributes k = eqb k ATTV || (eqb k ATTF || eqb k NATF)

-- "at level 1 in ATTF or NATF also A0-FF": whether the high bytes are text in a list of kind k, at these two levels
unfoldable pub is_high : ℕ → ℕ → ℕ → Bool
is_high aall nall k = (eqb k ATTF && eqb aall 1) || (eqb k NATF && eqb nall 1)

-- the fault of a field of kind k, by its content: 0, or 1 and the place of the first wrong subfield; `seen` are the labels that its list
-- has met in the fields before. "Other subfields are free": those of 0001, FOID, VRPT, SG2D, SG3D, FSPT and of the four controls
unfoldable pub field_fault : Bool → ℕ → ℕ → ℕ → List ℕ → List ℕ → ℕ
field_fault update aall nall k seen c =
    cond (eqb k DSID) (dsid_fault update c)
    (cond (eqb k DSSI) (dssi_fault update c)
    (cond (eqb k DSPM) (dspm_fault c)
    (cond (eqb k VRID) (vrid_fault update c)
    (cond (eqb k FRID) (frid_fault update c)
    (cond (is_attributes k) (attributes_fault update (is_high aall nall k) seen c) (cond (eqb k FFPT) (ffpt_fault c) 0))))))

-- "Repeats of a tag join into one list": a list goes on where the field before is of its kind
unfoldable pub seen_before : ℕ → ℕ → List ℕ → List ℕ
seen_before prev k seen = cond (eqb prev k) seen []

unfoldable pub seen_after : ℕ → List ℕ → List ℕ → List ℕ
seen_after k seen c = cond (is_attributes k) (met_after seen c) seen

-- n fields of the record at `at` from field j on, the one before of kind prev: 0 where their values are good, else where the first wrong
-- subfield starts in the file
unfoldable pub values_from : ℕ → Bool → ℕ → ℕ → List ℕ → ℕ → ℕ → ℕ → List ℕ → ℕ
values_from zero update aall nall s at j prev seen = 0
values_from (suc n) update aall nall s at j prev seen =
    cond (eqb (field_fault update aall nall (kind_of (field_at s at j).tag) (seen_before prev (kind_of (field_at s at j).tag) seen) (content_of s (field_at s at j))) 0)
    (values_from n update aall nall s at (j + 1) (kind_of (field_at s at j).tag)
    (seen_after (kind_of (field_at s at j).tag) (seen_before prev (kind_of (field_at s at j).tag) seen) (content_of s (field_at s at j))))
    ((field_at s at j).start
    + (field_fault update aall nall (kind_of (field_at s at j).tag) (seen_before prev (kind_of (field_at s at j).tag) seen) (content_of s (field_at s at j)) - 1))

unfoldable pub value_fault : Bool → ℕ → ℕ → List ℕ → ℕ → ℕ
value_fault update aall nall s at = values_from (count_at s at) update aall nall s at 0 start []
