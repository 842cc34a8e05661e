-- A change as a value: what a readable update means. Assumes nothing.
use Rattle.std.specs.Prelude.{ℕ, zero, suc, ◌-◌, cond, List, [], ◌∷◌}
use Rattle.std.proofs.Math.Option.{Option, none, some}
use Rattle.octets.specs.Number.{num_at}
use Rattle.iso8211.specs.Record.{end_of}
use Rattle.iso8211.specs.File.{record_at}
use Rattle.table.specs.Table.{VRPC, SGCC, FFPC, FSPC}
use Rattle.layout.specs.Record.{content_at}
use Rattle.items.specs.Lists.{list_at}
use Rattle.items.specs.Identity.{rcnm_at, ruin_at}
use Rattle.items.specs.Item.{is_feature, Item, item_at}
use Rattle.header.specs.Dsid.{Dsid, dsid_of}
use Rattle.edits.specs.Control.{Control}
use Rattle.edits.specs.Lists.{Edit}
use Rattle.layout.specs.General.{aall_at, nall_at}

-- ---- one record of an update
-- "VRPC, SGCC, FFPC, FSPC: b11,2b12: VPUI VPIX NVPT; .."; no bytes: the control doesn't stand
unfoldable pub control_from : List ℕ → Option Control
control_from [] = none
control_from (b ∷ bs) = some (record { instruction = b; index = num_at (b ∷ bs) 1 2; count = num_at (b ∷ bs) 3 2 })

-- "may stand once each": the control of kind k of the record at `at`
unfoldable pub control_at : List ℕ → ℕ → ℕ → Option Control
control_at s at k = control_from (list_at s at k)

-- "RUIN 1 insert, 2 delete, 3 modify"; what the record says of its object; the control of VRPT or FFPT, and that of the coordinates or FSPT
pub record Amendment : Type 0 where
  pub ruin : ℕ
  pub object : Item
  pub first : Option Control
  pub second : Option Control

abbrev pub amendment_at : List ℕ → ℕ → Amendment
amendment_at s at = record {
  ruin = ruin_at s at;
  object = item_at s at;
  first = control_at s at (cond (is_feature (rcnm_at s at)) FFPC VRPC);
  second = control_at s at (cond (is_feature (rcnm_at s at)) FSPC SGCC);
}

-- what it brings to the lists of an object
abbrev pub edit_of : Amendment → Edit
edit_of a = record { first = a.first; second = a.second; lists = a.object.lists }

-- ---- the update whole: what its DSID and the levels of its DSSI say, and its records in the file's order
pub record Change : Type 0 where
  pub dsid : Dsid
  pub aall : ℕ
  pub nall : ℕ
  pub amendments : List Amendment

-- n records from the one at `at` on
unfoldable pub amendments_from : ℕ → List ℕ → ℕ → List Amendment
amendments_from zero s at = []
amendments_from (suc n) s at = amendment_at s at ∷ amendments_from n s (end_of s at)

-- what a readable update of m records means: record 0, that of DSID and DSSI, then vectors and features; "An update has no DSPM"
unfoldable pub change_of : List ℕ → ℕ → Change
change_of s m = record {
  dsid = dsid_of (content_at s (record_at s 1) 1);
  aall = aall_at s (record_at s 1);
  nall = nall_at s (record_at s 1);
  amendments = amendments_from (m - 2) s (record_at s 2);
}
