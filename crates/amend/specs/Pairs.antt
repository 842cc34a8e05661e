-- A record of the cell and the modify that names it: what the edit of all lists takes. Nothing here need be believed. Assumes nothing.
use Rattle.std.specs.Prelude.{ℕ, ◌<◌, true, List, ◌≡◌, length, get_or, Option, IfSome}
use Rattle.table.specs.Table.{row_of, VRPC, SGCC, FFPC, FSPC}
use Rattle.items.specs.Premises.{Identified}
use Rattle.items.specs.Identity.{rcnm_at}
use Rattle.splice.specs.declared.control.Control.{Control}
use Rattle.splice.specs.Given.{option_of, Given}
use Rattle.changes.specs.Change.{amendment_at}
use Rattle.changes.specs.Amend.{kinds_of}
use Rattle.amend.specs.declared.control.Controls.{Controls}
use Rattle.amend.specs.declared.plan.Plan.{Plan}
use Rattle.amend.specs.Controls.{ControlSize, coordinates_by}
use Rattle.amend.specs.Sides.{Sides}

-- two records of one class, whose controls have five bytes
pub record Paired (cell : List ℕ) (at : ℕ) (update : List ℕ) (by : ℕ) : Type 0 where
  pub sides : Sides cell at update by
  pub known : Identified cell at
  pub same : rcnm_at update by ≡ rcnm_at cell at
  pub vrpc : ControlSize update by VRPC
  pub sgcc : ControlSize update by SGCC
  pub ffpc : ControlSize update by FFPC
  pub fspc : ControlSize update by FSPC

-- the controls as they were read
pub record BothRead (update : List ℕ) (by : ℕ) (c : Controls) : Type 0 where
  pub first_is : option_of c.first ≡ (amendment_at update by).first
  pub second_is : option_of c.second ≡ (amendment_at update by).second
  pub first_small : IfSome c.first Given
  pub second_small : IfSome c.second Given

-- with the list that SGCC means
pub record Controlled (cell : List ℕ) (at : ℕ) (update : List ℕ) (by : ℕ) (first second : Option Control) (coordinates : ℕ) : Type 0 where
  pub first_is : option_of first ≡ (amendment_at update by).first
  pub second_is : option_of second ≡ (amendment_at update by).second
  pub first_small : IfSome first Given
  pub second_small : IfSome second Given
  pub means : coordinates ≡ coordinates_by cell at update by

-- four kinds, each of them a list
pub record FourLists (kinds : List ℕ) : Type 0 where
  pub four : length kinds ≡ 4
  pub each : (i : ℕ) → i < 4 → (row_of (get_or kinds i 0)).list ≡ true

-- what is to be edited and by which controls
pub record PlanFor (cell : List ℕ) (at : ℕ) (update : List ℕ) (by : ℕ) (p : Plan) : Type 0 where
  pub kinds_are : p.kinds ≡ kinds_of (rcnm_at cell at)
  pub lists : FourLists p.kinds
  pub controlled : Controlled cell at update by p.first p.second p.coordinates
