-- What is known of the change of a readable update. This serves the proofs, and nothing here need be believed. Assumes nothing.
use Rattle.std.specs.Prelude.{ℕ, ◌≤◌, true, List, [], ◌∷◌, ◌⊎◌, ◌≡◌, length}
use Rattle.dates.specs.Date.{date_good}
use Rattle.items.specs.Item.{Item, item_name}
use Rattle.itemfields.specs.Good.{Vector, Feature}
use Rattle.header.specs.Dsid.{Dsid}
use Rattle.merge.specs.Updated.{Apart}
use Rattle.changes.specs.Change.{Amendment, Change}

-- ---- the object of a record: as in a cell, but that its lists may hold 7F
pub data ObjectBrought (aall nall : ℕ) (t : Item) : Type 0 where
  brought_vector : Vector true aall nall t → ObjectBrought aall nall t
  brought_feature : Feature true aall nall t → ObjectBrought aall nall t

-- "RUIN 1 insert, 2 delete, 3 modify in updates"
pub record GoodAmendment (aall nall : ℕ) (a : Amendment) : Type 0 where
  pub known : (a.ruin ≡ 1) ⊎ ((a.ruin ≡ 2) ⊎ (a.ruin ≡ 3))
  pub body : ObjectBrought aall nall a.object

pub data AllGood (aall nall : ℕ) : List Amendment → Type 0 where
  good_none : AllGood aall nall []
  good_more : {a : Amendment} {more : List Amendment} → GoodAmendment aall nall a → AllGood aall nall more → AllGood aall nall (a ∷ more)

-- ---- its DSID: UPDN from 1 to 999, ISDT a date
pub record DsidBrought (d : Dsid) : Type 0 where
  pub number_low : 1 ≤ d.number
  pub number_high : d.number ≤ 999
  pub long : length d.issued ≡ 8
  pub date : date_good d.issued 0 ≡ true

pub record GoodChange (u : Change) : Type 0 where
  pub header : DsidBrought u.dsid
  pub aall_low : u.aall ≤ 1
  pub nall_low : u.nall ≤ 1
  pub records : AllGood u.aall u.nall u.amendments
  pub names : Apart (λ (a : Amendment). item_name a.object) u.amendments
