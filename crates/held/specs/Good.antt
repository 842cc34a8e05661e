-- What is known of the chart of a readable cell: enough that its held form is read back. It serves the proofs, and nothing here need be believed.
-- Assumes nothing.
use Rattle.std.specs.Prelude.{ℕ, ◌+◌, ◌≤◌, true, false, List, [], ◌∷◌, ◌≡◌}
use Rattle.dataset.specs.Dsid.{dsid_laid, dsid_fault}
use Rattle.headvalues.specs.Dspm.{dspm_laid, dspm_fault}
use Rattle.items.specs.Item.{Item, item_name}
use Rattle.itemfields.specs.Good.{Vector, Feature}
use Rattle.header.specs.Dsid.{dsid_of, dsid_bytes}
use Rattle.held.specs.Chart.{Chart}

pub data Good (aall nall : ℕ) (t : Item) : Type 0 where
  a_vector : Vector false aall nall t → Good aall nall t
  a_feature : Feature false aall nall t → Good aall nall t

-- "vectors by class 110, 120, 130, then features, RCID ascending": each good, and named from `low` on
pub data Ordered (aall nall : ℕ) : ℕ → List Item → Type 0 where
  ordered_none : {low : ℕ} → Ordered aall nall low []
  ordered_more : {low : ℕ} {t : Item} {ts : List Item} → low ≤ item_name t → Good aall nall t → Ordered aall nall (item_name t + 1) ts → Ordered aall nall low (t ∷ ts)

pub record GoodChart (c : Chart) : Type 0 where
  pub dsid_is_laid : dsid_laid (dsid_bytes c.header.dsid) ≡ true
  pub dsid_fine : dsid_fault false (dsid_bytes c.header.dsid) ≡ 0
  pub dsid_back : dsid_of (dsid_bytes c.header.dsid) ≡ c.header.dsid
  pub dspm_is_laid : dspm_laid c.header.dspm ≡ true
  pub dspm_fine : dspm_fault c.header.dspm ≡ 0
  pub aall_low : c.header.aall ≤ 1
  pub nall_low : c.header.nall ≤ 1
  pub items : Ordered c.header.aall c.header.nall 0 c.items
