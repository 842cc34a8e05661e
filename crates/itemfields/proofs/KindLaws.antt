-- The kinds of lists, as the held form orders them: each fact computed from the table. Assumes nothing.
use Prim.Native.Nat.{ℕ, ◌≤◌}
use mathlib.Core.Bool.{Bool, true, false, not, ◌&&◌, ◌||◌}
use mathlib.Core.List.{List, [], ◌∷◌}
use mathlib.Core.Path.{◌≡◌, refl}
use lib.Dec.{eqb, leb}
use borrow.Author.Tests.{eqb-true, leb-true, not-true}
use Rattle.octets.proofs.Tests.{both, all4, implied}
use Rattle.entries.specs.declared.Shape.{Shape}
use Rattle.table.specs.Table.{table, row_of, tag_of, kind_of, among, as_number, DSID, DSSI, DSPM, VRID, ATTV, VRPT, SG2D, SG3D, FRID, FOID, ATTF, NATF, FFPT, FSPT, first}
use Rattle.table.specs.Text.{bytes}
use Rattle.layout.specs.Layout.{follows, placed, may_end, shape_of}
use Rattle.attributes.specs.Attributes.{attribute, pointer}
use Rattle.fieldvalue.specs.Value.{is_attributes}

-- k is a kind of list
pub record ListKind (k : ℕ) : Type 0 where
  pub named : kind_of (tag_of k) ≡ k
  pub few : k ≤ first
  pub list : (row_of k).list ≡ true
  pub free : (row_of k).control ≡ false
  pub no_dsid : eqb k DSID ≡ false
  pub no_dssi : eqb k DSSI ≡ false
  pub no_dspm : eqb k DSPM ≡ false
  pub no_vrid : eqb k VRID ≡ false
  pub no_frid : eqb k FRID ≡ false
  pub attributes : is_attributes k ≡ true → shape_of k ≡ attribute
  pub pointers : eqb k FFPT ≡ true → shape_of k ≡ pointer

-- all of it in one test
unfoldable same_shape : Shape → Shape → Bool
same_shape a b = eqb a.fixed b.fixed && eqb a.unit b.unit

unfoldable is_list_kind : ℕ → Bool
is_list_kind k =
    (eqb (kind_of (tag_of k)) k && (leb k first && ((row_of k).list && not (row_of k).control)))
    && ((not (eqb k DSID) && (not (eqb k DSSI) && (not (eqb k DSPM) && (not (eqb k VRID) && not (eqb k FRID)))))
    && ((not (is_attributes k) || same_shape (shape_of k) attribute) && (not (eqb k FFPT) || same_shape (shape_of k) pointer)))

shape_told : (a b : Shape) → same_shape a b ≡ true → a ≡ b
unfolding same_shape
shape_told a b h = let p = both (eqb a.fixed b.fixed) (eqb a.unit b.unit) h in parts (eqb-true _ _ p.0) (eqb-true _ _ p.1)
  where
    parts : {f g u v : ℕ} → f ≡ g → u ≡ v → ◌≡◌ {A = Shape} (record { fixed = f; unit = u }) (record { fixed = g; unit = v })
    parts e d = rw (e, d)

list_kind : (k : ℕ) → is_list_kind k ≡ true → ListKind k
unfolding is_list_kind
list_kind k h =
    let p = both (eqb (kind_of (tag_of k)) k && (leb k first && ((row_of k).list && not (row_of k).control))) _ h in
    let row = all4 (eqb (kind_of (tag_of k)) k) (leb k first) (row_of k).list (not (row_of k).control) p.0 in
    let q = both (not (eqb k DSID) && (not (eqb k DSSI) && (not (eqb k DSPM) && (not (eqb k VRID) && not (eqb k FRID))))) _ p.1 in
    let head = all4 (not (eqb k DSID)) (not (eqb k DSSI)) (not (eqb k DSPM)) (not (eqb k VRID) && not (eqb k FRID)) q.0 in
    let item = both (not (eqb k VRID)) (not (eqb k FRID)) head.3 in
    let texts = both (not (is_attributes k) || same_shape (shape_of k) attribute) (not (eqb k FFPT) || same_shape (shape_of k) pointer) q.1 in
    record {
      named = eqb-true _ _ row.0;
      few = leb-true _ _ row.1;
      list = row.2;
      free = not-true _ row.3;
      no_dsid = not-true _ head.0;
      no_dssi = not-true _ head.1;
      no_dspm = not-true _ head.2;
      no_vrid = not-true _ item.0;
      no_frid = not-true _ item.1;
      attributes =
          λ a. shape_told _ _ (implied (is_attributes k) _ texts.0 a);
      pointers = λ a. shape_told _ _ (implied (eqb k FFPT) _ texts.1 a);
    }

pub attv : ListKind ATTV
unfolding is_list_kind same_shape kind_of among tag_of row_of table as_number bytes is_attributes
attv = list_kind ATTV refl

pub vrpt : ListKind VRPT
unfolding is_list_kind same_shape kind_of among tag_of row_of table as_number bytes is_attributes
vrpt = list_kind VRPT refl

pub sg2d : ListKind SG2D
unfolding is_list_kind same_shape kind_of among tag_of row_of table as_number bytes is_attributes
sg2d = list_kind SG2D refl

pub sg3d : ListKind SG3D
unfolding is_list_kind same_shape kind_of among tag_of row_of table as_number bytes is_attributes
sg3d = list_kind SG3D refl

pub attf : ListKind ATTF
unfolding is_list_kind same_shape kind_of among tag_of row_of table as_number bytes is_attributes
attf = list_kind ATTF refl

pub natf : ListKind NATF
unfolding is_list_kind same_shape kind_of among tag_of row_of table as_number bytes is_attributes
natf = list_kind NATF refl

pub ffpt : ListKind FFPT
unfolding is_list_kind same_shape kind_of among tag_of row_of table as_number bytes is_attributes
ffpt = list_kind FFPT refl

pub fspt : ListKind FSPT
unfolding is_list_kind same_shape kind_of among tag_of row_of table as_number bytes is_attributes
fspt = list_kind FSPT refl

-- a list of kind k may stand behind a field of kind prev, whatever record is due
pub record Behind (prev k : ℕ) : Type 0 where
  pub place : (update : Bool) (stage : ℕ) → placed update stage prev k ≡ true
  pub other : eqb prev k ≡ false

-- lists of these kinds may stand behind a field of kind prev, each behind each before it, and any of them may be left out
pub data Chain : ℕ → List ℕ → Type 0 where
  chain_none : {prev : ℕ} → may_end prev ≡ true → Chain prev []
  chain_more : {prev k : ℕ} {ks : List ℕ} → ListKind k → Behind prev k → Chain prev ks → Chain k ks → Chain prev (k ∷ ks)

-- of a vector, with pairs or with soundings; of a feature
pub pairs_chain : Chain VRID (ATTV ∷ VRPT ∷ SG2D ∷ [])
unfolding placed follows may_end row_of table
pairs_chain =
    chain_more attv (record { place = λ update stage. refl; other = refl })
    (chain_more vrpt (record { place = λ update stage. refl; other = refl })
    (chain_more sg2d (record { place = λ update stage. refl; other = refl }) (chain_none refl) (chain_none refl))
    (chain_more sg2d (record { place = λ update stage. refl; other = refl }) (chain_none refl) (chain_none refl)))
    (chain_more vrpt (record { place = λ update stage. refl; other = refl })
    (chain_more sg2d (record { place = λ update stage. refl; other = refl }) (chain_none refl) (chain_none refl))
    (chain_more sg2d (record { place = λ update stage. refl; other = refl }) (chain_none refl) (chain_none refl)))

pub soundings_chain : Chain VRID (ATTV ∷ VRPT ∷ SG3D ∷ [])
unfolding placed follows may_end row_of table
soundings_chain =
    chain_more attv (record { place = λ update stage. refl; other = refl })
    (chain_more vrpt (record { place = λ update stage. refl; other = refl })
    (chain_more sg3d (record { place = λ update stage. refl; other = refl }) (chain_none refl) (chain_none refl))
    (chain_more sg3d (record { place = λ update stage. refl; other = refl }) (chain_none refl) (chain_none refl)))
    (chain_more vrpt (record { place = λ update stage. refl; other = refl })
    (chain_more sg3d (record { place = λ update stage. refl; other = refl }) (chain_none refl) (chain_none refl))
    (chain_more sg3d (record { place = λ update stage. refl; other = refl }) (chain_none refl) (chain_none refl)))

pub feature_chain : Chain FOID (ATTF ∷ NATF ∷ FFPT ∷ FSPT ∷ [])
unfolding placed follows may_end row_of table
feature_chain =
    chain_more attf (record { place = λ update stage. refl; other = refl })
    (chain_more natf (record { place = λ update stage. refl; other = refl })
    (chain_more ffpt (record { place = λ update stage. refl; other = refl })
    (chain_more fspt (record { place = λ update stage. refl; other = refl }) (chain_none refl) (chain_none refl))
    (chain_more fspt (record { place = λ update stage. refl; other = refl }) (chain_none refl) (chain_none refl)))
    (chain_more ffpt (record { place = λ update stage. refl; other = refl })
    (chain_more fspt (record { place = λ update stage. refl; other = refl }) (chain_none refl) (chain_none refl))
    (chain_more fspt (record { place = λ update stage. refl; other = refl }) (chain_none refl) (chain_none refl))))
    (chain_more natf (record { place = λ update stage. refl; other = refl })
    (chain_more ffpt (record { place = λ update stage. refl; other = refl })
    (chain_more fspt (record { place = λ update stage. refl; other = refl }) (chain_none refl) (chain_none refl))
    (chain_more fspt (record { place = λ update stage. refl; other = refl }) (chain_none refl) (chain_none refl)))
    (chain_more ffpt (record { place = λ update stage. refl; other = refl })
    (chain_more fspt (record { place = λ update stage. refl; other = refl }) (chain_none refl) (chain_none refl))
    (chain_more fspt (record { place = λ update stage. refl; other = refl }) (chain_none refl) (chain_none refl))))
