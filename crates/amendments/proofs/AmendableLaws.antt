-- Two readable files are as the codes of the update's records take them. Assumes nothing.
use Prim.Native.Nat.{ℕ, zero, suc, ◌+◌, ◌-◌, ◌/◌, ◌≤◌, ◌<◌}
use mathlib.Core.Bool.{Bool, true, false, cond}
use mathlib.Core.List.{List, [], ◌∷◌}
use mathlib.Core.Logic.{◌⊎◌, ⊎_elim}
use mathlib.Core.Path.{◌≡◌, refl, sym, ap, ◌∙◌}
use native.Mathlib.Omega.{arith}
use lib.ListN.{length, get_or}
use lib.Dec.{eqb}
use borrow.Author.Tests.{eqb-true}
use Rattle.std.specs.Prelude.{Ok}
use Rattle.octets.proofs.ListLaws.{member_at}
use Rattle.octets.specs.Number.{byte_at}
use Rattle.octets.proofs.Cases.{true_or_false, eq_or_ne}
use Rattle.iso8211.specs.Record.{end_of}
use Rattle.iso8211.specs.File.{frame_of, record_at}
use Rattle.iso8211.proofs.Promise.{record_in, at_next}
use Rattle.table.specs.Table.{table, row_of, ATTV, ATTF, NATF, VRPC, SGCC, FFPC, FSPC}
use Rattle.words.specs.Order.{sorted}
use Rattle.words.proofs.OrderLaws.{sorted_in_order}
use Rattle.attributes.specs.Attributes.{label_of}
use Rattle.fieldvalue.specs.Value.{is_attributes, is_high}
use Rattle.items.specs.Premises.{LaidOut, Identified}
use Rattle.items.specs.Lists.{list_at, entries_at}
use Rattle.items.specs.Identity.{rcnm_at, rcid_at, rank_of, name_from, name_at, word_for}
use Rattle.items.specs.Word.{name_of, word_offset}
use Rattle.items.specs.Item.{list_of, Item, item_at}
use Rattle.items.proofs.IdentityLaws.{name_rank, word_offset_lem}
use Rattle.items.proofs.ListsLaws.{list_short}
use Rattle.items.proofs.KindLaws.{attv_list, attf_list, natf_list}
use Rattle.names.specs.NameWords.{name_words}
use Rattle.names.specs.Premises.{Readable, Stands}
use Rattle.names.specs.Names.{first_item, items_from}
use Rattle.names.proofs.ReadableLaws.{place_small}
use Rattle.names.proofs.NamedLaws.{word_record}
use Rattle.names.proofs.HeldLaws.{all_stand, stand_name, rcid_small}
use Rattle.itemfields.specs.Views.{list_good}
use Rattle.held.specs.Good.{Good}
use Rattle.held.specs.Good.Good.{a_vector, a_feature}
use Rattle.held.proofs.OrderLaws.{Apart}
use Rattle.held.proofs.OrderLaws.Apart.{apart_more}
use Rattle.held.proofs.CellLaws.{CellTold}
use Rattle.edits.specs.OnePass.{apart}
use Rattle.edits.proofs.GoodLaws.{good_apart}
use Rattle.changes.specs.Good.{ObjectBrought}
use Rattle.changes.specs.Good.ObjectBrought.{brought_vector, brought_feature}
use Rattle.changes.specs.Told.{Controlled, UpdateTold}
use Rattle.amend.specs.Controls.{ControlSize}
use Rattle.amend.specs.Pairs.{Paired}
use Rattle.amendments.specs.Amendable.{AllAmendable}
use Rattle.layout.specs.General.{aall_at, nall_at}

-- ---- no label twice in a list of attributes
attributes_list : (k : ℕ) → is_attributes k ≡ true → (row_of k).list ≡ true
unfolding is_attributes
attributes_list k h =
    ⊎_elim (λ (a : eqb k ATTV ≡ true). rw (eqb-true k ATTV a) attv_list)
    (λ (a : eqb k ATTV ≡ false).
    ⊎_elim (λ (b : eqb k ATTF ≡ true). rw (eqb-true k ATTF b) attf_list)
    (λ (b : eqb k ATTF ≡ false). rw (eqb-true k NATF (rw (a, b) at h)) natf_list) (true_or_false (eqb k ATTF)))
    (true_or_false (eqb k ATTV))

labels_apart : (update : Bool) (aall nall : ℕ) (s : List ℕ) (at k : ℕ) → list_good update aall nall k (list_of s at k) ≡ true → is_attributes k ≡ true
    → apart label_of (entries_at s at k) ≡ true
unfolding list_good list_of
labels_apart update aall nall s at k good is = good_apart update (is_high aall nall k) [] (entries_at s at k) (rw (is, attributes_list k is) at good)

cell_apart : {aall nall : ℕ} (s : List ℕ) (at : ℕ) → Good aall nall (item_at s at) → (k : ℕ)
    → is_attributes k ≡ true → apart label_of (entries_at s at k) ≡ true
cell_apart {aall} {nall} s at (a_vector v) k is = labels_apart false aall nall s at k (v.lists.good k) is
cell_apart {aall} {nall} s at (a_feature f) k is = labels_apart false aall nall s at k (f.lists.good k) is

update_apart : {aall nall : ℕ} (s : List ℕ) (at : ℕ) → ObjectBrought aall nall (item_at s at) → (k : ℕ)
    → is_attributes k ≡ true → apart label_of (entries_at s at k) ≡ true
update_apart {aall} {nall} s at (brought_vector v) k is = labels_apart true aall nall s at k (v.lists.good k) is
update_apart {aall} {nall} s at (brought_feature f) k is = labels_apart true aall nall s at k (f.lists.good k) is

-- ---- each object of a cell is good
first_good : {aall nall : ℕ} {t : Item} {ts : List Item} → Apart aall nall (t ∷ ts) → Good aall nall t
first_good (apart_more good fresh rest) = good

rest_good : {aall nall : ℕ} {t : Item} {ts : List Item} → Apart aall nall (t ∷ ts) → Apart aall nall ts
rest_good (apart_more good fresh rest) = rest

pub object_good : (aall nall : ℕ) (s : List ℕ) (m k : ℕ) → Apart aall nall (items_from m s (record_at s k))
    → (j : ℕ) → k ≤ j → j < k + m → Good aall nall (item_at s (record_at s j))
unfolding items_from
object_good aall nall s zero k all j low high = absurd (omega arith)
object_good aall nall s (suc m) k all j low high =
    ⊎_elim (λ (here : k ≡ j). rw (← here) (first_good all))
    (λ (later : k ≡ j → ⊥).
    object_good aall nall s m (k + 1) (rw (at_next s k (record_at s k) refl) at (rest_good all)) j (omega arith) (omega arith))
    (eq_or_ne k j)

-- ---- two records of one name are of one class
unfoldable class_of : ℕ → ℕ
class_of rank = cond (eqb rank 0) 110 (cond (eqb rank 1) 120 (cond (eqb rank 2) 130 100))

class_back : (rcnm : ℕ) → (rcnm ≡ 110) ⊎ ((rcnm ≡ 120) ⊎ ((rcnm ≡ 130) ⊎ (rcnm ≡ 100))) → rcnm ≡ class_of (rank_of rcnm)
unfolding class_of rank_of
class_back rcnm class =
    ⊎_elim (λ (a : rcnm ≡ 110). rw a)
    (λ (o : (rcnm ≡ 120) ⊎ ((rcnm ≡ 130) ⊎ (rcnm ≡ 100))).
    ⊎_elim (λ (b : rcnm ≡ 120). rw b)
    (λ (p : (rcnm ≡ 130) ⊎ (rcnm ≡ 100)). ⊎_elim (λ (c : rcnm ≡ 130). rw c) (λ (d : rcnm ≡ 100). rw d) p) o) class

name_class : (a : List ℕ) (p : ℕ) (b : List ℕ) (q : ℕ) → Identified a p → Identified b q → ((i : ℕ) → byte_at a i < 256) → ((i : ℕ) → byte_at b i < 256)
    → name_at a p ≡ name_at b q → rcnm_at a p ≡ rcnm_at b q
unfolding name_at
name_class a p b q known_a known_b small_a small_b same =
    let ra : name_from (rcnm_at a p) (rcid_at a p) / 4294967296 ≡ rank_of (rcnm_at a p) = name_rank (rcnm_at a p) (rcid_at a p) (rcid_small a p small_a) in
    let rb : name_from (rcnm_at b q) (rcid_at b q) / 4294967296 ≡ rank_of (rcnm_at b q) = name_rank (rcnm_at b q) (rcid_at b q) (rcid_small b q small_b) in
    let rank : rank_of (rcnm_at a p) ≡ rank_of (rcnm_at b q) = sym ra ∙ ap (λ (x : ℕ). x / 4294967296) same ∙ rb in
    class_back (rcnm_at a p) known_a.class ∙ ap class_of rank ∙ sym (class_back (rcnm_at b q) known_b.class)

pub stand_named : {s : List ℕ} {w : ℕ} → Stands s w → name_of w ≡ name_at s (word_offset w)
unfolding name_at
stand_named stands = stand_name stands

-- ---- no list is longer than a record
list_few : (s : List ℕ) (n k at : ℕ) → frame_of s ≡ Ok n → k < n → at ≡ record_at s k → LaidOut s at → (q : ℕ) → length (list_at s at q) ≤ 99999
list_few s n k at framed less e laid q =
    let known = record_in s n k at framed less e in
    let low = known.framed.small in
    let again : LaidOut s at = record {
      inside = record {
        headed = known.framed.headed;
        end = end_of s at;
        fits = known.framed.fits;
        small = omega arith;
        fields = known.fields;
        front = known.front;
        gapless = known.gapless;
      };
      two = laid.two;
      fills = laid.fills;
    } in
    let short : at + length (list_at s at q) ≤ end_of s at = list_short s at q again in
    omega arith

-- ---- the controls
control_size : {s : List ℕ} {at : ℕ} → Controlled s at → (k : ℕ) → (row_of k).control ≡ true → ControlSize s at k
control_size known k control = record { is = known.five k control }

module _ {s : List ℕ} {at : ℕ} (known : Controlled s at) where
  vrpc_size : ControlSize s at VRPC
  unfolding row_of table
  vrpc_size = control_size known VRPC refl

  sgcc_size : ControlSize s at SGCC
  unfolding row_of table
  sgcc_size = control_size known SGCC refl

  ffpc_size : ControlSize s at FFPC
  unfolding row_of table
  ffpc_size = control_size known FFPC refl

  fspc_size : ControlSize s at FSPC
  unfolding row_of table
  fspc_size = control_size known FSPC refl

-- ---- the two files
module _ {cell : List ℕ} {n : ℕ} {update : List ℕ} {m : ℕ} (readable : Readable false cell n) (told : CellTold cell n) (small : (i : ℕ) → byte_at cell i < 256)
    (framed : frame_of update ≡ Ok m) (given : UpdateTold update m) (small_too : (i : ℕ) → byte_at update i < 256) where
  word_place_at : (w k : ℕ) → k < n → word_for cell (record_at cell k) ≡ w → word_offset w ≡ record_at cell k
  word_place_at w k less e = ap (λ (v : ℕ). word_offset v) (sym e) ∙ word_offset_lem cell (record_at cell k) (place_small readable k less)

  pub pair : (p : ℕ) → p < length (sorted (name_words false cell n)) → (k : ℕ) → 2 ≤ k → k < m
      → name_of (get_or (sorted (name_words false cell n)) p 0) ≡ name_at update (record_at update k)
      → Paired cell (word_offset (get_or (sorted (name_words false cell n)) p 0)) update (record_at update k)
  unfolding first_item
  pair p less k low high same =
      let ws = sorted (name_words false cell n) in
      let w = get_or ws p 0 in
      let by = record_at update k in
      let stands = (all_stand readable).each p less in
      let r = word_record false cell n w (member_at ws p less) in
      let place = word_place_at w r.0 r.2 r.3 in
      let new = given.records k low high in
      let aall = aall_at cell (record_at cell 1) in
      let nall = nall_at cell (record_at cell 1) in
      let below : r.0 < 3 + (n - 3) = let b = r.2 in let t = told.three in omega arith in
      let good : Good aall nall (item_at cell (word_offset w)) = rw place (object_good aall nall cell (n - 3) 3 told.apart r.0 r.1 below) in
      record {
        sides = record {
          old = stands.laid;
          new = new.laid;
          old_apart = cell_apart cell (word_offset w) good;
          new_apart = update_apart update by new.good.body;
          old_few = list_few cell n r.0 (word_offset w) readable.framed r.2 place stands.laid;
          new_few = list_few update m k by framed high refl new.laid;
        };
        known = stands.known;
        same = sym (name_class cell (word_offset w) update by stands.known new.known small small_too (sym (stand_named stands) ∙ same));
        vrpc = vrpc_size new.controls;
        sgcc = sgcc_size new.controls;
        ffpc = ffpc_size new.controls;
        fspc = fspc_size new.controls;
      }

  -- the words of the cell's items in held order
  pub all_amendable : (ws : List ℕ) → ws ≡ sorted (name_words false cell n) → AllAmendable cell ws update m
  all_amendable ws e = rw e (record {
    framed = framed;
    two = given.two;
    each = λ k low high. record {
      stand = all_stand readable;
      order = sorted_in_order (name_words false cell n);
      laid = (given.records k low high).laid;
      known = (given.records k low high).known;
      each = λ p less same. pair p less k low high same;
    };
  })
