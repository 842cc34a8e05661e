-- What an update without a fault makes of a good chart is a good chart. Assumes nothing.
use Prim.Native.Nat.{ℕ, ◌+◌, ◌≤◌, ◌<◌}
use mathlib.Core.Bool.{true, false}
use mathlib.Core.List.{List}
use mathlib.Core.Logic.{⊎_elim}
use mathlib.Core.Option.{none, some}
use mathlib.Core.Path.{◌≡◌, refl, sym}
use native.Mathlib.Omega.{arith}
use lib.Dec.{ltb, eqb}
use borrow.Author.Tests.{ltb-true, ltb-false, eqb-true, eqb-false, eq-eqb, ne_eqb}
use Rattle.octets.proofs.Cases.{true_or_false}
use Rattle.items.specs.Item.{Item, item_name}
use Rattle.held.specs.Chart.{Chart}
use Rattle.held.specs.Good.{Good, Ordered, GoodChart}
use Rattle.held.specs.Good.Ordered.{ordered_none, ordered_more}
use Rattle.merge.specs.Updated.{Apart}
use Rattle.merge.specs.Updated.Apart.{apart_none, apart_more}
use Rattle.merge.specs.Update.{placed, without, changed, obeyed, result}
use Rattle.changes.specs.Change.{Amendment, Change}
use Rattle.changes.specs.Amend.{held_by, change_fault}
use Rattle.changes.specs.Updated.{updated_header, amended, by_amendment, updated}
use Rattle.changes.specs.Good.{GoodAmendment, AllGood, GoodChange}
use Rattle.changes.specs.Good.AllGood.{good_none, good_more}
use Rattle.changes.proofs.RevisedLaws.{updated_dsid}
use Rattle.changes.proofs.AmendLaws.{AllAllowed, Obeys, obeys_told, changes_told}
use Rattle.changes.proofs.AmendLaws.AllAllowed.{allowed_none, allowed_more}
use Rattle.changes.proofs.AmendLaws.Obeys.{obeys_insert, obeys_edit}
use Rattle.changes.proofs.FollowLaws.{follows_told}
use Rattle.changes.proofs.HeldLaws.{name_of, allowed_obeyed}
use Rattle.changes.proofs.ObjectLaws.{inserted_object, amended_object}

-- ---- held order, through an insert, a delete and a modify
module _ {aall nall : ℕ} where
  ordered_low : {m n : ℕ} {ts : List Item} → m ≤ n → Ordered aall nall n ts → Ordered aall nall m ts
  ordered_low less ordered_none = ordered_none
  ordered_low {m} less (ordered_more {t = t} le good more) = ordered_more {low = m} {t = t} (omega arith) good more

  pub ordered_placed : {low : ℕ} (new : Item) {ts : List Item} → low ≤ item_name new → Good aall nall new → held_by ts (item_name new) ≡ none
      → Ordered aall nall low ts → Ordered aall nall low (placed item_name new ts)
  unfolding placed held_by
  ordered_placed new le good free ordered_none = ordered_more le good ordered_none
  ordered_placed new le good free (ordered_more {t = t} {ts = ts} low here more) =
      ⊎_elim (λ (same : eqb (item_name t) (item_name new) ≡ true). let z : some t ≡ none = rw same at free in absurd (let y : ◌≡◌ {A = ℕ} 0 1 = cc in omega arith))
      (λ (ne : eqb (item_name t) (item_name new) ≡ false).
      ⊎_elim (λ (h : ltb (item_name t) (item_name new) ≡ true).
      let less = ltb-true (item_name t) (item_name new) h in
      rw h (ordered_more low here (ordered_placed new (omega arith) good (rw ne at free) more)))
      (λ (h : ltb (item_name t) (item_name new) ≡ false).
      let above = differ (item_name t) (item_name new) (eqb-false (item_name t) (item_name new) ne) (ltb-false (item_name t) (item_name new) h) in
      rw h (ordered_more le good (ordered_more above here more)))
      (true_or_false (ltb (item_name t) (item_name new)))) (true_or_false (eqb (item_name t) (item_name new)))
    where
      differ : (a b : ℕ) → (a ≡ b → ⊥) → b ≤ a → b + 1 ≤ a
      differ a b ne h = omega arith

  pub ordered_without : {low : ℕ} (n : ℕ) {ts : List Item} → Ordered aall nall low ts → Ordered aall nall low (without item_name n ts)
  unfolding without
  ordered_without n ordered_none = ordered_none
  ordered_without {low} n (ordered_more {t = t} {ts = ts} le here more) =
      ⊎_elim (λ (h : eqb (item_name t) n ≡ true). rw h (ordered_low {m = low} {n = item_name t + 1} (omega arith) (ordered_without n more)))
      (λ (h : eqb (item_name t) n ≡ false). rw h (ordered_more le here (ordered_without n more))) (true_or_false (eqb (item_name t) n))

  -- no name above n is n
  changed_above : {low : ℕ} (n : ℕ) (f : Item → Item) {ts : List Item} → n < low → Ordered aall nall low ts → changed item_name n f ts ≡ ts
  unfolding changed
  changed_above n f less ordered_none = refl
  changed_above n f less (ordered_more {t = t} {ts = ts} low here more) =
      rw (ne_eqb (item_name t) n (λ z. omega arith), changed_above n f (omega arith) more)

  pub ordered_changed : {low : ℕ} (a : Amendment) (n : ℕ) (held : Item) {ts : List Item} → held_by ts n ≡ some held
      → (Good aall nall held → item_name held ≡ n → Good aall nall (amended a held)) → Ordered aall nall low ts
      → Ordered aall nall low (changed item_name n (amended a) ts)
  unfolding changed held_by amended
  ordered_changed a n held found good ordered_none = ordered_none
  ordered_changed a n held found good (ordered_more {t = t} {ts = ts} low here more) =
      ⊎_elim (λ (h : eqb (item_name t) n ≡ true).
      let name = eqb-true (item_name t) n h in
      let is : some t ≡ some held = rw h at found in
      let same : t ≡ held = cc in
      let new : Good aall nall (amended a t) = rw same (good (rw same at here) (rw same at name)) in
      rw (h, changed_above n (amended a) (omega arith) more)
      (ordered_more {t = amended a t} low new more))
      (λ (h : eqb (item_name t) n ≡ false). rw h (ordered_more low here (ordered_changed a n held (rw h at found) good more)))
      (true_or_false (eqb (item_name t) n))

  -- ---- one record
  pub ordered_obeyed : (a : Amendment) {ts : List Item} → GoodAmendment aall nall a → Obeys ts a → Ordered aall nall 0 ts
      → Ordered aall nall 0 (obeyed by_amendment a ts)
  unfolding obeyed
  ordered_obeyed a {ts} good (obeys_insert i) all =
      rw (eq-eqb a.ruin 1 i.ruin) (ordered_placed a.object (omega arith) (inserted_object a good.body i.allowed) i.free all)
  ordered_obeyed a {ts} good (obeys_edit {t = t} i) all =
      ⊎_elim (λ (d : eqb a.ruin 2 ≡ true). rw (i.ruin, d) (ordered_without (name_of a) all))
      (λ (d : eqb a.ruin 2 ≡ false).
      rw (i.ruin, d) (ordered_changed a (name_of a) t i.found (λ here name. amended_object a here good.body (sym name) i.version) all))
      (true_or_false (eqb a.ruin 2))

  -- ---- all records
  pub ordered_result : {ts : List Item} {us : List Amendment} → AllGood aall nall us → Apart name_of us → AllAllowed ts us → Ordered aall nall 0 ts
      → Ordered aall nall 0 (result by_amendment ts us)
  unfolding result
  ordered_result good_none apart_none allowed_none all = all
  ordered_result {ts} (good_more {a = a} {more = us} good goods) (apart_more d rest) (allowed_more e allowed) all =
      ordered_result {ts = obeyed by_amendment a ts} goods rest (allowed_obeyed a d allowed) (ordered_obeyed a good (obeys_told ts a e) all)

-- ---- the chart
pub updated_good : {c : Chart} {u : Change} → GoodChart c → GoodChange u → (change_fault c u).code ≡ 0 → GoodChart (updated c u)
unfolding updated updated_header
updated_good {c} {u} g v fault =
    let h = updated_dsid c u g v.header in
    let p = changes_told c u fault in
    let f = follows_told c.header u p.0 in
    let goods : AllGood c.header.aall c.header.nall u.amendments = rw (f.attributes, f.national) at v.records in
    record {
      dsid_is_laid = h.laid;
      dsid_fine = h.fine;
      dsid_back = h.back;
      dspm_is_laid = g.dspm_is_laid;
      dspm_fine = g.dspm_fine;
      aall_low = g.aall_low;
      nall_low = g.nall_low;
      items = ordered_result goods v.names p.1 g.items;
    }
