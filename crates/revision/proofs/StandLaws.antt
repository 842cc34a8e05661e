-- The records behind an item of the result stand as the code wants them: one that is kept or inserted can be copied, and one that is
-- modified can be edited. Assumes nothing.
use Prim.Native.Nat.{ℕ, ◌+◌, ◌-◌, ◌≤◌, ◌<◌}
use mathlib.Core.Bool.{Bool, true, false, cond}
use mathlib.Core.List.{List}
use mathlib.Core.Logic.{⊎_elim}
use mathlib.Core.Option.{some}
use mathlib.Core.Path.{◌≡◌, refl, sym, ap, ◌∙◌}
use native.Mathlib.Omega.{arith}
use lib.ListN.{get_or}
use lib.Dec.{eqb}
use borrow.Author.Tests.{eqb-true, ne_eqb}
use Rattle.std.specs.Prelude.{Some}
use Rattle.octets.proofs.Cases.{true_or_false}
use Rattle.iso8211.specs.File.{record_at}
use Rattle.iso8211.proofs.Promise.{record_in}
use Rattle.words.specs.Order.{sorted}
use Rattle.items.specs.Identity.{name_at, rcnm_at, ruin_at, version_at}
use Rattle.items.specs.Word.{name_of}
use Rattle.names.specs.NameWords.{name_words, items_at}
use Rattle.lookups.specs.LookupWords.{lookup}
use Rattle.names.specs.Names.{first_item}
use Rattle.names.proofs.HeldLaws.{all_stand}
use Rattle.names.proofs.OnceLaws.{once_rising}
use Rattle.items.specs.Item.{Item, item_at}
use Rattle.held.specs.Chart.{header_of}
use Rattle.held.specs.Good.{Good}
use Rattle.edits.specs.Lists.{lists_allowed}
use Rattle.itemrows.specs.Plain.{Writable}
use Rattle.writing.proofs.WritableLaws.{cell_writable, insert_writable}
use Rattle.merge.specs.Files.{RecordOf}
use Rattle.changes.specs.Change.{Amendment, amendment_at, edit_of, change_of}
use Rattle.changes.specs.Amend.{kinds_of, identity_same, edit_allowed, modify_code, found_code, amendment_code, amendments_fault}
use Rattle.changes.specs.Updated.{amended}
use Rattle.changes.specs.Good.{ObjectBrought}
use Rattle.changes.specs.Good.ObjectBrought.{brought_vector, brought_feature}
use Rattle.changes.proofs.FollowLaws.{follows_told}
use Rattle.changes.proofs.ObjectLaws.{amended_object}
use Rattle.amend.specs.Pairs.{Paired}
use Rattle.raising.specs.Record.{Editable}
use Rattle.rebuild.proofs.SumLaws.{record_sums, kinds_apart}
use Rattle.amendments.specs.Amendable.{Amendable}
use Rattle.amendments.proofs.AmendableLaws.{pair, object_good, stand_named, all_amendable}
use Rattle.amendments.proofs.LookupLaws.{code_some}
use Rattle.revision.specs.Following.{Following, Small}
use Rattle.revision.proofs.FollowingLaws.{cell_read, update_read, cell_readable, update_readable, cell_once, cell_known, update_known, codes_none, lookup_at}
use Rattle.layout.specs.General.{aall_at, nall_at}

-- ---- out of a code 0 of a record that modifies
identity_none : (z : Bool) (e : Bool) → ◌≡◌ {A = ℕ} (cond z (cond e 0 16) 15) 0 → e ≡ true
identity_none true true h = refl
identity_none true false h = absurd (omega arith)
identity_none false e h = absurd (omega arith)

version_none : (v w : ℕ) (rest : ℕ) → cond (eqb v w) rest 14 ≡ 0 → (v ≡ w) × (rest ≡ 0)
version_none v w rest h =
    ⊎_elim (λ (e : eqb v w ≡ true). (eqb-true v w e, rw e at h)) (λ (e : eqb v w ≡ false). absurd (let z : ◌≡◌ {A = ℕ} 14 0 = rw e at h in omega arith)) (true_or_false (eqb v w))

target_none : (z : Bool) (rest : ℕ) → cond z 13 rest ≡ 0 → rest ≡ 0
target_none true rest h = absurd (omega arith)
target_none false rest h = h

modify_parts : (a : Amendment) (t : Item) → found_code a (some t) ≡ 0 → (a.object.version ≡ t.version + 1) × (edit_allowed a t ≡ true)
unfolding found_code modify_code
modify_parts a t h =
    let v = version_none a.object.version (t.version + 1) _ (target_none (eqb a.ruin 1) _ h) in
    (v.0, identity_none (identity_same a.object t) (edit_allowed a t) v.1)

lists_parts : (a : Amendment) (t : Item) → (a.ruin ≡ 2 → ⊥) → edit_allowed a t ≡ true → lists_allowed (kinds_of t.rcnm) (edit_of a) t.lists ≡ true
unfolding edit_allowed
lists_parts a t ne h = rw (ne_eqb a.ruin 2 ne) at h

version_high : {aall nall : ℕ} {t : Item} → ObjectBrought aall nall t → t.version ≤ 65535
version_high (brought_vector v) = v.version_high
version_high (brought_feature v) = v.version_high

three_low : (k : ℕ) → first_item false ≤ k → 3 ≤ k
unfolding first_item
three_low k h = h

two_low : (k : ℕ) → first_item true ≤ k → 2 ≤ k
unfolding first_item
two_low k h = h

-- what is known of a modify and the record that it names
pub record Modifies (cell : List ℕ) (at : ℕ) (update : List ℕ) (by : ℕ) : Type 0 where
  pub editable : Editable cell at update by
  pub good : Good (aall_at cell (record_at cell 1)) (nall_at cell (record_at cell 1)) (amended (amendment_at update by) (item_at cell at))

module _ {cell : List ℕ} {n : ℕ} {update : List ℕ} {m : ℕ} (f : Following cell n update m) (small : Small cell update) where
  pub stand_kept : (at : ℕ) → RecordOf false cell n at → Writable cell at
  stand_kept at r = rw r.is (cell_writable cell n r.index (cell_readable f) (cell_read f) (three_low r.index r.low) r.high)

  pub stand_new : (at : ℕ) → RecordOf true update m at → ruin_at update at ≡ 1 → Writable update at
  stand_new at r one =
      rw r.is (insert_writable update m r.index (update_readable f) (update_read f) (two_low r.index r.low) r.high (rw r.is at one))

  -- ---- one that is modified
  held : List ℕ
  held = sorted (name_words false cell n)

  module _ (none : (amendments_fault (items_at cell (sorted (name_words false cell n))) 2 (change_of update m).amendments).code ≡ 0)
      (at by : ℕ) (old : RecordOf false cell n at) (new : RecordOf true update m by) (name : name_at cell at ≡ name_at update by) (keep : ruin_at update by ≡ 2 → ⊥) where
    word_named : name_of (get_or (sorted (name_words false cell n)) old.word 0) ≡ name_at update by
    word_named = stand_named ((all_stand (cell_readable f)).each old.word old.there) ∙ ap (λ (x : ℕ). name_at cell x) (sym old.stands) ∙ name

    paired : Paired cell at update by
    paired =
        rw (old.stands, new.is)
        (pair (cell_readable f) (cell_known f small) small.old f.come.framed (update_known f small) small.new old.word old.there new.index
        (two_low new.index new.low)
        new.high (word_named ∙ ap (λ (x : ℕ). name_at update x) new.is))

    amendable : Amendable cell (sorted (name_words false cell n)) update by
    amendable =
        rw new.is
        ((all_amendable (cell_readable f) (cell_known f small) small.old f.come.framed (update_known f small) small.new (sorted (name_words false cell n)) refl
        ).each new.index (two_low new.index new.low) new.high)

    code : amendment_code (items_at cell (sorted (name_words false cell n))) (amendment_at update by) ≡ 0
    code = rw new.is (codes_none (items_at cell (sorted (name_words false cell n))) update m (update_known f small).two none new.index (two_low new.index new.low)
        new.high)

    found : lookup (sorted (name_words false cell n)) (name_at update by) ≡ Some at
    found =
        let is = lookup_at (sorted (name_words false cell n)) old.word (once_rising false (cell_readable f) (cell_once f)) old.there in
        ap (lookup (sorted (name_words false cell n))) (sym word_named) ∙ is ∙ ap Some (sym old.stands)

    parts : (version_at update by ≡ version_at cell at + 1) × (edit_allowed (amendment_at update by) (item_at cell at) ≡ true)
    parts =
        modify_parts (amendment_at update by) (item_at cell at)
        (code_some cell (sorted (name_words false cell n)) update by amendable (name_at update by) refl (lookup (sorted (name_words false cell n)) (name_at update by)) refl at
        found (found_code (amendment_at update by) (some (item_at cell at))) refl ∙ code)

    pub stand_changed : Modifies cell at update by
    unfolding change_of header_of name_at
    stand_changed =
        let told = (update_known f small).records new.index (two_low new.index new.low) new.high in
        let t = follows_told (header_of cell) (change_of update m) f.follows in
        let body : ObjectBrought (aall_at cell (record_at cell 1)) (nall_at cell (record_at cell 1)) (item_at update by) = rw (new.is, ← t.attributes, ← t.national)
        told.good.body in
        let three = (cell_known f small).three in
        let below : old.index < 3 + (n - 3) = let h = old.high in omega arith in
        let good : Good (aall_at cell (record_at cell 1)) (nall_at cell (record_at cell 1)) (item_at cell at) =
        rw old.is (object_good (aall_at cell (record_at cell 1)) (nall_at cell (record_at cell 1)) cell (n - 3) 3 (cell_known f small).apart old.index
        (three_low old.index old.low) below) in
        record {
          editable = record {
            paired = paired;
            allowed = lists_parts (amendment_at update by) (item_at cell at) keep parts.1;
            old_sum = record_sums cell at (record_in cell n old.index at f.held.framed old.high old.is) (kinds_of (rcnm_at cell at)) (kinds_apart (rcnm_at cell at));
            new_sum = record_sums update by (record_in update m new.index by f.come.framed new.high new.is) (kinds_of (rcnm_at cell at)) (kinds_apart (rcnm_at cell at));
            low = omega (arith, parts.0, version_high body);
          };
          good = amended_object (amendment_at update by) good body (sym name) parts.0;
        }
