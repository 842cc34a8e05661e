-- What the crates above may use of a record without a fault of layout: which kinds of fields it has, in which order, and that each is
-- filled by its subfields. Assumes nothing.
use Prim.Native.Nat.{ℕ, zero, suc, ◌+◌, ◌-◌, ◌≤◌, ◌<◌}
use mathlib.Core.Bool.{Bool, true, false, cond}
use mathlib.Core.List.{List}
use mathlib.Core.Logic.{◌⊎◌, ⊎_elim}
use mathlib.Core.Path.{◌≡◌, refl, sym, ◌∙◌}
use native.Mathlib.Nat.{div-le_self}
use native.Mathlib.Numerals.{add-one}
use native.Mathlib.Omega.{arith}
use lib.ListN.{length, get_or, length-take, length-drop}
use lib.Dec.{eqb}
use borrow.Author.Tests.{eqb-true, ne_eqb, not-true}
use Rattle.octets.proofs.Cases.{eq_or_ne, le_or_lt}
use Rattle.octets.proofs.Tests.{all3}
use Rattle.iso8211.specs.Leader.{base_at, length_digits, position_digits}
use Rattle.iso8211.specs.Directory.{row_width}
use Rattle.iso8211.specs.Record.{end_of}
use Rattle.iso8211.specs.Field.{count_at, field_at, FieldsIn}
use Rattle.iso8211.specs.Premises.{FramedAt, RecordIn}
use Rattle.entries.specs.Entries.{entries_of}
use Rattle.entries.specs.Premises.{Whole}
use Rattle.entries.proofs.EntriesLaws.{whole_good_lem}
use Rattle.dataset.specs.Premises.{DsidLaid}
use Rattle.headvalues.specs.Premises.{DspmLaid}
use Rattle.dataset.proofs.DsidLaws.{dsid_is_laid}
use Rattle.headvalues.proofs.DspmLaws.{dspm_is_laid}
use Rattle.table.specs.Table.{table, row_of, first, DSID, DSSI, DSPM, VRID, FRID, FOID, kind_count}
use Rattle.layout.specs.Layout.{opens, follows, placed, may_end, filled, shape_of, field_laid, laid_from, layout_fault, start}
use Rattle.layout.specs.Record.{kind_at, content_at}
use Rattle.layout.specs.Premises.{Laid}
use Rattle.layout.proofs.KindLaws.{kind_few, opens_dsid, opens_dspm, opens_item, opens_feature, opens_group, first_apart, follows_dsid, follows_dssi, follows_dspm}
use Rattle.layout.proofs.KindLaws.{control_row, Followed, followed}

-- ---- out of a fault of 0
apart : (b : Bool) (x y : ℕ) → cond b x y ≡ 0 → 0 < y → (b ≡ true) × (x ≡ 0)
apart true x y e h = (refl, e)
apart false x y e h = absurd (omega arith)

start_past : (s : List ℕ) (at j : ℕ) → j < count_at s at → 0 < (field_at s at j).start
unfolding count_at field_at
start_past s at j h = omega (arith, div-le_self (base_at s at - 25) (row_width (length_digits s at) (position_digits s at)))

-- the kind of the field before field j
unfoldable before : List ℕ → ℕ → ℕ → ℕ
before s at zero = start
before s at (suc j) = kind_at s at j

before_next : (s : List ℕ) (at j : ℕ) → kind_at s at j ≡ before s at (j + 1)
unfolding before
before_next s at j = rw (add-one j)

module _ (update : Bool) (stage : ℕ) (marks s : List ℕ) (at : ℕ) where
  each_from : (n k j prev : ℕ) → laid_from n update stage marks s at k prev ≡ 0 → prev ≡ before s at k → k + n ≡ count_at s at → k ≤ j → j < k + n
      → field_laid update stage marks s (before s at j) (field_at s at j) ≡ true
  unfolding laid_from
  each_from zero k j prev v e all low high = absurd (omega arith)
  each_from (suc n) k j prev v e all low high =
      let a = apart (field_laid update stage marks s prev (field_at s at k)) (laid_from n update stage marks s at (k + 1) (kind_at s at k)) (field_at s at k).start v
      (start_past s at k (omega arith)) in
      ⊎_elim (λ (same : k ≡ j). rw (← same, ← e) a.0)
      (λ (other : k ≡ j → ⊥). each_from n (k + 1) j (kind_at s at k) a.1 (before_next s at k) (omega arith) (omega arith) (omega arith))
      (eq_or_ne k j)

  end_from : (n k prev : ℕ) → laid_from n update stage marks s at k prev ≡ 0 → prev ≡ before s at k → k + n ≡ count_at s at → 0 < end_of s at
      → may_end (before s at (count_at s at)) ≡ true
  unfolding laid_from
  end_from zero k prev v e all past = let same : count_at s at ≡ k = omega arith in rw (same, ← e) (apart (may_end prev) 0 (end_of s at) v past).0
  end_from (suc n) k prev v e all past =
      let a = apart (field_laid update stage marks s prev (field_at s at k)) (laid_from n update stage marks s at (k + 1) (kind_at s at k)) (field_at s at k).start v
      (start_past s at k (omega arith)) in
      end_from n (k + 1) (kind_at s at k) a.1 (before_next s at k) (omega arith) past

-- each field is rightly placed, declared and filled
module _ (update : Bool) (stage : ℕ) (marks s : List ℕ) (at : ℕ) (none : layout_fault update stage marks s at ≡ 0) where
  each : (j : ℕ) → j < count_at s at
      → (placed update stage (before s at j) (kind_at s at j) ≡ true) × (eqb (get_or marks (kind_at s at j) 0) 1 ≡ true) × (filled (kind_at s at j) (content_at s at j) ≡ true)
  unfolding layout_fault field_laid before
  each j h =
      all3 (placed update stage (before s at j) (kind_at s at j)) (eqb (get_or marks (kind_at s at j) 0) 1) (filled (kind_at s at j) (content_at s at j))
      (each_from update stage marks s at (count_at s at) 0 j start none refl (omega arith) (omega arith) (omega arith))

  pub layout_filled : (j : ℕ) → j < count_at s at → filled (kind_at s at j) (content_at s at j) ≡ true
  layout_filled j h = (each j h).2

  pub layout_declared : (j : ℕ) → j < count_at s at → get_or marks (kind_at s at j) 0 ≡ 1
  layout_declared j h = eqb-true _ _ (each j h).1

  pub layout_head : 0 < count_at s at → kind_at s at 0 ≡ first
  unfolding placed before
  layout_head h = eqb-true _ _ (each 0 h).0

  layout_opened : 1 < count_at s at → opens stage (kind_at s at 1) ≡ true
  unfolding placed before
  layout_opened h =
      let p : placed update stage (kind_at s at 0) (kind_at s at 1) ≡ true = (each 1 h).0 in
      rw (layout_head (omega arith)) at p

  -- behind one that is not the first
  behind : (j : ℕ) → suc j < count_at s at → (kind_at s at j ≡ first → ⊥) → follows update (kind_at s at j) (kind_at s at (suc j)) ≡ true
  unfolding placed before
  behind j h other =
      let p : placed update stage (kind_at s at j) (kind_at s at (suc j)) ≡ true = (each (suc j) h).0 in
      let few = kind_few (field_at s at j).tag in
      rw (ne_eqb (kind_at s at j) start (λ (e : kind_at s at j ≡ start). omega arith), ne_eqb (kind_at s at j) first other) at p

  -- a field of the group of field 1 is not the first
  not_first : (k : ℕ) → 1 < count_at s at → (row_of k).group ≡ (row_of (kind_at s at 1)).group → k ≡ first → ⊥
  not_first k h same e =
      let low = (opens_group stage (kind_at s at 1) (layout_opened h)).0 in
      let nine : (row_of k).group ≡ 9 = rw e first_apart in
      omega arith

  -- so all fields behind the first are of one group
  group_from : (j : ℕ) → suc j < count_at s at → (row_of (kind_at s at (suc j))).group ≡ (row_of (kind_at s at 1)).group
  group_from zero h = refl
  group_from (suc j) h =
      let same = group_from j (omega arith) in
      sym (followed update _ _ (behind (suc j) h (not_first (kind_at s at (suc j)) (omega arith) same))).group ∙ same

  follows_from : (j : ℕ) → suc (suc j) < count_at s at → follows update (kind_at s at (suc j)) (kind_at s at (suc (suc j))) ≡ true
  follows_from j h = behind (suc j) h (not_first (kind_at s at (suc j)) (omega arith) (group_from j (omega arith)))

  pub layout_follows : (j : ℕ) → 2 ≤ j → j < count_at s at → follows update (kind_at s at (j - 1)) (kind_at s at j) ≡ true
  layout_follows zero low h = absurd (omega arith)
  layout_follows (suc zero) low h = absurd (omega arith)
  layout_follows (suc (suc j)) low h = let e : suc (suc j) - 1 ≡ suc j = omega arith in rw e (follows_from j h)

  -- a record does not end with its 0001
  module _ (framed : FramedAt s at) where
    layout_end : may_end (before s at (count_at s at)) ≡ true
    unfolding layout_fault before
    layout_end =
        end_from update stage marks s at (count_at s at) 0 start none refl (omega arith)
        (let a = framed.headed.low in let b = framed.high in omega arith)

    layout_two : 2 ≤ count_at s at
    unfolding may_end before
    layout_two =
        ⊎_elim (λ (two : 2 ≤ count_at s at). two)
        (λ (few : count_at s at < 2).
        let some = framed.headed.some in
        let one : count_at s at ≡ 1 = omega arith in
        let m : may_end (kind_at s at 0) ≡ true = rw one at layout_end in
        let f : may_end first ≡ true = rw (layout_head (omega arith)) at m in
        absurd (let z : ◌≡◌ {A = ℕ} 0 1 = cc in omega arith))
        (le_or_lt 2 (count_at s at))

    pub layout_opens : (2 ≤ count_at s at) × (kind_at s at 0 ≡ first) × (opens stage (kind_at s at 1) ≡ true)
    layout_opens = let two = layout_two in (two, layout_head (omega arith), layout_opened two)

last_before : (s : List ℕ) (at n : ℕ) → 1 ≤ n → before s at n ≡ kind_at s at (n - 1)
unfolding before
last_before s at zero h = absurd (omega arith)
last_before s at (suc n) h = let e : suc n - 1 ≡ n = omega arith in rw e

-- the whole of it
pub laid : (update : Bool) (stage : ℕ) (marks s : List ℕ) (at : ℕ) → RecordIn s at → layout_fault update stage marks s at ≡ 0 → Laid update stage marks s at
laid update stage marks s at known none =
    let o = layout_opens update stage marks s at none known.framed in
    let two = o.0 in
    record {
      two = o.0;
      head = o.1;
      opening = o.2;
      order = layout_follows update stage marks s at none;
      end = rw (last_before s at (count_at s at) (omega arith)) at (layout_end update stage marks s at none known.framed);
      declared = layout_declared update stage marks s at none;
      full = layout_filled update stage marks s at none;
    }

-- ---- a record that is laid out well
module _ {update : Bool} {stage : ℕ} {marks s : List ℕ} {at : ℕ} (good : Laid update stage marks s at) where
  -- field j + 1 follows field j
  next : (j : ℕ) → 1 ≤ j → suc j < count_at s at → Followed update (kind_at s at j) (kind_at s at (suc j))
  next j low h =
      let e : suc j - 1 ≡ j = omega arith in
      followed update _ _ (rw e at (good.order (suc j) (omega arith) h))

  -- "A vector", "a feature": the fields behind 0001 are of one group
  pub laid_group : (j : ℕ) → 1 ≤ j → j < count_at s at → (row_of (kind_at s at j)).group ≡ (row_of (kind_at s at 1)).group
  laid_group zero low h = absurd (omega arith)
  laid_group (suc j) low h =
      ⊎_elim (λ (same : j ≡ 0). rw same) (λ (other : j ≡ 0 → ⊥). sym (next j (omega arith) h).group ∙ laid_group j (omega arith) (omega arith)) (eq_or_ne j 0)

  -- they stand in the order of the table
  pub laid_order : (i j : ℕ) → 1 ≤ i → i ≤ j → j < count_at s at → (row_of (kind_at s at i)).order ≤ (row_of (kind_at s at j)).order
  laid_order i zero low up h = absurd (omega arith)
  laid_order i (suc j) low up h =
      ⊎_elim (λ (same : i ≡ suc j). rw same (omega arith))
      (λ (other : i ≡ suc j → ⊥). let m = laid_order i j low (omega arith) (omega arith) in let n = (next j (omega arith) h).order in omega arith)
      (eq_or_ne i (suc j))

  -- of two fields of one place the tags are the same: "SG2D* or SG3D*"
  pub laid_alike : (i j : ℕ) → 1 ≤ i → i ≤ j → j < count_at s at → (row_of (kind_at s at i)).order ≡ (row_of (kind_at s at j)).order → kind_at s at i ≡ kind_at s at j
  laid_alike i zero low up h e = absurd (omega arith)
  laid_alike i (suc j) low up h e =
      ⊎_elim (λ (same : i ≡ suc j). rw same)
      (λ (other : i ≡ suc j → ⊥).
      let m = laid_order i j low (omega arith) (omega arith) in
      let n = next j (omega arith) h in
      let o = n.order in
      laid_alike i j low (omega arith) (omega arith) (omega arith) ∙ (n.again (omega arith)).0)
      (eq_or_ne i (suc j))

  -- "Repeats of a tag join into one list": only a list's tag comes twice
  pub laid_once : (i j : ℕ) → 1 ≤ i → i < j → j < count_at s at → kind_at s at i ≡ kind_at s at j → (row_of (kind_at s at j)).list ≡ true
  laid_once i zero low up h e = absurd (omega arith)
  laid_once i (suc j) low up h e =
      let m = laid_order i j low (omega arith) (omega arith) in
      let n = next j (omega arith) h in
      let o = n.order in
      let same : (row_of (kind_at s at i)).order ≡ (row_of (kind_at s at (suc j))).order = rw e in
      (n.again (omega arith)).1

  -- "In updates VRPC, SGCC, FFPC, FSPC may stand": in cells none does
  pub laid_uncontrolled : (j : ℕ) → update ≡ false → 1 ≤ j → j < count_at s at → (row_of (kind_at s at j)).control ≡ false
  laid_uncontrolled zero cell low h = absurd (omega arith)
  laid_uncontrolled (suc j) cell low h =
      ⊎_elim (λ (same : j ≡ 0). rw same (not-true _ (opens_group stage (kind_at s at 1) good.opening).1))
      (λ (other : j ≡ 0 → ⊥). (next j (omega arith) h).uncontrolled cell)
      (eq_or_ne j 0)

  opener_few : kind_at s at 1 < kind_count
  opener_few = kind_few (field_at s at 1).tag

  -- field 1 isn't the last if a record can't end with it
  third : may_end (kind_at s at 1) ≡ false → 3 ≤ count_at s at
  third unfinished =
      ⊎_elim (λ (three : 3 ≤ count_at s at). three)
      (λ (few : count_at s at < 3).
      let two = good.two in
      let one : count_at s at - 1 ≡ 1 = omega arith in
      let m : may_end (kind_at s at 1) ≡ true = rw one at good.end in
      let z : ◌≡◌ {A = ℕ} 0 1 = cc in absurd (omega arith))
      (le_or_lt 3 (count_at s at))

  -- "Feature: 0001 FRID FOID ATTF* NATF* FFPT* FSPT*"
  pub laid_feature : kind_at s at 1 ≡ FRID → (3 ≤ count_at s at) × (kind_at s at 2 ≡ FOID)
  unfolding may_end
  laid_feature e =
      let three = third (rw e) in
      (three, (next 1 (omega arith) (omega arith)).identified e)

  -- "Cell: 0; then 0001 DSID DSSI"
  pub laid_dsid : stage ≡ 0 → (count_at s at ≡ 3) × (kind_at s at 1 ≡ DSID) × (kind_at s at 2 ≡ DSSI)
  unfolding may_end
  laid_dsid e =
      let one = opens_dsid (kind_at s at 1) opener_few (rw e at good.opening) in
      let three = third (rw one) in
      let two = follows_dsid update (kind_at s at 2) (kind_few (field_at s at 2).tag) (rw one at (good.order 2 (omega arith) (omega arith))) in
      let all : count_at s at ≡ 3 =
      ⊎_elim (λ (few : count_at s at ≤ 3). omega arith)
      (λ (more : 3 < count_at s at). absurd (follows_dssi update (kind_at s at 3) (kind_few (field_at s at 3).tag) (rw two at (good.order 3 (omega arith) more))))
      (le_or_lt (count_at s at) 3) in
      (all, one, two)

  -- "then 0001 DSPM"
  pub laid_dspm : stage ≡ 1 → (count_at s at ≡ 2) × (kind_at s at 1 ≡ DSPM)
  laid_dspm e =
      let one = opens_dspm (kind_at s at 1) opener_few (rw e at good.opening) in
      let two = good.two in
      let all : count_at s at ≡ 2 =
      ⊎_elim (λ (few : count_at s at ≤ 2). omega arith)
      (λ (more : 2 < count_at s at). absurd (follows_dspm update (kind_at s at 2) (kind_few (field_at s at 2).tag) (rw one at (good.order 2 (omega arith) more))))
      (le_or_lt (count_at s at) 2) in
      (all, one)

  -- "then vectors; then features"
  pub laid_item : stage ≡ 2 → (kind_at s at 1 ≡ VRID) ⊎ (kind_at s at 1 ≡ FRID)
  laid_item e = opens_item (kind_at s at 1) opener_few (rw e at good.opening)

  pub laid_late : stage ≡ 3 → kind_at s at 1 ≡ FRID
  laid_late e = opens_feature (kind_at s at 1) opener_few (rw e at good.opening)

-- ---- what a filled field holds
pub full_dsid : (c : List ℕ) → filled DSID c ≡ true → DsidLaid c
unfolding filled
full_dsid c h = dsid_is_laid c h

pub full_dspm : (c : List ℕ) → filled DSPM c ≡ true → DspmLaid c
unfolding filled
full_dspm c h = dspm_is_laid c h

pub full_single : (k : ℕ) (c : List ℕ) → (k ≡ DSID → ⊥) → (k ≡ DSPM → ⊥) → (row_of k).list ≡ false → filled k c ≡ true → length c ≡ (row_of k).fixed
unfolding filled
full_single k c one two list h = eqb-true _ _ (rw (ne_eqb k DSID one, ne_eqb k DSPM two, list) at h)

-- "a list field holds one group or more"
pub full_list : (k : ℕ) (c : List ℕ) → (row_of k).list ≡ true → filled k c ≡ true → Whole (shape_of k) c × (1 ≤ length (entries_of (shape_of k) c))
unfolding filled row_of table
full_list k c list h =
    let one : k ≡ DSID → ⊥ = λ (e : k ≡ DSID). let f = rw e at list in let z : ◌≡◌ {A = ℕ} 0 1 = cc in omega arith in
    let two : k ≡ DSPM → ⊥ = λ (e : k ≡ DSPM). let f = rw e at list in let z : ◌≡◌ {A = ℕ} 0 1 = cc in omega arith in
    whole_good_lem (shape_of k) c (rw (ne_eqb k DSID one, ne_eqb k DSPM two, list) at h)

pub full_first : (c : List ℕ) → filled first c ≡ true → length c ≡ 2
unfolding row_of table
full_first c h = full_single first c (λ (e : first ≡ DSID). omega arith) (λ (e : first ≡ DSPM). omega arith) refl h

pub full_dssi : (c : List ℕ) → filled DSSI c ≡ true → length c ≡ 35
unfolding row_of table
full_dssi c h = full_single DSSI c (λ (e : DSSI ≡ DSID). omega arith) (λ (e : DSSI ≡ DSPM). omega arith) refl h

pub full_vrid : (c : List ℕ) → filled VRID c ≡ true → length c ≡ 8
unfolding row_of table
full_vrid c h = full_single VRID c (λ (e : VRID ≡ DSID). omega arith) (λ (e : VRID ≡ DSPM). omega arith) refl h

pub full_frid : (c : List ℕ) → filled FRID c ≡ true → length c ≡ 12
unfolding row_of table
full_frid c h = full_single FRID c (λ (e : FRID ≡ DSID). omega arith) (λ (e : FRID ≡ DSPM). omega arith) refl h

pub full_foid : (c : List ℕ) → filled FOID c ≡ true → length c ≡ 8
unfolding row_of table
full_foid c h = full_single FOID c (λ (e : FOID ≡ DSID). omega arith) (λ (e : FOID ≡ DSPM). omega arith) refl h

-- a control is five bytes: "b11,2b12"
pub full_control : (k : ℕ) (c : List ℕ) → (row_of k).control ≡ true → filled k c ≡ true → length c ≡ 5
unfolding row_of table
full_control k c control h =
    let one : k ≡ DSID → ⊥ = λ (e : k ≡ DSID). let f = rw e at control in let z : ◌≡◌ {A = ℕ} 0 1 = cc in omega arith in
    let two : k ≡ DSPM → ⊥ = λ (e : k ≡ DSPM). let f = rw e at control in let z : ◌≡◌ {A = ℕ} 0 1 = cc in omega arith in
    let five = control_row k control in
    full_single k c one two five.0 h ∙ five.1

-- its length, without the closing 1E
pub content_length : (s : List ℕ) (at j : ℕ) → FieldsIn s at → j < count_at s at → length (content_at s at j) ≡ (field_at s at j).length - 1
content_length s at j known h =
    let f = known.fields j h in
    let within = f.within in
    let fits = known.fits in
    simp (length-take, length-drop) (omega arith)
