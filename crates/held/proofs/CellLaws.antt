-- A readable cell's chart is one that can be held. Assumes nothing.
use Prim.Native.Nat.{ℕ, zero, suc, ◌+◌, ◌-◌, ◌≤◌, ◌<◌}
use mathlib.Core.Bool.{Bool, true, false, cond}
use mathlib.Core.List.{List, [], ◌∷◌}
use mathlib.Core.Logic.{◌⊎◌, ⊎_elim}
use mathlib.Core.Path.{◌≡◌, refl, sym, ap, ◌∙◌}
use native.Mathlib.Omega.{arith}
use lib.ListN.{length}
use lib.Dec.{eqb}
use borrow.Author.Tests.{eq-eqb, ne_eqb, eqb-true, leb-true}
use Rattle.std.specs.Prelude.{Ok}
use Rattle.octets.specs.Lists.{is_in}
use Rattle.octets.specs.Number.{byte_at}
use Rattle.octets.proofs.Cases.{true_or_false, le_or_lt}
use Rattle.octets.proofs.Tests.{both, never, or_right}
use Rattle.iso8211.specs.Record.{end_of}
use Rattle.iso8211.specs.Field.{field_at}
use Rattle.iso8211.specs.Premises.{RecordIn}
use Rattle.iso8211.specs.File.{frame_of, record_at}
use Rattle.iso8211.proofs.Promise.{record_in, at_next, last_ends}
use Rattle.table.specs.Table.{row_of, table, DSID, DSSI, VRID, FRID}
use Rattle.values.specs.Fault as fault
use Rattle.dataset.specs.Dsid.{dsid_laid, dsid_fault}
use Rattle.headvalues.specs.Dssi.{dssi_fault}
use Rattle.headvalues.specs.Dspm.{dspm_laid, dspm_fault}
use Rattle.layout.specs.Layout.{opens, may_end, filled, layout_fault, start}
use Rattle.layout.specs.Record.{content_at}
use Rattle.layout.proofs.KindLaws.{kind_few, opens_dsid, opens_dspm, opens_item, opens_feature, follows_dsid}
use Rattle.layout.proofs.Promise.{full_dssi}
use Rattle.fieldvalue.specs.Value.{field_fault, seen_before, seen_after, value_fault}
use Rattle.chart.specs.Read.{next_stage, is_feature, passed_state, first_state, records_fault, read_fault}
use Rattle.chart.specs.declared.read.State.{State}
use Rattle.declarations.specs.Described.{described_of}
use Rattle.items.proofs.IdentityLaws.{num_one}
use Rattle.names.specs.Names.{first_item, items_from, twice_from, first_twice, twice_of}
use Rattle.names.specs.Held.{held_items}
use Rattle.records.specs.Pieces.{Piece}
use Rattle.records.specs.Premises.{piece_of, pieces_at}
use Rattle.itemfields.specs.Views.{kind_in, laid_in, valued_in}
use Rattle.items.specs.Item.{Item, item_at, item_name}
use Rattle.held.specs.Chart.{header_of, chart_of}
use Rattle.held.specs.Good.{Good, GoodChart}
use Rattle.held.specs.Good.Good.{a_vector, a_feature}
use Rattle.itemfields.proofs.ViewLaws.{laid_told, values_told, count_seen, piece_seen, number_seen}
use Rattle.itemfields.proofs.JoinLaws.{step}
use Rattle.itemfields.proofs.ReadLaws.{Opened, opened, vector_told, feature_told, none_first, none_at}
use Rattle.header.specs.Known.{Known}
use Rattle.header.proofs.DsidLaws.{dsid_back, dsid_known}
use Rattle.held.proofs.OrderLaws.{names_of, Apart, order_ordered}
use Rattle.held.proofs.OrderLaws.Apart.{apart_none, apart_more}
use Rattle.layout.specs.General.{aall_at, nall_at}
use Rattle.answers.specs.Answer.{refusal, fine}
use Rattle.answers.specs.declared.refusal.Refusal.{Refusal}

-- ---- out of the walk over the records
pub told : (a b k : ℕ) (rest : Refusal) → (cond (eqb a 0) (cond (eqb b 0) rest (refusal 6 k b)) (refusal 5 k a)).code ≡ 0 → (a ≡ 0) × (b ≡ 0) × (rest.code ≡ 0)
told a b k rest h =
    ⊎_elim (λ (x : eqb a 0 ≡ true).
    ⊎_elim (λ (y : eqb b 0 ≡ true). (eqb-true a 0 x, eqb-true b 0 y, rw (x, y) at h)) (λ (y : eqb b 0 ≡ false). absurd (let z : ◌≡◌ {A = ℕ} 6 0 = rw (x, y) at h in omega arith))
    (true_or_false (eqb b 0)))
    (λ (x : eqb a 0 ≡ false). absurd (let z : ◌≡◌ {A = ℕ} 5 0 = rw x at h in omega arith)) (true_or_false (eqb a 0))

pub open_record : (update : Bool) (stage : ℕ) (marks : List ℕ) (aall nall : ℕ) (s : List ℕ) (at : ℕ) → RecordIn s at → layout_fault update stage marks s at ≡ 0
    → value_fault update aall nall s at ≡ 0 → Opened update stage marks aall nall (pieces_at s at)
open_record update stage marks aall nall s at known laid valued =
    opened update stage marks aall nall (pieces_at s at) (rw (← (count_seen s at (pieces_at s at) refl)) known.framed.headed.some) (laid_told s at known update stage marks laid)
    (values_told s at known update aall nall valued)

-- ---- one object
opened_object : (stage : ℕ) (marks : List ℕ) (aall nall : ℕ) (s : List ℕ) (at : ℕ) → ((i : ℕ) → byte_at s i < 256) → 2 ≤ stage → stage ≤ 3
    → Opened false stage marks aall nall (pieces_at s at) → Good aall nall (item_at s at)
opened_object stage marks aall nall s at small low high o =
    let k = kind_in o.two in
    let few = kind_few o.two.named in
    ⊎_elim (λ (e : stage ≤ 2).
    let two : stage ≡ 2 = omega arith in
    let opening : opens 2 k ≡ true = ap (λ (i : ℕ). opens i k) (sym two) ∙ o.opening in
    ⊎_elim (λ (v : k ≡ VRID). a_vector (vector_told stage marks aall nall s at small o v)) (λ (f : k ≡ FRID). a_feature (feature_told stage marks aall nall s at small o f))
    (opens_item k few opening))
    (λ (e : 2 < stage).
    let three : stage ≡ 3 = omega arith in
    let opening : opens 3 k ≡ true = ap (λ (i : ℕ). opens i k) (sym three) ∙ o.opening in
    a_feature (feature_told stage marks aall nall s at small o (opens_feature k few opening)))
    (le_or_lt stage 2)

object_told : (stage : ℕ) (marks : List ℕ) (aall nall : ℕ) (s : List ℕ) (at : ℕ) → ((i : ℕ) → byte_at s i < 256) → 2 ≤ stage → stage ≤ 3 → RecordIn s at
    → layout_fault false stage marks s at ≡ 0 → value_fault false aall nall s at ≡ 0
    → Good aall nall (item_at s at)
object_told stage marks aall nall s at small low high known laid valued = opened_object stage marks aall nall s at small low high
    (open_record false stage marks aall nall s at known laid valued)

pub differs : (x y : ℕ) (seen : List ℕ) → is_in x seen ≡ false → is_in y seen ≡ true → x ≡ y → ⊥
differs x y seen no_x has_y e = let f : is_in y seen ≡ false = rw e at no_x in let z : ◌≡◌ {A = Bool} false true = cc in let w : ◌≡◌ {A = ℕ} 0 1 = cc in omega arith

pub once_more : (j : ℕ) (t : Item) (seen : List ℕ) (ts : List Item) → 1 ≤ j → twice_from j seen (t ∷ ts) ≡ 0 → twice_from (j + 1) (item_name t ∷ seen) ts ≡ 0
unfolding twice_from
once_more j t seen ts some once =
    ⊎_elim (λ (met : is_in (item_name t) seen ≡ true). absurd (let z : j ≡ 0 = rw met at once in omega arith))
    (λ (new : is_in (item_name t) seen ≡ false). rw new at once) (true_or_false (is_in (item_name t) seen))

pub self_in : (x : ℕ) (seen : List ℕ) → is_in x (x ∷ seen) ≡ true
unfolding is_in
self_in x seen = rw (eq-eqb x x refl)

either_stage : (b : Bool) (stage : ℕ) → 2 ≤ stage → stage ≤ 3 → (2 ≤ cond b 3 stage) × (cond b 3 stage ≤ 3)
either_stage true stage low high = (omega arith, omega arith)
either_stage false stage low high = (low, high)

pub stage_late : (update : Bool) (stage : ℕ) (feature : Bool) → 2 ≤ stage → stage ≤ 3
    → (2 ≤ next_stage update stage feature) × (next_stage update stage feature ≤ 3) × (eqb stage 0 ≡ false)
unfolding next_stage
stage_late update stage feature low high =
    let a = ne_eqb stage 0 (λ e. omega arith) in
    let b = ne_eqb stage 1 (λ e. omega arith) in
    let r = either_stage feature stage low high in
    (rw (a, b) r.0, rw (a, b) r.1, a)

-- ---- names: one met before does not come again
unseen : (j x : ℕ) (seen : List ℕ) (ts : List Item) → 1 ≤ j → twice_from j seen ts ≡ 0 → is_in x seen ≡ true → is_in x (names_of ts) ≡ false
unfolding twice_from names_of is_in
unseen j x seen [] some once in_seen = refl
unseen j x seen (t ∷ ts) some once in_seen =
    ⊎_elim (λ (met : is_in (item_name t) seen ≡ true). absurd (let z : j ≡ 0 = rw met at once in omega arith))
    (λ (new : is_in (item_name t) seen ≡ false).
    let on : twice_from (j + 1) (item_name t ∷ seen) ts ≡ 0 = rw new at once in
    let there : is_in x (item_name t ∷ seen) ≡ true = or_right (eqb (item_name t) x) (is_in x seen) in_seen in
    rw (ne_eqb (item_name t) x (differs (item_name t) x seen new in_seen)) (unseen (j + 1) x (item_name t ∷ seen) ts (omega arith) on there))
    (true_or_false (is_in (item_name t) seen))

module _ (s : List ℕ) (n : ℕ) (framed : frame_of s ≡ Ok n) where
  -- what is known of a state behind DSPM
  pub objects_told : (marks : List ℕ) (aall nall m k j : ℕ) (seen : List ℕ) (st : State) → ((i : ℕ) → byte_at s i < 256) → k + m ≡ n → 1 ≤ j → 2 ≤ st.stage → st.stage ≤ 3
      → st.aall ≡ aall → st.nall ≡ nall
      → (records_fault m false marks s k (record_at s k) st).code ≡ 0 → twice_from j seen (items_from m s (record_at s k)) ≡ 0 → Apart aall nall (items_from m s (record_at s k))
  unfolding records_fault items_from passed_state next_stage
  objects_told marks aall nall zero k j seen st small all some low high ea en fault once = apart_none
  objects_told marks aall nall (suc m) k j seen st small all some low high ea en fault once =
      let at = record_at s k in
      let next = passed_state false s at st in
      let known = record_in s n k at framed (omega arith) refl in
      let p = told (layout_fault false st.stage marks s at) (value_fault false st.aall st.nall s at) k (records_fault m false marks s (k + 1) (end_of s at) next) fault in
      let here : Good aall nall (item_at s at) = object_told st.stage marks aall nall s at small low high known p.0 (rw (ea, en) at p.1) in
      let name = item_name (item_at s at) in
      let on : twice_from (j + 1) (name ∷ seen) (items_from m s (end_of s at)) ≡ 0 = once_more j (item_at s at) seen (items_from m s (end_of s at)) some once in
      let out : is_in name (names_of (items_from m s (end_of s at))) ≡ false = unseen (j + 1) name (name ∷ seen) (items_from m s (end_of s at)) (omega arith) on (self_in name seen) in
      let stage = stage_late false st.stage (is_feature s at) low high in
      let rest = objects_told marks aall nall m (k + 1) (j + 1) (name ∷ seen) next small (omega arith) (omega arith) stage.0 stage.1 (rw stage.2 ea) (rw stage.2 en)
      (rw (at_next s k at refl) at p.2) (rw (at_next s k at refl) at on) in
      apart_more here out (rw (at_next s k at refl) rest)

-- ---- the header
pub record DsidTold (update : Bool) (s : List ℕ) (at : ℕ) : Type 0 where
  pub laid : dsid_laid (content_at s at 1) ≡ true
  pub fine : dsid_fault update (content_at s at 1) ≡ 0
  pub aall_low : aall_at s at ≤ 1
  pub nall_low : nall_at s at ≤ 1

second : (s : List ℕ) (at : ℕ) (a b : Piece) (rest : List Piece) → pieces_at s at ≡ a ∷ b ∷ rest → content_at s at 1 ≡ b.content
unfolding piece_of
second s at a b rest e = ap (λ (x : Piece). x.content) (piece_seen s at (a ∷ b ∷ rest) 1 a e (omega arith))

levels : (update : Bool) (c : List ℕ) → dssi_fault update c ≡ 0 → (byte_at c 1 ≤ 1) × (byte_at c 2 ≤ 1)
unfolding dssi_fault
levels update c h =
    let a = none_first _ _ h in
    let b = none_first _ _ a.1 in
    let d = none_first _ _ b.1 in
    (leb-true _ _ (none_at _ _ b.0), leb-true _ _ (none_at _ _ d.0))

-- DSSI behind DSID
dssi_told : (update : Bool) (marks : List ℕ) (seen : List ℕ) (s : List ℕ) (at : ℕ) (a b : Piece) (fs : List Piece) → pieces_at s at ≡ a ∷ b ∷ fs → laid_in update 0 marks DSID fs
    ≡ true
    → valued_in update 0 0 DSID seen fs ≡ true
    → (aall_at s at ≤ 1) × (nall_at s at ≤ 1)
unfolding laid_in valued_in may_end row_of table aall_at nall_at field_fault
dssi_told update marks seen s at a b [] e laid valued = never laid
dssi_told update marks seen s at a b (f ∷ fs) e laid valued =
    let st = step update 0 marks DSID f fs (omega arith) laid in
    let kind : kind_in f ≡ DSSI = follows_dsid update (kind_in f) (kind_few f.named) st.placing in
    let long : length f.content ≡ 35 = full_dssi f.content (rw kind at st.full) in
    let p = both (eqb (field_fault update 0 0 (kind_in f) (seen_before DSID (kind_in f) seen) f.content) 0)
    (valued_in update 0 0 (kind_in f) (seen_after (kind_in f) (seen_before DSID (kind_in f) seen) f.content) fs) valued in
    let none : dssi_fault update f.content ≡ 0 = rw kind at (eqb-true (field_fault update 0 0 (kind_in f) (seen_before DSID (kind_in f) seen) f.content) 0 p.0) in
    let l = levels update f.content none in
    let q = (field_at s at 2).start in
    let x : byte_at s (q + 1) ≡ byte_at f.content 1 = sym (num_one s (q + 1)) ∙ number_seen s at (a ∷ b ∷ f ∷ fs) 2 a 1 1 e (omega arith) (omega arith) ∙ num_one f.content 1 in
    let y : byte_at s (q + 2) ≡ byte_at f.content 2 = sym (num_one s (q + 2)) ∙ number_seen s at (a ∷ b ∷ f ∷ fs) 2 a 2 1 e (omega arith) (omega arith) ∙ num_one f.content 2 in
    (rw x l.0, rw y l.1)

pub dsid_told : (update : Bool) (marks s : List ℕ) (at : ℕ) → Opened update 0 marks 0 0 (pieces_at s at) → DsidTold update s at
unfolding field_fault filled
dsid_told update marks s at o =
    let kind = opens_dsid (kind_in o.two) (kind_few o.two.named) o.opening in
    let c = second s at o.one o.two o.rest o.is in
    let l = dssi_told update marks _ s at o.one o.two o.rest o.is (rw kind at o.laid) (rw kind at o.valued) in
    record { laid = rw c (rw kind at o.full); fine = rw c (rw kind at o.fine); aall_low = l.0; nall_low = l.1 }

dspm_told : (marks : List ℕ) (aall nall : ℕ) (s : List ℕ) (at : ℕ) → Opened false 1 marks aall nall (pieces_at s at)
    → (dspm_laid (content_at s at 1) ≡ true) × (dspm_fault (content_at s at 1) ≡ 0)
unfolding field_fault filled
dspm_told marks aall nall s at o =
    let kind = opens_dspm (kind_in o.two) (kind_few o.two.named) o.opening in
    let c = second s at o.one o.two o.rest o.is in
    (rw c (rw kind at o.full), rw c (rw kind at o.fine))

-- ---- the chart
pub record CellTold (s : List ℕ) (n : ℕ) : Type 0 where
  pub three : 3 ≤ n
  pub good : GoodChart (chart_of s n)
  pub apart : Apart (aall_at s (record_at s 1)) (nall_at s (record_at s 1)) (items_from (n - 3) s (record_at s 3))
  pub known : Known (content_at s (record_at s 1) 1)

pub chart_from_lem : (s marks : List ℕ) (n m : ℕ) → frame_of s ≡ Ok n → length s ≤ 5242880 → ((i : ℕ) → byte_at s i < 256) → 1 + m ≡ n
    → (records_fault m false marks s 1 (record_at s 1) first_state).code ≡ 0 → (twice_of false s n).index ≡ 0
    → CellTold s n
unfolding records_fault passed_state next_stage twice_of first_twice first_item chart_of header_of held_items
chart_from_lem s marks n zero framed short small all fault once = absurd (omega arith)
chart_from_lem s marks n (suc zero) framed short small all fault once =
    let a = record_at s 1 in
    let p = told (layout_fault false 0 marks s a) (value_fault false 0 0 s a) 1 (refusal 5 2 (length s)) fault in
    absurd (let z = p.2 in omega arith)
chart_from_lem s marks n (suc (suc m)) framed short small all fault once =
    let a = record_at s 1 in
    let b = record_at s 2 in
    let s1 = passed_state false s a first_state in
    let s2 = passed_state false s b s1 in
    let less : n - 3 ≡ m = omega arith in
    let p = told (layout_fault false 0 marks s a) (value_fault false 0 0 s a) 1 (records_fault (suc m) false marks s 2 (end_of s a) s1) fault in
    let q = told (layout_fault false 1 marks s b) (value_fault false (aall_at s a) (nall_at s a) s b) 2 (records_fault m false marks s 3 (end_of s b) s2)
    (rw (at_next s 1 a refl) at p.2) in
    let d = dsid_told false marks s a (open_record false 0 marks 0 0 s a (record_in s n 1 a framed (omega arith) refl) p.0 p.1) in
    let e = dspm_told marks (aall_at s a) (nall_at s a) s b (open_record false 1 marks (aall_at s a) (nall_at s a) s b (record_in s n 2 b framed (omega arith) refl) q.0 q.1) in
    let t = objects_told s n framed marks (aall_at s a) (nall_at s a) m 3 3 [] s2 small (omega arith) (omega arith) (omega arith) (omega arith) refl refl
    (rw (at_next s 2 b refl) at q.2) (rw less at once) in
    let r = dsid_back (content_at s a 1) d.laid d.fine in
    record {
      three = omega arith;
      good = record {
        dsid_is_laid = r.laid;
        dsid_fine = r.fine;
        dsid_back = r.back;
        dspm_is_laid = e.0;
        dspm_fine = e.1;
        aall_low = d.aall_low;
        nall_low = d.nall_low;
        items =
            rw less (order_ordered t);
      };
      apart = rw less t;
      known = dsid_known (content_at s a 1) d.laid d.fine;
    }

-- a cell without a refusal of codes 1, 2 and 4 to 7 has a chart that can be held
pub cell_told : (s : List ℕ) (n : ℕ) → frame_of s ≡ Ok n → length s ≤ 5242880 → ((i : ℕ) → byte_at s i < 256) → (read_fault false s n).code ≡ 0
    → (twice_of false s n).index ≡ 0 → CellTold s n
unfolding read_fault
cell_told s n framed short small fault once =
    ⊎_elim (λ (e : eqb (length (described_of s)) 0 ≡ true). absurd (let z : ◌≡◌ {A = ℕ} 4 0 = rw e at fault in omega arith))
    (λ (e : eqb (length (described_of s)) 0 ≡ false). chart_from_lem s (described_of s) n (n - 1) framed short small (let l = (last_ends s n framed).0 in omega arith)
    (rw e at fault) once)
    (true_or_false (eqb (length (described_of s)) 0))
