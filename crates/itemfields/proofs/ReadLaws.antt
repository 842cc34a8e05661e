-- What a vector or a feature is that was read from a record, of a cell or of an update; one of a cell can be held. Assumes nothing.
use Prim.Native.Nat.{ℕ, zero, suc, ◌+◌, ◌-◌, ◌^◌, ◌≤◌, ◌<◌}
use mathlib.Core.Bool.{Bool, true, false, not, ◌&&◌, ◌||◌}
use mathlib.Core.List.{List, [], ◌∷◌}
use mathlib.Core.Logic.{◌⊎◌, inl, inr, ⊎_elim}
use mathlib.Core.Path.{◌≡◌, refl, sym, ap, ◌∙◌}
use native.Mathlib.Nat.{pow-suc}
use native.Mathlib.Omega.{arith}
use lib.ListN.{length, get_or}
use lib.Dec.{eqb, leb}
use borrow.Author.Tests.{eq-eqb, ne_eqb, eqb-true, eqb-false, leb-true}
use Rattle.octets.proofs.ListLaws.{all_below, all_below_lem}
use Rattle.octets.specs.Lists.{is_in}
use Rattle.octets.specs.Number.{byte_at, num_at}
use Rattle.octets.proofs.Cases.{true_or_false, eq_or_ne, le_or_lt}
use Rattle.octets.proofs.Tests.{both, or_cases, never}
use Rattle.iso8211.specs.Field.{field_at}
use Rattle.entries.specs.Entries.Each.{each_none}
use Rattle.entries.proofs.EntriesLaws.{each_entries, entries_nil}
use Rattle.table.specs.Table.{row_of, table, first, VRID, ATTV, VRPT, SG2D, SG3D, FRID, FOID, ATTF, NATF, FFPT, FSPT, Row}
use Rattle.table.proofs.TableLaws.{row_past}
use Rattle.values.specs.Fault.{fault_at}
use Rattle.values.specs.Fault as fault
use Rattle.values.specs.Rule.{within, rcid_good, rver_good, ruin_good}
use Rattle.values.specs.Vrid.{is_vector, vrid_fault}
use Rattle.values.specs.Frid.{prim_good, frid_fault}
use Rattle.values.specs.Class.{objl_good}
use Rattle.layout.specs.Layout.{placed, opens, may_end, filled, shape_of, start}
use Rattle.layout.proofs.Promise.{full_vrid, full_frid}
use Rattle.fieldvalue.specs.Value.{is_attributes, field_fault, seen_before, seen_after}
use Rattle.items.specs.Identity.{id_at, rcnm_at, rcid_at, prim_at, objl_at, foid_at, version_at, ruin_at}
use Rattle.items.specs.Lists.{list_at, entries_at}
use Rattle.items.proofs.IdentityLaws.{num_one}
use Rattle.records.specs.Pieces.{Piece}
use Rattle.records.specs.Premises.{pieces_at}
use Rattle.itemfields.specs.Views.{kind_in, piece_laid, laid_in, valued_in, list_in, list_good, attributes_good, pointers_good}
use Rattle.items.specs.Item.{is_feature, grup_at, of_feature, list_of, Item, item_at}
use Rattle.itemfields.specs.Fields.{vector_kinds, feature_kinds}
use Rattle.itemfields.specs.Good.{Lists, Vector, Feature}
use Rattle.itemfields.proofs.KindLaws.{ListKind, attv, vrpt, sg2d, sg3d, attf, natf, ffpt, fspt}
use Rattle.itemfields.proofs.ViewLaws.{list_seen}
use Rattle.itemfields.proofs.FieldsLaws.{id_seen, at_front, class_small}
use Rattle.itemfields.proofs.JoinLaws.{step, absent, list_join}

-- ---- numbers of bytes
pub num_small : (s : List ℕ) → ((i : ℕ) → byte_at s i < 256) → (p n : ℕ) → num_at s p n < 256 ^ n
unfolding num_at
num_small s small p zero = omega arith
num_small s small p (suc n) = rw (pow-suc 256 n) (let a = small p in let b = num_small s small (suc p) n in omega arith)

-- ---- out of a fault of 0
pub none_first : (a b : ℕ) → fault.first a b ≡ 0 → (a ≡ 0) × (b ≡ 0)
unfolding fault.first
none_first a b h =
    ⊎_elim (λ (e : eqb a 0 ≡ true). (eqb-true a 0 e, rw e at h)) (λ (e : eqb a 0 ≡ false). absurd (eqb-false a 0 e (rw e at h))) (true_or_false (eqb a 0))

pub none_at : (i : ℕ) (good : Bool) → fault_at i good ≡ 0 → good ≡ true
unfolding fault_at
none_at i true h = refl
none_at i false h = absurd (omega arith)

-- ---- the head of a record
pub record Opened (update : Bool) (stage : ℕ) (marks : List ℕ) (aall nall : ℕ) (fs : List Piece) : Type 0 where
  pub one : Piece
  pub two : Piece
  pub rest : List Piece
  pub is : fs ≡ one ∷ two ∷ rest
  pub head : kind_in one ≡ first
  pub opening : opens stage (kind_in two) ≡ true
  pub full : filled (kind_in two) two.content ≡ true
  pub laid : laid_in update stage marks (kind_in two) rest ≡ true
  pub seen : List ℕ
  pub fine : field_fault update aall nall (kind_in two) (seen_before (kind_in one) (kind_in two) seen) two.content ≡ 0
  pub valued : valued_in update aall nall (kind_in two) (seen_after (kind_in two) (seen_before (kind_in one) (kind_in two) seen) two.content) rest ≡ true

pub opened : (update : Bool) (stage : ℕ) (marks : List ℕ) (aall nall : ℕ) (fs : List Piece) → 1 ≤ length fs → laid_in update stage marks start fs ≡ true
    → valued_in update aall nall start [] fs ≡ true → Opened update stage marks aall nall fs
unfolding laid_in piece_laid placed valued_in may_end
opened update stage marks aall nall [] some laid valued = absurd (omega arith)
opened update stage marks aall nall (f ∷ []) some laid valued =
    let a = both (piece_laid update stage marks start f) (may_end (kind_in f)) laid in
    let b = both (eqb (kind_in f) first) _ a.0 in
    let e : kind_in f ≡ first = eqb-true (kind_in f) first b.0 in
    never (rw e at a.1)
opened update stage marks aall nall (f ∷ g ∷ fs) some laid valued =
    let a = both (piece_laid update stage marks start f) (laid_in update stage marks (kind_in f) (g ∷ fs)) laid in
    let b = both (eqb (kind_in f) first) (eqb (get_or marks (kind_in f) 0) 1 && filled (kind_in f) f.content) a.0 in
    let e : kind_in f ≡ first = eqb-true (kind_in f) first b.0 in
    let c : laid_in update stage marks first (g ∷ fs) ≡ true = rw e at a.1 in
    let d = both (piece_laid update stage marks first g) (laid_in update stage marks (kind_in g) fs) c in
    let h = both (opens stage (kind_in g)) (eqb (get_or marks (kind_in g) 0) 1 && filled (kind_in g) g.content) d.0 in
    let i = both (eqb (get_or marks (kind_in g) 0) 1) (filled (kind_in g) g.content) h.1 in
    let met = seen_after (kind_in f) (seen_before start (kind_in f) []) f.content in
    let v = both (eqb (field_fault update aall nall (kind_in f) (seen_before start (kind_in f) []) f.content) 0) (valued_in update aall nall (kind_in f) met (g ∷ fs)) valued in
    let w = both (eqb (field_fault update aall nall (kind_in g) (seen_before (kind_in f) (kind_in g) met) g.content) 0)
    (valued_in update aall nall (kind_in g) (seen_after (kind_in g) (seen_before (kind_in f) (kind_in g) met) g.content) fs) v.1 in
    record {
      one = f;
      two = g;
      rest = fs;
      is = refl;
      head = e;
      opening = h.0;
      full = i.1;
      laid = d.1;
      seen = met;
      fine = eqb-true (field_fault update aall nall (kind_in g) (seen_before (kind_in f) (kind_in g) met) g.content) 0 w.0;
      valued = w.1;
    }

-- ---- identifier fields
pub record VridGood (update : Bool) (c : List ℕ) : Type 0 where
  pub class : is_vector (byte_at c 0) ≡ true
  pub id : rcid_good c 1 ≡ true
  pub version : rver_good c 5 ≡ true
  pub ruin : ruin_good update (byte_at c 7) ≡ true

vrid_good : (update : Bool) (c : List ℕ) → vrid_fault update c ≡ 0 → VridGood update c
unfolding vrid_fault
vrid_good update c h =
    let a = none_first _ _ h in
    let b = none_first _ _ a.1 in
    let d = none_first _ _ b.1 in
    record { class = none_at _ _ a.0; id = none_at _ _ b.0; version = none_at _ _ d.0; ruin = none_at _ _ d.1 }

pub record FridGood (update : Bool) (c : List ℕ) : Type 0 where
  pub class : eqb (byte_at c 0) 100 ≡ true
  pub id : rcid_good c 1 ≡ true
  pub prim : prim_good (byte_at c 5) ≡ true
  pub objl : objl_good (num_at c 7 2) ≡ true
  pub version : rver_good c 9 ≡ true
  pub ruin : ruin_good update (byte_at c 11) ≡ true

frid_good : (update : Bool) (c : List ℕ) → frid_fault update c ≡ 0 → FridGood update c
unfolding frid_fault
frid_good update c h =
    let a = none_first _ _ h in
    let b = none_first _ _ a.1 in
    let d = none_first _ _ b.1 in
    let e = none_first _ _ d.1 in
    let f = none_first _ _ e.1 in
    record { class = none_at _ _ a.0; id = none_at _ _ b.0; prim = none_at _ _ d.0; objl = none_at _ _ e.0; version = none_at _ _ f.0; ruin = none_at _ _ f.1 }

id_range : (c : List ℕ) (i : ℕ) → rcid_good c i ≡ true → (1 ≤ num_at c i 4) × (num_at c i 4 ≤ 4294967294)
unfolding rcid_good within
id_range c i h = let p = both (leb 1 (num_at c i 4)) (leb (num_at c i 4) 4294967294) h in (leb-true _ _ p.0, leb-true _ _ p.1)

version_range : (c : List ℕ) (i : ℕ) → rver_good c i ≡ true → 1 ≤ num_at c i 2
unfolding rver_good
version_range c i h = leb-true 1 (num_at c i 2) h

-- ---- lists
-- kinds of lists: those of group 2 and 3
list_few : (k : ℕ) → (row_of k).list ≡ true → k < first
unfolding row_of table
list_few k h = ⊎_elim (λ (l : first ≤ k). never (ap (λ (r : Row). r.list) (sym (row_past k l)) ∙ h)) (λ (l : k < first). l) (le_or_lt first k)

implied_both : (a b c : Bool) → (not (a && b) || c) ≡ true → a ≡ true → b ≡ true → c ≡ true
implied_both true true c h p q = h
implied_both true false c h p q = never q
implied_both false b c h p q = never p

vector_kinds_lem : (k : ℕ) → (row_of k).list ≡ true → (row_of k).group ≡ 2 → is_in k vector_kinds ≡ true
unfolding all_below row_of table is_in
vector_kinds_lem k list group =
    implied_both (row_of k).list (eqb (row_of k).group 2) (is_in k vector_kinds)
    (all_below_lem (λ j. not ((row_of j).list && eqb (row_of j).group 2) || is_in j vector_kinds) first k refl (list_few k list)) list (eq-eqb _ _ group)

feature_kinds_lem : (k : ℕ) → (row_of k).list ≡ true → (row_of k).group ≡ 3 → is_in k feature_kinds ≡ true
unfolding all_below row_of table is_in
feature_kinds_lem k list group =
    implied_both (row_of k).list (eqb (row_of k).group 3) (is_in k feature_kinds)
    (all_below_lem (λ j. not ((row_of j).list && eqb (row_of j).group 3) || is_in j feature_kinds) first k refl (list_few k list)) list (eq-eqb _ _ group)

of_four : (a b c d k : ℕ) → ListKind a → ListKind b → ListKind c → ListKind d → is_in k (a ∷ b ∷ c ∷ d ∷ []) ≡ true → ListKind k
unfolding is_in
of_four a b c d k ka kb kc kd h =
    ⊎_elim (λ (e : eqb a k ≡ true). rw (eqb-true a k e) at ka)
    (λ (x : (eqb b k || (eqb c k || (eqb d k || false))) ≡ true).
    ⊎_elim (λ (e : eqb b k ≡ true). rw (eqb-true b k e) at kb)
    (λ (y : (eqb c k || (eqb d k || false)) ≡ true).
    ⊎_elim (λ (e : eqb c k ≡ true). rw (eqb-true c k e) at kc)
    (λ (z : (eqb d k || false) ≡ true).
    ⊎_elim (λ (e : eqb d k ≡ true). rw (eqb-true d k e) at kd) (λ (n : false ≡ true). never n) (or_cases (eqb d k) false z))
    (or_cases (eqb c k) (eqb d k || false) y))
    (or_cases (eqb b k) (eqb c k || (eqb d k || false)) x))
    (or_cases (eqb a k) (eqb b k || (eqb c k || (eqb d k || false))) h)

-- two kinds of one place don't both come
rivals : (update : Bool) (stage : ℕ) (marks : List ℕ) (prev k l : ℕ) (fs : List Piece) → (row_of k).order ≡ (row_of l).order → (k ≡ l → ⊥) → (row_of prev).group ≤ 3
    → laid_in update stage marks prev fs ≡ true
    → (list_in k fs ≡ []) ⊎ (list_in l fs ≡ [])
unfolding list_in
rivals update stage marks prev k l [] same ne low laid = inl refl
rivals update stage marks prev k l (f ∷ fs) same ne low laid =
    let j = kind_in f in
    let st = step update stage marks prev f fs low laid in
    let group = st.after.group in
    let rest = rivals update stage marks j k l fs same ne (omega arith) st.more in
    ⊎_elim (λ (e : j ≡ k).
    inr (rw (ne_eqb j l (λ x. ne (sym e ∙ x))) (absent update stage marks j l fs (omega arith) st.more (λ r. ne (sym e ∙ r.again (ap (λ (i : ℕ). (row_of i).order) e ∙ same))))))
    (λ (no : j ≡ k → ⊥).
    ⊎_elim (λ (e : j ≡ l).
    inl (rw (ne_eqb j k no) (absent update stage marks j k fs (omega arith) st.more (λ r. no (r.again (ap (λ (i : ℕ). (row_of i).order) e ∙ sym same))))))
    (λ (no2 : j ≡ l → ⊥). rw (ne_eqb j k no, ne_eqb j l no2) rest) (eq_or_ne j l))
    (eq_or_ne j k)

good_empty : (update : Bool) (aall nall k : ℕ) → list_good update aall nall k [] ≡ true
unfolding list_good attributes_good pointers_good
good_empty update aall nall k =
    ⊎_elim (λ (a : is_attributes k ≡ true). rw a) (λ (a : is_attributes k ≡ false). ⊎_elim (λ (b : eqb k FFPT ≡ true). rw (a, b)) (λ (b : eqb k FFPT ≡ false). rw (a, b))
    (true_or_false (eqb k FFPT))) (true_or_false (is_attributes k))

-- the lists of a record behind its identifier fields, the last of kind prev
lists_told : (update : Bool) (stage : ℕ) (marks : List ℕ) (aall nall prev : ℕ) (kinds seen : List ℕ) (s : List ℕ) (at : ℕ) (fs rest : List Piece) → pieces_at s at ≡ fs → ((k : ℕ)
    → (row_of k).list ≡ true → list_in k fs ≡ list_in k rest)
    → (row_of prev).group ≤ 3 → (row_of prev).list ≡ false → ((k : ℕ) → (row_of k).list ≡ true → (row_of k).group ≡ (row_of prev).group → is_in k kinds ≡ true) → ((k : ℕ)
    → is_in k kinds ≡ true → ListKind k)
    → laid_in update stage marks prev rest ≡ true → valued_in update aall nall prev seen rest ≡ true → Lists update aall nall kinds (list_of s at)
unfolding list_of entries_at
lists_told update stage marks aall nall prev kinds seen s at fs rest is head low single within kind laid valued = record {
  each = λ k. ⊎_elim (λ (l : (row_of k).list ≡ true). rw l (each_entries (shape_of k) (list_at s at k))) (λ (l : (row_of k).list ≡ false). rw l each_none)
      (true_or_false (row_of k).list);
  only = λ k out. ⊎_elim (λ (l : (row_of k).list ≡ true).
      let gone : list_in k rest ≡ [] =
      absent update stage marks prev k rest low laid
      (λ r. absurd (let y = within k l (sym r.group) in let z : ◌≡◌ {A = Bool} false true = cc in let x : ◌≡◌ {A = ℕ} 0 1 = cc in omega arith)) in
      rw (l, list_seen s at k fs is, head k l, gone) (entries_nil (shape_of k)))
      (λ (l : (row_of k).list ≡ false). rw l) (true_or_false (row_of k).list);
  good = λ k. ⊎_elim (λ (l : (row_of k).list ≡ true).
      ⊎_elim (λ (i : is_in k kinds ≡ true).
      rw (l, list_seen s at k fs is, head k l)
      (list_join update stage marks aall nall prev k seen rest (kind k i)
      (λ e. absurd (let f : (row_of prev).list ≡ true = rw e l in let z : ◌≡◌ {A = Bool} false true = cc in let x : ◌≡◌ {A = ℕ} 0 1 = cc in omega arith)) low laid valued))
      (λ (i : is_in k kinds ≡ false).
      let gone : list_in k rest ≡ [] =
      absent update stage marks prev k rest low laid
      (λ r. absurd (let y = within k l (sym r.group) in let z : ◌≡◌ {A = Bool} false true = cc in let x : ◌≡◌ {A = ℕ} 0 1 = cc in omega arith)) in
      rw (l, list_seen s at k fs is, head k l, gone, entries_nil (shape_of k)) (good_empty update aall nall k)) (true_or_false (is_in k kinds)))
      (λ (l : (row_of k).list ≡ false). rw l (good_empty update aall nall k)) (true_or_false (row_of k).list);
}

-- ---- objects
-- a field that is no list brings nothing
other_past : (k j : ℕ) (f : Piece) (rest : List Piece) → kind_in f ≡ j → (row_of j).list ≡ false → (row_of k).list ≡ true → list_in k (f ∷ rest) ≡ list_in k rest
unfolding list_in
other_past k j f rest e single list =
    rw (ne_eqb (kind_in f) k (λ x. absurd (let l : (row_of k).list ≡ false = rw (sym x ∙ e) single in let z : ◌≡◌ {A = Bool} false true = cc in let y : ◌≡◌ {A = ℕ} 0 1 =
    cc in omega arith)))

empty_list : (s : List ℕ) (at k : ℕ) (fs rest : List Piece) → pieces_at s at ≡ fs → ((row_of k).list ≡ true → list_in k fs ≡ list_in k rest) → list_in k rest ≡ [] → list_of s at k ≡ []
unfolding list_of entries_at
empty_list s at k fs rest is head e =
    ⊎_elim (λ (l : (row_of k).list ≡ true). rw (l, list_seen s at k fs is, head l, e) (entries_nil (shape_of k))) (λ (l : (row_of k).list ≡ false). rw l) (true_or_false (row_of k).list)

-- FOID behind FRID
pub record Foided (update : Bool) (stage : ℕ) (marks : List ℕ) (aall nall : ℕ) (fs : List Piece) : Type 0 where
  pub three : Piece
  pub rest : List Piece
  pub is : fs ≡ three ∷ rest
  pub kind : kind_in three ≡ FOID
  pub full : filled (kind_in three) three.content ≡ true
  pub laid : laid_in update stage marks (kind_in three) rest ≡ true
  pub seen : List ℕ
  pub valued : valued_in update aall nall (kind_in three) seen rest ≡ true

foided : (update : Bool) (stage : ℕ) (marks : List ℕ) (aall nall : ℕ) (seen : List ℕ) (fs : List Piece) → laid_in update stage marks FRID fs ≡ true
    → valued_in update aall nall FRID seen fs ≡ true → Foided update stage marks aall nall fs
unfolding laid_in valued_in may_end row_of table
foided update stage marks aall nall seen [] laid valued = never laid
foided update stage marks aall nall seen (f ∷ fs) laid valued =
    let st = step update stage marks FRID f fs (omega arith) laid in
    let met = seen_before FRID (kind_in f) seen in
    let p = both (eqb (field_fault update aall nall (kind_in f) met f.content) 0) (valued_in update aall nall (kind_in f) (seen_after (kind_in f) met f.content) fs) valued in
    record { three = f; rest = fs; is = refl; kind = st.after.identified refl; full = st.full; laid = st.more; seen = seen_after (kind_in f) met f.content; valued = p.1 }

-- a vector, and a feature, of a record with this RUIN
pub record VectorRead (update : Bool) (aall nall ruin : ℕ) (t : Item) : Type 0 where
  pub item : Vector update aall nall t
  pub ruin_is_good : ruin_good update ruin ≡ true

pub record FeatureRead (update : Bool) (aall nall ruin : ℕ) (t : Item) : Type 0 where
  pub item : Feature update aall nall t
  pub ruin_is_good : ruin_good update ruin ≡ true

module _ (update : Bool) (stage : ℕ) (marks : List ℕ) (aall nall : ℕ) (s : List ℕ) (at : ℕ) (small : (i : ℕ) → byte_at s i < 256)
    (o : Opened update stage marks aall nall (pieces_at s at)) where
  pub vector_read : kind_in o.two ≡ VRID → VectorRead update aall nall (ruin_at s at) (item_at s at)
  unfolding rcnm_at rcid_at version_at ruin_at of_feature is_feature row_of table field_fault
  vector_read vrid =
      let c = o.two.content in
      let fs = o.one ∷ o.two ∷ o.rest in
      let is = o.is in
      let long : length c ≡ 8 = full_vrid c (rw vrid at o.full) in
      let g = vrid_good update c (rw vrid at o.fine) in
      let a : byte_at s (id_at s at) ≡ byte_at c 0 = at_front s (id_at s at) ∙ id_seen s at o.one o.two o.rest 0 1 is (omega arith) ∙ num_one c 0 in
      let b : num_at s (id_at s at + 1) 4 ≡ num_at c 1 4 = id_seen s at o.one o.two o.rest 1 4 is (omega arith) in
      let d : num_at s (id_at s at + 5) 2 ≡ num_at c 5 2 = id_seen s at o.one o.two o.rest 5 2 is (omega arith) in
      let ru : byte_at s (id_at s at + 7) ≡ byte_at c 7 = sym (num_one s (id_at s at + 7)) ∙ id_seen s at o.one o.two o.rest 7 1 is (omega arith) ∙ num_one c 7 in
      let class : is_vector (byte_at s (id_at s at)) ≡ true = rw a g.class in
      let other = class_small (byte_at s (id_at s at)) class in
      let ne : eqb (byte_at s (id_at s at)) 100 ≡ false = ne_eqb (byte_at s (id_at s at)) 100 (λ e. omega arith) in
      let r = id_range c 1 g.id in
      let low = r.0 in
      let high = r.1 in
      let v = version_range c 5 g.version in
      let vs = num_small s small (id_at s at + 5) 2 in
      let laid : laid_in update stage marks VRID o.rest ≡ true = rw vrid at o.laid in
      let head : (k : ℕ) → (row_of k).list ≡ true → list_in k fs ≡ list_in k o.rest =
      λ k l. other_past k first o.one (o.two ∷ o.rest) o.head refl l ∙ other_past k VRID o.two o.rest vrid refl l in
      record {
        item = record {
          class = class;
          id_low = rw b low;
          id_high = rw b high;
          version_low = rw (ne, d) v;
          version_high = rw ne (omega arith);
          bare = (rw ne, rw ne, rw ne, rw ne);
          lists = lists_told update stage marks aall nall VRID vector_kinds _ s at fs o.rest is head (omega arith) refl vector_kinds_lem
              (λ k i. of_four ATTV VRPT SG2D SG3D k attv vrpt sg2d sg3d i) laid (rw vrid at o.valued);
          either = ⊎_elim (λ (e : list_in SG2D o.rest ≡ []). inl (empty_list s at SG2D fs o.rest is (head SG2D) e))
              (λ (e : list_in SG3D o.rest ≡ []). inr (empty_list s at SG3D fs o.rest is (head SG3D) e))
              (rivals update stage marks VRID SG2D SG3D o.rest refl (λ e. omega arith) (omega arith) laid);
        };
        ruin_is_good = rw (ne, ru) g.ruin;
      }

  pub feature_read : kind_in o.two ≡ FRID → FeatureRead update aall nall (ruin_at s at) (item_at s at)
  unfolding rcnm_at rcid_at version_at ruin_at prim_at grup_at objl_at foid_at of_feature is_feature row_of table field_fault
  feature_read frid =
      let c = o.two.content in
      let is = o.is in
      let long : length c ≡ 12 = full_frid c (rw frid at o.full) in
      let g = frid_good update c (rw frid at o.fine) in
      let ob = foided update stage marks aall nall _ o.rest (rw frid at o.laid) (rw frid at o.valued) in
      let fs = o.one ∷ o.two ∷ o.rest in
      let id = id_at s at in
      let a : byte_at s id ≡ byte_at c 0 = at_front s id ∙ id_seen s at o.one o.two o.rest 0 1 is (omega arith) ∙ num_one c 0 in
      let b : num_at s (id + 1) 4 ≡ num_at c 1 4 = id_seen s at o.one o.two o.rest 1 4 is (omega arith) in
      let p : byte_at s (id + 5) ≡ byte_at c 5 = sym (num_one s (id + 5)) ∙ id_seen s at o.one o.two o.rest 5 1 is (omega arith) ∙ num_one c 5 in
      let j : num_at s (id + 7) 2 ≡ num_at c 7 2 = id_seen s at o.one o.two o.rest 7 2 is (omega arith) in
      let d : num_at s (id + 9) 2 ≡ num_at c 9 2 = id_seen s at o.one o.two o.rest 9 2 is (omega arith) in
      let ru : byte_at s (id + 11) ≡ byte_at c 11 = sym (num_one s (id + 11)) ∙ id_seen s at o.one o.two o.rest 11 1 is (omega arith) ∙ num_one c 11 in
      let hundred : byte_at s id ≡ 100 = a ∙ eqb-true (byte_at c 0) 100 g.class in
      let yes100 : eqb (byte_at s id) 100 ≡ true = eq-eqb (byte_at s id) 100 hundred in
      let r = id_range c 1 g.id in
      let low = r.0 in
      let high = r.1 in
      let v = version_range c 9 g.version in
      let vs = num_small s small (id + 9) 2 in
      let js = num_small s small (id + 7) 2 in
      let fsmall = num_small s small (field_at s at 2).start 8 in
      let ps = small (id + 5) in
      let gs = small (id + 6) in
      let head : (k : ℕ) → (row_of k).list ≡ true → list_in k fs ≡ list_in k ob.rest =
      λ k l. other_past k first o.one (o.two ∷ o.rest) o.head refl l ∙ other_past k FRID o.two o.rest frid refl l
      ∙ ap (list_in k) ob.is ∙ other_past k FOID ob.three ob.rest ob.kind refl l in
      record {
        item = record {
          class = hundred;
          id_low = rw b low;
          id_high = rw b high;
          version_low = rw (yes100, d) v;
          version_high = rw yes100 (omega arith);
          prim_is_good = rw (yes100, p) g.prim;
          prim_small = rw yes100 ps;
          grup_small = rw yes100 gs;
          objl_is_good = rw (yes100, j) g.objl;
          objl_small = rw yes100 js;
          foid_small = rw yes100 fsmall;
          lists = lists_told update stage marks aall nall FOID feature_kinds _ s at fs ob.rest is head (omega arith) refl feature_kinds_lem
              (λ k i. of_four ATTF NATF FFPT FSPT k attf natf ffpt fspt i) (rw ob.kind at ob.laid) (rw ob.kind at ob.valued);
        };
        ruin_is_good = rw (yes100, ru) g.ruin;
      }

-- ---- those of a cell
module _ (stage : ℕ) (marks : List ℕ) (aall nall : ℕ) (s : List ℕ) (at : ℕ) (small : (i : ℕ) → byte_at s i < 256) (o : Opened false stage marks aall nall (pieces_at s at)) where
  pub vector_told : kind_in o.two ≡ VRID → Vector false aall nall (item_at s at)
  vector_told vrid = (vector_read false stage marks aall nall s at small o vrid).item

  pub feature_told : kind_in o.two ≡ FRID → Feature false aall nall (item_at s at)
  feature_told frid = (feature_read false stage marks aall nall s at small o frid).item
