-- Topology as propositions and the codes 17 to 19 say the same, both ways. Assumes nothing.
use Prim.Native.Nat.{ℕ, ◌+◌}
use mathlib.Core.Bool.{true, false, cond, ◌&&◌}
use mathlib.Core.List.{List, [], ◌∷◌}
use mathlib.Core.Logic.{⊎_elim}
use mathlib.Core.Path.{◌≡◌, refl}
use native.Mathlib.Omega.{arith}
use lib.Dec.{eqb}
use borrow.Author.Tests.{eqb-true, eqb-false, eq-eqb, ne_eqb}
use Rattle.octets.specs.Number.{num_at}
use Rattle.octets.proofs.Cases.{true_or_false}
use Rattle.octets.proofs.Tests.{both}
use Rattle.table.specs.Table.{VRPT, FFPT, FSPT}
use Rattle.items.specs.Item.{Item, item_name}
use Rattle.lookups.specs.Lookup.{name_in, found_code}
use Rattle.names.specs.Held.{place_from, place_in, object_in}
use Rattle.vectorshape.specs.Shape.{shape_good, shape_code}
use Rattle.pointer.specs.Pointer.{names_code, lnams_code, pointer_code}
use Rattle.answers.specs.First.{first_code, first_by}
use Rattle.ring.specs.Ring.{node_in, rings_good, ring_code}
use Rattle.topology.specs.Topology.{item_code, code_among, fault_from, topology_of}
use Rattle.held.specs.Chart.{Chart}
use Rattle.changes.specs.Rules.{All}
use Rattle.changes.specs.Rules.All.{all_none, all_more}
use Rattle.changes.proofs.AmendLaws.{no_code}
use Rattle.verdict.specs.Verdict.{chart_topology}
use Rattle.demands.specs.Sound.{Any, Named, Related, SoundAmong, comf_of, Sound}
use Rattle.demands.specs.Sound.Any.{any_here, any_later}
use Rattle.answers.specs.Answer.{refusal}
use Rattle.answers.specs.declared.refusal.Refusal.{Refusal}

-- ---- the first of two codes
first_told : (a b : ℕ) → first_code a b ≡ 0 → (a ≡ 0) × (b ≡ 0)
unfolding first_by
first_told a b h =
    ⊎_elim (λ (e : eqb a 0 ≡ true). (eqb-true a 0 e, rw e at h)) (λ (e : eqb a 0 ≡ false). absurd (eqb-false a 0 e (rw e at h))) (true_or_false (eqb a 0))

first_tested : (a b : ℕ) → a ≡ 0 → b ≡ 0 → first_code a b ≡ 0
unfolding first_by
first_tested a b e h = rw (eq-eqb a 0 e) h

-- ---- a name
place_told : (name k : ℕ) (ts : List Item) → found_code (place_from k ts name) ≡ 0 → Any (λ (t : Item). item_name t ≡ name) ts
unfolding place_from found_code
place_told name k [] h = absurd (let z : ◌≡◌ {A = ℕ} 18 0 = h in omega arith)
place_told name k (t ∷ ts) h =
    ⊎_elim (λ (e : eqb (item_name t) name ≡ true). any_here (eqb-true (item_name t) name e))
    (λ (e : eqb (item_name t) name ≡ false). any_later (place_told name (k + 1) ts (rw e at h))) (true_or_false (eqb (item_name t) name))

place_tested : (name k : ℕ) {ts : List Item} → Any (λ (t : Item). item_name t ≡ name) ts → found_code (place_from k ts name) ≡ 0
unfolding place_from found_code
place_tested name k (any_here {e = t} h) = rw (eq-eqb (item_name t) name h)
place_tested name k (any_later {e = t} {es = ts} h) =
    ⊎_elim (λ (e : eqb (item_name t) name ≡ true). rw e) (λ (e : eqb (item_name t) name ≡ false). rw e (place_tested name (k + 1) h))
    (true_or_false (eqb (item_name t) name))

names_told : (ts : List Item) (es : List (List ℕ)) → names_code (place_in ts) es ≡ 0 → All (Named ts) es
unfolding names_code place_in
names_told ts [] h = all_none
names_told ts (e ∷ es) h =
    let p = first_told (found_code (place_from 0 ts (name_in e))) (names_code (place_in ts) es) h in
    all_more (place_told (name_in e) 0 ts p.0) (names_told ts es p.1)

names_tested : (ts : List Item) {es : List (List ℕ)} → All (Named ts) es → names_code (place_in ts) es ≡ 0
unfolding names_code place_in
names_tested ts all_none = refl
names_tested ts (all_more {e = e} {es = es} h rest) =
    first_tested (found_code (place_from 0 ts (name_in e))) (names_code (place_in ts) es) (place_tested (name_in e) 0 h) (names_tested ts rest)

-- ---- a FOID
foid_told : (foid : ℕ) (ts : List Item) → object_in ts foid ≡ true → Any (λ (t : Item). (t.rcnm ≡ 100) × (t.foid ≡ foid)) ts
unfolding object_in
foid_told foid [] h = absurd (let z : ◌≡◌ {A = ℕ} 0 1 = cc in omega arith)
foid_told foid (t ∷ ts) h =
    ⊎_elim (λ (e : (eqb t.rcnm 100 && eqb t.foid foid) ≡ true).
    let p = both (eqb t.rcnm 100) (eqb t.foid foid) e in
    any_here (eqb-true t.rcnm 100 p.0, eqb-true t.foid foid p.1))
    (λ (e : (eqb t.rcnm 100 && eqb t.foid foid) ≡ false). any_later (foid_told foid ts (rw e at h))) (true_or_false (eqb t.rcnm 100 && eqb t.foid foid))

foid_tested : (foid : ℕ) {ts : List Item} → Any (λ (t : Item). (t.rcnm ≡ 100) × (t.foid ≡ foid)) ts → object_in ts foid ≡ true
unfolding object_in
foid_tested foid (any_here {e = t} h) = rw (eq-eqb t.rcnm 100 h.0, eq-eqb t.foid foid h.1)
foid_tested foid (any_later {e = t} {es = ts} h) =
    ⊎_elim (λ (e : (eqb t.rcnm 100 && eqb t.foid foid) ≡ true). rw e)
    (λ (e : (eqb t.rcnm 100 && eqb t.foid foid) ≡ false). rw e (foid_tested foid h)) (true_or_false (eqb t.rcnm 100 && eqb t.foid foid))

lnams_told : (ts : List Item) (es : List (List ℕ)) → lnams_code (object_in ts) es ≡ 0 → All (Related ts) es
unfolding lnams_code
lnams_told ts [] h = all_none
lnams_told ts (e ∷ es) h =
    let p = no_code (object_in ts (num_at e 0 8)) (lnams_code (object_in ts) es) 18 (λ z. omega arith) h in
    all_more (foid_told (num_at e 0 8) ts p.0) (lnams_told ts es p.1)

lnams_tested : (ts : List Item) {es : List (List ℕ)} → All (Related ts) es → lnams_code (object_in ts) es ≡ 0
unfolding lnams_code
lnams_tested ts all_none = refl
lnams_tested ts (all_more {e = e} {es = es} h rest) = rw (foid_tested (num_at e 0 8) h) (lnams_tested ts rest)

-- ---- one object
module _ (comf : ℕ) (all : List Item) (t : Item) where
  abbrev items : List Item
  items = all

  shape_told : shape_code comf t ≡ 0 → shape_good comf t ≡ true
  unfolding shape_code
  shape_told h = (no_code (shape_good comf t) 0 17 (λ z. omega arith) h).0

  shape_tested : shape_good comf t ≡ true → shape_code comf t ≡ 0
  unfolding shape_code
  shape_tested h = rw h

  vector_told : pointer_code (place_in items) (object_in items) t ≡ 0 → (t.rcnm ≡ 100 → ⊥) → All (Named all) (t.lists VRPT)
  unfolding pointer_code
  vector_told h ne = names_told all (t.lists VRPT) (rw (ne_eqb t.rcnm 100 ne) at h)

  feature_told : pointer_code (place_in items) (object_in items) t ≡ 0 → t.rcnm ≡ 100
      → (lnams_code (object_in items) (t.lists FFPT) ≡ 0) × (names_code (place_in items) (t.lists FSPT) ≡ 0)
  unfolding pointer_code
  feature_told h e = first_told (lnams_code (object_in items) (t.lists FFPT)) (names_code (place_in items) (t.lists FSPT)) (rw (eq-eqb t.rcnm 100 e) at h)

  rings_told : ring_code (node_in items) t ≡ 0 → t.rcnm ≡ 100 → t.prim ≡ 3 → rings_good (node_in items) (t.lists FSPT) ≡ true
  unfolding ring_code
  rings_told h e f = (no_code (rings_good (node_in items) (t.lists FSPT)) 0 19 (λ z. omega arith) (rw (eq-eqb t.rcnm 100 e, eq-eqb t.prim 3 f) at h)).0

  object_told : code_among comf items t ≡ 0 → SoundAmong comf all t
  unfolding code_among item_code
  object_told h =
      let pointer = pointer_code (place_in items) (object_in items) t in
      let ring = ring_code (node_in items) t in
      let p = first_told (shape_code comf t) (first_code pointer ring) h in
      let q = first_told pointer ring p.1 in
      record {
        shape = shape_told p.0;
        ends = vector_told q.0;
        related = λ e. lnams_told all (t.lists FFPT) (feature_told q.0 e).0;
        spatial = λ e. names_told all (t.lists FSPT) (feature_told q.0 e).1;
        rings = rings_told q.1;
      }

  module _ (so : SoundAmong comf all t) where
    pointer_tested : pointer_code (place_in items) (object_in items) t ≡ 0
    unfolding pointer_code
    pointer_tested =
        ⊎_elim (λ (e : eqb t.rcnm 100 ≡ true).
        let is = eqb-true t.rcnm 100 e in
        let related = lnams_tested all (so.related is) in
        let spatial = names_tested all (so.spatial is) in
        rw e (first_tested (lnams_code (object_in items) (t.lists FFPT)) (names_code (place_in items) (t.lists FSPT)) related spatial))
        (λ (e : eqb t.rcnm 100 ≡ false). rw e (names_tested all (so.ends (eqb-false t.rcnm 100 e)))) (true_or_false (eqb t.rcnm 100))

    rings_tested : ring_code (node_in items) t ≡ 0
    unfolding ring_code
    rings_tested =
        ⊎_elim (λ (e : (eqb t.rcnm 100 && eqb t.prim 3) ≡ true).
        let p = both (eqb t.rcnm 100) (eqb t.prim 3) e in
        rw (e, so.rings (eqb-true t.rcnm 100 p.0) (eqb-true t.prim 3 p.1)))
        (λ (e : (eqb t.rcnm 100 && eqb t.prim 3) ≡ false). rw e) (true_or_false (eqb t.rcnm 100 && eqb t.prim 3))

    object_tested : code_among comf items t ≡ 0
    unfolding code_among item_code
    object_tested =
        let pointer = pointer_code (place_in items) (object_in items) t in
        let ring = ring_code (node_in items) t in
        first_tested (shape_code comf t) (first_code pointer ring) (shape_tested so.shape) (first_tested pointer ring pointer_tested rings_tested)

-- ---- all objects
passed : (code k place : ℕ) (rest : Refusal) → (cond (eqb code 0) rest (refusal code k place)).code ≡ 0 → (code ≡ 0) × (rest.code ≡ 0)
passed code k place rest h =
    ⊎_elim (λ (e : eqb code 0 ≡ true). (eqb-true code 0 e, rw e at h))
    (λ (e : eqb code 0 ≡ false). let z : code ≡ 0 = rw e at h in absurd (eqb-false code 0 e z)) (true_or_false (eqb code 0))

passes : (code k place : ℕ) (rest : Refusal) → code ≡ 0 → rest.code ≡ 0 → (cond (eqb code 0) rest (refusal code k place)).code ≡ 0
passes code k place rest e h = rw (eq-eqb code 0 e) h

module _ (comf : ℕ) (all : List Item) where
  abbrev code : Item → ℕ
  code = code_among comf all

  all_told : (k : ℕ) (ts : List Item) → (fault_from code k ts).code ≡ 0 → All (SoundAmong comf all) ts
  unfolding fault_from
  all_told k [] h = all_none
  all_told k (t ∷ ts) h =
      let p = passed (code t) k 0 (fault_from code (k + 1) ts) h in
      all_more (object_told comf all t p.0) (all_told (k + 1) ts p.1)

  all_tested : (k : ℕ) {ts : List Item} → All (SoundAmong comf all) ts → (fault_from code k ts).code ≡ 0
  unfolding fault_from
  all_tested k all_none = refl
  all_tested k (all_more {e = t} {es = ts} so rest) =
      passes (code t) k 0 (fault_from code (k + 1) ts) (object_tested comf all t so) (all_tested (k + 1) rest)

-- ---- the chart
pub sound_told : (c : Chart) → (chart_topology c).code ≡ 0 → Sound c
unfolding chart_topology topology_of
sound_told c h = record { each = all_told (comf_of c) c.items 3 c.items h }

pub sound_tested : (c : Chart) → Sound c → (chart_topology c).code ≡ 0
unfolding chart_topology topology_of
sound_tested c so = all_tested (comf_of c) c.items 3 so.each
