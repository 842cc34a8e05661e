-- Laws of a feature that the quick tests pass. Assumes nothing.
use Prim.Native.Nat.{ℕ, ◌+◌, ◌-◌, ◌/◌, ◌≤◌}
use mathlib.Core.Bool.{Bool, true, false, not, cond, ◌&&◌}
use mathlib.Core.List.{List, []}
use mathlib.Core.Path.{◌≡◌, refl, sym, ap, ◌∙◌}
use native.Mathlib.Omega.{arith}
use lib.ListN.{length, take, drop}
use lib.Dec.{eqb}
use borrow.Author.Tests.{eq-eqb, ne_eqb, eqb-true}
use Rattle.octets.specs.Number.{byte_at, num_at}
use Rattle.octets.specs.Premises.{Reads}
use Rattle.octets.proofs.Tests.{both, told_yes}
use Rattle.words.specs.Words.{words_in}
use Rattle.table.specs.Table.{FFPT, FSPT}
use Rattle.answers.specs.First.{first_by}
use Rattle.values.specs.Class.{is_collection}
use Rattle.entries.specs.Entries.{entries_of}
use Rattle.entries.specs.Rules.{all_of}
use Rattle.layout.specs.Layout.{shape_of}
use Rattle.items.specs.Lists.{entries_at}
use Rattle.items.specs.Identity.{id_at, rcnm_at, prim_at, objl_at}
use Rattle.items.specs.Item.{Item, item_at}
use Rattle.items.specs.Premises.{Identified}
use Rattle.items.proofs.IdentityLaws.{num_one}
use Rattle.items.proofs.ItemLaws.{ffpt_said, fspt_said, feature_said}
use Rattle.lookups.specs.LookupWords.{index_of}
use Rattle.vectorshape.specs.Shape.{spatial_good, spatial_count, feature_good, shape_good, shape_code}
use Rattle.pointer.specs.Pointer.{names_code, pointer_code}
use Rattle.ring.specs.Ring.{rings_good, ring_code}
use Rattle.ring.specs.Walk.{node_at, named_and}
use Rattle.spans.specs.Spans.{SpanIn, SpanOf}
use Rattle.spans.specs.declared.Span.{Span}
use Rattle.spans.proofs.TagLaws.{ffpt_tag}
use Rattle.spans.proofs.StrideLaws.{rest_end, rest_count, fspt_lies}
use Rattle.quickvectors.proofs.CoordinateLaws.{never}
use Rattle.quickfeatures.specs.Quick.{pointers, NamesTold, shaped_by, SpatialsTold, RelatedTold, Drawn}
use Rattle.quickfeatures.specs.Trod.{area_sound, RingsTold}

-- ---- spatials_quick
pub spatials_no : (s : List ℕ) (sp : Span) (prim : ℕ) (q : Bool) (work : List ℕ) (m v : ℕ) → SpatialsTold s sp prim q work m v false
spatials_no s sp prim q work m v = record {
  order = λ (e : false ≡ true). never e;
  shape = λ (e : false ≡ true). never e;
  names = λ (e : false ≡ true). never e;
  rings = λ (e : false ≡ true). never e;
}

-- a rule of the code of names and rings together, taken apart
named_out : (n : ℕ) (shaped rings : Bool) → (shaped && (eqb n 0 && rings)) ≡ true → (shaped ≡ true) × (n ≡ 0) × (rings ≡ true)
named_out n shaped rings h =
    let p = both shaped (eqb n 0 && rings) h in
    let q = both (eqb n 0) rings p.1 in
    (p.0, eqb-true n 0 q.0, q.1)

module _ (s : List ℕ) (sp : Span) (prim : ℕ) (q : Bool) (work : List ℕ) (m v : ℕ) (inside : SpanIn s sp) (order : sp.from ≤ sp.to) where
  no_pointers : sp.from ≡ sp.to → pointers s sp ≡ []
  no_pointers e = rest_end 8 s sp.from sp.to (inside.within order) (omega arith)

  pub spatials_bare : prim ≡ 255 → not q ≡ false → SpatialsTold s sp prim q work m v (eqb sp.from sp.to)
  unfolding shaped_by names_code
  spatials_bare all t = record {
    order = λ (e : eqb sp.from sp.to ≡ true). order;
    shape = λ (e : eqb sp.from sp.to ≡ true). rw (all, told_yes q q refl t, no_pointers (eqb-true sp.from sp.to e));
    names = λ (e : eqb sp.from sp.to ≡ true). rw (no_pointers (eqb-true sp.from sp.to e));
    rings = λ (e : eqb sp.from sp.to ≡ true) (three : prim ≡ 3). absurd (omega arith);
  }

  module _ (ne : prim ≡ 255 → ⊥) (drawn : q ≡ false) (f : Bool) (fits : f ≡ spatial_count prim ((sp.to - sp.from) / 8)) (enough : not f ≡ false) where
    shaped : all_of (spatial_good prim) (pointers s sp) ≡ true → shaped_by prim q (pointers s sp) ≡ true
    unfolding shaped_by
    shaped all =
        let count : length (pointers s sp) ≡ (sp.to - sp.from) / 8 = rest_count 8 s sp.from sp.to (inside.within order) (omega arith) in
        rw (ne_eqb prim 255 ne, drawn, count, told_yes f (spatial_count prim ((sp.to - sp.from) / 8)) fits enough, all)

    pub spatials_named : (r : Bool) → (prim ≡ 3 → ⊥) → NamesTold s sp.from sp.to prim work m r → SpatialsTold s sp prim q work m v r
    spatials_named r other told = record {
      order = λ (e : r ≡ true). order;
      shape = λ (e : r ≡ true). shaped (told.shape e);
      names = λ (e : r ≡ true). told.names e;
      rings = λ (e : r ≡ true) (three : prim ≡ 3). absurd (other three);
    }

    ringed : RingsTold s sp.from sp.to work m v true → (all_of (spatial_good 3) (pointers s sp) ≡ true) × (names_code (index_of (words_in work 0 m)) (pointers s sp) ≡ 0)
        × (rings_good (node_at (words_in work 0 m) (words_in work m v)) (pointers s sp) ≡ true)
    unfolding area_sound named_and
    ringed told =
        named_out (names_code (index_of (words_in work 0 m)) (pointers s sp)) (all_of (spatial_good 3) (pointers s sp))
        (rings_good (node_at (words_in work 0 m) (words_in work m v)) (pointers s sp)) (told.is refl)

    pub spatials_ringed : (r : Bool) → prim ≡ 3 → RingsTold s sp.from sp.to work m v r → SpatialsTold s sp prim q work m v r
    spatials_ringed r three told = record {
      order = λ (e : r ≡ true). order;
      shape = λ (e : r ≡ true). shaped (rw three (ringed (rw e at told)).0);
      names = λ (e : r ≡ true). (ringed (rw e at told)).1;
      rings = λ (e : r ≡ true) (is : prim ≡ 3). (ringed (rw e at told)).2;
    }

-- ---- feature_quick
pub drawn_no : (work : List ℕ) (m v : ℕ) (i : Item) → Drawn work m v i false
drawn_no work m v i = record { is = λ (e : false ≡ true). never e }

pub prim_room : (s : List ℕ) (at id : ℕ) → id ≡ id_at s at → Identified s at → rcnm_at s at ≡ 100 → id + 5 + 1 ≤ length s
prim_room s at id there known feature = let long = (known.feature feature).long in omega arith

pub objl_room : (s : List ℕ) (at id : ℕ) → id ≡ id_at s at → Identified s at → rcnm_at s at ≡ 100 → id + 7 + 2 ≤ length s
objl_room s at id there known feature = let long = (known.feature feature).long in omega arith

sure : (b : Bool) → not b ≡ false → b ≡ true
sure true e = refl
sure false e = never (sym e)

module _ (s : List ℕ) (at id prim objl : ℕ) (there : id ≡ id_at s at) (feature : rcnm_at s at ≡ 100) (prim_read : Reads s (id + 5) 1 prim) (objl_read : Reads s (id + 7) 2 objl)
    (q : Bool) (collection : q ≡ is_collection objl) (related spatial : Span) (relations : SpanOf s at 1179013204 related) (geometry : SpanOf s at 1179865172 spatial)
    (work : List ℕ) (m v : ℕ) where
  prim_is : prim ≡ prim_at s at
  unfolding prim_at
  prim_is = prim_read.is ∙ num_one s (id + 5) ∙ ap (λ (i : ℕ). byte_at s (i + 5)) there

  objl_is : objl ≡ objl_at s at
  unfolding objl_at
  objl_is = objl_read.is ∙ ap (λ (i : ℕ). num_at s (i + 7) 2) there

  module _ (p r : Bool) (first : SpatialsTold s spatial prim q work m v p) (pass : not p ≡ false) (second : RelatedTold s related work m v r) where
    drawn_are : entries_at s at FSPT ≡ pointers s spatial
    drawn_are = (fspt_lies s at spatial geometry (first.order (sure p pass))).are

    related_are : r ≡ true → entries_at s at FFPT ≡ entries_of (shape_of FFPT) (take (related.to - related.from) (drop related.from s))
    unfolding entries_at
    related_are e = ap (λ (l : List ℕ). entries_of (shape_of FFPT) l) (relations.is FFPT ffpt_tag (second.order e))

    good : feature_good (item_at s at) ≡ true
    unfolding feature_good shaped_by
    good =
        let class : is_collection (objl_at s at) ≡ q = sym (collection ∙ ap is_collection objl_is) in
        rw (fspt_said s at, feature_said (rcnm_at s at) (prim_at s at) feature, feature_said (rcnm_at s at) (objl_at s at) feature, ← prim_is, class, drawn_are)
        (first.shape (sure p pass))

    ring_none : (rings : Bool) → (prim ≡ 3 → rings ≡ true) → ◌≡◌ {A = ℕ} (cond (eqb prim 3) (cond rings 0 19) 0) 0
    ring_none rings h = by (eqb prim 3) (λ (e : eqb prim 3 ≡ true). h (eqb-true prim 3 e))
      where
        by : (b : Bool) → (b ≡ true → rings ≡ true) → ◌≡◌ {A = ℕ} (cond b (cond rings 0 19) 0) 0
        by true g = rw (g refl)
        by false g = refl

    pub feature_drawn : Drawn work m v (item_at s at) r
    unfolding shape_code shape_good pointer_code ring_code first_by
    feature_drawn = record {
      is = λ (e : r ≡ true) (comf : ℕ).
          record {
            shape = rw (eq-eqb (rcnm_at s at) 100 feature, good);
            pointer = rw (eq-eqb (rcnm_at s at) 100 feature, ffpt_said s at, fspt_said s at, related_are e, second.is e, drawn_are) (first.names (sure p pass));
            ring = rw (eq-eqb (rcnm_at s at) 100 feature, feature_said (rcnm_at s at) (prim_at s at) feature, fspt_said s at, ← prim_is, drawn_are)
                (ring_none _ (first.rings (sure p pass)));
          };
    }
