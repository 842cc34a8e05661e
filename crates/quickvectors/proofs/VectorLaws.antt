-- Laws of a vector that the quick tests pass. Assumes nothing.
use Rattle.std.proofs.Common.{◌≡◌, ℕ, ◌+◌, ◌-◌, ◌/◌, ◌≤◌, Bool, true, false, not, eqb, leb, ◌⊎◌, List, [], ◌∷◌, length, take, drop, sym, refl, ap, ◌∙◌, inl, inr, ⊎_elim, arith, length-drop, length-take, eq-eqb, ne_eqb, eqb-true, le-leb, leb-true, Option, Some, None, is_some}
use Rattle.octets.specs.Number.{byte_at}
use Rattle.octets.specs.Premises.{Reads}
use Rattle.octets.proofs.Cases.{eq_or_ne}
use Rattle.octets.proofs.Tests.{told_yes}
use Rattle.words.specs.Words.{words_in}
use Rattle.table.specs.Table.{VRPT, SG2D, SG3D}
use Rattle.entries.specs.Rules.{all_of, through}
use Rattle.answers.specs.First.{first_by}
use Rattle.items.specs.Lists.{entries_at}
use Rattle.items.specs.Identity.{id_at, rcnm_at}
use Rattle.items.specs.Item.{Item, item_at}
use Rattle.items.specs.Premises.{Identified}
use Rattle.items.proofs.IdentityLaws.{num_one}
use Rattle.items.proofs.ItemLaws.{vrpt_said, sg2d_said, sg3d_said}
use Rattle.lookups.specs.Lookup.{name_in, found_code}
use Rattle.lookups.specs.LookupWords.{index_of}
use Rattle.lookups.proofs.LookupLaws.{code_at}
use Rattle.vectorshape.specs.Shape.{pair_good, coordinates_good, isolated_good, connected_good, end_good, add_topi, edge_good, class_good, vector_good, shape_good, shape_code}
use Rattle.pointer.specs.Pointer.{names_code, pointer_code}
use Rattle.ring.specs.Ring.{ring_code}
use Rattle.spans.specs.Spans.{span, SpanIn, SpanOf, rest_of, Lies}
use Rattle.spans.specs.declared.Span.{Span}
use Rattle.spans.proofs.StrideLaws.{rest_end, rest_more, rest_count, vrpt_lies, sg2d_lies, sg3d_lies}
use Rattle.quickvectors.specs.Quick.{FaultlessVector, VectorTold, WordlessTold, NodeIn, PairTold, ListTold, bytes_in, NodeTold, PairedTold, HeldTold, EndsTold, EdgeTold}
use Rattle.quickvectors.proofs.CoordinateLaws.{never}

-- ---- a no tells nothing
pub node_no : (rcnm : ℕ) (ends pairs soundings : Span) → NodeTold rcnm ends pairs soundings false
node_no rcnm ends pairs soundings = record { none = λ (e : false ≡ true). never e; is = λ (e : false ≡ true). never e }

pub edge_no : (s : List ℕ) (ends : Span) (work : List ℕ) (m : ℕ) → EdgeTold s ends work m false
edge_no s ends work m = record { order = λ (e : false ≡ true). never e; is = λ (e : false ≡ true). never e }

-- ---- node_shaped
module _ (rcnm : ℕ) (ends pairs soundings : Span) (none : ends.from ≡ ends.to) where
  pub node_paired : bytes_in pairs ≡ 8 → NodeTold rcnm ends pairs soundings (eqb (bytes_in soundings) 0)
  node_paired eight = record {
    none = λ (e : eqb (bytes_in soundings) 0 ≡ true). none;
    is = λ (e : eqb (bytes_in soundings) 0 ≡ true). inl (eight, eqb-true (bytes_in soundings) 0 e);
  }

  pub node_sounded : bytes_in pairs ≡ 0 → rcnm ≡ 110 → NodeTold rcnm ends pairs soundings (leb 12 (bytes_in soundings))
  node_sounded bare class = record {
    none = λ (e : leb 12 (bytes_in soundings) ≡ true). none;
    is = λ (e : leb 12 (bytes_in soundings) ≡ true). inr (class, bare, leb-true 12 (bytes_in soundings) e);
  }

-- ---- edge_shaped: the two entries as they are lent
pub two_entries : (s : List ℕ) (from to : ℕ) → to - from ≡ 18 → to ≤ length s
    → rest_of 9 s from to ≡ take (from + 9 - from) (drop from s) ∷ take (to - (from + 9)) (drop (from + 9) s) ∷ []
two_entries s from to size within =
    let last : to - (from + 9) ≡ from + 9 + 9 - (from + 9) = omega arith in
    rest_more 9 s from to within (omega arith) (omega arith)
    ∙ rw last
    (ap (λ (es : List (List ℕ)). take (from + 9 - from) (drop from s) ∷ es)
    (rest_more 9 s (from + 9) to within (omega arith) (omega arith)
    ∙ ap (λ (es : List (List ℕ)). take (from + 9 + 9 - (from + 9)) (drop (from + 9) s) ∷ es) (rest_end 9 s (from + 9 + 9) to within (omega arith))))

-- ends_shaped: x and y are the TOPI
pub paired_no : (a b : List ℕ) → PairedTold a b false
paired_no a b = record { first = λ (e : false ≡ true). never e; last = λ (e : false ≡ true). never e; sum = λ (e : false ≡ true). never e }

pub paired_told : (a b : List ℕ) (p q : Bool) (x y : ℕ) → p ≡ end_good a → not p ≡ false → q ≡ end_good b → not q ≡ false → x ≡ byte_at a 7 → y ≡ byte_at b 7
    → PairedTold a b (eqb (x + y) 3)
unfolding through add_topi
paired_told a b p q x y first begins last ends topi next = record {
  first = λ (e : eqb (x + y) 3 ≡ true). told_yes p (end_good a) first begins;
  last = λ (e : eqb (x + y) 3 ≡ true). told_yes q (end_good b) last ends;
  sum = λ (e : eqb (x + y) 3 ≡ true). let three = eqb-true (x + y) 3 e in omega arith;
}

-- is_held
held_code : (f : Option ℕ) (q : Bool) → is_some f ≡ q → q ≡ true → found_code f ≡ 0
held_code (Some i) q is h = code_at i
held_code None q is h = never (is ∙ h)

pub held_told : (e work : List ℕ) (m n : ℕ) (f : Option ℕ) (q : Bool) → n ≡ name_in e → f ≡ index_of (words_in work 0 m) n → is_some f ≡ q → HeldTold e work m q
held_told e work m n f q named found is = record {
  is = λ (h : q ≡ true). ap found_code (ap (index_of (words_in work 0 m)) (sym named) ∙ sym found) ∙ held_code f q is h;
}

-- ends_held
pub ends_no : (a b work : List ℕ) (m : ℕ) → EndsTold a b work m false
ends_no a b work m = record { is = λ (e : false ≡ true). never e }

sure : (b : Bool) → not b ≡ false → b ≡ true
sure true e = refl
sure false e = never (sym e)

named_two : (ws a b : List ℕ) → found_code (index_of ws (name_in a)) ≡ 0 → found_code (index_of ws (name_in b)) ≡ 0 → names_code (index_of ws) (a ∷ b ∷ []) ≡ 0
unfolding names_code first_by
named_two ws a b first last = rw (first, last)

pub ends_told : (a b work : List ℕ) (m : ℕ) (p q r : Bool) → PairedTold a b p → not p ≡ false → HeldTold a work m q → not q ≡ false → HeldTold b work m r
    → EndsTold a b work m r
unfolding all_of
ends_told a b work m p q r paired pass first there last = record {
  is = λ (e : r ≡ true).
      record {
        two = refl;
        good = rw (paired.first (sure p pass), paired.last (sure p pass));
        sum = paired.sum (sure p pass);
        there = named_two (words_in work 0 m) a b (first.is (sure q there)) (last.is e);
      };
}

pub edge_told : (s : List ℕ) (ends : Span) (work : List ℕ) (m : ℕ) (r : Bool) → SpanIn s ends → ends.from ≤ ends.to → ends.to - ends.from ≡ 18
    → EndsTold (take (ends.from + 9 - ends.from) (drop ends.from s)) (take (ends.to - (ends.from + 9)) (drop (ends.from + 9) s)) work m r
    → EdgeTold s ends work m r
edge_told s ends work m r inside order size told = record {
  order = λ (e : r ≡ true). order;
  is = λ (e : r ≡ true). rw (two_entries s ends.from ends.to size (inside.within order)) (told.is e);
}

-- the entries as they are lent are long enough
pub begin_long : (s : List ℕ) (ends : Span) → SpanIn s ends → ends.from ≤ ends.to → ends.to - ends.from ≡ 18
    → 9 ≤ length (take (ends.from + 9 - ends.from) (drop ends.from s))
begin_long s ends inside order size = let within = inside.within order in rw (length-take, length-drop) (omega arith)

pub end_long : (s : List ℕ) (ends : Span) → SpanIn s ends → ends.from ≤ ends.to → ends.to - ends.from ≡ 18
    → 9 ≤ length (take (ends.to - (ends.from + 9)) (drop (ends.from + 9) s))
end_long s ends inside order size = let within = inside.within order in rw (length-take, length-drop) (omega arith)

pub edge_mid : (s : List ℕ) (ends : Span) → SpanIn s ends → ends.from ≤ ends.to → ends.to - ends.from ≡ 18 → ends.from + 9 ≤ length s
edge_mid s ends inside order size = let within = inside.within order in omega arith

-- ---- vector_lying
pub id_room : (s : List ℕ) (at id : ℕ) → id ≡ id_at s at → Identified s at → id + 1 ≤ length s
id_room s at id there known = let long = known.long in omega arith

pub list_order : (comf size : ℕ) (s : List ℕ) (sp : Span) (p : Bool) → ListTold comf size s sp p → not p ≡ false → sp.from ≤ sp.to
list_order comf size s sp p told pass = told.order (sure p pass)

pub told_no : (comf : ℕ) (ws : List ℕ) (i : Item) → VectorTold comf ws i false
told_no comf ws i = record { is = λ (e : false ≡ true). never e }

-- a vector has no Ring, and for Pointer its VRPT
module _ (s : List ℕ) (at : ℕ) (vector : rcnm_at s at ≡ 100 → ⊥) where
  vector_faultless : (comf : ℕ) (ws : List ℕ) → class_good (item_at s at) ≡ true → coordinates_good comf (item_at s at) ≡ true
      → names_code (index_of ws) (entries_at s at VRPT) ≡ 0 → FaultlessVector comf ws (item_at s at)
  unfolding shape_code shape_good vector_good pointer_code ring_code
  vector_faultless comf ws class within named = record {
    shape = rw (ne_eqb (rcnm_at s at) 100 vector, class, within);
    pointer = λ (object : ℕ → Bool). rw (ne_eqb (rcnm_at s at) 100 vector, vrpt_said s at) named;
    ring = λ (node : ℕ → ℕ → ℕ). rw (ne_eqb (rcnm_at s at) 100 vector);
  }

  module _ (comf : ℕ) (ends pairs soundings : Span) (pointers : SpanOf s at 1448235092 ends) (flat : SpanOf s at 1397174852 pairs) (deep : SpanOf s at 1397175108 soundings)
      (p q : Bool) (first : ListTold comf 8 s pairs p) (within : not p ≡ false) (second : ListTold comf 12 s soundings q) (within_too : not q ≡ false) where
    flat_lies : Lies s at SG2D 8 pairs.from pairs.to
    flat_lies = sg2d_lies s at pairs flat (first.order (sure p within))

    deep_lies : Lies s at SG3D 12 soundings.from soundings.to
    deep_lies = sg3d_lies s at soundings deep (second.order (sure q within_too))

    coordinates_good_lem : coordinates_good comf (item_at s at) ≡ true
    unfolding coordinates_good
    coordinates_good_lem =
        rw (sg2d_said s at, sg3d_said s at, flat_lies.are, deep_lies.are, first.is (sure p within), second.is (sure q within_too))

    flat_count : length (entries_at s at SG2D) ≡ bytes_in pairs / 8
    flat_count = ap length flat_lies.are ∙ rest_count 8 s pairs.from pairs.to flat_lies.within (omega arith)

    deep_count : length (entries_at s at SG3D) ≡ bytes_in soundings / 12
    deep_count = ap length deep_lies.are ∙ rest_count 12 s soundings.from soundings.to deep_lies.within (omega arith)

    -- a node: no pointer, and its coordinates as its class has them
    node_lists : ends.from ≡ ends.to → entries_at s at VRPT ≡ []
    node_lists none =
        let l = vrpt_lies s at ends pointers (omega arith) in
        l.are ∙ rest_end 9 s ends.from ends.to l.within (omega arith)

    node_faultless : (ws : List ℕ) → ends.from ≡ ends.to → class_good (item_at s at) ≡ true → FaultlessVector comf ws (item_at s at)
    unfolding names_code
    node_faultless ws none class =
        let named : names_code (index_of ws) (entries_at s at VRPT) ≡ 0 = rw (node_lists none) in
        vector_faultless comf ws class coordinates_good_lem named

    node_paired_good : Identified s at → ends.from ≡ ends.to → (rcnm_at s at ≡ 130 → ⊥) → bytes_in pairs ≡ 8 → bytes_in soundings ≡ 0 → class_good (item_at s at) ≡ true
    unfolding class_good isolated_good connected_good
    node_paired_good known none node eight zeros =
        let pair : length (entries_at s at SG2D) ≡ 1 = omega (arith, flat_count) in
        let deepless : length (entries_at s at SG3D) ≡ 0 = omega (arith, deep_count) in
        ⊎_elim
        (λ (is : rcnm_at s at ≡ 110). rw (eq-eqb (rcnm_at s at) 110 is, vrpt_said s at, sg2d_said s at, sg3d_said s at, node_lists none, pair, deepless))
        (λ (ne : rcnm_at s at ≡ 110 → ⊥).
        ⊎_elim
        (λ (is : rcnm_at s at ≡ 120).
        rw (ne_eqb (rcnm_at s at) 110 ne, eq-eqb (rcnm_at s at) 120 is, vrpt_said s at, sg2d_said s at, sg3d_said s at, node_lists none, pair, deepless))
        (λ (other : rcnm_at s at ≡ 120 → ⊥). absurd (no_class ne other))
        (eq_or_ne (rcnm_at s at) 120))
        (eq_or_ne (rcnm_at s at) 110)
      where
        no_class : (rcnm_at s at ≡ 110 → ⊥) → (rcnm_at s at ≡ 120 → ⊥) → ⊥
        no_class a b =
            ⊎_elim a
            (λ (r : (rcnm_at s at ≡ 120) ⊎ ((rcnm_at s at ≡ 130) ⊎ (rcnm_at s at ≡ 100))).
            ⊎_elim b (λ (t : (rcnm_at s at ≡ 130) ⊎ (rcnm_at s at ≡ 100)). ⊎_elim node vector t) r)
            known.class

    module _ (work : List ℕ) (m : ℕ) (c : ℕ) (known : Identified s at) (id : ℕ) (there : id ≡ id_at s at) (class : Reads s id 1 c) where
      class_is : c ≡ rcnm_at s at
      unfolding rcnm_at
      class_is = class.is ∙ num_one s id ∙ ap (byte_at s) there

      node_sounded_good : ends.from ≡ ends.to → c ≡ 110 → bytes_in pairs ≡ 0 → 12 ≤ bytes_in soundings → class_good (item_at s at) ≡ true
      unfolding class_good isolated_good
      node_sounded_good none is zeros some =
          let pairless : length (entries_at s at SG2D) ≡ 0 = omega (arith, flat_count) in
          let sounded : leb 1 (length (entries_at s at SG3D)) ≡ true = le-leb 1 (length (entries_at s at SG3D)) (omega (arith, deep_count)) in
          rw (eq-eqb (rcnm_at s at) 110 (sym class_is ∙ is), vrpt_said s at, sg2d_said s at, sg3d_said s at, node_lists none, pairless, sounded)

      pub told_node : (r : Bool) → (c ≡ 130 → ⊥) → NodeTold c ends pairs soundings r → VectorTold comf (words_in work 0 m) (item_at s at) r
      told_node r node told = record {
        is = λ (e : r ≡ true).
            let none = told.none e in
            node_faultless (words_in work 0 m) none
            (⊎_elim
            (λ (one : (bytes_in pairs ≡ 8) × (bytes_in soundings ≡ 0)).
            node_paired_good known none (λ (u : rcnm_at s at ≡ 130). node (class_is ∙ u)) one.0 one.1)
            (λ (many : (c ≡ 110) × (bytes_in pairs ≡ 0) × (12 ≤ bytes_in soundings)). node_sounded_good none many.0 many.1 many.2)
            (told.is e));
      }

      pub told_edge : (r : Bool) → c ≡ 130 → soundings.from ≡ soundings.to → EdgeTold s ends work m r → VectorTold comf (words_in work 0 m) (item_at s at) r
      unfolding class_good edge_good
      told_edge r edge none told = record {
        is = λ (e : r ≡ true).
            let l = vrpt_lies s at ends pointers (told.order e) in
            let two = told.is e in
            let deepless : length (entries_at s at SG3D) ≡ 0 = omega (arith, deep_count) in
            let class : rcnm_at s at ≡ 130 = sym class_is ∙ edge in
            let other : rcnm_at s at ≡ 110 → ⊥ = λ (x : rcnm_at s at ≡ 110). omega arith in
            let another : rcnm_at s at ≡ 120 → ⊥ = λ (x : rcnm_at s at ≡ 120). omega arith in
            let shaped : class_good (item_at s at) ≡ true =
            rw (ne_eqb (rcnm_at s at) 110 other, ne_eqb (rcnm_at s at) 120 another, vrpt_said s at, sg3d_said s at, deepless, l.are, two.two, two.good, two.sum) in
            vector_faultless comf (words_in work 0 m) shaped coordinates_good_lem (rw l.are two.there);
      }

-- ---- pair_lying: the pair as it is lent, and no soundings
pub pair_long : (s : List ℕ) (from : ℕ) → from + 8 ≤ length s → 8 ≤ length (take (from + 8 - from) (drop from s))
pair_long s from room = rw (length-take, length-drop) (omega arith)

one_entry : (s : List ℕ) (from : ℕ) → from + 8 ≤ length s → rest_of 8 s from (from + 8) ≡ take (from + 8 - from) (drop from s) ∷ []
one_entry s from room =
    rest_more 8 s from (from + 8) room (omega arith) (omega arith)
    ∙ ap (λ (es : List (List ℕ)). take (from + 8 - from) (drop from s) ∷ es) (rest_end 8 s (from + 8) (from + 8) room (omega arith))

one_told : (comf : ℕ) (s : List ℕ) (from : ℕ) → from + 8 ≤ length s → pair_good comf (take (from + 8 - from) (drop from s)) ≡ true
    → ListTold comf 8 s (span from (from + 8)) true
unfolding all_of
one_told comf s from room good = record {
  order = λ (e : true ≡ true). omega arith;
  is = λ (e : true ≡ true). rw (one_entry s from room, good);
}

none_told : (comf : ℕ) (s : List ℕ) → ListTold comf 12 s (span 0 0) true
unfolding all_of
none_told comf s = record { order = λ (e : true ≡ true). omega arith; is = λ (e : true ≡ true). rw (rest_end 12 s 0 0 (omega arith) (omega arith)) }

pub told_pair : (comf : ℕ) (s : List ℕ) (at from : ℕ) (b : Bool) → NodeIn s at from → PairTold comf (take (from + 8 - from) (drop from s)) b
    → WordlessTold comf (item_at s at) (not b)
told_pair comf s at from b node told = record {
  is = λ (e : not b ≡ true) (ws : List ℕ).
      let pair = node.pair in
      let flat = one_told comf s from pair.room (told.is (clear b e)) in
      let deep = none_told comf s in
      node_faultless s at node.vector comf (span 0 0) (span from (from + 8)) (span 0 0) pair.ends pair.pairs pair.soundings true true flat refl deep refl ws refl
      (node_paired_good s at node.vector comf (span 0 0) (span from (from + 8)) (span 0 0) pair.ends pair.pairs pair.soundings true true flat refl deep refl
      node.known refl node.node (omega arith) refl);
}
  where
    clear : (b : Bool) → not b ≡ true → b ≡ false
    clear true e = never e
    clear false e = refl
