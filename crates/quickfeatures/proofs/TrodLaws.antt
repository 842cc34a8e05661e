-- Laws of the walk along an area's edges that also judges each FSPT: "the answer from here is the answer from the start". Assumes nothing.
use Prim.Native.Nat.{ℕ, ◌+◌, ◌-◌, ◌/◌, ◌%◌, ◌≤◌, ◌<◌}
use mathlib.Core.Bool.{Bool, true, false, not}
use mathlib.Core.List.{List, ◌∷◌}
use mathlib.Core.Path.{◌≡◌, refl, sym, ap, ◌∙◌}
use native.Mathlib.Omega.{arith}
use lib.ListN.{length, take, drop, get_or, length-take, length-drop}
use borrow.Author.Tests.{eq-eqb, ne_eqb}
use Rattle.std.specs.Prelude.{Option, Some, None}
use Rattle.octets.specs.Number.{byte_at}
use Rattle.octets.proofs.Tests.{told_yes}
use Rattle.words.specs.Words.{words_in}
use Rattle.entries.specs.Rules.{all_of}
use Rattle.lookups.specs.Lookup.{name_in}
use Rattle.lookups.specs.LookupWords.{index_of}
use Rattle.vectorshape.specs.Shape.{spatial_good}
use Rattle.pointer.specs.Pointer.{names_code}
use Rattle.ring.specs.declared.step.Step.{Step}
use Rattle.ring.specs.Ring.{step, usage_good, rings_from, rings_good}
use Rattle.ring.specs.Walk.{node_at, taken_of, behind, named_and}
use Rattle.ring.proofs.StepLaws.{step_back, step_forth}
use Rattle.ring.proofs.RingLaws.{edge_first, edge_joined}
use Rattle.spans.specs.Spans.{rest_of}
use Rattle.spans.proofs.StrideLaws.{rest_end, rest_more}
use Rattle.quickvectors.proofs.CoordinateLaws.{never}
use Rattle.quickfeatures.specs.Quick.{SpatialTold}
use Rattle.quickfeatures.specs.Trod.{TrodTold, TrodAt, area_sound, RingsTold}

-- ---- one FSPT
pub trod_astray : (e work : List ℕ) (m v : ℕ) → TrodTold e work m v None
unfolding TrodTold
trod_astray e work m v = tt

module _ (e work : List ℕ) (m : ℕ) (f : Option ℕ) (told : SpatialTold e 3 work m f) (i : ℕ) (here : f ≡ Some i) where
  placed : (spatial_good 3 e ≡ true) × (index_of (words_in work 0 m) (name_in e) ≡ Some i) × (i < m)
  unfolding SpatialTold
  placed = rw here at told

  pub trod_below : i < m
  trod_below = placed.2

  -- w is the word of its ends
  module _ (v w a b u next : ℕ) (noted : w ≡ get_or (words_in work m v) i 0) (first : a ≡ w / 4294967296) (last : b ≡ w % 4294967296) (usage : u ≡ byte_at e 6) where
    pub trod_back : byte_at e 5 ≡ 2 → TrodTold e work m v (Some (step b a u, next))
    unfolding TrodTold
    trod_back h =
        (placed.0, step_back (words_in work 0 m) (words_in work m v) e (name_in e) (Some i) refl (sym placed.1) i w a b u refl noted first last usage h)

    pub trod_forth : (byte_at e 5 ≡ 2 → ⊥) → TrodTold e work m v (Some (step a b u, next))
    unfolding TrodTold
    trod_forth ne =
        (placed.0, step_forth (words_in work 0 m) (words_in work m v) e (name_in e) (Some i) refl (sym placed.1) i w a b u refl noted first last usage ne)

-- ---- the FSPT at i
pub at_astray : (s : List ℕ) (i to : ℕ) (work : List ℕ) (m v : ℕ) → TrodAt s i to work m v None
unfolding TrodAt
at_astray s i to work m v = tt

pub at_told : (s : List ℕ) (i to : ℕ) (work : List ℕ) (m v : ℕ) (r : Option (Step × ℕ)) → 8 ≤ to - i → TrodTold (take (i + 8 - i) (drop i s)) work m v r → TrodAt s i to work m v r
unfolding TrodTold TrodAt
at_told s i to work m v (Some (t, next)) more told = (omega arith, told.0, told.1)
at_told s i to work m v None more told = tt

pub at_room : (s : List ℕ) (i to : ℕ) → to ≤ length s → 8 ≤ to - i → i + 8 ≤ length s
at_room s i to within more = omega arith

pub at_long : (s : List ℕ) (i to : ℕ) → to ≤ length s → 8 ≤ to - i → 8 ≤ length (take (i + 8 - i) (drop i s))
at_long s i to within more = rw (length-take, length-drop) (omega arith)

-- ---- along the rings
-- the edge at i next: the first of its ring; or, where one has begun, behind edges that began at `home` and came to `due`
pub record Followed (s : List ℕ) (from to : ℕ) (work : List ℕ) (m v : ℕ) (exterior begun : Bool) (home due i : ℕ) : Type 0 where
  pub within : to ≤ length s
  pub below : i ≤ to
  pub so : area_sound work m (rest_of 8 s (from) (to)) (rings_good (node_at (words_in work 0 m) (words_in work m v)) (rest_of 8 s (from) (to)))
      ≡ area_sound work m (rest_of 8 s i (to)) (rings_from (node_at (words_in work 0 m) (words_in work m v)) exterior begun home due (rest_of 8 s i (to)))

-- in a ring that began at `home`, behind the edge t
pub record Inside (s : List ℕ) (from to : ℕ) (work : List ℕ) (m v : ℕ) (exterior : Bool) (home : ℕ) (t : Step) (i : ℕ) : Type 0 where
  pub within : to ≤ length s
  pub below : i ≤ to
  pub so : area_sound work m (rest_of 8 s (from) (to)) (rings_good (node_at (words_in work 0 m) (words_in work m v)) (rest_of 8 s (from) (to)))
      ≡ area_sound work m (rest_of 8 s i (to)) (behind (node_at (words_in work 0 m) (words_in work m v)) exterior home t (rest_of 8 s i (to)))

pub rings_no : (s : List ℕ) (from to : ℕ) (work : List ℕ) (m v : ℕ) → RingsTold s from to work m v false
rings_no s from to work m v = record { is = λ (e : false ≡ true). never e }

pub rings_start : (s : List ℕ) (from to : ℕ) (work : List ℕ) (m v : ℕ) → from ≤ to → to ≤ length s → Followed s from to work m v true false 0 0 from
unfolding rings_good
rings_start s from to work m v order within = record { within = within; below = order; so = refl }

-- an FSPT that is wanted tells nothing of the others
sound_more : (work : List ℕ) (m : ℕ) (e : List ℕ) (es : List (List ℕ)) (x y : Bool) → spatial_good 3 e ≡ true
    → named_and (index_of (words_in work 0 m)) (e ∷ es) x ≡ named_and (index_of (words_in work 0 m)) es y → area_sound work m (e ∷ es) x ≡ area_sound work m es y
unfolding area_sound all_of
sound_more work m e es x y good named = rw (good, named)

-- the step of the FSPT at i: r is the answer
module _ (s : List ℕ) (to : ℕ) (work : List ℕ) (m v i : ℕ) (r : Option (Step × ℕ)) (trod : TrodAt s i to work m v r) (t : Step) (next : ℕ) (is : r ≡ Some (t, next)) where
  stepped : (i + 8 ≤ to) × (spatial_good 3 (take (i + 8 - i) (drop i s)) ≡ true)
      × (Some t ≡ taken_of (index_of (words_in work 0 m)) (node_at (words_in work 0 m) (words_in work m v)) (take (i + 8 - i) (drop i s)))
  unfolding TrodAt
  stepped = rw is at trod

  pub trod_room : i + 8 ≤ to
  trod_room = stepped.0

  cut : to ≤ length s → rest_of 8 s i to ≡ take (i + 8 - i) (drop i s) ∷ rest_of 8 s (i + 8) to
  cut within = rest_more 8 s i to within (omega arith) trod_room

module _ (s : List ℕ) (from to : ℕ) (work : List ℕ) (m v : ℕ) (exterior : Bool) (i : ℕ) (b : Followed s from to work m v exterior false 0 0 i) where
  sound_none : to - i < 8
      → area_sound work m (rest_of 8 s i to) (rings_from (node_at (words_in work 0 m) (words_in work m v)) exterior false 0 0 (rest_of 8 s i to)) ≡ true
  unfolding area_sound all_of named_and names_code rings_from
  sound_none short = rw (rest_end 8 s i to b.within short)

  pub rings_end : to - i < 8 → RingsTold s from to work m v true
  rings_end short = record { is = λ (e : true ≡ true). b.so ∙ sound_none short }

-- an edge is the first of its ring, or starts where the one before ended
module _ (s : List ℕ) (from to : ℕ) (work : List ℕ) (m v : ℕ) (exterior begun : Bool) (home due i : ℕ) (b : Followed s from to work m v exterior begun home due i)
    (r : Option (Step × ℕ)) (t : Step) (next : ℕ) (trod : TrodAt s i to work m v r) (is : r ≡ Some (t, next)) where
  met : area_sound work m (rest_of 8 s (from) (to)) (rings_good (node_at (words_in work 0 m) (words_in work m v)) (rest_of 8 s (from) (to)))
      ≡ area_sound work m (take (i + 8 - i) (drop i s) ∷ rest_of 8 s (i + 8) to)
      (rings_from (node_at (words_in work 0 m) (words_in work m v)) exterior begun home due (take (i + 8 - i) (drop i s) ∷ rest_of 8 s (i + 8) to))
  met = b.so
      ∙ ap (λ (es : List (List ℕ)). area_sound work m es (rings_from (node_at (words_in work 0 m) (words_in work m v)) exterior begun home due es))
      (cut s to work m v i r trod t next is b.within)

  inside : (start : ℕ)
      → named_and (index_of (words_in work 0 m)) (take (i + 8 - i) (drop i s) ∷ rest_of 8 s (i + 8) to)
      (rings_from (node_at (words_in work 0 m) (words_in work m v)) exterior begun home due (take (i + 8 - i) (drop i s) ∷ rest_of 8 s (i + 8) to))
      ≡ named_and (index_of (words_in work 0 m)) (rest_of 8 s (i + 8) to) (behind (node_at (words_in work 0 m) (words_in work m v)) exterior start t (rest_of 8 s (i + 8) to))
      → Inside s from to work m v exterior start t (i + 8)
  inside start named =
      let got = stepped s to work m v i r trod t next is in
      record {
        within = b.within;
        below = got.0;
        so = met ∙ sound_more work m (take (i + 8 - i) (drop i s)) (rest_of 8 s (i + 8) to) _ _ got.1 named;
      }

  pub inside_first : (start : ℕ) → begun ≡ false → start ≡ t.from → Inside s from to work m v exterior start t (i + 8)
  unfolding rings_from
  inside_first start e here =
      let got = stepped s to work m v i r trod t next is in
      inside start
      (rw (e, here)
      (edge_first (index_of (words_in work 0 m)) (node_at (words_in work 0 m) (words_in work m v)) (take (i + 8 - i) (drop i s)) (rest_of 8 s (i + 8) to) (Some t) got.2
      t refl exterior))

  pub inside_on : (start : ℕ) → begun ≡ true → t.from ≡ due → start ≡ home → Inside s from to work m v exterior start t (i + 8)
  inside_on start e joined same =
      let got = stepped s to work m v i r trod t next is in
      inside start
      (rw (e, same)
      (edge_joined (index_of (words_in work 0 m)) (node_at (words_in work 0 m) (words_in work m v)) (take (i + 8 - i) (drop i s)) (rest_of 8 s (i + 8) to) (Some t) got.2
      t refl exterior home due joined))

module _ (s : List ℕ) (from to : ℕ) (work : List ℕ) (m v : ℕ) (exterior : Bool) (home : ℕ) (t : Step) (i : ℕ) (b : Inside s from to work m v exterior home t i)
    (q : Bool) (used : q ≡ usage_good exterior t.usage) (pass : not q ≡ false) where
  pub ring_closed : t.to ≡ home → Followed s from to work m v false false 0 0 i
  unfolding behind
  ring_closed e = record {
    within = b.within;
    below = b.below;
    so = b.so ∙ rw (told_yes q (usage_good exterior t.usage) used pass, eq-eqb t.to home e);
  }

  pub ring_open : (t.to ≡ home → ⊥) → Followed s from to work m v exterior true home t.to i
  unfolding behind
  ring_open ne = record {
    within = b.within;
    below = b.below;
    so = b.so ∙ rw (told_yes q (usage_good exterior t.usage) used pass, ne_eqb t.to home ne);
  }
