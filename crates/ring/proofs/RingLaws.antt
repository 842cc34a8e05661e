-- Laws of the walk along an area's edges, where "the answer from here is the answer from the start". Assumes nothing.
use Prim.Native.Nat.{ℕ, ◌-◌, ◌≤◌, ◌<◌}
use mathlib.Core.Bool.{Bool, true, false, not, cond, ◌&&◌}
use mathlib.Core.List.{List, [], ◌∷◌}
use mathlib.Core.Path.{◌≡◌, refl, sym, ap, ◌∙◌}
use native.Mathlib.Omega.{arith}
use lib.ListN.{length, take, drop}
use lib.Dec.{eqb}
use borrow.Author.Tests.{eq-eqb, ne_eqb}
use Rattle.std.specs.Prelude.{Option, Some, None}
use Rattle.octets.proofs.Tests.{told_no, told_yes}
use Rattle.table.specs.Table.{FSPT}
use Rattle.items.specs.Lists.{entries_at}
use Rattle.items.specs.Cursors.{left, Stepped}
use Rattle.items.specs.declared.cursor.Cursor.{Cursor}
use Rattle.items.proofs.CursorLaws.{begin_left, next_left, next_done, next_less}
use Rattle.lookups.specs.Lookup.{name_in, found_code}
use Rattle.lookups.proofs.LookupLaws.{code_at, code_nothing}
use Rattle.pointer.specs.Pointer.{names_code}
use Rattle.answers.specs.First.{first_code, first_by}
use Rattle.ring.specs.declared.step.Step.{Step}
use Rattle.ring.specs.Walk.{taken_with, taken_of, behind, named_and, area_closed, area_code}
use Rattle.ring.specs.Ring.{step_of, usage_good, along, rings_from, rings_good}

-- ---- what an edge tells of the names
edge_told : (f : Option ℕ) (t u : Step) → taken_with f u ≡ Some t → (found_code f ≡ 0) × (u ≡ t)
unfolding taken_with
edge_told (Some k) t u e = (code_at k, cc)
edge_told None t u e = absurd (let z : ◌≡◌ {A = ℕ} 0 1 = cc in omega arith)

missing_told : (f : Option ℕ) (u : Step) → taken_with f u ≡ None → found_code f ≡ 18
unfolding taken_with
missing_told (Some k) u e = absurd (let z : ◌≡◌ {A = ℕ} 0 1 = cc in omega arith)
missing_told None u e = code_nothing

bad_rings : (place : ℕ → Option ℕ) (es : List (List ℕ)) → named_and place es false ≡ false
unfolding named_and
bad_rings place es = by (eqb (names_code place es) 0) where
  by : (b : Bool) → b && false ≡ false
  by true = refl
  by false = refl

module _ (place : ℕ → Option ℕ) (node : ℕ → ℕ → ℕ) (e : List ℕ) (es : List (List ℕ)) (k : Option Step) (told : k ≡ taken_of place node e) where
  missing_names : (good : Bool) → k ≡ None → named_and place (e ∷ es) good ≡ false
  unfolding named_and names_code first_by taken_of
  missing_names good m = rw (missing_told (place (name_in e)) (step_of node e) (sym told ∙ m))

  module _ (t : Step) (is : k ≡ Some t) where
    named_on : (good : Bool) → named_and place (e ∷ es) good ≡ named_and place es good
    unfolding named_and names_code first_by taken_of
    named_on good = rw (edge_told (place (name_in e)) t (step_of node e) (sym told ∙ is)).0

    step_is : step_of node e ≡ t
    unfolding taken_of
    step_is = (edge_told (place (name_in e)) t (step_of node e) (sym told ∙ is)).1

    -- an edge between two rings, and one in a ring that came to `here`
    pub edge_first : (exterior : Bool) → named_and place (e ∷ es) (rings_from node exterior false 0 0 (e ∷ es)) ≡ named_and place es (behind node exterior t.from t es)
    unfolding rings_from along behind
    edge_first exterior = named_on _ ∙ rw (step_is, eq-eqb t.from t.from refl)

    pub edge_joined : (exterior : Bool) (start here : ℕ) → t.from ≡ here
        → named_and place (e ∷ es) (rings_from node exterior true start here (e ∷ es)) ≡ named_and place es (behind node exterior start t es)
    unfolding rings_from along behind
    edge_joined exterior start here h = named_on _ ∙ rw (step_is, eq-eqb t.from here h)

    edge_apart : (exterior : Bool) (start here : ℕ) → (t.from ≡ here → ⊥) → named_and place (e ∷ es) (rings_from node exterior true start here (e ∷ es)) ≡ false
    unfolding rings_from along
    edge_apart exterior start here ne = named_on _ ∙ rw (step_is, ne_eqb t.from here ne) (bad_rings place es)

-- ---- before the first edge
pub rings_begin : (place : ℕ → Option ℕ) (node : ℕ → ℕ → ℕ) (s : List ℕ) (at : ℕ) (c : Cursor) → c ≡ record { field = 0; from = 0; to = 0 }
    → area_closed place node (entries_at s at FSPT) ≡ named_and place (left s at FSPT c) (rings_from node true false 0 0 (left s at FSPT c))
unfolding area_closed rings_good
rings_begin place node s at c e = ap (λ (es : List (List ℕ)). named_and place es (rings_from node true false 0 0 es)) (sym (begin_left s at FSPT c e))

-- ---- between two rings
module _ (place : ℕ → Option ℕ) (node : ℕ → ℕ → ℕ) (exterior : Bool) (s : List ℕ) (at : ℕ) (c : Cursor) (all : Bool)
    (so : all ≡ named_and place (left s at FSPT c) (rings_from node exterior false 0 0 (left s at FSPT c)))
    (r : Option (ℕ × ℕ × Cursor)) (stepped : Stepped s at FSPT c r) where
  pub rings_end : r ≡ None → true ≡ all
  unfolding named_and names_code rings_from
  rings_end e = sym (so ∙ rw (next_done s at FSPT c r stepped e))

  module _ (from to : ℕ) (next : Cursor) (is : r ≡ Some (from, to, next)) (k : Option Step) (told : k ≡ taken_of place node (take (to - from) (drop from s))) where
    pub first_missing : k ≡ None → false ≡ all
    first_missing m = sym (so ∙ rw (next_left s at FSPT c r stepped from to next is) (missing_names place node _ _ k told _ m))

    -- a ring starts where its first edge does
    pub ring_begin : (t : Step) → k ≡ Some t → all ≡ named_and place (left s at FSPT next) (behind node exterior t.from t (left s at FSPT next))
    ring_begin t e = so ∙ rw (next_left s at FSPT c r stepped from to next is) (edge_first place node _ _ k told t e exterior)

-- ---- in a ring, behind the edge t
module _ (place : ℕ → Option ℕ) (node : ℕ → ℕ → ℕ) (exterior : Bool) (start : ℕ) (t : Step) (s : List ℕ) (at : ℕ) (c : Cursor) (all : Bool)
    (so : all ≡ named_and place (left s at FSPT c) (behind node exterior start t (left s at FSPT c)))
    (q : Bool) (used : q ≡ usage_good exterior t.usage) where
  pub ring_misused : not q ≡ true → false ≡ all
  unfolding behind
  ring_misused h = sym (so ∙ rw (told_no q (usage_good exterior t.usage) used h) (bad_rings place (left s at FSPT c)))

  module _ (h : not q ≡ false) where
    pub ring_closed : t.to ≡ start → all ≡ named_and place (left s at FSPT c) (rings_from node false false 0 0 (left s at FSPT c))
    unfolding behind
    ring_closed e = so ∙ rw (told_yes q (usage_good exterior t.usage) used h, eq-eqb t.to start e)

    module _ (ne : t.to ≡ start → ⊥) (r : Option (ℕ × ℕ × Cursor)) (stepped : Stepped s at FSPT c r) where
      onward : all ≡ named_and place (left s at FSPT c) (rings_from node exterior true start t.to (left s at FSPT c))
      unfolding behind
      onward = so ∙ rw (told_yes q (usage_good exterior t.usage) used h, ne_eqb t.to start ne)

      pub ring_open : r ≡ None → false ≡ all
      unfolding rings_from
      ring_open e = sym (onward ∙ rw (next_done s at FSPT c r stepped e) (bad_rings place []))

      module _ (from to : ℕ) (next : Cursor) (is : r ≡ Some (from, to, next)) (k : Option Step) (told : k ≡ taken_of place node (take (to - from) (drop from s))) where
        pub next_missing : k ≡ None → false ≡ all
        next_missing m = sym (onward ∙ rw (next_left s at FSPT c r stepped from to next is) (missing_names place node _ _ k told _ m))

        module _ (u : Step) (e : k ≡ Some u) where
          pub ring_apart : (u.from ≡ t.to → ⊥) → false ≡ all
          ring_apart apart = sym (onward ∙ rw (next_left s at FSPT c r stepped from to next is) (edge_apart place node _ _ k told u e exterior start t.to apart))

          pub ring_on : u.from ≡ t.to → all ≡ named_and place (left s at FSPT next) (behind node exterior start u (left s at FSPT next))
          ring_on joined = onward ∙ rw (next_left s at FSPT c r stepped from to next is) (edge_joined place node _ _ k told u e exterior start t.to joined)

-- ---- the edges left grow fewer
module _ (s : List ℕ) (at : ℕ) (c : Cursor) (r : Option (ℕ × ℕ × Cursor)) (stepped : Stepped s at FSPT c r) (from to : ℕ) (next : Cursor) (is : r ≡ Some (from, to, next)) where
  pub fewer : (d : Cursor) → length (left s at FSPT d) ≤ length (left s at FSPT next) → length (left s at FSPT d) < length (left s at FSPT c)
  fewer d few = omega (arith, next_less s at FSPT c r stepped from to next is)

  pub few_still : (n : ℕ) → length (left s at FSPT c) ≤ n → length (left s at FSPT next) ≤ n
  few_still n few = omega (arith, next_less s at FSPT c r stepped from to next is)

-- ---- the code of an area: good is the answer of the walk, n the code of its names
both_good : (n : ℕ) (rings : Bool) → (eqb n 0 && rings) ≡ true → 0 ≡ first_code n (cond rings 0 19)
unfolding first_by
both_good n rings h = by (eqb n 0) rings h where
  by : (z b : Bool) → (z && b) ≡ true → 0 ≡ cond z (cond b 0 19) n
  by true true h = refl
  by true false h = absurd (let z : ◌≡◌ {A = ℕ} 0 1 = cc in omega arith)
  by false b h = absurd (let z : ◌≡◌ {A = ℕ} 0 1 = cc in omega arith)

rings_bad : (n : ℕ) (rings : Bool) → (eqb n 0 && rings) ≡ false → n ≡ 0 → 19 ≡ first_code n (cond rings 0 19)
unfolding first_by
rings_bad n rings h z = by rings (rw z at h) where
  by : (b : Bool) → b ≡ false → 19 ≡ cond (eqb n 0) (cond b 0 19) n
  by b e = rw (z, e)

module _ (place : ℕ → Option ℕ) (node : ℕ → ℕ → ℕ) (es : List (List ℕ)) (good : Bool) (judged : good ≡ area_closed place node es) where
  pub area_good_lem : good ≡ true → 0 ≡ area_code place node es
  unfolding area_code area_closed named_and
  area_good_lem h = both_good (names_code place es) (rings_good node es) (sym judged ∙ h)

  pub area_missing : (n : ℕ) → n ≡ names_code place es → (n ≡ 0 → ⊥) → n ≡ area_code place node es
  unfolding area_code first_by
  area_missing n named ne = rw (← named, ne_eqb n 0 ne)

  pub area_open : (n : ℕ) → good ≡ false → n ≡ names_code place es → n ≡ 0 → 19 ≡ area_code place node es
  unfolding area_code area_closed named_and
  area_open n h named z = rings_bad (names_code place es) (rings_good node es) (sym judged ∙ h) (sym named ∙ z)
