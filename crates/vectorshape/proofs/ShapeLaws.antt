-- Laws of the code that judges a record's shape. Assumes nothing.
use Prim.Native.Nat.{ℕ, ◌+◌, ◌-◌, ◌*◌, ◌≤◌, ◌<◌}
use mathlib.Core.Bool.{Bool, true, false, not, cond, ◌&&◌, ◌||◌}
use mathlib.Core.List.{List}
use mathlib.Core.Path.{◌≡◌, refl, sym, ap, ◌∙◌}
use native.Mathlib.Omega.{arith}
use lib.ListN.{length, take, drop}
use lib.Dec.{eqb, leb}
use borrow.Author.Tests.{eq-eqb, ne_eqb, lt-leb, le-leb}
use Rattle.std.specs.Prelude.{Option, Some}
use Rattle.octets.specs.Number.{byte_at, num_at}
use Rattle.octets.proofs.Tests.{chain, then_same, else_same, told_no, told_yes}
use Rattle.entries.specs.Rules.{all_of, through}
use Rattle.table.specs.Table.{VRPT, SG2D, SG3D, FSPT}
use Rattle.values.specs.Class.{is_collection}
use Rattle.items.specs.Lists.{entries_at}
use Rattle.items.specs.Cursors.{left, Stepped}
use Rattle.items.specs.Premises.{Identified, Featured}
use Rattle.items.specs.Identity.{rcnm_at, prim_at, objl_at}
use Rattle.items.specs.Item.{Item, item_at}
use Rattle.items.specs.declared.cursor.Cursor.{Cursor}
use Rattle.items.proofs.ItemLaws.{vrpt_said, sg2d_said, sg3d_said, fspt_said, feature_said}
use Rattle.items.proofs.CursorLaws.{begin_left, next_left, through_on}
use Rattle.vectorshape.specs.Shape.{magnitude, pair_good, isolated_good, add_topi, spatial_good, spatial_count, feature_good, shape_good, shape_code}

-- ---- a number as it was read: a test on it is the test on what it is
pub read_eq : (r n m : ℕ) → r ≡ n → r ≡ m → eqb n m ≡ true
read_eq r n m is e = eq-eqb n m (sym is ∙ e)

pub read_ne : (r n m : ℕ) → r ≡ n → (r ≡ m → ⊥) → eqb n m ≡ false
read_ne r n m is ne = ne_eqb n m (λ (e : n ≡ m). ne (is ∙ e))

pub read_same : (r n m : ℕ) → r ≡ n → eqb r m ≡ eqb n m
read_same r n m is = ap (λ (x : ℕ). eqb x m) is

-- ---- into a choice
pub if_yes : (b x y a : Bool) → b ≡ true → a ≡ x → a ≡ cond b x y
if_yes b x y a e h = rw (then_same b x y e) h

pub if_no : (b x y a : Bool) → b ≡ false → a ≡ y → a ≡ cond b x y
if_no b x y a e h = rw (else_same b x y e) h

-- "search reads depth N" closes a return of a function whose answer is made of tests on numbers that were read
pub ruleset reads = (chain, read_eq, read_ne, read_same, if_yes, if_no)

-- ---- limits: u is what was read, m its magnitude
module _ (comf : ℕ) (e : List ℕ) (u m : ℕ) (y : u ≡ num_at e 0 4) (far : m ≡ magnitude u) where
  pub pair_no : 90 * comf < m → false ≡ pair_good comf e
  unfolding pair_good
  pair_no h = let is : magnitude (num_at e 0 4) ≡ m = sym (far ∙ ap magnitude y) in rw (is, lt-leb m (90 * comf) h)

  pub pair_is : (v n : ℕ) → v ≡ num_at e 4 4 → n ≡ magnitude v → m ≤ 90 * comf → leb n (180 * comf) ≡ pair_good comf e
  unfolding pair_good
  pair_is v n x farther h =
      let is : magnitude (num_at e 0 4) ≡ m = sym (far ∙ ap magnitude y) in
      let next : magnitude (num_at e 4 4) ≡ n = sym (farther ∙ ap magnitude x) in
      rw (is, next, le-leb m (90 * comf) h)

-- ---- turns of the sum of TOPI, which stays small as the list has two entries
pub topi_start : (s : List ℕ) (at : ℕ) (c : Cursor) → c ≡ record { field = 0; from = 0; to = 0 } → length (entries_at s at VRPT) ≡ 2
    → 0 + 255 * length (left s at VRPT c) ≤ 510
topi_start s at c e two = omega (arith, ap length (begin_left s at VRPT c e))

module _ (s : List ℕ) (at : ℕ) (c : Cursor) (r : Option (ℕ × ℕ × Cursor)) (stepped : Stepped s at VRPT c r) (from to : ℕ) (next : Cursor) (is : r ≡ Some (from, to, next))
    (sum t : ℕ) (told : t ≡ byte_at (take (to - from) (drop from s)) 7) where
  pub topi_few : t < 256 → sum + 255 * length (left s at VRPT c) ≤ 510 → sum + t + 255 * length (left s at VRPT next) ≤ 510
  topi_few byte few = omega (arith, ap length (next_left s at VRPT c r stepped from to next is))

  pub topi_on : through add_topi 0 (entries_at s at VRPT) ≡ through add_topi sum (left s at VRPT c)
      → through add_topi 0 (entries_at s at VRPT) ≡ through add_topi (sum + t) (left s at VRPT next)
  unfolding add_topi
  topi_on so = through_on add_topi 0 sum s at VRPT c so r stepped from to next is (sum + t) (rw told)

-- ---- an isolated node by its counts: v pointers, p pairs, n soundings
or_none : (b : Bool) → b ≡ (b || false)
or_none true = refl
or_none false = refl

module _ (s : List ℕ) (at v p n : ℕ) (pointers : v ≡ length (entries_at s at VRPT)) (pairs : p ≡ length (entries_at s at SG2D))
    (soundings : n ≡ length (entries_at s at SG3D)) (none : v ≡ 0) where
  isolated_is : isolated_good (item_at s at) ≡ ((eqb p 1 && eqb n 0) || (eqb p 0 && leb 1 n))
  unfolding isolated_good
  isolated_is = rw (vrpt_said s at, sg2d_said s at, sg3d_said s at, ← pointers, ← pairs, ← soundings, none)

  pub isolated_pair : p ≡ 1 → eqb n 0 ≡ isolated_good (item_at s at)
  isolated_pair e = rw (isolated_is, e) (or_none (eqb n 0))

  pub isolated_many : (p ≡ 1 → ⊥) → (p ≡ 0 → ⊥) → false ≡ isolated_good (item_at s at)
  isolated_many ne some = rw (isolated_is, ne_eqb p 1 ne, ne_eqb p 0 some)

  pub isolated_sounded : p ≡ 0 → leb 1 n ≡ isolated_good (item_at s at)
  isolated_sounded e = rw (isolated_is, e)

-- ---- a feature by its numbers: q tells whether it is a collection
module _ (s : List ℕ) (at prim objl : ℕ) (q : Bool) (feature : rcnm_at s at ≡ 100) (primitive : prim ≡ prim_at s at) (class : objl ≡ objl_at s at)
    (told : q ≡ is_collection objl) where
  feature_is : feature_good (item_at s at)
      ≡ cond (eqb prim 255) (q && eqb (length (entries_at s at FSPT)) 0)
      (not q && (spatial_count prim (length (entries_at s at FSPT)) && all_of (spatial_good prim) (entries_at s at FSPT)))
  unfolding feature_good
  feature_is =
      let is : is_collection (objl_at s at) ≡ q = sym (told ∙ ap is_collection class) in
      rw (fspt_said s at, feature_said (rcnm_at s at) (prim_at s at) feature, feature_said (rcnm_at s at) (objl_at s at) feature, ← primitive, is)

  pub feature_none : prim ≡ 255 → not q ≡ true → false ≡ feature_good (item_at s at)
  feature_none e t = rw (feature_is, e, told_no q q refl t)

  pub feature_bare : (n : ℕ) → prim ≡ 255 → not q ≡ false → n ≡ length (entries_at s at FSPT) → eqb n 0 ≡ feature_good (item_at s at)
  feature_bare n e t count = rw (feature_is, e, told_yes q q refl t, count)

  module _ (ne : prim ≡ 255 → ⊥) where
    pub feature_drawn : q ≡ true → false ≡ feature_good (item_at s at)
    feature_drawn t = rw (feature_is, ne_eqb prim 255 ne, t)

    module _ (n : ℕ) (f : Bool) (t : q ≡ false) (count : n ≡ length (entries_at s at FSPT)) (fits : f ≡ spatial_count prim n) where
      feature_counted : feature_good (item_at s at) ≡ (f && all_of (spatial_good prim) (entries_at s at FSPT))
      feature_counted = rw (feature_is, ne_eqb prim 255 ne, t, ← count, ← fits)

      pub feature_few : not f ≡ true → false ≡ feature_good (item_at s at)
      feature_few g = rw (feature_counted, told_no f f refl g)

      pub feature_all : (all : Bool) → not f ≡ false → all ≡ all_of (spatial_good prim) (entries_at s at FSPT) → all ≡ feature_good (item_at s at)
      feature_all all g is = rw (feature_counted, told_yes f f refl g) is

-- ---- a record of RCNM 100 is a feature's
pub feature_told : (s : List ℕ) (at r : ℕ) → Identified s at → r ≡ rcnm_at s at → r ≡ 100 → Featured s at
feature_told s at r known is e = known.feature (sym is ∙ e)

pub class_told : (s : List ℕ) (at r : ℕ) → r ≡ rcnm_at s at → r ≡ 100 → rcnm_at s at ≡ 100
class_told s at r is e = sym is ∙ e

-- ---- the code by the answer q of whether the shape is good
module _ (comf : ℕ) (i : Item) (q : Bool) (told : q ≡ shape_good comf i) where
  pub code_good : q ≡ true → 0 ≡ shape_code comf i
  unfolding shape_code
  code_good t = rw (← told, t)

  pub code_bad : q ≡ false → 17 ≡ shape_code comf i
  unfolding shape_code
  code_bad t = rw (← told, t)
