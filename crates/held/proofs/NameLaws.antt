-- The names and the counts of a chart that was written: no name twice, and the counts of its objects. Assumes nothing.
use Prim.Native.Nat.{ℕ, ◌+◌, ◌-◌, ◌≤◌, ◌<◌}
use mathlib.Core.Bool.{Bool, true, false}
use mathlib.Core.List.{List, [], ◌∷◌}
use mathlib.Core.Logic.{◌⊎◌, ⊎_elim}
use mathlib.Core.Path.{◌≡◌, refl}
use native.Mathlib.Omega.{arith}
use lib.ListN.{length}
use lib.Dec.{eqb}
use borrow.Author.Tests.{eqb-true}
use Rattle.octets.proofs.Tests.{or_cases}
use Rattle.octets.specs.Lists.{is_in}
use Rattle.octets.proofs.Cases.{true_or_false}
use Rattle.iso8211.specs.Record.{end_of}
use Rattle.items.specs.Identity.{rcnm_at}
use Rattle.names.specs.Names.{twice_from}
use Rattle.counted.specs.Counts as counts
use Rattle.counted.specs.Counts.{count_of}
use Rattle.records.proofs.WrittenLaws.{fields_read}
use Rattle.records.proofs.FileLaws.{Stand}
use Rattle.records.proofs.FileLaws.Stand.{stand_more}
use Rattle.items.specs.Item.{of_feature, is_feature, Item, item_at, item_name}
use Rattle.itemfields.specs.Fields.{item_pieces}
use Rattle.held.specs.Held.{items_pieces, count_in, of_name, of_class}
use Rattle.held.specs.Good.{Ordered}
use Rattle.held.specs.Good.Ordered.{ordered_none, ordered_more}
use Rattle.held.proofs.FileLaws.{object_back}

-- ---- names
pub record Below (low : ℕ) (seen : List ℕ) : Type 0 where
  pub is : (x : ℕ) → is_in x seen ≡ true → x < low

below_more : {low : ℕ} {seen : List ℕ} (name : ℕ) → low ≤ name → Below low seen → Below (name + 1) (name ∷ seen)
unfolding is_in
below_more {seen = seen} name le b =
    record {
      is = λ x h. ⊎_elim (λ (e : eqb name x ≡ true). let s = eqb-true name x e in omega arith) (λ (e : is_in x seen ≡ true). let l = b.is x e in omega arith)
          (or_cases (eqb name x) (is_in x seen) h);
    }

pub below_none : Below 0 []
unfolding is_in
below_none = record { is = λ x h. absurd (let z : ◌≡◌ {A = ℕ} 0 1 = cc in omega arith) }

pub objects_once : {aall nall : ℕ} {low : ℕ} (k : ℕ) (seen : List ℕ) {ts : List Item} → Below low seen → Ordered aall nall low ts → twice_from k seen ts ≡ 0
unfolding twice_from
objects_once k seen below ordered_none = refl
objects_once k seen below (ordered_more {t = t} {ts = ts} le good more) =
    let fresh : is_in (item_name t) seen ≡ false =
    ⊎_elim (λ (h : is_in (item_name t) seen ≡ true). absurd (let l = below.is (item_name t) h in omega arith)) (λ (h : is_in (item_name t) seen ≡ false). h)
    (true_or_false (is_in (item_name t) seen)) in
    rw fresh (objects_once (k + 1) (item_name t ∷ seen) (below_more (item_name t) le below) more)

-- ---- counts
pub objects_counted : (such : List ℕ → ℕ → Bool) (like : Item → Bool) → ((s : List ℕ) (at : ℕ) → such s at ≡ like (item_at s at))
    → (aall nall : ℕ) {low : ℕ} (n at : ℕ) (s : List ℕ) {ts : List Item}
    → Ordered aall nall low ts → Stand s at (items_pieces n ts) → count_of such (length ts) s at ≡ count_in like ts
unfolding count_of count_in items_pieces
objects_counted such like same aall nall n at s ordered_none stands = refl
objects_counted such like same aall nall n at s (ordered_more {t = t} {ts = ts} le good more) (stand_more here rest) =
    rw (same s at, object_back t good s at n (fields_read (item_pieces n t) here), objects_counted such like same aall nall (n + 1) (end_of s at) s more rest)

pub name_like : (rcnm : ℕ) (s : List ℕ) (at : ℕ) → counts.of_name rcnm s at ≡ of_name rcnm (item_at s at)
unfolding counts.of_name of_name
name_like rcnm s at = refl

pub class_like : (within : ℕ → Bool) (s : List ℕ) (at : ℕ) → counts.of_class within s at ≡ of_class within (item_at s at)
unfolding counts.of_class of_class of_feature is_feature
class_like within s at =
    ⊎_elim (λ (e : eqb (rcnm_at s at) 100 ≡ true). rw e) (λ (e : eqb (rcnm_at s at) 100 ≡ false). rw e) (true_or_false (eqb (rcnm_at s at) 100))
