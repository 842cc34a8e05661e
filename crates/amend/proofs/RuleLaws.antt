-- The control of each list, and whether all lists may be edited. Assumes nothing.
use Prim.Native.Nat.{ℕ, zero, suc, ◌+◌, ◌≤◌, ◌<◌}
use mathlib.Core.Bool.{Bool, true, false, not, ◌&&◌}
use mathlib.Core.List.{List, [], ◌∷◌, flatten}
use mathlib.Core.Path.{◌≡◌, refl, sym, ap, ◌∙◌}
use native.Mathlib.Numerals.{add-one}
use native.Mathlib.Omega.{arith}
use lib.ListN.{length, drop, get_or, drop_of_length-le}
use lib.Seq.{drop-cons}
use lib.Dec.{eqb}
use borrow.Author.Tests.{eq-eqb, ne_eqb}
use Rattle.std.specs.Prelude.{Option, IfSome, Some, None, is_some}
use Rattle.octets.proofs.Tests.{told_no, told_yes, and_no}
use Rattle.entries.specs.Entries.{entries_of}
use Rattle.entries.specs.Rules.{all_of}
use Rattle.entries.proofs.EntriesLaws.{entries_nil}
use Rattle.table.specs.Table.{row_of, table, SG2D, SG3D, ATTV, VRPT, ATTF, NATF, FFPT, FSPT}
use Rattle.layout.specs.Layout.{shape_of}
use Rattle.items.specs.Identity.{rcnm_at}
use Rattle.items.specs.Premises.{LaidOut}
use Rattle.items.specs.Lists.{list_at, entries_at}
use Rattle.items.specs.Item.{list_of, is_feature}
use Rattle.itemfields.proofs.BytesLaws.{list_bytes_lem}
use Rattle.edits.specs.Lists.{Edit, is_none, coordinates, control_of, allowed_at, lists_allowed}
use Rattle.splice.specs.declared.control.Control.{Control}
use Rattle.splice.specs.Given.{option_of, Given}
use Rattle.splice.specs.Put.{ListPut}
use Rattle.splice.proofs.PutLaws.{put_refused, put_allowed}
use Rattle.changes.specs.Amend.{kinds_of}
use Rattle.changes.specs.Change.{control_at, amendment_at}
use Rattle.amend.specs.Controls.{coordinates_by, chosen}
use Rattle.amend.specs.Sides.{Sides, Picked, Areas}
use Rattle.amend.specs.declared.control.Controls.{Controls}
use Rattle.amend.specs.declared.plan.Plan.{Plan}
use Rattle.amend.specs.Pairs.{Paired, BothRead, FourLists, PlanFor}

-- ---- the kinds
four : (P : ℕ → Type 0) → P 0 → P 1 → P 2 → P 3 → (i : ℕ) → i < 4 → P i
four P a b c d zero h = a
four P a b c d (suc zero) h = b
four P a b c d (suc (suc zero)) h = c
four P a b c d (suc (suc (suc zero))) h = d
four P a b c d (suc (suc (suc (suc i)))) h = absurd (omega arith)

pub kinds_feature : (rcnm : ℕ) → rcnm ≡ 100 → ATTF ∷ NATF ∷ FFPT ∷ FSPT ∷ [] ≡ kinds_of rcnm
unfolding kinds_of is_feature
kinds_feature rcnm e = rw e

pub kinds_vector : (rcnm : ℕ) → (rcnm ≡ 100 → ⊥) → ATTV ∷ VRPT ∷ SG2D ∷ SG3D ∷ [] ≡ kinds_of rcnm
unfolding kinds_of is_feature
kinds_vector rcnm ne = rw (ne_eqb rcnm 100 ne)

pub feature_four : FourLists (ATTF ∷ NATF ∷ FFPT ∷ FSPT ∷ [])
unfolding row_of table
feature_four = record { four = refl; each = four (λ i. (row_of (get_or (ATTF ∷ NATF ∷ FFPT ∷ FSPT ∷ []) i 0)).list ≡ true) refl refl refl refl }

pub vector_four : FourLists (ATTV ∷ VRPT ∷ SG2D ∷ SG3D ∷ [])
unfolding row_of table
vector_four = record { four = refl; each = four (λ i. (row_of (get_or (ATTV ∷ VRPT ∷ SG2D ∷ SG3D ∷ []) i 0)).list ≡ true) refl refl refl refl }

-- ---- the controls, by the class as it was read
module _ (update : List ℕ) (by rcnm : ℕ) (c : Option Control) (read : rcnm ≡ rcnm_at update by) where
  pub first_feature : rcnm ≡ 100 → option_of c ≡ control_at update by 14 → option_of c ≡ (amendment_at update by).first
  unfolding is_feature
  first_feature e is = rw (eq-eqb (rcnm_at update by) 100 (sym read ∙ e)) is

  pub first_vector : (rcnm ≡ 100 → ⊥) → option_of c ≡ control_at update by 5 → option_of c ≡ (amendment_at update by).first
  unfolding is_feature
  first_vector ne is = rw (ne_eqb (rcnm_at update by) 100 (λ (e : rcnm_at update by ≡ 100). ne (read ∙ e))) is

  pub second_feature : rcnm ≡ 100 → option_of c ≡ control_at update by 16 → option_of c ≡ (amendment_at update by).second
  unfolding is_feature
  second_feature e is = rw (eq-eqb (rcnm_at update by) 100 (sym read ∙ e)) is

  pub second_vector : (rcnm ≡ 100 → ⊥) → option_of c ≡ control_at update by 7 → option_of c ≡ (amendment_at update by).second
  unfolding is_feature
  second_vector ne is = rw (ne_eqb (rcnm_at update by) 100 (λ (e : rcnm_at update by ≡ 100). ne (read ∙ e))) is

-- ---- the control that is picked: a list has no entries if it has no bytes
none_by : (es : List (List ℕ)) (bs : List ℕ) → flatten es ≡ bs → (bs ≡ [] → es ≡ []) → is_none es ≡ eqb (length bs) 0
unfolding is_none flatten
none_by [] [] e none = refl
none_by [] (b ∷ bs) e none = absurd (let z = ap length e in omega arith)
none_by (x ∷ es) [] e none = absurd (let z = ap length (none refl) in omega arith)
none_by (x ∷ es) (b ∷ bs) e none = sym (ne_eqb (length (b ∷ bs)) 0 (λ (z : length (b ∷ bs) ≡ 0). omega arith))

none_is : (s : List ℕ) (at k : ℕ) → LaidOut s at → (row_of k).list ≡ true → is_none (list_of s at k) ≡ eqb (length (list_at s at k)) 0
unfolding list_of entries_at
none_is s at k laid list =
    none_by (list_of s at k) (list_at s at k) (list_bytes_lem s at k laid list)
    (λ (e : list_at s at k ≡ []). rw list (ap (λ (l : List ℕ). entries_of (shape_of k) l) e ∙ entries_nil (shape_of k)))

pairs_list : (row_of SG2D).list ≡ true
unfolding row_of table
pairs_list = refl

soundings_list : (row_of SG3D).list ≡ true
unfolding row_of table
soundings_list = refl

module _ {cell : List ℕ} {at : ℕ} {update : List ℕ} {by : ℕ} (sides : Sides cell at update by) where
  means_same : coordinates (list_of cell at) (list_of update by) ≡ coordinates_by cell at update by
  unfolding coordinates coordinates_by
  means_same =
      rw (none_is cell at SG2D sides.old pairs_list, none_is cell at SG3D sides.old soundings_list, none_is update by SG3D sides.new soundings_list)

  pub plan_picked : {plan : Plan} (k : ℕ) (c : Option Control) → PlanFor cell at update by plan → (row_of k).list ≡ true
      → (option_of c ≡ chosen k (option_of plan.first) (option_of plan.second) plan.coordinates) × IfSome c Given → Picked cell at update by k c
  unfolding chosen control_of
  plan_picked k c for list (is, small) =
      let known = for.controlled in
      record { list = list; small = small; is = is ∙ rw (known.first_is, known.second_is, known.means, ← means_same) }

-- ---- the answer of the writer as a verdict
pub verdict_put : {may : Bool} {bytes area next : List ℕ} {at : ℕ} {r : Option ℕ} → ListPut may bytes area at next r → is_some r ≡ may
verdict_put {r = None} p = sym (put_refused p refl)
verdict_put {r = Some e} p = sym (put_allowed p refl)

-- ---- four lists: the answer from list i on is the answer
module _ (kinds : List ℕ) (u : Edit) (held : ℕ → List (List ℕ)) (i : ℕ) (so : lists_allowed kinds u held ≡ lists_allowed (drop i kinds) u held) (long : length kinds ≡ 4) where
  module _ (here : i < 4) (b : Bool) (told : b ≡ allowed_at u held (get_or kinds i 0)) where
    next : lists_allowed kinds u held ≡ (allowed_at u held (get_or kinds i 0) && lists_allowed (drop (suc i) kinds) u held)
    unfolding lists_allowed all_of
    next = so ∙ rw (drop-cons kinds i 0 (omega arith))

    pub four_no : not b ≡ true → false ≡ lists_allowed kinds u held
    four_no broken = sym (next ∙ sym (and_no (allowed_at u held (get_or kinds i 0)) _ (told_no b _ told broken)))

    pub four_on : not b ≡ false → lists_allowed kinds u held ≡ lists_allowed (drop (i + 1) kinds) u held
    four_on is = next ∙ rw (told_yes b _ told is, add-one i)

  pub four_end : 4 ≤ i → true ≡ lists_allowed kinds u held
  unfolding lists_allowed all_of
  four_end past = sym (so ∙ rw (drop_of_length-le kinds {i = i} (omega arith)))

pub four_kind : {cell : List ℕ} {at : ℕ} {update : List ℕ} {by : ℕ} {plan : Plan} (i : ℕ) → PlanFor cell at update by plan → i < 4 → (row_of (get_or plan.kinds i 0)).list ≡ true
four_kind i for here = for.lists.each i here

pub kind_room : {cell : List ℕ} {at : ℕ} {update : List ℕ} {by : ℕ} (k room : ℕ) → Sides cell at update by → 199999 ≤ room
    → 0 + (length (list_at cell at k) + length (list_at update by k)) ≤ room
kind_room k room sides h = omega (arith, sides.old_few k, sides.new_few k)

-- ---- both records and the areas, as the readers of the controls ask for them
pub class_same : {cell : List ℕ} {at : ℕ} {update : List ℕ} {by : ℕ} (rcnm : ℕ) → Paired cell at update by → rcnm ≡ rcnm_at cell at → rcnm ≡ rcnm_at update by
class_same rcnm paired read = read ∙ sym paired.same

pub areas_five : {join table : List ℕ} → Areas join table → 5 ≤ length join
areas_five areas = let w = areas.wide in omega arith

pub areas_kept : {join table next : List ℕ} → Areas join table → length next ≡ length join → Areas next table
areas_kept areas size = record { wide = rw size areas.wide; zero = areas.zero }

pub planned_for : {cell : List ℕ} {at : ℕ} {update : List ℕ} {by : ℕ} {kinds : List ℕ} (rcnm means : ℕ) (c : Controls) → rcnm ≡ rcnm_at cell at
    → (kinds ≡ kinds_of rcnm) × FourLists kinds → means ≡ coordinates_by cell at update by → BothRead update by c
    → PlanFor cell at update by (record { kinds = kinds; first = c.first; second = c.second; coordinates = means })
planned_for rcnm means c read kinds coordinates both = record {
  kinds_are = kinds.0 ∙ ap kinds_of read;
  lists = kinds.1;
  controlled = record {
    first_is = both.first_is;
    second_is = both.second_is;
    first_small = both.first_small;
    second_small = both.second_small;
    means = coordinates;
  };
}

pub both_read : {update : List ℕ} {by : ℕ} {first second : Option Control} → (option_of first ≡ (amendment_at update by).first) × IfSome first Given
    → (option_of second ≡ (amendment_at update by).second) × IfSome second Given → BothRead update by (record { first = first; second = second })
both_read f s = record { first_is = f.0; second_is = s.0; first_small = f.1; second_small = s.1 }

pub allowed_kinds : {cell : List ℕ} {at : ℕ} {update : List ℕ} {by : ℕ} {plan : Plan} (u : Edit) (held : ℕ → List (List ℕ)) (b : Bool) → PlanFor cell at update by plan
    → b ≡ lists_allowed plan.kinds u held → b ≡ lists_allowed (kinds_of (rcnm_at cell at)) u held
allowed_kinds u held b plan told = told ∙ ap (λ (ks : List ℕ). lists_allowed ks u held) plan.kinds_are

pub paired_sides : {cell : List ℕ} {at : ℕ} {update : List ℕ} {by : ℕ} → Paired cell at update by → Sides cell at update by
paired_sides paired = paired.sides
