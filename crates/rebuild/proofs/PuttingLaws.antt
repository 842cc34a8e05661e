-- The lists of the result, one behind the other: a field, and the turns of the loop. Assumes nothing.
use Prim.Native.Nat.{ℕ, zero, suc, ◌+◌, ◌-◌, ◌≤◌, ◌<◌}
use mathlib.Core.Bool.{true}
use mathlib.Core.List.{List, [], ◌∷◌}
use mathlib.Core.Logic.{⊎_elim}
use mathlib.Core.Path.{◌≡◌, refl, sym, ◌∙◌}
use native.Mathlib.Numerals.{add-one}
use native.Mathlib.Omega.{arith}
use lib.ListN.{length, drop, get_or, set, length-set}
use lib.Seq.{drop-cons, get_or-set_same, get_or-set_other}
use Rattle.std.specs.Prelude.{Option, Some, IsSome}
use Rattle.octets.proofs.ListLaws.{member_at}
use Rattle.octets.proofs.Cases.{eq_or_ne, le_or_lt}
use Rattle.octets.specs.Number.{bytes_of}
use Rattle.octets.specs.Area.{Wrote, Going}
use Rattle.octets.proofs.AreaLaws.{wrote_has, wrote_length, going_start}
use Rattle.table.specs.Table.{row_of}
use Rattle.items.specs.Identity.{rcnm_at, version_at}
use Rattle.items.specs.Premises.{LaidOut, Identified, Featured}
use Rattle.items.specs.Lists.{list_at}
use Rattle.records.specs.Written.{body_of}
use Rattle.items.specs.Item.{item_at}
use Rattle.edits.specs.Lists.{allowed_at}
use Rattle.edits.proofs.ListsLaws.{allowed_in}
use Rattle.splice.specs.Put.{ListPut}
use Rattle.splice.proofs.PutLaws.{put_given, put_done}
use Rattle.itemrows.specs.Joined.{field_piece, field_pieces, bytes_for, sum_by, Small}
use Rattle.itemrows.proofs.RowLaws.{bytes_no, bytes_some}
use Rattle.writing.proofs.JoinedLaws.{field_long}
use Rattle.joining.proofs.PartLaws.{field_none, field_last, field_put, fields_on, fields_end}
use Rattle.changes.specs.Change.{amendment_at, edit_of}
use Rattle.changes.specs.Amend.{kinds_of}
use Rattle.amend.specs.declared.plan.Plan.{Plan}
use Rattle.amend.specs.Sides.{Sides, list_bytes}
use Rattle.amend.specs.Pairs.{Paired, PlanFor}
use Rattle.raising.specs.Record.{both_for, Editable, ListsPut}
use Rattle.rebuild.proofs.SumLaws.{bytes_least, sum_two, edited_short, edited_both}

bytes_less : (t : ℕ) → bytes_for t - 1 ≡ t
bytes_less t = ⊎_elim (λ (e : t ≡ 0). omega (arith, bytes_no t e)) (λ (ne : t ≡ 0 → ⊥). omega (arith, bytes_some t ne)) (eq_or_ne t 0)

get_d_past : (l : List ℕ) (j d : ℕ) → length l ≤ j → get_or l j d ≡ d
get_d_past [] j d h = refl
get_d_past (x ∷ l) zero d h = absurd (omega arith)
get_d_past (x ∷ l) (suc j) d h = get_d_past l j d (omega arith)

-- ---- one list with its 1E
module _ {cell : List ℕ} {at : ℕ} {update : List ℕ} {by : ℕ} (sides : Sides cell at update by) (k : ℕ) (list : (row_of k).list ≡ true)
    (may : allowed_at (edit_of (amendment_at update by)) (item_at cell at).lists k ≡ true) where
  body_most : length (body_of (field_piece k (list_bytes cell at update by k))) ≤ both_for cell at update by k
  body_most = omega (arith, field_long k (list_bytes cell at update by k), edited_both sides k list may)

  pub edited_given : {a b : List ℕ} {place : ℕ} {r : Option ℕ}
      → ListPut (allowed_at (edit_of (amendment_at update by)) (item_at cell at).lists k) (list_bytes cell at update by k) a place b r → IsSome r
  edited_given put = put_given put may

  module _ {a b : List ℕ} {place end : ℕ} {r : Option ℕ}
      (put : ListPut (allowed_at (edit_of (amendment_at update by)) (item_at cell at).lists k) (list_bytes cell at update by k) a place b r) (told : r ≡ Some end)
      (room : place + both_for cell at update by k ≤ length a) where
    wrote : Wrote a place (list_bytes cell at update by k) b end
    wrote = put_done put told

    fits : place + length (body_of (field_piece k (list_bytes cell at update by k))) ≤ length a
    fits = omega (arith, body_most)

    pub edited_none : end ≡ place → Wrote a place (body_of (field_piece k (list_bytes cell at update by k))) b place
    edited_none e =
        let none : length (list_bytes cell at update by k) ≡ 0 = omega (arith, wrote.end) in
        let same : b ≡ a = empty_wrote wrote none in
        rw same (field_none k 0 (list_bytes cell at update by k) (sym none) a place refl fits)
      where
        empty_wrote : {a b : List ℕ} {place end : ℕ} {xs : List ℕ} → Wrote a place xs b end → length xs ≡ 0 → b ≡ a
        empty_wrote {xs = []} w e = w.is
        empty_wrote {xs = x ∷ xs} w e = absurd (omega arith)

    module _ (ne : end ≡ place → ⊥) where
      some : length (list_bytes cell at update by k) ≡ 0 → ⊥
      some e = ne (omega (arith, wrote.end))

      pub edited_last : end + 1 ≤ length b
      edited_last = field_last k (length (list_bytes cell at update by k)) (list_bytes cell at update by k) refl some fits wrote

      pub edited_put : {d : List ℕ} {r : ℕ} → Wrote b end (bytes_of 1 30) d r → Wrote a place (body_of (field_piece k (list_bytes cell at update by k))) d r
      edited_put x = field_put k (length (list_bytes cell at update by k)) (list_bytes cell at update by k) refl some wrote x

      pub edited_least : {d : List ℕ} {r : ℕ} → Wrote b end (bytes_of 1 30) d r → place ≤ r
      edited_least x = omega (arith, (edited_put x).end)

      pub edited_most : {d : List ℕ} {r : ℕ} → Wrote b end (bytes_of 1 30) d r → r ≤ place + both_for cell at update by k
      edited_most x = omega (arith, (edited_put x).end, body_most)

pub kind_fits : (cell : List ℕ) (at : ℕ) (update : List ℕ) (by k place room : ℕ) → place + both_for cell at update by k ≤ room
    → place + (length (list_at cell at k) + length (list_at update by k)) ≤ room
kind_fits cell at update by k place room h = omega (arith, bytes_least (length (list_at cell at k)), bytes_least (length (list_at update by k)))

-- ---- the loop: lists from i on are to come, at `next`
pub record Putting (cell : List ℕ) (at : ℕ) (update : List ℕ) (by : ℕ) (kinds before area : List ℕ) (next : ℕ) (totals : List ℕ) (i : ℕ) : Type 0 where
  pub inside : i ≤ 4
  pub going : Going before 256 (body_of (field_pieces kinds (list_bytes cell at update by))) area next (body_of (field_pieces (drop i kinds) (list_bytes cell at update by)))
  pub near : next + sum_by (both_for cell at update by) (drop i kinds) ≤ 200254
  pub done : (j : ℕ) → j < i → get_or totals j 0 ≡ length (list_bytes cell at update by (get_or kinds j 0))
  pub four : length totals ≡ 4
  pub size : length area ≡ length before

module _ {cell : List ℕ} {at : ℕ} {update : List ℕ} {by : ℕ} {plan : Plan} (able : Editable cell at update by) (for : PlanFor cell at update by plan) where
  sums : sum_by (both_for cell at update by) plan.kinds ≤ 199998
  sums =
      let e = sum_two (λ (k : ℕ). bytes_for (length (list_at cell at k))) (λ (k : ℕ). bytes_for (length (list_at update by k))) plan.kinds in
      let old : sum_by (λ (k : ℕ). bytes_for (length (list_at cell at k))) plan.kinds ≤ 99999 = rw for.kinds_are able.old_sum.is in
      let new : sum_by (λ (k : ℕ). bytes_for (length (list_at update by k))) plan.kinds ≤ 99999 = rw for.kinds_are able.new_sum.is in
      omega arith

  pub putting_start : (a : List ℕ) → 200500 ≤ length a → Putting cell at update by plan.kinds a a 256 (0 ∷ 0 ∷ 0 ∷ 0 ∷ []) 0
  putting_start a room = record {
    inside = omega arith;
    going = going_start a 256 (body_of (field_pieces plan.kinds (list_bytes cell at update by))) (omega arith);
    near = omega (arith, sums);
    done = λ j h. absurd (omega arith);
    four = refl;
    size = refl;
  }

  pub editable_kind : (i : ℕ) → i < 4 → (row_of (get_or plan.kinds i 0)).list ≡ true
  editable_kind i here = for.lists.each i here

  pub editable_allowed : (i : ℕ) → i < 4 → allowed_at (edit_of (amendment_at update by)) (item_at cell at).lists (get_or plan.kinds i 0) ≡ true
  editable_allowed i here =
      allowed_in (edit_of (amendment_at update by)) (item_at cell at).lists plan.kinds (get_or plan.kinds i 0)
      (member_at plan.kinds i (omega (arith, for.lists.four))) (rw for.kinds_are able.allowed)

  few : (i : ℕ) → i < 4 → length (list_bytes cell at update by (get_or plan.kinds i 0)) ≤ 300000
  few i here =
      let k = get_or plan.kinds i 0 in
      let sides = able.paired.sides in
      omega (arith, edited_short sides k (editable_kind i here) (editable_allowed i here), sides.old_few k, sides.new_few k)

  module _ {before area : List ℕ} {next : ℕ} {totals : List ℕ} {i : ℕ} (so : Putting cell at update by plan.kinds before area next totals i) where
    module _ (here : i < 4) where
      next_sum : sum_by (both_for cell at update by) (drop i plan.kinds)
          ≡ both_for cell at update by (get_or plan.kinds i 0) + sum_by (both_for cell at update by) (drop (suc i) plan.kinds)
      unfolding sum_by
      next_sum = rw (drop-cons plan.kinds i 0 (omega (arith, for.lists.four)))

      pub putting_room : 200500 ≤ length before → next + both_for cell at update by (get_or plan.kinds i 0) ≤ length area
      putting_room room = omega (arith, so.near, so.size, next_sum)

      module _ {end : ℕ} (most : end ≤ next + both_for cell at update by (get_or plan.kinds i 0)) where
        pub putting_high : end ≤ 4000000000
        putting_high = omega (arith, so.near, next_sum)

        module _ {after : List ℕ}
            (w : Wrote area next (body_of (field_piece (get_or plan.kinds i 0) (list_bytes cell at update by (get_or plan.kinds i 0)))) after end)
            (t : ℕ) (told : t ≡ end - next - 1) where
          total : t ≡ length (list_bytes cell at update by (get_or plan.kinds i 0))
          total =
              let bytes = list_bytes cell at update by (get_or plan.kinds i 0) in
              omega (arith, w.end, field_long (get_or plan.kinds i 0) bytes, bytes_less (length bytes))

          pub putting_on : Putting cell at update by plan.kinds before after end (set totals i t) (i + 1)
          putting_on = record {
            inside = omega arith;
            going = fields_on plan.kinds (list_bytes cell at update by) i here for.lists.four so.going w;
            near = rw (add-one i) (omega (arith, so.near, next_sum));
            done = λ (j : ℕ) (h : j < i + 1).
                ⊎_elim (λ (e : j ≡ i). rw e (get_or-set_same totals i t 0 (omega (arith, so.four)) ∙ total))
                (λ (ne : j ≡ i → ⊥). get_or-set_other totals i j t 0 ne ∙ so.done j (omega arith)) (eq_or_ne j i);
            four = length-set totals i t ∙ so.four;
            size = wrote_length w ∙ so.size;
          }

    pub putting_end : 4 ≤ i → ListsPut (list_bytes cell at update by) plan.kinds area totals
    putting_end past =
        let all = fields_end plan.kinds (list_bytes cell at update by) i so.going past for.lists.four in
        record {
          has = wrote_has all;
          short = omega (arith, all.end, so.near);
          totaled = record { is = λ (j : ℕ) (h : j < 4). so.done j (omega arith); four = so.four };
          small = record {
            each = λ (j : ℕ).
                ⊎_elim (λ (h : 4 ≤ j). rw (get_d_past totals j 0 (omega (arith, so.four))) (omega arith))
                (λ (h : j < 4). rw (so.done j (omega arith)) (few j h)) (le_or_lt 4 j);
          };
        }

pub lists_kinds : {cell : List ℕ} {at : ℕ} {update : List ℕ} {by : ℕ} {plan : Plan} {area totals : List ℕ} (bytes : ℕ → List ℕ) → PlanFor cell at update by plan
    → ListsPut bytes plan.kinds area totals → ListsPut bytes (kinds_of (rcnm_at cell at)) area totals
lists_kinds bytes for put = rw (← for.kinds_are) put

pub editable_sides : {cell : List ℕ} {at : ℕ} {update : List ℕ} {by : ℕ} → Editable cell at update by → Sides cell at update by
editable_sides able = able.paired.sides

pub editable_paired : {cell : List ℕ} {at : ℕ} {update : List ℕ} {by : ℕ} → Editable cell at update by → Paired cell at update by
editable_paired able = able.paired

pub editable_old : {cell : List ℕ} {at : ℕ} {update : List ℕ} {by : ℕ} → Editable cell at update by → LaidOut cell at
editable_old able = able.paired.sides.old

pub editable_known : {cell : List ℕ} {at : ℕ} {update : List ℕ} {by : ℕ} → Editable cell at update by → Identified cell at
editable_known able = able.paired.known

pub editable_feature : {cell : List ℕ} {at : ℕ} {update : List ℕ} {by : ℕ} (rcnm : ℕ) → Editable cell at update by → (rcnm ≡ rcnm_at cell at) × (rcnm < 256)
    → rcnm ≡ 100 → Featured cell at
editable_feature rcnm able read is = able.paired.known.feature (sym read.0 ∙ is)

pub editable_low : {cell : List ℕ} {at : ℕ} {update : List ℕ} {by : ℕ} → Editable cell at update by → version_at cell at < 65535
editable_low able = able.low

pub lists_small : {bytes : ℕ → List ℕ} {kinds area totals : List ℕ} → ListsPut bytes kinds area totals → Small totals
lists_small put = put.small
