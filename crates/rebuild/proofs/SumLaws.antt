-- How long lists are together: those of a record with their 1E are not longer than the record, and an edited list is not longer than the two that
-- it comes from. Assumes nothing.
use Prim.Native.Nat.{ℕ, zero, suc, ◌+◌, ◌-◌, ◌≤◌, ◌<◌}
use mathlib.Core.Bool.{Bool, true, false, not}
use mathlib.Core.List.{List, [], ◌∷◌, ◌++◌, flatten}
use mathlib.Core.Logic.{⊎_elim}
use mathlib.Core.Option.{Option, none, some}
use mathlib.Core.Path.{◌≡◌, refl, sym, ap, ◌∙◌}
use native.Mathlib.Omega.{arith}
use lib.ListN.{length, take, drop, length-append, length-take, take-append-drop}
use lib.Seq.{drop-drop}
use lib.Dec.{eqb}
use borrow.Author.Tests.{eq-eqb}
use Rattle.octets.proofs.Cases.{eq_or_ne, true_or_false}
use Rattle.octets.proofs.Tests.{both}
use Rattle.iso8211.specs.Record.{end_of}
use Rattle.iso8211.specs.Field.{count_at, field_at}
use Rattle.iso8211.specs.Premises.{RecordIn}
use Rattle.entries.proofs.EntriesLaws.{flatten_append}
use Rattle.table.specs.Table.{row_of}
use Rattle.attributes.specs.Attributes.{label_of, is_removal}
use Rattle.layout.specs.Record.{kind_at}
use Rattle.fieldvalue.specs.Value.{is_attributes}
use Rattle.items.specs.Lists.{part_at, join_from, list_at}
use Rattle.items.proofs.ListsLaws.{part_yes, part_no}
use Rattle.items.specs.Item.{is_feature, list_of, item_at}
use Rattle.itemfields.proofs.BytesLaws.{list_bytes_lem}
use Rattle.edits.specs.Control.{Control, gone, edited, edited_by}
use Rattle.edits.specs.AttributeEdit.{named}
use Rattle.edits.specs.OnePass.{apart, worked, fresh, one_pass}
use Rattle.edits.specs.Lists.{list_edited, control_of, lists_edited, allowed_at}
use Rattle.labelled.proofs.OnceLaws.{one_pass_bytes}
use Rattle.itemrows.specs.Joined.{bytes_for, sum_by}
use Rattle.itemrows.proofs.RowLaws.{bytes_no, bytes_some}
use Rattle.changes.specs.Change.{amendment_at, edit_of}
use Rattle.changes.specs.Amend.{kinds_of}
use Rattle.amend.specs.Sides.{Sides, list_bytes}
use Rattle.raising.specs.Record.{both_for, Summed}
use Rattle.amend.proofs.EditLaws.{held_apart, pass_is}

-- ---- a list with its 1E
pub bytes_least : (t : ℕ) → t ≤ bytes_for t
bytes_least t = ⊎_elim (λ (e : t ≡ 0). omega (arith, bytes_no t e)) (λ (ne : t ≡ 0 → ⊥). omega (arith, bytes_some t ne)) (eq_or_ne t 0)

bytes_most : (t : ℕ) → bytes_for t ≤ t + 1
bytes_most t = ⊎_elim (λ (e : t ≡ 0). omega (arith, bytes_no t e)) (λ (ne : t ≡ 0 → ⊥). omega (arith, bytes_some t ne)) (eq_or_ne t 0)

pub bytes_both : (t a b : ℕ) → t ≤ a + b → bytes_for t ≤ bytes_for a + bytes_for b
bytes_both t a b h =
    ⊎_elim (λ (e : t ≡ 0). omega (arith, bytes_no t e))
    (λ (ne : t ≡ 0 → ⊥).
    ⊎_elim (λ (z : a ≡ 0). let some : b ≡ 0 → ⊥ = λ (y : b ≡ 0). ne (omega arith) in omega (arith, bytes_some t ne, bytes_some b some))
    (λ (some : a ≡ 0 → ⊥). omega (arith, bytes_some t ne, bytes_some a some, bytes_least b)) (eq_or_ne a 0))
    (eq_or_ne t 0)

-- ---- sums over kinds
pub sum_two : (f g : ℕ → ℕ) (ks : List ℕ) → sum_by (λ (k : ℕ). f k + g k) ks ≡ sum_by f ks + sum_by g ks
unfolding sum_by
sum_two f g [] = refl
sum_two f g (k ∷ ks) = let e = sum_two f g ks in omega arith

sum_same : (f g : ℕ → ℕ) (kind : ℕ) → ((k : ℕ) → (kind ≡ k → ⊥) → f k ≡ g k) → (ks : List ℕ) → named (λ (k : ℕ). k) kind ks ≡ false → sum_by f ks ≡ sum_by g ks
unfolding sum_by named
sum_same f g kind same [] out = refl
sum_same f g kind same (x ∷ ks) out =
    ⊎_elim (λ (t : eqb x kind ≡ true). absurd (let z : ◌≡◌ {A = ℕ} 0 1 = let e = rw t at out in cc in omega arith))
    (λ (f' : eqb x kind ≡ false).
    let other : kind ≡ x → ⊥ = λ (e : kind ≡ x). (let z : ◌≡◌ {A = ℕ} 0 1 = let y = eq-eqb x kind (sym e) in cc in omega arith) in
    let rest = sum_same f g kind same ks (rw f' at out) in
    let here = same x other in
    omega arith)
    (true_or_false (eqb x kind))

-- f and g differ in one kind at most, and there by n at most
sum_step : (f g : ℕ → ℕ) (kind n : ℕ) → ((k : ℕ) → kind ≡ k → f k ≤ n + g k) → ((k : ℕ) → (kind ≡ k → ⊥) → f k ≡ g k)
    → (ks : List ℕ) → apart (λ (k : ℕ). k) ks ≡ true → sum_by f ks ≤ n + sum_by g ks
unfolding sum_by apart
sum_step f g kind n here same [] once = omega arith
sum_step f g kind n here same (x ∷ ks) once =
    let p = both (not (named (λ (k : ℕ). k) x ks)) (apart (λ (k : ℕ). k) ks) once in
    ⊎_elim (λ (e : kind ≡ x).
    let rest = sum_same f g kind same ks (rw (← e) at (not_named (named (λ (k : ℕ). k) x ks) p.0)) in
    let one = here x e in
    omega arith)
    (λ (ne : kind ≡ x → ⊥). let rest = sum_step f g kind n here same ks p.1 in let one = same x ne in omega arith) (eq_or_ne kind x)
  where
    not_named : (b : Bool) → not b ≡ true → b ≡ false
    not_named true h = absurd (let z : ◌≡◌ {A = ℕ} 0 1 = cc in omega arith)
    not_named false h = refl

-- ---- the lists of a record
module _ (s : List ℕ) (at : ℕ) (known : RecordIn s at) where
  joined : ℕ → ℕ → ℕ → ℕ
  joined n j k = bytes_for (length (join_from n s at k j))

  module _ (n j : ℕ) (h : j < count_at s at) where
    step_here : (k : ℕ) → kind_at s at j ≡ k → joined (suc n) j k ≤ (field_at s at j).length + joined n (j + 1) k
    unfolding join_from joined
    step_here k e =
        let long = (known.fields j h).long in
        let part : length (part_at s at k j) ≤ (field_at s at j).length - 1 = rw (part_yes s at k j e, length-take) (omega arith) in
        let sum = length-append (part_at s at k j) (join_from n s at k (j + 1)) in
        rw sum (omega (arith, bytes_most (length (part_at s at k j) + length (join_from n s at k (j + 1))), bytes_least (length (join_from n s at k (j + 1)))))

    step_other : (k : ℕ) → (kind_at s at j ≡ k → ⊥) → joined (suc n) j k ≡ joined n (j + 1) k
    unfolding join_from joined
    step_other k ne = rw (part_no s at k j ne)

  module _ (kinds : List ℕ) (once : apart (λ (k : ℕ). k) kinds ≡ true) where
    none_sum : (j : ℕ) (ks : List ℕ) → sum_by (joined 0 j) ks ≡ 0
    unfolding sum_by joined join_from bytes_for
    none_sum j [] = refl
    none_sum j (k ∷ ks) = let here : joined 0 j k ≡ 0 = refl in let rest = none_sum j ks in omega arith

    sum_next : (n j : ℕ) → j < count_at s at → sum_by (joined (suc n) j) kinds ≤ (field_at s at j).length + sum_by (joined n (j + 1)) kinds
    sum_next n j h = sum_step (joined (suc n) j) (joined n (j + 1)) (kind_at s at j) (field_at s at j).length (step_here n j h) (step_other n j h) kinds once

    sum_from : (n j : ℕ) → j + suc n ≡ count_at s at → (field_at s at j).start + sum_by (joined (suc n) j) kinds ≤ end_of s at
    sum_from zero j e = let within = (known.fields j (omega arith)).within in omega (arith, none_sum (j + 1) kinds, sum_next 0 j (omega arith))
    sum_from (suc n) j e =
        let rest = sum_from n (j + 1) (omega arith) in
        let next = known.gapless j (omega arith) in
        omega (arith, sum_next (suc n) j (omega arith))

    pub record_sums : Summed s at kinds
    unfolding list_at joined
    record_sums = record {
      is =
          let some = known.framed.headed.some in
          let one : count_at s at ≡ suc (count_at s at - 1) = omega arith in
          let all = sum_from (count_at s at - 1) 0 (omega arith) in
          let same : sum_by (joined (suc (count_at s at - 1)) 0) kinds ≡ sum_by (joined (count_at s at) 0) kinds = ap (λ (n : ℕ). sum_by (joined n 0) kinds) (sym one) in
          let small = known.framed.small in
          let front = known.front in
          omega arith;
    }

  pub record_few : (k : ℕ) → length (list_at s at k) ≤ 99999
  unfolding sum_by apart named
  record_few k = let sum = (record_sums (k ∷ []) refl).is in omega (arith, bytes_least (length (list_at s at k)))

-- the kinds of an object's lists are four
pub kinds_apart : (rcnm : ℕ) → apart (λ (k : ℕ). k) (kinds_of rcnm) ≡ true
unfolding kinds_of apart named
kinds_apart rcnm =
    ⊎_elim (λ (t : is_feature rcnm ≡ true). rw t) (λ (f : is_feature rcnm ≡ false). rw f) (true_or_false (is_feature rcnm))

-- ---- an edited list
flat_split : (n : ℕ) (es : List (List ℕ)) → length (flatten (take n es)) + length (flatten (drop n es)) ≡ length (flatten es)
flat_split n es =
    let parts = ap length (flatten_append (take n es) (drop n es)) ∙ length-append (flatten (take n es)) (flatten (drop n es)) in
    sym parts ∙ ap (λ (l : List (List ℕ)). length (flatten l)) (take-append-drop n es)

edited_bound : (before out : ℕ) (held new : List (List ℕ)) → length (flatten (edited before out held new)) ≤ length (flatten held) + length (flatten new)
unfolding edited
edited_bound before out held new =
    let a = take before held in
    let c = drop (before + out) held in
    let first = ap length (flatten_append a (new ++ c)) ∙ length-append (flatten a) (flatten (new ++ c)) in
    let second = ap length (flatten_append new c) ∙ length-append (flatten new) (flatten c) in
    let rest : length (flatten (drop out (drop before held))) ≡ length (flatten c) = ap (λ (l : List (List ℕ)). length (flatten l)) (drop-drop out before held) in
    omega (arith, flat_split before held, flat_split out (drop before held))

list_bound : (c : Option Control) (held new : List (List ℕ)) → length (flatten (list_edited c held new)) ≤ length (flatten held) + length (flatten new)
unfolding list_edited edited_by
list_bound none held new = omega arith
list_bound (some c) held new = edited_bound (c.index - 1) (gone c) held new

pass_bound : (held new : List (List ℕ)) → apart label_of held ≡ true → length (flatten (one_pass label_of is_removal held new)) ≤ length (flatten held) + length (flatten new)
unfolding one_pass
pass_bound held new once =
    let a = worked label_of is_removal held new in
    let b = fresh label_of held new in
    let sum = ap length (flatten_append a b) ∙ length-append (flatten a) (flatten b) in
    omega (arith, one_pass_bytes held new once)

module _ {cell : List ℕ} {at : ℕ} {update : List ℕ} {by : ℕ} (sides : Sides cell at update by) (k : ℕ) (list : (row_of k).list ≡ true)
    (may : allowed_at (edit_of (amendment_at update by)) (item_at cell at).lists k ≡ true) where
  result_bound : length (list_bytes cell at update by k) ≤ length (flatten (list_of cell at k)) + length (flatten (list_of update by k))
  unfolding lists_edited
  result_bound =
      ⊎_elim (λ (t : is_attributes k ≡ true). rw (pass_is sides k list t may) (pass_bound (list_of cell at k) (list_of update by k) (held_apart sides k list t)))
      (λ (f : is_attributes k ≡ false). rw f (list_bound (control_of (edit_of (amendment_at update by)) (list_of cell at) k) (list_of cell at k) (list_of update by k)))
      (true_or_false (is_attributes k))

  pub edited_short : length (list_bytes cell at update by k) ≤ length (list_at cell at k) + length (list_at update by k)
  edited_short = omega (arith, result_bound, ap length (list_bytes_lem cell at k sides.old list), ap length (list_bytes_lem update by k sides.new list))

  pub edited_both : bytes_for (length (list_bytes cell at update by k)) ≤ both_for cell at update by k
  edited_both = bytes_both _ (length (list_at cell at k)) (length (list_at update by k)) edited_short
