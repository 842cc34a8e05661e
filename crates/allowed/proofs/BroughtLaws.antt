-- What an insert and a delete bring, as the code reads it. Assumes nothing.
use Prim.Native.Nat.{ℕ, zero, suc, ◌+◌, ◌-◌, ◌≤◌, ◌<◌}
use mathlib.Core.Bool.{Bool, true, false, ◌&&◌}
use mathlib.Core.List.{List, [], ◌∷◌, ◌++◌, flatten}
use mathlib.Core.Logic.{⊎_elim}
use mathlib.Core.Path.{◌≡◌, refl, sym, ap, ◌∙◌}
use native.Mathlib.Nat.{zero-add}
use native.Mathlib.Numerals.{add-one}
use native.Mathlib.Omega.{arith}
use lib.ListN.{length}
use lib.Dec.{eqb}
use borrow.Author.Tests.{eq-eqb, ne_eqb}
use Rattle.std.specs.Bool.{MatchBool}
use Rattle.std.specs.List.{AllWithin, range_with_len}
use Rattle.std.proofs.lemmas.List.FromFn.{length-range_with_len, get_or-range_with_len}
use Rattle.octets.specs.Number.{byte_at}
use Rattle.octets.proofs.Cases.{eq_or_ne}
use Rattle.octets.proofs.Tests.{chain}
use Rattle.entries.specs.declared.Shape.{Shape}
use Rattle.entries.specs.Entries.{entries_of}
use Rattle.entries.specs.Premises.{Whole}
use Rattle.entries.specs.Rules.{all_of}
use Rattle.entries.proofs.EntriesLaws.{count_few, entries_nil}
use Rattle.iso8211.specs.Field.{count_at, field_at}
use Rattle.table.specs.Table.{table, kind_of, row_of, ATTV, VRPC, VRPT, SGCC, SG2D, SG3D, ATTF, NATF, FFPC, FFPT, FSPC, FSPT}
use Rattle.attributes.specs.Attributes.{is_removal}
use Rattle.layout.specs.Layout.{shape_of}
use Rattle.fieldvalue.specs.Value.{is_attributes}
use Rattle.items.specs.Premises.{LaidOut}
use Rattle.items.specs.Lists.{list_at, entries_at, join_from}
use Rattle.items.specs.Identity.{rcnm_at}
use Rattle.items.proofs.ListsLaws.{list_whole, join_all, join_next, join_end, part_no}
use Rattle.items.proofs.KindLaws.{attv_list, vrpt_list, sg2d_list, sg3d_list, attf_list, natf_list, ffpt_list, fspt_list}
use Rattle.items.specs.Item.{is_feature, list_of}
use Rattle.edits.specs.Lists.{is_none}
use Rattle.edits.specs.InsertDelete.{is_absent, no_control, plain_at, insert_allowed, delete_allowed}
use Rattle.changes.specs.Change.{control_from, control_at, amendment_at, edit_of}
use Rattle.changes.specs.Amend.{kinds_of}
use Rattle.allowed.specs.Brought.{is_kept, is_empty, SkipsTold, LacksTold, Without}

-- ---- a list by its bytes, t of them
module _ (s : List ℕ) (at k t : ℕ) (is : t ≡ length (list_at s at k)) where
  pub empty_no : (t ≡ 0 → ⊥) → is_empty s at k ≡ false
  unfolding is_empty
  empty_no ne = rw (← is, ne_eqb t 0 ne)

  pub empty_yes : t ≡ 0 → is_empty s at k ≡ true
  unfolding is_empty
  empty_yes e = rw (← is, e)

  pub empty_same : eqb t 0 ≡ is_empty s at k
  unfolding is_empty
  empty_same = rw (← is)

-- "search bytes depth N" closes a return of a function that looks whether lists are empty
pub ruleset bytes = (chain, empty_no, empty_yes, empty_same)

-- ---- a list of which no field is met on a walk over all
pub skips_no : (s : List ℕ) (at f k : ℕ) → SkipsTold s at f k false
skips_no s at f k = record { is = λ e. absurd (let z : ◌≡◌ {A = ℕ} 0 1 = cc in omega arith) }

pub skips_so : {s : List ℕ} {at f : ℕ} (k tag kind : ℕ) → tag ≡ (field_at s at f).tag → kind ≡ kind_of tag → (kind ≡ k → ⊥) → SkipsTold s at f k true
skips_so {s} {at} {f} k tag kind named told other = record { is = λ e. part_no s at k f (λ z. other (told ∙ ap kind_of named ∙ z)) }

module _ (s : List ℕ) (at k fields : ℕ) (all : fields ≡ count_at s at) (each : (f : ℕ) → f < fields → SkipsTold s at f k true) where
  without : (f : ℕ) → f ≤ fields → Without s at k f
  without zero few = record { left = sym (join_all s at k) }
  without (suc f) few =
      let so = without f (omega arith) in
      let here : f < count_at s at = omega arith in
      let skipped = each f (omega arith) in
      rw (← add-one f)
      (record {
        left = so.left ∙ join_next s at k f here ∙ ap (λ (l : List ℕ). l ++ join_from (count_at s at - (f + 1)) s at k (f + 1)) (skipped.is refl);
      })

  without_all : list_at s at k ≡ []
  without_all = let so = without fields (omega arith) in so.left ∙ join_end s at k fields (omega arith)

pub lacks_no : (s : List ℕ) (at k : ℕ) → LacksTold s at k false
lacks_no s at k = record { is = λ e. absurd (let z : ◌≡◌ {A = ℕ} 0 1 = cc in omega arith) }

pub lacks_so : (s : List ℕ) (at i j k fields : ℕ) (r : Bool) (No : Type 0) → fields ≡ count_at s at
    → MatchBool r (AllWithin (λ f. SkipsTold s at f i true × SkipsTold s at f j true × SkipsTold s at f k true) (range_with_len 0 fields) 0 (length (range_with_len 0 fields))) No
    → LacksTold s at i r × LacksTold s at j r × LacksTold s at k r
lacks_so s at i j k fields true No all m =
    let each : (f : ℕ) → f < fields → SkipsTold s at f i true × SkipsTold s at f j true × SkipsTold s at f k true = λ (f : ℕ) (here : f < fields).
    rw (get_or-range_with_len 0 fields f 0 here, zero-add f) at (m f 0 (omega arith) (rw (length-range_with_len 0 fields) here)) in (
      record { is = λ e. without_all s at i fields all (λ f b. (each f b).0) },
      record { is = λ e. without_all s at j fields all (λ f b. (each f b).1) },
      record { is = λ e. without_all s at k fields all (λ f b. (each f b).2) },
    )
lacks_so s at i j k fields false No all m = (lacks_no s at i, lacks_no s at j, lacks_no s at k)

gone : (s : List ℕ) (at k : ℕ) (x : Bool) → LacksTold s at k x → x ≡ true → is_empty s at k ≡ true
gone s at k x told all = empty_yes s at k 0 (sym (ap length (told.is all))) refl

none_kept : (s : List ℕ) (at k : ℕ) → list_at s at k ≡ [] → all_of is_kept (entries_at s at k) ≡ true
unfolding entries_at all_of
none_kept s at k e = rw (e, entries_nil (shape_of k))

-- ---- one attribute
pub kept_long : (e : List ℕ) → (length e ≡ 4 → ⊥) → true ≡ is_kept e
unfolding is_removal
kept_long e ne = rw (ne_eqb (length e) 4 ne)

pub kept_not : (e : List ℕ) → length e ≡ 4 → byte_at e 2 ≡ 127 → false ≡ is_kept e
unfolding is_removal
kept_not e four is = rw (eq-eqb (length e) 4 four, is)

pub kept_other : (e : List ℕ) → (byte_at e 2 ≡ 127 → ⊥) → true ≡ is_kept e
unfolding is_removal
kept_other e ne = rw (ne_eqb (byte_at e 2) 127 ne, and_false (eqb (length e) 4))
  where
    and_false : (b : Bool) → (b && false) ≡ false
    and_false true = refl
    and_false false = refl

-- ---- a control that isn't there
absent_from : (l : List ℕ) → is_absent (control_from l) ≡ eqb (length l) 0
unfolding control_from is_absent
absent_from [] = refl
absent_from (b ∷ bs) = sym (ne_eqb (length (b ∷ bs)) 0 (λ e. omega arith))

absent : (s : List ℕ) (at k : ℕ) → is_absent (control_at s at k) ≡ is_empty s at k
unfolding control_at is_empty
absent s at k = absent_from (list_at s at k)

-- ---- a list has no entries exactly if it has no bytes
none_length : (es : List (List ℕ)) → is_none es ≡ eqb (length es) 0
unfolding is_none
none_length [] = refl
none_length (e ∷ es) = sym (ne_eqb (length (e ∷ es)) 0 (λ z. omega arith))

flat_none : (es : List (List ℕ)) → length es ≡ 0 → length (flatten es) ≡ 0
unfolding flatten
flat_none [] e = refl
flat_none (x ∷ es) e = absurd (omega arith)

whole_none : (sh : Shape) (bs : List ℕ) → Whole sh bs → is_none (entries_of sh bs) ≡ eqb (length bs) 0
whole_none sh bs whole =
    let es = entries_of sh bs in
    none_length es
    ∙ ⊎_elim (λ (z : length es ≡ 0).
    let flat : length (flatten es) ≡ 0 = flat_none es z in
    let none : length bs ≡ 0 = sym (ap length whole.is) ∙ flat in
    rw (z, none))
    (λ (nz : length es ≡ 0 → ⊥). rw (ne_eqb (length es) 0 nz, ne_eqb (length bs) 0 (λ (b : length bs ≡ 0). nz (omega (arith, count_few sh bs)))))
    (eq_or_ne (length es) 0)

none_empty : (s : List ℕ) (at k : ℕ) → LaidOut s at → (row_of k).list ≡ true → is_none (list_of s at k) ≡ is_empty s at k
unfolding list_of is_empty entries_at
none_empty s at k laid list = rw list (whole_none (shape_of k) (list_at s at k) (list_whole s at k laid list))

-- ---- the record whole: what is asked of a feature, and of a vector
and_true : (b : Bool) → (b && true) ≡ b
and_true true = refl
and_true false = refl

module _ (s : List ℕ) (at r : ℕ) (is : r ≡ rcnm_at s at) where
  module _ (feature : r ≡ 100) where
    pub insert_feature : (x : Bool) → x ≡ ((is_empty s at FFPC && is_empty s at FSPC) && (all_of is_kept (entries_at s at ATTF) && all_of is_kept (entries_at s at NATF)))
        → x ≡ insert_allowed (kinds_of (rcnm_at s at)) (edit_of (amendment_at s at))
    unfolding insert_allowed kinds_of is_feature no_control all_of plain_at is_attributes list_of row_of table
    insert_feature x e =
        let class : rcnm_at s at ≡ 100 = sym is ∙ feature in
        rw (class, absent s at FFPC, absent s at FSPC, and_true) e

    pub delete_feature : LaidOut s at → (x : Bool)
        → x ≡ ((is_empty s at FFPC && is_empty s at FSPC) && (is_empty s at ATTF && (is_empty s at NATF && (is_empty s at FFPT && is_empty s at FSPT))))
        → x ≡ delete_allowed (kinds_of (rcnm_at s at)) (edit_of (amendment_at s at))
    unfolding delete_allowed kinds_of is_feature no_control all_of
    delete_feature laid x e =
        let class : rcnm_at s at ≡ 100 = sym is ∙ feature in
        rw (
          class,
          absent s at FFPC,
          absent s at FSPC,
          none_empty s at ATTF laid attf_list,
          none_empty s at NATF laid natf_list,
          none_empty s at FFPT laid ffpt_list,
          none_empty s at FSPT laid fspt_list,
          and_true,
        ) e

  module _ (vector : r ≡ 100 → ⊥) where
    other : eqb (rcnm_at s at) 100 ≡ false
    other = ne_eqb (rcnm_at s at) 100 (λ (e : rcnm_at s at ≡ 100). vector (is ∙ e))

    pub insert_vector : (x : Bool) → x ≡ ((is_empty s at VRPC && is_empty s at SGCC) && all_of is_kept (entries_at s at ATTV))
        → x ≡ insert_allowed (kinds_of (rcnm_at s at)) (edit_of (amendment_at s at))
    unfolding insert_allowed kinds_of is_feature no_control all_of plain_at is_attributes list_of row_of table
    insert_vector x e = rw (other, absent s at VRPC, absent s at SGCC, and_true) e

    pub insert_bare : (x : Bool) → LacksTold s at VRPC x → LacksTold s at SGCC x → LacksTold s at ATTV x → x ≡ true
        → true ≡ insert_allowed (kinds_of (rcnm_at s at)) (edit_of (amendment_at s at))
    insert_bare x first second list all =
        insert_vector true (sym (rw (gone s at VRPC x first all, gone s at SGCC x second all) (none_kept s at ATTV (list.is all))))

    pub delete_vector : LaidOut s at → (x : Bool)
        → x ≡ ((is_empty s at VRPC && is_empty s at SGCC) && (is_empty s at ATTV && (is_empty s at VRPT && (is_empty s at SG2D && is_empty s at SG3D))))
        → x ≡ delete_allowed (kinds_of (rcnm_at s at)) (edit_of (amendment_at s at))
    unfolding delete_allowed kinds_of is_feature no_control all_of
    delete_vector laid x e =
        rw (
          other,
          absent s at VRPC,
          absent s at SGCC,
          none_empty s at ATTV laid attv_list,
          none_empty s at VRPT laid vrpt_list,
          none_empty s at SG2D laid sg2d_list,
          none_empty s at SG3D laid sg3d_list,
          and_true,
        ) e
