-- Laws of the walk over a record's fields: its framing, its layout and its values, each from field j on as from the start. Assumes nothing.
use Prim.Native.Nat.{ℕ, suc, ◌+◌, ◌-◌, ◌*◌, ◌≤◌, ◌<◌}
use mathlib.Core.Bool.{Bool, true, false, not, cond}
use mathlib.Core.List.{List, [], ◌∷◌}
use mathlib.Core.Logic.{⊎_elim}
use mathlib.Core.Path.{◌≡◌, refl, sym, ap, ◌∙◌}
use native.Mathlib.Numerals.{add-one}
use native.Mathlib.Nat.{add_assoc, zero-mul, suc-mul, sub-zero, mul-le-mul_right}
use native.Mathlib.Omega.{arith}
use lib.ListN.{length, take, drop, get_or, drop_of_length-le, length-drop}
use lib.Seq.{drop-cons, length-take-le, get_or-take, get_or-drop, take-take}
use lib.Dec.{eqb}
use borrow.Author.Tests.{le-leb, eq-eqb, eqb-true, not-false}
use Rattle.octets.specs.Number.{byte_at}
use Rattle.octets.proofs.Cases.{true_or_false, le_or_lt}
use Rattle.table.specs.Table.{kind_of, first}
use Rattle.iso8211.specs.Leader.{size_at, base_at, length_digits, position_digits}
use Rattle.iso8211.specs.Directory.{tag_at, row_at}
use Rattle.iso8211.specs.Record.{field_good, in_row, record_good, end_of}
use Rattle.iso8211.specs.Field.{count_at, directory_at, field_at, FieldsIn}
use Rattle.iso8211.specs.Premises.{Rowed}
use Rattle.iso8211.specs.declared.field.Field.{Field}
use Rattle.iso8211.proofs.DirectoryLaws.{rows_row, in_row_next, field_is, field_tag, row_within, row_next}
use Rattle.iso8211.proofs.RecordLaws.{record_row}
use Rattle.iso8211.proofs.Promise.{directory_length, fields_row}
use Rattle.layout.specs.Layout.{filled, field_laid, may_end, layout_fault, content_of}
use Rattle.layout.specs.Record.{kind_at, content_at}
use Rattle.fieldvalue.specs.Value.{field_fault, seen_before, seen_after, values_from, value_fault}
use Rattle.std.specs.Prelude.{Ok}
use Rattle.values.proofs.FaultLaws.{told_none, place_ok, place_none}
use Rattle.fieldvalue.specs.Judged.{FieldJudged, RecordJudged}
use Rattle.layout.proofs.LayoutLaws.{laid_start, turn_on, end_good_lem}
use Rattle.layout.proofs.Promise.{layout_filled, layout_head, full_first, content_length}
use Rattle.attributes.specs.Premises.{Stamped, Upto}
use Rattle.attributes.proofs.StampLaws.{stamp_fresh, upto_more}
use Rattle.fieldfine.specs.Told.{content_in}
use Rattle.fieldfine.specs.Text.{Ended}
use Rattle.fieldfine.specs.Place.{FieldTold}
use Rattle.recordfine.specs.declared.open.Open.{Open}
use Rattle.recordfine.specs.declared.Fine.{Fine}
use Rattle.octets.specs.Premises.{Number}
use Rattle.recordfine.specs.Premises.{OpenAt, RowGood, RowTold, FieldsTold, WholeTold, IdentifiedBy}
use Rattle.recordfine.specs.Walk.{Now, Valued, Passed}
use Rattle.recordfine.specs.Told.{FineTold}

never : {A : Type 0} → false ≡ true → A
never e = absurd (let z : ◌≡◌ {A = ℕ} 0 1 = cc in omega arith)

-- ---- a row
pub row_not : {s : List ℕ} {i l p body size due long : ℕ} → long ≡ 0 → RowTold s i l p body size due long
row_not e = record { told = λ some. absurd (some e) }

pub row_so : {s : List ℕ} {i l p body size due long place : ℕ} → Number s (i + 4) l long → Number s (i + 4 + l) p place → size ≤ 99999
    → place ≡ due → 1 ≤ long → due + long ≤ size → byte_at s (body + (due + long) - 1) ≡ 30 → RowTold s i l p body size due long
row_so n m small at some within ends =
    record { told = λ any. record { is = n.is; place = sym m.is ∙ at; some = some; within = within; ends = ends } }

pub row_within_so : {s : List ℕ} {i l p body size due long : ℕ} → RowTold s i l p body size due long → (long ≡ 0 → ⊥) → due + long ≤ size
row_within_so told some = (told.told some).within

pub row_ends_so : {s : List ℕ} {i l p body size due long : ℕ} → RowTold s i l p body size due long → (long ≡ 0 → ⊥) → byte_at s (body + due + long - 1) ≡ 30
row_ends_so {s} {i} {l} {p} {body} {size} {due} {long} told some = rw (add_assoc body due long) (told.told some).ends

-- ---- a field lent with its 1E
pub lent_ended : (s : List ℕ) (from long : ℕ) → from + long ≤ length s → 1 ≤ long → byte_at s (from + long - 1) ≡ 30 → Ended (take (from + long - from) (drop from s))
lent_ended s from long fits some ends =
    let n : from + long - from ≡ long = omega arith in
    let size : length (take long (drop from s)) ≡ long = length-take-le long (drop from s) (rw length-drop (omega arith)) in
    let last : from + (long - 1) ≡ from + long - 1 = omega arith in
    rw n (record { some = rw size some; ends = rw (size, get_or-take long (drop from s) (long - 1) 0 (omega arith), get_or-drop from s (long - 1) 0, last) ends })

-- ---- the values of the fields
valued_start : (update : Bool) (aall nall : ℕ) (s : List ℕ) (at : ℕ) (t : List ℕ) → Valued update aall nall s at t t 0 (at + 24) 20 at
unfolding value_fault
valued_start update aall nall s at t =
    record { here = λ u. record { seen = []; stamped = λ h. absurd (omega arith); upto = u; below = omega arith; answer = rw (sub-zero (count_at s at)) } }

values_next : (n m : ℕ) (update : Bool) (aall nall : ℕ) (s : List ℕ) (at j prev : ℕ) (seen : List ℕ) (k : ℕ) (c : List ℕ) → n ≡ suc m → k ≡ kind_of (field_at s at j).tag
    → c ≡ content_of s (field_at s at j)
    → field_fault update aall nall k (seen_before prev k seen) c ≡ 0 → values_from n update aall nall s at j prev seen ≡ values_from m update aall nall s at (j + 1) k
    (seen_after k (seen_before prev k seen) c)
unfolding values_from
values_next n m update aall nall s at j prev seen k c e f g z = rw (e, ← f, ← g, eq-eqb _ _ z)

module _ {update : Bool} {aall nall : ℕ} {s : List ℕ} {at : ℕ} {before t after : List ℕ} {j i prev stamp new k next : ℕ} {c : List ℕ} (f : Field)
    (w : Valued update aall nall s at before t j i prev stamp) (more : j < count_at s at) (is : f ≡ field_at s at j) (kind : k ≡ kind_of f.tag) (small : k ≤ 19)
    (content : c ≡ content_of s f) (stamped : new ≡ cond (eqb prev k) stamp i) (judged : FieldJudged update aall nall k c new t after (Ok tt)) (on : i < next)
    (u : Upto before at) where
  next_stamped : Stamped t new (seen_before prev k (w.here u).seen)
  unfolding seen_before
  next_stamped =
      let n = w.here u in
      ⊎_elim (λ (e : eqb prev k ≡ true). let same : prev ≡ k = eqb-true _ _ e in rw (stamped, e) (n.stamped (omega arith)))
      (λ (e : eqb prev k ≡ false). let low = n.below in rw (stamped, e) (stamp_fresh n.upto (omega arith))) (true_or_false (eqb prev k))

  next_upto : Upto t new
  next_upto =
      let n = w.here u in
      ⊎_elim (λ (e : eqb prev k ≡ true). rw (stamped, e) n.upto)
      (λ (e : eqb prev k ≡ false). let low = n.below in rw (stamped, e) (upto_more n.upto (omega arith))) (true_or_false (eqb prev k))

  next_low : new < next
  next_low =
      let low = (w.here u).below in
      ⊎_elim (λ (e : eqb prev k ≡ true). let q : new ≡ stamp = stamped ∙ rw e in omega arith)
      (λ (e : eqb prev k ≡ false). let q : new ≡ i = stamped ∙ rw e in omega arith) (true_or_false (eqb prev k))

  now_on : Now update aall nall s at after (j + 1) next k new
  now_on =
      let n = w.here u in
      record {
        seen = seen_after k (seen_before prev k n.seen) c;
        stamped = λ h. judged.met _ next_stamped;
        upto = judged.upto next_upto;
        below = next_low;
        answer = n.answer ∙ values_next (count_at s at - j) (count_at s at - (j + 1)) update aall nall s at j prev n.seen k c (omega arith)
            (kind ∙ ap (λ (x : Field). kind_of x.tag) is)
            (content ∙ ap (λ (x : Field). content_of s x) is) (told_none _ (judged.fault _ next_stamped) refl);
      }

valued_end : {update : Bool} {aall nall : ℕ} {s : List ℕ} {at : ℕ} {before t : List ℕ} {j i prev stamp : ℕ} → Valued update aall nall s at before t j i prev stamp
    → count_at s at ≤ j → i ≤ end_of s at → RecordJudged update aall nall s at before t (Ok tt)
unfolding values_from
valued_end {update} {aall} {nall} {s} {at} {before} {t} {j} {i} {prev} {stamp} w low high = record {
  fault = λ u. let n = w.here u in let z : count_at s at - j ≡ 0 = omega arith in place_ok (n.answer ∙ rw z);
  upto = λ u. let n = w.here u in let b = n.below in upto_more n.upto (omega arith);
  within = tt;
}

-- ---- where the walk stands
pub passed_start : {s : List ℕ} {at : ℕ} {h : Open} (update : Bool) (stage : ℕ) (marks : List ℕ) (aall nall w : ℕ) (t : List ℕ) → OpenAt s at h
    → Passed update stage marks aall nall s at w t t (at + 24) 20 at 0
passed_start {s} {at} {h} update stage marks aall nall w t o = record {
  j = 0;
  few = omega arith;
  here = rw (zero-mul w) (omega arith);
  framing = o.good;
  laid = laid_start update stage marks s at;
  valued = valued_start update aall nall s at t;
}

-- ---- the rows: where they end, and that the one at i is there
pub whole_rows : {s : List ℕ} {at : ℕ} {h : Open} → OpenAt s at h → h.body ≡ at + 25 + count_at s at * (4 + h.lengths + h.positions)
whole_rows {s} {at} {h} o =
    let whole : 25 + count_at s at * (4 + h.lengths + h.positions) ≡ base_at s at = rw (o.lengths, o.positions) o.framed.headed.whole in
    let body = o.body in
    omega arith

module _ {update : Bool} {stage : ℕ} {marks : List ℕ} {aall nall : ℕ} {s : List ℕ} {at : ℕ} {before t : List ℕ} {i prev stamp due : ℕ} {h : Open}
    (so : Passed update stage marks aall nall s at (4 + h.lengths + h.positions) before t i prev stamp due) (o : OpenAt s at h) where
  row_more : i < h.body - 1 → so.j < count_at s at
  row_more less =
      let w = 4 + h.lengths + h.positions in
      ⊎_elim (λ (past : count_at s at ≤ so.j).
      let step : count_at s at * w ≤ so.j * w = mul-le-mul_right w past in
      let here = so.here in
      absurd (omega (arith, whole_rows o)))
      (λ (y : so.j < count_at s at). y) (le_or_lt (count_at s at) so.j)

  pub row_past : h.body - 1 ≤ i → count_at s at ≤ so.j
  row_past past =
      let w = 4 + h.lengths + h.positions in
      ⊎_elim (λ (y : count_at s at ≤ so.j). y)
      (λ (less : so.j < count_at s at).
      let step : (so.j + 1) * w ≤ count_at s at * w = mul-le-mul_right w (omega arith) in
      let sum : (so.j + 1) * w ≡ so.j * w + w = rw (add-one so.j) (suc-mul so.j w) in
      let here = so.here in
      absurd (omega (arith, whole_rows o))) (le_or_lt (count_at s at) so.j)

  pub row_stop : i ≤ h.body - 1
  row_stop =
      let w = 4 + h.lengths + h.positions in
      let step : so.j * w ≤ count_at s at * w = mul-le-mul_right w so.few in
      let here = so.here in
      omega (arith, whole_rows o)

  rowed : i < h.body - 1 → Rowed s at h.lengths h.positions so.j
  rowed less = record { headed = o.framed.headed; lengths = o.lengths; positions = o.positions; below = row_more less }

  pub row_room : i < h.body - 1 → i + (4 + h.lengths + h.positions) ≤ length s
  row_room less = rw so.here (row_within (rowed less))

-- ---- one field more
module _ {update : Bool} {stage : ℕ} {marks : List ℕ} {aall nall : ℕ} {s : List ℕ} {at : ℕ} {before t after : List ℕ} {prev stamp due i new long k tag : ℕ} {h : Open}
    (so : Passed update stage marks aall nall s at (4 + h.lengths + h.positions) before t i prev stamp due) (o : OpenAt s at h) (less : i < h.body - 1)
    (told : RowTold s i h.lengths h.positions h.body (h.end - h.body) due long) (some : long ≡ 0 → ⊥)
    (tagged : tag ≡ tag_at s i)
    (fine : FieldTold update stage marks aall nall prev tag (content_in (take (h.body + due + long - (h.body + due)) (drop (h.body + due) s))) stamp i t after k)
    (good : k ≡ 20 → ⊥) (stamped : new ≡ cond (eqb prev k) stamp i) where
  row : RowGood s i h.lengths h.positions h.body (h.end - h.body) due long
  row = told.told some

  kinded : k ≡ kind_of (tag_at s i)
  kinded = (fine.told good).kind ∙ ap kind_of tagged

  field : Field
  field = record { tag = tag_at s i; start = at + base_at s at + due; length = long }

  field_so : field ≡ field_at s at so.j
  unfolding field row_at
  field_so =
      rw (← row.place, row.is)
      (field_is s at (base_at s at) h.lengths h.positions i so.j (row_at s h.lengths h.positions i) refl so.here refl (rowed so o less))

  content_so : content_in (take (h.body + due + long - (h.body + due)) (drop (h.body + due) s)) ≡ content_of s field
  unfolding field
  content_so =
      let e : h.body + due + long - (h.body + due) ≡ long = omega arith in
      let within = row.within in
      let fits = o.fits in
      let size : length (take long (drop (h.body + due) s)) ≡ long = length-take-le long (drop (h.body + due) s) (rw length-drop (omega arith)) in
      rw (e, size, take-take (long - 1) long (drop (h.body + due) s) (omega arith), o.body)

  laid_so : field_laid update stage marks s prev field ≡ true
  unfolding field field_laid
  laid_so = let f = fine.told good in rw (← kinded, f.stands, eq-eqb _ _ f.declared, ← content_so) f.full

  framing_so : record_good false s at ≡ in_row s (at + base_at s at) (size_at s at - base_at s at) (drop (so.j + 1) (directory_at s at)) (due + long)
  unfolding directory_at field_good row_at
  framing_so =
      let n = count_at s at in
      let j = so.j in
      let es = directory_at s at in
      let body = at + base_at s at in
      let size = size_at s at - base_at s at in
      let below = row_more so o less in
      let spans : h.end - h.body ≡ size = let x = o.ends in let y = o.body in omega arith in
      let this : get_or es j [] ≡ row_at s h.lengths h.positions i =
      rows_row n j s (length_digits s at) (position_digits s at) (at + 24) below ∙ rw (← o.lengths, ← o.positions, ← so.here) in
      let cut : drop j es ≡ row_at s h.lengths h.positions i ∷ drop (j + 1) es =
      rw (add-one j) (drop-cons es j [] (rw (directory_length s at) below) ∙ ap (λ (x : List ℕ). x ∷ drop (suc j) es) this) in
      so.framing ∙ ap (λ (x : List (List ℕ)). in_row s body size x due) cut
      ∙ in_row_next s body size due (row_at s h.lengths h.positions i) (drop (j + 1) es)
      ∙ rw (
        eq-eqb _ _ row.place,
        ← row.is,
        le-leb 1 long row.some,
        le-leb (due + long) size (let w = row.within in omega arith),
        eq-eqb (byte_at s (body + (due + long) - 1)) 30 (rw o.body at row.ends),
      )

  pub passed_on : Passed update stage marks aall nall s at (4 + h.lengths + h.positions) before after (i + (4 + h.lengths + h.positions)) k new (due + long)
  unfolding field
  passed_on =
      let f = fine.told good in
      let below = row_more so o less in
      record {
        j = so.j + 1;
        few = omega arith;
        here = row_next (at + 24) so.j (4 + h.lengths + h.positions) i so.here;
        framing = framing_so;
        laid = turn_on update stage marks s at so.j prev (count_at s at) refl so.laid below field field_so true (sym laid_so) k kinded refl;
        valued = record {
          here = λ u.
              now_on field so.valued below field_so kinded (let few = f.few in omega arith) content_so stamped (rw (← stamped) at f.judged) (omega arith) u;
        };
      }

  pub due_most : due + long ≤ h.end - h.body
  due_most = row.within

-- ---- the answer
pub whole_not : (due size prev : ℕ) → WholeTold due size prev false
whole_not due size prev = record { full = λ e. never e; last = λ e. never e }

pub whole_so : (due size prev : ℕ) (r : Bool) → due ≡ size → r ≡ may_end prev → WholeTold due size prev r
whole_so due size prev r all told = record { full = λ e. all; last = λ e. sym told ∙ e }

pub fields_not : {update : Bool} {stage : ℕ} {marks : List ℕ} {aall nall : ℕ} {s : List ℕ} {at : ℕ} {before after : List ℕ}
    → FieldsTold update stage marks aall nall s at before after false
fields_not = record { good = λ e. never e; laid = λ e. never e; valued = λ e. never e }

pub fields_so : {update : Bool} {stage : ℕ} {marks : List ℕ} {aall nall : ℕ} {s : List ℕ} {at : ℕ} {before t : List ℕ} {i prev stamp due : ℕ} {h : Open} (r : Bool)
    → Passed update stage marks aall nall s at (4 + h.lengths + h.positions) before t i prev stamp due → OpenAt s at h → h.body - 1 ≤ i
    → WholeTold due (h.end - h.body) prev r → FieldsTold update stage marks aall nall s at before t r
unfolding in_row
fields_so {update} {stage} {marks} {aall} {nall} {s} {at} {before} {t} {i} {prev} {stamp} {due} {h} r so o past told =
    let j = so.j in
    let low = row_past so o past in
    let stop = row_stop so o in
    let room = o.room in
    let end = o.ends in
    let spans : due ≡ h.end - h.body → due ≡ size_at s at - base_at s at = λ (all : due ≡ h.end - h.body). let x = o.ends in let y = o.body in omega arith in
    let none_left : drop j (directory_at s at) ≡ [] = drop_of_length-le (directory_at s at) {i = j} (rw (directory_length s at) low) in
    record {
      good = λ e. so.framing ∙ ap (λ (x : List (List ℕ)). in_row s (at + base_at s at) (size_at s at - base_at s at) x due) none_left ∙ eq-eqb _ _ (spans (told.full e));
      laid = λ (e : r ≡ true). sym (end_good_lem update stage marks s at j prev (count_at s at) refl so.laid low true (sym (told.last e)) refl);
      valued = λ e. valued_end so.valued low (omega arith);
    }

-- ---- the second field
second_rowed : {s : List ℕ} {at : ℕ} {h : Open} → OpenAt s at h → Rowed s at h.lengths h.positions 1
second_rowed o = record { headed = o.framed.headed; lengths = o.lengths; positions = o.positions; below = let two = o.two in omega arith }

pub second_kind : (s : List ℕ) (at i t k : ℕ) (h : Open) → OpenAt s at h → i ≡ at + 24 + (4 + h.lengths + h.positions) → t ≡ tag_at s i → k ≡ kind_of t → k ≡ kind_at s at 1
second_kind s at i t k h o e f g = g ∙ ap kind_of (field_tag s at h.lengths h.positions i 1 t (second_rowed o) (omega arith) f)

pub second_room : {s : List ℕ} {at : ℕ} {h : Open} → OpenAt s at h → at + 24 + (4 + h.lengths + h.positions) + (4 + h.lengths + h.positions) ≤ length s
second_room {s} {at} {h} o = let room = row_within (second_rowed o) in omega arith

-- 0001 has two bytes and its 1E
second_start : (update : Bool) (stage : ℕ) (marks : List ℕ) {s : List ℕ} {at : ℕ} {h : Open} → OpenAt s at h → record_good false s at ≡ true
    → layout_fault update stage marks s at ≡ 0
    → h.body + 3 ≡ (field_at s at 1).start
second_start update stage marks {s} {at} {h} o good none =
    let fits = o.framed.fits in
    let high = o.framed.high in
    let small = o.framed.small in
    let two = o.two in
    let known : FieldsIn s at = fields_row s at (size_at s at - base_at s at) (record_row false s at good) o.framed.headed (omega arith) (omega arith) in
    let head : kind_at s at 0 ≡ first = layout_head update stage marks s at none (omega arith) in
    let full : filled first (content_at s at 0) ≡ true = rw head at (layout_filled update stage marks s at none 0 (omega arith)) in
    let long : length (content_at s at 0) ≡ 2 = full_first (content_at s at 0) full in
    let same : length (content_at s at 0) ≡ (field_at s at 0).length - 1 = content_length s at 0 known (omega arith) in
    let front = known.front in
    let body = o.body in
    let next : (field_at s at 1).start ≡ (field_at s at 0).start + (field_at s at 0).length = known.gapless 0 (omega arith) in
    omega arith

-- ---- the record
pub fine_not : {update : Bool} {stage : ℕ} {marks : List ℕ} {aall nall : ℕ} {s : List ℕ} {at : ℕ} {before after : List ℕ} (r : Fine) → r.end ≡ 0
    → FineTold update stage marks aall nall s at before after r
fine_not r e = record {
  good = λ h. absurd (h e);
  ends = λ h. absurd (h e);
  laid = λ h. absurd (h e);
  valued = λ h u. absurd (h e);
  upto = λ h u. absurd (h e);
  starts = λ h. absurd (h e);
  kinded = λ h. absurd (h e);
  within = omega arith;
}

pub fine_so : {update : Bool} {stage : ℕ} {marks : List ℕ} {aall nall : ℕ} {s : List ℕ} {at : ℕ} {before after : List ℕ} {h : Open} {r : Fine} {b : Bool} → OpenAt s at h
    → FieldsTold update stage marks aall nall s at before after b → not b ≡ false → IdentifiedBy s at h r
    → FineTold update stage marks aall nall s at before after r
fine_so {update} {stage} {marks} {b = b} o told fine is =
    let yes_fine = not-false b fine in
    let ends = is.ends in
    let fits = o.fits in
    record {
      good = λ x. told.good yes_fine;
      ends = λ x. is.ends ∙ o.ends;
      laid = λ x. told.laid yes_fine;
      valued = λ x u. place_none _ ((told.valued yes_fine).fault u) refl;
      upto = λ x u. (told.valued yes_fine).upto u;
      starts = λ x. is.starts ∙ second_start update stage marks o (told.good yes_fine) (told.laid yes_fine);
      kinded = λ x. is.kinded;
      within = omega arith;
    }
