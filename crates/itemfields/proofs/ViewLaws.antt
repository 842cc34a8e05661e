-- A record's layout, values and lists are those of its list of fields. Assumes nothing.
use Prim.Native.Nat.{ℕ, zero, suc, ◌+◌, ◌-◌, ◌≤◌, ◌<◌}
use mathlib.Core.Bool.{Bool, true, false}
use mathlib.Core.List.{List, []}
use mathlib.Core.Logic.{⊎_elim}
use mathlib.Core.Path.{◌≡◌, refl, sym, ap, ◌∙◌}
use native.Mathlib.Nat.{add-zero}
use native.Mathlib.Omega.{arith}
use lib.ListN.{length, get_or, length-take}
use lib.Dec.{eqb}
use Rattle.octets.proofs.ListLaws.{part_number}
use Rattle.octets.specs.Number.{num_at}
use Rattle.octets.proofs.Cases.{true_or_false}
use Rattle.octets.proofs.Tests.{both}
use Rattle.iso8211.specs.Record.{end_of}
use Rattle.iso8211.specs.Field.{count_at, field_at}
use Rattle.iso8211.specs.Premises.{RecordIn}
use Rattle.iso8211.specs.declared.field.Field.{Field}
use Rattle.table.specs.Table.{kind_of}
use Rattle.layout.specs.Layout.{may_end, field_laid, laid_from, layout_fault, start, content_of}
use Rattle.fieldvalue.specs.Value.{field_fault, seen_before, seen_after, values_from, value_fault}
use Rattle.items.specs.Lists.{part_at, join_from, list_at}
use Rattle.records.specs.Pieces.{Piece}
use Rattle.records.specs.Premises.{piece_of, pieces_from, pieces_at}
use Rattle.itemfields.specs.Views.{piece_laid, laid_in, valued_in, list_in}

-- ---- layout
laid_from_lem : (n : ℕ) (update : Bool) (stage : ℕ) (marks s : List ℕ) (at j prev : ℕ) → laid_in update stage marks prev (pieces_from n s at j) ≡ true
    → laid_from n update stage marks s at j prev ≡ 0
unfolding laid_in pieces_from laid_from field_laid piece_of piece_laid
laid_from_lem zero update stage marks s at j prev h = rw h
laid_from_lem (suc n) update stage marks s at j prev h =
    let f = field_at s at j in
    let p = both (field_laid update stage marks s prev f) (laid_in update stage marks (kind_of f.tag) (pieces_from n s at (j + 1))) h in
    rw p.0 (laid_from_lem n update stage marks s at (j + 1) (kind_of f.tag) p.1)

pub laid_seen : (update : Bool) (stage : ℕ) (marks s : List ℕ) (at : ℕ) (fs : List Piece) → pieces_at s at ≡ fs → laid_in update stage marks start fs ≡ true
    → layout_fault update stage marks s at ≡ 0
unfolding pieces_at layout_fault
laid_seen update stage marks s at fs e h = laid_from_lem (count_at s at) update stage marks s at 0 start (rw e h)

-- ---- values
values_from_lem : (n : ℕ) (update : Bool) (aall nall : ℕ) (s : List ℕ) (at j prev : ℕ) (seen : List ℕ) → valued_in update aall nall prev seen (pieces_from n s at j) ≡ true
    → values_from n update aall nall s at j prev seen ≡ 0
unfolding valued_in pieces_from values_from piece_of
values_from_lem zero update aall nall s at j prev seen h = refl
values_from_lem (suc n) update aall nall s at j prev seen h =
    let f = field_at s at j in
    let k = kind_of f.tag in
    let c = content_of s f in
    let p = both (eqb (field_fault update aall nall k (seen_before prev k seen) c) 0)
    (valued_in update aall nall k (seen_after k (seen_before prev k seen) c) (pieces_from n s at (j + 1))) h in
    rw p.0 (values_from_lem n update aall nall s at (j + 1) k (seen_after k (seen_before prev k seen) c) p.1)

pub values_seen : (update : Bool) (aall nall : ℕ) (s : List ℕ) (at : ℕ) (fs : List Piece) → pieces_at s at ≡ fs → valued_in update aall nall start [] fs ≡ true
    → value_fault update aall nall s at ≡ 0
unfolding pieces_at value_fault
values_seen update aall nall s at fs e h = values_from_lem (count_at s at) update aall nall s at 0 start [] (rw e h)

-- ---- lists
join_from_lem : (n : ℕ) (s : List ℕ) (at k j : ℕ) → join_from n s at k j ≡ list_in k (pieces_from n s at j)
unfolding join_from list_in pieces_from part_at piece_of
join_from_lem zero s at k j = refl
join_from_lem (suc n) s at k j = rw (join_from_lem n s at k (j + 1))

pub list_seen : (s : List ℕ) (at k : ℕ) (fs : List Piece) → pieces_at s at ≡ fs → list_at s at k ≡ list_in k fs
unfolding list_at pieces_at
list_seen s at k fs e = join_from_lem (count_at s at) s at k 0 ∙ ap (list_in k) e

-- ---- the other way: a record that was read
module _ (s : List ℕ) (at : ℕ) (known : RecordIn s at) where
  start_some : (j : ℕ) → j < count_at s at → 1 ≤ (field_at s at j).start
  start_some j h = let a = (known.fields j h).after in let l = known.framed.headed.low in omega arith

  end_some : 1 ≤ end_of s at
  end_some = let a = known.framed.headed.low in let b = known.framed.high in omega arith

  told_from : (n : ℕ) (update : Bool) (stage : ℕ) (marks : List ℕ) (j prev : ℕ) → j + n ≡ count_at s at → laid_from n update stage marks s at j prev ≡ 0
      → laid_in update stage marks prev (pieces_from n s at j) ≡ true
  unfolding laid_in pieces_from laid_from piece_of piece_laid field_laid
  told_from zero update stage marks j prev e h =
      ⊎_elim (λ (t : may_end prev ≡ true). t)
      (λ (f : may_end prev ≡ false). let z : end_of s at ≡ 0 = rw f at h in let p = end_some in absurd (omega arith)) (true_or_false (may_end prev))
  told_from (suc n) update stage marks j prev e h =
      let f = field_at s at j in
      ⊎_elim (λ (t : field_laid update stage marks s prev f ≡ true). rw t (told_from n update stage marks (j + 1) (kind_of f.tag) (omega arith) (rw t at h)))
      (λ (no : field_laid update stage marks s prev f ≡ false). let z : f.start ≡ 0 = rw no at h in let p = start_some j (omega arith) in absurd (omega arith))
      (true_or_false (field_laid update stage marks s prev f))

  pub laid_told : (update : Bool) (stage : ℕ) (marks : List ℕ) → layout_fault update stage marks s at ≡ 0 → laid_in update stage marks start (pieces_at s at) ≡ true
  unfolding pieces_at layout_fault
  laid_told update stage marks h = told_from (count_at s at) update stage marks 0 start (omega arith) h

  worth_from : (n : ℕ) (update : Bool) (aall nall j prev : ℕ) (seen : List ℕ) → j + n ≡ count_at s at → values_from n update aall nall s at j prev seen ≡ 0
      → valued_in update aall nall prev seen (pieces_from n s at j) ≡ true
  unfolding valued_in pieces_from values_from piece_of
  worth_from zero update aall nall j prev seen e h = refl
  worth_from (suc n) update aall nall j prev seen e h =
      let f = field_at s at j in
      let k = kind_of f.tag in
      let c = content_of s f in
      let q = field_fault update aall nall k (seen_before prev k seen) c in
      ⊎_elim (λ (t : eqb q 0 ≡ true). rw t (worth_from n update aall nall (j + 1) k (seen_after k (seen_before prev k seen) c) (omega arith) (rw t at h)))
      (λ (no : eqb q 0 ≡ false). let z : f.start + (q - 1) ≡ 0 = rw no at h in let p = start_some j (omega arith) in absurd (omega arith))
      (true_or_false (eqb q 0))

  pub values_told : (update : Bool) (aall nall : ℕ) → value_fault update aall nall s at ≡ 0 → valued_in update aall nall start [] (pieces_at s at) ≡ true
  unfolding pieces_at value_fault
  values_told update aall nall h = worth_from (count_at s at) update aall nall 0 start [] (omega arith) h

-- ---- bytes and numbers of a field
pub piece_number : (s : List ℕ) (f : Field) (c : List ℕ) (p k : ℕ) → content_of s f ≡ c → p + k ≤ length c → num_at s (f.start + p) k ≡ num_at c p k
piece_number s f c p k e h =
    let long : length c ≤ f.length - 1 = rw (← e) (rw length-take (omega arith)) in
    sym (ap (λ (x : List ℕ). num_at x p k) (sym e) ∙ part_number s f.start (f.length - 1) p k (omega arith))

-- field j
pieces_k : (n : ℕ) (s : List ℕ) (at i j : ℕ) (d : Piece) → j < n → get_or (pieces_from n s at i) j d ≡ piece_of s (field_at s at (i + j))
unfolding pieces_from
pieces_k zero s at i j d h = absurd (omega arith)
pieces_k (suc n) s at i zero d h = rw (add-zero i)
pieces_k (suc n) s at i (suc j) d h = pieces_k n s at (i + 1) j d (omega arith) ∙ ap (λ (x : ℕ). piece_of s (field_at s at x)) (omega arith)

pieces_length : (n : ℕ) (s : List ℕ) (at i : ℕ) → length (pieces_from n s at i) ≡ n
unfolding pieces_from
pieces_length zero s at i = refl
pieces_length (suc n) s at i = ap suc (pieces_length n s at (i + 1))

pub count_seen : (s : List ℕ) (at : ℕ) (fs : List Piece) → pieces_at s at ≡ fs → count_at s at ≡ length fs
unfolding pieces_at
count_seen s at fs e = sym (pieces_length (count_at s at) s at 0) ∙ ap length e

pub piece_seen : (s : List ℕ) (at : ℕ) (fs : List Piece) (j : ℕ) (d : Piece) → pieces_at s at ≡ fs → j < length fs → piece_of s (field_at s at j) ≡ get_or fs j d
unfolding pieces_at
piece_seen s at fs j d e h =
    let n : j < count_at s at = rw (count_seen s at fs e) h in
    sym (ap (λ (x : List Piece). get_or x j d) (sym e) ∙ pieces_k (count_at s at) s at 0 j d n ∙ ap (λ (x : ℕ). piece_of s (field_at s at x)) (omega arith))

-- its tag, and a number in it
pub tag_seen : (s : List ℕ) (at : ℕ) (fs : List Piece) (j : ℕ) (d : Piece) → pieces_at s at ≡ fs → j < length fs → (field_at s at j).tag ≡ (get_or fs j d).named
unfolding piece_of
tag_seen s at fs j d e h = ap (λ (x : Piece). x.named) (piece_seen s at fs j d e h)

pub number_seen : (s : List ℕ) (at : ℕ) (fs : List Piece) (j : ℕ) (d : Piece) (p k : ℕ) → pieces_at s at ≡ fs → j < length fs → p + k ≤ length (get_or fs j d).content
    → num_at s ((field_at s at j).start + p) k ≡ num_at (get_or fs j d).content p k
unfolding piece_of
number_seen s at fs j d p k e h room = piece_number s (field_at s at j) (get_or fs j d).content p k (ap (λ (x : Piece). x.content) (piece_seen s at fs j d e h)) room
