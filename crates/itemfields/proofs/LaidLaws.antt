-- An object written in the held form is laid out, and its values are good where its entries are. Assumes nothing.
use Prim.Native.Nat.{ℕ, ◌+◌, ◌≤◌}
use mathlib.Core.Bool.{Bool, true, false, cond, ◌&&◌}
use mathlib.Core.List.{List, [], ◌∷◌, ◌++◌, flatten}
use mathlib.Core.Logic.{⊎_elim, ◌⊎◌}
use mathlib.Core.Path.{◌≡◌, refl, ◌∙◌}
use native.Mathlib.Omega.{arith}
use lib.ListN.{length, get_or}
use lib.Dec.{eqb}
use borrow.Author.Tests.{eq-eqb}
use Rattle.octets.specs.Lists.{is_in}
use Rattle.octets.proofs.Cases.{true_or_false}
use Rattle.octets.proofs.Tests.{all3, never}
use Rattle.entries.specs.Entries.{Each}
use Rattle.entries.proofs.EntriesLaws.{cut_joined, joined_whole, whole_told}
use Rattle.table.specs.Table.{row_of, FFPT, first}
use Rattle.layout.specs.Layout.{filled, shape_of}
use Rattle.attributes.specs.Attributes.{attribute, pointer, attributes_from, attributes_fault, ffpt_from, ffpt_fault, label_of, met_label, value_good, rind_good, comment_of}
use Rattle.headvalues.specs.Text.{text_good}
use Rattle.entries.specs.Rules.{through}
use Rattle.fieldvalue.specs.Value.{is_attributes, is_high, field_fault, seen_before, seen_after}
use Rattle.records.specs.Pieces.{Piece}
use Rattle.itemfields.specs.Views.{piece_laid, laid_in, valued_in, attributes_good, pointers_good, list_good}
use Rattle.itemfields.specs.Fields.{list_piece, list_pieces}
use Rattle.itemfields.proofs.KindLaws.{ListKind, Behind, Chain}
use Rattle.itemfields.proofs.KindLaws.Chain.{chain_none, chain_more}

-- ---- a list field is filled
filled_list : {k : ℕ} (e : List ℕ) (es : List (List ℕ)) → ListKind k → Each (shape_of k) (e ∷ es) → filled k (flatten (e ∷ es)) ≡ true
unfolding filled
filled_list {k} e es kind each =
    rw (kind.no_dsid, kind.no_dspm, kind.list) (whole_told (joined_whole each) (rw (cut_joined each) (omega arith)))

-- ---- lists are laid out
-- every field but a control is declared
pub record Declared (marks : List ℕ) : Type 0 where
  pub is : (k : ℕ) → k ≤ first → (row_of k).control ≡ false → get_or marks k 0 ≡ 1

laid_list : (update : Bool) (stage : ℕ) {marks : List ℕ} {prev k : ℕ} (es : List (List ℕ)) (rest : List Piece) → Declared marks → ListKind k → Behind prev k → Each (shape_of k) es
    → laid_in update stage marks prev rest ≡ true → laid_in update stage marks k rest ≡ true → laid_in update stage marks prev (list_piece k es ++ rest) ≡ true
unfolding laid_in list_piece piece_laid
laid_list update stage [] rest d kind b each here there = here
laid_list update stage {marks} {prev} {k} (e ∷ es) rest d kind b each here there =
    rw (kind.named, b.place update stage, eq-eqb _ _ (d.is k kind.few kind.free), filled_list e es kind each) there

pub laid_lists : (update : Bool) (stage : ℕ) {marks : List ℕ} {prev : ℕ} {ks : List ℕ} (ls : ℕ → List (List ℕ)) → Declared marks → ((k : ℕ) → Each (shape_of k) (ls k))
    → Chain prev ks
    → laid_in update stage marks prev (list_pieces ks ls) ≡ true
unfolding laid_in list_pieces
laid_lists update stage ls d each (chain_none end) = end
laid_lists update stage ls d each (chain_more {k = k} {ks = ks} kind b here there) =
    laid_list update stage (ls k) (list_pieces ks ls) d kind b (each k) (laid_lists update stage ls d each here) (laid_lists update stage ls d each there)

-- ---- attributes and pointers: a fault is none exactly where the entries are good
three : (a b c : Bool) → cond a false (b && c) ≡ true → (a ≡ false) × (b ≡ true) × (c ≡ true)
three true b c h = never h
three false true c h = (refl, refl, h)
three false false c h = never h

none3 : (a b : Bool) (x y z : ℕ) → cond a (x + 1) (cond b y (z + 3)) ≡ 0 → (a ≡ false) × (b ≡ true) × (y ≡ 0)
none3 true b x y z h = absurd (omega arith)
none3 false true x y z h = (refl, refl, h)
none3 false false x y z h = absurd (omega arith)

pub attributes_fine : (update high : Bool) (seen : List ℕ) (at : ℕ) (es : List (List ℕ)) → attributes_good update high seen es ≡ true → attributes_from update high seen at es ≡ 0
unfolding attributes_good attributes_from
attributes_fine update high seen at [] h = refl
attributes_fine update high seen at (e ∷ es) h =
    let p = three (is_in (label_of e) seen) (value_good update high e) (attributes_good update high (label_of e ∷ seen) es) h in
    rw (p.0, p.1) (attributes_fine update high (label_of e ∷ seen) (at + length e) es p.2)

pub attributes_told : (update high : Bool) (seen : List ℕ) (at : ℕ) (es : List (List ℕ)) → attributes_from update high seen at es ≡ 0 → attributes_good update high seen es ≡ true
unfolding attributes_good attributes_from
attributes_told update high seen at [] h = refl
attributes_told update high seen at (e ∷ es) h =
    let p = none3 (is_in (label_of e) seen) (value_good update high e) at (attributes_from update high (label_of e ∷ seen) (at + length e) es) at h in
    rw (p.0, p.1) (attributes_told update high (label_of e ∷ seen) (at + length e) es p.2)

pub pointers_fine : (at : ℕ) (es : List (List ℕ)) → pointers_good es ≡ true → ffpt_from at es ≡ 0
unfolding pointers_good ffpt_from
pointers_fine at [] h = refl
pointers_fine at (e ∷ es) h =
    let p = all3 (rind_good e) (text_good false (comment_of e)) (pointers_good es) h in
    rw (p.0, p.1) (pointers_fine (at + length e) es p.2)

none_two : (a b : Bool) (x y z : ℕ) → cond a (cond b y (x + 10)) (z + 9) ≡ 0 → (a ≡ true) × (b ≡ true) × (y ≡ 0)
none_two true true x y z h = (refl, refl, h)
none_two true false x y z h = absurd (omega arith)
none_two false b x y z h = absurd (omega arith)

pub pointers_told : (at : ℕ) (es : List (List ℕ)) → ffpt_from at es ≡ 0 → pointers_good es ≡ true
unfolding pointers_good ffpt_from
pointers_told at [] h = refl
pointers_told at (e ∷ es) h =
    let p = none_two (rind_good e) (text_good false (comment_of e)) at (ffpt_from (at + length e) es) at h in
    rw (p.0, p.1) (pointers_told (at + length e) es p.2)

-- a list in parts
pub attributes_append : (update high : Bool) (seen : List ℕ) (es fs : List (List ℕ))
    → attributes_good update high seen (es ++ fs) ≡ (attributes_good update high seen es && attributes_good update high (through met_label seen es) fs)
unfolding attributes_good through met_label
attributes_append update high seen [] fs = refl
attributes_append update high seen (e ∷ es) fs = rw (attributes_append update high (label_of e ∷ seen) es fs) (shuffle (is_in (label_of e) seen) (value_good update high e) _ _)
  where
    shuffle : (a b c d : Bool) → cond a false (b && (c && d)) ≡ (cond a false (b && c) && d)
    shuffle true b c d = refl
    shuffle false true c d = refl
    shuffle false false c d = refl

pub pointers_append : (es fs : List (List ℕ)) → pointers_good (es ++ fs) ≡ (pointers_good es && pointers_good fs)
unfolding pointers_good
pointers_append [] fs = refl
pointers_append (e ∷ es) fs = rw (pointers_append es fs) (shuffle (rind_good e) (text_good false (comment_of e)) _ _)
  where
    shuffle : (a b c d : Bool) → (a && (b && (c && d))) ≡ ((a && (b && c)) && d)
    shuffle true true c d = refl
    shuffle true false c d = refl
    shuffle false b c d = refl

-- ---- the values of a list
pub field_list : (update : Bool) (aall nall : ℕ) {k : ℕ} (seen c : List ℕ) → ListKind k
    → field_fault update aall nall k seen c ≡ cond (is_attributes k) (attributes_fault update (is_high aall nall k) seen c) (cond (eqb k FFPT) (ffpt_fault c) 0)
unfolding field_fault
field_list update aall nall seen c kind = rw (kind.no_dsid, kind.no_dssi, kind.no_dspm, kind.no_vrid, kind.no_frid)

list_fine : (update : Bool) (aall nall : ℕ) {k : ℕ} (es : List (List ℕ)) → ListKind k → Each (shape_of k) es → list_good update aall nall k es ≡ true
    → field_fault update aall nall k [] (flatten es) ≡ 0
unfolding list_good attributes_fault ffpt_fault
list_fine update aall nall {k} es kind each good =
    field_list update aall nall [] (flatten es) kind
    ∙ ⊎_elim (λ (a : is_attributes k ≡ true).
    let whole : Each attribute es = rw (kind.attributes a) at each in
    rw (a, cut_joined whole) (attributes_fine update (is_high aall nall k) [] 0 es (rw a at good)))
    (λ (a : is_attributes k ≡ false).
    ⊎_elim (λ (f : eqb k FFPT ≡ true).
    let whole : Each pointer es = rw (kind.pointers f) at each in
    rw (a, f, cut_joined whole) (pointers_fine 0 es (rw (a, f) at good)))
    (λ (f : eqb k FFPT ≡ false). rw (a, f)) (true_or_false (eqb k FFPT)))
    (true_or_false (is_attributes k))

valued_list : (update : Bool) (aall nall : ℕ) {prev k : ℕ} (seen : List ℕ) (es : List (List ℕ)) (rest : List Piece) → ListKind k → Behind prev k → Each (shape_of k) es
    → list_good update aall nall k es ≡ true
    → ((met : List ℕ) → valued_in update aall nall prev met rest ≡ true) → ((met : List ℕ) → valued_in update aall nall k met rest ≡ true)
    → valued_in update aall nall prev seen (list_piece k es ++ rest) ≡ true
unfolding valued_in list_piece seen_before
valued_list update aall nall seen [] rest kind b each good here there = here seen
valued_list update aall nall {prev} {k} seen (e ∷ es) rest kind b each good here there =
    rw (kind.named, b.other, list_fine update aall nall (e ∷ es) kind each good) (there (seen_after k [] (flatten (e ∷ es))))

pub valued_lists : (update : Bool) (aall nall : ℕ) {prev : ℕ} {ks : List ℕ} (ls : ℕ → List (List ℕ)) → ((k : ℕ) → Each (shape_of k) (ls k)) → ((k : ℕ)
    → list_good update aall nall k (ls k) ≡ true)
    → Chain prev ks → (seen : List ℕ) → valued_in update aall nall prev seen (list_pieces ks ls) ≡ true
unfolding valued_in list_pieces
valued_lists update aall nall ls each good (chain_none end) seen = refl
valued_lists update aall nall ls each good (chain_more {k = k} {ks = ks} kind b here there) seen =
    valued_list update aall nall seen (ls k) (list_pieces ks ls) kind b (each k) (good k) (valued_lists update aall nall ls each good here)
    (valued_lists update aall nall ls each good there)
