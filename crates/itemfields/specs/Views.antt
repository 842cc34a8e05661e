-- Layout, values and lists of a record as its list of fields shows them, without a place in the file. It serves the proofs, and nothing here need be
-- believed. Assumes nothing.
use Rattle.std.specs.Prelude.{ℕ, Bool, true, false, cond, ◌&&◌, List, [], ◌∷◌, ◌++◌, get_or, eqb}
use Rattle.octets.specs.Lists.{is_in}
use Rattle.table.specs.Table.{kind_of, FFPT}
use Rattle.layout.specs.Layout.{placed, may_end, filled}
use Rattle.attributes.specs.Attributes.{label_of, value_good, rind_good, comment_of}
use Rattle.headvalues.specs.Text.{text_good}
use Rattle.fieldvalue.specs.Value.{is_attributes, is_high, field_fault, seen_before, seen_after}
use Rattle.records.specs.Pieces.{Piece}

-- the kind of a field
abbrev pub kind_in : Piece → ℕ
kind_in f = kind_of f.named

-- ---- `laid_from` finds no fault
unfoldable pub piece_laid : Bool → ℕ → List ℕ → ℕ → Piece → Bool
piece_laid update stage marks prev f = placed update stage prev (kind_in f) && (eqb (get_or marks (kind_in f) 0) 1 && filled (kind_in f) f.content)

unfoldable pub laid_in : Bool → ℕ → List ℕ → ℕ → List Piece → Bool
laid_in update stage marks prev [] = may_end prev
laid_in update stage marks prev (f ∷ fs) = piece_laid update stage marks prev f && laid_in update stage marks (kind_in f) fs

-- ---- `values_from` finds no fault
unfoldable pub valued_in : Bool → ℕ → ℕ → ℕ → List ℕ → List Piece → Bool
valued_in update aall nall prev seen [] = true
valued_in update aall nall prev seen (f ∷ fs) =
    eqb (field_fault update aall nall (kind_in f) (seen_before prev (kind_in f) seen) f.content) 0
    && valued_in update aall nall (kind_in f) (seen_after (kind_in f) (seen_before prev (kind_in f) seen) f.content) fs

-- ---- "Repeats of a tag join into one list"
unfoldable pub list_in : ℕ → List Piece → List ℕ
list_in k [] = []
list_in k (f ∷ fs) = cond (eqb (kind_in f) k) f.content [] ++ list_in k fs

-- ---- attributes and pointers as entries, without a place in the field
unfoldable pub attributes_good : Bool → Bool → List ℕ → List (List ℕ) → Bool
attributes_good update high seen [] = true
attributes_good update high seen (e ∷ es) = cond (is_in (label_of e) seen) false (value_good update high e && attributes_good update high (label_of e ∷ seen) es)

unfoldable pub pointers_good : List (List ℕ) → Bool
pointers_good [] = true
pointers_good (e ∷ es) = rind_good e && (text_good false (comment_of e) && pointers_good es)

-- the values of a list of kind k, by its entries
unfoldable pub list_good : Bool → ℕ → ℕ → ℕ → List (List ℕ) → Bool
list_good update aall nall k es = cond (is_attributes k) (attributes_good update (is_high aall nall k) [] es) (cond (eqb k FFPT) (pointers_good es) true)
