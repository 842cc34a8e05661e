-- Record 0 of the held form: "one fixed string, in docs/, declaring all fourteen cell tags and 0000 and 0001". Labels and formats are the table's; document
-- 01 leaves the control bytes, the names and the order free, and here they are those of source document 000, annex A. Assumes nothing.
use Rattle.std.specs.Prelude.{ℕ, ◌+◌, List, [], ◌∷◌, ◌++◌, length}
use Prim.Native.String.{String}
use Rattle.octets.specs.Digits.{digits_of}
use Rattle.table.specs.Table.{row_of, tag_of, first, DSID, DSSI, DSPM, VRID, ATTV, VRPT, SG2D, SG3D, FRID, FOID, ATTF, NATF, FFPT, FSPT}
use Rattle.table.specs.Text.{bytes}
use Rattle.records.specs.Pieces.{Piece}
use Rattle.records.specs.Written.{body_of, rows_for, rows_bytes, length_size, position_size, base_for}

-- "A field is nine bytes not judged, a name, 1F, labels .., 1F, formats, 1E"
unfoldable pub declares : ℕ → String → String → Piece
declares k controls name = record {
  named = tag_of k;
  content = bytes controls ++ (bytes name ++ (31 ∷ (bytes (row_of k).labels ++ (31 ∷ bytes (row_of k).formats))));
}

-- "tag 0000 first (content not judged)": annex A.2.4.1 a, which field belongs to which
unfoldable pub tree : Piece
tree = record {
  named = 808464432;
  content = bytes "0000;&   " ++ (31 ∷ bytes "0001DSIDDSIDDSSI0001DSPM0001FRIDFRIDFOIDFRIDATTFFRIDNATFFRIDFFPTFRIDFSPT0001VRIDVRIDATTVVRIDVRPTVRIDSG2DVRIDSG3D");
}

-- control bytes and names as in annex A.4.2, those of DSID, DSSI and DSPM by A.2.4.1 b and chapter 7; the text of ATTF and NATF is of level 1 at the most
unfoldable pub first_pieces : List Piece
first_pieces =
    tree
    ∷ declares first "0500;&   " "ISO 8211 Record Identifier"
    ∷ declares DSID "1600;&   " "Data set identification field"
    ∷ declares DSSI "1600;&   " "Data set structure information field"
    ∷ declares DSPM "1600;&   " "Data set parameter field"
    ∷ declares FRID "1600;&   " "Feature record identifier field"
    ∷ declares FOID "1600;&   " "Feature object identifier field"
    ∷ declares ATTF "2600;&-A " "Feature record attribute field"
    ∷ declares NATF "2600;&-A " "Feature record national attribute field"
    ∷ declares FFPT "2000;&   " "Feature record to feature object pointer field"
    ∷ declares FSPT "2000;&   " "Feature record to spatial record pointer field"
    ∷ declares VRID "1600;&   " "Vector record identifier field"
    ∷ declares ATTV "2600;&   " "Vector record attribute field"
    ∷ declares VRPT "2000;&   " "Vector record pointer field"
    ∷ declares SG2D "2200;&   " "2-D Coordinate field"
    ∷ declares SG3D "2200;&   " "3-D Coordinate field"
    ∷ []

-- "6 is L in record 0", ""09" in 10-11"; all else as annex A.2.2.1 has it, with the two fewest digit sizes
unfoldable pub first_leader : ℕ → ℕ → ℕ → ℕ → List ℕ
first_leader size base l p =
    digits_of 5 size ++ (bytes "3LE1 09" ++ (digits_of 5 base ++ (bytes " ! " ++ ((48 + l) ∷ (48 + p) ∷ 48 ∷ 52 ∷ []))))

unfoldable pub first_over : List (List ℕ) → List ℕ → List ℕ
first_over rows body =
    first_leader (base_for rows + length body) (base_for rows) (length_size rows) (position_size rows)
    ++ (rows_bytes (length_size rows) (position_size rows) rows ++ (30 ∷ body))

unfoldable pub first_record : List ℕ
first_record = first_over (rows_for 0 first_pieces) (body_of first_pieces)
