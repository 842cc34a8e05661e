-- Records of a connected node, laid out by the definitions. Assumes nothing.
use Prim.Native.Nat.{ℕ}
use Prim.Native.String.{String}
use mathlib.Core.Bool.{false}
use mathlib.Core.List.{List, [], ◌∷◌, ◌++◌, flatten}
use mathlib.Core.Path.{◌≡◌, refl}
use lib.ListN.{set, replicate}
use Rattle.octets.specs.Digits.{is_digit, digits_from, number_at}
use Rattle.iso8211.specs.Directory.{tag_at, row_at, rows}
use Rattle.iso8211.specs.Field.{count_at, directory_at, field_at}
use Rattle.entries.specs.Entries.{text_from, text_len, entry_len, entries_from, entries_of, whole_good}
use Rattle.table.specs.Text.{bytes}
use Rattle.table.specs.Table.{table, row_of, kind_of, among, as_number, SG2D, kind_count}
use Rattle.layout.specs.Layout.{opens, follows, placed, may_end, filled, field_laid, laid_from, layout_fault}

-- a record of 0001 and a field of 8 bytes behind it
unfoldable short : String → List ℕ
short a = bytes "00051 D     00039   1204" ++ (bytes "0001300" ++ (bytes a ++ (30 ∷ (bytes "ab" ++ (30 ∷ (bytes "abcdefgh" ++ (30 ∷ [])))))))

-- and of two such fields
unfoldable node : String → String → List ℕ
node a b =
    bytes "00067 D     00046   1204"
    ++ (bytes "0001300" ++ (bytes a ++ (bytes b ++ (30 ∷ (bytes "ab" ++ (30 ∷ (bytes "abcdefgh" ++ (30 ∷ (bytes "ijklmnop" ++ (30 ∷ []))))))))))

-- every field is declared
unfoldable all : List ℕ
all = replicate kind_count 1

unfoldable faults : List ℕ
faults =
    layout_fault false 2 all (node "VRID903" "SG2D912") 0
    ∷ layout_fault false 2 all (short "VRID903") 0
    -- a feature is due
    ∷ layout_fault false 3 all (node "VRID903" "SG2D912") 0
    -- SG2D is not declared
    ∷ layout_fault false 2 (set all SG2D 0) (node "VRID903" "SG2D912") 0
    -- 0001 again
    ∷ layout_fault false 2 all (node "0001903" "SG2D912") 0
    -- VRID again
    ∷ layout_fault false 2 all (node "VRID903" "VRID912") 0
    -- no identifier
    ∷ layout_fault false 2 all (node "SG2D903" "VRID912") 0
    -- a feature's field
    ∷ layout_fault false 2 all (node "VRID903" "FOID912") 0
    -- an FRID of 8 bytes
    ∷ layout_fault false 2 all (short "FRID903") 0
    -- soundings of 8 bytes
    ∷ layout_fault false 2 all (node "VRID903" "SG3D912") 0
    ∷ []

layout_rows : faults ≡ 0 ∷ 0 ∷ 49 ∷ 58 ∷ 49 ∷ 58 ∷ 49 ∷ 58 ∷ 42 ∷ 58 ∷ []
unfolding flatten faults all node short bytes layout_fault laid_from field_laid filled may_end placed follows opens row_of table kind_of among as_number whole_good entries_of entries_from
    entry_len text_len text_from count_at directory_at field_at rows row_at tag_at number_at digits_from is_digit
layout_rows = refl
