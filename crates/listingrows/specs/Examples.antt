-- The text of document 01's sample from the numbers of its lines, and that of a refusal, computed. Assumes nothing.
use Rattle.std.specs.Prelude.{[], ◌∷◌, ◌++◌, ◌≡◌, refl}
use Rattle.octets.specs.Digits.{digits_of, fewest, fewest_from}
use Rattle.table.specs.Text.{bytes}
use Rattle.listingrows.specs.Text.{number_text, tabbed, line_of, refused_text, header_text}

-- "Two connected nodes, their edge and a line, / being a tab"
sample : header_text
    ++ (line_of 3 (120 ∷ 1 ∷ 1 ∷ 0 ∷ 0 ∷ 1 ∷ [])
    ++ (line_of 4 (120 ∷ 2 ∷ 1 ∷ 0 ∷ 0 ∷ 1 ∷ [])
    ++ (line_of 5 (130 ∷ 1 ∷ 1 ∷ 0 ∷ 2 ∷ 0 ∷ [])
    ++ line_of 6 (100 ∷ 1 ∷ 1 ∷ 0 ∷ 1 ∷ 0 ∷ []))))
    ≡ bytes "index\tname\tid\tversion\tattributes\tpointers\tcoordinates\n3\t120\t1\t1\t0\t0\t1\n4\t120\t2\t1\t0\t0\t1\n5\t130\t1\t1\t0\t2\t0\n6\t100\t1\t1\t0\t1\t0\n"
unfolding bytes digits_of fewest fewest_from number_text tabbed line_of header_text
sample = refl

-- "longer is refused: 1, 1, 0"
long : refused_text 1 1 0 ≡ bytes "refused\t1\t1\t0\n"
unfolding bytes digits_of fewest fewest_from number_text tabbed refused_text
long = refl

-- a place of four digits: of 65,536 bytes there are fewer records than 2,048, each having 32 bytes at least
place : number_text 2047 ≡ bytes "2047"
unfolding bytes digits_of fewest fewest_from number_text
place = refl
