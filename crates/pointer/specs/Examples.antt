-- Worked examples: names and LNAMs that are there, and those that are not. Assumes nothing.
use Rattle.std.specs.Prelude.{ℕ, ◌+◌, ◌*◌, cond, List, [], ◌∷◌, ◌≡◌, refl, eqb}
use Rattle.octets.specs.Lists.{is_in}
use Rattle.octets.specs.Number.{num_at}
use Rattle.table.specs.Table.{VRPT, FFPT}
use Rattle.items.specs.Item.{Item}
use Rattle.items.specs.Identity.{rank_of, name_from}
use Rattle.lookups.specs.Lookup.{name_in, found_code}
use Rattle.lookups.specs.LookupWords.{index_from, index_of}
use Rattle.pointer.specs.Pointer.{names_code, lnams_code, pointer_code}
use Rattle.answers.specs.First.{first_by}
use Rattle.pointer.specs.Premises.{held_foid}

-- an entry of VRPT that points to the connected node with this RCID, and one of FFPT with this LNAM
abbrev node : ℕ → List ℕ
node rcid = 120 ∷ rcid ∷ 0 ∷ 0 ∷ 0 ∷ 255 ∷ 255 ∷ 1 ∷ 255 ∷ []

abbrev lnam : ℕ → List ℕ
lnam n = n ∷ 0 ∷ 0 ∷ 0 ∷ 0 ∷ 0 ∷ 0 ∷ 0 ∷ 2 ∷ []

-- the words of the connected nodes 5 and 6, at the places 7 and 100
abbrev words : List ℕ
words = (4294967301 * 16777216 + 7) ∷ (4294967302 * 16777216 + 100) ∷ []

-- both names are there; of two the second is missing
names_there : names_code (index_of words) (node 6 ∷ node 5 ∷ []) ≡ 0
unfolding names_code first_by found_code index_of index_from name_in name_from rank_of num_at
names_there = refl

second_missing : names_code (index_of words) (node 5 ∷ node 7 ∷ []) ≡ 18
unfolding names_code first_by found_code index_of index_from name_in name_from rank_of num_at
second_missing = refl

-- "several may": two features share the FOID 9
lnam_shared : lnams_code (held_foid (9 ∷ 9 ∷ [])) (lnam 9 ∷ []) ≡ 0
unfolding lnams_code held_foid is_in num_at
lnam_shared = refl

lnam_missing : lnams_code (held_foid (9 ∷ 9 ∷ [])) (lnam 9 ∷ lnam 8 ∷ []) ≡ 18
unfolding lnams_code held_foid is_in num_at
lnam_missing = refl

-- an item of this RCNM that has the nodes 5 and 6 in VRPT and the LNAM 8, which no feature has: of a vector VRPT counts, of a feature FFPT
abbrev both : ℕ → Item
both rcnm = record {
  rcnm = rcnm;
  rcid = 1;
  version = 1;
  prim = 255;
  grup = 2;
  objl = 400;
  foid = 9;
  lists = λ k. cond (eqb k VRPT) (node 5 ∷ node 6 ∷ []) (cond (eqb k FFPT) (lnam 8 ∷ []) []);
}

by_class : (pointer_code (index_of words) (held_foid (9 ∷ [])) (both 130) ≡ 0) × (pointer_code (index_of words) (held_foid (9 ∷ [])) (both 100) ≡ 18)
unfolding pointer_code names_code lnams_code held_foid is_in first_by found_code index_of index_from name_in name_from rank_of num_at
by_class = (refl, refl)
