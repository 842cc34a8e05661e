-- Worked examples. Assumes nothing.
use Rattle.std.specs.Prelude.{ℕ, ◌+◌, ◌*◌, ◌/◌, ◌%◌, true, false, List, [], ◌∷◌, ◌≡◌, refl}
use Rattle.merge.specs.Update.{Change, placed, without, changed, obeyed, result, unnamed}
use Rattle.merge.specs.Targets.{holds, target_good}
use Rattle.merge.specs.Updated.{worked, updated}
use Rattle.merge.specs.Words.{result_words, modifies, deletes, has_name}
use Rattle.items.specs.Word.{marked}
use Rattle.merge.specs.Places.{joined, single, double}

-- ---- an update record by record: 100 * name + value is held; a change is 10,000 * RUIN + 100 * name + value, and a modify adds its value
abbrev by_numbers : Change ℕ ℕ
by_numbers = record {
  key = λ (a : ℕ). a / 100;
  name = λ (u : ℕ). u / 100 % 100;
  ruin = λ (u : ℕ). u / 10000;
  made = λ (u : ℕ). u % 10000;
  edit = λ (u a : ℕ). a + u % 100;
}

-- 9 is modified, 10 inserted, 5 deleted, 4 inserted
in_turn : result by_numbers (301 ∷ 502 ∷ 703 ∷ 904 ∷ []) (30905 ∷ 11008 ∷ 20500 ∷ 10407 ∷ []) ≡ 301 ∷ 407 ∷ 703 ∷ 909 ∷ 1008 ∷ []
unfolding result obeyed placed without changed
in_turn = refl

-- what it doesn't name stays
left_alone : unnamed by_numbers (30905 ∷ 11008 ∷ 20500 ∷ 10407 ∷ []) (301 ∷ 407 ∷ 703 ∷ 909 ∷ 1008 ∷ []) ≡ 301 ∷ 703 ∷ []
unfolding unnamed without
left_alone = refl

-- an insert of a held name and a delete of none have no target
targets : (target_good by_numbers (301 ∷ 502 ∷ []) 10500 ≡ false) × (target_good by_numbers (301 ∷ 502 ∷ []) 20400 ≡ false)
    × (target_good by_numbers (301 ∷ 502 ∷ []) 30500 ≡ true)
unfolding target_good holds
targets = (refl, refl, refl)

-- ---- the same over words
abbrev word : ℕ → ℕ → ℕ
word name place = name * 16777216 + place

abbrev mark : ℕ
mark = 8388608

abbrev cell : List ℕ
cell = word 3 100 ∷ word 5 200 ∷ word 7 300 ∷ word 9 400 ∷ []

-- insert 4, delete 5, modify 9, insert 10
abbrev update : List ℕ
update = word 4 50 ∷ word 5 (mark + 60) ∷ word 9 70 ∷ word 10 80 ∷ []

words : result_words cell update ≡ word 3 100 ∷ word 4 (mark + 50) ∷ word 7 300 ∷ word 9 400 ∷ word 10 (mark + 80) ∷ []
unfolding result_words updated worked marked deletes
words = refl

changes : modifies cell update ≡ word 9 70 ∷ []
unfolding modifies has_name deletes
changes = refl

-- what the walk meets
met : joined single double (word 3 100 ∷ word 9 400 ∷ word 10 (mark + 80) ∷ []) (word 9 70 ∷ [])
    ≡ single (word 3 100) ∷ double (word 9 400) (word 9 70) ∷ single (word 10 (mark + 80)) ∷ []
unfolding joined
met = refl
