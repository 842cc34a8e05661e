-- What the passes over a cell and an update promise. It serves the proofs, and nothing here need be believed. Assumes nothing.
use Rattle.std.specs.Prelude.{ℕ, ◌+◌, ◌-◌, ◌*◌, ◌≤◌, true, List, ◌≡◌, length, Option, Some, Ok}
use Rattle.answers.specs.Codes.{work_each}
use Rattle.words.specs.Words.{words_in}
use Rattle.words.specs.Order.{sorted}
use Rattle.names.specs.NameWords.{name_words}
use Rattle.reader.specs.Reader.{front_of, cell_fault, update_fault}
use Rattle.reader.specs.Lent.{ComeIn, BothIn}

-- an update of n records without any of the codes 1, 2 and 4 to 7, the words of its records at the front of the area
pub record UpdateRead (s : List ℕ) (n : ℕ) (area : List ℕ) : Type 0 where
  pub front : front_of 2 s ≡ Ok n
  pub two : 2 ≤ n
  pub room : 8 * n ≤ length area
  pub fine : (update_fault s n).code ≡ 0
  pub words : ComeIn s n area

pub record UpdateTold (s area : List ℕ) (r : ℕ) : Type 0 where
  pub told : (r ≡ 0 → ⊥) → UpdateRead s r area

-- the same, its words from word i of the work area on
pub record PlacedRead (s : List ℕ) (i n : ℕ) (work : List ℕ) : Type 0 where
  pub front : front_of 2 s ≡ Ok n
  pub two : 2 ≤ n
  pub fine : (update_fault s n).code ≡ 0
  pub words : words_in work i (n - 2) ≡ sorted (name_words true s n)

pub record PlacedTold (s : List ℕ) (i : ℕ) (work : List ℕ) (r : ℕ) : Type 0 where
  pub told : (r ≡ 0 → ⊥) → PlacedRead s i r work

-- the first n words once more behind them
pub record Raised (before : List ℕ) (n : ℕ) (after : List ℕ) : Type 0 where
  pub words : words_in after n n ≡ words_in before 0 n

-- a cell of n records and an update of m without any of the codes 1 to 8, and the words of both
pub record BothRead (cell : List ℕ) (n : ℕ) (update : List ℕ) (m : ℕ) (work : List ℕ) : Type 0 where
  pub first : front_of 1 cell ≡ Ok n
  pub second : front_of 2 update ≡ Ok m
  pub room : work_each * (n + m) ≤ length work
  pub cell_fine : (cell_fault cell n).code ≡ 0
  pub update_fine : (update_fault update m).code ≡ 0
  pub words : BothIn cell n update m work

pub record BothTold (cell update work : List ℕ) (r : Option (ℕ × ℕ)) : Type 0 where
  pub all : (n m : ℕ) → r ≡ Some (n, m) → BothRead cell n update m work
