-- What the code and its proofs want; nothing here need be believed. Assumes nothing.
use Rattle.std.specs.Prelude.{ℕ, ◌+◌, ◌-◌, ◌*◌, ◌≤◌, Bool, true, false, cond, List, ◌≡◌, length, Result, Ok, Err}
use Rattle.words.specs.Words.{words_in}
use Rattle.words.specs.Order.{sorted}
use Rattle.names.specs.NameWords.{name_words}
use Rattle.names.specs.Premises.{Readable}
use Rattle.names.specs.Names.{first_item, twice_of}
use Rattle.show.specs.declared.span.Span.{Span}
use Rattle.answers.specs.declared.answer.Answer.{Answer}

-- ---- a readable file of n records without a name twice; the words of its vectors and features, in order, from word `from` of the work area on
pub record Listed (update : Bool) (s : List ℕ) (n : ℕ) (work : List ℕ) (from : ℕ) : Type 0 where
  pub good : Readable update s n
  pub once : (twice_of update s n).index ≡ 0
  pub room : 8 * (from + (n - first_item update)) ≤ length work
  pub words : words_in work from (n - first_item update) ≡ sorted (name_words update s n)

-- the same of a cell and an update, as reading leaves them
pub record BothListed (cell : List ℕ) (n : ℕ) (update : List ℕ) (m : ℕ) (work : List ℕ) : Type 0 where
  pub held : Listed false cell n work (n - 3 + (m - 2))
  pub come : Listed true update m work (n - 3 + (m - 2) + (n - 3))

-- ---- a part that lies in its file; a refusal has a code
pub record SpanIn (cell update : List ℕ) (span : Span) : Type 0 where
  pub inside : span.from + span.size ≤ length (cond span.update update cell)

pub record SightIn (cell update : List ℕ) (sight : Result Span Answer) : Type 0 where
  pub each : (span : Span) → sight ≡ Ok span → SpanIn cell update span
  pub refused : (a : Answer) → sight ≡ Err a → a.code ≡ 0 → ⊥
