-- The order of refusals: stages stand in a row, and the first that finds something answers. Assumes nothing.
use Rattle.std.specs.Prelude.{ℕ, cond, eqb}
use Rattle.answers.specs.declared.refusal.Refusal.{Refusal}
use Rattle.answers.specs.declared.answer.Answer.{Answer}

-- what a stage found, or, where its code is 0, what comes on: "Order: .."; "Each code is given only then"
unfoldable pub first_by : {A : Type 0} → (A → ℕ) → A → A → A
first_by code a on = cond (eqb (code a) 0) on a

-- ---- of codes, of refusals, of answers
abbrev pub first_code : ℕ → ℕ → ℕ
first_code a on = first_by (λ (c : ℕ). c) a on

abbrev pub first_refusal : Refusal → Refusal → Refusal
first_refusal a on = first_by (λ (r : Refusal). r.code) a on

abbrev pub first_answer : Answer → Answer → Answer
first_answer a on = first_by (λ (r : Answer). r.code) a on
