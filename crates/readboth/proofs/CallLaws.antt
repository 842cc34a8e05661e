-- Laws of a call's first stages, once for all calls: a file opened (codes 1 and 2), work enough (code 3); then of the two calls of reading. Assumes nothing.
use Prim.Native.Nat.{ℕ, ◌+◌, ◌*◌, ◌≤◌, ◌<◌}
use mathlib.Core.Bool.{true, false}
use mathlib.Core.List.{List}
use mathlib.Core.Logic.{⊎_elim}
use mathlib.Core.Path.{◌≡◌, refl, sym, ap, ◌∙◌}
use native.Mathlib.Omega.{arith}
use lib.ListN.{length}
use lib.Dec.{ltb}
use borrow.Author.Tests.{lt-ltb, le-ltb, ltb-false}
use Rattle.std.specs.Prelude.{Result, Ok, Err}
use Rattle.octets.proofs.Cases.{true_or_false}
use Rattle.answers.specs.Codes.{most_bytes}
use Rattle.answers.specs.Answer.{answer, filed, outcome, answer_of}
use Rattle.answers.proofs.OutcomeLaws.{answer_told}
use Rattle.answers.specs.First.{first_by, first_answer}
use Rattle.answers.specs.declared.refusal.Refusal.{Refusal}
use Rattle.answers.specs.declared.answer.Answer.{Answer}
use Rattle.iso8211.specs.File.{frame_of}
use Rattle.iso8211.proofs.Promise.{records_few}
use Rattle.reader.specs.Reader.{framed_front, front_of, fronted, opening, records_in, work_answer, cell_fault, cell_checked, both_checked}
use Rattle.reader.specs.Calls.{read_cell, read_both}
use Rattle.reader.specs.Lent.{FileOpened}

-- ---- out of a front
module _ (file : ℕ) (s : List ℕ) where
  front_framed : ltb most_bytes (length s) ≡ false → front_of file s ≡ framed_front file s (frame_of s)
  unfolding front_of
  front_framed x = rw x

  front_over : ltb most_bytes (length s) ≡ true → front_of file s ≡ Err (answer 1 file 0 0 0)
  unfolding front_of
  front_over x = rw x

  -- a file that is opened is framed and not too long
  framed_count : (f : Result ℕ ℕ) (n : ℕ) → framed_front file s f ≡ Ok n → f ≡ Ok n
  unfolding framed_front
  framed_count (Ok m) n e = let q : m ≡ n = cc in rw q
  framed_count (Err k) n e = absurd (let z : ◌≡◌ {A = ℕ} 0 1 = cc in omega arith)

  pub front_opened : (n : ℕ) → front_of file s ≡ Ok n → FileOpened s n
  front_opened n e =
      ⊎_elim (λ (t : ltb most_bytes (length s) ≡ true). absurd (let z = sym (front_over t) ∙ e in let y : ◌≡◌ {A = ℕ} 0 1 = cc in omega arith))
      (λ (t : ltb most_bytes (length s) ≡ false). record { framed = framed_count (frame_of s) n (sym (front_framed t) ∙ e); short = ltb-false _ _ t })
      (true_or_false (ltb most_bytes (length s)))

  -- one that isn't has a code
  code_of : {a b : Answer} → ◌≡◌ {A = Result ℕ Answer} (Err a) (Err b) → b.code ≡ 0 → a.code ≡ 0
  code_of {a} {b} e z = let same : a ≡ b = cc in ap (λ (x : Answer). x.code) same ∙ z

  framed_refused : (a : Answer) (f : Result ℕ ℕ) → framed_front file s f ≡ Err a → a.code ≡ 0 → ⊥
  unfolding framed_front
  framed_refused a (Ok k) h z = let y : ◌≡◌ {A = ℕ} 0 1 = cc in omega arith
  framed_refused a (Err k) h z = let y : ◌≡◌ {A = ℕ} 2 0 = code_of h z in omega arith

  pub front_refused : (a : Answer) → front_of file s ≡ Err a → a.code ≡ 0 → ⊥
  front_refused a h z =
      ⊎_elim (λ (x : ltb most_bytes (length s) ≡ true). let y : ◌≡◌ {A = ℕ} 1 0 = code_of (sym (front_over x) ∙ h) z in absurd (omega arith))
      (λ (x : ltb most_bytes (length s) ≡ false). framed_refused a (frame_of s) (sym (front_framed x) ∙ h) z) (true_or_false (ltb most_bytes (length s)))

pub counted : (file : ℕ) (s : List ℕ) (f : Result ℕ Answer) (n : ℕ) → f ≡ front_of file s → f ≡ Ok n → FileOpened s n
counted file s f n e told = front_opened file s n (sym e ∙ told)

-- ---- how many records there can be
pub few : {s : List ℕ} {n : ℕ} → FileOpened s n → n ≤ most_bytes
few {s} {n} h = let m = records_few s n h.framed in let q = h.short in omega arith

-- ---- opening: refused, or what comes on
module _ (file : ℕ) (s : List ℕ) (on : ℕ → Answer) where
  pub opening_refused : (a : Answer) → front_of file s ≡ Err a → opening file s on ≡ a
  unfolding fronted
  opening_refused a told = rw told

  pub opening_on : (n : ℕ) → front_of file s ≡ Ok n → opening file s on ≡ on n
  unfolding fronted
  opening_on n told = rw told

  front_told : (f : Result ℕ Answer) → front_of file s ≡ f → (fronted (λ (a : Answer). a) on f).code ≡ 0
      → (front_of file s ≡ Ok (records_in f)) × (fronted (λ (a : Answer). a) on f ≡ on (records_in f)) × ((on (records_in f)).code ≡ 0)
  unfolding fronted records_in
  front_told (Ok n) e h = (e, refl, h)
  front_told (Err a) e h = absurd (front_refused file s a e h)

  -- an answer 0 is that of an opened file
  pub opening_told : (opening file s on).code ≡ 0
      → (front_of file s ≡ Ok (records_in (front_of file s))) × (opening file s on ≡ on (records_in (front_of file s))) × ((on (records_in (front_of file s))).code ≡ 0)
  opening_told h = front_told (front_of file s) refl h

-- for one way through the code
module _ (file : ℕ) (s : List ℕ) (f : Result ℕ Answer) (is : f ≡ front_of file s) (on : ℕ → Answer) (a : Answer) where
  pub opened_refused : f ≡ Err a → a ≡ opening file s on
  opened_refused told = sym (opening_refused file s on a (sym is ∙ told))

  pub opened_on : (n : ℕ) → f ≡ Ok n → a ≡ on n → a ≡ opening file s on
  opened_on n told e = e ∙ sym (opening_on file s on n (sym is ∙ told))

-- ---- work
module _ (w n : ℕ) (on : Answer) where
  pub work_short : w < 16 * n → first_answer (work_answer w n) on ≡ answer 3 0 0 (16 * n) 0
  unfolding work_answer first_by
  work_short h = rw (lt-ltb w (16 * n) h)

  pub work_on : 16 * n ≤ w → first_answer (work_answer w n) on ≡ on
  unfolding work_answer first_by
  work_on h = rw (le-ltb w (16 * n) h)

  pub work_told : (first_answer (work_answer w n) on).code ≡ 0 → (16 * n ≤ w) × (first_answer (work_answer w n) on ≡ on) × (on.code ≡ 0)
  unfolding work_answer first_by
  work_told h =
      ⊎_elim (λ (x : ltb w (16 * n) ≡ true). absurd (let z : ◌≡◌ {A = ℕ} 3 0 = rw x at h in omega arith))
      (λ (x : ltb w (16 * n) ≡ false). (ltb-false w (16 * n) x, rw x, rw x at h)) (true_or_false (ltb w (16 * n)))

-- for one way through the code
module _ (w n : ℕ) (on a : Answer) where
  pub worked_short : w < 16 * n → a ≡ answer 3 0 0 (16 * n) 0 → a ≡ first_answer (work_answer w n) on
  worked_short h e = e ∙ sym (work_short w n on h)

  pub worked_on : 16 * n ≤ w → a ≡ on → a ≡ first_answer (work_answer w n) on
  worked_on h e = e ∙ sym (work_on w n on h)

-- ---- cell_checked
module _ (cell : List ℕ) (w n : ℕ) (a : Answer) where
  pub checked_work : w < 16 * n → a ≡ answer 3 0 0 (16 * n) 0 → a ≡ cell_checked cell w n
  unfolding cell_checked
  checked_work h e = worked_short w n _ a h e

  pub checked_filed : 16 * n ≤ w → a ≡ filed 1 (cell_fault cell n) → a ≡ cell_checked cell w n
  unfolding cell_checked
  checked_filed h e = worked_on w n _ a h e

  pub checked_told : {r : Result Unit Refusal} → 16 * n ≤ w → r ≡ outcome (cell_fault cell n) → a ≡ answer_of 1 r → a ≡ cell_checked cell w n
  checked_told h is e = checked_filed h (e ∙ answer_told 1 _ is)

-- ---- both_checked
pub both_work : (cell update : List ℕ) (w n m : ℕ) (a : Answer) → w < 16 * (n + m) → a ≡ answer 3 0 0 (16 * (n + m)) 0 → a ≡ both_checked cell update w n m
unfolding both_checked
both_work cell update w n m a h e = worked_short w (n + m) _ a h e

-- ---- read_cell, read_both
module _ (cell : List ℕ) (w : ℕ) (f : Result ℕ Answer) (a : Answer) (is : f ≡ front_of 1 cell) where
  pub cell_refused : f ≡ Err a → a ≡ read_cell cell w
  unfolding read_cell
  cell_refused told = opened_refused 1 cell f is _ a told

  pub cell_read_on : (n : ℕ) → f ≡ Ok n → a ≡ cell_checked cell w n → a ≡ read_cell cell w
  unfolding read_cell
  cell_read_on n told e = opened_on 1 cell f is (λ (k : ℕ). cell_checked cell w k) a n told e

module _ (cell update : List ℕ) (w : ℕ) (f : Result ℕ Answer) (a : Answer) (is : f ≡ front_of 1 cell) where
  pub both_refused : f ≡ Err a → a ≡ read_both cell update w
  unfolding read_both
  both_refused told = opened_refused 1 cell f is _ a told

  pub both_read_on : (n : ℕ) → f ≡ Ok n → a ≡ opening 2 update (λ (m : ℕ). both_checked cell update w n m) → a ≡ read_both cell update w
  unfolding read_both
  both_read_on n told e = opened_on 1 cell f is (λ (k : ℕ). opening 2 update (λ (m : ℕ). both_checked cell update w k m)) a n told e
