-- What a call from C promises: "the call returns the code and fills a 16-byte answer"; one equation each for the code and for the final bytes of
-- every lent area. Each record is the whole contract of its call. Assumes nothing.
use Rattle.std.specs.Prelude.{ℕ, List, ◌≡◌, length, replicate}
use Rattle.judging.specs.Judge.{judge_of}
use Rattle.loader.specs.Admit.{admit_of, admit_area}
use Rattle.loader.specs.Apply.{apply_of, apply_area}
use Rattle.answers.specs.Sixteen.{answer_area}

-- `s57_judge`: the code is r; the answer area, which was `answer`, is `told`; the work area, which was `work`, is `after`
pub record Judged (cell work answer told after : List ℕ) (r : ℕ) : Type 0 where
  pub code : r ≡ (judge_of cell (length work)).code
  pub area : told ≡ answer_area answer (judge_of cell (length work))
  pub zero : after ≡ replicate (length work) 0

-- `s57_admit`: the same, and the output, which was `out`, is `held`
pub record Admitted (cell out work answer held told after : List ℕ) (r : ℕ) : Type 0 where
  pub code : r ≡ (admit_of cell (length work) (length out)).code
  pub area : told ≡ answer_area answer (admit_of cell (length work) (length out))
  pub output : held ≡ admit_area cell (length work) out
  pub zero : after ≡ replicate (length work) 0

-- `s57_apply`: the same of a cell and an update
pub record Applied (cell update out work answer held told after : List ℕ) (r : ℕ) : Type 0 where
  pub code : r ≡ (apply_of cell update (length work) (length out)).code
  pub area : told ≡ answer_area answer (apply_of cell update (length work) (length out))
  pub output : held ≡ apply_area cell update (length work) out
  pub zero : after ≡ replicate (length work) 0
