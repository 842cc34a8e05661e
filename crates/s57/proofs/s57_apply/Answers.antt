-- The answer of `apply`, put into its area. Assumes nothing.
use Rattle.answers.proofs.AnswerLaws.{told_code}
use Rattle.answers.proofs.SixteenLaws.{told_area}
use Rattle.s57.proofs.s57_apply.Goals as goal

pub returns : goal.returns
returns c =
    record { code = told_code _ _ c.apply-applied.ensures.value; area = told_area _ _ _ _ c.apply-applied.ensures.value c.put_answer.ensures; output = c.apply-applied.ensures.out_after; zero = c.apply-applied.ensures.work_after }
