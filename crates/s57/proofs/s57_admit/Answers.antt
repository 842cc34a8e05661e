-- The answer of `admit`, put into its area. Assumes nothing.
use Rattle.answers.proofs.AnswerLaws.{told_code}
use Rattle.answers.proofs.SixteenLaws.{told_area}
use Rattle.s57.proofs.s57_admit.Goals as goal

pub returns : goal.returns
returns c =
    record { code = told_code _ _ c.admit-admitted.ensures.value; area = told_area _ _ _ _ c.admit-admitted.ensures.value c.put_answer.ensures; output = c.admit-admitted.ensures.out_after; zero = c.admit-admitted.ensures.work_after }
