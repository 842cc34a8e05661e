-- The answer of `judge`, put into its area. Assumes nothing.
use Rattle.answers.proofs.AnswerLaws.{told_code}
use Rattle.answers.proofs.SixteenLaws.{told_area}
use Rattle.s57.proofs.s57_judge.Goals as goal

pub returns : goal.returns
returns c =
    record { code = told_code _ _ c.judge-judged.ensures.value; area = told_area _ _ _ _ c.judge-judged.ensures.value c.put_answer.ensures; zero = c.judge-judged.ensures.work_after }
