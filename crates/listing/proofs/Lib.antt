-- Laws of `listing`: of the records, then one file for each notion of specs/.
pub mod AnswerLaws
