-- Laws of `loader`: Judge's and Admit's order of codes in JudgeLaws and AdmitLaws, the answer for C in AnswerLaws, ReadLaws and ApplyReads.
pub mod AdmitLaws
pub mod ReadLaws
pub mod ApplyReads
