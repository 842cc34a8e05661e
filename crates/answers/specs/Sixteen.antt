-- The answer that a host program in C gets. Assumes nothing.
use Rattle.std.specs.Prelude.{ℕ, cond, List, ◌++◌, length, eqb}
use Rattle.octets.specs.Number.{bytes_of}
use Rattle.answers.specs.declared.answer.Answer.{Answer}

-- "a 16-byte answer (code, file, record, number, each 4 bytes, low byte first)"
unfoldable pub answer_bytes : Answer → List ℕ
answer_bytes a = bytes_of 4 a.code ++ (bytes_of 4 a.file ++ (bytes_of 4 a.index ++ bytes_of 4 a.number))

-- "an answer area of another length stays untouched"
unfoldable pub answer_area : List ℕ → Answer → List ℕ
answer_area area a = cond (eqb (length area) 16) (answer_bytes a) area
