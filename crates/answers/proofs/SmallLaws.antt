-- The answer's sixteen bytes read as its four numbers, where none of them passes four bytes; stages whose numbers are so small in a row. Assumes nothing.
use Prim.Native.Nat.{ℕ, ◌≤◌, ◌<◌}
use mathlib.Core.Bool.{Bool, true, false, cond}
use mathlib.Core.List.{[], ◌++◌, append-nil, List}
use mathlib.Core.Path.{◌≡◌}
use native.Mathlib.Omega.{arith}
use lib.Dec.{eqb}
use Rattle.octets.specs.Number.{num_at, bytes_of}
use Rattle.octets.specs.Area.{Has}
use Rattle.octets.proofs.NumberLaws.{num_read, bytes_length}
use Rattle.octets.proofs.AreaLaws.{has_whole, has_at, has_left, has_right}
use Rattle.answers.specs.Answer.{refusal, answer, filed}
use Rattle.answers.specs.First.{first_by, first_refusal, first_answer}
use Rattle.answers.specs.Sixteen.{answer_bytes}
use Rattle.answers.specs.declared.refusal.Refusal.{Refusal}
use Rattle.answers.specs.declared.answer.Answer.{Answer}

-- ---- a refusal's code is one of document 01's, and its record at most m
pub record Few (m : ℕ) (r : Refusal) : Type 0 where
  pub code_few : r.code ≤ 22
  pub index_few : r.index ≤ m

pub few_more : {m k : ℕ} {r : Refusal} → m ≤ k → Few m r → Few k r
few_more h f = let i = f.index_few in record { code_few = f.code_few; index_few = omega arith }

pub few_made : {m : ℕ} (code index offset : ℕ) → code ≤ 22 → index ≤ m → Few m (refusal code index offset)
few_made code index offset c i = record { code_few = c; index_few = i }

pub few_cond : (b : Bool) {m : ℕ} {x y : Refusal} → Few m x → Few m y → Few m (cond b x y)
few_cond true f g = f
few_cond false f g = g

pub few_first : {m : ℕ} {a on : Refusal} → Few m a → Few m on → Few m (first_refusal a on)
unfolding first_by
few_first {m} {a} f g = few_cond (eqb a.code 0) g f

-- ---- the answer's four numbers
pub record Small (a : Answer) : Type 0 where
  pub code_small : a.code < 4294967296
  pub file_small : a.file < 4294967296
  pub index_small : a.index < 4294967296
  pub number_small : a.number < 4294967296

pub small_cond : (b : Bool) {x y : Answer} → Small x → Small y → Small (cond b x y)
small_cond true f g = f
small_cond false f g = g

pub small_made : (code file index number offset : ℕ) → code ≤ 22 → file ≤ 3 → index < 4294967296 → number < 4294967296 → Small (answer code file index number offset)
small_made code file index number offset c f i n = record { code_small = omega arith; file_small = omega arith; index_small = i; number_small = n }

pub small_filed : {m : ℕ} (file : ℕ) (r : Refusal) → file ≤ 3 → Few m r → m < 4294967296 → Small (filed file r)
unfolding filed
small_filed file r low f h =
    let index = f.index_few in
    small_cond (eqb r.code 0) (small_made 0 0 0 0 0 (omega arith) (omega arith) (omega arith) (omega arith))
    (small_made r.code file r.index 0 r.offset f.code_few low (omega arith) (omega arith))

pub small_first : {a on : Answer} → Small a → Small on → Small (first_answer a on)
unfolding first_by
small_first {a} small on = small_cond (eqb a.code 0) on small

-- ---- the sixteen bytes, read again: what a host gets
pub record ReadsAs (s : List ℕ) (a : Answer) : Type 0 where
  pub code_read : num_at s 0 4 ≡ a.code
  pub file_read : num_at s 4 4 ≡ a.file
  pub index_read : num_at s 8 4 ≡ a.index
  pub number_read : num_at s 12 4 ≡ a.number

pub bytes_read : (a : Answer) → Small a → ReadsAs (answer_bytes a) a
unfolding answer_bytes
bytes_read a small =
    let c = bytes_of 4 a.code in
    let f = bytes_of 4 a.file in
    let i = bytes_of 4 a.index in
    let n = bytes_of 4 a.number in
    let all : Has (c ++ (f ++ (i ++ n))) 0 (c ++ (f ++ (i ++ n))) = rw append-nil at (has_whole (c ++ (f ++ (i ++ n))) []) in
    let second = has_right c (f ++ (i ++ n)) all in
    let third = has_right f (i ++ n) second in
    let fourth = has_right i n third in
    let lc = bytes_length 4 a.code in
    let lf = bytes_length 4 a.file in
    let li = bytes_length 4 a.index in
    record {
      code_read = num_read 4 a.code small.code_small (has_left c (f ++ (i ++ n)) all);
      file_read = num_read 4 a.file small.file_small (has_at 4 (omega arith) (has_left f (i ++ n) second));
      index_read = num_read 4 a.index small.index_small (has_at 8 (omega arith) (has_left i n third));
      number_read = num_read 4 a.number small.number_small (has_at 12 (omega arith) fourth);
    }
