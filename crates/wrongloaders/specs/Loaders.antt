-- Loaders as functions: what it is to keep the contract of Judge, of Admit or of Apply, and the five that document 01 shuts out. Assumes nothing.
use Rattle.std.specs.Prelude.{ℕ, ◌+◌, ◌*◌, List, ◌≡◌, length, take}
use Rattle.answers.specs.declared.answer.Answer.{Answer}
use Rattle.held.specs.Held.{held_of}
use Rattle.judging.specs.Judge.{judge_of}
use Rattle.loader.specs.Admit.{admit_of, admit_area, cell_chart}
use Rattle.loader.specs.Apply.{apply_of, apply_area, changes_in, updated_by}
use Rattle.reader.specs.Reader.{count_in}

-- what a call leaves: its answer, and the output area
pub record Left : Type 0 where
  pub told : Answer
  pub area : List ℕ

-- of a cell and so many bytes of work; besides of an output area; and of a cell and an update
abbrev pub Judger : Type 0
Judger = List ℕ → ℕ → Answer

abbrev pub Admitter : Type 0
Admitter = List ℕ → ℕ → List ℕ → Left

abbrev pub Applier : Type 0
Applier = List ℕ → List ℕ → ℕ → List ℕ → Left

-- "as many as Number says"
abbrev pub wrote : Left → List ℕ
wrote l = take l.told.number l.area

-- ---- the contracts
pub record KeepsJudge (judge : Judger) : Type 0 where
  pub told : (cell : List ℕ) (w : ℕ) → judge cell w ≡ judge_of cell w

pub record KeepsAdmit (admit : Admitter) : Type 0 where
  pub told : (cell : List ℕ) (w : ℕ) (out : List ℕ) → (admit cell w out).told ≡ admit_of cell w (length out)
  pub area : (cell : List ℕ) (w : ℕ) (out : List ℕ) → (admit cell w out).area ≡ admit_area cell w out

pub record KeepsApply (apply : Applier) : Type 0 where
  pub told : (cell file : List ℕ) (w : ℕ) (out : List ℕ) → (apply cell file w out).told ≡ apply_of cell file w (length out)
  pub area : (cell file : List ℕ) (w : ℕ) (out : List ℕ) → (apply cell file w out).area ≡ apply_area cell file w out

-- ---- "a loader that refuses everything"
pub record JudgesNothing (judge : Judger) : Type 0 where
  pub never : (cell : List ℕ) (w : ℕ) → (judge cell w).code ≡ 0 → ⊥

pub record AdmitsNothing (admit : Admitter) : Type 0 where
  pub never : (cell : List ℕ) (w : ℕ) (out : List ℕ) → (admit cell w out).told.code ≡ 0 → ⊥

pub record AppliesNothing (apply : Applier) : Type 0 where
  pub never : (cell file : List ℕ) (w : ℕ) (out : List ℕ) → (apply cell file w out).told.code ≡ 0 → ⊥

-- ---- "one answer for every cell": one code; or, for all cells that are accepted, one re-issue
pub record JudgesAlike (judge : Judger) : Type 0 where
  pub alike : (a b : List ℕ) (w : ℕ) → (judge a w).code ≡ (judge b w).code

pub record AdmitsAlike (admit : Admitter) : Type 0 where
  pub alike : (a b : List ℕ) (w : ℕ) (out : List ℕ) → (admit a w out).told.code ≡ (admit b w out).told.code

pub record AppliesAlike (apply : Applier) : Type 0 where
  pub alike : (a b file : List ℕ) (w : ℕ) (out : List ℕ) → (apply a file w out).told.code ≡ (apply b file w out).told.code

pub record WritesAlike (admit : Admitter) : Type 0 where
  pub alike : (a b : List ℕ) (w : ℕ) (out : List ℕ) → (admit a w out).told.code ≡ 0 → (admit b w out).told.code ≡ 0 → wrote (admit a w out) ≡ wrote (admit b w out)

-- ---- "a copy called updated": whatever DSID says, the vectors and features are those of the cell
pub record Copies (apply : Applier) : Type 0 where
  pub copy : (cell file : List ℕ) (w : ℕ) (out : List ℕ) → (apply cell file w out).told.code ≡ 0
      → (cell_chart (wrote (apply cell file w out))).items ≡ (cell_chart cell).items

-- ---- "a series worked in at its first file, later ones only raising UPDN": where two files are accepted one after the other, the second changes no vector and no
-- feature
pub record WorksAhead (apply : Applier) : Type 0 where
  pub ahead : (cell first second : List ℕ) (w : ℕ) (out : List ℕ) → (apply cell first w out).told.code ≡ 0
      → (apply (wrote (apply cell first w out)) second w out).told.code ≡ 0
      → (cell_chart (wrote (apply (wrote (apply cell first w out)) second w out))).items ≡ (cell_chart (wrote (apply cell first w out))).items

-- ---- "an invented length": of what is accepted, Number isn't how long the held form is
pub record InventsAdmitted (admit : Admitter) : Type 0 where
  pub other : (cell : List ℕ) (w : ℕ) (out : List ℕ) → (admit cell w out).told.code ≡ 0 → (admit cell w out).told.number ≡ length (held_of (cell_chart cell)) → ⊥

pub record InventsApplied (apply : Applier) : Type 0 where
  pub other : (cell file : List ℕ) (w : ℕ) (out : List ℕ) → (apply cell file w out).told.code ≡ 0
      → (apply cell file w out).told.number ≡ length (held_of (updated_by (cell_chart cell) file)) → ⊥

-- with 21 and with 3 Number isn't "bytes needed"
pub record InventsAdmitRoom (admit : Admitter) : Type 0 where
  pub other : (cell : List ℕ) (w : ℕ) (out : List ℕ) → (admit cell w out).told.code ≡ 21 → (admit cell w out).told.number ≡ length (held_of (cell_chart cell)) → ⊥

pub record InventsApplyRoom (apply : Applier) : Type 0 where
  pub other : (cell file : List ℕ) (w : ℕ) (out : List ℕ) → (apply cell file w out).told.code ≡ 21
      → (apply cell file w out).told.number ≡ length (held_of (updated_by (cell_chart cell) file)) → ⊥

pub record InventsJudgeWork (judge : Judger) : Type 0 where
  pub other : (cell : List ℕ) (w : ℕ) → (judge cell w).code ≡ 3 → (judge cell w).number ≡ 16 * count_in cell → ⊥

pub record InventsAdmitWork (admit : Admitter) : Type 0 where
  pub other : (cell : List ℕ) (w : ℕ) (out : List ℕ) → (admit cell w out).told.code ≡ 3 → (admit cell w out).told.number ≡ 16 * count_in cell → ⊥

pub record InventsApplyWork (apply : Applier) : Type 0 where
  pub other : (cell file : List ℕ) (w : ℕ) (out : List ℕ) → (apply cell file w out).told.code ≡ 3
      → (apply cell file w out).told.number ≡ 16 * (count_in cell + changes_in file) → ⊥
