-- Laws of a cell that is read: by the pass to its end, or from where the pass came to. Assumes nothing.
use Prim.Native.Nat.{ℕ, zero, suc, ◌+◌, ◌-◌, ◌*◌, ◌≤◌, ◌<◌}
use mathlib.Core.Bool.{Bool, true, false, not}
use mathlib.Core.List.{List}
use mathlib.Core.Logic.{⊎_elim}
use mathlib.Core.Path.{◌≡◌, refl, sym, ap, ◌∙◌}
use native.Mathlib.Omega.{arith}
use lib.ListN.{length}
use lib.Dec.{eqb}
use Rattle.std.specs.Prelude.{Ok, Result, Err, Option, Some, None}
use Rattle.octets.proofs.Cases.{eq_or_ne}
use Rattle.words.specs.Words.{words_in}
use Rattle.words.specs.Order.{sorted, Sorts}
use Rattle.iso8211.specs.Record.{record_good, end_of}
use Rattle.iso8211.specs.Premises.{FramedAt}
use Rattle.iso8211.specs.File.{framed_from, frame_of}
use Rattle.iso8211.proofs.FileLaws.{apart}
use Rattle.iso8211.proofs.Promise.{framed_at, at_start, last_ends}
use Rattle.layout.specs.Premises.{DssiThere}
use Rattle.answers.specs.Answer.{refusal, answer, filed, outcome}
use Rattle.answers.proofs.OutcomeLaws.{none_of, some_of}
use Rattle.answers.specs.First.{first_answer}
use Rattle.answers.specs.declared.refusal.Refusal.{Refusal}
use Rattle.answers.specs.declared.answer.Answer.{Answer}
use Rattle.answers.proofs.FirstLaws.{first_on, first_stays}
use Rattle.answers.proofs.AnswerLaws.{code_kept, filed_some, filed_tested}
use Rattle.names.specs.Names.{first_item, twice_of, met_twice}
use Rattle.names.specs.NameWords.{name_words}
use Rattle.names.specs.Premises.{Readable, HeldIn}
use Rattle.names.specs.declared.twice.Repeat.{Repeat}
use Rattle.names.proofs.ReadableLaws.{readable_three}
use Rattle.names.proofs.CollectLaws.{order_done}
use Rattle.counted.specs.Counts.{counts_good}
use Rattle.counted.specs.Tallies.{tally_of}
use Rattle.counted.specs.declared.counts.Tally.{Tally}
use Rattle.chart.specs.Before.{ReadTo}
use Rattle.reader.specs.Reader.{front_of, fronted, opening, work_answer, cell_fault, cell_checked}
use Rattle.reader.specs.Calls.{read_cell}
use Rattle.reader.specs.Lent.{StartedAt, StartTold, NamesLent, FramedTo}
use Rattle.reader.proofs.ReaderLaws.{readable, dssi_read, cell_twice, cell_counts, cell_fine, held_words}
use Rattle.readboth.proofs.CallLaws.{few, front_opened, front_refused, checked_work, checked_filed, cell_refused, cell_read_on}
use Rattle.readonce.specs.Once.{FileTold, AllPassed, CellPassed, CellOpened, CellRead, CellRefused, CellTold}
use Rattle.readonce.specs.declared.pass.Passed.{Passed}

-- ---- passed_fault: n records that were passed
module _ {s work : List ℕ} {n : ℕ} {tally : Tally} (so : AllPassed s n tally work) where
  pub all_readable : Readable false s n
  all_readable = let r = so.read in readable false s n r.framed r.short r.none

  pub all_three : 3 ≤ n
  all_three = readable_three all_readable

  pub all_dssi : DssiThere s
  all_dssi = let r = so.read in dssi_read s n r.framed r.none

  pub all_tally : tally ≡ tally_of s n
  unfolding tally_of first_item
  all_tally = so.read.tally

  pub all_framed : FramedAt s 0
  all_framed = let framed = so.read.framed in framed_at s n 0 0 framed (last_ends s n framed).0 (at_start s)

  -- ---- and sorted
  module _ {after : List ℕ} (sorts : Sorts work 0 (n - 3) after) where
    pub all_words : words_in after 0 (n - first_item false) ≡ sorted (name_words false s n)
    unfolding first_item
    all_words = (order_done false s so.before work after n 3 refl so.read.words sorts).words

    pub all_room : 8 * (n - first_item false) ≤ length after
    all_room = let size = sorts.size in let room = so.room in omega arith

    pub all_held : HeldIn s n after
    all_held = held_words all_words

  module _ {r : Option Repeat} (told : r ≡ met_twice (twice_of false s n)) where
    pub all_twice : {t : Repeat} (a : Refusal) → r ≡ Some t → a ≡ refusal 7 t.index t.offset → Err a ≡ outcome (cell_fault s n)
    all_twice a h e = cell_twice s n so.read.none told a h e

    module _ (once : r ≡ None) (q : Bool) (counted : q ≡ counts_good s n) where
      pub all_counts : (a : Refusal) (p : ℕ) → not q ≡ true → p ≡ end_of s 0 → a ≡ refusal 8 1 p → Err a ≡ outcome (cell_fault s n)
      all_counts a p h at e = cell_counts s n so.read.none told once q counted a p h at e

      pub all_fine : not q ≡ false → Ok tt ≡ outcome (cell_fault s n)
      all_fine h = cell_fine s n so.read.none told once q counted h

-- ---- rest_fault
-- a file has as many records as are known to be good, or more
more_from : (f : ℕ) (s : List ℕ) (at k n : ℕ) → framed_from f s at k ≡ Ok n → k < n
unfolding framed_from
more_from zero s at k n v = absurd (let z : ◌≡◌ {A = ℕ} 0 1 = cc in omega arith)
more_from (suc f) s at k n v =
    let a = apart (record_good (eqb k 0) s at) (eqb (end_of s at) (length s)) k n (framed_from f s (end_of s at) (k + 1)) v in
    ⊎_elim (λ (last : (eqb (end_of s at) (length s) ≡ true) × (k + 1 ≡ n)). let m = last.1 in omega arith)
    (λ (on : (eqb (end_of s at) (length s) ≡ false) × (framed_from f s (end_of s at) (k + 1) ≡ Ok n)). let less = more_from f s (end_of s at) (k + 1) n on.1 in omega arith)
    a.1

count_same : (s : List ℕ) (m n : ℕ) → frame_of s ≡ Ok m → frame_of s ≡ Ok n → m ≡ n
count_same s m n e f = let same : Ok m ≡ Ok n = sym e ∙ f in cc

reached_few : {s : List ℕ} {k at : ℕ} (n : ℕ) → FramedTo s k at → frame_of s ≡ Ok n → k ≤ n
reached_few {s} {k} {at} n so framed =
    ⊎_elim (λ (end : at ≡ length s). let same = count_same s k n (so.done end) framed in omega arith)
    (λ (more : at ≡ length s → ⊥). let less = more_from (suc (length s - k)) s at k n (sym (so.more more) ∙ framed) in omega arith)
    (eq_or_ne at (length s))

module _ {s work : List ℕ} {n : ℕ} {p : Passed} (so : CellOpened s n p work) where
  -- the pass read all
  module _ (some : p.count ≡ 0 → ⊥) where
    all_same : p.count ≡ n
    all_same = count_same s p.count n (so.passed.told.told some).framed so.framed

    pub rest_passed : AllPassed s p.count p.tally work
    rest_passed = record { before = so.passed.before; read = so.passed.told.told some; room = rw all_same so.room }

    pub rest_is : {r : Result Unit Refusal} → r ≡ outcome (cell_fault s p.count) → r ≡ outcome (cell_fault s n)
    rest_is e = e ∙ ap (λ (k : ℕ). outcome (cell_fault s k)) all_same

    pub rest_held : {after : List ℕ} {r : Result Unit Refusal} → (r ≡ Ok tt → HeldIn s p.count after) → r ≡ Ok tt → HeldIn s n after
    rest_held held none = rw (← all_same) (held none)

  -- or it stopped
  pub rest_lent : NamesLent s n work
  rest_lent = record { framed = so.framed; short = so.passed.short; room = (let room = so.room in omega arith) }

  pub rest_read : ReadTo false s n p.reached
  rest_read = so.passed.told.passed.read n (reached_few n so.passed.told.passed.framed so.framed)

-- ---- the answers
told_all : {s work : List ℕ} {w n : ℕ} → CellRead s n work → CellTold s w work (Ok n)
told_all {n = n} read = record {
  all = λ m e. let same : n ≡ m = cc in rw (← same) read;
  refused = λ a e. absurd (let z : ◌≡◌ {A = ℕ} 0 1 = cc in omega arith);
}

told_refused : {s work : List ℕ} {w : ℕ} {a : Answer} → CellRefused s w a → CellTold s w work (Err a)
told_refused {a = a} so = record {
  all = λ m e. absurd (let z : ◌≡◌ {A = ℕ} 0 1 = cc in omega arith);
  refused = λ b e. let same : a ≡ b = cc in rw (← same) so;
}

-- codes 1 and 2
pub told_front : {s work : List ℕ} (w : ℕ) (f : Result ℕ Answer) (a : Answer) → f ≡ front_of 1 s → f ≡ Err a → CellTold s w work (Err a)
told_front {s} w f a is told = told_refused (record { is = cell_refused s w f a is told; code = front_refused 1 s a (sym is ∙ told) })

pub told_start : {s work : List ℕ} (w : ℕ) (f : Result ℕ Answer) (a : Answer) → StartTold 1 s f → f ≡ Err a → CellTold s w work (Err a)
told_start {s} w f a so told = told_front w (front_of 1 s) a refl (so.refused a told)

-- code 3, then 4 to 8
module _ (s : List ℕ) (n : ℕ) (opened : front_of 1 s ≡ Ok n) where
  pub opened_few : n ≤ 5242880
  opened_few = few (front_opened 1 s n opened)

  pub opened_passed : {p : Passed} {work : List ℕ} → CellPassed s p work → 16 * n ≤ length work → CellOpened s n p work
  opened_passed so room = record { passed = so; framed = (front_opened 1 s n opened).framed; room = room }

  pub told_work : {work : List ℕ} (w : ℕ) (a : Answer) → w < 16 * n → a ≡ answer 3 0 0 (16 * n) 0 → CellTold s w work (Err a)
  told_work w a h e = told_refused (record {
    is = cell_read_on s w (front_of 1 s) a refl n opened (checked_work s w n a h e);
    code = code_kept 3 0 0 (16 * n) 0 a (λ z. omega arith) e;
  })

  module _ {work : List ℕ} (w : ℕ) (room : 16 * n ≤ w) {q : Result Unit Refusal} (is : q ≡ outcome (cell_fault s n)) where
    pub told_filed : (a : Answer) {r : Refusal} → q ≡ Err r → a ≡ answer r.code 1 r.index 0 r.offset → CellTold s w work (Err a)
    told_filed a {r} h e =
        let p = some_of _ is h in
        told_refused (record {
          is = cell_read_on s w (front_of 1 s) a refl n opened (checked_filed s w n a room (filed_some 1 r a p.1 e ∙ ap (filed 1) p.0));
          code = λ z. p.1 (ap (λ (x : Answer). x.code) (sym e) ∙ z);
        })

    pub told_read : {u : Unit} → length work ≡ w → q ≡ Ok u → (q ≡ Ok tt → HeldIn s n work) → CellTold s w work (Ok n)
    told_read size h held = told_all (record { front = opened; room = omega arith; fine = none_of _ is h; words = held h })

-- ---- read_from, cell_read
pub started_at : (file : ℕ) {s : List ℕ} {x : ℕ} (f : Result ℕ Answer) → StartTold file s f → f ≡ Ok x → StartedAt s x
started_at file f so told = so.starts _ told

-- the work area keeps its length during the pass
pub told_along : {s work : List ℕ} {v w : ℕ} {r : Result ℕ Answer} → v ≡ w → CellTold s v work r → CellTold s w work r
told_along e so = rw e at so

pub passed_over : {s before work : List ℕ} {start : ℕ} (p : Passed) → StartedAt s start → FileTold false s before work p → CellPassed s p work
passed_over {before = before} p so told = record { before = before; short = so.short; told = told }

-- ---- out of an answer
pub read_all : {s work : List ℕ} {w n : ℕ} (r : Result ℕ Answer) → CellTold s w work r → r ≡ Ok n → CellRead s n work
read_all r told e = told.all _ e

pub read_refused : {s work : List ℕ} {w : ℕ} {a : Answer} (r : Result ℕ Answer) → CellTold s w work r → r ≡ Err a → CellRefused s w a
read_refused r told e = told.refused _ e

-- whatever comes behind reading, a refusal stays
worked_same : (w n : ℕ) (x y a : Answer) → (a.code ≡ 0 → ⊥) → ((x.code ≡ 0 → ⊥) → y ≡ x) → a ≡ first_answer (work_answer w n) x → a ≡ first_answer (work_answer w n) y
worked_same w n x y a some same e =
    ⊎_elim (λ (none : (work_answer w n).code ≡ 0).
    let here : a ≡ x = e ∙ first_on (λ (b : Answer). b.code) (work_answer w n) x none in
    here ∙ sym (same (λ (z : x.code ≡ 0). some (ap (λ (b : Answer). b.code) here ∙ z))) ∙ sym (first_on (λ (b : Answer). b.code) (work_answer w n) y none))
    (λ (h : (work_answer w n).code ≡ 0 → ⊥). e ∙ first_stays (λ (b : Answer). b.code) (work_answer w n) x h ∙ sym (first_stays (λ (b : Answer). b.code) (work_answer w n) y h))
    (eq_or_ne (work_answer w n).code 0)

fronted_same : (f : Result ℕ Answer) (w : ℕ) (x y : ℕ → Answer) (a : Answer) → (a.code ≡ 0 → ⊥) → ((n : ℕ) → ((x n).code ≡ 0 → ⊥) → y n ≡ x n)
    → a ≡ fronted (λ (b : Answer). b) (λ (n : ℕ). first_answer (work_answer w n) (x n)) f → a ≡ fronted (λ (b : Answer). b) (λ (n : ℕ). first_answer (work_answer w n) (y n)) f
unfolding fronted
fronted_same (Ok n) w x y a some same e = worked_same w n (x n) (y n) a some (same n) e
fronted_same (Err b) w x y a some same e = e

pub refused_stays : {s : List ℕ} {w : ℕ} {a : Answer} → CellRefused s w a → (on : ℕ → Answer) → ((n : ℕ) → ((cell_fault s n).code ≡ 0 → ⊥) → on n ≡ filed 1 (cell_fault s n))
    → a ≡ opening 1 s (λ (n : ℕ). first_answer (work_answer w n) (on n))
unfolding read_cell cell_checked
refused_stays {s} {w} {a} so on first =
    fronted_same (front_of 1 s) w (λ (n : ℕ). filed 1 (cell_fault s n)) on a so.code
    (λ n some. first n (λ (z : (cell_fault s n).code ≡ 0). some (filed_tested 1 (cell_fault s n) z))) so.is
