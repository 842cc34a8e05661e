-- Show's sixteen bytes read as the four numbers of its answer: none of them passes four bytes. Assumes nothing.
use Prim.Native.Nat.{ℕ, ◌+◌, ◌≤◌}
use mathlib.Core.Bool.{Bool, true, false, cond}
use mathlib.Core.List.{List}
use mathlib.Core.Path.{◌≡◌, refl, sym}
use native.Mathlib.Omega.{arith}
use lib.ListN.{length}
use lib.Dec.{eqb}
use Rattle.std.specs.Prelude.{Option, Some, None, Ok, Result, Err}
use Rattle.iso8211.specs.Leader.{size_at}
use Rattle.iso8211.specs.File.{frame_of}
use Rattle.iso8211.proofs.Promise.{framed_at}
use Rattle.reader.specs.Lent.{FileOpened}
use Rattle.reader.specs.Reader.{front_of, cell_fault, update_fault, cell_checked, both_checked, fronted}
use Rattle.answers.specs.declared.answer.Answer.{Answer}
use Rattle.readboth.proofs.CallLaws.{counted}
use Rattle.answers.specs.Sixteen.{answer_bytes}
use Rattle.answers.proofs.SmallLaws.{Small, small_made, small_filed, small_first, ReadsAs, bytes_read}
use Rattle.loader.proofs.ReadLaws.{cell_few, update_few, small_work, front_cases}
use Rattle.shownames.specs.Named.{named_in}
use Rattle.show.specs.Show.{span_of, found_sight, absent, cell_sight, both_sight, after_reading, alone_sight, pair_sight, update_sight, sight_of, sight_answer, show_of}
use Rattle.shownames.proofs.NamedLaws.{named_record}
use Rattle.show.specs.declared.span.Span.{Span}

-- ---- what is seen, by its answer
record SmallSight (sight : Result Span Answer) : Type 0 where
  told : Small (sight_answer sight)

-- a record of a framed file has 99,999 bytes at most
found_small : (update : Bool) (s : List ℕ) (n rcnm rcid : ℕ) (r : Option ℕ) (on : Result Span Answer) → frame_of s ≡ Ok n → r ≡ named_in update s n rcnm rcid → SmallSight on
    → SmallSight (found_sight update s r on)
unfolding found_sight sight_answer span_of
found_small update s n rcnm rcid (Some p) on framed is rest =
    let one = named_record update s n p rcnm rcid (sym is) in
    let few = (framed_at s n one.0 p framed one.2 one.3).small in
    record { told = small_made 0 0 0 (size_at s p) 0 (omega arith) (omega arith) (omega arith) (omega arith) }
found_small update s n rcnm rcid None on framed is rest = rest

after_small : (a : Answer) (on : Result Span Answer) → Small a → SmallSight on → SmallSight (after_reading a on)
unfolding after_reading sight_answer
after_small a on small rest = pick (eqb a.code 0) where
  pick : (b : Bool) → SmallSight (cond b on (Err a))
  pick true = rest
  pick false = record { told = small }

module _ (cell update : List ℕ) (w rcnm rcid : ℕ) where
  cell_small : (n : ℕ) → FileOpened cell n → SmallSight (cell_sight cell n rcnm rcid)
  unfolding cell_sight absent sight_answer
  cell_small n so =
      found_small false cell n rcnm rcid (named_in false cell n rcnm rcid) absent so.framed refl
      (record { told = small_made 22 0 0 0 0 (omega arith) (omega arith) (omega arith) (omega arith) })

  both_small : (n m : ℕ) → FileOpened cell n → FileOpened update m → SmallSight (both_sight cell n update m rcnm rcid)
  unfolding both_sight
  both_small n m so too = found_small true update m rcnm rcid (named_in true update m rcnm rcid) (cell_sight cell n rcnm rcid) too.framed refl (cell_small n so)

  alone_small : (n : ℕ) → n ≤ 5242880 → FileOpened cell n → SmallSight (alone_sight cell n w rcnm rcid)
  unfolding alone_sight cell_checked
  alone_small n few so =
      after_small (cell_checked cell w n) (cell_sight cell n rcnm rcid)
      (small_first (small_work w n (omega arith)) (small_filed 1 (cell_fault cell n) (omega arith) (cell_few cell n) (omega arith))) (cell_small n so)

  pair_small : (n m : ℕ) → n ≤ 5242880 → m ≤ 5242880 → FileOpened cell n → FileOpened update m → SmallSight (pair_sight cell n update m w rcnm rcid)
  unfolding pair_sight both_checked
  pair_small n m held come so too =
      after_small (both_checked cell update w n m) (both_sight cell n update m rcnm rcid)
      (small_first (small_work w (n + m) (omega arith))
      (small_first (small_filed 1 (cell_fault cell n) (omega arith) (cell_few cell n) (omega arith))
      (small_filed 2 (update_fault update m) (omega arith) (update_few update m) (omega arith))))
      (both_small n m so too)

  second_small : (n : ℕ) → n ≤ 5242880 → FileOpened cell n → SmallSight (fronted Err (λ (m : ℕ). pair_sight cell n update m w rcnm rcid) (front_of 2 update))
  unfolding fronted sight_answer
  second_small n held so =
      front_cases (λ f. f ≡ front_of 2 update → SmallSight (fronted Err (λ (m : ℕ). pair_sight cell n update m w rcnm rcid) f)) 2 update (omega arith)
      (λ a small e. record { told = small })
      (λ m come e. pair_small n m held come so (counted 2 update (Ok m) m e refl)) refl

  with_small : (n : ℕ) → n ≤ 5242880 → FileOpened cell n → SmallSight (update_sight cell n update w rcnm rcid)
  unfolding update_sight
  with_small n held so = pick (eqb (length update) 0) where
    pick : (b : Bool) → SmallSight (cond b (alone_sight cell n w rcnm rcid) (fronted Err (λ (m : ℕ). pair_sight cell n update m w rcnm rcid) (front_of 2 update)))
    pick true = alone_small n held so
    pick false = second_small n held so

  sight_small : SmallSight (sight_of cell update w rcnm rcid)
  unfolding sight_of fronted sight_answer
  sight_small =
      front_cases (λ f. f ≡ front_of 1 cell → SmallSight (fronted Err (λ (n : ℕ). update_sight cell n update w rcnm rcid) f)) 1 cell (omega arith)
      (λ a small e. record { told = small })
      (λ n held e. with_small n held (counted 1 cell (Ok n) n e refl)) refl

  pub show_small : Small (show_of cell update w rcnm rcid)
  unfolding show_of
  show_small = sight_small.told

  -- "fills a 16-byte answer (code, file, record, number, each 4 bytes, low byte first)"
  pub show_reads : ReadsAs (answer_bytes (show_of cell update w rcnm rcid)) (show_of cell update w rcnm rcid)
  show_reads = bytes_read (show_of cell update w rcnm rcid) show_small
