-- Laws of a file's front: the answers, and the records that are known to be good. Assumes nothing.
use Prim.Native.Nat.{ℕ, suc, ◌+◌, ◌-◌, ◌≤◌, ◌<◌}
use mathlib.Core.Bool.{Bool, true, false}
use mathlib.Core.List.{List}
use mathlib.Core.Path.{◌≡◌, refl, sym, ◌∙◌}
use native.Mathlib.Omega.{arith}
use lib.ListN.{length}
use lib.Dec.{eqb}
use borrow.Author.Tests.{ne_eqb, lt-ltb, le-ltb}
use Rattle.std.specs.Prelude.{Result, Ok, Err, Some, None}
use Rattle.octets.specs.Place.{some_place}
use Rattle.octets.proofs.PlaceLaws.{somewhere}
use Rattle.iso8211.specs.Record.{record_good, end_of}
use Rattle.iso8211.specs.Premises.{good_end}
use Rattle.iso8211.specs.File.{framed_from, frame_of, record_at}
use Rattle.iso8211.proofs.RecordLaws.{record_framed}
use Rattle.iso8211.proofs.FileLaws.{end_past, end_some, frame_start, frame_broken, frame_done, frame_on}
use Rattle.iso8211.proofs.Promise.{at_start, at_on}
use Rattle.answers.specs.Answer.{answer}
use Rattle.reader.specs.Lent.{StartedAt, StartTold, FramedTo}
use Rattle.reader.specs.Reader.{framed_front, front_of}
use Rattle.answers.specs.declared.answer.Answer.{Answer}

-- ---- what an end tells of its record
good_end_is : (first : Bool) (s : List ℕ) (at e : ℕ) → record_good first s at ≡ true → e ≡ end_of s at → Some e ≡ some_place (good_end first s at)
unfolding good_end
good_end_is first s at e good is =
    let past = end_past first s at good in
    let there : e ≡ good_end first s at = is ∙ rw good in
    somewhere _ there (λ (z : e ≡ 0). omega arith)

-- ---- the answers
pub front_long : (file : ℕ) (s : List ℕ) (a : Answer) → 5242880 < length s → a ≡ answer 1 file 0 0 0 → Err a ≡ front_of file s
unfolding front_of
front_long file s a h e = rw (lt-ltb _ _ h, e)

module _ (file : ℕ) (s : List ℕ) (r : Result ℕ ℕ) (few : length s ≤ 5242880) (is : r ≡ frame_of s) where
  pub front_count : (n : ℕ) → r ≡ Ok n → Ok n ≡ front_of file s
  unfolding front_of framed_front
  front_count n told = rw (le-ltb 5242880 (length s) few, ← is, told)

  front_broken : (k p : ℕ) (a : Answer) → r ≡ Err k → p ≡ record_at s k → a ≡ answer 2 file k 0 p → Err a ≡ front_of file s
  unfolding front_of framed_front
  front_broken k p a told at e = rw (le-ltb 5242880 (length s) few, ← is, told, e, at)

-- ---- started
pub start_refused : (file : ℕ) (s : List ℕ) (a : Answer) → Err a ≡ front_of file s → StartTold file s (Err a)
start_refused file s a is = record {
  starts = λ x e. absurd (let z : ◌≡◌ {A = ℕ} 0 1 = cc in omega arith);
  refused = λ b e. let same : a ≡ b = cc in rw (← same) (sym is);
}

pub start_long : (file : ℕ) (s : List ℕ) (a : Answer) → 5242880 < length s → a ≡ answer 1 file 0 0 0 → StartTold file s (Err a)
start_long file s a h e = start_refused file s a (front_long file s a h e)

module _ (file : ℕ) (s : List ℕ) (short : length s ≤ 5242880) where
  pub start_broken : (a : Answer) → None ≡ some_place (good_end true s 0) → a ≡ answer 2 file 0 0 0 → StartTold file s (Err a)
  start_broken a none e =
      let broken : Err 0 ≡ frame_of s = frame_broken s 0 0 (frame_start s) none in
      start_refused file s a (front_broken file s (frame_of s) short refl 0 0 a (sym broken) (at_start s) e)

  pub start_found : (end : ℕ) → Some end ≡ some_place (good_end true s 0) → StartTold file s (Ok end)
  start_found end is =
      let g = end_some true s 0 end is in
      record {
        starts = λ x e. let same : end ≡ x = cc in rw (← same) (record { short = short; good = g.0; ends = g.1 });
        refused = λ b e. absurd (let z : ◌≡◌ {A = ℕ} 0 1 = cc in omega arith);
      }

-- ---- records that are known to be good
framed_on : (s : List ℕ) (at k e : ℕ) → frame_of s ≡ framed_from (suc (length s - k)) s at k → record_good (eqb k 0) s at ≡ true → at ≡ record_at s k → e ≡ end_of s at
    → k ≤ at → e ≤ length s → FramedTo s (k + 1) e
framed_on s at k e so good place is low most =
    let ends = good_end_is (eqb k 0) s at e good is in
    let past = end_past (eqb k 0) s at good in
    record {
      low = omega arith;
      below = omega arith;
      fits = most;
      place = at_on s k at e place is;
      done = λ d. sym (frame_done s at k so e ends d);
      more = λ m. frame_on s at k so e ends m low most;
    }

pub framed_start : {s : List ℕ} {x : ℕ} → StartedAt s x → FramedTo s 1 x
framed_start {s} {x} so =
    let end = so.ends in
    let fits = (record_framed true s 0 so.good).fits in
    framed_on s 0 0 x (frame_start s) so.good (at_start s) end (omega arith) (omega arith)

module _ {s : List ℕ} {k at : ℕ} (so : FramedTo s k at) (inside : at < length s) where
  later : eqb k 0 ≡ false
  later = let low = so.low in ne_eqb k 0 (λ (z : k ≡ 0). omega arith)

  from_here : frame_of s ≡ framed_from (suc (length s - k)) s at k
  from_here = so.more (λ (e : at ≡ length s). omega arith)

  pub framed_next : (e : ℕ) → record_good false s at ≡ true → e ≡ end_of s at → e ≤ length s → FramedTo s (k + 1) e
  framed_next e good is most = framed_on s at k e from_here (rw later good) so.place is so.below most

  pub opened_broken : (file : ℕ) (a : Answer) → length s ≤ 5242880 → None ≡ some_place (good_end false s at) → a ≡ answer 2 file k 0 at → Err a ≡ front_of file s
  opened_broken file a short none told =
      let broken : Err k ≡ frame_of s = frame_broken s at k from_here (rw later none) in
      front_broken file s (frame_of s) short refl k at a (sym broken) so.place told

  module _ (e : ℕ) (is : Some e ≡ some_place (good_end false s at)) where
    pub opened_past : at < e
    opened_past = let g = end_some false s at e is in let past = end_past false s at g.0 in let end = g.1 in omega arith

    pub opened_next : e ≤ length s → FramedTo s (k + 1) e
    opened_next most = let g = end_some false s at e is in framed_next e g.0 g.1 most

pub opened_all : {s : List ℕ} {k at : ℕ} (file : ℕ) → FramedTo s k at → length s ≤ at → length s ≤ 5242880 → Ok k ≡ front_of file s
opened_all {s} {k} {at} file so all short = let fits = so.fits in front_count file s (frame_of s) short refl k (so.done (omega arith))

-- ---- opened
module _ {file : ℕ} {s : List ℕ} (r : Result ℕ Answer) (told : StartTold file s r) where
  pub start_framed : (x : ℕ) → r ≡ Ok x → FramedTo s 1 x × (length s ≤ 5242880)
  start_framed x e = (framed_start (told.starts x e), (told.starts x e).short)

  pub start_answer : (a : Answer) → r ≡ Err a → Err a ≡ front_of file s
  start_answer a e = sym (told.refused a e)
