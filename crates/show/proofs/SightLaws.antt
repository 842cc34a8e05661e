-- Laws of what is seen: of a file by its words, of two files in order; and a part that is shown lies in its file. Assumes nothing.
use Prim.Native.Nat.{ℕ, ◌+◌, ◌-◌, ◌*◌, ◌≤◌, ◌<◌}
use mathlib.Core.Bool.{Bool, true, false}
use mathlib.Core.List.{List, []}
use mathlib.Core.Logic.{⊎_elim}
use mathlib.Core.Path.{◌≡◌, refl, sym, ap, ◌∙◌}
use native.Mathlib.Omega.{arith}
use lib.ListN.{length, take, drop}
use lib.Dec.{eqb}
use borrow.Author.Tests.{eqb-false}
use Rattle.std.specs.Prelude.{Option, Some, None, Ok, Result, Err}
use Rattle.octets.specs.Number.{byte_at}
use Rattle.octets.proofs.Cases.{true_or_false}
use Rattle.iso8211.specs.Leader.{size_at}
use Rattle.iso8211.specs.Record.{end_of}
use Rattle.iso8211.specs.Premises.{FramedAt}
use Rattle.iso8211.specs.File.{frame_of}
use Rattle.iso8211.proofs.Promise.{framed_at}
use Rattle.words.specs.Words.{words_in}
use Rattle.words.specs.Order.{Sorted}
use Rattle.words.proofs.OrderLaws.{sorted_in_order}
use Rattle.names.specs.NameWords.{name_words}
use Rattle.names.specs.Names.{first_item}
use Rattle.reader.specs.Reader.{front_of, cell_checked, both_checked, fronted}
use Rattle.readboth.proofs.CallLaws.{counted, front_refused}
use Rattle.shownames.specs.Named.{named_in}
use Rattle.show.specs.Show.{span_of, found_sight, absent, cell_sight, both_sight, after_reading, alone_sight, pair_sight, update_sight, sight_of, sight_answer, bytes_of_span, sight_bytes}
use Rattle.show.specs.Listed.{Listed, BothListed, SpanIn, SightIn}
use Rattle.shownames.specs.Premises.{place_named}
use Rattle.show.specs.declared.span.Span.{Span}
use Rattle.shownames.proofs.NamedLaws.{place_named_lem, named_record}
use Rattle.answers.specs.Answer.{answer}
use Rattle.reader.specs.Lent.{FileOpened}
use Rattle.answers.specs.declared.answer.Answer.{Answer}

-- ---- a span
pub span_told : (update : Bool) (s : List ℕ) (at e : ℕ) → e ≡ end_of s at → ◌≡◌ {A = Span} (record { update = update; from = at; size = e - at }) (span_of update s at)
unfolding span_of
span_told update s at e is = let size : e - at ≡ size_at s at = omega arith in rw size

pub part_same : (f : List ℕ) (from size : ℕ) → take (from + size - from) (drop from f) ≡ take size (drop from f)
part_same f from size = let e : from + size - from ≡ size = omega arith in rw e

module _ (cell update : List ℕ) (span : Span) where
  pub update_inside : span.update ≡ true → SpanIn cell update span → span.from + span.size ≤ length update
  update_inside t so = rw t at so.inside

  pub cell_inside : span.update ≡ false → SpanIn cell update span → span.from + span.size ≤ length cell
  cell_inside f so = rw f at so.inside

  pub update_lent : (r : List ℕ) → span.update ≡ true → r ≡ take span.size (drop span.from update) → r ≡ bytes_of_span cell update span
  unfolding bytes_of_span
  update_lent r t e = e ∙ rw t

  pub cell_lent : (r : List ℕ) → span.update ≡ false → r ≡ take span.size (drop span.from cell) → r ≡ bytes_of_span cell update span
  unfolding bytes_of_span
  cell_lent r f e = e ∙ rw f

-- ---- the answer and the part of what is seen
pub shown_answer : (sight : Result Span Answer) (span : Span) (a : Answer) → sight ≡ Ok span → a ≡ answer 0 0 0 span.size 0 → a ≡ sight_answer sight
unfolding sight_answer
shown_answer sight span a told e = e ∙ rw told

pub denied_answer : (sight : Result Span Answer) (a : Answer) → sight ≡ Err a → a ≡ sight_answer sight
unfolding sight_answer
denied_answer sight a told = rw told

pub shown_part_lem : (cell update : List ℕ) (sight : Result Span Answer) (span : Span) (r : List ℕ) → sight ≡ Ok span → r ≡ bytes_of_span cell update span
    → r ≡ sight_bytes cell update sight
unfolding sight_bytes
shown_part_lem cell update sight span r told e = e ∙ rw told

pub denied_part : (cell update : List ℕ) (sight : Result Span Answer) (a : Answer) (r : List ℕ) → sight ≡ Err a → r ≡ [] → r ≡ sight_bytes cell update sight
unfolding sight_bytes
denied_part cell update sight a r told e = e ∙ rw told

pub shown_in : (cell update : List ℕ) (sight : Result Span Answer) (span : Span) → SightIn cell update sight → sight ≡ Ok span → SpanIn cell update span
shown_in cell update sight span so told = so.each span told

-- ---- by the words of a file
module _ {update : Bool} {s work : List ℕ} {n from : ℕ} (l : Listed update s n work from) where
  listed_sorted : Sorted (words_in work from (n - first_item update))
  listed_sorted = rw l.words (sorted_in_order (name_words update s n))

  listed_found : ((i : ℕ) → byte_at s i < 256) → (rcnm rcid : ℕ) → rcid < 4294967296 → place_named (words_in work from (n - first_item update)) rcnm rcid ≡ named_in update s n rcnm rcid
  listed_found bytes rcnm rcid small = rw l.words (place_named_lem l.good l.once bytes rcnm rcid small)

  listed_head : first_item update ≤ n
  listed_head = l.good.head

-- where a record is found its framing is good
found_framed : (update : Bool) (s : List ℕ) (n p rcnm rcid : ℕ) → frame_of s ≡ Ok n → named_in update s n rcnm rcid ≡ Some p → FramedAt s p
found_framed update s n p rcnm rcid framed told = let r = named_record update s n p rcnm rcid told in framed_at s n r.0 p framed r.2 r.3

-- ---- cell_sight
module _ {cell work : List ℕ} {n from : ℕ} (l : Listed false cell n work from) where
  pub cell_three : 3 ≤ n
  unfolding first_item
  cell_three = listed_head l

  pub cell_room : 8 * (from + (n - 3)) ≤ length work
  unfolding first_item
  cell_room = l.room

  pub cell_sorted : Sorted (words_in work from (n - 3))
  unfolding first_item
  cell_sorted = listed_sorted l

  module _ (rcnm rcid : ℕ) (r : Option ℕ) (is : r ≡ place_named (words_in work from (n - 3)) rcnm rcid) (small : rcid < 4294967296) (bytes : (i : ℕ) → byte_at cell i < 256) where
    cell_found : r ≡ named_in false cell n rcnm rcid
    unfolding first_item
    cell_found = is ∙ listed_found l bytes rcnm rcid small

    pub cell_absent : (a : Answer) → r ≡ None → a ≡ answer 22 0 0 0 0 → Err a ≡ cell_sight cell n rcnm rcid
    unfolding cell_sight found_sight absent
    cell_absent a none e = rw (← cell_found, none, e)

    pub cell_framed : (p : ℕ) → r ≡ Some p → FramedAt cell p
    cell_framed p told = found_framed false cell n p rcnm rcid l.good.framed (sym cell_found ∙ told)

    pub cell_shown : (p : ℕ) (span : Span) → r ≡ Some p → span ≡ span_of false cell p → Ok span ≡ cell_sight cell n rcnm rcid
    unfolding cell_sight found_sight
    cell_shown p span told e = rw (← cell_found, told, e)

-- ---- both_sight
module _ {cell update work : List ℕ} {n m : ℕ} (l : BothListed cell n update m work) where
  pub both_three : 3 ≤ n
  both_three = cell_three l.held

  pub both_two : 2 ≤ m
  unfolding first_item
  both_two = listed_head l.come

  pub both_room : 8 * (n - 3 + (m - 2) + (n - 3) + (m - 2)) ≤ length work
  unfolding first_item
  both_room = l.come.room

  pub both_sorted : Sorted (words_in work (n - 3 + (m - 2) + (n - 3)) (m - 2))
  unfolding first_item
  both_sorted = listed_sorted l.come

  module _ (rcnm rcid : ℕ) (r : Option ℕ) (is : r ≡ place_named (words_in work (n - 3 + (m - 2) + (n - 3)) (m - 2)) rcnm rcid) (small : rcid < 4294967296)
      (bytes : (i : ℕ) → byte_at update i < 256) where
    update_found : r ≡ named_in true update m rcnm rcid
    unfolding first_item
    update_found = is ∙ listed_found l.come bytes rcnm rcid small

    pub update_absent : (t : Result Span Answer) → r ≡ None → t ≡ cell_sight cell n rcnm rcid → t ≡ both_sight cell n update m rcnm rcid
    unfolding both_sight found_sight
    update_absent t none e = rw (← update_found, none) e

    pub update_framed : (p : ℕ) → r ≡ Some p → FramedAt update p
    update_framed p told = found_framed true update m p rcnm rcid l.come.good.framed (sym update_found ∙ told)

    pub update_shown : (p : ℕ) (span : Span) → r ≡ Some p → span ≡ span_of true update p → Ok span ≡ both_sight cell n update m rcnm rcid
    unfolding both_sight found_sight
    update_shown p span told e = rw (← update_found, told, e)

-- ---- what is shown lies in its file, whatever was given, and a refusal has a code
module _ (cell update : List ℕ) where
  denied_in : (a : Answer) → (a.code ≡ 0 → ⊥) → SightIn cell update (Err a)
  denied_in a some = record {
    each = λ span e. absurd (let z : ◌≡◌ {A = ℕ} 0 1 = cc in omega arith);
    refused = λ b e z. let same : a ≡ b = cc in some (ap (λ (q : Answer). q.code) same ∙ z);
  }

  span_in : (span : Span) → SpanIn cell update span → SightIn cell update (Ok span)
  span_in span so = record {
    each = λ other e. let same : span ≡ other = cc in rw same at so;
    refused = λ a e z. let y : ◌≡◌ {A = ℕ} 0 1 = cc in omega arith;
  }

  found_in : (u : Bool) (s : List ℕ) (r : Option ℕ) (on : Result Span Answer) → ((p : ℕ) → r ≡ Some p → SpanIn cell update (span_of u s p)) → SightIn cell update on
      → SightIn cell update (found_sight u s r on)
  unfolding found_sight
  found_in u s (Some p) on there rest = span_in (span_of u s p) (there p refl)
  found_in u s None on there rest = rest

  after_in : (a : Answer) (on : Result Span Answer) → SightIn cell update on → SightIn cell update (after_reading a on)
  unfolding after_reading
  after_in a on so =
      ⊎_elim (λ (t : eqb a.code 0 ≡ true). rw t so) (λ (f : eqb a.code 0 ≡ false). rw f (denied_in a (eqb-false a.code 0 f))) (true_or_false (eqb a.code 0))

  cell_span : (n p rcnm rcid : ℕ) → FileOpened cell n → named_in false cell n rcnm rcid ≡ Some p → SpanIn cell update (span_of false cell p)
  unfolding span_of
  cell_span n p rcnm rcid so told = record { inside = (found_framed false cell n p rcnm rcid so.framed told).fits }

  update_span : (m p rcnm rcid : ℕ) → FileOpened update m → named_in true update m rcnm rcid ≡ Some p → SpanIn cell update (span_of true update p)
  unfolding span_of
  update_span m p rcnm rcid so told = record { inside = (found_framed true update m p rcnm rcid so.framed told).fits }

  module _ (w rcnm rcid : ℕ) where
    cell_in : (n : ℕ) → FileOpened cell n → SightIn cell update (cell_sight cell n rcnm rcid)
    unfolding cell_sight absent
    cell_in n so = found_in false cell (named_in false cell n rcnm rcid) absent (λ p told. cell_span n p rcnm rcid so told) (denied_in (answer 22 0 0 0 0) (λ z. omega arith))

    both_in : (n m : ℕ) → FileOpened cell n → FileOpened update m → SightIn cell update (both_sight cell n update m rcnm rcid)
    unfolding both_sight
    both_in n m so too = found_in true update (named_in true update m rcnm rcid) (cell_sight cell n rcnm rcid) (λ p told. update_span m p rcnm rcid too told) (cell_in n so)

    second_in : (n : ℕ) (f : Result ℕ Answer) → f ≡ front_of 2 update → FileOpened cell n → SightIn cell update (fronted Err (λ (m : ℕ). pair_sight cell n update m w rcnm rcid) f)
    unfolding fronted pair_sight
    second_in n (Ok m) e so =
        after_in (both_checked cell update w n m) (both_sight cell n update m rcnm rcid) (both_in n m so (counted 2 update (Ok m) m e refl))
    second_in n (Err a) e so = denied_in a (front_refused 2 update a (sym e))

    with_in : (n : ℕ) → FileOpened cell n → SightIn cell update (update_sight cell n update w rcnm rcid)
    unfolding update_sight alone_sight
    with_in n so =
        ⊎_elim (λ (t : eqb (length update) 0 ≡ true). rw t (after_in (cell_checked cell w n) (cell_sight cell n rcnm rcid) (cell_in n so)))
        (λ (f : eqb (length update) 0 ≡ false). rw f (second_in n (front_of 2 update) refl so)) (true_or_false (eqb (length update) 0))

    first_in : (f : Result ℕ Answer) → f ≡ front_of 1 cell → SightIn cell update (fronted Err (λ (n : ℕ). update_sight cell n update w rcnm rcid) f)
    unfolding fronted
    first_in (Ok n) e = with_in n (counted 1 cell (Ok n) n e refl)
    first_in (Err a) e = denied_in a (front_refused 1 cell a (sym e))

    pub sight_in : (sight : Result Span Answer) → sight ≡ sight_of cell update w rcnm rcid → SightIn cell update sight
    unfolding sight_of
    sight_in sight e = rw e (first_in (front_of 1 cell) refl)
