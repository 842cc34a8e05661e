-- Laws of the stages from code 9 to the weaving. Assumes nothing.
use Prim.Native.Nat.{ℕ, ◌+◌, ◌-◌, ◌*◌, ◌≤◌}
use mathlib.Core.Bool.{true, false}
use mathlib.Core.List.{List}
use mathlib.Core.Logic.{⊎_elim}
use mathlib.Core.Path.{◌≡◌, refl, sym, ap, ◌∙◌}
use native.Mathlib.Omega.{arith}
use lib.ListN.{length, length-replicate, replicate}
use lib.Dec.{eqb}
use borrow.Author.Tests.{eq-eqb, ne_eqb, eqb-true}
use Rattle.octets.proofs.Cases.{true_or_false}
use Rattle.iso8211.specs.File.{record_at}
use Rattle.words.specs.Words.{words_in}
use Rattle.words.specs.Order.{sorted}
use Rattle.names.specs.NameWords.{name_words, items_at}
use Rattle.items.specs.Item.{Item}
use Rattle.held.specs.Chart.{Chart, header_of, chart_of}
use Rattle.merge.specs.Places.{places_of}
use Rattle.merge.specs.Woven.{Warp, Wove}
use Rattle.merge.specs.Files.{Brought}
use Rattle.merge.specs.declared.weave.Woven.{Woven}
use Rattle.merge.proofs.FilesLaws.{brought_warp, brought_sited}
use Rattle.labelled.proofs.TableLaws.{blank_zeros}
use Rattle.changes.specs.Change.{change_of}
use Rattle.changes.specs.Follow.{follow_code}
use Rattle.changes.specs.Amend.{amendments_fault, change_fault, placed_in}
use Rattle.changes.specs.Updated.{updated_header, updated}
use Rattle.amendments.specs.Amendable.{AllAmendable}
use Rattle.amendments.proofs.AmendableLaws.{all_amendable}
use Rattle.resultitems.specs.Able.{Rooms}
use Rattle.resultitems.specs.Items.{objects_in}
use Rattle.renewal.specs.Renewed.{revised_header, renewed}
use Rattle.revision.specs.Following.{Following}
use Rattle.revision.proofs.FollowingLaws.{cell_readable, update_readable, cell_once, update_once, cell_known, update_known}
use Rattle.revision.proofs.AbleLaws.{all_able, once_places}
use Rattle.revision.proofs.ObjectsLaws.{held_objects, result_objects, result_insert}
use Rattle.loader.specs.Apply.{result_of}
use Rattle.resultstages.specs.Stages.{result_answer, amended_answer, renewed_in, Judging, Amending, Merging, BothReady, change_answer}
use Rattle.resultstages.proofs.FrontLaws.{cell_three, update_two, dspm_here, comf_here, front_here}
use Rattle.answers.specs.Answer.{refusal, answer, filed}
use Rattle.answers.specs.declared.refusal.Refusal.{Refusal}
use Rattle.answers.specs.declared.answer.Answer.{Answer}
use Rattle.loader.specs.Admit.{area_by}
use Rattle.answers.specs.First.{first_by}
use Rattle.answers.proofs.AnswerLaws.{filed_some, filed_first, filed_on}

-- ---- the areas in which a changed record is built
rooms_of : (a b c : ℕ) (join table room : List ℕ) → 199998 ≤ a → b ≡ 65536 → 200500 ≤ c → join ≡ replicate a 0 → table ≡ replicate b 0 → room ≡ replicate c 0
    → Rooms join table room
rooms_of a b c join table room wide is long p q r = record {
  areas = record { wide = omega (arith, ap length p ∙ length-replicate a 0); zero = rw q (blank_zeros b is) };
  long = omega (arith, ap length r ∙ length-replicate c 0);
}

pub rooms_made : {join table room : List ℕ} → join ≡ replicate 199998 0 → table ≡ replicate 65536 0 → room ≡ replicate 200500 0 → Rooms join table room
rooms_made {join} {table} {room} p q r = rooms_of 199998 65536 200500 join table room (omega arith) refl (omega arith) p q r

pub rooms_few : {join table room : List ℕ} → Rooms join table room → 199999 ≤ length room
rooms_few so = let long = so.long in omega arith

-- ---- before 13 to 16
module _ {cell : List ℕ} {n : ℕ} {update : List ℕ} {m : ℕ} {work : List ℕ} (so : Amending cell n update m work) where
  pub amending_three : 3 ≤ n
  amending_three = cell_three so.both

  pub amending_two : 2 ≤ m
  amending_two = update_two so.both

  following : Following cell n update m
  following = record {
    held = so.both.held;
    come = so.both.come;
    cell_fine = so.both.cell_fine;
    update_fine = so.both.update_fine;
    follows = so.follows;
  }

  brought : Brought cell n update m work
  brought =
      let room = so.both.room in
      record {
        cell_read = cell_readable following;
        cell_once = cell_once following;
        update_read = update_readable following;
        update_once = update_once following;
        room = omega arith;
        held = so.both.words.held;
        come = so.both.words.come;
      }

  module _ (held half : ℕ) (is : held ≡ n - 3) (at : half ≡ held + (m - 2)) where
    held_words : words_in work half held ≡ sorted (name_words false cell n)
    held_words = rw (at, is) so.both.words.held

    pub amending_room : 8 * (half + held) ≤ length work
    amending_room = let room = so.both.room in let three = amending_three in let two = amending_two in omega arith

    pub amending_all : AllAmendable cell (words_in work half held) update m
    amending_all =
        all_amendable (cell_readable following) (cell_known following so.both.small) so.both.small.old so.both.come.framed (update_known following so.both.small)
        so.both.small.new (words_in work half held) held_words

    module _ (r : Refusal) (told : r ≡ placed_in update (amendments_fault (items_at cell (words_in work half held)) 2 (change_of update m).amendments)) where
      by_chart : r ≡ placed_in update (amendments_fault (chart_of cell n).items 2 (change_of update m).amendments)
      by_chart =
          told ∙ ap (λ (os : List Item). placed_in update (amendments_fault os 2 (change_of update m).amendments))
          (ap (items_at cell) held_words ∙ held_objects following so.both.small)

      pub amended_refused : (o : ℕ) (a : Answer) → (r.code ≡ 0 → ⊥) → a ≡ answer r.code 2 r.index 0 r.offset → a ≡ amended_answer cell n update m o
      unfolding amended_answer
      amended_refused o a ne e = rw (← by_chart) (filed_first 2 r (result_answer o (result_of cell n update m)) a ne (filed_some 2 r a ne e))

      pub amended_on : (o : ℕ) (a : Answer) → r.code ≡ 0 → a ≡ result_answer o (result_of cell n update m) → a ≡ amended_answer cell n update m o
      unfolding amended_answer
      amended_on o a none e = rw (← by_chart) (filed_on 2 r (result_answer o (result_of cell n update m)) a none e)

      placed_none : (q : Refusal) → (placed_in update q).code ≡ 0 → q.code ≡ 0
      unfolding placed_in
      placed_none q h =
          ⊎_elim (λ (t : eqb q.code 0 ≡ true). eqb-true _ _ t) (λ (f : eqb q.code 0 ≡ false). rw f at h) (true_or_false (eqb q.code 0))

      pub amended_merging : r.code ≡ 0 → Merging cell n update m work
      amended_merging none = record {
        next = so;
        none = rw held_words at (placed_none _ (ap (λ (x : Refusal). x.code) (sym told) ∙ none));
      }

-- ---- merged
module _ {cell : List ℕ} {n : ℕ} {update : List ℕ} {m : ℕ} {work : List ℕ} (so : Merging cell n update m work) where
  pub merging_three : 3 ≤ n
  merging_three = amending_three so.next

  pub merging_two : 2 ≤ m
  merging_two = amending_two so.next

  module _ (i j : ℕ) (e : i ≡ n - 3) (g : j ≡ m - 2) where
    pub merging_warp : Warp update work i j
    merging_warp = brought_warp (brought so.next) i j e g

    module _ {next : List ℕ} {r : Woven} (wove : Wove update work i j next r) (end : ℕ) (is : end ≡ 2 * (i + j)) where
      pub merging_judging : Judging cell n update next end r.count r.edits
      merging_judging =
          let f = following so.next in
          let b = so.next.both in
          rw is (record {
            framed = b.held.framed;
            three = cell_three b;
            dspm = dspm_here b;
            comf = comf_here b;
            front = front_here b;
            laid = record {
              woof = wove.woof;
              notes = wove.notes;
              order = wove.order;
              able =
                  all_able f b.small so.none (places_of next (2 * (i + j)) r.count r.edits) (brought_sited (brought so.next) i j e g wove)
                  (result_insert f b.small so.none (brought so.next) i j e g wove) (once_places next (2 * (i + j)) r.count r.edits);
            };
          })

      merging_result : renewed_in cell update next end r.count r.edits ≡ result_of cell n update m
      unfolding objects_in revised_header updated updated_header chart_of change_of
      merging_result =
          rw is
          (ap (λ (os : List Item). renewed cell update os) (result_objects (following so.next) so.next.both.small so.none (brought so.next) i j e g wove))

      pub merged_answer : (o : ℕ) (a : Answer) → a ≡ result_answer o (renewed_in cell update next end r.count r.edits) → a ≡ result_answer o (result_of cell n update m)
      merged_answer o a told = told ∙ ap (result_answer o) merging_result

      pub merged_area : (out after : List ℕ) (a : Answer) → after ≡ area_by a (renewed_in cell update next end r.count r.edits) out
          → after ≡ area_by a (result_of cell n update m) out
      merged_area out after a told = told ∙ ap (λ (c : Chart). area_by a c out) merging_result

-- ---- changed
module _ (cell : List ℕ) (n : ℕ) (update : List ℕ) (m o k : ℕ) (is : k ≡ follow_code (header_of cell) (change_of update m)) (a : Answer) where
  change_refused : (k ≡ 0 → ⊥) → placed_in update (change_fault (chart_of cell n) (change_of update m)) ≡ refusal k 1 (record_at update 1)
  unfolding change_fault chart_of placed_in first_by
  change_refused ne = rw (← is, ne_eqb k 0 ne, ne_eqb k 0 ne)

  pub changed_refused : (r : Refusal) (p : ℕ) → (k ≡ 0 → ⊥) → p ≡ record_at update 1 → r ≡ refusal k 1 p → a ≡ answer r.code 2 r.index 0 r.offset → a ≡ change_answer cell n update m o
  unfolding change_answer
  changed_refused r p ne at e told =
      let same : placed_in update (change_fault (chart_of cell n) (change_of update m)) ≡ r = change_refused ne ∙ sym (e ∙ ap (refusal k 1) at) in
      let some : r.code ≡ 0 → ⊥ = λ (z : r.code ≡ 0). ne (ap (λ (x : Refusal). x.code) (sym e) ∙ z) in
      rw same (filed_first 2 r _ a some (filed_some 2 r a some told))

  pub changed_on : k ≡ 0 → a ≡ amended_answer cell n update m o → a ≡ change_answer cell n update m o
  unfolding change_answer amended_answer change_fault chart_of first_by
  changed_on none told = told ∙ rw (← is, eq-eqb k 0 none)

pub refused_kept : (k i p : ℕ) (r : Refusal) (a : Answer) → (k ≡ 0 → ⊥) → r ≡ refusal k i p → a ≡ answer r.code 2 r.index 0 r.offset → a.code ≡ 0 → ⊥
refused_kept k i p r a ne e told z = ne (ap (λ (x : Refusal). x.code) (sym e) ∙ ap (λ (x : Answer). x.code) (sym told) ∙ z)

pub amending : {cell : List ℕ} {n : ℕ} {update : List ℕ} {m : ℕ} {work : List ℕ} (k : ℕ) → BothReady cell n update m work → k ≡ follow_code (header_of cell) (change_of update m)
    → k ≡ 0
    → Amending cell n update m work
amending k b is none = record { both = b; follows = sym is ∙ none }
