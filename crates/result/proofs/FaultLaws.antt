-- Laws of the walk that judges every item, and of the verdict on all. Assumes nothing.
use Prim.Native.Nat.{ℕ, ◌+◌, ◌≤◌}
use mathlib.Core.Bool.{Bool, cond}
use mathlib.Core.List.{List}
use mathlib.Core.Path.{◌≡◌, refl, sym, ap, ◌∙◌}
use native.Mathlib.Omega.{arith}
use lib.Dec.{eqb}
use borrow.Author.Tests.{ne_eqb}
use Rattle.words.specs.Words.{words_in}
use Rattle.items.specs.Item.{Item}
use Rattle.topology.specs.Topology.{fault_from, topology_of}
use Rattle.topology.specs.Notes.{notes_for, noted_code, Beside, Prepared}
use Rattle.topology.proofs.BesideLaws.{beside_words}
use Rattle.topology.proofs.ReachLaws.{code_noted}
use Rattle.merge.specs.Places.{places_from, places_of, Headed}
use Rattle.merge.specs.declared.walk.At.{At}
use Rattle.merge.proofs.PlacesLaws.{places_end}
use Rattle.resultitems.specs.Result.{object_of, items_by, result_items}
use Rattle.resultitems.specs.Able.{Able, Laid}
use Rattle.result.specs.Cleared.{JudgedFrom, ClearTo}
use Rattle.result.specs.declared.Clear.{Clear}
use Rattle.resultitems.proofs.PlacesLaws.{beside_places, beside_all, beside_laid, laid_worded, walk_able, walk_rest}
use Rattle.std.specs.Prelude.{Result, Ok, Err}
use Rattle.answers.specs.Answer.{refusal, outcome}
use Rattle.answers.proofs.OutcomeLaws.{fine_told, some_told}
use Rattle.answers.specs.declared.refusal.Refusal.{Refusal}

module _ {code : Item → ℕ} {cell update work : List ℕ} {end count edits i j : ℕ} (judged : JudgedFrom code cell update work end count edits i j) {p : At}
    (head : Headed work end count edits i j p) where
  pub judged_able : Able cell update p
  judged_able = walk_able head judged.able

  turn : fault_from code 3 (result_items cell update work end count edits)
      ≡ cond (eqb (code (object_of cell update p)) 0) (fault_from code (3 + i + 1) (items_by cell update (places_from work end count edits (i + 1) (j + p.change))))
      (refusal (code (object_of cell update p)) (3 + i) 0)
  unfolding fault_from
  turn = judged.is ∙ rw head.is

  module _ (c : ℕ) (told : c ≡ code (object_of cell update p)) where
    pub judged_found : (r : Refusal) → (c ≡ 0 → ⊥) → r ≡ refusal c (3 + i) 0 → Err r ≡ outcome (fault_from code 3 (result_items cell update work end count edits))
    judged_found r ne e = some_told (e ∙ sym (turn ∙ rw (← told, ne_eqb c 0 ne))) (λ z. ne (sym (ap (λ (q : Refusal). q.code) e) ∙ z))

    pub judged_on : c ≡ 0 → JudgedFrom code cell update work end count edits (i + 1) (j + p.change)
    judged_on e =
        let three : 3 + i + 1 ≡ 3 + (i + 1) = omega arith in
        record { is = turn ∙ rw (← told, e, three); able = walk_rest head judged.able; left = head.left }

pub clear_judged : {comf : ℕ} {cell update work : List ℕ} {end count edits : ℕ} (v : ℕ) {c : Clear} → ClearTo comf cell update work end count edits c
    → JudgedFrom (noted_code comf work count v) cell update work end count edits c.items c.edits
clear_judged v so = so.is _ _

pub judged_done : {code : Item → ℕ} {cell update work : List ℕ} {end count edits i j : ℕ} → JudgedFrom code cell update work end count edits i j → count ≤ i
    → Ok tt ≡ outcome (fault_from code 3 (result_items cell update work end count edits))
unfolding fault_from
judged_done {code} {cell} {update} {work} {end} {count} {edits} {i} {j} judged high =
    fine_told (fault_from code 3 (result_items cell update work end count edits))
    (ap (λ (q : Refusal). q.code) judged.is ∙ rw (places_end work end count edits i j high) refl)

-- ---- the whole: c has the words of a, and their notes
module _ {cell update a : List ℕ} {end count edits : ℕ} (laid : Laid cell update a end count edits) {c : List ℕ} (beside : Beside a count c) where
  pub result_laid : Laid cell update c end count edits
  result_laid = beside_laid end count edits beside laid.notes laid

  pub result_places : places_of c end count edits ≡ places_of a end count edits
  result_places = beside_all end count edits beside laid.notes

  pub result_clear : {comf : ℕ} {k : Clear} → ClearTo comf cell update a end count edits k → ClearTo comf cell update c end count edits k
  result_clear {comf} {k} so = record {
    few = so.few;
    is = λ (object : ℕ → Bool) (node : ℕ → ℕ → ℕ).
        let judged = so.is object node in
        let same = beside_places end count edits beside laid.notes k.items k.edits so.few judged.left in
        record {
          is = rw (beside_words beside 0 count (omega arith), result_places, same) judged.is;
          able = rw same judged.able;
          left = judged.left;
        };
  }

  pub result_topology : {v : ℕ} → Prepared (notes_for (result_items cell update a end count edits)) (words_in a 0 count) count c v → (comf : ℕ) {r : Result Unit Refusal}
      → r ≡ outcome (fault_from (noted_code comf c count v) 3 (result_items cell update c end count edits))
      → r ≡ outcome (topology_of comf (result_items cell update a end count edits))
  unfolding topology_of
  result_topology so comf e = let code = code_noted (laid_worded laid) laid.order so comf in e ∙ ap outcome (rw (← code, result_places))
