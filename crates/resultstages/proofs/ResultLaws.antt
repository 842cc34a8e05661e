-- Laws of the last stages: the result measured and written, judged, woven. Assumes nothing.
use Prim.Native.Nat.{ℕ, ◌-◌, ◌≤◌, ◌<◌}
use mathlib.Core.Bool.{true, false, not}
use mathlib.Core.List.{List, map}
use mathlib.Core.Path.{◌≡◌, sym, ap, ◌∙◌}
use native.Mathlib.Omega.{arith}
use lib.ListN.{length}
use borrow.Author.Tests.{lt-leb, not-true, not-false}
use Rattle.layout.specs.General.{comf_at}
use Rattle.topology.specs.Topology.{topology_of}
use Rattle.held.specs.Chart.{Chart}
use Rattle.held.specs.Held.{held_of}
use Rattle.held.specs.Limits.{record_count, fits}
use Rattle.reissue.specs.Plan.{Planned}
use Rattle.reissue.specs.declared.plan.Plan.{Plan}
use Rattle.merge.specs.Places.{places_of}
use Rattle.merge.specs.declared.walk.At.{At}
use Rattle.verdict.specs.Verdict.{chart_topology}
use Rattle.resultitems.specs.Result.{object_of, result_items}
use Rattle.resultitems.specs.Items.{objects_in}
use Rattle.renewal.specs.Renewed.{revised_header, renewed, Renewing}
use Rattle.resultitems.proofs.AllLaws.{objects_length}
use Rattle.loader.specs.Admit.{held_answer, area_by}
use Rattle.resultstages.specs.Stages.{result_answer, renewed_in, Resulting, Judging}
use Rattle.answers.specs.declared.refusal.Refusal.{Refusal}
use Rattle.answers.specs.Answer.{answer, filed}
use Rattle.answers.specs.declared.answer.Answer.{Answer}
use Rattle.answers.proofs.AnswerLaws.{filed_some, filed_first, filed_on}

-- ---- result_into
module _ (cell update work : List ℕ) (end count edits : ℕ) where
  pub many_fail : 65533 < count → fits (renewed_in cell update work end count edits) ≡ false
  unfolding fits
  many_fail h =
      let long = objects_length cell update work end count edits in
      rw (lt-leb (record_count (renewed_in cell update work end count edits)) 65536 (omega arith))

  pub renewing : Resulting cell update work end count edits → count ≤ 65533 → Renewing cell update work end count edits
  renewing so few = record { front = so.front; items = record { woof = so.woof; few = omega arith; able = so.able } }

module _ (c : Chart) (p : Plan) (told : Planned c p) where
  pub plan_fails : not p.fits ≡ true → fits c ≡ false
  plan_fails h = sym told.fits_is ∙ not-true p.fits h

  pub plan_fits : not p.fits ≡ false → fits c ≡ true
  plan_fits h = sym told.fits_is ∙ not-false p.fits h

  pub plan_total : p.total ≡ length (held_of c)
  plan_total = told.total_is

  pub plan_room : (k : ℕ) → p.total ≤ k → length (held_of c) ≤ k
  plan_room k h = omega (arith, told.total_is)

-- ---- judged_into
module _ (cell : List ℕ) (n : ℕ) (update work : List ℕ) (end count edits : ℕ) (so : Judging cell n update work end count edits) (comf : ℕ) (is : comf ≡ comf_at cell) (r : Refusal)
    (told : r ≡ topology_of comf (result_items cell update work end count edits)) where
  result_topology : r ≡ chart_topology (renewed_in cell update work end count edits)
  unfolding chart_topology objects_in revised_header
  result_topology = told ∙ ap (λ (k : ℕ). topology_of k (result_items cell update work end count edits)) (is ∙ sym so.comf)

  module _ (o : ℕ) (a : Answer) where
    pub judged_refused : (r.code ≡ 0 → ⊥) → a ≡ answer r.code 3 r.index 0 r.offset → a ≡ result_answer o (renewed_in cell update work end count edits)
    unfolding result_answer
    judged_refused ne e = rw (← result_topology) (filed_first 3 r (held_answer o (renewed_in cell update work end count edits)) a ne (filed_some 3 r a ne e))

    module _ (none : r.code ≡ 0) (next : List ℕ) (e : a ≡ held_answer o (renewed_in cell update next end count edits))
        (same : places_of next end count edits ≡ places_of work end count edits) where
      same_chart : renewed_in cell update next end count edits ≡ renewed_in cell update work end count edits
      unfolding objects_in
      same_chart = ap (λ (ps : List At). renewed cell update (map (object_of cell update) ps)) same

      pub judged_on : a ≡ result_answer o (renewed_in cell update work end count edits)
      unfolding result_answer
      judged_on = rw (← result_topology) (filed_on 3 r (held_answer o (renewed_in cell update work end count edits)) a none (e ∙ ap (held_answer o) same_chart))

      pub judged_area : (out after : List ℕ) → after ≡ area_by a (renewed_in cell update next end count edits) out → after ≡ area_by a (renewed_in cell update work end count edits) out
      judged_area out after put = put ∙ ap (λ (c : Chart). area_by a c out) same_chart

pub judging_laid : {cell : List ℕ} {n : ℕ} {update work next : List ℕ} {end count edits : ℕ} → Judging cell n update work end count edits → length next ≡ length work
    → places_of next end count edits ≡ places_of work end count edits → Resulting cell update next end count edits
judging_laid so long same = record {
  front = so.front;
  woof = record { room = let r = so.laid.woof.room in omega arith; few = so.laid.woof.few };
  able = rw same so.laid.able;
}
