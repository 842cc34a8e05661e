-- Laws of the items that are seen to have no fault while the notes are put. Assumes nothing.
use Prim.Native.Nat.{ℕ, ◌+◌, ◌^◌, ◌≤◌, ◌<◌}
use mathlib.Core.Bool.{Bool, true}
use mathlib.Core.List.{List}
use mathlib.Core.Logic.{⊎_elim}
use mathlib.Core.Path.{◌≡◌, refl}
use native.Mathlib.Omega.{arith}
use Rattle.words.specs.Words.{words_in, put_at}
use Rattle.items.specs.Item.{Item}
use Rattle.quickvectors.specs.Quick.{NamesIn}
use Rattle.topology.specs.Notes.{SeenTold}
use Rattle.topology.specs.declared.seen.Seen.{Seen}
use Rattle.topology.proofs.BesideLaws.{beside_words}
use Rattle.topology.proofs.SeenLaws.{faultless_code}
use Rattle.merge.specs.Places.{Headed}
use Rattle.merge.specs.declared.walk.At.{At}
use Rattle.merge.proofs.PlacesLaws.{places_start}
use Rattle.resultitems.specs.Result.{object_of}
use Rattle.resultitems.specs.Able.{Laid}
use Rattle.result.specs.Cleared.{NotePut, ClearTo, ClearWith}
use Rattle.result.specs.declared.Clear.{Clear}
use Rattle.result.proofs.FaultLaws.{judged_on}
use Rattle.result.proofs.NotesLaws.{Walked, walked_headed}

-- ---- put_note
pub note_put : (comf : ℕ) (i : Item) (work : List ℕ) (count place : ℕ) (next : List ℕ) (seen : Seen) → SeenTold comf (words_in work 0 count) i seen → seen.note < 2 ^ 64
    → next ≡ put_at work place seen.note → NotePut comf i work count place next seen.clear
note_put comf i work count place next seen told small put = record { put = rw (← told.note) put; small = rw (← told.note) small; clear = told.clear }

-- ---- while the notes are put: c counts items before item i, and if all of them as many changed ones as are behind
pub record Clearing (comf : ℕ) (cell update work : List ℕ) (end count edits i j : ℕ) (c : Clear) : Type 0 where
  pub low : c.items ≤ i
  pub same : c.items ≡ i → c.edits ≡ j
  pub so : ClearTo comf cell update work end count edits c

pub clearing_start : (comf : ℕ) {cell update work : List ℕ} {end count edits : ℕ} (c : Clear) → Laid cell update work end count edits → c.items ≡ 0 → c.edits ≡ 0
    → Clearing comf cell update work end count edits 0 0 c
clearing_start comf {cell} {update} {work} {end} {count} {edits} c laid items changed = record {
  low = omega arith;
  same = λ (e : c.items ≡ 0). changed;
  so = record {
    few = omega arith;
    is = λ (object : ℕ → Bool) (node : ℕ → ℕ → ℕ).
        rw (items, changed) (record {
          is = rw (places_start work end count edits);
          able = rw (places_start work end count edits) laid.able;
          left = omega arith;
        });
  };
}

module _ {cell update work : List ℕ} {end count edits i j : ℕ} {next : List ℕ} (walked : Walked cell update work end count edits i j next)
    (laid : Laid cell update work end count edits) where
  words_same : words_in next 0 count ≡ words_in work 0 count
  words_same = beside_words walked.so.beside 0 count (omega arith)

  pub walked_names : NamesIn next count
  walked_names = record {
    room = let size = walked.so.beside.size in let wide = laid.woof.room in let few = laid.notes in omega arith;
    order = rw words_same laid.order;
  }

  pub clearing_on : {comf : ℕ} {c : Clear} → Clearing comf cell update work end count edits i j c → i < count → {p : At} → Headed next end count edits i j p
      → {place : ℕ} {after : List ℕ} {good : Bool} → NotePut comf (object_of cell update p) next count place after good → (r : Clear)
      → ClearWith c i (i + 1) (j + p.change) good r → Clearing comf cell update work end count edits (i + 1) (j + p.change) r
  clearing_on {comf} {c} clearing more {p} head {place} {after} {good} told r with_it =
      ⊎_elim
      (λ (e : r ≡ c).
      let low = clearing.low in
      rw e (record { low = omega arith; same = λ (f : c.items ≡ i + 1). absurd (omega arith); so = clearing.so }))
      (λ (one : (good ≡ true) × (c.items ≡ i) × (r.items ≡ i + 1) × (r.edits ≡ j + p.change)).
      let items = one.2 in
      let faultless = rw words_same at (told.clear one.0) in
      record {
        low = omega arith;
        same = λ (f : r.items ≡ i + 1). one.3;
        so = record {
          few = omega arith;
          is = λ (object : ℕ → Bool) (node : ℕ → ℕ → ℕ).
              let judged = rw (one.1, clearing.same one.1) at (clearing.so.is object node) in
              rw (one.2, one.3)
              (judged_on judged (walked_headed walked laid more head) 0 (faultless_code comf (words_in work 0 count) object node (object_of cell update p) faultless) refl);
        };
      })
      with_it.is

pub clearing_done : {comf : ℕ} {cell update work : List ℕ} {end count edits i j : ℕ} {c : Clear} → Clearing comf cell update work end count edits i j c
    → ClearTo comf cell update work end count edits c
clearing_done clearing = clearing.so
