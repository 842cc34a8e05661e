-- A readable update's change is good, and its records are as the code that applies them takes them. Assumes nothing.
use Prim.Native.Nat.{ℕ, zero, suc, ◌+◌, ◌-◌, ◌≤◌, ◌<◌}
use mathlib.Core.Bool.{true, false}
use mathlib.Core.List.{List}
use mathlib.Core.Logic.{⊎_elim}
use mathlib.Core.Path.{◌≡◌, refl}
use native.Mathlib.Omega.{arith}
use lib.ListN.{length}
use lib.Dec.{eqb}
use Rattle.std.specs.Prelude.{Ok}
use Rattle.octets.specs.Number.{byte_at}
use Rattle.octets.proofs.Cases.{true_or_false, eq_or_ne}
use Rattle.iso8211.specs.Record.{end_of}
use Rattle.iso8211.specs.File.{frame_of, record_at}
use Rattle.iso8211.proofs.Promise.{record_in, at_next, last_ends}
use Rattle.declarations.specs.Described.{described_of}
use Rattle.layout.specs.Layout.{layout_fault}
use Rattle.layout.specs.Record.{content_at}
use Rattle.fieldvalue.specs.Value.{value_fault}
use Rattle.chart.specs.Read.{next_stage, is_feature, passed_state, first_state, records_fault, read_fault}
use Rattle.chart.specs.declared.read.State.{State}
use Rattle.names.specs.Premises.{Readable}
use Rattle.names.specs.Names.{first_item, twice_of}
use Rattle.reader.proofs.ReaderLaws.{readable}
use Rattle.held.proofs.CellLaws.{told, open_record, stage_late, dsid_told}
use Rattle.changes.specs.Change.{amendment_at, amendments_from, change_of}
use Rattle.changes.specs.Good.{GoodAmendment, AllGood, good_none, good_more}
use Rattle.changes.specs.Told.{Controlled, UpdateTold}
use Rattle.changes.proofs.RecordLaws.{opened_good}
use Rattle.changes.proofs.NameLaws.{names_apart}
use Rattle.changes.proofs.HeaderLaws.{update_known, update_brought}
use Rattle.changes.proofs.ControlLaws.{controlled}
use Rattle.layout.specs.General.{aall_at, nall_at}

-- ---- the records behind the header
module _ (s marks : List ℕ) (n : ℕ) (framed : frame_of s ≡ Ok n) (small : (i : ℕ) → byte_at s i < 256) (aall nall : ℕ) where
  read_from : (m k : ℕ) (st : State) → k + m ≡ n → 2 ≤ st.stage → st.stage ≤ 3 → st.aall ≡ aall → st.nall ≡ nall
      → (records_fault m true marks s k (record_at s k) st).code ≡ 0
      → (j : ℕ) → k ≤ j → j < n → GoodAmendment aall nall (amendment_at s (record_at s j)) × Controlled s (record_at s j)
  unfolding records_fault passed_state
  read_from zero k st all low high ea en fault j from below = absurd (omega arith)
  read_from (suc m) k st all low high ea en fault j from below =
      let at = record_at s k in
      let next = passed_state true s at st in
      let p = told (layout_fault true st.stage marks s at) (value_fault true st.aall st.nall s at) k (records_fault m true marks s (k + 1) (end_of s at) next) fault in
      let o = open_record true st.stage marks aall nall s at (record_in s n k at framed (omega arith) refl) p.0 (rw (ea, en) at p.1) in
      let stage = stage_late true st.stage (is_feature s at) low high in
      ⊎_elim (λ (here : k ≡ j). rw (← here) (opened_good st.stage marks aall nall s at small o low high, controlled true st.stage marks aall nall s at o))
      (λ (later : k ≡ j → ⊥).
      read_from m (k + 1) next (omega arith) stage.0 stage.1 (rw stage.2 ea) (rw stage.2 en) (rw (at_next s k at refl) at p.2) j (omega arith) below)
      (eq_or_ne k j)

  good_from : (m k : ℕ) → k + m ≡ n → 2 ≤ k → ((j : ℕ) → 2 ≤ j → j < n → GoodAmendment aall nall (amendment_at s (record_at s j)))
      → AllGood aall nall (amendments_from m s (record_at s k))
  unfolding amendments_from
  good_from zero k all from each = good_none
  good_from (suc m) k all from each =
      rw (at_next s k (record_at s k) refl) (good_more (each k from (omega arith)) (good_from m (k + 1) (omega arith) (omega arith) each))

-- ---- the update
update_from : (s marks : List ℕ) (n m : ℕ) → frame_of s ≡ Ok n → length s ≤ 5242880 → ((i : ℕ) → byte_at s i < 256) → 1 + m ≡ n → Readable true s n
    → (records_fault m true marks s 1 (record_at s 1) first_state).code ≡ 0 → (twice_of true s n).index ≡ 0
    → UpdateTold s n
unfolding records_fault passed_state next_stage change_of first_item
update_from s marks n zero framed short small all items fault once = absurd (omega arith)
update_from s marks n (suc m) framed short small all items fault once =
    let a = record_at s 1 in
    let s1 = passed_state true s a first_state in
    let less : n - 2 ≡ m = omega arith in
    let p = told (layout_fault true 0 marks s a) (value_fault true 0 0 s a) 1 (records_fault m true marks s 2 (end_of s a) s1) fault in
    let d = dsid_told true marks s a (open_record true 0 marks 0 0 s a (record_in s n 1 a framed (omega arith) refl) p.0 p.1) in
    let each = read_from s marks n framed small (aall_at s a) (nall_at s a) m 2 s1 (omega arith) (omega arith) (omega arith) refl refl (rw (at_next s 1 a refl) at p.2) in
    let c = content_at s a 1 in
    record {
      two = omega arith;
      good = record {
        header = update_brought c d.laid d.fine;
        aall_low = d.aall_low;
        nall_low = d.nall_low;
        records = rw less (good_from s marks n framed small (aall_at s a) (nall_at s a) m 2 (omega arith) (omega arith) (λ j low high. (each j low high).0));
        names = names_apart s n once;
      };
      known = update_known c d.laid d.fine;
      records = λ k low high. record { good = (each k low high).0; laid = (items.items k low high).0; known = (items.items k low high).1; controls = (each k low high).1 };
    }

-- an update without a refusal of codes 1, 2 and 4 to 7
pub update_told : (s : List ℕ) (m : ℕ) → frame_of s ≡ Ok m → length s ≤ 5242880 → ((i : ℕ) → byte_at s i < 256) → (read_fault true s m).code ≡ 0
    → (twice_of true s m).index ≡ 0 → UpdateTold s m
unfolding read_fault
update_told s m framed short small fault once =
    ⊎_elim (λ (e : eqb (length (described_of s)) 0 ≡ true). absurd (let z : ◌≡◌ {A = ℕ} 4 0 = rw e at fault in omega arith))
    (λ (e : eqb (length (described_of s)) 0 ≡ false).
    update_from s (described_of s) m (m - 1) framed short small (let l = (last_ends s m framed).0 in omega arith) (readable true s m framed short fault) (rw e at fault) once)
    (true_or_false (eqb (length (described_of s)) 0))
