-- Laws of what is kept of a record: its word, and the state behind it. Assumes nothing.
use Prim.Native.Nat.{ℕ, ◌+◌, ◌-◌, ◌*◌, ◌^◌, ◌≤◌, ◌<◌}
use mathlib.Core.Bool.{Bool, true, false}
use mathlib.Core.List.{List}
use mathlib.Core.Path.{◌≡◌, refl, sym, ap, ◌∙◌}
use native.Mathlib.Omega.{arith}
use lib.ListN.{length}
use borrow.Author.Tests.{eq-eqb, ne_eqb}
use Rattle.iso8211.specs.File.{record_at}
use Rattle.words.specs.Words.{put_at}
use Rattle.layout.specs.General.{aall_at, nall_at}
use Rattle.layout.specs.Record.{kind_at}
use Rattle.octets.specs.Premises.{Reads}
use Rattle.items.specs.Identity.{id_at, rcnm_at, word_for}
use Rattle.items.specs.Premises.{Identified}
use Rattle.items.proofs.IdentityLaws.{rcnm_read, objl_read}
use Rattle.counted.specs.Tallies.{with_vector, with_feature, with_record}
use Rattle.counted.specs.declared.counts.Tally.{Tally}
use Rattle.counted.proofs.CountsLaws.{records_grow, add_feature_told, add_vector_told}
use Rattle.chart.specs.Read.{next_stage, is_feature, passed_state}
use Rattle.chart.specs.declared.read.State.{State}
use Rattle.names.proofs.NamesLaws.{from_grow}
use Rattle.names.proofs.CollectLaws.{holds_grow}
use Rattle.readonce.specs.Once.{Kept, Counted, no_tally}

-- ---- keep
module _ (s : List ℕ) (at k first : ℕ) (before : List ℕ) where
  pub kept_early : k < first → Kept s at k first before before true
  kept_early h = record {
    grown = λ e p a held.
        let now : k - first ≡ 0 = omega arith in
        let next : k + 1 - first ≡ 0 = omega arith in
        rw next (rw now at held);
  }

  pub kept_not : (after : List ℕ) → Kept s at k first before after false
  kept_not after = record { grown = λ e p a held. absurd (let z : ◌≡◌ {A = ℕ} 0 1 = cc in omega arith) }

  pub kept_put : (w : ℕ) (after : List ℕ) → first ≤ k → 8 * (k - first) + 8 ≤ length before → w ≡ word_for s at → w < 2 ^ 64 → after ≡ put_at before (k - first) w
      → Kept s at k first before after true
  kept_put w after low room is small put = record {
    grown = λ e p a held.
        let next : k + 1 - first ≡ k - first + 1 = omega arith in
        let place : first + (k - first) ≡ k = omega arith in
        let word : w ≡ word_for s (record_at s (first + (k - first))) = is ∙ ap (word_for s) (p ∙ ap (record_at s) (sym place)) in
        rw (next, put, from_grow (k - first) s first (record_at s first) refl, ← word) (holds_grow w held room small);
  }

pub known_long : {s : List ℕ} {at id : ℕ} → id ≡ id_at s at → Identified s at → id + 8 ≤ length s
known_long {s} {at} {id} e known = let long = known.long in omega arith

-- ---- count
module _ (s : List ℕ) (at k first : ℕ) (t : Tally) where
  pub counted_early : k < first → Counted s at k first t t
  counted_early h = record {
    grown = λ p e.
        let now : k - first ≡ 0 = omega arith in
        let next : k + 1 - first ≡ 0 = omega arith in
        rw next (rw now at e);
  }

  counted_more : (u : Tally) → first ≤ k → u ≡ with_record t s at → Counted s at k first t u
  counted_more u low is = record {
    grown = λ p e.
        let next : k + 1 - first ≡ k - first + 1 = omega arith in
        let place : at ≡ record_at s (first + (k - first)) = p ∙ ap (record_at s) (omega arith) in
        rw (next, records_grow (k - first) no_tally s first (record_at s first) refl, ← e, ← place) is;
  }

module _ (s : List ℕ) (at id rcnm : ℕ) (start : id ≡ id_at s at) (named : Reads s id 1 rcnm) where
  read_rcnm : rcnm ≡ rcnm_at s at
  read_rcnm = (rcnm_read s at id rcnm start named).0

  pub feature_long : rcnm ≡ 100 → Identified s at → id + 7 + 2 ≤ length s
  feature_long e known = let long = (known.feature (sym read_rcnm ∙ e)).long in omega arith

  module _ (k first : ℕ) (t u : Tally) (low : first ≤ k) where
    pub counted_feature : (objl : ℕ) → rcnm ≡ 100 → Reads s (id + 7) 2 objl → u ≡ with_feature t objl → Counted s at k first t u
    counted_feature objl e class is = counted_more s at k first t u low (add_feature_told s at t u rcnm read_rcnm objl e (objl_read s at id objl start class).0 is)

    pub counted_vector : (rcnm ≡ 100 → ⊥) → u ≡ with_vector t rcnm → Counted s at k first t u
    counted_vector h is = counted_more s at k first t u low (add_vector_told s at t u rcnm read_rcnm h is)

-- ---- headed and passed
module _ (update : Bool) (s : List ℕ) (at a b : ℕ) (x : a ≡ aall_at s at) (y : b ≡ nall_at s at) (st : State) (z : st.stage ≡ 0) where
  pub headed_update : update ≡ true → record { stage = 2; aall = a; nall = b } ≡ passed_state update s at st
  unfolding passed_state next_stage
  headed_update u = rw (z, u, x, y)

  pub headed_cell : update ≡ false → record { stage = 1; aall = a; nall = b } ≡ passed_state update s at st
  unfolding passed_state next_stage
  headed_cell u = rw (z, u, x, y)

module _ (update : Bool) (s : List ℕ) (at : ℕ) (st : State) where
  pub passed_dspm : st.stage ≡ 1 → record { stage = 2; aall = st.aall; nall = st.nall } ≡ passed_state update s at st
  unfolding passed_state next_stage
  passed_dspm e = rw e

  module _ (kind : ℕ) (is : kind ≡ kind_at s at 1) (late : st.stage ≡ 0 → ⊥) (later : st.stage ≡ 1 → ⊥) where
    pub passed_feature : kind ≡ 10 → record { stage = 3; aall = st.aall; nall = st.nall } ≡ passed_state update s at st
    unfolding passed_state next_stage is_feature
    passed_feature e = rw (ne_eqb _ _ late, ne_eqb _ _ later, eq-eqb (kind_at s at 1) 10 (sym is ∙ e))

    pub passed_vector : (kind ≡ 10 → ⊥) → st ≡ passed_state update s at st
    unfolding passed_state next_stage is_feature
    passed_vector h = rw (ne_eqb _ _ late, ne_eqb _ _ later, ne_eqb (kind_at s at 1) 10 (λ (e : kind_at s at 1 ≡ 10). h (is ∙ e)))
