-- The walk over the update's records: one law for each way through a turn. Assumes nothing.
use Prim.Native.Nat.{ℕ, suc, ◌+◌, ◌-◌, ◌≤◌, ◌<◌}
use mathlib.Core.Bool.{cond}
use mathlib.Core.List.{List}
use mathlib.Core.Path.{◌≡◌, refl, sym, ap, ◌∙◌}
use native.Mathlib.Omega.{arith}
use lib.Dec.{eqb}
use borrow.Author.Tests.{ne_eqb}
use Rattle.answers.specs.First.{first_by}
use Rattle.iso8211.specs.Record.{end_of}
use Rattle.iso8211.specs.Premises.{FramedAt}
use Rattle.iso8211.specs.File.{record_at}
use Rattle.iso8211.proofs.Promise.{framed_at, at_next}
use Rattle.std.specs.Prelude.{Ok, Err}
use Rattle.answers.specs.Answer.{refusal, fine, outcome}
use Rattle.answers.proofs.OutcomeLaws.{fine_told, some_told}
use Rattle.answers.specs.declared.refusal.Refusal.{Refusal}
use Rattle.items.specs.Item.{Item}
use Rattle.changes.specs.Change.{amendment_at, amendments_from, change_of}
use Rattle.changes.specs.Amend.{amendment_code, amendments_fault, placed_in}
use Rattle.amendments.specs.Amendable.{Amendable, AllAmendable}

-- the answer from record k, at `at`, on is the answer from the start
pub record Judging (held : List Item) (update : List ℕ) (m k at : ℕ) : Type 0 where
  pub low : 2 ≤ k
  pub place : at ≡ record_at update k
  pub so : amendments_fault held 2 (change_of update m).amendments ≡ amendments_fault held k (amendments_from (m - k) update at)

pub judging_start : (held : List Item) (update : List ℕ) (m at : ℕ) → at ≡ record_at update 2 → Judging held update m 2 at
unfolding change_of
judging_start held update m at e = record { low = omega arith; place = e; so = rw e }

from_more : (held : List Item) (update : List ℕ) (k at n i : ℕ) → n ≡ suc i
    → amendments_fault held k (amendments_from n update at)
    ≡ cond (eqb (amendment_code held (amendment_at update at)) 0) (amendments_fault held (k + 1) (amendments_from i update (end_of update at)))
    (refusal (amendment_code held (amendment_at update at)) k 0)
unfolding amendments_fault amendments_from first_by
from_more held update k at n i e = rw e

from_none : (held : List Item) (update : List ℕ) (k at n : ℕ) → n ≡ 0 → amendments_fault held k (amendments_from n update at) ≡ fine
unfolding amendments_fault amendments_from first_by
from_none held update k at n e = rw e

module _ (held : List Item) (update : List ℕ) (m k at : ℕ) (j : Judging held update m k at) where
  pub judging_end : m ≤ k → Ok tt ≡ outcome (placed_in update (amendments_fault held 2 (change_of update m).amendments))
  unfolding placed_in
  judging_end h =
      fine_told (placed_in update (amendments_fault held 2 (change_of update m).amendments)) (rw (j.so, from_none held update k at (m - k) (omega arith)) refl)

  -- the record that is due is one that can be judged
  module _ (cell ws : List ℕ) (all : AllAmendable cell ws update m) (less : k < m) where
    pub judging_here : Amendable cell ws update at
    judging_here = rw j.place (all.each k j.low less)

    pub judging_framed : FramedAt update at
    judging_framed = framed_at update m k at all.framed less j.place

  module _ (less : k < m) (code : ℕ) (told : code ≡ amendment_code held (amendment_at update at)) where
    here : amendments_fault held k (amendments_from (m - k) update at)
        ≡ cond (eqb code 0) (amendments_fault held (k + 1) (amendments_from (m - (k + 1)) update (end_of update at))) (refusal code k 0)
    here = rw told (from_more held update k at (m - k) (m - (k + 1)) (omega arith))

    pub judging_stop : (r : Refusal) → (code ≡ 0 → ⊥) → r ≡ refusal code k at → Err r ≡ outcome (placed_in update (amendments_fault held 2 (change_of update m).amendments))
    unfolding placed_in
    judging_stop r ne e =
        some_told (e ∙ rw (j.so, here, ne_eqb code 0 ne, ne_eqb code 0 ne, ← j.place)) (λ z. ne (sym (ap (λ (q : Refusal). q.code) e) ∙ z))

    pub judging_on : (next : ℕ) → code ≡ 0 → next ≡ end_of update at → Judging held update m (k + 1) next
    judging_on next e is = record {
      low = let l = j.low in omega arith;
      place = is ∙ at_next update k at j.place;
      so = j.so ∙ here ∙ rw (e, is);
    }
