-- Laws of the places of a file's records: they ascend; the walks from an index to a place and back. Assumes nothing.
use Prim.Native.Nat.{ℕ, zero, suc, ◌+◌, ◌≤◌, ◌<◌}
use mathlib.Core.List.{List}
use mathlib.Core.Logic.{⊎_elim}
use mathlib.Core.Path.{◌≡◌}
use native.Mathlib.Numerals.{add-one}
use native.Mathlib.Omega.{arith}
use lib.ListN.{length}
use Rattle.std.specs.Prelude.{Ok}
use Rattle.octets.proofs.Cases.{eq_or_ne}
use Rattle.iso8211.specs.Premises.{FramedAt}
use Rattle.iso8211.specs.File.{frame_of, record_at}
use Rattle.iso8211.proofs.Promise.{framed_at, at_past, last_ends}

-- ---- a later record starts behind an earlier one
pub at_order : (s : List ℕ) (n j k : ℕ) → frame_of s ≡ Ok n → j < k → k ≤ n → record_at s j < record_at s k
at_order s n j zero v h b = absurd (omega arith)
at_order s n j (suc k) v h b =
    let past : record_at s k < record_at s (suc k) = rw (add-one k) at (at_past s n k v (omega arith)) in
    ⊎_elim (λ (e : j ≡ k). rw e past)
    (λ (ne : j ≡ k → ⊥). let low = at_order s n j k v (omega arith) (omega arith) in omega arith)
    (eq_or_ne j k)

-- and within the file
pub at_inside : (s : List ℕ) (n k at : ℕ) → frame_of s ≡ Ok n → k < n → at ≡ record_at s k → at < length s
at_inside s n k at v h e =
    let low = at_order s n k n v h (omega arith) in
    let end = (last_ends s n v).1 in
    omega arith

-- ---- from an index to a place
pub start_framed : (s : List ℕ) (n k i at : ℕ) → frame_of s ≡ Ok n → i < k → k ≤ n → at ≡ record_at s i → FramedAt s at
start_framed s n k i at v more few e = framed_at s n i at v (omega arith) e

pub start_done : (s : List ℕ) (k i at : ℕ) → at ≡ record_at s i → i ≤ k → k ≤ i → at ≡ record_at s k
start_done s k i at so low high = let e : k ≡ i = omega arith in rw e so

-- ---- from a place to an index
module _ (s : List ℕ) (n p at k : ℕ) (v : frame_of s ≡ Ok n) (few : k ≤ n) (so : at ≡ record_at s k) where
  pub seek_below : p < length s → at < p → k + 1 ≤ n
  seek_below inside more =
      ⊎_elim (λ (e : k ≡ n). let end : record_at s k ≡ length s = rw e (last_ends s n v).1 in absurd (omega arith))
      (λ (ne : k ≡ n → ⊥). omega arith) (eq_or_ne k n)

  pub seek_framed : p < length s → at < p → FramedAt s at
  seek_framed inside more = framed_at s n k at v (let low = seek_below inside more in omega arith) so

  pub seek_on : at < p → ((j : ℕ) → j < n → p ≡ record_at s j → k ≤ j) → (j : ℕ) → j < n → p ≡ record_at s j → k + 1 ≤ j
  seek_on more low j less e =
      let le = low j less e in
      ⊎_elim (λ (same : k ≡ j). let there : record_at s k ≡ record_at s j = rw same in absurd (omega arith))
      (λ (ne : k ≡ j → ⊥). omega arith) (eq_or_ne k j)

  pub seek_done : p ≤ at → ((j : ℕ) → j < n → p ≡ record_at s j → k ≤ j) → (j : ℕ) → j < n → p ≡ record_at s j → k ≡ j
  seek_done past low j less e =
      let le = low j less e in
      ⊎_elim (λ (same : k ≡ j). same)
      (λ (ne : k ≡ j → ⊥). let up = at_order s n k j v (omega arith) (omega arith) in absurd (omega arith)) (eq_or_ne k j)
