-- The controls as they are read, and the list that each means: one law for each way through the code. Assumes nothing.
use Prim.Native.Nat.{ℕ, suc, ◌+◌, ◌*◌, ◌≤◌, ◌<◌}
use mathlib.Core.List.{List, [], ◌∷◌}
use mathlib.Core.Logic.{⊎_elim}
use mathlib.Core.Option.{none, some}
use mathlib.Core.Path.{◌≡◌, refl, sym, ap, ◌∙◌}
use native.Mathlib.Nat.{zero-add}
use native.Mathlib.Omega.{arith}
use lib.ListN.{length}
use borrow.Author.Tests.{ne_eqb}
use Rattle.std.specs.Prelude.{Some, None}
use Rattle.octets.specs.Number.{byte_at, num_at}
use Rattle.octets.specs.Premises.{Reads}
use Rattle.octets.specs.Area.{Has, Wrote}
use Rattle.octets.proofs.AreaLaws.{wrote_has}
use Rattle.table.specs.Table.{SG2D, SG3D}
use Rattle.items.specs.Lists.{list_at}
use Rattle.splice.specs.Given.{option_of, Given}
use Rattle.changes.specs.Change.{control_from, control_at}
use Rattle.amend.specs.Controls.{ControlSize, coordinates_by}

-- ---- a control read
pub control_room : (s : List ℕ) (at k : ℕ) (join : List ℕ) → ControlSize s at k → 5 ≤ length join → 0 + length (list_at s at k) ≤ length join
control_room s at k join size room =
    ⊎_elim (λ (e : list_at s at k ≡ []). let l = ap length e in omega arith) (λ (e : length (list_at s at k) ≡ 5). omega arith) size.is

none_from : (l : List ℕ) → length l ≡ 0 → none ≡ control_from l
unfolding control_from
none_from [] e = refl
none_from (b ∷ bs) e = absurd (omega arith)

pub control_none : (s : List ℕ) (at k : ℕ) {a b : List ℕ} {r : ℕ} → Wrote a 0 (list_at s at k) b r → r ≡ 0 → option_of None ≡ control_at s at k
unfolding option_of control_at
control_none s at k w z = none_from (list_at s at k) (omega (arith, w.end))

some_from : (l : List ℕ) → (length l ≡ 0 → ⊥) → control_from l ≡ some (record { instruction = byte_at l 0; index = num_at l 1 2; count = num_at l 3 2 })
unfolding control_from
some_from [] ne = absurd (ne refl)
some_from (b ∷ bs) ne = refl

two_at : {s l : List ℕ} (i : ℕ) → Has s 0 l → suc i < length l → num_at s i 2 ≡ num_at l i 2
unfolding num_at
two_at {s} {l} i h less =
    let a : byte_at s i ≡ byte_at l i = rw (zero-add i) at (h.byte i (omega arith)) in
    let b : byte_at s (suc i) ≡ byte_at l (suc i) = rw (zero-add (suc i)) at (h.byte (suc i) less) in
    rw (a, b)

pub control_some : (s : List ℕ) (at k : ℕ) {a b : List ℕ} {r x y z : ℕ} → ControlSize s at k → Wrote a 0 (list_at s at k) b r → (r ≡ 0 → ⊥)
    → Reads b 0 1 x → Reads b 1 2 y → Reads b 3 2 z → option_of (Some (record { instruction = x; index = y; count = z })) ≡ control_at s at k
unfolding option_of control_at num_at
control_some s at k {a} {b} {r} {x} {y} {z} size w ne first second third =
    let l = list_at s at k in
    let five : length l ≡ 5 = ⊎_elim (λ (e : l ≡ []). absurd (ne (let n = ap length e in omega (arith, w.end)))) (λ (e : length l ≡ 5). e) size.is in
    let h = wrote_has w in
    let ex : x ≡ byte_at l 0 = let f : x ≡ byte_at b 0 + 256 * 0 = first.is in let g : byte_at b 0 ≡ byte_at l 0 = h.byte 0 (omega arith) in omega arith in
    let ey : y ≡ num_at l 1 2 = second.is ∙ two_at 1 h (omega arith) in
    let ez : z ≡ num_at l 3 2 = third.is ∙ two_at 3 h (omega arith) in
    rw (ex, ey, ez) (sym (some_from l (λ (e : length l ≡ 0). omega arith)))

pub control_given : {b : List ℕ} {x y z : ℕ} → Reads b 1 2 y → Reads b 3 2 z → Given (record { instruction = x; index = y; count = z })
control_given second third = record { low = let s = second.small in omega arith; few = let s = third.small in omega arith }

-- ---- the list that SGCC means
module _ (cell : List ℕ) (at : ℕ) (update : List ℕ) (by a : ℕ) (pairs : a ≡ length (list_at cell at SG2D)) where
  pub means_pairs : (a ≡ 0 → ⊥) → SG2D ≡ coordinates_by cell at update by
  unfolding coordinates_by
  means_pairs ne = rw (← pairs, ne_eqb a 0 ne)

  module _ (none_held : a ≡ 0) (b : ℕ) (soundings : b ≡ length (list_at cell at SG3D)) where
    pub means_soundings : (b ≡ 0 → ⊥) → SG3D ≡ coordinates_by cell at update by
    unfolding coordinates_by
    means_soundings ne = rw (← pairs, none_held, ← soundings, ne_eqb b 0 ne)

    module _ (neither : b ≡ 0) (c : ℕ) (come : c ≡ length (list_at update by SG3D)) where
      pub means_none : c ≡ 0 → SG2D ≡ coordinates_by cell at update by
      unfolding coordinates_by
      means_none e = rw (← pairs, none_held, ← soundings, neither, ← come, e)

      pub means_come : (c ≡ 0 → ⊥) → SG3D ≡ coordinates_by cell at update by
      unfolding coordinates_by
      means_come ne = rw (← pairs, none_held, ← soundings, neither, ← come, ne_eqb c 0 ne)
