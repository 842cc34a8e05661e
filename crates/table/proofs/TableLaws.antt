-- Laws of the table: what stands behind its last row, which kinds there are, and its rows as the code keeps them. Assumes nothing.
use Prim.Native.Nat.{ℕ, zero, suc, ◌+◌, ◌/◌, ◌%◌, ◌≤◌, ◌<◌}
use mathlib.Core.Bool.{Bool, true, false, ◌&&◌}
use mathlib.Core.List.{List, [], ◌∷◌}
use mathlib.Core.Path.{◌≡◌, refl, sym, ap, ◌∙◌}
use native.Mathlib.Nat.{add-zero, zero-add}
use native.Mathlib.Omega.{arith}
use lib.Dec.{eqb}
use lib.ListN.{length, get_or, get_or-eq_default}
use borrow.Author.Tests.{eqb-true}
use Rattle.octets.proofs.Tests.{both, never}
use Rattle.table.specs.declared.Kind.{Kind}
use Rattle.table.specs.Table.{table, row_of, kind_row, first}
use Rattle.table.specs.Widths.{same}
use Rattle.table.specs.Premises.{Picked}

-- past the table every row is that of 0001
pub row_past : (k : ℕ) → first ≤ k → row_of k ≡ row_of first
unfolding row_of table
row_past k h = get_or-eq_default table _ h

-- the same as the code keeps it
pub kind_past : (k : ℕ) → first ≤ k → kind_row k ≡ kind_row first
kind_past k h = rw (row_past k h)

-- one number more that k is not
pub past : (n k : ℕ) → n ≤ k → (k ≡ n → ⊥) → suc n ≤ k
past n k h ne = omega arith

-- ---- a row in one number
abbrev pub unpacked : ℕ → Kind
unpacked x = record {
  fixed = x % 64;
  unit = x / 64 % 2;
  list = eqb (x / 128 % 2) 1;
  control = eqb (x / 256 % 2) 1;
  group = x / 512 % 4;
  order = x / 2048 % 16;
}

unfoldable pub same_kind : Kind → Kind → Bool
same_kind a b =
    eqb a.fixed b.fixed
    && (eqb a.unit b.unit
    && (same a.list b.list && (same a.control b.control && (eqb a.group b.group && eqb a.order b.order))))

same_told : (a b : Bool) → same a b ≡ true → a ≡ b
unfolding same
same_told true true h = refl
same_told false false h = refl
same_told true false h = never h
same_told false true h = never h

parts_same : {f n u v g h o p : ℕ} {l m c d : Bool} → f ≡ n → u ≡ v → l ≡ m → c ≡ d → g ≡ h → o ≡ p
    → ◌≡◌ {A = Kind} (record { fixed = f; unit = u; list = l; control = c; group = g; order = o })
    (record { fixed = n; unit = v; list = m; control = d; group = h; order = p })
parts_same a b c d e f = rw (a, b, c, d, e, f)

kind_told : (a b : Kind) → same_kind a b ≡ true → a ≡ b
unfolding same_kind
kind_told a b h =
    let p = both (eqb a.fixed b.fixed) _ h in
    let q = both (eqb a.unit b.unit) _ p.1 in
    let r = both (same a.list b.list) _ q.1 in
    let s = both (same a.control b.control) _ r.1 in
    let t = both (eqb a.group b.group) (eqb a.order b.order) s.1 in
    parts_same (eqb-true _ _ p.0) (eqb-true _ _ q.0) (same_told _ _ r.0) (same_told _ _ s.0) (eqb-true _ _ t.0) (eqb-true _ _ t.1)

-- each of these numbers is the row of its place, counted from k
unfoldable pub rows_hold : ℕ → List ℕ → Bool
rows_hold k [] = true
rows_hold k (x ∷ xs) = same_kind (unpacked x) (kind_row k) && rows_hold (suc k) xs

rows_from : (xs : List ℕ) (j k : ℕ) → rows_hold j xs ≡ true → k < length xs → unpacked (get_or xs k 0) ≡ kind_row (j + k)
unfolding rows_hold
rows_from [] j k all h = absurd (omega arith)
rows_from (x ∷ xs) j zero all h =
    kind_told (unpacked x) (kind_row j) (both (same_kind (unpacked x) (kind_row j)) (rows_hold (suc j) xs) all).0 ∙ ap (λ (n : ℕ). kind_row n) (sym (add-zero j))
rows_from (x ∷ xs) j (suc k) all h =
    let on = rows_from xs (suc j) k (both (same_kind (unpacked x) (kind_row j)) (rows_hold (suc j) xs) all).1 (omega arith) in
    let e : suc j + k ≡ j + suc k = omega arith in
    on ∙ ap (λ (n : ℕ). kind_row n) e

pub row_held : {xs : List ℕ} {k r : ℕ} → Picked xs k r → rows_hold 0 xs ≡ true → k < length xs → unpacked r ≡ kind_row k
row_held {xs} {k} p all h = rw p.is (rows_from xs 0 k all h ∙ ap (λ (n : ℕ). kind_row n) (zero-add k))
