-- No two records of an update in which no name is met twice have one name. Assumes nothing.
use Prim.Native.Nat.{ℕ, zero, suc, ◌+◌, ◌-◌, ◌≤◌}
use mathlib.Core.Bool.{true, false}
use mathlib.Core.List.{List, [], ◌∷◌}
use mathlib.Core.Logic.{⊎_elim}
use mathlib.Core.Path.{◌≡◌, sym}
use native.Mathlib.Omega.{arith}
use lib.Dec.{eqb}
use Rattle.octets.proofs.Tests.{or_right}
use Rattle.octets.specs.Lists.{is_in}
use Rattle.octets.proofs.Cases.{true_or_false}
use Rattle.iso8211.specs.Record.{end_of}
use Rattle.iso8211.specs.File.{record_at}
use Rattle.names.specs.Names.{first_item, items_from, twice_from, first_twice, twice_of}
use Rattle.items.specs.Item.{item_at, item_name}
use Rattle.held.proofs.CellLaws.{differs, once_more, self_in}
use Rattle.merge.specs.Updated.{Differs, diff_none, diff_more, Apart, apart_none, apart_more}
use Rattle.changes.specs.Change.{Amendment, amendment_at, amendments_from}

-- a name met before does not come again
differs_from : (m : ℕ) (s : List ℕ) (at j x : ℕ) (seen : List ℕ) → 1 ≤ j → twice_from j seen (items_from m s at) ≡ 0 → is_in x seen ≡ true
    → Differs (λ (a : Amendment). item_name a.object) x (amendments_from m s at)
unfolding twice_from items_from amendments_from is_in
differs_from zero s at j x seen some once there = diff_none
differs_from (suc m) s at j x seen some once there =
    let name = item_name (item_at s at) in
    ⊎_elim (λ (met : is_in name seen ≡ true). absurd (let z : j ≡ 0 = rw met at once in omega arith))
    (λ (new : is_in name seen ≡ false).
    let also : is_in x (name ∷ seen) ≡ true = or_right (eqb name x) (is_in x seen) there in
    diff_more {u = amendment_at s at} (λ (e : x ≡ name). differs name x seen new there (sym e))
    (differs_from m s (end_of s at) (j + 1) x (name ∷ seen) (omega arith) (rw new at once) also))
    (true_or_false (is_in name seen))

apart_from : (m : ℕ) (s : List ℕ) (at j : ℕ) (seen : List ℕ) → 1 ≤ j → twice_from j seen (items_from m s at) ≡ 0
    → Apart (λ (a : Amendment). item_name a.object) (amendments_from m s at)
unfolding items_from amendments_from
apart_from zero s at j seen some once = apart_none
apart_from (suc m) s at j seen some once =
    let name = item_name (item_at s at) in
    let on : twice_from (j + 1) (name ∷ seen) (items_from m s (end_of s at)) ≡ 0 = once_more j (item_at s at) seen (items_from m s (end_of s at)) some once in
    apart_more {u = amendment_at s at} (differs_from m s (end_of s at) (j + 1) name (name ∷ seen) (omega arith) on (self_in name seen))
    (apart_from m s (end_of s at) (j + 1) (name ∷ seen) (omega arith) on)

pub names_apart : (s : List ℕ) (n : ℕ) → (twice_of true s n).index ≡ 0 → Apart (λ (a : Amendment). item_name a.object) (amendments_from (n - 2) s (record_at s 2))
unfolding twice_of first_twice first_item
names_apart s n once = apart_from (n - 2) s (record_at s 2) 2 [] (omega arith) once
