-- What the writer copies: the bytes of a record that was read are those of its object. Assumes nothing.
use Prim.Native.Nat.{ℕ, zero, suc, ◌+◌, ◌-◌, ◌*◌, ◌/◌, ◌%◌, ◌≤◌, ◌<◌}
use mathlib.Core.Bool.{true}
use mathlib.Core.List.{List, [], ◌∷◌, ◌++◌, flatten}
use mathlib.Core.Path.{◌≡◌, refl, ap, ◌∙◌}
use native.Mathlib.Omega.{arith}
use lib.ListN.{length, take, drop, take-append-drop}
use lib.Seq.{drop-cons, drop-drop}
use Rattle.octets.specs.Number.{byte_at, num_at, bytes_of}
use Rattle.table.specs.Table.{row_of}
use Rattle.items.specs.Premises.{LaidOut}
use Rattle.items.specs.Lists.{list_at, entries_at}
use Rattle.items.proofs.ListsLaws.{list_whole}
use Rattle.items.proofs.IdentityLaws.{num_one}
use Rattle.items.specs.Item.{list_of, Item}
use Rattle.itemfields.specs.Fields.{vrid_bytes}

-- the bytes of a list, as its fields hold them
pub list_bytes_lem : (s : List ℕ) (at k : ℕ) → LaidOut s at → (row_of k).list ≡ true → flatten (list_of s at k) ≡ list_at s at k
unfolding list_of entries_at
list_bytes_lem s at k laid list = rw list (list_whole s at k laid list).is

-- a number is written as the bytes that it was read from
pub num_bytes : (s : List ℕ) → ((i : ℕ) → byte_at s i < 256) → (n p : ℕ) → p + n ≤ length s → bytes_of n (num_at s p n) ≡ take n (drop p s)
unfolding num_at bytes_of
num_bytes s small zero p h = refl
num_bytes s small (suc n) p h =
    let b = small p in
    let rest = num_bytes s small n (suc p) (omega arith) in
    let low : (byte_at s p + 256 * num_at s (suc p) n) % 256 ≡ byte_at s p = omega arith in
    let high : (byte_at s p + 256 * num_at s (suc p) n) / 256 ≡ num_at s (suc p) n = omega arith in
    rw (low, high, rest, drop-cons s p 0 (omega arith))

-- the parts of a list, one after the other
part_next : (l : List ℕ) (p n : ℕ) → take n (drop p l) ++ drop (p + n) l ≡ drop p l
part_next l p n = rw (← (drop-drop n p l)) (take-append-drop n (drop p l))

-- VRID as it stands, where RUIN is 1
pub vrid_bytes_lem : (c : List ℕ) (t : Item) → ((i : ℕ) → byte_at c i < 256) → length c ≡ 8 → t.rcnm ≡ byte_at c 0 → t.rcid ≡ num_at c 1 4 → t.version ≡ num_at c 5 2
    → byte_at c 7 ≡ 1 → vrid_bytes t ≡ c
unfolding vrid_bytes
vrid_bytes_lem c t small long a b d ruin =
    let last : drop 7 c ≡ 1 ∷ [] = drop-cons c 7 0 (omega arith) ∙ rw ruin (ap (λ (l : List ℕ). 1 ∷ l) (lib.ListN.drop_of_length-le c {i = 8} (omega arith))) in
    rw (a, ← (num_one c 0), num_bytes c small 1 0 (omega arith), b, num_bytes c small 4 1 (omega arith), d, num_bytes c small 2 5 (omega arith), ← last)
    (ap (λ (l : List ℕ). take 1 c ++ (take 4 (drop 1 c) ++ l)) (part_next c 5 2) ∙ ap (λ (l : List ℕ). take 1 c ++ l) (part_next c 1 4) ∙ part_next c 0 1)
