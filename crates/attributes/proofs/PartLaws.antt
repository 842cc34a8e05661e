-- An entry of a field read in its place: the entry of n bytes at `at` of the bytes c is take n (drop at c). Assumes nothing.
use Prim.Native.Nat.{ℕ, ◌+◌, ◌-◌, ◌≤◌, ◌<◌}
use mathlib.Core.List.{List}
use mathlib.Core.Path.{◌≡◌, sym, ◌∙◌}
use native.Mathlib.Nat.{add_assoc}
use native.Mathlib.Omega.{arith}
use lib.ListN.{length, take, drop, length-drop}
use lib.Seq.{length-take-le, ext_get_or}
use Rattle.octets.proofs.ListLaws.{part_byte, part_long}
use Rattle.octets.specs.Number.{byte_at}
use Rattle.entries.specs.declared.Shape.{Shape}
use Rattle.entries.specs.Entries.{entry_len}
use Rattle.entries.proofs.EntryLaws.{entry_least, entry_within, entry_texted}
use Rattle.entries.proofs.TextLaws.{text_least}
use Rattle.attributes.specs.Attributes.{attribute, pointer}

-- the text behind the k fixed bytes, up to the closing 1F
pub part_text : (c : List ℕ) (at n k : ℕ) → k + 1 ≤ n → at + n ≤ length c
    → take (length (take n (drop at c)) - (k + 1)) (drop k (take n (drop at c))) ≡ take (at + n - 1 - (at + k)) (drop (at + k) c)
part_text c at n k h fit =
    let e : List ℕ = take n (drop at c) in
    let size : length e ≡ n = part_long c at n fit in
    let count : at + n - 1 - (at + k) ≡ n - (k + 1) = omega arith in
    let long : length (take (n - (k + 1)) (drop k e)) ≡ n - (k + 1) = length-take-le (n - (k + 1)) (drop k e) (rw (length-drop k e, size) (omega arith)) in
    let span : length (take (n - (k + 1)) (drop (at + k) c)) ≡ n - (k + 1) = length-take-le (n - (k + 1)) (drop (at + k) c) (rw (length-drop (at + k) c) (omega arith)) in
    let same : (i : ℕ) → i < length (take (n - (k + 1)) (drop k e)) → byte_at (take (n - (k + 1)) (drop k e)) i ≡ byte_at (take (n - (k + 1)) (drop (at + k) c)) i =
    λ (i : ℕ) (b : i < length (take (n - (k + 1)) (drop k e))).
    let m : i < n - (k + 1) = omega (arith, b, long) in
    part_byte e k (n - (k + 1)) i m ∙ part_byte c at n (k + i) (omega arith) ∙ rw (← add_assoc at k i) (sym (part_byte c (at + k) (n - (k + 1)) i m)) in
    rw (size, count) (ext_get_or 0 (take (n - (k + 1)) (drop k e)) (take (n - (k + 1)) (drop (at + k) c)) (long ∙ sym span) same)

-- ---- an entry with a text has its fixed bytes and the 1F
texted_least : (sh : Shape) (bs : List ℕ) → (sh.unit ≡ 0 → ⊥) → 0 < entry_len sh bs → sh.fixed + sh.unit ≤ entry_len sh bs
texted_least sh bs u z =
    let e = entry_texted sh bs (omega (arith, entry_least sh bs z, entry_within sh bs)) u in
    rw e (text_least sh.unit (drop sh.fixed bs) sh.fixed (omega arith) (rw e at z))

pub attribute_long : (bs : List ℕ) (n : ℕ) → n ≡ entry_len attribute bs → (n ≡ 0 → ⊥) → 3 ≤ n
attribute_long bs n size h =
    let z : 0 < entry_len attribute bs = omega (arith, size, h) in
    omega (arith, size, texted_least attribute bs (λ (e : 1 ≡ 0). omega arith) z)

pub pointer_long : (bs : List ℕ) (n : ℕ) → n ≡ entry_len pointer bs → (n ≡ 0 → ⊥) → 10 ≤ n
pointer_long bs n size h =
    let z : 0 < entry_len pointer bs = omega (arith, size, h) in
    omega (arith, size, texted_least pointer bs (λ (e : 1 ≡ 0). omega arith) z)
