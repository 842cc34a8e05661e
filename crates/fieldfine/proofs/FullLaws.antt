-- Laws of lists that fill their field: by a walk over the entries, or by the length alone where no entry has a text. Assumes nothing.
use Prim.Native.Nat.{ℕ, zero, suc, ◌+◌, ◌*◌, ◌/◌, ◌%◌, ◌≤◌, ◌<◌}
use mathlib.Core.Bool.{true}
use mathlib.Core.List.{List, [], ◌∷◌, flatten}
use mathlib.Core.Path.{◌≡◌, refl, sym, ap, ◌∙◌}
use mathlib.Core.Logic.{⊎_elim}
use native.Mathlib.Nat.{add-zero, zero-add, suc-mul, div-add-mod'}
use native.Mathlib.Omega.{arith}
use lib.ListN.{length, take, drop, length-append, length-drop}
use lib.Seq.{length-take-le}
use lib.Dec.{leb, eqb}
use borrow.Author.Tests.{leb-true, eqb-true}
use Rattle.octets.proofs.Cases.{le_or_lt}
use Rattle.octets.proofs.Tests.{both}
use Rattle.entries.specs.declared.Shape.{Shape}
use Rattle.entries.specs.Entries.{entry_len, entries_of, whole_good}
use Rattle.entries.proofs.EntryLaws.{entry_bare, entry_within}
use Rattle.entries.proofs.EntriesLaws.{entries_more, end_within, whole_ended, whole_told}
use Rattle.entries.proofs.WalkLaws.{walk_more, walk_past}
use Rattle.fieldfine.specs.Told.{groups_good}

-- no entries have no bytes
none_long : (es : List (List ℕ)) → length es < 1 → length (flatten es) ≡ 0
unfolding flatten
none_long [] h = refl
none_long (e ∷ es) h = absurd (omega arith)

-- entries that end where some bytes end are one or more
ended_good : (sh : Shape) (bs : List ℕ) → 1 ≤ length bs → length (flatten (entries_of sh bs)) ≡ length bs → whole_good sh bs ≡ true
ended_good sh bs some end =
    whole_told (whole_ended sh bs end)
    (⊎_elim (λ (h : 1 ≤ length (entries_of sh bs)). h) (λ (h : length (entries_of sh bs) < 1). absurd (omega (arith, none_long (entries_of sh bs) h)))
    (le_or_lt 1 (length (entries_of sh bs))))

-- ---- a walk over the entries: those passed end at `at`
pub record Filling (sh : Shape) (c : List ℕ) (at : ℕ) : Type 0 where
  pub is : length (flatten (entries_of sh c)) ≡ at + length (flatten (entries_of sh (drop at c)))

pub filling_start : (sh : Shape) (c : List ℕ) → Filling sh c 0
filling_start sh c = record { is = sym (zero-add (length (flatten (entries_of sh c)))) }

pub filling_on : {sh : Shape} {c : List ℕ} {at : ℕ} (n : ℕ) → Filling sh c at → n ≡ entry_len sh (drop at c) → (n ≡ 0 → ⊥) → Filling sh c (at + n)
unfolding flatten
filling_on {sh} {c} {at} n so size some =
    let long : length (take n (drop at c)) ≡ n = length-take-le n (drop at c) (omega (arith, size, entry_within sh (drop at c))) in
    let rest = flatten (entries_of sh (drop (at + n) c)) in
    record {
      is = omega (
        arith,
        so.is,
        ap (λ (es : List (List ℕ)). length (flatten es)) (walk_more sh c at n size some),
        length-append (take n (drop at c)) rest,
        long,
      );
    }

pub filling_end : {sh : Shape} {c : List ℕ} (at : ℕ) → Filling sh c at → length c ≤ at → at ≤ length c → (at ≡ 0 → ⊥) → whole_good sh c ≡ true
unfolding flatten
filling_end {sh} {c} at so past low some =
    ended_good sh c (omega (arith, some_long at some))
    (so.is ∙ ap (λ (es : List (List ℕ)). at + length (flatten es)) (walk_past sh c at past) ∙ add-zero at ∙ (let e : at ≡ length c = omega arith in e))
  where
    some_long : (k : ℕ) → (k ≡ 0 → ⊥) → 1 ≤ k
    some_long k h = omega arith

-- ---- entries without a text: m of them
bare_ended : (sh : Shape) (m : ℕ) (bs : List ℕ) → sh.unit ≡ 0 → 1 ≤ sh.fixed → length bs ≡ m * sh.fixed → length (flatten (entries_of sh bs)) ≡ length bs
unfolding flatten
bare_ended sh zero bs none some e = omega (arith, end_within sh bs)
bare_ended sh (suc m) bs none some e =
    let n = sh.fixed in
    let long : length bs ≡ m * n + n = e ∙ suc-mul m n in
    let size : entry_len sh bs ≡ n = entry_bare sh bs (omega arith) none in
    let rest : length (flatten (entries_of sh (drop n bs))) ≡ length (drop n bs) = bare_ended sh m (drop n bs) none some (rw length-drop (omega arith)) in
    let cut : entries_of sh bs ≡ take n bs ∷ entries_of sh (drop n bs) = entries_more sh bs (omega arith) ∙ rw size in
    omega (
      arith,
      ap (λ (es : List (List ℕ)). length (flatten es)) cut,
      length-append (take n bs) (flatten (entries_of sh (drop n bs))),
      length-take-le n bs (omega arith),
      rest,
      length-drop n bs,
    )

-- "a list field holds one group or more", by its length alone
pub groups_full : (sh : Shape) (bs : List ℕ) → sh.unit ≡ 0 → 1 ≤ sh.fixed → groups_good sh.fixed (length bs) ≡ true → whole_good sh bs ≡ true
unfolding groups_good
groups_full sh bs none some good =
    let n = length bs in
    let a = both (leb 1 n) (eqb (n % sh.fixed) 0) good in
    let even : n % sh.fixed ≡ 0 = eqb-true _ _ a.1 in
    let sum : n / sh.fixed * sh.fixed + n % sh.fixed ≡ n = div-add-mod' n sh.fixed in
    ended_good sh bs (leb-true _ _ a.0) (bare_ended sh (n / sh.fixed) bs none some (omega arith))
