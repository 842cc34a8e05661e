-- Entries without a text, all of n bytes, are what `chunks_exact` gives of their bytes. Assumes nothing.
use Prim.Native.Nat.{ℕ, zero, suc, ◌≤◌, ◌<◌}
use mathlib.Core.Bool.{Bool, ◌&&◌}
use mathlib.Core.List.{List, [], ◌∷◌, ◌++◌}
use mathlib.Core.Logic.{⊎_elim}
use mathlib.Core.Path.{◌≡◌, refl, sym, ap, ◌∙◌}
use native.Mathlib.Omega.{arith}
use lib.ListN.{length, take, drop, length-append, length-drop}
use lib.Seq.{take-append_seam, drop-append_seam}
use Rattle.std.specs.Iterator.{AlwaysYields}
use Rattle.std.proofs.lemmas.Iterator.{YieldsList}
use Rattle.std.specs.List.{list_all}
use Rattle.std.specs.Slice.Iter.{chunks_exact_rest, chunks_exact_size, chunks_exact_steps}
use Rattle.octets.proofs.Cases.{le_or_lt}
use Rattle.entries.specs.Entries.{entry_len, entries_of}
use Rattle.entries.specs.Rules.{all_of}
use Rattle.entries.proofs.EntryLaws.{entry_short, entry_bare}
use Rattle.entries.proofs.EntriesLaws.{entries_none, entries_more}

pub all_listed : (good : List ℕ → Bool) (es : List (List ℕ)) → list_all good es ≡ all_of good es
unfolding all_of
all_listed good [] = refl
all_listed good (e ∷ es) = ap (λ (x : Bool). good e && x) (all_listed good es)

module _ (n : ℕ) (some : 0 < n) where
  none_left : (b : List ℕ) → length b < n → entries_of (record { fixed = n; unit = 0 }) b ≡ []
  none_left b h = entries_none (record { fixed = n; unit = 0 }) b (entry_short (record { fixed = n; unit = 0 }) b h)

  one_left : (b : List ℕ) → n ≤ length b → entries_of (record { fixed = n; unit = 0 }) b ≡ take n b ∷ entries_of (record { fixed = n; unit = 0 }) (drop n b)
  one_left b h =
      let long : entry_len (record { fixed = n; unit = 0 }) b ≡ n = entry_bare (record { fixed = n; unit = 0 }) b h refl in
      entries_more (record { fixed = n; unit = 0 }) b (omega (arith, long)) ∙ rw long

  no_chunk : (s : _) (b : List ℕ) → chunks_exact_size s ≡ n → chunks_exact_rest s ≡ b → length b < n → AlwaysYields chunks_exact_steps (λ x. x.now) s []
  no_chunk s b size rest h = λ x j step. omega (arith, ap length rest, ap length step.1.0, length-append x.now (chunks_exact_rest j), step.1.1, size)

  chunks_from : (f : ℕ) (s : _) (b : List ℕ) → length b ≤ f → chunks_exact_size s ≡ n → chunks_exact_rest s ≡ b
      → AlwaysYields chunks_exact_steps (λ x. x.now) s (entries_of (record { fixed = n; unit = 0 }) b)
  chunks_from zero s b few size rest = rw (none_left b (omega arith)) (no_chunk s b size rest (omega arith))
  chunks_from (suc f) s b few size rest = ⊎_elim
      (λ (h : n ≤ length b).
      rw (one_left b h) (
        λ j step. omega (arith, ap length rest, step.1.0, size),
        λ x j step.
            let cut : b ≡ x.now ++ chunks_exact_rest j = sym rest ∙ step.1.0 in
            let long : length x.now ≡ n = step.1.1 ∙ size in
            let front : take n b ≡ x.now = rw (cut, ← long) (take-append_seam x.now (chunks_exact_rest j)) in
            let back : drop n b ≡ chunks_exact_rest j = rw (cut, ← long) (drop-append_seam x.now (chunks_exact_rest j)) in
            (sym front, chunks_from f j (drop n b) (rw length-drop (omega arith)) (step.0 ∙ size) (sym back)),
      ))
      (λ (h : length b < n). rw (none_left b h) (no_chunk s b size rest h))
      (le_or_lt n (length b))

  pub chunks_yield : (s : _) (b : List ℕ) → chunks_exact_size s ≡ n → chunks_exact_rest s ≡ b
      → YieldsList chunks_exact_steps (λ x. x.now) s (entries_of (record { fixed = n; unit = 0 }) b)
  chunks_yield s b size rest = record { runs = chunks_from (length b) s b (omega arith) size rest }
