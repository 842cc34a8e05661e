-- Laws of the walk over FSPT that are looked up: the rules of all are the rules of those left. Assumes nothing.
use Prim.Native.Nat.{ℕ, ◌-◌, ◌≤◌, ◌<◌}
use mathlib.Core.Bool.{Bool, true, false, not}
use mathlib.Core.List.{List, [], ◌∷◌, ◌++◌}
use mathlib.Core.Path.{◌≡◌, refl, sym, ap, ◌∙◌}
use native.Mathlib.Omega.{arith}
use lib.ListN.{length, take, drop, length-append}
use lib.Seq.{take-append_seam, drop-append_seam}
use Rattle.std.specs.Prelude.{Option, Some, None}
use Rattle.octets.proofs.Tests.{told_yes}
use Rattle.words.specs.Words.{words_in}
use Rattle.entries.specs.Entries.{entry_len, entries_of}
use Rattle.entries.proofs.EntryLaws.{entry_bare, entry_short}
use Rattle.entries.proofs.EntriesLaws.{entries_none, entries_more}
use Rattle.entries.specs.Rules.{all_of}
use Rattle.answers.specs.First.{first_by}
use Rattle.lookups.specs.Lookup.{name_in}
use Rattle.lookups.specs.LookupWords.{index_of}
use Rattle.lookups.proofs.LookupLaws.{code_at, place_less}
use Rattle.vectorshape.specs.Shape.{spatial_good}
use Rattle.pointer.specs.Pointer.{names_code}
use Rattle.spans.specs.Spans.{rest_of}
use Rattle.quickvectors.proofs.CoordinateLaws.{never}
use Rattle.quickfeatures.specs.Quick.{SpatialTold, NamesTold}

-- ---- one FSPT
pub spatial_no : (e : List ℕ) (prim : ℕ) (work : List ℕ) (m : ℕ) → SpatialTold e prim work m None
unfolding SpatialTold
spatial_no e prim work m = tt

pub spatial_told : (e : List ℕ) (prim : ℕ) (work : List ℕ) (m : ℕ) (q : Bool) (n : ℕ) (r : Option ℕ) → q ≡ spatial_good prim e → not q ≡ false → n ≡ name_in e
    → r ≡ index_of (words_in work 0 m) n → SpatialTold e prim work m r
unfolding SpatialTold
spatial_told e prim work m q n (Some i) good pass named found =
    (told_yes q (spatial_good prim e) good pass, rw named at (sym found), place_less work 0 m n (Some i) found i refl)
spatial_told e prim work m q n None good pass named found = tt

-- ---- the entries of bytes that begin with one of them
chunk_more : (n : ℕ) (rest e more : List ℕ) → 0 < n → rest ≡ e ++ more → length e ≡ n
    → entries_of (record { fixed = n; unit = 0 }) rest ≡ e ∷ entries_of (record { fixed = n; unit = 0 }) more
chunk_more n rest e more some cut long =
    let front : take n rest ≡ e = rw (cut, ← long) (take-append_seam e more) in
    let back : drop n rest ≡ more = rw (cut, ← long) (drop-append_seam e more) in
    let room : n ≤ length rest = omega (arith, ap length cut, length-append e more) in
    let size : entry_len (record { fixed = n; unit = 0 }) rest ≡ n = entry_bare (record { fixed = n; unit = 0 }) rest room refl in
    entries_more (record { fixed = n; unit = 0 }) rest (omega (arith, size)) ∙ rw (size, front, back)

chunk_none : (n : ℕ) (rest : List ℕ) → length rest < n → entries_of (record { fixed = n; unit = 0 }) rest ≡ []
chunk_none n rest h = entries_none (record { fixed = n; unit = 0 }) rest (entry_short (record { fixed = n; unit = 0 }) rest h)

-- ---- all of a span: of its bytes all, rest are those still to come
pub record Named (prim : ℕ) (work : List ℕ) (m : ℕ) (all rest : List ℕ) : Type 0 where
  pub shape : all_of (spatial_good prim) (entries_of (record { fixed = 8; unit = 0 }) all) ≡ all_of (spatial_good prim) (entries_of (record { fixed = 8; unit = 0 }) rest)
  pub names : names_code (index_of (words_in work 0 m)) (entries_of (record { fixed = 8; unit = 0 }) all)
      ≡ names_code (index_of (words_in work 0 m)) (entries_of (record { fixed = 8; unit = 0 }) rest)

pub names_no : (s : List ℕ) (from to : ℕ) (prim : ℕ) (work : List ℕ) (m : ℕ) → NamesTold s from to prim work m false
names_no s from to prim work m = record { shape = λ (e : false ≡ true). never e; names = λ (e : false ≡ true). never e }

pub named_start : (prim : ℕ) (work : List ℕ) (m : ℕ) (all rest : List ℕ) → rest ≡ all → Named prim work m all rest
named_start prim work m all rest e = rw e (record { shape = refl; names = refl })

pub named_on : {prim m : ℕ} {work all rest more : List ℕ} (e : List ℕ) {f : Option ℕ} {p : ℕ} → Named prim work m all rest → rest ≡ e ++ more → length e ≡ 8
    → SpatialTold e prim work m f → f ≡ Some p → Named prim work m all more
unfolding all_of names_code first_by SpatialTold
named_on {prim} {m} {work} {all} {rest} {more} e {f} {p} so cut long told here =
    let got : (spatial_good prim e ≡ true) × (index_of (words_in work 0 m) (name_in e) ≡ Some p) × (p < m) = rw here at told in
    let first = chunk_more 8 rest e more (omega arith) cut long in
    record { shape = so.shape ∙ rw (first, got.0); names = so.names ∙ rw (first, got.1, code_at p) }

pub named_end : {s rest work : List ℕ} {from to prim m : ℕ} → Named prim work m (take (to - from) (drop from s)) rest → length rest < 8 → NamesTold s from to prim work m true
unfolding rest_of all_of names_code
named_end {rest = rest} so short =
    let none = chunk_none 8 rest short in
    record { shape = λ (e : true ≡ true). so.shape ∙ rw none; names = λ (e : true ≡ true). so.names ∙ rw none }

pub found_below : (e : List ℕ) (prim : ℕ) (work : List ℕ) (m : ℕ) (f : Option ℕ) (p : ℕ) → SpatialTold e prim work m f → f ≡ Some p → p < m
unfolding SpatialTold
found_below e prim work m f p told here =
    let got : (spatial_good prim e ≡ true) × (index_of (words_in work 0 m) (name_in e) ≡ Some p) × (p < m) = rw here at told in
    got.2
