-- What a caller learns of a span: the entries of its list, one stride after the other. Assumes nothing.
use Prim.Native.Nat.{ℕ, zero, suc, ◌+◌, ◌-◌, ◌/◌, ◌≤◌, ◌<◌}
use mathlib.Core.Bool.{false}
use mathlib.Core.List.{List, [], ◌∷◌}
use mathlib.Core.Path.{◌≡◌, refl, sym, ap, ◌∙◌}
use native.Mathlib.Nat.{sub-zero}
use native.Mathlib.Omega.{arith}
use lib.ListN.{length, take, drop, length-take, length-drop}
use lib.Seq.{take-take, take-nil}
use Rattle.entries.specs.declared.Shape.{Shape}
use Rattle.entries.specs.Entries.{entries_of}
use Rattle.entries.proofs.EntryLaws.{len_short, len_bare}
use Rattle.entries.proofs.PlaceLaws.{bare_count}
use Rattle.entries.proofs.WalkLaws.{walk_end, walk_more}
use Rattle.table.specs.Table.{row_of, VRPT, SG2D, SG3D, FSPT}
use Rattle.layout.specs.Layout.{shape_of}
use Rattle.items.specs.Lists.{entries_at}
use Rattle.items.proofs.KindLaws.{vrpt_fixed, sg2d_fixed, sg3d_fixed, fspt_fixed, vrpt_bare, sg2d_bare, sg3d_bare, fspt_bare}
use Rattle.items.proofs.PartLaws.{bare_shape}
use Rattle.spans.specs.Spans.{Tagged, SpanIn, SpanOf, rest_of, Lies}
use Rattle.spans.specs.declared.Span.{Span}
use Rattle.spans.proofs.TagLaws.{vrpt_tag, sg2d_tag, sg3d_tag, fspt_tag}

-- ---- the bytes of a span lie in the file
pub span_within : (s : List ℕ) (sp : Span) → SpanIn s sp → sp.from ≤ sp.to → sp.to ≤ length s
span_within s sp inside o = inside.within o

-- ---- from one entry to the next
drop_taken : (n m : ℕ) (l : List ℕ) → drop n (take m l) ≡ take (m - n) (drop n l)
drop_taken zero m l = rw (sub-zero m)
drop_taken (suc n) zero l = let none : 0 - suc n ≡ 0 = omega arith in rw none
drop_taken (suc n) (suc m) [] = sym (take-nil (suc m - suc n))
drop_taken (suc n) (suc m) (x ∷ l) = let same : suc m - suc n ≡ m - n = omega arith in rw same (drop_taken n m l)

-- the bytes from i up to `to`, as those behind i of all up to `to`
behind : (n : ℕ) (s : List ℕ) (i to : ℕ) → rest_of n s i to ≡ entries_of (record { fixed = n; unit = 0 }) (drop i (take to s))
unfolding rest_of
behind n s i to = rw (drop_taken i to s)

up_to : (s : List ℕ) (to : ℕ) → to ≤ length s → length (take to s) ≡ to
up_to s to h = rw length-take (omega arith)

pub rest_end : (n : ℕ) (s : List ℕ) (i to : ℕ) → to ≤ length s → to - i < n → rest_of n s i to ≡ []
rest_end n s i to within short =
    let long = up_to s to within in
    behind n s i to ∙ walk_end (record { fixed = n; unit = 0 }) (take to s) i 0 (len_short (take to s) i (record { fixed = n; unit = 0 }) (omega arith)) refl

pub rest_more : (n : ℕ) (s : List ℕ) (i to : ℕ) → to ≤ length s → 1 ≤ n → i + n ≤ to
    → rest_of n s i to ≡ take (i + n - i) (drop i s) ∷ rest_of n s (i + n) to
rest_more n s i to within some more =
    let long = up_to s to within in
    let size : i + n - i ≡ n = omega arith in
    let entry : take n (drop i (take to s)) ≡ take (i + n - i) (drop i s) = rw (drop_taken i to s, size) (take-take n (to - i) (drop i s) (omega arith)) in
    behind n s i to
    ∙ walk_more (record { fixed = n; unit = 0 }) (take to s) i n (len_bare (take to s) i (record { fixed = n; unit = 0 }) (omega arith) refl) (λ (e : n ≡ 0). omega arith)
    ∙ rw (entry, ← behind n s (i + n) to)

-- how many there are
pub rest_count : (n : ℕ) (s : List ℕ) (i to : ℕ) → to ≤ length s → 1 ≤ n → length (rest_of n s i to) ≡ (to - i) / n
unfolding rest_of
rest_count n s i to within some =
    let long : length (take (to - i) (drop i s)) ≡ to - i = rw (length-take, length-drop) (omega arith) in
    bare_count (record { fixed = n; unit = 0 }) refl some (take (to - i) (drop i s)) ∙ ap (λ (m : ℕ). m / n) long

-- ---- the entries of a list that stands in one field
lies : {s : List ℕ} {at tag : ℕ} {sp : Span} (k n : ℕ) → Tagged k tag → (row_of k).fixed ≡ n → (row_of k).text ≡ false → SpanOf s at tag sp → sp.from ≤ sp.to
    → Lies s at k n sp.from sp.to
unfolding entries_at rest_of
lies {s} {at} {tag} {sp} k n tagged bytes bare of order = record {
  order = order;
  within = of.inside.within order;
  are = ap (λ (l : List ℕ). entries_of (shape_of k) l) (of.is k tagged order)
      ∙ ap (λ (sh : Shape). entries_of sh (take (sp.to - sp.from) (drop sp.from s))) (sym (bare_shape k n bytes bare));
}

pub vrpt_lies : (s : List ℕ) (at : ℕ) (sp : Span) → SpanOf s at 1448235092 sp → sp.from ≤ sp.to → Lies s at VRPT 9 sp.from sp.to
vrpt_lies s at sp of order = lies VRPT 9 vrpt_tag vrpt_fixed vrpt_bare of order

pub sg2d_lies : (s : List ℕ) (at : ℕ) (sp : Span) → SpanOf s at 1397174852 sp → sp.from ≤ sp.to → Lies s at SG2D 8 sp.from sp.to
sg2d_lies s at sp of order = lies SG2D 8 sg2d_tag sg2d_fixed sg2d_bare of order

pub sg3d_lies : (s : List ℕ) (at : ℕ) (sp : Span) → SpanOf s at 1397175108 sp → sp.from ≤ sp.to → Lies s at SG3D 12 sp.from sp.to
sg3d_lies s at sp of order = lies SG3D 12 sg3d_tag sg3d_fixed sg3d_bare of order

pub fspt_lies : (s : List ℕ) (at : ℕ) (sp : Span) → SpanOf s at 1179865172 sp → sp.from ≤ sp.to → Lies s at FSPT 8 sp.from sp.to
fspt_lies s at sp of order = lies FSPT 8 fspt_tag fspt_fixed fspt_bare of order
