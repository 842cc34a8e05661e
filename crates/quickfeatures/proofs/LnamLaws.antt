-- Laws of the walk over FFPT: the code of all LNAMs is the code of those left. Assumes nothing.
use Prim.Native.Nat.{ℕ, ◌+◌, ◌-◌, ◌≤◌}
use mathlib.Core.Bool.{Bool, true, false, not}
use mathlib.Core.List.{List}
use mathlib.Core.Path.{◌≡◌, refl, ap, ◌∙◌}
use native.Mathlib.Omega.{arith}
use lib.ListN.{length, take, drop}
use Rattle.octets.specs.Number.{num_at}
use Rattle.octets.specs.Premises.{Reads}
use Rattle.octets.proofs.Tests.{told_yes}
use Rattle.words.specs.Words.{words_in}
use Rattle.octets.specs.Lists.{is_in}
use Rattle.table.specs.Table.{FFPT}
use Rattle.entries.specs.declared.Shape.{Shape}
use Rattle.entries.specs.Entries.{entry_len, entries_of}
use Rattle.entries.proofs.EntriesLaws.{entries_nil}
use Rattle.entries.proofs.WalkLaws.{walk_end, walk_lent, walk_long}
use Rattle.layout.specs.Layout.{shape_of}
use Rattle.items.proofs.KindLaws.{ffpt_fixed}
use Rattle.pointer.specs.Pointer.{lnams_code}
use Rattle.pointer.specs.Premises.{held_foid}
use Rattle.spans.specs.declared.Span.{Span}
use Rattle.quickvectors.proofs.CoordinateLaws.{never}
use Rattle.quickfeatures.specs.Quick.{LnamsTold, RelatedTold}

pub lnam_told : (e ws : List ℕ) (foid : ℕ) (r : Bool) → Reads e 0 8 foid → r ≡ is_in foid ws → r ≡ is_in (num_at e 0 8) ws
lnam_told e ws foid r read held = held ∙ ap (λ (n : ℕ). is_in n ws) read.is

pub record Related (b work : List ℕ) (m v at : ℕ) : Type 0 where
  pub below : at ≤ length b
  pub so : lnams_code (held_foid (words_in work (m + v) (m - v))) (entries_of (shape_of FFPT) b)
      ≡ lnams_code (held_foid (words_in work (m + v) (m - v))) (entries_of (shape_of FFPT) (drop at b))

pub lnams_no : (b work : List ℕ) (m v : ℕ) → LnamsTold b work m v false
lnams_no b work m v = record { is = λ (e : false ≡ true). never e }

pub related_start : (b work : List ℕ) (m v : ℕ) → Related b work m v 0
related_start b work m v = record { below = omega arith; so = refl }

module _ (b work : List ℕ) (m v at : ℕ) (going : Related b work m v at) (sh : Shape) (shape : sh ≡ shape_of FFPT) (n : ℕ) (size : n ≡ entry_len sh (drop at b)) where
  measured : n ≡ entry_len (shape_of FFPT) (drop at b)
  measured = size ∙ ap (λ (x : Shape). entry_len x (drop at b)) shape

  pub related_end : n ≡ 0 → LnamsTold b work m v true
  unfolding lnams_code
  related_end none = record { is = λ (e : true ≡ true). going.so ∙ rw (walk_end (shape_of FFPT) b at n measured none) }

  pub lnam_long : (n ≡ 0 → ⊥) → 8 ≤ length (take (at + n - at) (drop at b))
  lnam_long some = omega (arith, walk_long (shape_of FFPT) b at n measured some, ffpt_fixed)

  pub related_on : (q : Bool) → (n ≡ 0 → ⊥) → at + n ≤ length b → q ≡ is_in (num_at (take (at + n - at) (drop at b)) 0 8) (words_in work (m + v) (m - v)) → not q ≡ false
      → Related b work m v (at + n)
  unfolding lnams_code held_foid
  related_on q some room held pass = record {
    below = room;
    so = going.so ∙ rw (walk_lent (shape_of FFPT) b at n measured some, told_yes q (is_in (num_at (take (at + n - at) (drop at b)) 0 8) (words_in work (m + v) (m - v))) held pass);
  }

-- ---- of a span
pub related_no : (s : List ℕ) (sp : Span) (work : List ℕ) (m v : ℕ) → RelatedTold s sp work m v false
related_no s sp work m v = record { order = λ (e : false ≡ true). never e; is = λ (e : false ≡ true). never e }

-- none of a span without a byte
pub related_none : (s : List ℕ) (sp : Span) (work : List ℕ) (m v : ℕ) → sp.from ≡ sp.to → RelatedTold s sp work m v true
unfolding lnams_code
related_none s sp work m v same =
    let short : sp.to - sp.from ≡ 0 = omega arith in
    record { order = λ (e : true ≡ true). omega arith; is = λ (e : true ≡ true). rw (short, entries_nil (shape_of FFPT)) }

pub related_told : (s : List ℕ) (sp : Span) (work : List ℕ) (m v : ℕ) (r : Bool) → sp.from ≤ sp.to
    → LnamsTold (take (sp.to - sp.from) (drop sp.from s)) work m v r → RelatedTold s sp work m v r
related_told s sp work m v r order told = record { order = λ (e : r ≡ true). order; is = λ (e : r ≡ true). told.is e }
