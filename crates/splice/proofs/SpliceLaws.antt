-- An edit of entries is a splice of bytes (`edited_bytes`): what is held before the place of the index, what is brought, what is held
-- from the place behind those that go. Assumes nothing.
use Prim.Native.Nat.{ℕ, ◌+◌, ◌-◌, ◌≤◌}
use mathlib.Core.Bool.{Bool, true, false, not}
use mathlib.Core.List.{List, ◌++◌, flatten}
use mathlib.Core.Path.{◌≡◌, refl, sym, ap, ◌∙◌}
use native.Mathlib.Omega.{arith}
use lib.ListN.{length, take, drop, length-append, length-drop, take-append-drop}
use lib.Seq.{take_all, take-add, drop-append_seam}
use Rattle.std.specs.Prelude.{Option, Some, None}
use Rattle.octets.specs.Area.{Wrote}
use Rattle.octets.proofs.AreaLaws.{wrote_join, wrote_as}
use Rattle.octets.proofs.Tests.{told_no, told_yes}
use Rattle.entries.specs.declared.Shape.{Shape}
use Rattle.entries.specs.declared.Extent.{Extent}
use Rattle.entries.specs.Entries.{entries_of, extent_of}
use Rattle.entries.specs.Premises.{Whole, place}
use Rattle.entries.proofs.EntriesLaws.{flatten_append}
use Rattle.entries.proofs.PlaceLaws.{place_front, place_back, place_within}
use Rattle.edits.specs.Control.{gone, Allowed, edited, edited_by}
use Rattle.edits.specs.Lists.{list_allowed, list_edited}
use Rattle.edits.proofs.ControlLaws.{allowed_numbers}
use Rattle.splice.specs.declared.control.Control.{Control}
use Rattle.splice.specs.Given.{numbers_of, option_of}
use Rattle.splice.specs.Put.{Two, ListPut}
use Rattle.splice.proofs.PutLaws.{put_no, put_yes}

-- ---- three parts, one behind the other
whole_part : (to : ℕ) (l : List ℕ) → take (length l - to) (drop to l) ≡ drop to l
whole_part to l = take_all (length l - to) (drop to l) (rw length-drop (omega arith))

pub parts_put : {a b c d : List ℕ} {at i j r : ℕ} {brought : List ℕ} (held : List ℕ) (from to : ℕ) → Wrote a at (take (from - 0) (drop 0 held)) b i → Wrote b i brought c j
    → Wrote c j (take (length held - to) (drop to held)) d r → Wrote a at (take from held ++ (brought ++ drop to held)) d r
parts_put held from to f g h =
    let front : from - 0 ≡ from = omega arith in
    wrote_join (wrote_as (take from held) (rw front) f) (wrote_join g (wrote_as (drop to held) (whole_part to held) h))

-- ---- places in bytes
pub places_rise : (sh : Shape) (held : List ℕ) (k g from to : ℕ) → from ≡ place sh k held → to ≡ place sh (k + g) held → from ≤ to
unfolding place
places_rise sh held k g from to f t =
    let es = entries_of sh held in
    let more : flatten (take (k + g) es) ≡ flatten (take k es) ++ flatten (take g (drop k es)) =
    ap flatten (take-add k g es) ∙ flatten_append (take k es) (take g (drop k es)) in
    omega (arith, f, t, ap length more, length-append (flatten (take k es)) (flatten (take g (drop k es))))

-- g entries on from entry k, which starts at `from`, r bytes on
module _ (sh : Shape) (held : List ℕ) (k g from r : ℕ) (f : from ≡ place sh k held) (e : r ≡ place sh g (take (length held - from) (drop from held))) where
  pub place_on : from + r ≡ place sh (k + g) held
  unfolding place
  place_on =
      let es = entries_of sh held in
      let back : entries_of sh (drop from held) ≡ drop k es = ap (λ (n : ℕ). entries_of sh (drop n held)) f ∙ place_back sh k held in
      let rest : r ≡ length (flatten (take g (drop k es))) =
      e ∙ ap (λ (l : List ℕ). length (flatten (take g (entries_of sh l)))) (whole_part from held) ∙ ap (λ (l : List (List ℕ)). length (flatten (take g l))) back in
      let more : flatten (take (k + g) es) ≡ flatten (take k es) ++ flatten (take g (drop k es)) =
      ap flatten (take-add k g es) ∙ flatten_append (take k es) (take g (drop k es)) in
      omega (arith, f, rest, ap length more, length-append (flatten (take k es)) (flatten (take g (drop k es))))

  pub place_on_within : from + r ≤ length held
  place_on_within = let all = place_within sh (k + g) held in omega (arith, place_on)

-- what stands from a place on is the entries from it on
place_rest : (sh : Shape) (k : ℕ) (bs : List ℕ) → Whole sh bs → flatten (drop k (entries_of sh bs)) ≡ drop (place sh k bs) bs
unfolding place
place_rest sh k bs w =
    let es = entries_of sh bs in
    let split : bs ≡ flatten (take k es) ++ flatten (drop k es) =
    sym w.is ∙ ap flatten (sym (take-append-drop k es)) ∙ flatten_append (take k es) (drop k es) in
    sym (ap (λ (l : List ℕ). drop (length (flatten (take k es))) l) split ∙ drop-append_seam (flatten (take k es)) (flatten (drop k es)))

pub edited_bytes : {sh : Shape} {held brought : List ℕ} (before out : ℕ) → Whole sh held → Whole sh brought
    → flatten (edited before out (entries_of sh held) (entries_of sh brought)) ≡ take (place sh before held) held ++ (brought ++ drop (place sh (before + out) held) held)
unfolding edited
edited_bytes {sh} {held} {brought} before out w v =
    let es = entries_of sh held in
    let new = entries_of sh brought in
    flatten_append (take before es) (new ++ drop (before + out) es)
    ∙ rw (flatten_append new (drop (before + out) es), sym (place_front sh before held), place_rest sh (before + out) held w, v.is)

-- ---- the verdict, from the two extents
pub counts_told : (sh : Shape) (held brought : List ℕ) (o : Option Control) (all new : Extent) (may : Bool) → all ≡ extent_of sh held → new ≡ extent_of sh brought
    → may ≡ list_allowed (option_of o) all.count new.count → may ≡ list_allowed (option_of o) (length (entries_of sh held)) (length (entries_of sh brought))
counts_told sh held brought o all new may held_is brought_is told = told ∙ rw (held_is, brought_is)

module _ {sh : Shape} {held brought : List ℕ} (two : Two sh held brought) where
  pub edited_put : (c : Control) {a b : List ℕ} {at r : ℕ} (from to g : ℕ) → from ≡ place sh (c.index - 1) held → to ≡ place sh (c.index - 1 + g) held → g ≡ gone (numbers_of c)
      → Wrote a at (take from held ++ (brought ++ drop to held)) b r → Wrote a at (flatten (edited_by (numbers_of c) (entries_of sh held) (entries_of sh brought))) b r
  unfolding edited_by
  edited_put c from to g f t e w =
      wrote_as _ (rw (f, t, e) (sym (edited_bytes (c.index - 1) (gone (numbers_of c)) two.old two.new))) w

  -- ---- the three ways out
  module _ (o : Option Control) (may : Bool) (verdict : may ≡ list_allowed (option_of o) (length (entries_of sh held)) (length (entries_of sh brought))) where
    pub spliced_no : (a : List ℕ) (at : ℕ) → not may ≡ true
        → ListPut (list_allowed (option_of o) (length (entries_of sh held)) (length (entries_of sh brought)))
        (flatten (list_edited (option_of o) (entries_of sh held) (entries_of sh brought))) a at a None
    spliced_no a at h = put_no _ a at (told_no may _ verdict h) refl

    pub spliced_without : {a b : List ℕ} {at r : ℕ} → not may ≡ false → o ≡ None → Wrote a at held b r
        → ListPut (list_allowed (option_of o) (length (entries_of sh held)) (length (entries_of sh brought)))
        (flatten (list_edited (option_of o) (entries_of sh held) (entries_of sh brought))) a at b (Some r)
    unfolding option_of list_edited
    spliced_without h is w = put_yes (told_yes may _ verdict h) (wrote_as _ (rw is (sym two.old.is)) w)

    module _ {c : Control} (is : o ≡ Some c) (h : not may ≡ false) where
      pub spliced_allowed : Allowed (numbers_of c) (length (entries_of sh held)) (length (entries_of sh brought))
      unfolding option_of list_allowed
      spliced_allowed = allowed_numbers _ _ _ (rw is at (told_yes may _ verdict h))

      pub spliced_with : {a b : List ℕ} {at r : ℕ} → Wrote a at (flatten (edited_by (numbers_of c) (entries_of sh held) (entries_of sh brought))) b r
          → ListPut (list_allowed (option_of o) (length (entries_of sh held)) (length (entries_of sh brought)))
          (flatten (list_edited (option_of o) (entries_of sh held) (entries_of sh brought))) a at b (Some r)
      unfolding option_of list_edited
      spliced_with w = put_yes (told_yes may _ verdict h) (wrote_as _ (rw is) w)
