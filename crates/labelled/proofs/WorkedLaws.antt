-- Turns of the walks that write: over the held entries, each in its place (`worked-..`), and over those of the update, of which the new
-- ones are written (`fresh-..`). Assumes nothing.
use Prim.Native.Nat.{ℕ, ◌+◌, ◌-◌, ◌≤◌, ◌<◌}
use mathlib.Core.Bool.{Bool, true, false, not, ◌&&◌}
use mathlib.Core.List.{List, ◌∷◌, ◌++◌, flatten}
use mathlib.Core.Logic.{⊎_elim}
use mathlib.Core.Path.{◌≡◌, refl, sym, ap, ◌∙◌}
use native.Mathlib.Omega.{arith}
use lib.ListN.{length, take, drop, get_or, length-append, length-drop}
use lib.Seq.{length-take-le}
use lib.Dec.{eqb}
use borrow.Author.Tests.{eq-eqb, ne_eqb, not-true, not-false}
use Rattle.std.specs.Prelude.{Option}
use Rattle.std.specs.Bool.{then_some}
use Rattle.octets.specs.Area.{Wrote, Going}
use Rattle.octets.proofs.AreaLaws.{wrote_as, wrote_none, going_step, going_end, going_room, going_length}
use Rattle.octets.proofs.Cases.{true_or_false}
use Rattle.entries.specs.Entries.{entry_len, entries_of}
use Rattle.entries.proofs.EntriesLaws.{flatten_append}
use Rattle.entries.proofs.WalkLaws.{walk_end, walk_more}
use Rattle.attributes.specs.Attributes.{attribute, label_of, is_removal}
use Rattle.edits.specs.OnePass.{instead, worked}
use Rattle.splice.specs.Put.{ListPut}
use Rattle.labelled.specs.Table.{Labelled, Indexed, used, cleared, Facing, new_of, new_by, found_of, found_by}
use Rattle.splice.proofs.PutLaws.{put_no, put_yes}
use Rattle.labelled.proofs.TableLaws.{Passing, passing_here}

-- ---- the held entries
module _ (held brought : List ℕ) (at n : ℕ) (size : n ≡ entry_len attribute (drop at held)) where
  pub worked_end : {a b : List ℕ} {start next : ℕ} {all : List ℕ} → n ≡ 0
      → Going a start all b next (flatten (worked label_of is_removal (entries_of attribute (drop at held)) (entries_of attribute brought))) → Wrote a start all b next
  unfolding worked flatten
  worked_end z g = going_end g (rw (walk_end attribute held at n size z))

  module _ (some : n ≡ 0 → ⊥) where
    pub worked_facing : {before t : List ℕ} (label : ℕ) → Labelled held brought → Indexed brought before → Passing used held before t at → at + n ≤ length held
        → label ≡ label_of (take n (drop at held)) → label < 65536 → Facing held at n brought (get_or t label 0)
    worked_facing {before} {t} label two ix p fit told small = record {
      within = fit;
      once = two.once_new;
      is = passing_here p n size some label told small ∙ ix.is label small ∙ rw told;
    }

    worked_parts : flatten (worked label_of is_removal (entries_of attribute (drop at held)) (entries_of attribute brought))
        ≡ flatten (instead label_of is_removal (take n (drop at held)) (entries_of attribute brought))
        ++ flatten (worked label_of is_removal (entries_of attribute (drop (at + n) held)) (entries_of attribute brought))
    unfolding worked
    worked_parts =
        let new = entries_of attribute brought in
        rw (walk_more attribute held at n size some)
        (flatten_append (instead label_of is_removal (take n (drop at held)) new) (worked label_of is_removal (entries_of attribute (drop (at + n) held)) new))

    module _ {a b : List ℕ} {start next : ℕ} {all : List ℕ}
        (g : Going a start all b next (flatten (worked label_of is_removal (entries_of attribute (drop at held)) (entries_of attribute brought)))) where
      pub worked_room : start + length all ≤ length a → next + length (flatten (instead label_of is_removal (take n (drop at held)) (entries_of attribute brought))) ≤ length b
      worked_room h = omega (
        arith,
        going_room g h,
        ap length worked_parts,
        length-append (flatten (instead label_of is_removal (take n (drop at held)) (entries_of attribute brought)))
            (flatten (worked label_of is_removal (entries_of attribute (drop (at + n) held)) (entries_of attribute brought))),
      )

      pub worked_on : {c : List ℕ} {r : ℕ} → Wrote b next (flatten (instead label_of is_removal (take n (drop at held)) (entries_of attribute brought))) c r
          → Going a start all c r (flatten (worked label_of is_removal (entries_of attribute (drop (at + n) held)) (entries_of attribute brought)))
      worked_on w = going_step _ _ g worked_parts w

-- ---- an entry that is put where it is new
module _ (bs : List ℕ) (at n p : ℕ) where
  pub old_put : (a : List ℕ) (next : ℕ) → p ≡ 4294967295 → next + length (new_of p (take n (drop at bs))) ≤ length a → Wrote a next (new_of p (take n (drop at bs))) a next
  unfolding new_of
  old_put a next h room = rw (eq-eqb p 4294967295 h) (wrote_none a next (omega (arith, room)))

  module _ (h : p ≡ 4294967295 → ⊥) where
    new_is : new_of p (take n (drop at bs)) ≡ take (at + n - at) (drop at bs)
    unfolding new_of
    new_is = let long : at + n - at ≡ n = omega arith in rw (ne_eqb p 4294967295 h, long)

    pub new_room : (next room : ℕ) → at + n ≤ length bs → next + length (new_of p (take n (drop at bs))) ≤ room → next + (at + n - at) ≤ room
    new_room next room fit r =
        let long : length (take (at + n - at) (drop at bs)) ≡ at + n - at = length-take-le (at + n - at) (drop at bs) (rw length-drop (omega arith)) in
        omega (arith, r, ap length new_is, long)

    pub new_put : {a b : List ℕ} {next r : ℕ} → Wrote a next (take (at + n - at) (drop at bs)) b r → Wrote a next (new_of p (take n (drop at bs))) b r
    new_put w = wrote_as _ (sym new_is) w

-- ---- whether removals have found their labels
module _ (found : Bool) (p : ℕ) (e : List ℕ) where
  pub lost_before : not found ≡ true → false ≡ (found && found_of p e)
  lost_before h = rw (not-true found h)

  module _ (h : not found ≡ false) (r : Bool) (told : r ≡ is_removal e) where
    pub no_removal : not r ≡ true → true ≡ (found && found_of p e)
    unfolding found_of
    no_removal t = rw (not-false found h, ← told, not-true r t)

    pub removal_found : not r ≡ false → eqb p 4294967295 ≡ (found && found_of p e)
    unfolding found_of
    removal_found t = rw (not-false found h, ← told, not-false r t)

-- ---- the update's entries
and_assoc : (a b c : Bool) → (a && (b && c)) ≡ ((a && b) && c)
and_assoc true b c = refl
and_assoc false b c = refl

new_cons : (t : List ℕ) (e : List ℕ) (es : List (List ℕ)) (p : ℕ) → p ≡ get_or t (label_of e) 0 → flatten (new_by t (e ∷ es)) ≡ new_of p e ++ flatten (new_by t es)
unfolding new_by new_of flatten
new_cons t e es p is =
    ⊎_elim (λ (y : eqb p 4294967295 ≡ true). rw (← is, y)) (λ (y : eqb p 4294967295 ≡ false). rw (← is, y)) (true_or_false (eqb p 4294967295))

module _ (bs before : List ℕ) (at n : ℕ) (size : n ≡ entry_len attribute (drop at bs)) where
  found_end : (found : Bool) → n ≡ 0 → found_by before (entries_of attribute bs) ≡ (found && found_by before (entries_of attribute (drop at bs)))
      → found_by before (entries_of attribute bs) ≡ found
  unfolding found_by
  found_end true z e = e ∙ rw (walk_end attribute bs at n size z)
  found_end false z e = e

  module _ (z : n ≡ 0) (found : Bool) (so : found_by before (entries_of attribute bs) ≡ (found && found_by before (entries_of attribute (drop at bs))))
      {a b : List ℕ} {start next : ℕ} {all : List ℕ} (g : Going a start all b next (flatten (new_by before (entries_of attribute (drop at bs))))) where
    pub fresh_put : {r : Option ℕ} → r ≡ then_some found next → ListPut (found_by before (entries_of attribute bs)) all a start b r
    unfolding new_by flatten
    fresh_put e =
        ⊎_elim
        (λ (t : found ≡ true). rw (e, t) (put_yes (found_end found z so ∙ t) (going_end g (rw (walk_end attribute bs at n size z)))))
        (λ (f : found ≡ false). rw (e, f) (put_no _ _ _ (found_end found z so ∙ f) (going_length g)))
        (true_or_false found)

  module _ (some : n ≡ 0 → ⊥) {t : List ℕ} (p : Passing cleared bs before t at) (label : ℕ) (told : label ≡ label_of (take n (drop at bs))) (small : label < 65536) where
    number : get_or t label 0 ≡ get_or before (label_of (take n (drop at bs))) 0
    number = passing_here p n size some label told small ∙ rw told

    fresh_parts : flatten (new_by before (entries_of attribute (drop at bs)))
        ≡ new_of (get_or t label 0) (take n (drop at bs)) ++ flatten (new_by before (entries_of attribute (drop (at + n) bs)))
    fresh_parts =
        ap (λ (es : List (List ℕ)). flatten (new_by before es)) (walk_more attribute bs at n size some)
        ∙ new_cons before (take n (drop at bs)) (entries_of attribute (drop (at + n) bs)) (get_or t label 0) number

    pub found_on : (found r : Bool) → found_by before (entries_of attribute bs) ≡ (found && found_by before (entries_of attribute (drop at bs)))
        → r ≡ (found && found_of (get_or t label 0) (take n (drop at bs)))
        → found_by before (entries_of attribute bs) ≡ (r && found_by before (entries_of attribute (drop (at + n) bs)))
    unfolding found_by
    found_on found r so e =
        so ∙ rw (walk_more attribute bs at n size some, ← number, e)
        (and_assoc found (found_of (get_or t label 0) (take n (drop at bs))) (found_by before (entries_of attribute (drop (at + n) bs))))

    module _ {a b : List ℕ} {start next : ℕ} {all : List ℕ} (g : Going a start all b next (flatten (new_by before (entries_of attribute (drop at bs))))) where
      pub fresh_room : start + length all ≤ length a → next + length (new_of (get_or t label 0) (take n (drop at bs))) ≤ length b
      fresh_room h =
          omega (
            arith,
            going_room g h,
            ap length fresh_parts,
            length-append (new_of (get_or t label 0) (take n (drop at bs))) (flatten (new_by before (entries_of attribute (drop (at + n) bs)))),
          )

      pub fresh_on : {c : List ℕ} {r : ℕ} → Wrote b next (new_of (get_or t label 0) (take n (drop at bs))) c r
          → Going a start all c r (flatten (new_by before (entries_of attribute (drop (at + n) bs))))
      fresh_on w = going_step _ _ g fresh_parts w
