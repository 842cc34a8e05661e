-- Every item that the walk meets has its records laid out. The walk's items are themselves an update's result, that of words with the
-- modifies noted beside them; along it no item of a name that is still to come is marked or changed. Assumes nothing.
use Prim.Native.Nat.{ℕ, suc, ◌+◌, ◌*◌, ◌≤◌, ◌<◌}
use mathlib.Core.Bool.{true, false}
use mathlib.Core.List.{List, [], ◌∷◌, map}
use mathlib.Core.Logic.{◌⊎◌, ⊎_elim}
use mathlib.Core.Path.{◌≡◌, refl, sym, ap, ◌∙◌}
use native.Mathlib.Omega.{arith}
use lib.Dec.{eqb}
use borrow.Author.Tests.{eq-eqb}
use Rattle.octets.proofs.Cases.{true_or_false}
use Rattle.words.specs.Words.{words_in}
use Rattle.items.specs.Identity.{ruin_at}
use Rattle.items.specs.Word.{name_of, word_offset, mark_of, marked_offset, marked}
use Rattle.items.proofs.IdentityLaws.{word_name}
use Rattle.names.specs.Premises.{Stands, AllStand}
use Rattle.names.proofs.HeldLaws.{stand_first, stand_rest}
use Rattle.merge.specs.Updated.{Rules, worked, updated, Over, over_none, over_more, Rising, rise_none, rise_more, AllMade, made_none, made_more}
use Rattle.merge.specs.Words.{with_ruin, with_ruins, deletes, result_words, modifies}
use Rattle.merge.specs.Places.{joined, single, double, places_from, places_of, Headed}
use Rattle.merge.specs.Woven.{Warp, Wove}
use Rattle.merge.specs.Meant.{thing_rules, AllKeyed, keyed_none, keyed_more, AllLow, low_none, low_more}
use Rattle.merge.specs.Sited.{Sits, Sited, AllSited, sited_none, sited_more, AllOffsets, places_none, places_more}
use Rattle.merge.specs.declared.walk.At.{At}
use Rattle.merge.specs.declared.weave.Woven.{Woven}
use Rattle.merge.proofs.UpdatedLaws.{lt_or_le, worked_past, worked_new, worked_gone, worked_edit}
use Rattle.merge.proofs.UpdateLaws.{true_false}
use Rattle.merge.proofs.RuinLaws.{low_mark, low_offset, set_mark, set_offset, set_name, ruin_name, ruin_set, ruin_deletes, ruin_same, strict_ruins}
use Rattle.merge.proofs.JoinedLaws.{joined_updated}
use Rattle.merge.proofs.WovenLaws.{strict_rising}

-- ---- the record of a word
stands_sits : (such : ℕ → Type 0) {s : List ℕ} (w v : ℕ) → such (word_offset w) → Stands s w → marked_offset v ≡ word_offset w → name_of v ≡ name_of w → Sits such s v
stands_sits such {s} w v is stands place name = record {
  is = rw place is;
  laid = rw place stands.laid;
  known = rw place stands.known;
  name = rw (place, name) (ap (λ (x : ℕ). name_of x) stands.is ∙ word_name s (word_offset w) (omega arith));
}

pub low_sits : (such : ℕ → Type 0) {s : List ℕ} (w : ℕ) → such (word_offset w) → Stands s w → word_offset w < 8388608 → Sits such s w
low_sits such w is stands h = stands_sits such w w is stands (low_offset w h) refl

pub mark_sits : (such : ℕ → Type 0) {s : List ℕ} (w : ℕ) → such (word_offset w) → Stands s w → word_offset w < 8388608 → Sits such s (marked w)
mark_sits such w is stands h = stands_sits such w (marked w) is stands (set_offset w ∙ low_offset w h) (set_name w)

-- ---- the walk's items as things
abbrev key_at : At → ℕ
key_at p = name_of p.word

abbrev changed_at : ℕ → At → At
changed_at u p = record { word = p.word; change = 1; by = u }

abbrev rules : Rules At ℕ
rules = thing_rules key_at single changed_at

-- an item whose name is below n is of the cell, and not changed yet
record Still (P Q : ℕ → Type 0) (a b : List ℕ) (n : ℕ) (p : At) : Type 0 where
  pub sited : Sited P Q a b p
  pub plain : key_at p < n → mark_of p.word ≡ 0
  pub alone : key_at p < n → p.change ≡ 0

data AllStill (P Q : ℕ → Type 0) (a b : List ℕ) (n : ℕ) : List At → Type 0 where
  still_none : AllStill P Q a b n []
  still_more : {p : At} {ps : List At} → Still P Q a b n p → AllStill P Q a b n ps → AllStill P Q a b n (p ∷ ps)

module _ {P Q : ℕ → Type 0} {a b : List ℕ} where
  still_less : (k n : ℕ) (l : List At) → k ≤ n → AllStill P Q a b n l → AllStill P Q a b k l
  still_less k n [] h still_none = still_none
  still_less k n (p ∷ l) h (still_more s rest) =
      still_more {p = p} (record { sited = s.sited; plain = λ low. s.plain (omega arith); alone = λ low. s.alone (omega arith) }) (still_less k n l h rest)

  still_sited : (n : ℕ) (l : List At) → AllStill P Q a b n l → AllSited P Q a b l
  still_sited n [] still_none = sited_none
  still_sited n (p ∷ l) (still_more s rest) = sited_more s.sited (still_sited n l rest)

  still_cell : (n : ℕ) (cs : List ℕ) → AllOffsets P cs → AllStand a cs → AllLow cs → AllStill P Q a b n (map single cs)
  still_cell n [] places_none stand low_none = still_none
  still_cell n (c ∷ cs) (places_more is such) stand (low_more h low) =
      still_more {p = single c} (record {
        sited = record {
          mark = λ (e : mark_of c ≡ 1). absurd (omega (arith, low_mark c h));
          plain = λ (e : mark_of c ≡ 0). low_sits P c is (stand_first stand) h;
          held = λ e. absurd (omega arith);
          by = λ e. absurd (omega arith);
          same = λ e. absurd (omega arith);
          edit = λ e. absurd (omega arith);
        };
        plain = λ low. low_mark c h;
        alone = λ low. refl;
      }) (still_cell n cs such (stand_rest stand) low)

  -- ---- one record w of the update, all names of those before it being above its own
  module _ (k w : ℕ) (is : Q (word_offset w)) (stands : Stands b w) (h : word_offset w < 8388608) (less : k ≤ name_of w) where
    new_still : Still P Q a b k (single (marked (with_ruin b w)))
    new_still =
        let name : name_of (marked (with_ruin b w)) ≡ name_of w = set_name (with_ruin b w) ∙ ruin_name b w in
        record {
          sited = record {
            mark = λ e. rw (ruin_set b w) (mark_sits Q w is stands h);
            plain = λ (e : mark_of (marked (with_ruin b w)) ≡ 0). absurd (omega (arith, set_mark (with_ruin b w)));
            held = λ e. absurd (omega arith);
            by = λ e. absurd (omega arith);
            same = λ e. absurd (omega arith);
            edit = λ e. absurd (omega arith);
          };
          plain = λ low. absurd (omega arith);
          alone = λ low. absurd (omega arith);
        }

    edit_still : (p : At) → Still P Q a b (suc (name_of w)) p → key_at p ≡ name_of (with_ruin b w) → deletes (with_ruin b w) ≡ false → Still P Q a b k (changed_at (with_ruin b w) p)
    edit_still p s same keep =
        let ruin : eqb (ruin_at b (word_offset w)) 2 ≡ false = sym (ruin_deletes b w h) ∙ keep in
        let same_word : with_ruin b w ≡ w = ruin_same b w ruin in
        let name = ruin_name b w in
        let plain : mark_of p.word ≡ 0 = s.plain (omega arith) in
        record {
          sited = record {
            mark = λ (e : mark_of p.word ≡ 1). absurd (omega arith);
            plain = s.sited.plain;
            held = λ e. plain;
            by = λ e. rw same_word (low_sits Q w is stands h);
            same = λ e. sym same;
            edit = λ e f. true_false (sym (eq-eqb (ruin_at b (word_offset w)) 2 (rw (same_word, low_offset w h) at f)) ∙ ruin);
          };
          plain = λ low. absurd (omega arith);
          alone = λ low. absurd (omega arith);
        }

    past_still : (p : At) → Still P Q a b (suc (name_of w)) p → Still P Q a b k p
    past_still p s = record { sited = s.sited; plain = λ low. s.plain (omega arith); alone = λ low. s.alone (omega arith) }

    still_by : (p : At) (l : List At) → Still P Q a b (suc (name_of w)) p → AllStill P Q a b (suc (name_of w)) l → AllStill P Q a b k (worked rules (with_ruin b w) l)
        → (key_at p < name_of (with_ruin b w)) ⊎ (name_of (with_ruin b w) ≤ key_at p) → (name_of (with_ruin b w) < key_at p) ⊎ (key_at p ≤ name_of (with_ruin b w))
        → (deletes (with_ruin b w) ≡ true) ⊎ (deletes (with_ruin b w) ≡ false) → AllStill P Q a b k (worked rules (with_ruin b w) (p ∷ l))
    still_by p l s rest on low high gone =
        let by = rules in
        let u = with_ruin b w in
        let others : AllStill P Q a b k l = still_less k (suc (name_of w)) l (omega arith) rest in
        ⊎_elim (λ (x : key_at p < name_of u). rw (worked_past by u p l x) (still_more (past_still p s) on))
        (λ (x : name_of u ≤ key_at p).
        ⊎_elim (λ (y : name_of u < key_at p). rw (worked_new by u p l y) (still_more new_still (still_more (past_still p s) others)))
        (λ (y : key_at p ≤ name_of u).
        ⊎_elim (λ (g : deletes u ≡ true). rw (worked_gone by u p l (omega arith) g) others)
        (λ (g : deletes u ≡ false). rw (worked_edit by u p l (omega arith) g) (still_more (edit_still p s (omega arith) g) others)) gone) high) low

    still_worked : (l : List At) → AllStill P Q a b (suc (name_of w)) l → AllStill P Q a b k (worked rules (with_ruin b w) l)
    unfolding worked
    still_worked [] still_none = still_more new_still still_none
    still_worked (p ∷ l) (still_more s rest) =
        let n = name_of (with_ruin b w) in
        still_by p l s rest (still_worked l rest) (lt_or_le (key_at p) n) (lt_or_le n (key_at p)) (true_or_false (deletes (with_ruin b w)))

-- ---- all of them
module _ {P Q : ℕ → Type 0} {a b : List ℕ} (cs : List ℕ) (such : AllOffsets P cs) (held : AllStand a cs) (cell : AllLow cs) where
  still_updated : (n : ℕ) (ws : List ℕ) → Over (λ (w : ℕ). name_of w) n ws → Rising (λ (w : ℕ). name_of w) ws → AllOffsets Q ws → AllStand b ws → AllLow ws
      → AllStill P Q a b (suc n) (updated rules (map single cs) (with_ruins b ws))
  unfolding updated with_ruins
  still_updated n [] over_none rise_none places_none stand low_none = still_cell (suc n) cs such held cell
  still_updated n (w ∷ ws) (over_more less rest) (rise_more over up) (places_more is more) stand (low_more h low) =
      still_worked (suc n) w is (stand_first stand) h (omega arith) (updated rules (map single cs) (with_ruins b ws))
      (still_updated (name_of w) ws over up more (stand_rest stand) low)

  sited_updated : (ws : List ℕ) → Rising (λ (w : ℕ). name_of w) ws → AllOffsets Q ws → AllStand b ws → AllLow ws
      → AllSited P Q a b (updated rules (map single cs) (with_ruins b ws))
  unfolding updated with_ruins
  sited_updated [] rise_none places_none stand low_none = still_sited 0 (map single cs) (still_cell 0 cs such held cell)
  sited_updated (w ∷ ws) (rise_more over up) (places_more is more) stand (low_more h low) =
      let rest = updated rules (map single cs) (with_ruins b ws) in
      still_sited 0 (worked rules (with_ruin b w) rest)
      (still_worked 0 w is (stand_first stand) h (omega arith) rest (still_updated (name_of w) ws over up more (stand_rest stand) low))

single_keyed : (cs : List ℕ) → AllKeyed key_at single cs
single_keyed [] = keyed_none
single_keyed (c ∷ cs) = keyed_more refl (single_keyed cs)

single_made : (us : List ℕ) → AllMade rules us
single_made [] = made_none
single_made (u ∷ us) = made_more {u = u} (set_name u) (single_made us)

module _ {P Q : ℕ → Type 0} {a b work : List ℕ} {n m : ℕ} {next : List ℕ} {r : Woven} (wove : Wove b work n m next r) (warp : Warp b work n m) where
  -- each item that the walk meets has its records laid out
  pub woven_sited : AllOffsets P (words_in work (n + m) n) → AllOffsets Q (words_in work (n + m + n) m) → AllStand a (words_in work (n + m) n) → AllLow (words_in work (n + m) n)
      → AllLow (words_in work (n + m + n) m)
      → AllSited P Q a b (places_of next (2 * (n + m)) r.count r.edits)
  woven_sited such more held cell low =
      let cs = words_in work (n + m) n in
      let ws = words_in work (n + m + n) m in
      let us = with_ruins b ws in
      let is : joined single double (result_words cs us) (modifies cs us) ≡ updated rules (map single cs) us =
      joined_updated key_at single changed_at (λ (u : ℕ) (p : At). refl) cs us (single_keyed cs) (single_made us) (strict_rising cs warp.cell)
      (strict_rising us (strict_ruins b ws warp.update)) in
      rw (wove.places, is) (sited_updated cs such held cell ws (strict_rising ws warp.update) more warp.stand low)

-- ---- along the walk
module _ {P Q : ℕ → Type 0} {a b s : List ℕ} {end count edits i j : ℕ} {p : At} (head : Headed s end count edits i j p)
    (all : AllSited P Q a b (places_from s end count edits i j)) where
  here : {q : At} {ps : List At} → AllSited P Q a b (q ∷ ps) → Sited P Q a b q
  here (sited_more sited rest) = sited

  behind : {q : At} {ps : List At} → AllSited P Q a b (q ∷ ps) → AllSited P Q a b ps
  behind (sited_more sited rest) = rest

  pub walk_sited : Sited P Q a b p
  walk_sited = here (rw head.is at all)

  pub walk_rest : AllSited P Q a b (places_from s end count edits (i + 1) (j + p.change))
  walk_rest = behind (rw head.is at all)
