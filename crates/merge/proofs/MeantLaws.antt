-- What the walk over the woven words meets is what the records of the update, in their own order, make of what the words of the cell stand
-- for, whatever words stand for. Assumes nothing.
use Prim.Native.Nat.{ℕ, ◌+◌, ◌*◌, ◌≤◌, ◌<◌}
use mathlib.Core.Bool.{Bool, true, false, cond}
use mathlib.Core.List.{List, [], ◌∷◌, map}
use mathlib.Core.Logic.{◌⊎◌, ⊎_elim}
use mathlib.Core.Path.{◌≡◌, refl, sym, ap, ◌∙◌}
use native.Mathlib.Omega.{arith}
use lib.Dec.{eqb}
use lib.ListN.{length, length-map}
use Rattle.octets.proofs.Cases.{le_or_lt}
use Rattle.words.specs.Words.{words_in}
use Rattle.words.specs.Order.{insert, sorted}
use Rattle.words.proofs.OrderLaws.{insert_here, insert_later}
use Rattle.items.specs.Identity.{ruin_at}
use Rattle.items.specs.Word.{name_of, word_offset, marked}
use Rattle.merge.specs.Update.{result}
use Rattle.merge.specs.Targets.{holds, target_good}
use Rattle.merge.specs.Updated.{Rules, rules_of, worked, updated, Named, AllMade, made_none, made_more, Apart, AllFit, Over, over_none, over_more, Rising, rise_none}
use Rattle.merge.specs.Updated.{rise_more}
use Rattle.merge.specs.Words.{with_ruin, with_ruins, deletes, has_name, result_words, modifies}
use Rattle.merge.specs.Places.{single, double, thing_of, places_of}
use Rattle.merge.specs.Woven.{Warp, Wove}
use Rattle.merge.specs.Files.{change_by}
use Rattle.merge.specs.Meant.{thing_rules, AllKeyed, keyed_none, keyed_more, AllLow, low_none, low_more, Meant}
use Rattle.merge.specs.declared.weave.Woven.{Woven}
use Rattle.merge.proofs.UpdatedLaws.{made_sorted, updated_sorted}
use Rattle.merge.proofs.UpdateLaws.{result_updated, result_rising}
use Rattle.merge.proofs.RuinLaws.{ruin_name, ruin_set, ruin_deletes, ruin_same, strict_ruins}
use Rattle.merge.proofs.PlacesLaws.{places_length}
use Rattle.merge.proofs.JoinedLaws.{joined_map, keyed_result, joined_updated}
use Rattle.merge.proofs.WovenLaws.{strict_rising}

-- ---- two ways to say a change: what a delete would make of a thing doesn't matter
gone_same : {A : Type 0} (l : List A) (x y : A) (g z : Bool) → g ≡ z → (g ≡ false → x ≡ y) → cond g l (x ∷ l) ≡ cond z l (y ∷ l)
gone_same l x y true z e same = rw (← e)
gone_same l x y false z e same = rw (← e, same refl)

worked_same : {A U T : Type 0} (by : Rules A U) (like : Rules A T) (u : U) (v : T) (l : List A) → ((a : A) → by.key a ≡ like.key a) → by.name u ≡ like.name v
    → by.gone u ≡ like.gone v → by.made u ≡ like.made v → (by.gone u ≡ false → (a : A) → by.edit u a ≡ like.edit v a) → worked by u l ≡ worked like v l
unfolding worked
worked_same by like u v [] k n g m e = rw m
worked_same by like u v (a ∷ l) k n g m e =
    rw (worked_same by like u v l k n g m e, k a, n, m, gone_same l (by.edit u a) (like.edit v a) (by.gone u) (like.gone v) g (λ z. e z a))

-- ---- places below the mark, sorted or not
low_by : (x y : ℕ) (ws : List ℕ) → word_offset x < 8388608 → word_offset y < 8388608 → AllLow ws → AllLow (insert x ws) → (x ≤ y) ⊎ (y < x) → AllLow (insert x (y ∷ ws))
low_by x y ws hx hy low rest way =
    ⊎_elim (λ (h : x ≤ y). rw (insert_here x y ws h) (low_more hx (low_more hy low))) (λ (h : y < x). rw (insert_later x y ws h) (low_more hy rest)) way

low_insert : (x : ℕ) (ws : List ℕ) → word_offset x < 8388608 → AllLow ws → AllLow (insert x ws)
unfolding insert
low_insert x [] hx low_none = low_more hx low_none
low_insert x (y ∷ ws) hx (low_more hy low) = low_by x y ws hx hy low (low_insert x ws hx low) (le_or_lt x y)

low_sorted : (ws : List ℕ) → AllLow ws → AllLow (sorted ws)
unfolding sorted
low_sorted [] low_none = low_none
low_sorted (x ∷ ws) (low_more hx low) = low_insert x (sorted ws) hx (low_sorted ws low)

-- ---- what the words of a cell stand for
module _ {A : Type 0} {key : A → ℕ} {one : ℕ → A} where
  over_things : (n : ℕ) (cs : List ℕ) → AllKeyed key one cs → Over (λ (w : ℕ). name_of w) n cs → Over key n (map one cs)
  over_things n [] keyed_none over_none = over_none
  over_things n (c ∷ cs) (keyed_more e all) (over_more h b) = over_more {a = one c} (omega arith) (over_things n cs all b)

  pub rising_things : (cs : List ℕ) → AllKeyed key one cs → Rising (λ (w : ℕ). name_of w) cs → Rising key (map one cs)
  rising_things [] keyed_none rise_none = rise_none
  rising_things (c ∷ cs) (keyed_more e all) (rise_more b so) =
      rise_more {a = one c} {l = map one cs} (rw e (over_things (name_of c) cs all b)) (rising_things cs all so)

  -- a name is held just if a word has it
  pub held_names : (n : ℕ) (cs : List ℕ) → AllKeyed key one cs → holds key n (map one cs) ≡ has_name n cs
  unfolding holds has_name
  held_names n [] keyed_none = refl
  held_names n (c ∷ cs) (keyed_more e all) = rw (e, held_names n cs all)

  -- "13 Target", by words
  pub target_words : (b : List ℕ) (edit : ℕ → A → A) (cs : List ℕ) (w : ℕ) → AllKeyed key one cs
      → target_good (change_by b key one edit) (map one cs) w ≡ cond (eqb (ruin_at b (word_offset w)) 1) (cond (has_name (name_of w) cs) false true) (has_name (name_of w) cs)
  unfolding target_good
  target_words b edit cs w all = rw (held_names (name_of w) cs all)

-- ---- the words of the update
module _ {A : Type 0} (b : List ℕ) (key : A → ℕ) (one : ℕ → A) (edit : ℕ → A → A) where
  pub keyed_made : (ws : List ℕ) → AllKeyed key (λ (w : ℕ). one (marked w)) ws → AllMade (rules_of (change_by b key one edit)) ws
  keyed_made [] keyed_none = made_none
  keyed_made (w ∷ ws) (keyed_more e all) = made_more e (keyed_made ws all)

  ruins_made : (ws : List ℕ) → AllMade (rules_of (change_by b key one edit)) ws → AllMade (thing_rules key one edit) (with_ruins b ws)
  unfolding with_ruins
  ruins_made [] made_none = made_none
  ruins_made (w ∷ ws) (made_more e all) = made_more {u = with_ruin b w} (rw (ruin_set b w, ruin_name b w) e) (ruins_made ws all)

  updated_ruins : (held : List A) (ws : List ℕ) → AllLow ws → updated (thing_rules key one edit) held (with_ruins b ws) ≡ updated (rules_of (change_by b key one edit)) held ws
  unfolding updated with_ruins
  updated_ruins held [] low_none = refl
  updated_ruins held (w ∷ ws) (low_more h low) =
      rw (updated_ruins held ws low)
      (worked_same (thing_rules key one edit) (rules_of (change_by b key one edit)) (with_ruin b w) w (updated (rules_of (change_by b key one edit)) held ws)
      (λ (a : A). refl) (ruin_name b w) (ruin_deletes b w h) (ap one (ruin_set b w))
      (λ (g : deletes (with_ruin b w) ≡ false) (a : A). ap (λ (v : ℕ). edit v a) (ruin_same b w (sym (ruin_deletes b w h) ∙ g))))

-- ---- the closing law
module _ {A : Type 0} {key : A → ℕ} {one : ℕ → A} {edit : ℕ → A → A} {b work : List ℕ} {n m : ℕ} {next : List ℕ} {r : Woven}
    (wove : Wove b work n m next r) (warp : Warp b work n m) (ws : List ℕ) (come : words_in work (n + m + n) m ≡ sorted ws) (low : AllLow ws)
    (apart : Apart (λ (w : ℕ). name_of w) ws) (meant : Meant key one edit (words_in work (n + m) n) ws)
    (fit : AllFit (change_by b key one edit) (map one (words_in work (n + m) n)) ws) where
  named : Named (rules_of (change_by b key one edit))
  named = record { keep = meant.keep }

  made : AllMade (rules_of (change_by b key one edit)) ws
  made = keyed_made b key one edit ws meant.update

  rising : Rising key (map one (words_in work (n + m) n))
  rising = rising_things (words_in work (n + m) n) meant.cell (strict_rising (words_in work (n + m) n) warp.cell)

  ruined : AllMade (thing_rules key one edit) (with_ruins b (words_in work (n + m + n) m))
  ruined = rw come (ruins_made b key one edit (sorted ws) (made_sorted named (map one (words_in work (n + m) n)) rising ws made))

  by_walk : map (thing_of one edit) (places_of next (2 * (n + m)) r.count r.edits)
      ≡ updated (thing_rules key one edit) (map one (words_in work (n + m) n)) (with_ruins b (words_in work (n + m + n) m))
  by_walk =
      let cs = words_in work (n + m) n in
      let us = with_ruins b (words_in work (n + m + n) m) in
      ap (map (thing_of one edit)) wove.places
      ∙ sym (joined_map (thing_of one edit) single double (result_words cs us) (modifies cs us))
      ∙ joined_updated key one edit meant.keep cs us meant.cell ruined (strict_rising cs warp.cell)
      (strict_rising us (strict_ruins b (words_in work (n + m + n) m) warp.update))

  -- what the walk meets, one after the other, is the update's result
  pub woven_result : map (thing_of one edit) (places_of next (2 * (n + m)) r.count r.edits) ≡ result (change_by b key one edit) (map one (words_in work (n + m) n)) ws
  woven_result =
      let held = map one (words_in work (n + m) n) in
      by_walk
      ∙ rw come (updated_ruins b key one edit held (sorted ws) (low_sorted ws low))
      ∙ updated_sorted named held rising ws apart made
      ∙ sym (result_updated (change_by b key one edit) named held ws rising made apart fit)

  pub woven_count : r.count ≡ length (result (change_by b key one edit) (map one (words_in work (n + m) n)) ws)
  woven_count =
      let places = places_of next (2 * (n + m)) r.count r.edits in
      sym (places_length next (2 * (n + m)) r.count r.edits) ∙ sym (length-map places (thing_of one edit)) ∙ ap length woven_result

  -- it is in held order
  pub woven_rising : Rising key (result (change_by b key one edit) (map one (words_in work (n + m) n)) ws)
  woven_rising = result_rising (change_by b key one edit) named (map one (words_in work (n + m) n)) ws rising made apart fit

  -- and the words of the result have the names of what they stand for
  pub woven_keyed : AllKeyed key one (words_in next 0 r.count)
  woven_keyed =
      rw wove.words (keyed_result key one edit meant.keep (words_in work (n + m) n) (with_ruins b (words_in work (n + m + n) m)) meant.cell ruined)
