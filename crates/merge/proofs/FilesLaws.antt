-- From a cell and an update, neither with a name twice, to the items of the result. Assumes nothing.
use Prim.Native.Nat.{ℕ, suc, ◌+◌, ◌-◌, ◌*◌, ◌≤◌, ◌<◌}
use mathlib.Core.Bool.{Bool, true, false, cond, or-true}
use mathlib.Core.List.{List, [], ◌∷◌, map}
use mathlib.Core.Logic.{◌⊎◌, ⊎_elim}
use mathlib.Core.Path.{◌≡◌, refl, sym, ap, ◌∙◌}
use native.Mathlib.Omega.{arith}
use lib.Dec.{eqb}
use lib.ListN.{length, get_or}
use borrow.Author.Tests.{eq-eqb}
use Rattle.octets.proofs.ListLaws.{member_at}
use Rattle.octets.specs.Lists.{is_in}
use Rattle.octets.proofs.Cases.{true_or_false}
use Rattle.words.specs.Words.{words_in}
use Rattle.words.specs.Order.{sorted}
use Rattle.words.proofs.OrderLaws.{sorted_member}
use Rattle.iso8211.specs.File.{record_at}
use Rattle.items.specs.Word.{name_of, word_offset}
use Rattle.items.proofs.IdentityLaws.{word_offset_lem}
use Rattle.names.specs.NameWords.{name_words, word_twice}
use Rattle.names.proofs.ItemsLaws.{twice_words}
use Rattle.names.specs.Premises.{Readable, Stands, AllStand}
use Rattle.names.specs.Names.{first_item, twice_of}
use Rattle.names.specs.declared.twice.Repeat.{Repeat}
use Rattle.names.proofs.HeldLaws.{stand_first, stand_rest}
use Rattle.names.proofs.WalkLaws.{at_inside}
use Rattle.names.proofs.NamedLaws.{word_record}
use Rattle.names.proofs.OnceLaws.{once_rising, word_stands, stand_sorted}
use Rattle.merge.specs.Update.{result}
use Rattle.merge.specs.Updated.{Differs, diff_none, diff_more, Apart, apart_none, apart_more, Rising, AllFit}
use Rattle.merge.specs.Places.{thing_of, places_of}
use Rattle.merge.specs.Woven.{Warp, Wove}
use Rattle.merge.specs.Meant.{AllKeyed, keyed_none, keyed_more, AllLow, low_none, low_more, Meant}
use Rattle.merge.specs.Sited.{AllSited, AllOffsets, places_none, places_more}
use Rattle.merge.specs.Files.{Brought, change_by, RecordOf}
use Rattle.merge.specs.declared.weave.Woven.{Woven}
use Rattle.merge.proofs.UpdateLaws.{true_false}
use Rattle.merge.proofs.MeantLaws.{woven_result, woven_count, woven_rising, woven_keyed}
use Rattle.merge.proofs.SitedLaws.{woven_sited}

-- ---- code 7's verdict: no two names are the same in the file's order
some_index : (k p : ℕ) → 1 ≤ k → ◌≡◌ {A = Repeat} (record { index = k; offset = p }) (record { index = 0; offset = 0 }) → ⊥
some_index k p h e = let z : k ≡ 0 = ap (λ (r : Repeat). r.index) e in omega arith

twice_differs : (k n : ℕ) (seen ws : List ℕ) → 1 ≤ k → word_twice k seen ws ≡ record { index = 0; offset = 0 } → is_in n seen ≡ true → Differs (λ (w : ℕ). name_of w) n ws
unfolding word_twice is_in
twice_differs k n seen [] h e there = diff_none
twice_differs k n seen (w ∷ ws) h e there =
    pick (true_or_false (is_in (name_of w) seen)) (λ (f : word_twice (k + 1) (name_of w ∷ seen) ws ≡ record { index = 0; offset = 0 }).
    twice_differs (k + 1) n (name_of w ∷ seen) ws (omega arith) f (rw there (or-true (eqb (name_of w) n)))) e
  where
    pick : (is_in (name_of w) seen ≡ true) ⊎ (is_in (name_of w) seen ≡ false)
        → (word_twice (k + 1) (name_of w ∷ seen) ws ≡ record { index = 0; offset = 0 } → Differs (λ (w : ℕ). name_of w) n ws)
        → cond (is_in (name_of w) seen) (record { index = k; offset = word_offset w }) (word_twice (k + 1) (name_of w ∷ seen) ws) ≡ record { index = 0; offset = 0 }
        → Differs (λ (w : ℕ). name_of w) n (w ∷ ws)
    pick way rest f =
        ⊎_elim (λ (g : is_in (name_of w) seen ≡ true). absurd (some_index k (word_offset w) h (rw g at f)))
        (λ (g : is_in (name_of w) seen ≡ false). diff_more {u = w} (λ (same : n ≡ name_of w). true_false (sym there ∙ rw same g)) (rest (rw g at f))) way

pub twice_apart : (k : ℕ) (seen ws : List ℕ) → 1 ≤ k → word_twice k seen ws ≡ record { index = 0; offset = 0 } → Apart (λ (w : ℕ). name_of w) ws
unfolding word_twice is_in
twice_apart k seen [] h e = apart_none
twice_apart k seen (w ∷ ws) h e =
    pick (true_or_false (is_in (name_of w) seen)) (twice_apart (k + 1) (name_of w ∷ seen) ws (omega arith)) e
  where
    pick : (is_in (name_of w) seen ≡ true) ⊎ (is_in (name_of w) seen ≡ false)
        → (word_twice (k + 1) (name_of w ∷ seen) ws ≡ record { index = 0; offset = 0 } → Apart (λ (w : ℕ). name_of w) ws)
        → cond (is_in (name_of w) seen) (record { index = k; offset = word_offset w }) (word_twice (k + 1) (name_of w ∷ seen) ws) ≡ record { index = 0; offset = 0 }
        → Apart (λ (w : ℕ). name_of w) (w ∷ ws)
    pick way rest f =
        ⊎_elim (λ (g : is_in (name_of w) seen ≡ true). absurd (some_index k (word_offset w) h (rw g at f)))
        (λ (g : is_in (name_of w) seen ≡ false).
        let on = rw g at f in
        apart_more {u = w} (twice_differs (k + 1) (name_of w) (name_of w ∷ seen) ws (omega arith) on (rw (eq-eqb (name_of w) (name_of w) refl))) (rest on)) way

pub once_apart : {b : List ℕ} {m : ℕ} → Readable true b m → twice_of true b m ≡ record { index = 0; offset = 0 } → Apart (λ (w : ℕ). name_of w) (name_words true b m)
unfolding first_item
once_apart {b} {m} read e =
    twice_apart 2 [] (name_words true b m) (omega arith) (sym (twice_words b m read.framed read.short true read.head) ∙ e)

-- ---- the records of a file begin below the mark
low_each : (ws : List ℕ) → ((p : ℕ) → p < length ws → word_offset (get_or ws p 0) < 8388608) → AllLow ws
low_each [] each = low_none
low_each (w ∷ ws) each = low_more (each 0 (omega arith)) (low_each ws (λ p h. each (suc p) (omega arith)))

places_each : (such : ℕ → Type 0) (ws : List ℕ) → ((p : ℕ) → p < length ws → such (word_offset (get_or ws p 0))) → AllOffsets such ws
places_each such [] each = places_none
places_each such (w ∷ ws) each = places_more (each 0 (omega arith)) (places_each such ws (λ p h. each (suc p) (omega arith)))

module _ (update : Bool) {s : List ℕ} {n : ℕ} (readable : Readable update s n) where
  -- a word of the file is that of one of its records
  word_of : (p : ℕ) → p < length (sorted (name_words update s n)) → RecordOf update s n (word_offset (get_or (sorted (name_words update s n)) p 0))
  word_of p h =
      let w = get_or (sorted (name_words update s n)) p 0 in
      let r = word_record update s n w (member_at (sorted (name_words update s n)) p h) in
      let k = r.0 in
      let inside = at_inside s n k (record_at s k) readable.framed r.2 refl in
      let short = readable.short in
      let place : word_offset w ≡ record_at s k = ap (λ (v : ℕ). word_offset v) (sym r.3) ∙ word_offset_lem s (record_at s k) (omega arith) in
      record { index = k; low = r.1; high = r.2; is = place; word = p; there = h; stands = refl }

  pub held_places : AllOffsets (RecordOf update s n) (sorted (name_words update s n))
  held_places =
      let ws = sorted (name_words update s n) in
      places_each (RecordOf update s n) ws word_of

  pub file_low : AllLow (name_words update s n)
  file_low =
      let ws = name_words update s n in
      low_each ws (λ p h. let low = (word_stands update readable (get_or ws p 0) (sorted_member (get_or ws p 0) ws ∙ member_at ws p h)).1 in omega arith)

  pub held_low : AllLow (sorted (name_words update s n))
  held_low =
      let ws = sorted (name_words update s n) in
      low_each ws (λ p h. let low = (word_stands update readable (get_or ws p 0) (member_at ws p h)).1 in omega arith)

-- what words of records stand for has their names, if what one such word stands for has its name
pub keyed_each : {A : Type 0} (key : A → ℕ) (one : ℕ → A) {s : List ℕ} (ws : List ℕ) → ((w : ℕ) → Stands s w → word_offset w < 8388608 → key (one w) ≡ name_of w)
    → AllStand s ws → AllLow ws → AllKeyed key one ws
keyed_each key one [] name stand low_none = keyed_none
keyed_each key one (w ∷ ws) name stand (low_more h low) = keyed_more (name w (stand_first stand) h) (keyed_each key one ws name (stand_rest stand) low)

-- ---- both files
module _ {a : List ℕ} {n : ℕ} {b : List ℕ} {m : ℕ} {work : List ℕ} (brought : Brought a n b m work) (i j : ℕ) (e : i ≡ n - 3) (f : j ≡ m - 2) where
  cell_words : words_in work (i + j) i ≡ sorted (name_words false a n)
  cell_words = rw (e, f) brought.held

  update_words : words_in work (i + j + i) j ≡ sorted (name_words true b m)
  update_words = rw (e, f) brought.come

  pub brought_warp : Warp b work i j
  brought_warp =
      let room = brought.room in
      record {
        room = omega arith;
        cell = rw cell_words (once_rising false brought.cell_read brought.cell_once);
        update = rw update_words (once_rising true brought.update_read brought.update_once);
        stand = rw update_words (stand_sorted true brought.update_read);
      }

  module _ {next : List ℕ} {r : Woven} (wove : Wove b work i j next r) where
    -- the walk meets records that are laid out
    pub brought_sited : AllSited (RecordOf false a n) (RecordOf true b m) a b (places_of next (2 * (i + j)) r.count r.edits)
    brought_sited =
        woven_sited wove brought_warp (rw cell_words (held_places false brought.cell_read)) (rw update_words (held_places true brought.update_read))
        (rw cell_words (stand_sorted false brought.cell_read)) (rw cell_words (held_low false brought.cell_read))
        (rw update_words (held_low true brought.update_read))

    module _ {A : Type 0} {key : A → ℕ} {one : ℕ → A} {edit : ℕ → A → A} (meant : Meant key one edit (sorted (name_words false a n)) (name_words true b m))
        (fit : AllFit (change_by b key one edit) (map one (sorted (name_words false a n))) (name_words true b m)) where
      meant' : Meant key one edit (words_in work (i + j) i) (name_words true b m)
      meant' = rw cell_words meant

      fit' : AllFit (change_by b key one edit) (map one (words_in work (i + j) i)) (name_words true b m)
      fit' = rw cell_words fit

      -- and what it meets is what the update, record by record, makes of what the cell holds
      pub brought_result : map (thing_of one edit) (places_of next (2 * (i + j)) r.count r.edits)
          ≡ result (change_by b key one edit) (map one (sorted (name_words false a n))) (name_words true b m)
      brought_result =
          rw cell_words
          at (woven_result wove brought_warp (name_words true b m) update_words (file_low true brought.update_read) (once_apart brought.update_read brought.update_once)
          meant' fit')

      pub brought_count : r.count ≡ length (result (change_by b key one edit) (map one (sorted (name_words false a n))) (name_words true b m))
      brought_count =
          rw cell_words
          at (woven_count wove brought_warp (name_words true b m) update_words (file_low true brought.update_read) (once_apart brought.update_read brought.update_once)
          meant' fit')

      -- in held order again
      pub brought_rising : Rising key (result (change_by b key one edit) (map one (sorted (name_words false a n))) (name_words true b m))
      brought_rising =
          rw cell_words
          at (woven_rising wove brought_warp (name_words true b m) update_words (file_low true brought.update_read) (once_apart brought.update_read brought.update_once)
          meant' fit')

      -- the words of the result in the area have the names of what they stand for
      pub brought_keyed : AllKeyed key one (words_in next 0 r.count)
      brought_keyed = woven_keyed wove brought_warp (name_words true b m) update_words (file_low true brought.update_read)
          (once_apart brought.update_read brought.update_once) meant' fit'
