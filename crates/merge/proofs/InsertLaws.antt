-- An item of the result that comes of the update is one that its record inserts. The walk's items are themselves an update's result, and only
-- an insert brings a marked word into that. Assumes nothing.
use Prim.Native.Nat.{ℕ, ◌+◌, ◌-◌, ◌*◌, ◌<◌}
use mathlib.Core.Bool.{Bool, true, false, cond}
use mathlib.Core.List.{List, [], ◌∷◌, map}
use mathlib.Core.Logic.{⊎_elim}
use mathlib.Core.Path.{◌≡◌, refl, ◌∙◌}
use native.Mathlib.Omega.{arith}
use lib.Dec.{eqb, ltb}
use borrow.Author.Tests.{eqb-true}
use Rattle.octets.proofs.Cases.{true_or_false}
use Rattle.words.specs.Order.{sorted}
use Rattle.items.specs.Identity.{ruin_at}
use Rattle.items.specs.Word.{name_of, word_offset, mark_of, marked_offset, marked}
use Rattle.names.specs.NameWords.{name_words}
use Rattle.merge.specs.Update.{placed, without, changed, obeyed, result}
use Rattle.merge.specs.Updated.{AllFit}
use Rattle.merge.specs.Places.{single, thing_of, places_of}
use Rattle.merge.specs.Woven.{Wove}
use Rattle.merge.specs.Meant.{AllKeyed, keyed_none, keyed_more, AllLow, low_none, low_more}
use Rattle.merge.specs.Sited.{AllInsert, insert_none, insert_more}
use Rattle.merge.specs.Files.{Brought, change_by}
use Rattle.merge.specs.declared.walk.At.{At}
use Rattle.merge.specs.declared.weave.Woven.{Woven}
use Rattle.merge.proofs.RuinLaws.{low_mark, low_offset, set_offset, set_name}
use Rattle.merge.proofs.FilesLaws.{file_low, held_low, brought_result}

abbrev pub key_at : At → ℕ
key_at p = name_of p.word

abbrev pub changed_at : ℕ → At → At
changed_at u p = record { word = p.word; change = 1; by = u }

module _ (b : List ℕ) where
  some_insert : (z : Bool) {l k : List At} → AllInsert b l → AllInsert b k → AllInsert b (cond z l k)
  some_insert true f g = f
  some_insert false f g = g

  placed_insert : (p : At) (l : List At) → (mark_of p.word ≡ 1 → ruin_at b (marked_offset p.word) ≡ 1) → AllInsert b l → AllInsert b (placed key_at p l)
  unfolding placed
  placed_insert p [] is insert_none = insert_more is insert_none
  placed_insert p (q ∷ l) is (insert_more so rest) =
      some_insert (ltb (key_at q) (key_at p)) (insert_more so (placed_insert p l is rest)) (insert_more is (insert_more so rest))

  without_insert : (n : ℕ) (l : List At) → AllInsert b l → AllInsert b (without key_at n l)
  unfolding without
  without_insert n [] insert_none = insert_none
  without_insert n (q ∷ l) (insert_more so rest) =
      some_insert (eqb (key_at q) n) (without_insert n l rest) (insert_more so (without_insert n l rest))

  changed_insert : (n u : ℕ) (l : List At) → AllInsert b l → AllInsert b (changed key_at n (changed_at u) l)
  unfolding changed
  changed_insert n u [] insert_none = insert_none
  changed_insert n u (q ∷ l) (insert_more so rest) = pick (eqb (key_at q) n) (changed_insert n u l rest) where
    pick : (z : Bool) → AllInsert b (changed key_at n (changed_at u) l) → AllInsert b (cond z (changed_at u q) q ∷ changed key_at n (changed_at u) l)
    pick true more = insert_more {p = changed_at u q} so more
    pick false more = insert_more so more

  obeyed_insert : (w : ℕ) (l : List At) → word_offset w < 8388608 → AllInsert b l → AllInsert b (obeyed (change_by b key_at single changed_at) w l)
  unfolding obeyed
  obeyed_insert w l h all =
      ⊎_elim (λ (e : eqb (ruin_at b (word_offset w)) 1 ≡ true).
      rw e (placed_insert (single (marked w)) l (λ m. rw (set_offset w ∙ low_offset w h) (eqb-true (ruin_at b (word_offset w)) 1 e)) all))
      (λ (e : eqb (ruin_at b (word_offset w)) 1 ≡ false).
      rw e (some_insert (eqb (ruin_at b (word_offset w)) 2) (without_insert (name_of w) l all) (changed_insert (name_of w) w l all)))
      (true_or_false (eqb (ruin_at b (word_offset w)) 1))

  result_insert : (l : List At) (ws : List ℕ) → AllLow ws → AllInsert b l → AllInsert b (result (change_by b key_at single changed_at) l ws)
  unfolding result
  result_insert l [] low_none all = all
  result_insert l (w ∷ ws) (low_more h low) all = result_insert (obeyed (change_by b key_at single changed_at) w l) ws low (obeyed_insert w l h all)

  cell_insert : (cs : List ℕ) → AllLow cs → AllInsert b (map single cs)
  cell_insert [] low_none = insert_none
  cell_insert (c ∷ cs) (low_more h low) = insert_more {p = single c} (λ (e : mark_of c ≡ 1). absurd (omega (arith, low_mark c h))) (cell_insert cs low)

  -- an item has its word whether it is changed or not
  word_same : (z : Bool) (p : At) → (cond z (single p.word) (changed_at p.by (single p.word))).word ≡ p.word
  word_same true p = refl
  word_same false p = refl

  places_insert : (ps : List At) → AllInsert b (map (thing_of single changed_at) ps) → AllInsert b ps
  places_insert [] insert_none = insert_none
  places_insert (p ∷ ps) (insert_more so rest) = insert_more (rw (word_same (eqb p.change 0) p) at so) (places_insert ps rest)

pub cell_keyed : (cs : List ℕ) → AllKeyed key_at single cs
cell_keyed [] = keyed_none
cell_keyed (c ∷ cs) = keyed_more refl (cell_keyed cs)

update_keyed : (ws : List ℕ) → AllKeyed key_at (λ (w : ℕ). single (marked w)) ws
update_keyed [] = keyed_none
update_keyed (w ∷ ws) = keyed_more (set_name w) (update_keyed ws)

pub brought_insert : {a : List ℕ} {n : ℕ} {b : List ℕ} {m : ℕ} {work : List ℕ} (brought : Brought a n b m work) (i j : ℕ) (e : i ≡ n - 3)
    (f : j ≡ m - 2) {next : List ℕ} {r : Woven}
    → Wove b work i j next r → AllFit (change_by b key_at single changed_at) (map single (sorted (name_words false a n))) (name_words true b m)
    → AllInsert b (places_of next (2 * (i + j)) r.count r.edits)
brought_insert {a} {n} {b} {m} brought i j e f wove fit =
    let cs = sorted (name_words false a n) in
    let ws = name_words true b m in
    let same = brought_result brought i j e f wove {key = key_at} {one = single} {edit = changed_at} (record { keep = λ u p. refl; cell = cell_keyed cs; update = update_keyed ws })
    fit in
    places_insert b _ (rw same (result_insert b (map single cs) ws (file_low true brought.update_read) (cell_insert b cs (held_low false brought.cell_read))))
