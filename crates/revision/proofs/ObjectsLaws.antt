-- The items that the walk meets are the objects of the updated chart, one after the other. Assumes nothing.
use Prim.Native.Nat.{ℕ, ◌+◌, ◌-◌, ◌*◌, ◌<◌}
use mathlib.Core.Bool.{true, false}
use mathlib.Core.List.{List, [], ◌∷◌, map}
use mathlib.Core.Path.{◌≡◌, refl, sym, ap, ◌∙◌, fun_ext}
use borrow.Author.Tests.{eq-eqb}
use Rattle.words.specs.Order.{sorted}
use Rattle.items.specs.Word.{name_of, word_offset, marked}
use Rattle.items.specs.Item.{item_name, Item, item_at}
use Rattle.names.specs.NameWords.{name_words, items_at}
use Rattle.names.specs.Premises.{Stands, AllStand}
use Rattle.names.proofs.HeldLaws.{stand_first, stand_rest, stand_name}
use Rattle.names.proofs.OnceLaws.{stand_sorted, stand_file}
use Rattle.held.specs.Chart.{chart_of}
use Rattle.names.proofs.ItemsLaws.{held_items_lem}
use Rattle.merge.specs.Updated.{AllFit}
use Rattle.merge.specs.Updated.AllFit.{fit_none, fit_more}
use Rattle.merge.specs.Places.{single, places_of}
use Rattle.merge.specs.Woven.{Wove}
use Rattle.merge.specs.Meant.{AllKeyed, AllLow, Meant}
use Rattle.merge.specs.Meant.AllLow.{low_none, low_more}
use Rattle.merge.specs.Meant.AllKeyed.{keyed_none, keyed_more}
use Rattle.merge.specs.Files.{Brought, change_by}
use Rattle.merge.specs.Sited.{AllInsert}
use Rattle.merge.specs.declared.weave.Woven.{Woven}
use Rattle.merge.proofs.RuinLaws.{low_mark, low_offset, set_mark, set_offset}
use Rattle.merge.proofs.MeantLaws.{target_words}
use Rattle.merge.proofs.FilesLaws.{file_low, held_low, keyed_each, brought_result}
use Rattle.merge.proofs.InsertLaws.{brought_insert, key_at, changed_at, cell_keyed}
use Rattle.changes.specs.Change.{amendment_at, change_of}
use Rattle.changes.specs.Amend.{amendments_fault, change_fault}
use Rattle.changes.specs.Follow.{follow_code}
use Rattle.changes.specs.Updated.{amended, updated}
use Rattle.changes.proofs.AmendLaws.{changes_told}
use Rattle.changes.proofs.FitLaws.{all_fit}
use Rattle.changes.proofs.WordLaws.{amendment_by, amendments_words, AllMeant, result_words_lem, fit_words}
use Rattle.changes.proofs.WordLaws.AllMeant.{meant_none, meant_more}
use Rattle.resultitems.specs.Result.{object_by, changed_by, object_of}
use Rattle.revision.specs.Following.{Following, Small}
use Rattle.revision.proofs.FollowingLaws.{cell_readable, update_readable, cell_known, update_known}
use Rattle.answers.specs.First.{first_by}

-- ---- what words stand for
name_object : {s : List ℕ} {w : ℕ} → Stands s w → item_name (item_at s (word_offset w)) ≡ name_of w
name_object stands = sym (stand_name stands)

module _ (cell update : List ℕ) where
  by_cell : (w : ℕ) → word_offset w < 8388608 → object_by cell update w ≡ item_at cell (word_offset w)
  unfolding object_by
  by_cell w h = rw (low_mark w h, low_offset w h)

  by_update : (w : ℕ) → word_offset w < 8388608 → object_by cell update (marked w) ≡ item_at update (word_offset w)
  unfolding object_by
  by_update w h = rw (set_mark w, set_offset w, low_offset w h)

  by_changed : (w : ℕ) → word_offset w < 8388608 → changed_by update w ≡ amended (amendment_by update w)
  unfolding changed_by
  by_changed w h = fun_ext (λ (t : Item). ap (λ (p : ℕ). amended (amendment_at update p) t) (low_offset w h))

  cell_objects : (ws : List ℕ) → AllLow ws → map (object_by cell update) ws ≡ items_at cell ws
  unfolding items_at
  cell_objects [] low_none = refl
  cell_objects (w ∷ ws) (low_more h low) = rw (by_cell w h, cell_objects ws low)

  update_meant : (ws : List ℕ) → AllStand update ws → AllLow ws → AllMeant update (object_by cell update) (changed_by update) ws
  update_meant [] stand low_none = meant_none
  update_meant (w ∷ ws) stand (low_more h low) =
      meant_more (by_update w h) (by_changed w h) (sym (name_object (stand_first stand))) (update_meant ws (stand_rest stand) low)

  update_keyed : (ws : List ℕ) → AllStand update ws → AllLow ws → AllKeyed item_name (λ (w : ℕ). object_by cell update (marked w)) ws
  update_keyed [] stand low_none = keyed_none
  update_keyed (w ∷ ws) stand (low_more h low) = keyed_more (ap item_name (by_update w h) ∙ name_object (stand_first stand)) (update_keyed ws (stand_rest stand) low)

  keep_name : (u : ℕ) (t : Item) → item_name (changed_by update u t) ≡ item_name t
  unfolding changed_by amended
  keep_name u t = refl

-- ---- a target is good by names alone
fit_same : (b : List ℕ) (cell update cs : List ℕ) (ws : List ℕ) → AllKeyed item_name (object_by cell update) cs
    → AllFit (change_by b item_name (object_by cell update) (changed_by update)) (map (object_by cell update) cs) ws
    → AllFit (change_by b key_at single changed_at) (map single cs) ws
fit_same b cell update cs [] keyed fit_none = fit_none
fit_same b cell update cs (w ∷ ws) keyed (fit_more good rest) =
    fit_more (target_words b changed_at cs w (cell_keyed cs) ∙ sym (target_words b (changed_by update) cs w keyed) ∙ good) (fit_same b cell update cs ws keyed rest)

module _ {cell : List ℕ} {n : ℕ} {update : List ℕ} {m : ℕ} (f : Following cell n update m) (small : Small cell update) where
  pub held_objects : items_at cell (sorted (name_words false cell n)) ≡ (chart_of cell n).items
  unfolding chart_of
  held_objects = held_items_lem cell n f.held.framed f.held.short (cell_known f small).three

  module _ (none : (amendments_fault (items_at cell (sorted (name_words false cell n))) 2 (change_of update m).amendments).code ≡ 0) where
    pub change_none : (change_fault (chart_of cell n) (change_of update m)).code ≡ 0
    unfolding change_fault chart_of first_by
    change_none = rw (eq-eqb (follow_code (chart_of cell n).header (change_of update m)) 0 f.follows) (rw held_objects at none)

    cs_low : AllLow (sorted (name_words false cell n))
    cs_low = held_low false (cell_readable f)

    ws_low : AllLow (name_words true update m)
    ws_low = file_low true (update_readable f)

    meant : AllMeant update (object_by cell update) (changed_by update) (name_words true update m)
    meant = update_meant cell update (name_words true update m) (stand_file true (update_readable f)) ws_low

    cell_named : AllKeyed item_name (object_by cell update) (sorted (name_words false cell n))
    cell_named =
        keyed_each item_name (object_by cell update) (sorted (name_words false cell n)) (λ w stands h. ap item_name (by_cell cell update w h) ∙ name_object stands)
        (stand_sorted false (cell_readable f)) cs_low

    things : Meant item_name (object_by cell update) (changed_by update) (sorted (name_words false cell n)) (name_words true update m)
    things = record {
      keep = keep_name cell update;
      cell = cell_named;
      update = update_keyed cell update (name_words true update m) (stand_file true (update_readable f)) ws_low;
    }

    same_amendments : (change_of update m).amendments ≡ map (amendment_by update) (name_words true update m)
    same_amendments = amendments_words update m f.come.framed f.come.short (update_known f small).two

    same_held : map (object_by cell update) (sorted (name_words false cell n)) ≡ (chart_of cell n).items
    same_held = cell_objects cell update (sorted (name_words false cell n)) cs_low ∙ held_objects

    fit : AllFit (change_by update item_name (object_by cell update) (changed_by update)) (map (object_by cell update) (sorted (name_words false cell n))) (name_words true update m)
    fit =
        rw same_held
        (fit_words update (object_by cell update) (changed_by update) (chart_of cell n).items meant
        (rw same_amendments at (all_fit (changes_told (chart_of cell n) (change_of update m) change_none).1)))

    module _ {work : List ℕ} (brought : Brought cell n update m work) (i j : ℕ) (e : i ≡ n - 3) (g : j ≡ m - 2) {next : List ℕ} {r : Woven}
        (wove : Wove update work i j next r) where
      -- the objects of the result
      pub result_objects : map (object_of cell update) (places_of next (2 * (i + j)) r.count r.edits) ≡ (updated (chart_of cell n) (change_of update m)).items
      unfolding updated
      result_objects =
          brought_result brought i j e g wove things fit ∙ result_words_lem update (object_by cell update) (changed_by update)
          (map (object_by cell update) (sorted (name_words false cell n))) meant
          ∙ rw (same_held, same_amendments)

      pub result_insert : AllInsert update (places_of next (2 * (i + j)) r.count r.edits)
      result_insert = brought_insert brought i j e g wove (fit_same update cell update (sorted (name_words false cell n)) (name_words true update m) cell_named fit)
