-- The records of an update by the words of their names: what is made of a chart word by word is what its amendments make of it. Assumes
-- nothing.
use Prim.Native.Nat.{ℕ, zero, suc, ◌+◌, ◌-◌, ◌≤◌}
use mathlib.Core.Bool.{true}
use mathlib.Core.List.{List, [], ◌∷◌, map}
use mathlib.Core.Path.{◌≡◌, refl, ◌∙◌}
use native.Mathlib.Omega.{arith}
use lib.ListN.{length}
use Rattle.std.specs.Prelude.{Ok}
use Rattle.iso8211.specs.File.{frame_of, record_at}
use Rattle.iso8211.proofs.Promise.{at_next, record_in}
use Rattle.items.specs.Identity.{word_for}
use Rattle.items.specs.Word.{name_of, word_offset, marked}
use Rattle.items.proofs.IdentityLaws.{word_offset_lem}
use Rattle.names.specs.NameWords.{words_from, name_words}
use Rattle.names.specs.Names.{first_item}
use Rattle.items.specs.Item.{Item, item_at, item_name}
use Rattle.merge.specs.Update as merge
use Rattle.merge.specs.Targets as targets
use Rattle.merge.specs.Updated.{AllFit}
use Rattle.merge.specs.Updated.AllFit.{fit_none, fit_more}
use Rattle.merge.specs.Files.{change_by}
use Rattle.changes.specs.Change.{Amendment, amendment_at, amendments_from, change_of}
use Rattle.changes.specs.Updated.{amended, by_amendment}

-- the amendment of a word
abbrev pub amendment_by : List ℕ → ℕ → Amendment
amendment_by b w = amendment_at b (word_offset w)

-- ---- the amendments are those of the words
module _ (b : List ℕ) (m : ℕ) (framed : frame_of b ≡ Ok m) (short : length b ≤ 5242880) where
  from_words : (n k : ℕ) → k + n ≡ m → amendments_from n b (record_at b k) ≡ map (amendment_by b) (words_from n b (record_at b k))
  unfolding amendments_from words_from
  from_words zero k e = refl
  from_words (suc n) k e =
      let at = record_at b k in
      let fits = (record_in b m k at framed (omega arith) refl).framed.fits in
      let place : word_offset (word_for b at) ≡ at = word_offset_lem b at (omega arith) in
      rw (place, at_next b k at refl, from_words n (k + 1) (omega arith))

  pub amendments_words : 2 ≤ m → (change_of b m).amendments ≡ map (amendment_by b) (name_words true b m)
  unfolding change_of name_words first_item
  amendments_words two = from_words (m - 2) 2 (omega arith)

-- ---- word by word, or amendment by amendment
-- what these words stand for: a marked word for the object of its record, which has the word's name
pub data AllMeant (b : List ℕ) (one : ℕ → Item) (edit : ℕ → Item → Item) : List ℕ → Type 0 where
  meant_none : AllMeant b one edit []
  meant_more : {w : ℕ} {ws : List ℕ} → one (marked w) ≡ item_at b (word_offset w) → edit w ≡ amended (amendment_by b w) → name_of w ≡ item_name (item_at b (word_offset w))
      → AllMeant b one edit ws → AllMeant b one edit (w ∷ ws)

module _ (b : List ℕ) (one : ℕ → Item) (edit : ℕ → Item → Item) where
  obeyed_word : (w : ℕ) (held : List Item) → one (marked w) ≡ item_at b (word_offset w) → edit w ≡ amended (amendment_by b w) → name_of w ≡ item_name (item_at b (word_offset w))
      → merge.obeyed (change_by b item_name one edit) w held ≡ merge.obeyed by_amendment (amendment_by b w) held
  unfolding merge.obeyed
  obeyed_word w held made changed name = rw (made, changed, name)

  pub result_words_lem : (held : List Item) {ws : List ℕ} → AllMeant b one edit ws
      → merge.result (change_by b item_name one edit) held ws ≡ merge.result by_amendment held (map (amendment_by b) ws)
  unfolding merge.result
  result_words_lem held meant_none = refl
  result_words_lem held (meant_more {w} {ws} made changed name more) =
      rw (obeyed_word w held made changed name) (result_words_lem (merge.obeyed by_amendment (amendment_by b w) held) more)

  target_word : (w : ℕ) (held : List Item) → name_of w ≡ item_name (item_at b (word_offset w))
      → targets.target_good (change_by b item_name one edit) held w ≡ targets.target_good by_amendment held (amendment_by b w)
  unfolding targets.target_good
  target_word w held name = rw name

  pub fit_words : (held : List Item) {ws : List ℕ} → AllMeant b one edit ws → AllFit by_amendment held (map (amendment_by b) ws) → AllFit (change_by b item_name one edit) held ws
  fit_words held meant_none fit_none = fit_none
  fit_words held (meant_more {w} {ws} made changed name more) (fit_more good rest) = fit_more (target_word w held name ∙ good) (fit_words held more rest)
