-- The walk over the result along a work area in which only notes are written, and the words of its items. Assumes nothing.
use Prim.Native.Nat.{ℕ, ◌+◌, ◌-◌, ◌*◌, ◌≤◌, ◌<◌}
use mathlib.Core.Bool.{Bool, true, false, cond}
use mathlib.Core.List.{List, [], ◌∷◌, map}
use mathlib.Core.Path.{◌≡◌, refl, sym, ap, ◌∙◌}
use native.Mathlib.Nat.{sub-zero}
use native.Mathlib.Omega.{arith}
use lib.Dec.{eqb}
use Rattle.words.specs.Words.{words_in}
use Rattle.items.specs.Word.{name_of}
use Rattle.topology.specs.Notes.{Beside, AllWorded}
use Rattle.topology.specs.Notes.AllWorded.{worded_none, worded_more}
use Rattle.topology.proofs.BesideLaws.{back_less, beside_words}
use Rattle.merge.specs.Area.{words_back}
use Rattle.merge.specs.Places.{joined, single, double, places_from, places_of, Woof, Headed}
use Rattle.merge.specs.declared.walk.At.{At}
use Rattle.merge.proofs.PlacesLaws.{places_start, places_kept}
use Rattle.resultitems.specs.Result.{items_by, result_items}
use Rattle.resultitems.specs.Able.{Able, AllAble, able_none, able_more, Laid}

-- ---- notes change nothing of the walk
module _ {a b : List ℕ} (end count edits : ℕ) (so : Beside a count b) (room : 2 * count + edits ≤ end) where
  pub beside_places : (i j : ℕ) → i ≤ count → j ≤ edits → places_from b end count edits i j ≡ places_from a end count edits i j
  beside_places i j low left =
      places_kept a end count edits i j (omega arith) low left b so.front
      (back_less b a (8 * (count + count)) (8 * (end - edits)) so.back (omega arith))

  pub beside_all : places_of b end count edits ≡ places_of a end count edits
  beside_all = sym (places_start b end count edits) ∙ beside_places 0 0 (omega arith) (omega arith) ∙ places_start a end count edits

  pub beside_woof : Woof a end count edits → Woof b end count edits
  beside_woof woof = let size = so.size in let wide = woof.room in record { room = omega arith; few = woof.few }

  pub beside_headed : {i j : ℕ} {p : At} → i < count → j ≤ edits → Headed b end count edits i j p → Headed a end count edits i j p
  beside_headed {i} {j} {p} more left head = record {
    is = sym (beside_places i j (omega arith) left) ∙ head.is
        ∙ ap (λ (l : List At). p ∷ l) (beside_places (i + 1) (j + p.change) (omega arith) head.left);
    one = head.one;
    left = head.left;
  }

  pub beside_laid : {cell update : List ℕ} → Laid cell update a end count edits → Laid cell update b end count edits
  beside_laid laid = record {
    woof = beside_woof laid.woof;
    notes = laid.notes;
    order = rw (beside_words so 0 count (omega arith)) laid.order;
    able = rw beside_all laid.able;
  }

-- ---- the words of the items are those of the area
pick_words : (z : Bool) (w : ℕ) (x y : At) (p q : List At) (ws : List ℕ) → x.word ≡ w → y.word ≡ w → map (λ (a : At). a.word) p ≡ ws
    → map (λ (a : At). a.word) q ≡ ws → map (λ (a : At). a.word) (cond z (x ∷ p) (y ∷ q)) ≡ w ∷ ws
pick_words true w x y p q ws e f g h = rw (e, g)
pick_words false w x y p q ws e f g h = rw (f, h)

joined_words : (ws ms : List ℕ) → map (λ (a : At). a.word) (joined single double ws ms) ≡ ws
unfolding joined
joined_words [] ms = refl
joined_words (w ∷ ws) [] = ap (λ (l : List ℕ). w ∷ l) (joined_words ws [])
joined_words (w ∷ ws) (m ∷ ms) =
    pick_words (eqb (name_of w) (name_of m)) w (double w m) (single w) (joined single double ws ms) (joined single double ws (m ∷ ms)) ws refl refl
    (joined_words ws ms) (joined_words ws (m ∷ ms))

places_words : (work : List ℕ) (end count edits : ℕ) → map (λ (a : At). a.word) (places_of work end count edits) ≡ words_in work 0 count
unfolding places_of places_from
places_words work end count edits =
    joined_words (words_in work 0 (count - 0)) (words_back work (end - 0) (edits - 0)) ∙ rw (sub-zero count)

able_worded : {cell update : List ℕ} (ps : List At) → AllAble cell update ps → AllWorded (items_by cell update ps) (map (λ (a : At). a.word) ps)
able_worded [] able_none = worded_none
able_worded (p ∷ ps) (able_more able rest) = worded_more able.worded (able_worded ps rest)

pub laid_worded : {cell update work : List ℕ} {end count edits : ℕ} → Laid cell update work end count edits
    → AllWorded (result_items cell update work end count edits) (words_in work 0 count)
laid_worded {cell} {update} {work} {end} {count} {edits} laid =
    rw (places_words work end count edits) at (able_worded (places_of work end count edits) laid.able)

-- ---- along the walk
module _ {cell update work : List ℕ} {end count edits i j : ℕ} {p : At} (head : Headed work end count edits i j p)
    (all : AllAble cell update (places_from work end count edits i j)) where
  here : {q : At} {ps : List At} → AllAble cell update (q ∷ ps) → Able cell update q
  here (able_more able rest) = able

  behind : {q : At} {ps : List At} → AllAble cell update (q ∷ ps) → AllAble cell update ps
  behind (able_more able rest) = rest

  pub walk_able : Able cell update p
  walk_able = here (rw head.is at all)

  pub walk_rest : AllAble cell update (places_from work end count edits (i + 1) (j + p.change))
  walk_rest = behind (rw head.is at all)
