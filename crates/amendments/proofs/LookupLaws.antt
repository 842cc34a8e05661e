-- What is held under a name is what the look-up among the words finds. Assumes nothing.
use Prim.Native.Nat.{ℕ}
use mathlib.Core.Bool.{true, false}
use mathlib.Core.List.{List, [], ◌∷◌}
use mathlib.Core.Logic.{⊎_elim}
use mathlib.Core.Option.{none, some}
use mathlib.Core.Option as maybe
use mathlib.Core.Path.{◌≡◌, refl, sym, ap, ◌∙◌}
use lib.Dec.{eqb}
use Rattle.std.specs.Prelude.{Option, Some, None}
use Rattle.octets.proofs.Cases.{true_or_false}
use Rattle.items.specs.Identity.{name_at}
use Rattle.items.specs.Word.{name_of, word_offset}
use Rattle.names.specs.Premises.{Stands, AllStand}
use Rattle.names.specs.NameWords.{items_at}
use Rattle.lookups.specs.LookupWords.{lookup}
use Rattle.names.proofs.HeldLaws.{stand_first, stand_rest, stand_name}
use Rattle.lookups.proofs.LookupLaws.{lookup_told}
use Rattle.items.specs.Item.{Item, item_at, item_name}
use Rattle.changes.specs.Change.{amendment_at}
use Rattle.changes.specs.Amend.{held_by, found_code, amendment_code}
use Rattle.amend.specs.Pairs.{Paired}
use Rattle.amendments.specs.Amendable.{object_found, Amendable}

-- ---- among the objects as among the words
name_object : {s : List ℕ} {w : ℕ} → Stands s w → item_name (item_at s (word_offset w)) ≡ name_of w
name_object stands = sym (stand_name stands)

held_found : (s ws : List ℕ) (name : ℕ) → AllStand s ws → held_by (items_at s ws) name ≡ object_found s (lookup ws name)
unfolding held_by items_at lookup object_found
held_found s [] name all = refl
held_found s (w ∷ ws) name all =
    ⊎_elim (λ (h : eqb (name_of w) name ≡ true). rw (name_object (stand_first all), h))
    (λ (h : eqb (name_of w) name ≡ false). rw (name_object (stand_first all), h) (held_found s ws name (stand_rest all)))
    (true_or_false (eqb (name_of w) name))

-- ---- the record of the update at `by`: r is what the look-up of its name answered
module _ (cell ws update : List ℕ) (by : ℕ) (known : Amendable cell ws update by) (name : ℕ) (named : name ≡ name_at update by)
    (r : Option ℕ) (is : r ≡ lookup ws name) where
  code_is : amendment_code (items_at cell ws) (amendment_at update by) ≡ found_code (amendment_at update by) (object_found cell r)
  unfolding amendment_code name_at
  code_is = ap (λ (o : maybe.Option Item). found_code (amendment_at update by) o) (held_found cell ws (name_at update by) known.stand ∙ rw (is, named))

  pub code_none : r ≡ None → (x : ℕ) → x ≡ found_code (amendment_at update by) none → x ≡ amendment_code (items_at cell ws) (amendment_at update by)
  unfolding object_found
  code_none e x told = told ∙ sym (code_is ∙ rw e)

  module _ (at : ℕ) (found : r ≡ Some at) where
    pub code_some : (x : ℕ) → x ≡ found_code (amendment_at update by) (some (item_at cell at)) → x ≡ amendment_code (items_at cell ws) (amendment_at update by)
    unfolding object_found
    code_some x told = told ∙ sym (code_is ∙ rw found)

    pub found_pair : Paired cell at update by
    found_pair =
        let t = lookup_told ws name at (sym is ∙ found) in
        rw t.3 at (known.each t.0 t.1 (t.2 ∙ named))
