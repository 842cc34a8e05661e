-- Attributes that come without a removal: they may, whatever is held. Assumes nothing.
use Prim.Native.Nat.{ℕ}
use mathlib.Core.Bool.{Bool, true, false, not}
use mathlib.Core.List.{List, [], ◌∷◌}
use mathlib.Core.Path.{◌≡◌, refl, sym, ◌∙◌}
use native.Mathlib.Omega.{arith}
use Rattle.octets.proofs.Tests.{both, told_yes}
use Rattle.entries.specs.Rules.{all_of}
use Rattle.attributes.specs.Attributes.{label_of, is_removal}
use Rattle.fieldvalue.specs.Value.{is_attributes}
use Rattle.items.specs.Lists.{entries_at}
use Rattle.items.specs.Premises.{Listed}
use Rattle.iso8211.specs.declared.field.Head.{Head}
use Rattle.edits.specs.AttributeEdit.{change, finds, changes_find}
use Rattle.edits.specs.Lists.{allowed_at}
use Rattle.changes.specs.Change.{amendment_at, edit_of}
use Rattle.amend.proofs.EditLaws.{list_entries}
use Rattle.allowed.specs.Brought.{is_kept, AddsTold}

no_removal : (b : Bool) → not b ≡ true → b ≡ false
no_removal false h = refl
no_removal true h = sym h

kept_finds : (a : List ℕ) (held : List (List ℕ)) → is_kept a ≡ true → finds label_of is_removal a held ≡ true
unfolding finds
kept_finds a held h = rw (no_removal (is_removal a) h)

adds_find : (held es : List (List ℕ)) → all_of is_kept es ≡ true → changes_find label_of is_removal held es ≡ true
unfolding changes_find all_of
adds_find held [] h = refl
adds_find held (a ∷ more) h =
    let p = both (is_kept a) (all_of is_kept more) h in
    rw (kept_finds a held p.0) (adds_find (change label_of is_removal a held) more p.1)

pub adds_not : (update : List ℕ) (by k : ℕ) → AddsTold update by k false
adds_not update by k = record { is = λ (t : false ≡ true). absurd (let z : ◌≡◌ {A = ℕ} 0 1 = cc in omega arith) }

pub adds_by : {update : List ℕ} {by k : ℕ} {h : Head} (b x : Bool) → Listed update by h k → b ≡ is_attributes k → not b ≡ false → x ≡ all_of is_kept (entries_at update by k)
    → AddsTold update by k x
unfolding allowed_at
adds_by {update} {by} {k} b x listed told labels e = record {
  is = λ (t : x ≡ true) (held : ℕ → List (List ℕ)).
      rw (told_yes b (is_attributes k) told labels, list_entries update by k listed.list) (adds_find (held k) (entries_at update by k) (sym e ∙ t));
}

pub adds_allowed : {update : List ℕ} {by k : ℕ} (held : ℕ → List (List ℕ)) (b : Bool) → AddsTold update by k b → b ≡ true
    → true ≡ allowed_at (edit_of (amendment_at update by)) held k
adds_allowed held b told on = sym (told.is on held)
