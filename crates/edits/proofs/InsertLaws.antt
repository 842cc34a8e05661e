-- The lists that an allowed insert brings are good lists of a cell. Assumes nothing.
use Prim.Native.Nat.{ℕ}
use mathlib.Core.Bool.{Bool, true, false}
use mathlib.Core.List.{List, []}
use mathlib.Core.Logic.{⊎_elim}
use mathlib.Core.Path.{◌≡◌}
use lib.Dec.{eqb}
use Rattle.octets.specs.Lists.{is_in}
use Rattle.octets.proofs.Cases.{true_or_false}
use Rattle.octets.proofs.Tests.{both}
use Rattle.entries.specs.Rules.{all_of}
use Rattle.table.specs.Table.{FFPT}
use Rattle.fieldvalue.specs.Value.{is_attributes, is_high}
use Rattle.itemfields.specs.Views.{attributes_good, pointers_good, list_good}
use Rattle.itemfields.specs.Good.{Lists}
use Rattle.edits.specs.Lists.{Edit}
use Rattle.edits.specs.InsertDelete.{no_control, plain_at, insert_allowed}
use Rattle.edits.proofs.GoodLaws.{plain_good}
use Rattle.edits.proofs.ListsLaws.{all_in}

-- no list at all is good
good_empty : (update : Bool) (aall nall k : ℕ) → list_good update aall nall k [] ≡ true
unfolding list_good attributes_good pointers_good
good_empty update aall nall k =
    ⊎_elim (λ (t : is_attributes k ≡ true). rw t)
    (λ (f : is_attributes k ≡ false). ⊎_elim (λ (p : eqb k FFPT ≡ true). rw (f, p)) (λ (q : eqb k FFPT ≡ false). rw (f, q)) (true_or_false (eqb k FFPT)))
    (true_or_false (is_attributes k))

good_plain : (aall nall k : ℕ) (ls : ℕ → List (List ℕ)) → list_good true aall nall k (ls k) ≡ true → plain_at ls k ≡ true → list_good false aall nall k (ls k) ≡ true
unfolding list_good plain_at
good_plain aall nall k ls b plain =
    ⊎_elim (λ (t : is_attributes k ≡ true). rw t (plain_good (is_high aall nall k) (ls k) (rw t at b) (rw t at plain)))
    (λ (f : is_attributes k ≡ false). rw f (rw f at b)) (true_or_false (is_attributes k))

pub inserted_good : {aall nall : ℕ} {kinds : List ℕ} (u : Edit) → Lists true aall nall kinds u.lists → insert_allowed kinds u ≡ true → Lists false aall nall kinds u.lists
unfolding insert_allowed
inserted_good {aall} {nall} {kinds} u b a =
    let plain = (both (no_control u) (all_of (plain_at u.lists) kinds) a).1 in
    record {
      each = b.each;
      only = b.only;
      good = λ k.
          ⊎_elim (λ (is : is_in k kinds ≡ true). good_plain aall nall k u.lists (b.good k) (all_in (plain_at u.lists) kinds k is plain))
          (λ (out : is_in k kinds ≡ false). rw (b.only k out) (good_empty false aall nall k)) (true_or_false (is_in k kinds));
    }
