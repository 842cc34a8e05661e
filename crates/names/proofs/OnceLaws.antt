-- A file without a name twice: in held order its names rise. And of a cell and of an update alike: each word stands for a record that is
-- laid out. Assumes nothing.
use Prim.Native.Nat.{ℕ, zero, suc, ◌+◌, ◌≤◌, ◌<◌}
use mathlib.Core.Bool.{Bool, true, false}
use mathlib.Core.List.{List, []}
use mathlib.Core.Logic.{◌⊎◌, ⊎_elim}
use mathlib.Core.Path.{◌≡◌, refl, sym, ap, ◌∙◌}
use native.Mathlib.Omega.{arith}
use lib.ListN.{length, get_or}
use Rattle.octets.proofs.ListLaws.{member_at}
use Rattle.octets.specs.Lists.{is_in}
use Rattle.octets.proofs.Cases.{le_or_lt}
use Rattle.words.specs.Order.{sorted, Sorted}
use Rattle.words.proofs.OrderLaws.{sorted_in_order, sorted_member}
use Rattle.iso8211.specs.File.{record_at}
use Rattle.items.specs.Word.{name_of, word_offset, name_weight}
use Rattle.items.proofs.IdentityLaws.{word_offset_lem}
use Rattle.names.specs.NameWords.{name_words, word_twice}
use Rattle.names.specs.Premises.{Readable, Strict, Stands, AllStand}
use Rattle.names.specs.Names.{first_item, twice_of}
use Rattle.names.specs.Neighbours.{least_repeat}
use Rattle.names.specs.declared.twice.Repeat.{Repeat}
use Rattle.names.proofs.WalkLaws.{at_inside}
use Rattle.names.proofs.ItemsLaws.{twice_words}
use Rattle.names.proofs.NamesLaws.{ascending}
use Rattle.names.proofs.NeighboursLaws.{First, least_none, twice_least}
use Rattle.names.proofs.NamedLaws.{word_record}

-- ---- no two neighbours of one name: names rise
module _ (ws : List ℕ) (so : Sorted ws) (once : least_repeat ws ≡ name_weight) where
  next_up : (k : ℕ) → suc k < length ws → name_of (get_or ws k 0) < name_of (get_or ws (suc k) 0)
  next_up k h =
      let up = so.order k (suc k) (omega arith) h in
      let other = least_none ws k once h in
      ⊎_elim (λ (low : name_of (get_or ws (suc k) 0) ≤ name_of (get_or ws k 0)). absurd (other (omega arith)))
      (λ (low : name_of (get_or ws k 0) < name_of (get_or ws (suc k) 0)). low) (le_or_lt (name_of (get_or ws (suc k) 0)) (name_of (get_or ws k 0)))

  up_by : (p q : ℕ) → p < q → q < length ws → name_of (get_or ws p 0) < name_of (get_or ws q 0)
  up_by p zero less h = absurd (omega arith)
  up_by p (suc q) less h = last (le_or_lt q p) (λ (g : p < q). up_by p q g (omega arith)) where
    last : (q ≤ p) ⊎ (p < q) → (p < q → name_of (get_or ws p 0) < name_of (get_or ws q 0)) → name_of (get_or ws p 0) < name_of (get_or ws (suc q) 0)
    last way rest =
        ⊎_elim (λ (g : q ≤ p). let e : p ≡ q = omega arith in rw e (next_up q h))
        (λ (g : p < q). let a = rest g in let b = next_up q h in omega arith) way

  pub once_strict : Strict ws
  once_strict = record { up = up_by }

first_some : (z : Bool) → 1 ≤ first_item z
unfolding first_item
first_some true = omega arith
first_some false = omega arith

module _ (update : Bool) {s : List ℕ} {n : ℕ} (readable : Readable update s n) where
  once_least : twice_of update s n ≡ record { index = 0; offset = 0 } → least_repeat (sorted (name_words update s n)) ≡ name_weight
  once_least e =
      let ws = name_words update s n in
      ⊎_elim (λ (alone : (least_repeat (sorted ws) ≡ name_weight) × (word_twice (first_item update) [] ws ≡ record { index = 0; offset = 0 })). alone.0)
      (λ (f : First (first_item update) ws (least_repeat (sorted ws))).
      let z : first_item update + f.j ≡ 0 = ap (λ (r : Repeat). r.index) (sym f.is ∙ sym (twice_words s n readable.framed readable.short update readable.head) ∙ e) in
      let some = first_some update in
      absurd (omega arith))
      (twice_least (first_item update) ws (ascending update s n readable))

  -- code 7's verdict: no name is met twice
  pub once_rising : twice_of update s n ≡ record { index = 0; offset = 0 } → Strict (sorted (name_words update s n))
  once_rising e = once_strict (sorted (name_words update s n)) (sorted_in_order (name_words update s n)) (once_least e)

  -- ---- a word of the file stands for a record, which begins in the file
  pub word_stands : (w : ℕ) → is_in w (sorted (name_words update s n)) ≡ true → Stands s w × (word_offset w < 5242880)
  word_stands w there =
      let r = word_record update s n w there in
      let k = r.0 in
      let inside = at_inside s n k (record_at s k) readable.framed r.2 refl in
      let short = readable.short in
      let place : word_offset w ≡ record_at s k = ap (λ (v : ℕ). word_offset v) (sym r.3) ∙ word_offset_lem s (record_at s k) (omega arith) in
      let known = readable.items k r.1 r.2 in
      (record { is = rw place (sym r.3); laid = rw place known.0; known = rw place known.1 }, omega arith)

  -- in held order
  pub stand_sorted : AllStand s (sorted (name_words update s n))
  stand_sorted = record { each = λ p h. (word_stands (get_or (sorted (name_words update s n)) p 0) (member_at (sorted (name_words update s n)) p h)).0 }

  -- and in the file's
  pub stand_file : AllStand s (name_words update s n)
  stand_file = record {
    each = λ p h.
        let w = get_or (name_words update s n) p 0 in
        (word_stands w (sorted_member w (name_words update s n) ∙ member_at (name_words update s n) p h)).0;
  }
