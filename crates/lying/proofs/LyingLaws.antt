-- Laws of the walk over the fields: a field has its place under its kind, and the other kinds keep theirs. Assumes nothing.
use Prim.Native.Nat.{ℕ, ◌+◌, ◌-◌, ◌≤◌, ◌<◌}
use mathlib.Core.List.{List, ◌++◌, append-nil}
use mathlib.Core.Logic.{⊎_elim}
use mathlib.Core.Path.{◌≡◌, sym, ap, ◌∙◌}
use native.Mathlib.Omega.{arith}
use lib.ListN.{length, take, drop, set, length-set, length-drop, replicate, length-replicate, get_or-replicate}
use lib.Seq.{get_or-set_same, get_or-set_other, length-take-le}
use Rattle.octets.specs.Area.{Wrote}
use Rattle.octets.proofs.AreaLaws.{wrote_as}
use Rattle.octets.proofs.Cases.{eq_or_ne}
use Rattle.iso8211.specs.Field.{count_at, field_at}
use Rattle.iso8211.specs.Premises.{HeadOf, Due}
use Rattle.iso8211.specs.declared.field.Head.{Head}
use Rattle.iso8211.specs.declared.field.Field.{Field}
use Rattle.table.specs.Table.{kind_of, kind_count}
use Rattle.layout.specs.Record.{kind_at}
use Rattle.items.specs.Lists.{join_from, list_at}
use Rattle.items.specs.Premises.{LaidOut}
use Rattle.items.proofs.ListsLaws.{part_yes, part_no, join_end, join_next, join_all, list_short, field_some, field_fits}
use Rattle.items.proofs.CountLaws.{lent_is}
use Rattle.lying.specs.declared.Place.{Place}
use Rattle.lying.specs.Lying.{from_of, to_of, Nowhere, Set, Kept, LainTo, Lain, Lies}

-- ---- numbers that are 0
pub zeros : (l : List ℕ) → l ≡ replicate 40 0 → Nowhere l
zeros l e = record { long = ap length e ∙ length-replicate {A = ℕ} 40 0; zero = λ i h. rw e (get_or-replicate {A = ℕ} 40 i 0 0 h) }

-- ---- a place set
pub set_told : {l : List ℕ} (k from to : ℕ) → k < kind_count → length l ≡ 40 → Set l k from to (set (set l k from) (k + kind_count) to)
set_told {l} k from to h long =
    let apart : k ≡ k + 20 → ⊥ = λ (e : k ≡ k + 20). omega arith in
    let once : length (set l k from) ≡ 40 = length-set l k from ∙ long in
    record {
      long = length-set (set l k from) (k + 20) to ∙ once;
      start = get_or-set_other (set l k from) (k + 20) k to 0 apart ∙ get_or-set_same l k from 0 (omega arith);
      end = get_or-set_same (set l k from) (k + 20) to 0 (omega arith);
      starts = λ (i : ℕ) (low : i < 20) (ne : i ≡ k → ⊥).
          get_or-set_other (set l k from) (k + 20) i to 0 (λ (e : i ≡ k + 20). omega arith) ∙ get_or-set_other l k i from 0 ne;
      ends = λ (i : ℕ) (low : i < 20) (ne : i ≡ k → ⊥).
          get_or-set_other (set l k from) (k + 20) (i + 20) to 0 (λ (e : i + 20 ≡ k + 20). ne (omega arith))
          ∙ get_or-set_other l k (i + 20) from 0 (λ (e : i + 20 ≡ k). omega arith);
    }

-- ---- the walk
pub lain_start : {s : List ℕ} {at : ℕ} {l : List ℕ} → LaidOut s at → Nowhere l → LainTo s at 0 l
lain_start {s} {at} {l} laid none = record {
  long = none.long;
  within = λ k h o. omega (arith, none.zero (k + 20) (omega arith));
  is = λ k h o.
      let start = none.zero k (omega arith) in
      let end = none.zero (k + 20) (omega arith) in
      rw (start, end) (sym (join_all s at k));
}

pub lain_end : {s : List ℕ} {at j : ℕ} {l : List ℕ} (n : ℕ) → LainTo s at j l → n ≡ count_at s at → n ≤ j → Lain s at l
lain_end {s} {at} {j} {l} n so count all = record {
  long = so.long;
  within = so.within;
  is = λ k h o.
      so.is k h o
      ∙ ap (λ (x : List ℕ). take (to_of l k - from_of l k) (drop (from_of l k) s) ++ x) (join_end s at k j (omega arith))
      ∙ append-nil (take (to_of l k - from_of l k) (drop (from_of l k) s));
}

pub start_due : {s : List ℕ} {at : ℕ} {h : Head} (due : ℕ) → LaidOut s at → HeadOf s at h → due ≡ at + h.base → Due s at 0 due
start_due {s} {at} {h} due laid head e = record { is = λ b. e ∙ ap (λ (n : ℕ). at + n) head.base ∙ sym laid.inside.front }

module _ {s : List ℕ} {at : ℕ} {h : Head} (laid : LaidOut s at) (head : HeadOf s at h) (j : ℕ) (f : Field) (n : ℕ) (count : n ≡ h.count) (more : j < n)
    (read : f ≡ field_at s at j) where
  below : j < count_at s at
  below = let e = head.count in omega arith

  pub turn_some : 1 ≤ f.length
  turn_some = field_some s at j f laid read below

  pub turn_fits : f.start + f.length ≤ length s
  turn_fits = field_fits s at j f laid read below

  pub turn_due : (due : ℕ) → due ≡ f.start + f.length → Due s at (j + 1) due
  turn_due due e = record { is = λ b. e ∙ rw read (sym (laid.inside.gapless j b)) }

  module _ (kind : ℕ) (told : kind ≡ kind_of f.tag) {l next : List ℕ} (so : LainTo s at j l) (kept : Kept l kind f next) where
    kind_is : kind_at s at j ≡ kind
    kind_is = sym (told ∙ ap (λ (g : Field). kind_of g.tag) read)

    -- another kind keeps its place
    pass_within : (from to : ℕ) → Set l kind from to next → (k : ℕ) → k < 20 → (k ≡ kind → ⊥) → from_of next k ≤ to_of next k → to_of next k ≤ length s
    pass_within from to put k low ne o =
        let a = put.starts k low ne in
        let b = put.ends k low ne in
        rw b (so.within k low (omega arith))

    pass_is : (from to : ℕ) → Set l kind from to next → (k : ℕ) → k < 20 → (k ≡ kind → ⊥) → from_of next k ≤ to_of next k
        → list_at s at k ≡ take (to_of next k - from_of next k) (drop (from_of next k) s) ++ join_from (count_at s at - (j + 1)) s at k (j + 1)
    pass_is from to put k low ne o =
        let a = put.starts k low ne in
        let b = put.ends k low ne in
        let next_none : join_from (count_at s at - j) s at k j ≡ join_from (count_at s at - (j + 1)) s at k (j + 1) =
        join_next s at k j below
        ∙ ap (λ (x : List ℕ). x ++ join_from (count_at s at - (j + 1)) s at k (j + 1)) (part_no s at k j (λ (e : kind_at s at j ≡ k). ne (sym e ∙ kind_is))) in
        rw (a, b) (so.is k low (omega arith) ∙ ap (λ (x : List ℕ). take (to_of l k - from_of l k) (drop (from_of l k) s) ++ x) next_none)

    -- several fields: no place
    gone : Set l kind 1 0 next → (k : ℕ) → k ≡ kind → from_of next k ≤ to_of next k → ⊥
    gone put k e o = let a = put.start in let b = put.end in let x = rw e at o in omega arith

    many : Set l kind 1 0 next → LainTo s at (j + 1) next
    many put = record {
      long = put.long;
      within = λ k low o.
          ⊎_elim (λ (e : k ≡ kind). absurd (gone put k e o)) (λ (ne : k ≡ kind → ⊥). pass_within 1 0 put k low ne o) (eq_or_ne k kind);
      is = λ k low o. ⊎_elim (λ (e : k ≡ kind). absurd (gone put k e o)) (λ (ne : k ≡ kind → ⊥). pass_is 1 0 put k low ne o) (eq_or_ne k kind);
    }

    -- one field: its place
    module _ (fresh : from_of l kind ≡ to_of l kind) (put : Set l kind f.start (f.start + (f.length - 1)) next) where
      here_within : to_of next kind ≤ length s
      here_within = let b = put.end in let some = turn_some in let fits = turn_fits in omega arith

      here_is : kind < 20
          → list_at s at kind ≡ take (to_of next kind - from_of next kind) (drop (from_of next kind) s) ++ join_from (count_at s at - (j + 1)) s at kind (j + 1)
      here_is low =
          let empty : to_of l kind - from_of l kind ≡ 0 = omega arith in
          rw (put.start, put.end) (rw empty at (so.is kind low (omega arith))
          ∙ join_next s at kind j below
          ∙ ap (λ (x : List ℕ). x ++ join_from (count_at s at - (j + 1)) s at kind (j + 1)) (part_yes s at kind j kind_is ∙ sym (lent_is s at j f read)))

      single : LainTo s at (j + 1) next
      single = record {
        long = put.long;
        within = λ k low o.
            ⊎_elim (λ (e : k ≡ kind). rw e here_within)
            (λ (ne : k ≡ kind → ⊥). pass_within f.start (f.start + (f.length - 1)) put k low ne o) (eq_or_ne k kind);
        is = λ k low o.
            ⊎_elim (λ (e : k ≡ kind). rw e (here_is (rw e at low)))
            (λ (ne : k ≡ kind → ⊥). pass_is f.start (f.start + (f.length - 1)) put k low ne o) (eq_or_ne k kind);
      }

    pub turn_lain : LainTo s at (j + 1) next
    turn_lain =
        ⊎_elim (λ (e : from_of l kind ≡ to_of l kind). single e (kept.one e)) (λ (ne : from_of l kind ≡ to_of l kind → ⊥). many (kept.several ne))
        (eq_or_ne (from_of l kind) (to_of l kind))

-- ---- the place of one kind
pub lies_not : (s : List ℕ) (at k : ℕ) → Lies s at k (record { from = 1; to = 0 })
lies_not s at k = record { within = λ o. absurd (omega arith); is = λ o. absurd (omega arith) }

pub lies_there : {s : List ℕ} {at : ℕ} {l : List ℕ} (k : ℕ) → Lain s at l → k < kind_count → Lies s at k (record { from = from_of l k; to = to_of l k })
lies_there k so low = record { within = so.within k low; is = so.is k low }

module _ {s : List ℕ} {at k : ℕ} {p : Place} (so : Lies s at k p) (order : p.from ≤ p.to) where
  pub lies_within : p.to ≤ length s
  lies_within = so.within order

  lies_long : length (list_at s at k) ≡ p.to - p.from
  lies_long =
      let in_file = so.within order in
      ap length (so.is order) ∙ length-take-le (p.to - p.from) (drop p.from s) (rw length-drop (omega arith))

  pub lies_total : (r : ℕ) → r ≡ p.to - p.from → r ≡ length (list_at s at k)
  lies_total r e = e ∙ sym lies_long

  pub lies_few : LaidOut s at → p.to - p.from ≤ 300000
  lies_few laid = let small = laid.inside.small in omega (arith, lies_long, list_short s at k laid)

  pub lies_room : (place n : ℕ) → place + length (list_at s at k) ≤ n → place + length (take (p.to - p.from) (drop p.from s)) ≤ n
  lies_room place n room = rw (← so.is order) room

  pub lies_copied : {a b : List ℕ} {place r : ℕ} → Wrote a place (take (p.to - p.from) (drop p.from s)) b r → Wrote a place (list_at s at k) b r
  lies_copied w = wrote_as (list_at s at k) (sym (so.is order)) w
