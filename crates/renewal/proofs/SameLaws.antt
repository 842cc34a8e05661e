-- What is found of the items' records when they are measured, along the walk: the turns of the loops. Assumes nothing.
use Prim.Native.Nat.{ℕ, ◌+◌, ◌≤◌}
use mathlib.Core.Bool.{Bool, true, ◌&&◌}
use mathlib.Core.List.{List, ◌∷◌}
use mathlib.Core.Path.{◌≡◌}
use Rattle.octets.proofs.Tests.{both}
use Rattle.items.specs.Word.{mark_of, marked_offset}
use Rattle.asheld.specs.Held.{Same}
use Rattle.merge.specs.Places.{places_from, places_of, Headed}
use Rattle.merge.specs.declared.walk.At.{At}
use Rattle.merge.proofs.PlacesLaws.{places_start, places_end}
use Rattle.writing.specs.All.{ItemKnown}
use Rattle.writing.specs.declared.item.Known.{Known}
use Rattle.renewal.specs.Same.{Told, SameAt, AllSame, same_none, same_more}

-- ---- one record
pub copy_same : {s : List ℕ} {at : ℕ} {same : Bool} → Told same (Same s at) → same ≡ true → Same s at
copy_same told is = told.is is

-- ---- one item: what is found of its record, and what is known of it where it is written
pub changed_told : (cell update : List ℕ) (a : At) (same : Bool) → a.change ≡ 1 → Told same (SameAt cell update a)
changed_told cell update a same e =
    record { is = λ (h : same ≡ true). record { kept = λ (ne : a.change ≡ 1 → ⊥). absurd (ne e); new = λ (ne : a.change ≡ 1 → ⊥). absurd (ne e) } }

module _ (cell update : List ℕ) (a : At) (one : Known) where
  pub new_told : mark_of a.word ≡ 1 → ItemKnown update (marked_offset a.word) one → Told one.same (SameAt cell update a)
  new_told mark known = record {
    is = λ (h : one.same ≡ true).
        record {
          kept = λ (ne : a.change ≡ 1 → ⊥) (other : mark_of a.word ≡ 1 → ⊥). absurd (other mark);
          new = λ (ne : a.change ≡ 1 → ⊥) (e : mark_of a.word ≡ 1). known.same h;
        };
  }

  pub kept_told : (mark_of a.word ≡ 1 → ⊥) → ItemKnown cell (marked_offset a.word) one → Told one.same (SameAt cell update a)
  kept_told other known = record {
    is = λ (h : one.same ≡ true).
        record {
          kept = λ (ne : a.change ≡ 1 → ⊥) (e : mark_of a.word ≡ 1 → ⊥). known.same h;
          new = λ (ne : a.change ≡ 1 → ⊥) (mark : mark_of a.word ≡ 1). absurd (other mark);
        };
  }

module _ {cell update : List ℕ} {a : At} {same : Bool} (told : Told same (SameAt cell update a)) (ne : a.change ≡ 1 → ⊥) where
  pub new_same : mark_of a.word ≡ 1 → Told same (Same update (marked_offset a.word))
  new_same mark = record { is = λ (h : same ≡ true). (told.is h).new ne mark }

  pub kept_same : (mark_of a.word ≡ 1 → ⊥) → Told same (Same cell (marked_offset a.word))
  kept_same other = record { is = λ (h : same ≡ true). (told.is h).kept ne other }

-- ---- all of them, as they are measured: where `same` is true, it is so of all if it is so of the rest
pub record SameTo (cell update : List ℕ) (all rest : List At) (same : Bool) : Type 0 where
  pub are : same ≡ true → AllSame cell update rest → AllSame cell update all

pub same_start : (cell update work : List ℕ) (end count edits : ℕ) → SameTo cell update (places_of work end count edits) (places_from work end count edits 0 0) true
same_start cell update work end count edits =
    record { are = λ (e : true ≡ true) (rest : AllSame cell update (places_from work end count edits 0 0)). rw (places_start work end count edits) at rest }

pub same_on : {cell update work : List ℕ} {end count edits i j : ℕ} {a : At} {all : List At} {same one : Bool} → Headed work end count edits i j a
    → SameTo cell update all (places_from work end count edits i j) same → Told one (SameAt cell update a)
    → SameTo cell update all (places_from work end count edits (i + 1) (j + a.change)) (same && one)
same_on {cell} {update} {work} {end} {count} {edits} {i} {j} {a} {all} {same} {one} head so told = record {
  are = λ (e : (same && one) ≡ true) (rest : AllSame cell update (places_from work end count edits (i + 1) (j + a.change))).
      let parts = both same one e in
      so.are parts.0 (rw head.is (same_more (told.is parts.1) rest));
}

pub same_end : {cell update : List ℕ} {all : List At} {same : Bool} (work : List ℕ) (end count edits i j : ℕ) → count ≤ i
    → SameTo cell update all (places_from work end count edits i j) same → Told same (AllSame cell update all)
same_end {cell} {update} {all} {same} work end count edits i j past so =
    record { is = λ (e : same ≡ true). so.are e (rw (places_end work end count edits i j past) same_none) }

-- ---- and as they are written: what is known of all is known of the item in front, and of the rest
pub all_told : (cell update work : List ℕ) (end count edits : ℕ) (same : Bool) → Told same (AllSame cell update (places_of work end count edits))
    → Told same (AllSame cell update (places_from work end count edits 0 0))
all_told cell update work end count edits same told = rw (places_start work end count edits) told

module _ {cell update work : List ℕ} {end count edits i j : ℕ} {a : At} {same : Bool} (head : Headed work end count edits i j a)
    (all : Told same (AllSame cell update (places_from work end count edits i j))) where
  here : {q : At} {ps : List At} → AllSame cell update (q ∷ ps) → SameAt cell update q
  here (same_more one rest) = one

  behind : {q : At} {ps : List At} → AllSame cell update (q ∷ ps) → AllSame cell update ps
  behind (same_more one rest) = rest

  pub walk_same : Told same (SameAt cell update a)
  walk_same = record { is = λ (e : same ≡ true). here (rw head.is at (all.is e)) }

  pub rest_same : Told same (AllSame cell update (places_from work end count edits (i + 1) (j + a.change)))
  rest_same = record { is = λ (e : same ≡ true). behind (rw head.is at (all.is e)) }
