-- Laws of the items in held order: each word of a cell stands for a record that is laid out; a name is found among the items where it is
-- found among the words; a word's rank is that of its record's RCNM. Assumes nothing.
use Prim.Native.Nat.{ℕ, zero, suc, ◌+◌, ◌*◌, ◌/◌, ◌≤◌, ◌<◌}
use mathlib.Core.Bool.{false}
use mathlib.Core.List.{List, [], ◌∷◌}
use mathlib.Core.Logic.{◌⊎◌, ⊎_elim}
use mathlib.Core.Path.{◌≡◌, refl, sym, ap, ◌∙◌, fun_ext}
use native.Mathlib.Omega.{arith}
use lib.ListN.{length, get_or, drop}
use lib.Dec.{eqb}
use borrow.Author.Tests.{ne_eqb}
use Rattle.octets.proofs.ListLaws.{member_at}
use Rattle.octets.specs.Number.{byte_at, num_at}
use Rattle.words.specs.Order.{sorted}
use Rattle.items.specs.Premises.{LaidOut, Identified}
use Rattle.items.specs.Identity.{id_at, rcnm_at, rcid_at, rank_of, name_from, name_at, word_for}
use Rattle.items.specs.Word.{name_of, word_offset, rank_weight, name_weight}
use Rattle.items.specs.Item.{Item, item_at, item_name}
use Rattle.items.proofs.IdentityLaws.{word_offset_lem, rank_few}
use Rattle.names.specs.NameWords.{name_words, items_at}
use Rattle.lookups.specs.LookupWords.{index_from, index_of}
use Rattle.names.specs.Premises.{Readable, Stands, AllStand}
use Rattle.names.specs.Held.{place_from, place_in}
use Rattle.names.proofs.ReadableLaws.{place_small}
use Rattle.names.proofs.NamedLaws.{word_record}

-- ---- the words of a cell stand for its records
stand_record : {s : List ℕ} {w at : ℕ} → word_for s at ≡ w → at < name_weight → LaidOut s at × Identified s at → Stands s w
stand_record {s} {w} {at} e small known =
    let place : word_offset w ≡ at = ap (λ (v : ℕ). word_offset v) (sym e) ∙ word_offset_lem s at small in
    record { is = rw place (sym e); laid = rw place known.0; known = rw place known.1 }

pub all_stand : {s : List ℕ} {n : ℕ} → Readable false s n → AllStand s (sorted (name_words false s n))
all_stand {s} {n} readable = record {
  each = λ p h.
      let ws = sorted (name_words false s n) in
      let r = word_record false s n (get_or ws p 0) (member_at ws p h) in
      stand_record r.3 (place_small readable r.0 r.2) (readable.items r.0 r.1 r.2);
}

pub stand_first : {s : List ℕ} {w : ℕ} {ws : List ℕ} → AllStand s (w ∷ ws) → Stands s w
stand_first {s} {w} {ws} all = all.each 0 (omega arith)

pub stand_rest : {s : List ℕ} {w : ℕ} {ws : List ℕ} → AllStand s (w ∷ ws) → AllStand s ws
stand_rest {s} {w} {ws} all = record { each = λ p h. all.each (suc p) (omega arith) }

-- ---- a word's name is its item's
name_word : (s : List ℕ) (at : ℕ) → at < name_weight → name_of (word_for s at) ≡ item_name (item_at s at)
unfolding word_for name_at
name_word s at h = omega arith

pub stand_name : {s : List ℕ} {w : ℕ} → Stands s w → name_of w ≡ item_name (item_at s (word_offset w))
stand_name {s} {w} stands = ap (λ (v : ℕ). name_of v) stands.is ∙ name_word s (word_offset w) (omega arith)

place_from_lem : (k : ℕ) (s ws : List ℕ) (name : ℕ) → AllStand s ws → place_from k (items_at s ws) name ≡ index_from k ws name
unfolding items_at place_from index_from
place_from_lem k s [] name all = refl
place_from_lem k s (w ∷ ws) name all = rw (← stand_name (stand_first all), place_from_lem (k + 1) s ws name (stand_rest all))

-- a name has among the items the index that it has among the words
pub place_index : (s ws : List ℕ) → AllStand s ws → place_in (items_at s ws) ≡ index_of ws
unfolding place_in index_of
place_index s ws all = fun_ext (λ (name : ℕ). place_from_lem 0 s ws name all)

-- ---- the items by index
pub items_length : (s ws : List ℕ) → length (items_at s ws) ≡ length ws
unfolding items_at
items_length s [] = refl
items_length s (w ∷ ws) = ap suc (items_length s ws)

pub items_drop : (k : ℕ) (s ws : List ℕ) → drop k (items_at s ws) ≡ items_at s (drop k ws)
unfolding items_at
items_drop zero s ws = refl
items_drop (suc k) s [] = refl
items_drop (suc k) s (w ∷ ws) = items_drop k s ws

pub items_at_lem : (s ws : List ℕ) (k : ℕ) (d : Item) → k < length ws → get_or (items_at s ws) k d ≡ item_at s (word_offset (get_or ws k 0))
unfolding items_at
items_at_lem s [] k d h = absurd (omega arith)
items_at_lem s (w ∷ ws) zero d h = refl
items_at_lem s (w ∷ ws) (suc k) d h = items_at_lem s ws k d (omega arith)

-- ---- a word's rank, the file being one of bytes
pub rcid_small : (s : List ℕ) (at : ℕ) → ((i : ℕ) → byte_at s i < 256) → rcid_at s at < 4294967296
unfolding rcid_at num_at
rcid_small s at bytes =
    let p = id_at s at + 1 in
    let a = bytes p in
    let b = bytes (suc p) in
    let c = bytes (suc (suc p)) in
    let d = bytes (suc (suc (suc p))) in
    omega arith

word_rank : (s : List ℕ) (at : ℕ) → at < name_weight → rcid_at s at < 4294967296 → word_for s at / rank_weight ≡ rank_of (rcnm_at s at)
unfolding word_for name_at name_from
word_rank s at h small = omega arith

pub stand_rank : {s : List ℕ} {w : ℕ} → Stands s w → ((i : ℕ) → byte_at s i < 256) → w / rank_weight ≡ rank_of (rcnm_at s (word_offset w))
stand_rank {s} {w} stands bytes =
    ap (λ (v : ℕ). v / rank_weight) stands.is ∙ word_rank s (word_offset w) (omega arith) (rcid_small s (word_offset w) bytes)

rank_feature : (rcnm : ℕ) → rcnm ≡ 100 → rank_of rcnm ≡ 3
unfolding rank_of
rank_feature rcnm e = rw e

-- the words of the vectors stand below those of the features
pub stand_vector : {s : List ℕ} {w : ℕ} → Stands s w → ((i : ℕ) → byte_at s i < 256) → w < 3 * rank_weight
    → eqb (rcnm_at s (word_offset w)) 100 ≡ false
stand_vector {s} {w} stands bytes low =
    ne_eqb (rcnm_at s (word_offset w)) 100
    (λ (e : rcnm_at s (word_offset w) ≡ 100). let is = rank_feature (rcnm_at s (word_offset w)) e in omega (arith, stand_rank stands bytes))

pub stand_last : {s : List ℕ} {w : ℕ} → Stands s w → ((i : ℕ) → byte_at s i < 256) → 3 * rank_weight ≤ w → rank_of (rcnm_at s (word_offset w)) ≡ 3
stand_last {s} {w} stands bytes high = omega (arith, stand_rank stands bytes, rank_few (rcnm_at s (word_offset w)))

-- of the four classes only that of features comes last
pub last_feature : (rcnm : ℕ) → rank_of rcnm ≡ 3 → (rcnm ≡ 110) ⊎ ((rcnm ≡ 120) ⊎ ((rcnm ≡ 130) ⊎ (rcnm ≡ 100))) → rcnm ≡ 100
unfolding rank_of
last_feature rcnm e class =
    ⊎_elim (λ (a : rcnm ≡ 110). let z : ◌≡◌ {A = ℕ} 0 3 = rw a at e in absurd (omega arith))
    (λ (o : (rcnm ≡ 120) ⊎ ((rcnm ≡ 130) ⊎ (rcnm ≡ 100))).
    ⊎_elim (λ (b : rcnm ≡ 120). let z : ◌≡◌ {A = ℕ} 1 3 = rw b at e in absurd (omega arith))
    (λ (p : (rcnm ≡ 130) ⊎ (rcnm ≡ 100)).
    ⊎_elim (λ (c : rcnm ≡ 130). let z : ◌≡◌ {A = ℕ} 2 3 = rw c at e in absurd (omega arith)) (λ (d : rcnm ≡ 100). d) p) o) class

pub stand_feature : {s : List ℕ} {w : ℕ} → Stands s w → ((i : ℕ) → byte_at s i < 256) → 3 * rank_weight ≤ w → rcnm_at s (word_offset w) ≡ 100
stand_feature {s} {w} stands bytes high = last_feature (rcnm_at s (word_offset w)) (stand_last stands bytes high) stands.known.class
