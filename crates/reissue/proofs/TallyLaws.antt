-- The counts by words are those of the objects. Assumes nothing.
use Prim.Native.Nat.{ℕ, suc, ◌+◌, ◌/◌, ◌≤◌, ◌<◌}
use mathlib.Core.Bool.{true, false}
use mathlib.Core.List.{List, [], ◌∷◌}
use mathlib.Core.Logic.{◌⊎◌, inl, inr, ⊎_elim}
use mathlib.Core.Path.{◌≡◌, refl, sym, ap, ◌∙◌}
use native.Mathlib.Omega.{arith}
use lib.ListN.{length, drop, drop_of_length-le}
use lib.Dec.{eqb}
use borrow.Author.Tests.{eqb-true, eq-eqb, ne_eqb}
use Rattle.octets.specs.Number.{byte_at}
use Rattle.octets.proofs.Cases.{true_or_false}
use Rattle.words.specs.Words.{word_at, words_in}
use Rattle.words.proofs.WordsLaws.{words_length, word_is, words_from_lem}
use Rattle.items.specs.Premises.{Featured}
use Rattle.items.specs.Identity.{rcnm_at, objl_at, rank_of}
use Rattle.items.specs.Word.{word_offset}
use Rattle.counted.specs.Tallies.{with_vector, with_feature, with_record, AtMost}
use Rattle.names.specs.Premises.{Stands, AllStand}
use Rattle.counted.specs.declared.counts.Tally.{Tally}
use Rattle.counted.proofs.CountsLaws.{tally_same}
use Rattle.names.proofs.HeldLaws.{stand_rank}
use Rattle.items.specs.Item.{is_feature, of_feature, Item, item_at}
use Rattle.held.specs.Held.{count_in, of_name, of_class, tally_in}
use Rattle.held.proofs.ReadsBack.{tally_most}
use Rattle.names.specs.NameWords.{items_at}
use Rattle.reissue.specs.Tally.{class_of, with_objects}

-- ---- a word's rank tells the class
pub class_ranks : (rcnm : ℕ) → (rcnm ≡ 110) ⊎ ((rcnm ≡ 120) ⊎ ((rcnm ≡ 130) ⊎ (rcnm ≡ 100))) → (rank_of rcnm ≡ 3 → rcnm ≡ 100) × ((rank_of rcnm ≡ 3 → ⊥)
    → (class_of (rank_of rcnm) ≡ rcnm) × (rcnm ≡ 100 → ⊥))
unfolding rank_of class_of
class_ranks rcnm (inl e) = rw e ((λ h. absurd (omega arith)), (λ h. (refl, λ g. omega arith)))
class_ranks rcnm (inr (inl e)) = rw e ((λ h. absurd (omega arith)), (λ h. (refl, λ g. omega arith)))
class_ranks rcnm (inr (inr (inl e))) = rw e ((λ h. absurd (omega arith)), (λ h. (refl, λ g. omega arith)))
class_ranks rcnm (inr (inr (inr e))) = rw e ((λ h. refl), (λ h. absurd (h refl)))

module _ {s : List ℕ} {w : ℕ} (so : Stands s w) (small : (i : ℕ) → byte_at s i < 256) where
  rank_is : w / 72057594037927936 ≡ rank_of (rcnm_at s (word_offset w))
  rank_is = stand_rank so small

  pub word_feature : w / 72057594037927936 ≡ 3 → Featured s (word_offset w)
  word_feature e = so.known.feature ((class_ranks (rcnm_at s (word_offset w)) so.known.class).0 (sym rank_is ∙ e))

  pub with_feature_lem : (t u : Tally) (objl : ℕ) → w / 72057594037927936 ≡ 3 → objl ≡ objl_at s (word_offset w) → u ≡ with_feature t objl → u ≡ with_record t s (word_offset w)
  unfolding with_record
  with_feature_lem t u objl e is told =
      told ∙ rw (eq-eqb (rcnm_at s (word_offset w)) 100 ((class_ranks (rcnm_at s (word_offset w)) so.known.class).0 (sym rank_is ∙ e)), is)

  pub with_vector_lem : (t u : Tally) (class : ℕ) → (w / 72057594037927936 ≡ 3 → ⊥) → class ≡ class_of (w / 72057594037927936) → u ≡ with_vector t class
      → u ≡ with_record t s (word_offset w)
  unfolding with_record
  with_vector_lem t u class ne is told =
      let p = (class_ranks (rcnm_at s (word_offset w)) so.known.class).1 (λ (e : rank_of (rcnm_at s (word_offset w)) ≡ 3). ne (rank_is ∙ e)) in
      told ∙ rw (ne_eqb (rcnm_at s (word_offset w)) 100 p.1, is, rank_is, p.0)

-- ---- one object more
objects_next : (t : Tally) (s : List ℕ) (at : ℕ) (ts : List Item) → with_objects t (item_at s at ∷ ts) ≡ with_objects (with_record t s at) ts
unfolding with_objects with_record with_vector with_feature count_in of_name of_class of_feature is_feature
objects_next t s at ts =
    ⊎_elim (λ (h : eqb (rcnm_at s at) 100 ≡ true).
    let e : rcnm_at s at ≡ 100 = eqb-true _ _ h in
    rw e (tally_same (omega arith) (omega arith) (omega arith) (omega arith) (omega arith) (omega arith)))
    (λ (h : eqb (rcnm_at s at) 100 ≡ false).
    rw h (tally_same (omega arith) (omega arith) (omega arith) (omega arith) (omega arith) (omega arith)))
    (true_or_false (eqb (rcnm_at s at) 100))

pub objects_none : (t : Tally) → with_objects t [] ≡ t
unfolding with_objects count_in
objects_none t = tally_same (omega arith) (omega arith) (omega arith) (omega arith) (omega arith) (omega arith)

-- ---- tally_words: one law for each way through a turn
pub tally_start : (s ws : List ℕ)
    → tally_in (items_at s ws) ≡ with_objects (record { meta = 0; geo = 0; collection = 0; isolated = 0; connected = 0; edges = 0 }) (items_at s (drop 0 ws))
unfolding tally_in with_objects
tally_start s ws = tally_same (omega arith) (omega arith) (omega arith) (omega arith) (omega arith) (omega arith)

module _ (s work : List ℕ) (m k w : ℕ) (here : k < m) (read : w ≡ word_at work k) where
  pub word_stands : AllStand s (words_in work 0 m) → Stands s w
  word_stands all = rw (word_is work m k w here read) at (all.each k (rw (words_length work 0 m) here))

  pub tally_on : (all t u : Tally) → all ≡ with_objects t (items_at s (drop k (words_in work 0 m))) → u ≡ with_record t s (word_offset w)
      → all ≡ with_objects u (items_at s (drop (k + 1) (words_in work 0 m)))
  unfolding items_at
  tally_on all t u so told =
      so ∙ ap (λ (l : List ℕ). with_objects t (items_at s l)) (words_from_lem work m k w here read) ∙ objects_next t s (word_offset w) (items_at s (drop (k + 1) (words_in work 0 m)))
      ∙ ap (λ (x : Tally). with_objects x (items_at s (drop (k + 1) (words_in work 0 m)))) (sym told)

pub tally_end : (s work : List ℕ) (m k : ℕ) (all t : Tally) → m ≤ k → all ≡ with_objects t (items_at s (drop k (words_in work 0 m))) → t ≡ all
unfolding items_at
tally_end s work m k all t h so =
    let gone : drop k (words_in work 0 m) ≡ [] = drop_of_length-le (words_in work 0 m) {i = k} (rw (words_length work 0 m) h) in
    sym (so ∙ ap (λ (l : List ℕ). with_objects t (items_at s l)) gone ∙ objects_none t)

-- ---- what is counted is no more than the objects
pub objects_length : (s ws : List ℕ) → length (items_at s ws) ≡ length ws
unfolding items_at
objects_length s [] = refl
objects_length s (w ∷ ws) = ap suc (objects_length s ws)

pub tally_few : (s work : List ℕ) (m : ℕ) (t : Tally) (ts : List Item) → m ≤ 65536 → tally_in (items_at s (words_in work 0 m)) ≡ with_objects t ts → AtMost 5242880 t
unfolding with_objects
tally_few s work m t ts few so =
    let n = objects_length s (words_in work 0 m) ∙ words_length work 0 m in
    let most = tally_most (items_at s (words_in work 0 m)) (omega arith) in
    record {
      meta_few = let x = most.meta_few in omega (arith, ap (λ (u : Tally). u.meta) so);
      geo_few = let x = most.geo_few in omega (arith, ap (λ (u : Tally). u.geo) so);
      collection_few = let x = most.collection_few in omega (arith, ap (λ (u : Tally). u.collection) so);
      isolated_few = let x = most.isolated_few in omega (arith, ap (λ (u : Tally). u.isolated) so);
      connected_few = let x = most.connected_few in omega (arith, ap (λ (u : Tally). u.connected) so);
      edges_few = let x = most.edges_few in omega (arith, ap (λ (u : Tally). u.edges) so);
    }
