-- Laws of the counts: a record more in a tally, the whole tally, and its comparison with DSSI. Assumes nothing.
use Prim.Native.Nat.{ℕ, zero, suc, ◌+◌, ◌-◌, ◌≤◌, ◌<◌}
use mathlib.Core.Bool.{Bool, true, false, cond}
use mathlib.Core.List.{List}
use mathlib.Core.Logic.{⊎_elim}
use mathlib.Core.Path.{◌≡◌, sym, ap, ◌∙◌}
use native.Mathlib.Nat.{zero-add, add-zero, suc-add}
use native.Mathlib.Omega.{arith}
use lib.Dec.{eqb}
use lib.ListN.{length}
use borrow.Author.Tests.{eqb-true, ne_eqb, eq-eqb}
use Rattle.octets.proofs.Cases.{true_or_false}
use Rattle.iso8211.specs.Record.{end_of}
use Rattle.iso8211.specs.Field.{count_at, field_at}
use Rattle.iso8211.specs.Premises.{FramedAt}
use Rattle.iso8211.specs.declared.field.Field.{Field}
use Rattle.iso8211.specs.File.{record_at}
use Rattle.iso8211.proofs.Promise.{at_start, at_on, at_next}
use Rattle.values.specs.Class.{is_geo, is_meta, is_collection}
use Rattle.items.specs.Premises.{Identified, Featured}
use Rattle.items.specs.Identity.{rcnm_at, objl_at}
use Rattle.names.specs.Premises.{Readable}
use Rattle.counted.specs.Counts.{of_name, of_class, count_of, counts_good}
use Rattle.counted.specs.Tallies.{with_vector, with_feature, with_record, with_records, tally_of, AtMost, vectors_good, tally_good}
use Rattle.counted.specs.declared.counts.Tally.{Tally}
use Rattle.names.proofs.ReadableLaws.{readable_few, readable_three, readable_framed}
use Rattle.layout.specs.General.{dssi_count}
use Rattle.layout.specs.Premises.{DssiThere}

-- ---- a count
one_few : (b : Bool) → cond b 1 0 ≤ 1
one_few true = omega arith
one_few false = omega arith

-- no more than the records
pub count_few : (such : List ℕ → ℕ → Bool) (n : ℕ) (s : List ℕ) (at : ℕ) → count_of such n s at ≤ n
unfolding count_of
count_few such zero s at = omega arith
count_few such (suc n) s at = let rest = count_few such n s (end_of s at) in let one = one_few (such s at) in omega arith

-- ---- a tally
pub tally_same : {a b c d e f g h i j k l : ℕ} → a ≡ g → b ≡ h → c ≡ i → d ≡ j → e ≡ k → f ≡ l
    → ◌≡◌ {A = Tally} (record { meta = a; geo = b; collection = c; isolated = d; connected = e; edges = f })
    (record { meta = g; geo = h; collection = i; isolated = j; connected = k; edges = l })
tally_same p q r s t u = rw (p, q, r, s, t, u)

-- one record, and those behind it
pub records_next : (t : Tally) (n : ℕ) (s : List ℕ) (at : ℕ) → with_records t (suc n) s at ≡ with_records (with_record t s at) n s (end_of s at)
unfolding with_records with_record with_vector with_feature count_of of_name of_class
records_next t n s at =
    ⊎_elim (λ (h : eqb (rcnm_at s at) 100 ≡ true).
    let e : rcnm_at s at ≡ 100 = eqb-true _ _ h in
    rw e (tally_same (omega arith) (omega arith) (omega arith) (omega arith) (omega arith) (omega arith)))
    (λ (h : eqb (rcnm_at s at) 100 ≡ false).
    rw h (tally_same (omega arith) (omega arith) (omega arith) (omega arith) (omega arith) (omega arith)))
    (true_or_false (eqb (rcnm_at s at) 100))

pub records_none : (t : Tally) (s : List ℕ) (at : ℕ) → with_records t 0 s at ≡ t
unfolding with_records count_of
records_none t s at = tally_same (omega arith) (omega arith) (omega arith) (omega arith) (omega arith) (omega arith)

-- n records, and the one behind them
pub records_grow : (n : ℕ) (t : Tally) (s : List ℕ) (k at : ℕ) → at ≡ record_at s k → with_records t (n + 1) s at ≡ with_record (with_records t n s at) s (record_at s (k + n))
records_grow zero t s k at e = records_next t 0 s at ∙ records_none (with_record t s at) s (end_of s at) ∙ rw (records_none t s at, add-zero k, ← e)
records_grow (suc n) t s k at e =
    let place : k + 1 + n ≡ k + suc n = omega arith in
    rw (suc-add n 1, records_next t (n + 1) s at, records_grow n (with_record t s at) s (k + 1) (end_of s at) (at_next s k at e), place, records_next t n s at)

-- what is counted of n records is no more than they
pub records_most : (n : ℕ) (s : List ℕ) (at : ℕ) → AtMost n (with_records (record { meta = 0; geo = 0; collection = 0; isolated = 0; connected = 0; edges = 0 }) n s at)
unfolding with_records
records_most n s at = record {
  meta_few = omega (arith, count_few (of_class is_meta) n s at);
  geo_few = omega (arith, count_few (of_class is_geo) n s at);
  collection_few = omega (arith, count_few (of_class is_collection) n s at);
  isolated_few = omega (arith, count_few (of_name 110) n s at);
  connected_few = omega (arith, count_few (of_name 120) n s at);
  edges_few = omega (arith, count_few (of_name 130) n s at);
}

-- ---- tally_of: one law for each way through a turn
pub tally_start : (s : List ℕ) (n at : ℕ) → at ≡ record_at s 3
    → tally_of s n ≡ with_records (record { meta = 0; geo = 0; collection = 0; isolated = 0; connected = 0; edges = 0 }) (n - 3) s at
unfolding tally_of
tally_start s n at e = rw e

module _ (s : List ℕ) (n k at : ℕ) (t : Tally) (so : tally_of s n ≡ with_records t (n - k) s at) where
  pub tally_on : (u : Tally) (end : ℕ) → k < n → u ≡ with_record t s at → end ≡ end_of s at → tally_of s n ≡ with_records u (n - (k + 1)) s end
  tally_on u end more with_it is =
      let left : n - k ≡ suc (n - (k + 1)) = omega arith in
      so ∙ rw (left, with_it, is) (records_next t (n - (k + 1)) s at)

  pub tally_end : n ≤ k → t ≡ tally_of s n
  tally_end h = let left : n - k ≡ 0 = omega arith in sym (so ∙ rw left (records_none t s at))

  -- what is counted is no more than the records
  tally_most : AtMost (n - 3) t
  unfolding tally_of with_records
  tally_most = record {
    meta_few = omega (arith, ap (λ (u : Tally). u.meta) so, count_few (of_class is_meta) (n - 3) s (record_at s 3));
    geo_few = omega (arith, ap (λ (u : Tally). u.geo) so, count_few (of_class is_geo) (n - 3) s (record_at s 3));
    collection_few = omega (arith, ap (λ (u : Tally). u.collection) so, count_few (of_class is_collection) (n - 3) s (record_at s 3));
    isolated_few = omega (arith, ap (λ (u : Tally). u.isolated) so, count_few (of_name 110) (n - 3) s (record_at s 3));
    connected_few = omega (arith, ap (λ (u : Tally). u.connected) so, count_few (of_name 120) (n - 3) s (record_at s 3));
    edges_few = omega (arith, ap (λ (u : Tally). u.edges) so, count_few (of_name 130) (n - 3) s (record_at s 3));
  }

  pub tally_few : Readable false s n → AtMost 5242880 t
  tally_few readable =
      let few = readable_few readable in
      let m = tally_most in
      record {
        meta_few = let x = m.meta_few in omega arith;
        geo_few = let x = m.geo_few in omega arith;
        collection_few = let x = m.collection_few in omega arith;
        isolated_few = let x = m.isolated_few in omega arith;
        connected_few = let x = m.connected_few in omega arith;
        edges_few = let x = m.edges_few in omega arith;
      }

-- ---- third_at: the first records are there
module _ {s : List ℕ} {n : ℕ} (readable : Readable false s n) where
  pub first_framed : FramedAt s 0
  first_framed = let three = readable_three readable in readable_framed readable 0 0 (omega arith) (at_start s)

  pub second_framed : (e : ℕ) → e ≡ end_of s 0 → FramedAt s e
  second_framed e is = let three = readable_three readable in readable_framed readable 1 e (omega arith) (at_on s 0 0 e (at_start s) is)

  pub third_framed : (e f : ℕ) → e ≡ end_of s 0 → f ≡ end_of s e → FramedAt s f
  third_framed e f is next =
      let three = readable_three readable in
      readable_framed readable 2 f (omega arith) (at_on s 1 e f (at_on s 0 0 e (at_start s) is) next)

pub third_place : (s : List ℕ) (e f g : ℕ) → e ≡ end_of s 0 → f ≡ end_of s e → g ≡ end_of s f → g ≡ record_at s 3
third_place s e f g is next last = at_on s 2 f g (at_on s 1 e f (at_on s 0 0 e (at_start s) is) next) last

-- ---- add: a feature or a vector
module _ (s : List ℕ) (at : ℕ) (t u : Tally) (rcnm : ℕ) (is : rcnm ≡ rcnm_at s at) where
  pub add_feature_told : (objl : ℕ) → rcnm ≡ 100 → objl ≡ objl_at s at → u ≡ with_feature t objl → u ≡ with_record t s at
  unfolding with_record
  add_feature_told objl h class told = told ∙ rw (eq-eqb (rcnm_at s at) 100 (sym is ∙ h), class)

  pub add_vector_told : (rcnm ≡ 100 → ⊥) → u ≡ with_vector t rcnm → u ≡ with_record t s at
  unfolding with_record
  add_vector_told h told = told ∙ rw (ne_eqb (rcnm_at s at) 100 (λ e. h (is ∙ e)), is)

-- RCNM 100, as it was read, tells a feature
pub read_feature : (s : List ℕ) (at rcnm : ℕ) → Identified s at → rcnm ≡ rcnm_at s at → rcnm ≡ 100 → Featured s at
read_feature s at rcnm known is h = known.feature (sym is ∙ h)

-- ---- counts_good: DSSI is field 2 of record 1, and the counts there are compared with the tally
module _ (s : List ℕ) (e : ℕ) (is : e ≡ end_of s 0) where
  second_place : e ≡ record_at s 1
  second_place = at_on s 0 0 e (at_start s) is

  pub dssi_third : DssiThere s → 2 < count_at s e
  dssi_third there = let third = there.third in rw second_place (omega arith)

  pub dssi_whole : (f : Field) → DssiThere s → f ≡ field_at s e 2 → f.start + 35 ≤ length s
  dssi_whole f there field = rw (field, second_place) there.whole

  pub counts_told : (n : ℕ) (f : Field) (t : Tally) (r : Bool) → f ≡ field_at s e 2 → t ≡ tally_of s n → r ≡ tally_good s f.start t → r ≡ counts_good s n
  unfolding counts_good tally_good vectors_good dssi_count tally_of with_records
  counts_told n f t r field tally told = told ∙ rw (field, second_place, tally) (simp zero-add)
