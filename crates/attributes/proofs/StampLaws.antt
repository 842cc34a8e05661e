-- The table of labels that a list has met: those that have the list's stamp. Assumes nothing.
use Prim.Native.Nat.{ℕ, zero, suc, ◌<◌}
use mathlib.Core.Bool.{true, false}
use mathlib.Core.List.{List, [], ◌∷◌}
use mathlib.Core.Path.{◌≡◌, refl, sym, ◌∙◌}
use mathlib.Core.Logic.{⊎_elim}
use native.Mathlib.Omega.{arith}
use lib.ListN.{length, get_or, set, replicate}
use lib.Seq.{get_or-set_same, get_or-set_other}
use borrow.Author.Tests.{eq-eqb, ne_eqb}
use Rattle.octets.specs.Lists.{is_in}
use Rattle.octets.proofs.Cases.{eq_or_ne}
use Rattle.attributes.specs.Premises.{Stamped, Upto}

-- ---- a table of zeros, before the first list
zero_at : (k l : ℕ) → get_or {A = ℕ} (replicate k 0) l 0 ≡ 0
zero_at zero l = refl
zero_at (suc k) zero = refl
zero_at (suc k) (suc l) = zero_at k l

pub upto_zeros : (k : ℕ) → Upto (replicate k 0) 0
upto_zeros k = record { is = λ (l : ℕ). omega (arith, zero_at k l) }

-- ---- a new list: a stamp above all before is no label's
pub stamp_fresh : {t : List ℕ} {n m : ℕ} → Upto t n → n < m → Stamped t m []
unfolding is_in
stamp_fresh {t} {n} {m} u h = record { is = λ (l : ℕ) (k : l < 65536). ne_eqb (get_or t l 0) m (λ (e : get_or t l 0 ≡ m). omega (arith, u.is l, e, h)) }

pub upto_more : {t : List ℕ} {n m : ℕ} → Upto t n → n < m → Upto t m
upto_more {t} {n} {m} u h = record { is = λ (l : ℕ). omega (arith, u.is l, h) }

-- ---- a label that is looked up
module _ {t : List ℕ} {stamp : ℕ} {met : List ℕ} (s : Stamped t stamp met) (label : ℕ) (small : label < 65536) where
  pub stamped_met : get_or t label 0 ≡ stamp → is_in label met ≡ true
  stamped_met e = sym (s.is label small) ∙ eq-eqb (get_or t label 0) stamp e

  pub stamped_new : (get_or t label 0 ≡ stamp → ⊥) → is_in label met ≡ false
  stamped_new e = sym (s.is label small) ∙ ne_eqb (get_or t label 0) stamp e

  -- ---- a label that is met
  pub stamped_set : length t ≡ 65536 → Stamped (set t label stamp) stamp (label ∷ met)
  unfolding is_in
  stamped_set long = record {
    is = λ (l : ℕ) (k : l < 65536).
        ⊎_elim
        (λ (e : label ≡ l). rw (eq-eqb label l e) (eq-eqb (get_or (set t label stamp) l 0) stamp (rw (← e) (get_or-set_same t label stamp 0 (omega arith)))))
        (λ (e : label ≡ l → ⊥). rw (ne_eqb label l e, get_or-set_other t label l stamp 0 (λ (x : l ≡ label). e (sym x))) (s.is l k))
        (eq_or_ne label l);
  }

pub upto_set : {t : List ℕ} {stamp : ℕ} (label : ℕ) → label < length t → Upto t stamp → Upto (set t label stamp) stamp
upto_set {t} {stamp} label small u = record {
  is = λ (l : ℕ).
      ⊎_elim
      (λ (e : label ≡ l). rw (← e, get_or-set_same t label stamp 0 small) (omega arith))
      (λ (e : label ≡ l → ⊥). rw (get_or-set_other t label l stamp 0 (λ (x : l ≡ label). e (sym x))) (u.is l))
      (eq_or_ne label l);
}
