-- Laws of the walk along the names: its steps on rising lists, and that the order of changes doesn't matter where their names differ.
-- Assumes nothing.
use Prim.Native.Nat.{ℕ, ◌≤◌, ◌<◌}
use mathlib.Core.Bool.{Bool, true, false, cond}
use mathlib.Core.List.{List, [], ◌∷◌}
use mathlib.Core.Logic.{◌⊎◌, inl, inr, ⊎_elim}
use mathlib.Core.Path.{◌≡◌, refl, sym, ap, ◌∙◌}
use native.Mathlib.Omega.{arith}
use lib.Dec.{ltb}
use borrow.Author.Tests.{lt-ltb, le-ltb}
use Rattle.octets.proofs.Cases.{true_or_false, le_or_lt}
use Rattle.words.specs.Order.{insert, sorted}
use Rattle.words.proofs.OrderLaws.{insert_here, insert_later}
use Rattle.merge.specs.Updated.{Rules, worked, updated, Over, over_none, over_more, Rising, rise_none, rise_more, Named, AllMade, made_none, made_more, Differs}
use Rattle.merge.specs.Updated.{diff_none, diff_more, Apart, apart_none, apart_more}

pub lt_or_le : (a b : ℕ) → (a < b) ⊎ (b ≤ a)
lt_or_le a b = ⊎_elim (λ (h : b ≤ a). inr h) (λ (h : a < b). inl h) (le_or_lt b a)

module _ {A U : Type 0} (by : Rules A U) where
  -- ---- the four ways of one change
  pub worked_past : (u : U) (a : A) (l : List A) → by.key a < by.name u → worked by u (a ∷ l) ≡ a ∷ worked by u l
  unfolding worked
  worked_past u a l h = rw (lt-ltb (by.key a) (by.name u) h)

  pub worked_new : (u : U) (a : A) (l : List A) → by.name u < by.key a → worked by u (a ∷ l) ≡ by.made u ∷ (a ∷ l)
  unfolding worked
  worked_new u a l h = rw (le-ltb (by.key a) (by.name u) (omega arith), lt-ltb (by.name u) (by.key a) h)

  pub worked_gone : (u : U) (a : A) (l : List A) → by.key a ≡ by.name u → by.gone u ≡ true → worked by u (a ∷ l) ≡ l
  unfolding worked
  worked_gone u a l e g = rw (le-ltb (by.key a) (by.name u) (omega arith), le-ltb (by.name u) (by.key a) (omega arith), g)

  pub worked_edit : (u : U) (a : A) (l : List A) → by.key a ≡ by.name u → by.gone u ≡ false → worked by u (a ∷ l) ≡ by.edit u a ∷ l
  unfolding worked
  worked_edit u a l e g = rw (le-ltb (by.key a) (by.name u) (omega arith), le-ltb (by.name u) (by.key a) (omega arith), g)

  -- ---- names that are above a number stay so
  pub over_less : (k n : ℕ) (l : List A) → k < n → Over by.key n l → Over by.key k l
  over_less k n [] h over_none = over_none
  over_less k n (a ∷ l) h (over_more b rest) = over_more {a = a} (omega arith) (over_less k n l h rest)

  -- in front of all
  pub worked_first : (u : U) (l : List A) → Over by.key (by.name u) l → worked by u l ≡ by.made u ∷ l
  unfolding worked
  worked_first u [] over_none = refl
  worked_first u (a ∷ l) (over_more b rest) = worked_new u a l b

module _ {A U : Type 0} {by : Rules A U} (named : Named by) where
  over_pick : (n : ℕ) (u : U) (a : A) (l : List A) (z : Bool) → n < by.key a → Over by.key n l → Over by.key n (cond z l (by.edit u a ∷ l))
  over_pick n u a l true h rest = rest
  over_pick n u a l false h rest = let e = named.keep u a in over_more {a = by.edit u a} (omega arith) rest

  over_ways : (n : ℕ) (u : U) (a : A) (l w : List A) (x y z : Bool) → by.key (by.made u) ≡ by.name u → n < by.name u → n < by.key a → Over by.key n l
      → Over by.key n w → Over by.key n (cond x (a ∷ w) (cond y (by.made u ∷ (a ∷ l)) (cond z l (by.edit u a ∷ l))))
  over_ways n u a l w true y z e h b rest on = over_more b on
  over_ways n u a l w false true z e h b rest on = over_more {a = by.made u} (omega arith) (over_more b rest)
  over_ways n u a l w false false z e h b rest on = over_pick n u a l z b rest

  pub over_worked : (n : ℕ) (u : U) (l : List A) → by.key (by.made u) ≡ by.name u → n < by.name u → Over by.key n l → Over by.key n (worked by u l)
  unfolding worked
  over_worked n u [] e h over_none = over_more {a = by.made u} (omega arith) over_none
  over_worked n u (a ∷ l) e h (over_more b rest) =
      over_ways n u a l (worked by u l) (ltb (by.key a) (by.name u)) (ltb (by.name u) (by.key a)) (by.gone u) e h b rest (over_worked n u l e h rest)

  pub over_updated : (n : ℕ) (held : List A) (us : List U) → AllMade by us → Over by.key n held → Over by.name n us → Over by.key n (updated by held us)
  unfolding updated
  over_updated n held [] made_none b over_none = b
  over_updated n held (u ∷ us) (made_more e made) b (over_more h rest) = over_worked n u (updated by held us) e h (over_updated n held us made b rest)

  -- ---- names that rise go on rising
  rising_by : (u : U) (a : A) (l : List A) → by.key (by.made u) ≡ by.name u → Over by.key (by.key a) l → Rising by.key l → Rising by.key (worked by u l)
      → (by.key a < by.name u) ⊎ (by.name u ≤ by.key a) → (by.name u < by.key a) ⊎ (by.key a ≤ by.name u) → (by.gone u ≡ true) ⊎ (by.gone u ≡ false)
      → Rising by.key (worked by u (a ∷ l))
  rising_by u a l e b so rest low high gone =
      ⊎_elim (λ (h : by.key a < by.name u). rw (worked_past by u a l h) (rise_more (over_worked (by.key a) u l e h b) rest))
      (λ (h : by.name u ≤ by.key a).
      ⊎_elim (λ (k : by.name u < by.key a).
      rw (worked_new by u a l k)
      (rise_more {a = by.made u} {l = a ∷ l} (rw e (over_more k (over_less by (by.name u) (by.key a) l k b))) (rise_more b so)))
      (λ (k : by.key a ≤ by.name u).
      ⊎_elim (λ (g : by.gone u ≡ true). rw (worked_gone by u a l (omega arith) g) so)
      (λ (g : by.gone u ≡ false). rw (worked_edit by u a l (omega arith) g) (rise_more {a = by.edit u a} {l = l} (rw (named.keep u a) b) so)) gone) high) low

  pub rising_worked : (u : U) (l : List A) → by.key (by.made u) ≡ by.name u → Rising by.key l → Rising by.key (worked by u l)
  unfolding worked
  rising_worked u [] e rise_none = rise_more over_none rise_none
  rising_worked u (a ∷ l) e (rise_more b so) =
      rising_by u a l e b so (rising_worked u l e so) (lt_or_le (by.key a) (by.name u)) (lt_or_le (by.name u) (by.key a)) (true_or_false (by.gone u))

  pub rising_updated : (held : List A) (us : List U) → AllMade by us → Rising by.key held → Rising by.key (updated by held us)
  unfolding updated
  rising_updated held [] made_none so = so
  rising_updated held (u ∷ us) (made_more e made) so = rising_worked u (updated by held us) e (rising_updated held us made so)

  -- ---- the merge of two rising lists, by what stands in front
  pub front_kept : (a : A) (held : List A) (us : List U) → Over by.name (by.key a) us → updated by (a ∷ held) us ≡ a ∷ updated by held us
  unfolding updated
  front_kept a held [] over_none = refl
  front_kept a held (u ∷ us) (over_more h rest) = rw (front_kept a held us rest) (worked_past by u a (updated by held us) h)

  pub front_new : (u : U) (held : List A) (us : List U) → AllMade by us → Over by.key (by.name u) held → Over by.name (by.name u) us
      → updated by held (u ∷ us) ≡ by.made u ∷ updated by held us
  unfolding updated
  front_new u held us made b rest = worked_first by u (updated by held us) (over_updated (by.name u) held us made b rest)

  module _ (a : A) (held : List A) (u : U) (us : List U) (same : by.key a ≡ by.name u) (rest : Over by.name (by.name u) us) where
    front_both : updated by (a ∷ held) (u ∷ us) ≡ worked by u (a ∷ updated by held us)
    unfolding updated
    front_both = rw (front_kept a held us (rw same rest))

    pub front_gone : by.gone u ≡ true → updated by (a ∷ held) (u ∷ us) ≡ updated by held us
    front_gone g = front_both ∙ worked_gone by u a (updated by held us) same g

    pub front_edit : by.gone u ≡ false → updated by (a ∷ held) (u ∷ us) ≡ by.edit u a ∷ updated by held us
    front_edit g = front_both ∙ worked_edit by u a (updated by held us) same g

  -- ---- two changes of different names, either first
  module _ (u v : U) (less : by.name u < by.name v) (eu : by.key (by.made u) ≡ by.name u) (ev : by.key (by.made v) ≡ by.name v) where
    comm_by : (a : A) (l : List A) → Over by.key (by.key a) l → worked by u (worked by v l) ≡ worked by v (worked by u l)
        → (by.key a < by.name u) ⊎ (by.name u ≤ by.key a) → (by.name u < by.key a) ⊎ (by.key a ≤ by.name u) → (by.gone u ≡ true) ⊎ (by.gone u ≡ false)
        → worked by u (worked by v (a ∷ l)) ≡ worked by v (worked by u (a ∷ l))
    comm_by a l b rest low high gone =
        ⊎_elim (λ (h : by.key a < by.name u).
        rw (worked_past by v a l (omega arith), worked_past by u a l h, worked_past by u a (worked by v l) h, worked_past by v a (worked by u l) (omega arith), rest))
        (λ (h : by.name u ≤ by.key a).
        ⊎_elim (λ (k : by.name u < by.key a).
        let all : Over by.key (by.name u) (a ∷ l) = over_more k (over_less by (by.name u) (by.key a) l k b) in
        worked_first by u (worked by v (a ∷ l)) (over_worked (by.name u) v (a ∷ l) ev less all)
        ∙ rw (worked_new by u a l k, worked_past by v (by.made u) (a ∷ l) (omega arith)))
        (λ (k : by.key a ≤ by.name u).
        ⊎_elim (λ (g : by.gone u ≡ true).
        rw (worked_past by v a l (omega arith), worked_gone by u a (worked by v l) (omega arith) g, worked_gone by u a l (omega arith) g))
        (λ (g : by.gone u ≡ false).
        let e = named.keep u a in
        rw (
          worked_past by v a l (omega arith),
          worked_edit by u a (worked by v l) (omega arith) g,
          worked_edit by u a l (omega arith) g,
          worked_past by v (by.edit u a) l (omega arith),
        ))
        gone) high) low

    comm_none : worked by u (worked by v []) ≡ worked by v (worked by u [])
    unfolding worked
    comm_none = worked_new by u (by.made v) [] (omega arith) ∙ sym (worked_past by v (by.made u) [] (omega arith))

    comm_lt : (l : List A) → Rising by.key l → worked by u (worked by v l) ≡ worked by v (worked by u l)
    comm_lt [] rise_none = comm_none
    comm_lt (a ∷ l) (rise_more b so) =
        comm_by a l b (comm_lt l so) (lt_or_le (by.key a) (by.name u)) (lt_or_le (by.name u) (by.key a)) (true_or_false (by.gone u))

  pub worked_comm : (u v : U) (l : List A) → (by.name u ≡ by.name v → ⊥) → by.key (by.made u) ≡ by.name u → by.key (by.made v) ≡ by.name v → Rising by.key l
      → worked by u (worked by v l) ≡ worked by v (worked by u l)
  worked_comm u v l ne eu ev so =
      ⊎_elim (λ (h : by.name u < by.name v). comm_lt u v h eu ev l so)
      (λ (h : by.name v ≤ by.name u).
      ⊎_elim (λ (k : by.name v < by.name u). sym (comm_lt v u k ev eu l so)) (λ (k : by.name u ≤ by.name v). absurd (ne (omega arith)))
      (lt_or_le (by.name v) (by.name u))) (lt_or_le (by.name u) (by.name v))

-- ---- the changes of a file, sorted or not
module _ {A : Type 0} {by : Rules A ℕ} (named : Named by) (held : List A) (so : Rising by.key held) where
  updated_swap : (x y : ℕ) (us : List ℕ) → (by.name x ≡ by.name y → ⊥) → by.key (by.made x) ≡ by.name x → by.key (by.made y) ≡ by.name y → AllMade by us
      → worked by x (worked by y (updated by held us)) ≡ worked by y (worked by x (updated by held us))
  updated_swap x y us ne ex ey made = worked_comm named x y (updated by held us) ne ex ey (rising_updated named held us made so)

  insert_by_lem : (x y : ℕ) (us : List ℕ) → (by.name x ≡ by.name y → ⊥) → by.key (by.made x) ≡ by.name x → by.key (by.made y) ≡ by.name y → AllMade by us
      → updated by held (insert x us) ≡ worked by x (updated by held us) → (x ≤ y) ⊎ (y < x)
      → updated by held (insert x (y ∷ us)) ≡ worked by x (updated by held (y ∷ us))
  unfolding updated
  insert_by_lem x y us ne ex ey made rest way =
      ⊎_elim (λ (h : x ≤ y). rw (insert_here x y us h)) (λ (h : y < x). rw (insert_later x y us h, rest) (sym (updated_swap x y us ne ex ey made))) way

  insert_worked : (x : ℕ) (us : List ℕ) → Differs by.name (by.name x) us → by.key (by.made x) ≡ by.name x → AllMade by us
      → updated by held (insert x us) ≡ worked by x (updated by held us)
  unfolding updated insert
  insert_worked x [] diff_none ex made_none = refl
  insert_worked x (y ∷ us) (diff_more ne rest) ex (made_more ey made) = insert_by_lem x y us ne ex ey made (insert_worked x us rest ex made) (le_or_lt x y)

  differs_by : (n x y : ℕ) (us : List ℕ) → (n ≡ by.name x → ⊥) → (n ≡ by.name y → ⊥) → Differs by.name n us → Differs by.name n (insert x us) → (x ≤ y) ⊎ (y < x)
      → Differs by.name n (insert x (y ∷ us))
  differs_by n x y us hx hy d rest way =
      ⊎_elim (λ (h : x ≤ y). rw (insert_here x y us h) (diff_more hx (diff_more hy d))) (λ (h : y < x). rw (insert_later x y us h) (diff_more hy rest)) way

  differs_insert : (n x : ℕ) (us : List ℕ) → (n ≡ by.name x → ⊥) → Differs by.name n us → Differs by.name n (insert x us)
  unfolding insert
  differs_insert n x [] hx diff_none = diff_more hx diff_none
  differs_insert n x (y ∷ us) hx (diff_more hy d) = differs_by n x y us hx hy d (differs_insert n x us hx d) (le_or_lt x y)

  differs_sorted : (n : ℕ) (us : List ℕ) → Differs by.name n us → Differs by.name n (sorted us)
  unfolding sorted
  differs_sorted n [] diff_none = diff_none
  differs_sorted n (x ∷ us) (diff_more h d) = differs_insert n x (sorted us) h (differs_sorted n us d)

  made_by : (x y : ℕ) (us : List ℕ) → by.key (by.made x) ≡ by.name x → by.key (by.made y) ≡ by.name y → AllMade by us → AllMade by (insert x us) → (x ≤ y) ⊎ (y < x)
      → AllMade by (insert x (y ∷ us))
  made_by x y us ex ey made rest way =
      ⊎_elim (λ (h : x ≤ y). rw (insert_here x y us h) (made_more ex (made_more ey made))) (λ (h : y < x). rw (insert_later x y us h) (made_more ey rest)) way

  made_insert : (x : ℕ) (us : List ℕ) → by.key (by.made x) ≡ by.name x → AllMade by us → AllMade by (insert x us)
  unfolding insert
  made_insert x [] ex made_none = made_more ex made_none
  made_insert x (y ∷ us) ex (made_more ey made) = made_by x y us ex ey made (made_insert x us ex made) (le_or_lt x y)

  pub made_sorted : (us : List ℕ) → AllMade by us → AllMade by (sorted us)
  unfolding sorted
  made_sorted [] made_none = made_none
  made_sorted (x ∷ us) (made_more ex made) = made_insert x (sorted us) ex (made_sorted us made)

  -- the update's records in their own order, or in that of their names
  pub updated_sorted : (us : List ℕ) → Apart by.name us → AllMade by us → updated by held (sorted us) ≡ updated by held us
  unfolding updated sorted
  updated_sorted [] apart_none made_none = refl
  updated_sorted (x ∷ us) (apart_more d rest) (made_more ex made) =
      insert_worked x (sorted us) (differs_sorted (by.name x) us d) ex (made_sorted us made) ∙ ap (λ (l : List A). worked by x l) (updated_sorted us rest made)
