-- The update record by record, each with a good target and no name twice, is the walk along the names; its result rises again.
-- Assumes nothing.
use Prim.Native.Nat.{ℕ, ◌≤◌, ◌<◌}
use mathlib.Core.Bool.{Bool, true, false, cond}
use mathlib.Core.List.{List, [], ◌∷◌}
use mathlib.Core.Logic.{◌⊎◌, ⊎_elim}
use mathlib.Core.Path.{◌≡◌, refl, sym, ap, ◌∙◌}
use native.Mathlib.Omega.{arith}
use lib.Dec.{eqb}
use borrow.Author.Tests.{lt-ltb, le-ltb, ne_eqb, eq-eqb}
use Rattle.octets.proofs.Cases.{true_or_false}
use Rattle.merge.specs.Updated.{rules_of, worked, updated, Over, over_none, over_more, Rising, rise_none, rise_more, Named, AllMade, made_none, made_more, Differs}
use Rattle.merge.specs.Updated.{diff_none, diff_more, Apart, apart_none, apart_more, AllFit, fit_none, fit_more}
use Rattle.merge.specs.Update.{Change, placed, without, changed, obeyed, result}
use Rattle.merge.specs.Targets.{holds, target_good}
use Rattle.merge.proofs.UpdatedLaws.{lt_or_le, worked_past, worked_new, worked_gone, worked_edit, over_less, rising_worked, rising_updated, worked_comm}

pub true_false : true ≡ false → ⊥
true_false e = let z : ◌≡◌ {A = ℕ} 0 1 = ap (λ (b : Bool). cond b 0 1) e in omega arith

module _ {A : Type 0} (key : A → ℕ) (n : ℕ) where
  pub holds_not : (l : List A) → Over key n l → holds key n l ≡ false
  unfolding holds
  holds_not [] over_none = refl
  holds_not (a ∷ l) (over_more h b) = rw (ne_eqb (key a) n (λ e. omega arith), holds_not l b)

  without_not : (l : List A) → Over key n l → without key n l ≡ l
  unfolding without
  without_not [] over_none = refl
  without_not (a ∷ l) (over_more h b) = rw (ne_eqb (key a) n (λ e. omega arith), without_not l b)

  changed_not : (f : A → A) (l : List A) → Over key n l → changed key n f l ≡ l
  unfolding changed
  changed_not f [] over_none = refl
  changed_not f (a ∷ l) (over_more h b) = rw (ne_eqb (key a) n (λ e. omega arith), changed_not f l b)

  no_first : (a : A) (l : List A) → holds key n (a ∷ l) ≡ false → (key a ≡ n → ⊥)
  unfolding holds
  no_first a l e same = true_false (sym (rw (eq-eqb (key a) n same)) ∙ e)

nothing_held : {A : Type 0} (key : A → ℕ) (n : ℕ) → holds key n [] ≡ true → ⊥
unfolding holds
nothing_held key n e = true_false (sym e)

module _ {A U : Type 0} (by : Change A U) (u : U) where
  -- ---- insert of a name that isn't held
  placed_by : (a : A) (l : List A) → by.key (by.made u) ≡ by.name u → holds by.key (by.name u) (a ∷ l) ≡ false
      → (holds by.key (by.name u) l ≡ false → placed by.key (by.made u) l ≡ worked (rules_of by) u l)
      → (by.key a < by.name u) ⊎ (by.name u ≤ by.key a) → placed by.key (by.made u) (a ∷ l) ≡ worked (rules_of by) u (a ∷ l)
  unfolding placed holds
  placed_by a l e lost rest way =
      let ne : by.key a ≡ by.name u → ⊥ = no_first by.key (by.name u) a l lost in
      let left : holds by.key (by.name u) l ≡ false = rw (ne_eqb (by.key a) (by.name u) ne) at lost in
      ⊎_elim (λ (h : by.key a < by.name u). rw (e, lt-ltb (by.key a) (by.name u) h, worked_past (rules_of by) u a l h, rest left))
      (λ (h : by.name u ≤ by.key a). rw (e, le-ltb (by.key a) (by.name u) h, worked_new (rules_of by) u a l (omega arith))) way

  pub placed_worked : (l : List A) → by.key (by.made u) ≡ by.name u → holds by.key (by.name u) l ≡ false → placed by.key (by.made u) l ≡ worked (rules_of by) u l
  unfolding placed worked
  placed_worked [] e lost = refl
  placed_worked (a ∷ l) e lost = placed_by a l e lost (placed_worked l e) (lt_or_le (by.key a) (by.name u))

  -- ---- delete and modify of one that is
  held_high : (a : A) (l : List A) → Over by.key (by.key a) l → holds by.key (by.name u) (a ∷ l) ≡ true → by.name u < by.key a → ⊥
  held_high a l b there h =
      true_false (sym there ∙ holds_not by.key (by.name u) (a ∷ l) (over_more h (over_less (rules_of by) (by.name u) (by.key a) l h b)))

  held_left : (a : A) (l : List A) → by.key a < by.name u → holds by.key (by.name u) (a ∷ l) ≡ true → holds by.key (by.name u) l ≡ true
  unfolding holds
  held_left a l h there = rw (ne_eqb (by.key a) (by.name u) (λ e. omega arith)) at there

  without_by : (a : A) (l : List A) → eqb (by.ruin u) 2 ≡ true → Over by.key (by.key a) l → holds by.key (by.name u) (a ∷ l) ≡ true
      → (holds by.key (by.name u) l ≡ true → without by.key (by.name u) l ≡ worked (rules_of by) u l)
      → (by.key a < by.name u) ⊎ (by.name u ≤ by.key a) → (by.name u < by.key a) ⊎ (by.key a ≤ by.name u)
      → without by.key (by.name u) (a ∷ l) ≡ worked (rules_of by) u (a ∷ l)
  unfolding without
  without_by a l g b there rest low high =
      ⊎_elim (λ (h : by.key a < by.name u).
      rw (ne_eqb (by.key a) (by.name u) (λ e. omega arith), worked_past (rules_of by) u a l h, rest (held_left a l h there)))
      (λ (h : by.name u ≤ by.key a).
      ⊎_elim (λ (k : by.name u < by.key a). absurd (held_high a l b there k))
      (λ (k : by.key a ≤ by.name u).
      let same : by.key a ≡ by.name u = omega arith in
      rw (eq-eqb (by.key a) (by.name u) same, worked_gone (rules_of by) u a l same g, without_not by.key (by.name u) l (rw same at b))) high) low

  pub without_worked : (l : List A) → eqb (by.ruin u) 2 ≡ true → Rising by.key l → holds by.key (by.name u) l ≡ true
      → without by.key (by.name u) l ≡ worked (rules_of by) u l
  without_worked [] g rise_none there = absurd (nothing_held by.key (by.name u) there)
  without_worked (a ∷ l) g (rise_more b so) there =
      without_by a l g b there (without_worked l g so) (lt_or_le (by.key a) (by.name u)) (lt_or_le (by.name u) (by.key a))

  changed_by_lem : (a : A) (l : List A) → eqb (by.ruin u) 2 ≡ false → Over by.key (by.key a) l → holds by.key (by.name u) (a ∷ l) ≡ true
      → (holds by.key (by.name u) l ≡ true → changed by.key (by.name u) (by.edit u) l ≡ worked (rules_of by) u l)
      → (by.key a < by.name u) ⊎ (by.name u ≤ by.key a) → (by.name u < by.key a) ⊎ (by.key a ≤ by.name u)
      → changed by.key (by.name u) (by.edit u) (a ∷ l) ≡ worked (rules_of by) u (a ∷ l)
  unfolding changed
  changed_by_lem a l g b there rest low high =
      ⊎_elim (λ (h : by.key a < by.name u).
      rw (ne_eqb (by.key a) (by.name u) (λ e. omega arith), worked_past (rules_of by) u a l h, rest (held_left a l h there)))
      (λ (h : by.name u ≤ by.key a).
      ⊎_elim (λ (k : by.name u < by.key a). absurd (held_high a l b there k))
      (λ (k : by.key a ≤ by.name u).
      let same : by.key a ≡ by.name u = omega arith in
      rw (eq-eqb (by.key a) (by.name u) same, worked_edit (rules_of by) u a l same g, changed_not by.key (by.name u) (by.edit u) l (rw same at b))) high) low

  pub changed_worked : (l : List A) → eqb (by.ruin u) 2 ≡ false → Rising by.key l → holds by.key (by.name u) l ≡ true
      → changed by.key (by.name u) (by.edit u) l ≡ worked (rules_of by) u l
  changed_worked [] g rise_none there = absurd (nothing_held by.key (by.name u) there)
  changed_worked (a ∷ l) g (rise_more b so) there =
      changed_by_lem a l g b there (changed_worked l g so) (lt_or_le (by.key a) (by.name u)) (lt_or_le (by.name u) (by.key a))

  -- ---- a record with a good target
  insert_target : (l : List A) → eqb (by.ruin u) 1 ≡ true → target_good by l u ≡ true → holds by.key (by.name u) l ≡ false
  unfolding target_good
  insert_target l e good = pick (holds by.key (by.name u) l) (rw e at good) where
    pick : (z : Bool) → cond z false true ≡ true → z ≡ false
    pick true h = absurd (true_false (sym h))
    pick false h = refl

  other_target : (l : List A) → eqb (by.ruin u) 1 ≡ false → target_good by l u ≡ true → holds by.key (by.name u) l ≡ true
  unfolding target_good
  other_target l e good = rw e at good

  pub obeyed_worked : (l : List A) → by.key (by.made u) ≡ by.name u → Rising by.key l → target_good by l u ≡ true → obeyed by u l ≡ worked (rules_of by) u l
  unfolding obeyed
  obeyed_worked l e so good =
      ⊎_elim (λ (i : eqb (by.ruin u) 1 ≡ true). rw i (placed_worked l e (insert_target l i good)))
      (λ (i : eqb (by.ruin u) 1 ≡ false).
      ⊎_elim (λ (g : eqb (by.ruin u) 2 ≡ true). rw (i, g) (without_worked l g so (other_target l i good)))
      (λ (g : eqb (by.ruin u) 2 ≡ false). rw (i, g) (changed_worked l g so (other_target l i good))) (true_or_false (eqb (by.ruin u) 2)))
      (true_or_false (eqb (by.ruin u) 1))

-- ---- whether a name is held doesn't hang on changes of other names
module _ {A U : Type 0} (by : Change A U) (named : Named (rules_of by)) (n : ℕ) (u : U) (other : n ≡ by.name u → ⊥) (e : by.key (by.made u) ≡ by.name u) where
  holds_by : (a : A) (l : List A) → holds by.key n (worked (rules_of by) u l) ≡ holds by.key n l
      → (by.key a < by.name u) ⊎ (by.name u ≤ by.key a) → (by.name u < by.key a) ⊎ (by.key a ≤ by.name u)
      → (eqb (by.ruin u) 2 ≡ true) ⊎ (eqb (by.ruin u) 2 ≡ false) → holds by.key n (worked (rules_of by) u (a ∷ l)) ≡ holds by.key n (a ∷ l)
  unfolding holds
  holds_by a l rest low high gone =
      ⊎_elim (λ (h : by.key a < by.name u). rw (worked_past (rules_of by) u a l h, rest))
      (λ (h : by.name u ≤ by.key a).
      ⊎_elim (λ (k : by.name u < by.key a). rw (worked_new (rules_of by) u a l k, e, ne_eqb (by.name u) n (λ z. other (sym z))))
      (λ (k : by.key a ≤ by.name u).
      let same : by.key a ≡ by.name u = omega arith in
      ⊎_elim (λ (g : eqb (by.ruin u) 2 ≡ true). rw (worked_gone (rules_of by) u a l same g, ne_eqb (by.key a) n (λ z. other (sym z ∙ same))))
      (λ (g : eqb (by.ruin u) 2 ≡ false). rw (worked_edit (rules_of by) u a l same g, named.keep u a)) gone) high) low

  holds_worked : (l : List A) → holds by.key n (worked (rules_of by) u l) ≡ holds by.key n l
  unfolding holds worked
  holds_worked [] = rw (e, ne_eqb (by.name u) n (λ z. other (sym z)))
  holds_worked (a ∷ l) = holds_by a l (holds_worked l) (lt_or_le (by.key a) (by.name u)) (lt_or_le (by.name u) (by.key a)) (true_or_false (eqb (by.ruin u) 2))

module _ {A U : Type 0} (by : Change A U) (named : Named (rules_of by)) where
  fit_worked : (held : List A) (u : U) (us : List U) → by.key (by.made u) ≡ by.name u → Differs by.name (by.name u) us → AllFit by held us
      → AllFit by (worked (rules_of by) u held) us
  unfolding target_good
  fit_worked held u [] e diff_none fit_none = fit_none
  fit_worked held u (v ∷ us) e (diff_more ne rest) (fit_more good all) =
      fit_more {u = v} (rw (holds_worked by named (by.name v) u (λ z. ne (sym z)) e held) good) (fit_worked held u us e rest all)

  -- a change may as well come first
  first_last : (held : List A) (u : U) (us : List U) → Rising by.key held → by.key (by.made u) ≡ by.name u → AllMade (rules_of by) us → Differs by.name (by.name u) us
      → updated (rules_of by) (worked (rules_of by) u held) us ≡ worked (rules_of by) u (updated (rules_of by) held us)
  unfolding updated
  first_last held u [] so e made_none diff_none = refl
  first_last held u (v ∷ us) so e (made_more f made) (diff_more ne rest) =
      rw (first_last held u us so e made rest)
      (worked_comm named v u (updated (rules_of by) held us) (λ z. ne (sym z)) f e (rising_updated named held us made so))

  -- the update record by record, each with a good target and no name twice, is the walk over names
  pub result_updated : (held : List A) (us : List U) → Rising by.key held → AllMade (rules_of by) us → Apart by.name us → AllFit by held us
      → result by held us ≡ updated (rules_of by) held us
  unfolding result updated
  result_updated held [] so made_none apart_none fit_none = refl
  result_updated held (u ∷ us) so (made_more e made) (apart_more d rest) (fit_more good all) =
      rw (obeyed_worked by u held e so good)
      (result_updated (worked (rules_of by) u held) us (rising_worked named u held e so) made rest (fit_worked held u us e d all))
      ∙ first_last held u us so e made d

  -- what the update makes of a chart in held order is in held order
  pub result_rising : (held : List A) (us : List U) → Rising by.key held → AllMade (rules_of by) us → Apart by.name us → AllFit by held us
      → Rising by.key (result by held us)
  result_rising held us so made apart fit = rw (result_updated held us so made apart fit) (rising_updated named held us made so)
