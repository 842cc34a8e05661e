-- The words of the result with its modifies stand for the update's result, whatever a word stands for. Assumes nothing.
use Prim.Native.Nat.{ℕ, ◌≤◌, ◌<◌}
use mathlib.Core.Bool.{Bool, true, false, cond, not, ◌&&◌, ◌||◌}
use mathlib.Core.List.{List, [], ◌∷◌, map}
use mathlib.Core.Logic.{◌⊎◌, ⊎_elim}
use mathlib.Core.Path.{◌≡◌, refl, sym, ap, ◌∙◌}
use native.Mathlib.Omega.{arith}
use lib.Dec.{eqb}
use borrow.Author.Tests.{ne_eqb, eq-eqb}
use Rattle.octets.proofs.Cases.{true_or_false}
use Rattle.items.specs.Word.{name_of, marked}
use Rattle.merge.specs.Updated.{worked, updated, Over, over_none, over_more, Rising, rise_none, rise_more, AllMade, made_none, made_more}
use Rattle.merge.specs.Words.{word_rules, result_words, modifies, deletes, has_name}
use Rattle.merge.specs.Places.{joined}
use Rattle.merge.specs.Meant.{thing_rules, AllKeyed, keyed_none, keyed_more}
use Rattle.merge.proofs.UpdatedLaws.{lt_or_le, worked_past, worked_new, worked_gone, worked_edit, over_less, rising_updated, worked_first}
use Rattle.merge.proofs.TurnLaws.{mark_name, words_named, words_made, has_not}

-- ---- the equations of `joined`
module _ {A : Type 0} (one : ℕ → A) (both : ℕ → ℕ → A) where
  pub joined_past : (w : ℕ) (ws ms : List ℕ) → Over (λ (m : ℕ). name_of m) (name_of w) ms → joined one both (w ∷ ws) ms ≡ one w ∷ joined one both ws ms
  unfolding joined
  joined_past w ws [] over_none = refl
  joined_past w ws (m ∷ ms) (over_more h rest) = rw (ne_eqb (name_of w) (name_of m) (λ e. omega arith))

  pub joined_met : (w m : ℕ) (ws ms : List ℕ) → name_of w ≡ name_of m → joined one both (w ∷ ws) (m ∷ ms) ≡ both w m ∷ joined one both ws ms
  unfolding joined
  joined_met w m ws ms e = rw (eq-eqb (name_of w) (name_of m) e)

  pub joined_none : (ws : List ℕ) → joined one both ws [] ≡ map one ws
  unfolding joined
  joined_none [] = refl
  joined_none (w ∷ ws) = ap (λ (l : List A). one w ∷ l) (joined_none ws)

-- things by things
pub joined_map : {A B : Type 0} (f : A → B) (one : ℕ → A) (both : ℕ → ℕ → A) (ws ms : List ℕ)
    → joined (λ (w : ℕ). f (one w)) (λ (w m : ℕ). f (both w m)) ws ms ≡ map f (joined one both ws ms)
unfolding joined
joined_map f one both [] ms = refl
joined_map f one both (w ∷ ws) [] = ap (λ l. f (one w) ∷ l) (joined_map f one both ws [])
joined_map f one both (w ∷ ws) (m ∷ ms) = pick (joined_map f one both ws ms) (joined_map f one both ws (m ∷ ms)) (eqb (name_of w) (name_of m)) where
  pick : joined (λ (w : ℕ). f (one w)) (λ (w m : ℕ). f (both w m)) ws ms ≡ map f (joined one both ws ms)
      → joined (λ (w : ℕ). f (one w)) (λ (w m : ℕ). f (both w m)) ws (m ∷ ms) ≡ map f (joined one both ws (m ∷ ms)) → (z : Bool)
      → cond z (f (both w m) ∷ joined (λ (w : ℕ). f (one w)) (λ (w m : ℕ). f (both w m)) ws ms) (f (one w) ∷ joined (λ (w : ℕ). f (one w)) (λ (w m : ℕ). f (both w m)) ws (m ∷ ms))
      ≡ map f (cond z (both w m ∷ joined one both ws ms) (one w ∷ joined one both ws (m ∷ ms)))
  pick a b true = ap (λ l. f (both w m) ∷ l) a
  pick a b false = ap (λ l. f (one w) ∷ l) b

-- ---- the modifies of one change more
over_some : (n u : ℕ) (ms : List ℕ) (z : Bool) → n < name_of u → Over (λ (m : ℕ). name_of m) (name_of u) ms → Over (λ (m : ℕ). name_of m) n (cond z (u ∷ ms) ms)
over_some n u ms true h b = over_more h (over_less word_rules n (name_of u) ms h b)
over_some n u ms false h b = over_less word_rules n (name_of u) ms h b

over_pick : (n u : ℕ) (ms : List ℕ) (z : Bool) → n < name_of u → Over (λ (m : ℕ). name_of m) n ms → Over (λ (m : ℕ). name_of m) n (cond z (u ∷ ms) ms)
over_pick n u ms true h b = over_more h b
over_pick n u ms false h b = b

over_modifies : (n : ℕ) (cs us : List ℕ) → Over (λ (m : ℕ). name_of m) n us → Over (λ (m : ℕ). name_of m) n (modifies cs us)
unfolding modifies
over_modifies n cs [] over_none = over_none
over_modifies n cs (u ∷ us) (over_more h b) = over_pick n u (modifies cs us) (has_name (name_of u) cs && not (deletes u)) h (over_modifies n cs us b)

-- whether a name is there doesn't hang on changes of higher names
has_by : (n u c : ℕ) (cs : List ℕ) → n < name_of u → has_name n (worked word_rules u cs) ≡ has_name n cs → (name_of c < name_of u) ⊎ (name_of u ≤ name_of c)
    → (name_of u < name_of c) ⊎ (name_of c ≤ name_of u) → (deletes u ≡ true) ⊎ (deletes u ≡ false) → has_name n (worked word_rules u (c ∷ cs)) ≡ has_name n (c ∷ cs)
unfolding has_name
has_by n u c cs h rest low high gone =
    ⊎_elim (λ (a : name_of c < name_of u). rw (worked_past word_rules u c cs a, rest))
    (λ (a : name_of u ≤ name_of c).
    ⊎_elim (λ (b : name_of u < name_of c). rw (worked_new word_rules u c cs b, mark_name u, ne_eqb (name_of u) n (λ e. omega arith)))
    (λ (b : name_of c ≤ name_of u).
    ⊎_elim (λ (g : deletes u ≡ true). rw (worked_gone word_rules u c cs (omega arith) g, ne_eqb (name_of c) n (λ e. omega arith)))
    (λ (g : deletes u ≡ false). rw (worked_edit word_rules u c cs (omega arith) g)) gone) high) low

has_worked : (n u : ℕ) (cs : List ℕ) → n < name_of u → has_name n (worked word_rules u cs) ≡ has_name n cs
unfolding has_name worked
has_worked n u [] h = rw (mark_name u, ne_eqb (name_of u) n (λ e. omega arith))
has_worked n u (c ∷ cs) h =
    has_by n u c cs h (has_worked n u cs h) (lt_or_le (name_of c) (name_of u)) (lt_or_le (name_of u) (name_of c)) (true_or_false (deletes u))

has_result : (n : ℕ) (cs us : List ℕ) → Over (λ (m : ℕ). name_of m) n us → has_name n (result_words cs us) ≡ has_name n cs
unfolding result_words updated
has_result n cs [] over_none = refl
has_result n cs (u ∷ us) (over_more h b) = has_worked n u (updated word_rules cs us) h ∙ has_result n cs us b

-- ---- what the words of the result stand for
module _ {A : Type 0} (key : A → ℕ) (one : ℕ → A) (edit : ℕ → A → A) (keep : (u : ℕ) (a : A) → key (edit u a) ≡ key a) where
  keyed_by : (u c : ℕ) (cs : List ℕ) → key (one (marked u)) ≡ name_of u → key (one c) ≡ name_of c → AllKeyed key one cs → AllKeyed key one (worked word_rules u cs)
      → (name_of c < name_of u) ⊎ (name_of u ≤ name_of c) → (name_of u < name_of c) ⊎ (name_of c ≤ name_of u) → (deletes u ≡ true) ⊎ (deletes u ≡ false)
      → AllKeyed key one (worked word_rules u (c ∷ cs))
  keyed_by u c cs e f all rest low high gone =
      ⊎_elim (λ (a : name_of c < name_of u). rw (worked_past word_rules u c cs a) (keyed_more f rest))
      (λ (a : name_of u ≤ name_of c).
      ⊎_elim (λ (b : name_of u < name_of c). rw (worked_new word_rules u c cs b) (keyed_more (e ∙ sym (mark_name u)) (keyed_more f all)))
      (λ (b : name_of c ≤ name_of u).
      ⊎_elim (λ (g : deletes u ≡ true). rw (worked_gone word_rules u c cs (omega arith) g) all)
      (λ (g : deletes u ≡ false). rw (worked_edit word_rules u c cs (omega arith) g) (keyed_more f all)) gone) high) low

  keyed_worked : (u : ℕ) (cs : List ℕ) → key (one (marked u)) ≡ name_of u → AllKeyed key one cs → AllKeyed key one (worked word_rules u cs)
  unfolding worked
  keyed_worked u [] e keyed_none = keyed_more (e ∙ sym (mark_name u)) keyed_none
  keyed_worked u (c ∷ cs) e (keyed_more f all) =
      keyed_by u c cs e f all (keyed_worked u cs e all) (lt_or_le (name_of c) (name_of u)) (lt_or_le (name_of u) (name_of c)) (true_or_false (deletes u))

  pub keyed_result : (cs us : List ℕ) → AllKeyed key one cs → AllMade (thing_rules key one edit) us → AllKeyed key one (result_words cs us)
  unfolding result_words updated
  keyed_result cs [] all made_none = all
  keyed_result cs (u ∷ us) all (made_more e made) = keyed_worked u (updated word_rules cs us) e (keyed_result cs us all made)

  over_pair : (n w m : ℕ) (p q : List A) (z : Bool) → n < name_of w → key (one w) ≡ name_of w → Over key n p → Over key n q
      → Over key n (cond z (edit m (one w) ∷ p) (one w ∷ q))
  over_pair n w m p q true h e b d = let k = keep m (one w) in over_more {a = edit m (one w)} (omega arith) b
  over_pair n w m p q false h e b d = over_more {a = one w} (omega arith) d

  over_joined : (n : ℕ) (ws ms : List ℕ) → Over (λ (m : ℕ). name_of m) n ws → AllKeyed key one ws → Over key n (joined one (λ (w m : ℕ). edit m (one w)) ws ms)
  unfolding joined
  over_joined n [] ms over_none keyed_none = over_none
  over_joined n (w ∷ ws) [] (over_more h b) (keyed_more e all) = over_more {a = one w} (omega arith) (over_joined n ws [] b all)
  over_joined n (w ∷ ws) (m ∷ ms) (over_more h b) (keyed_more e all) =
      over_pair n w m (joined one (λ (w m : ℕ). edit m (one w)) ws ms) (joined one (λ (w m : ℕ). edit m (one w)) ws (m ∷ ms)) (eqb (name_of w) (name_of m)) h e
      (over_joined n ws ms b all) (over_joined n ws (m ∷ ms) b all)

  joined_first : (u : ℕ) (ms : List ℕ) → Over (λ (m : ℕ). name_of m) (name_of u) ms
      → joined one (λ (w m : ℕ). edit m (one w)) (worked word_rules u []) (cond (has_name (name_of u) [] && not (deletes u)) (u ∷ ms) ms)
      ≡ worked (thing_rules key one edit) u (joined one (λ (w m : ℕ). edit m (one w)) [] ms)
  unfolding worked has_name joined
  joined_first u ms o = joined_past one (λ (w m : ℕ). edit m (one w)) (marked u) [] ms (rw (mark_name u) o)

  step_by : (u w : ℕ) (ws ms : List ℕ) → Over (λ (m : ℕ). name_of m) (name_of w) ws → Over (λ (m : ℕ). name_of m) (name_of u) ms → key (one w) ≡ name_of w → AllKeyed key one ws
      → joined one (λ (w m : ℕ). edit m (one w)) (worked word_rules u ws) (cond (has_name (name_of u) ws && not (deletes u)) (u ∷ ms) ms)
      ≡ worked (thing_rules key one edit) u (joined one (λ (w m : ℕ). edit m (one w)) ws ms)
      → (name_of w < name_of u) ⊎ (name_of u ≤ name_of w) → (name_of u < name_of w) ⊎ (name_of w ≤ name_of u) → (deletes u ≡ true) ⊎ (deletes u ≡ false)
      → joined one (λ (w m : ℕ). edit m (one w)) (worked word_rules u (w ∷ ws)) (cond (has_name (name_of u) (w ∷ ws) && not (deletes u)) (u ∷ ms) ms)
      ≡ worked (thing_rules key one edit) u (joined one (λ (w m : ℕ). edit m (one w)) (w ∷ ws) ms)
  unfolding has_name
  step_by u w ws ms b o e all rest low high gone =
      let two : ℕ → ℕ → A = λ (w m : ℕ). edit m (one w) in
      let things = thing_rules key one edit in
      ⊎_elim (λ (h : name_of w < name_of u).
      let next = cond (has_name (name_of u) ws && not (deletes u)) (u ∷ ms) ms in
      rw (
        worked_past word_rules u w ws h,
        ne_eqb (name_of w) (name_of u) (λ z. omega arith),
        joined_past one two w (worked word_rules u ws) next (over_some (name_of w) u ms (has_name (name_of u) ws && not (deletes u)) h o),
        joined_past one two w ws ms (over_less word_rules (name_of w) (name_of u) ms h o),
        worked_past things u (one w) (joined one two ws ms) (omega arith),
        rest,
      ))
      (λ (h : name_of u ≤ name_of w).
      ⊎_elim (λ (k : name_of u < name_of w).
      let higher : Over (λ (m : ℕ). name_of m) (name_of u) (w ∷ ws) = over_more k (over_less word_rules (name_of u) (name_of w) ws k b) in
      let no : (eqb (name_of w) (name_of u) || has_name (name_of u) ws) ≡ false = has_not (name_of u) (w ∷ ws) higher in
      rw (worked_new word_rules u w ws k, no, joined_past one two (marked u) (w ∷ ws) ms (rw (mark_name u) o))
      (sym (worked_first things u (joined one two (w ∷ ws) ms) (over_joined (name_of u) (w ∷ ws) ms higher (keyed_more e all)))))
      (λ (k : name_of w ≤ name_of u).
      let same : name_of w ≡ name_of u = omega arith in
      let past = joined_past one two w ws ms (rw same o) in
      ⊎_elim (λ (g : deletes u ≡ true).
      rw (worked_gone word_rules u w ws same g, eq-eqb (name_of w) (name_of u) same, g, past) (sym (worked_gone things u (one w) (joined one two ws ms) (e ∙ same) g)))
      (λ (g : deletes u ≡ false).
      rw (worked_edit word_rules u w ws same g, eq-eqb (name_of w) (name_of u) same, g, past, joined_met one two w u ws ms same)
      (sym (worked_edit things u (one w) (joined one two ws ms) (e ∙ same) g))) gone) high) low

  joined_worked : (u : ℕ) (ws ms : List ℕ) → Rising (λ (m : ℕ). name_of m) ws → Over (λ (m : ℕ). name_of m) (name_of u) ms → AllKeyed key one ws
      → joined one (λ (w m : ℕ). edit m (one w)) (worked word_rules u ws) (cond (has_name (name_of u) ws && not (deletes u)) (u ∷ ms) ms)
      ≡ worked (thing_rules key one edit) u (joined one (λ (w m : ℕ). edit m (one w)) ws ms)
  joined_worked u [] ms rise_none o keyed_none = joined_first u ms o
  joined_worked u (w ∷ ws) ms (rise_more b so) o (keyed_more e all) =
      step_by u w ws ms b o e all (joined_worked u ws ms so o all) (lt_or_le (name_of w) (name_of u)) (lt_or_le (name_of u) (name_of w)) (true_or_false (deletes u))

  -- the words of the result, with the modifies, stand for what the update makes of what the words of the cell stand for
  pub joined_updated : (cs us : List ℕ) → AllKeyed key one cs → AllMade (thing_rules key one edit) us → Rising (λ (m : ℕ). name_of m) cs → Rising (λ (m : ℕ). name_of m) us
      → joined one (λ (w m : ℕ). edit m (one w)) (result_words cs us) (modifies cs us) ≡ updated (thing_rules key one edit) (map one cs) us
  unfolding result_words updated modifies
  joined_updated cs [] all made_none so rise_none = joined_none one (λ (w m : ℕ). edit m (one w)) cs
  joined_updated cs (u ∷ us) all (made_more e made) so (rise_more b up) =
      rw (← has_result (name_of u) cs us b)
      (joined_worked u (result_words cs us) (modifies cs us) (rising_updated words_named cs us (words_made us) so) (over_modifies (name_of u) cs us b) (keyed_result cs us all made))
      ∙ ap (λ (l : List A). worked (thing_rules key one edit) u l) (joined_updated cs us all made so up)
