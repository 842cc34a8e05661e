-- The record of a name: what a walk through a file's records finds is what the words of its names say. Assumes nothing.
use Prim.Native.Nat.{ℕ, zero, suc, ◌+◌, ◌-◌, ◌/◌, ◌%◌, ◌≤◌, ◌<◌}
use mathlib.Core.Bool.{Bool, true, false, not, cond, ◌||◌}
use mathlib.Core.List.{List, []}
use mathlib.Core.Logic.{◌⊎◌, inl, inr, ⊎_elim}
use mathlib.Core.Path.{◌≡◌, refl, sym, ap, ◌∙◌}
use native.Mathlib.Omega.{arith}
use lib.ListN.{length, get_or}
use lib.Dec.{eqb}
use borrow.Author.Tests.{eqb-true, eq-eqb}
use Rattle.std.specs.Prelude.{Option, Some, None}
use Rattle.octets.proofs.ListLaws.{member_at, member_place}
use Rattle.octets.specs.Lists.{is_in}
use Rattle.octets.specs.Number.{byte_at}
use Rattle.octets.proofs.Cases.{true_or_false, eq_or_ne, le_or_lt}
use Rattle.octets.proofs.Tests.{both, told_no, told_yes}
use Rattle.iso8211.specs.Record.{end_of}
use Rattle.iso8211.specs.File.{record_at}
use Rattle.iso8211.proofs.Promise.{at_next}
use Rattle.words.specs.Order.{sorted}
use Rattle.words.proofs.OrderLaws.{sorted_in_order, sorted_member}
use Rattle.items.specs.Identity.{rcnm_at, rcid_at, rank_of, name_from, name_at, word_for}
use Rattle.items.specs.Word.{name_of, word_offset, name_weight}
use Rattle.items.proofs.IdentityLaws.{name_rank, name_rcid, word_name, word_offset_lem}
use Rattle.names.specs.NameWords.{name_words, word_twice}
use Rattle.lookups.specs.LookupWords.{lookup}
use Rattle.names.proofs.ItemsLaws.{twice_words}
use Rattle.names.specs.Premises.{Readable, Strict}
use Rattle.names.specs.Names.{first_item, twice_of}
use Rattle.names.specs.Neighbours.{least_repeat}
use Rattle.names.specs.declared.twice.Repeat.{Repeat}
use Rattle.names.proofs.HeldLaws.{rcid_small}
use Rattle.lookups.proofs.LookupLaws.{found_cases}
use Rattle.names.proofs.NamedLaws.{found_record, lost_record}
use Rattle.names.proofs.NamesLaws.{names_length, names_at, ascending}
use Rattle.names.proofs.NeighboursLaws.{First, twice_least}
use Rattle.names.proofs.OnceLaws.{once_strict}
use Rattle.names.proofs.ReadableLaws.{place_small}
use Rattle.shownames.specs.Named.{is_named, named_from, named_in}
use Rattle.shownames.specs.Premises.{is_class, place_named}

-- ---- the walk: no record has the name; or those that have it stand at p
none_from : (n : ℕ) (s : List ℕ) (i at rcnm rcid : ℕ) → at ≡ record_at s i
    → ((j : ℕ) → i ≤ j → j < i + n → is_named s (record_at s j) rcnm rcid ≡ false) → named_from n s at rcnm rcid ≡ None
unfolding named_from
none_from zero s i at rcnm rcid e none = refl
none_from (suc n) s i at rcnm rcid e none =
    let here : is_named s at rcnm rcid ≡ false = rw e (none i (omega arith) (omega arith)) in
    rw here (none_from n s (i + 1) (end_of s at) rcnm rcid (at_next s i at e) (λ j low high. none j (omega arith) (omega arith)))

named_later : (s : List ℕ) (i k at rcnm rcid : ℕ) → at ≡ record_at s i → is_named s at rcnm rcid ≡ false → is_named s (record_at s k) rcnm rcid ≡ true → i ≤ k → i + 1 ≤ k
named_later s i k at rcnm rcid e f t low =
    ⊎_elim (λ (q : k ≡ i). absurd (let z : false ≡ true = sym f ∙ rw (e, ← q) t in let y : ◌≡◌ {A = ℕ} 0 1 = cc in omega arith))
    (λ (ne : k ≡ i → ⊥). omega arith) (eq_or_ne k i)

here_from : (n : ℕ) (s : List ℕ) (i at p rcnm rcid : ℕ) → at ≡ record_at s i
    → ((j : ℕ) → i ≤ j → j < i + n → is_named s (record_at s j) rcnm rcid ≡ true → record_at s j ≡ p)
    → (k : ℕ) → i ≤ k → k < i + n → is_named s (record_at s k) rcnm rcid ≡ true → named_from n s at rcnm rcid ≡ Some p
unfolding named_from
here_from zero s i at p rcnm rcid e only k low high is = absurd (omega arith)
here_from (suc n) s i at p rcnm rcid e only k low high is =
    ⊎_elim (λ (t : is_named s at rcnm rcid ≡ true). let same : at ≡ p = e ∙ only i (omega arith) (omega arith) (rw (← e) t) in rw (t, same))
    (λ (f : is_named s at rcnm rcid ≡ false).
    let late = named_later s i k at rcnm rcid e f is low in
    rw f (here_from n s (i + 1) (end_of s at) p rcnm rcid (at_next s i at e) (λ j l h. only j (omega arith) (omega arith)) k late (omega arith) is))
    (true_or_false (is_named s at rcnm rcid))

-- what is found is a record of the walk
found_from : (n : ℕ) (s : List ℕ) (i at p rcnm rcid : ℕ) → at ≡ record_at s i → named_from n s at rcnm rcid ≡ Some p
    → (k : ℕ) × (i ≤ k) × (k < i + n) × (p ≡ record_at s k)
unfolding named_from
found_from zero s i at p rcnm rcid e told = absurd (let z : ◌≡◌ {A = ℕ} 0 1 = cc in omega arith)
found_from (suc n) s i at p rcnm rcid e told = pick (true_or_false (is_named s at rcnm rcid)) (found_from n s (i + 1) (end_of s at) p rcnm rcid (at_next s i at e)) where
  pick : (is_named s at rcnm rcid ≡ true) ⊎ (is_named s at rcnm rcid ≡ false)
      → (named_from n s (end_of s at) rcnm rcid ≡ Some p → (k : ℕ) × (i + 1 ≤ k) × (k < i + 1 + n) × (p ≡ record_at s k))
      → (k : ℕ) × (i ≤ k) × (k < i + suc n) × (p ≡ record_at s k)
  pick way rest =
      ⊎_elim (λ (t : is_named s at rcnm rcid ≡ true). let same : Some at ≡ Some p = rw t at told in let q : at ≡ p = cc in (i, omega arith, omega arith, sym q ∙ e))
      (λ (f : is_named s at rcnm rcid ≡ false). let r = rest (rw f at told) in (r.0, omega arith, omega arith, r.3)) way

pub named_record : (update : Bool) (s : List ℕ) (n p rcnm rcid : ℕ) → named_in update s n rcnm rcid ≡ Some p → (k : ℕ) × (first_item update ≤ k) × (k < n) × (p ≡ record_at s k)
unfolding named_in
named_record update s n p rcnm rcid told =
    let r = found_from (n - first_item update) s (first_item update) (record_at s (first_item update)) p rcnm rcid refl told in (r.0, r.1, omega arith, r.3)

-- no record that has the name, nothing found
pub named_none : (update : Bool) (s : List ℕ) (n rcnm rcid : ℕ) → ((k : ℕ) → first_item update ≤ k → k < n → is_named s (record_at s k) rcnm rcid ≡ false)
    → named_in update s n rcnm rcid ≡ None
unfolding named_in
named_none update s n rcnm rcid none =
    none_from (n - first_item update) s (first_item update) (record_at s (first_item update)) rcnm rcid refl (λ j low high. none j low (omega arith))

-- ---- classes
abbrev Class : ℕ → Type 0
Class c = (c ≡ 110) ⊎ ((c ≡ 120) ⊎ ((c ≡ 130) ⊎ (c ≡ 100)))

one_of : (a b c d : Bool) → (a || (b || (c || d))) ≡ true → (a ≡ true) ⊎ ((b ≡ true) ⊎ ((c ≡ true) ⊎ (d ≡ true)))
one_of true b c d h = inl refl
one_of false true c d h = inr (inl refl)
one_of false false true d h = inr (inr (inl refl))
one_of false false false d h = inr (inr (inr h))

class_told : (c : ℕ) → is_class c ≡ true → Class c
unfolding is_class
class_told c h =
    ⊎_elim (λ (a : eqb c 110 ≡ true). inl (eqb-true _ _ a))
    (λ (o : (eqb c 120 ≡ true) ⊎ ((eqb c 130 ≡ true) ⊎ (eqb c 100 ≡ true))).
    inr
    (⊎_elim (λ (a : eqb c 120 ≡ true). inl (eqb-true _ _ a))
    (λ (q : (eqb c 130 ≡ true) ⊎ (eqb c 100 ≡ true)). inr (⊎_elim (λ (a : eqb c 130 ≡ true). inl (eqb-true _ _ a)) (λ (a : eqb c 100 ≡ true). inr (eqb-true _ _ a)) q)) o))
    (one_of (eqb c 110) (eqb c 120) (eqb c 130) (eqb c 100) h)

class_is : (c : ℕ) → Class c → is_class c ≡ true
unfolding is_class
class_is c h =
    ⊎_elim (λ (a : c ≡ 110). rw a)
    (λ (o : (c ≡ 120) ⊎ ((c ≡ 130) ⊎ (c ≡ 100))).
    ⊎_elim (λ (a : c ≡ 120). rw a) (λ (q : (c ≡ 130) ⊎ (c ≡ 100)). ⊎_elim (λ (a : c ≡ 130). rw a) (λ (a : c ≡ 100). rw a) q) o) h

-- of the four classes each has its own rank
ranked : ℕ → ℕ
ranked r = cond (eqb r 0) 110 (cond (eqb r 1) 120 (cond (eqb r 2) 130 100))

class_rank : (c : ℕ) → Class c → c ≡ ranked (rank_of c)
unfolding rank_of ranked
class_rank c h =
    ⊎_elim (λ (a : c ≡ 110). rw a)
    (λ (o : (c ≡ 120) ⊎ ((c ≡ 130) ⊎ (c ≡ 100))).
    ⊎_elim (λ (a : c ≡ 120). rw a) (λ (q : (c ≡ 130) ⊎ (c ≡ 100)). ⊎_elim (λ (a : c ≡ 130). rw a) (λ (a : c ≡ 100). rw a) q) o) h

rank_same : (a b : ℕ) → Class a → Class b → rank_of a ≡ rank_of b → a ≡ b
rank_same a b ca cb e = class_rank a ca ∙ ap ranked e ∙ sym (class_rank b cb)

-- ---- a record's name by RCNM and RCID, and by its number
named_apart : (s : List ℕ) (at rcnm rcid : ℕ) → is_named s at rcnm rcid ≡ true → (rcnm_at s at ≡ rcnm) × (rcid_at s at ≡ rcid)
unfolding is_named
named_apart s at rcnm rcid h = let p = both (eqb (rcnm_at s at) rcnm) (eqb (rcid_at s at) rcid) h in (eqb-true _ _ p.0, eqb-true _ _ p.1)

named_number : (s : List ℕ) (at rcnm rcid : ℕ) → is_named s at rcnm rcid ≡ true → name_at s at ≡ name_from rcnm rcid
unfolding name_at
named_number s at rcnm rcid h = let p = named_apart s at rcnm rcid h in rw (p.0, p.1)

number_named : (s : List ℕ) (at rcnm rcid : ℕ) → Class (rcnm_at s at) → Class rcnm → rcid_at s at < 4294967296 → rcid < 4294967296 → name_at s at ≡ name_from rcnm rcid
    → is_named s at rcnm rcid ≡ true
unfolding name_at is_named
number_named s at rcnm rcid here class few small e =
    let rank : rank_of (rcnm_at s at) ≡ rank_of rcnm =
    sym (name_rank (rcnm_at s at) (rcid_at s at) few) ∙ ap (λ (x : ℕ). x / 4294967296) e ∙ name_rank rcnm rcid small in
    let id : rcid_at s at ≡ rcid = sym (name_rcid (rcnm_at s at) (rcid_at s at) few) ∙ ap (λ (x : ℕ). x % 4294967296) e ∙ name_rcid rcnm rcid small in
    rw (eq-eqb _ _ (rank_same (rcnm_at s at) rcnm here class rank), eq-eqb _ _ id)

-- ---- no name twice: two records of one name stand at one place
some_first : (update : Bool) → 2 ≤ first_item update
unfolding first_item
some_first true = omega arith
some_first false = omega arith

module _ {update : Bool} {s : List ℕ} {n : ℕ} (good : Readable update s n) (once : (twice_of update s n).index ≡ 0) where
  once_least : least_repeat (sorted (name_words update s n)) ≡ name_weight
  once_least =
      let ws = name_words update s n in
      ⊎_elim (λ (alone : (least_repeat (sorted ws) ≡ name_weight) × (word_twice (first_item update) [] ws ≡ record { index = 0; offset = 0 })). alone.0)
      (λ (f : First (first_item update) ws (least_repeat (sorted ws))).
      let z : first_item update + f.j ≡ 0 = ap (λ (r : Repeat). r.index) (sym f.is ∙ sym (twice_words s n good.framed good.short update good.head)) ∙ once in
      let some = some_first update in
      absurd (omega arith))
      (twice_least (first_item update) ws (ascending update s n good))

  rising : Strict (sorted (name_words update s n))
  rising = once_strict (sorted (name_words update s n)) (sorted_in_order (name_words update s n)) once_least

  record_word : (k : ℕ) → first_item update ≤ k → k < n → is_in (word_for s (record_at s k)) (sorted (name_words update s n)) ≡ true
  record_word k low high =
      let ws = name_words update s n in
      let place : first_item update + (k - first_item update) ≡ k = omega arith in
      let there : get_or ws (k - first_item update) 0 ≡ word_for s (record_at s k) = names_at update s n (k - first_item update) (omega arith) ∙ rw place in
      let long : length ws ≡ n - first_item update = names_length update s n in
      sorted_member (word_for s (record_at s k)) ws ∙ rw there at (member_at ws (k - first_item update) (omega arith))

  one_place : (j k : ℕ) → first_item update ≤ j → j < n → first_item update ≤ k → k < n → name_at s (record_at s j) ≡ name_at s (record_at s k) → record_at s j ≡ record_at s k
  one_place j k lj hj lk hk e =
      let ws = sorted (name_words update s n) in
      let a = member_place (word_for s (record_at s j)) ws (record_word j lj hj) in
      let b = member_place (word_for s (record_at s k)) ws (record_word k lk hk) in
      let sj = place_small good j hj in
      let sk = place_small good k hk in
      let na : name_of (get_or ws a.0 0) ≡ name_at s (record_at s j) = ap (λ (w : ℕ). name_of w) a.2 ∙ word_name s (record_at s j) sj in
      let nb : name_of (get_or ws b.0 0) ≡ name_at s (record_at s k) = ap (λ (w : ℕ). name_of w) b.2 ∙ word_name s (record_at s k) sk in
      let names : name_of (get_or ws a.0 0) ≡ name_of (get_or ws b.0 0) = na ∙ e ∙ sym nb in
      let not_below : a.0 < b.0 → ⊥ = λ (h : a.0 < b.0). let up = rising.up a.0 b.0 h b.1 in omega arith in
      let not_above : b.0 < a.0 → ⊥ = λ (h : b.0 < a.0). let up = rising.up b.0 a.0 h a.1 in omega arith in
      let same : a.0 ≡ b.0 =
      ⊎_elim (λ (h : a.0 ≤ b.0). ⊎_elim (λ (g : b.0 ≤ a.0). omega arith) (λ (g : a.0 < b.0). absurd (not_below g)) (le_or_lt b.0 a.0))
      (λ (h : b.0 < a.0). absurd (not_above h)) (le_or_lt a.0 b.0) in
      let words : word_for s (record_at s j) ≡ word_for s (record_at s k) = sym a.2 ∙ ap (λ (i : ℕ). get_or ws i 0) same ∙ b.2 in
      sym (word_offset_lem s (record_at s j) sj) ∙ ap (λ (w : ℕ). word_offset w) words ∙ word_offset_lem s (record_at s k) sk

  -- the record that has the name is the one that is found
  pub named_only : (k rcnm rcid : ℕ) → first_item update ≤ k → k < n → is_named s (record_at s k) rcnm rcid ≡ true → named_in update s n rcnm rcid ≡ Some (record_at s k)
  unfolding named_in
  named_only k rcnm rcid low high is =
      here_from (n - first_item update) s (first_item update) (record_at s (first_item update)) (record_at s k) rcnm rcid refl
      (λ j l h t. one_place j k l (omega arith) low high (named_number s (record_at s j) rcnm rcid t ∙ sym (named_number s (record_at s k) rcnm rcid is))) k low (omega arith) is

  -- ---- the look-up finds the record of the name
  module _ (bytes : (i : ℕ) → byte_at s i < 256) (rcnm rcid : ℕ) (small : rcid < 4294967296) where
    abbrev name : ℕ
    name = name_from rcnm rcid

    abbrev words : List ℕ
    words = sorted (name_words update s n)

    within : (j : ℕ) → first_item update ≤ j → j < first_item update + (n - first_item update) → j < n
    within j low high = omega arith

    not_named : (j : ℕ) → (is_named s (record_at s j) rcnm rcid ≡ true → ⊥) → is_named s (record_at s j) rcnm rcid ≡ false
    not_named j other =
        ⊎_elim (λ (t : is_named s (record_at s j) rcnm rcid ≡ true). absurd (other t)) (λ (f : is_named s (record_at s j) rcnm rcid ≡ false). f)
        (true_or_false (is_named s (record_at s j) rcnm rcid))

    look_none : lookup words name ≡ None → named_in update s n rcnm rcid ≡ None
    unfolding named_in
    look_none e =
        none_from (n - first_item update) s (first_item update) (record_at s (first_item update)) rcnm rcid refl
        (λ j low high.
        not_named j (λ (t : is_named s (record_at s j) rcnm rcid ≡ true). lost_record good name e j low (within j low high) (named_number s (record_at s j) rcnm rcid t)))

    look_at : Class rcnm → (p : ℕ) → lookup words name ≡ Some p → named_in update s n rcnm rcid ≡ Some p
    unfolding named_in
    look_at class p e =
        let r = found_record good name p e in
        let k = r.0 in
        let known = (good.items k r.1 r.2).1 in
        let number : name_at s (record_at s k) ≡ name = rw r.3 r.4 in
        let is = number_named s (record_at s k) rcnm rcid known.class class (rcid_small s (record_at s k) bytes) small number in
        here_from (n - first_item update) s (first_item update) (record_at s (first_item update)) p rcnm rcid refl
        (λ j low high t. one_place j k low (within j low high) r.1 r.2 (named_number s (record_at s j) rcnm rcid t ∙ sym number) ∙ r.3) k r.1
        (let a = r.1 in let b = r.2 in omega arith) is

    pub other_class : is_class rcnm ≡ false → named_in update s n rcnm rcid ≡ None
    unfolding named_in
    other_class f =
        none_from (n - first_item update) s (first_item update) (record_at s (first_item update)) rcnm rcid refl
        (λ j low high.
        not_named j
        (λ (t : is_named s (record_at s j) rcnm rcid ≡ true).
        let known = (good.items j low (within j low high)).1 in
        let class = class_is (rcnm_at s (record_at s j)) known.class in
        let z : false ≡ true = sym f ∙ (rw (named_apart s (record_at s j) rcnm rcid t).0 at class) in
        let y : ◌≡◌ {A = ℕ} 0 1 = cc in
        omega arith))

    pub place_named_lem : place_named words rcnm rcid ≡ named_in update s n rcnm rcid
    unfolding place_named
    place_named_lem =
        ⊎_elim (λ (t : is_class rcnm ≡ true).
        rw t
        (⊎_elim (λ (e : lookup words name ≡ None). e ∙ sym (look_none e)) (λ (q : (p : ℕ) × (lookup words name ≡ Some p)). q.1 ∙ sym (look_at (class_told rcnm t) q.0 q.1))
        (found_cases (lookup words name))))
        (λ (f : is_class rcnm ≡ false). rw f (sym (other_class f))) (true_or_false (is_class rcnm))

-- ---- place_named
module _ (ws : List ℕ) (rcnm rcid : ℕ) (b : Bool) (is : b ≡ is_class rcnm) where
  pub place_other : not b ≡ true → None ≡ place_named ws rcnm rcid
  unfolding place_named
  place_other h = rw (told_no b (is_class rcnm) is h)

  pub place_looked : (name : ℕ) (r : Option ℕ) → not b ≡ false → name ≡ name_from rcnm rcid → r ≡ lookup ws name → r ≡ place_named ws rcnm rcid
  unfolding place_named
  place_looked name r h e so = so ∙ rw (told_yes b (is_class rcnm) is h, e)
