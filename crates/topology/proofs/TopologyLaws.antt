-- Laws of the code that judges all items: one for each way through it. Assumes nothing.
use Prim.Native.Nat.{ℕ, suc, ◌+◌, ◌-◌, ◌*◌, ◌≤◌, ◌<◌}
use mathlib.Core.Bool.{Bool, true, false, cond}
use mathlib.Core.List.{List, [], ◌∷◌, map}
use mathlib.Core.Logic.{⊎_elim}
use mathlib.Core.Path.{◌≡◌, refl, sym, ap, ◌∙◌}
use native.Mathlib.Nat.{zero-add, sub-zero}
use native.Mathlib.Numerals.{add-one}
use native.Mathlib.Omega.{arith}
use lib.ListN.{length, get_or}
use lib.Dec.{eqb}
use borrow.Author.Tests.{ne_eqb}
use Rattle.std.specs.Prelude.{Option, Result, Ok, Err}
use Rattle.octets.specs.Number.{byte_at}
use Rattle.octets.proofs.Cases.{eq_or_ne, true_or_false}
use Rattle.table.specs.Table.{FFPT, FSPT}
use Rattle.words.specs.Words.{word_at, words_in}
use Rattle.words.specs.Order.{Sorted, sorted}
use Rattle.words.proofs.WordsLaws.{words_at, words_length}
use Rattle.words.proofs.OrderLaws.{sorted_in_order}
use Rattle.items.specs.Premises.{LaidOut, Identified, Featured}
use Rattle.items.specs.Lists.{entries_at}
use Rattle.items.specs.Identity.{rcnm_at, prim_at}
use Rattle.items.specs.Word.{word_offset}
use Rattle.items.specs.Item.{Item, item_at}
use Rattle.names.specs.Premises.{Readable, Stands, AllStand, HeldIn}
use Rattle.items.proofs.ItemLaws.{ffpt_said, fspt_said, feature_said}
use Rattle.names.specs.NameWords.{name_words, items_at}
use Rattle.names.proofs.HeldLaws.{all_stand}
use Rattle.names.proofs.ItemsLaws.{held_items_lem, held_places}
use Rattle.names.proofs.ReadableLaws.{readable_few, readable_three}
use Rattle.vectorshape.specs.Shape.{shape_code}
use Rattle.pointer.specs.Pointer.{lnams_code, pointer_code}
use Rattle.answers.specs.First.{first_code, first_by}
use Rattle.ring.specs.Walk.{area_code}
use Rattle.ring.specs.Ring.{ring_code}
use Rattle.topology.specs.Topology.{item_code, code_among, fault_from, topology_of, located, topology_fault}
use Rattle.topology.specs.Notes.{notes_for, noted_code, Roomy, Prepared, word_fault}
use Rattle.topology.proofs.ReachLaws.{code_noted, items_worded}
use Rattle.layout.specs.General.{comf_at}
use Rattle.answers.specs.Answer.{refusal, outcome}
use Rattle.answers.proofs.OutcomeLaws.{fine_told, some_told}
use Rattle.answers.specs.declared.refusal.Refusal.{Refusal}

-- ---- one item: a is its code of Shape
pub feature_told : (s : List ℕ) (at r : ℕ) → Identified s at → r ≡ rcnm_at s at → r ≡ 100 → Featured s at
feature_told s at r known is e = known.feature (sym is ∙ e)

code_alone : (n : ℕ) → n ≡ first_code n 0
unfolding first_by
code_alone n = ⊎_elim (λ (h : n ≡ 0). rw h) (λ (ne : n ≡ 0 → ⊥). rw (ne_eqb n 0 ne)) (eq_or_ne n 0)

code_next : (n : ℕ) → first_code 0 n ≡ n
unfolding first_by
code_next n = refl

codes_join : (a b c : ℕ) → first_code (first_code a b) c ≡ first_code a (first_code b c)
unfolding first_by
codes_join a b c = ⊎_elim (λ (h : a ≡ 0). rw h) (λ (ne : a ≡ 0 → ⊥). rw (ne_eqb a 0 ne, ne_eqb a 0 ne)) (eq_or_ne a 0)

module _ (comf : ℕ) (place : ℕ → Option ℕ) (object : ℕ → Bool) (node : ℕ → ℕ → ℕ) (s : List ℕ) (at a : ℕ) (shape : a ≡ shape_code comf (item_at s at)) where
  pub item_shape : (a ≡ 0 → ⊥) → a ≡ item_code comf place object node (item_at s at)
  unfolding item_code first_by
  item_shape ne = rw (← shape, ne_eqb a 0 ne)

  module _ (good : a ≡ 0) (rcnm : ℕ) (class : rcnm ≡ rcnm_at s at) where
    item_rest : item_code comf place object node (item_at s at) ≡ first_code (pointer_code place object (item_at s at)) (ring_code node (item_at s at))
    unfolding item_code
    item_rest = rw (← shape, good) (code_next _)

    -- n is its code of Pointer
    pub item_vector : (n : ℕ) → (rcnm ≡ 100 → ⊥) → n ≡ pointer_code place object (item_at s at) → n ≡ item_code comf place object node (item_at s at)
    unfolding ring_code
    item_vector n ne is = code_alone n ∙ sym (item_rest ∙ rw (← is, ← class, ne_eqb rcnm 100 ne))

    module _ (feature : rcnm ≡ 100) (prim : ℕ) (primitive : prim ≡ prim_at s at) where
      said : (item_at s at).prim ≡ prim_at s at
      said = feature_said (rcnm_at s at) (prim_at s at) (sym class ∙ feature)

      pub item_other : (n : ℕ) → (prim ≡ 3 → ⊥) → n ≡ pointer_code place object (item_at s at) → n ≡ item_code comf place object node (item_at s at)
      unfolding ring_code
      item_other n ne is = code_alone n ∙ sym (item_rest ∙ rw (← is, said, ← class, feature, ← primitive, ne_eqb prim 3 ne))

      -- an area: b is the code of its LNAMs
      module _ (area : prim ≡ 3) (b : ℕ) (related : b ≡ lnams_code object (entries_at s at FFPT)) where
        item_area : item_code comf place object node (item_at s at) ≡ first_code b (area_code place node (entries_at s at FSPT))
        unfolding pointer_code ring_code area_code
        item_area = item_rest ∙ rw (said, ffpt_said s at, fspt_said s at, ← class, feature, ← primitive, area, ← related) (codes_join b _ _)

        pub item_related : (b ≡ 0 → ⊥) → b ≡ item_code comf place object node (item_at s at)
        unfolding first_by
        item_related ne = sym (item_area ∙ rw (ne_eqb b 0 ne))

        pub item_rings : (n : ℕ) → b ≡ 0 → n ≡ area_code place node (entries_at s at FSPT) → n ≡ item_code comf place object node (item_at s at)
        item_rings n z is = sym (item_area ∙ rw (z, ← is) (code_next n))

-- ---- turns of the walk over all items
pub fault_start : (code : Item → ℕ) (s work : List ℕ) (m : ℕ) → word_fault code s 3 (words_in work 0 m) ≡ word_fault code s (3 + 0) (words_in work 0 (m - 0))
fault_start code s work m = rw (sub-zero m)

module _ (code : Item → ℕ) (s work : List ℕ) (m i : ℕ) (more : i < m) (w : ℕ) (is : w ≡ word_at work i) (at : ℕ) (place : at ≡ word_offset w) where
  fault_turn : word_fault code s (3 + i) (words_in work i (m - i))
      ≡ cond (eqb (code (item_at s at)) 0) (word_fault code s (3 + i + 1) (words_in work (suc i) (m - suc i))) (refusal (code (item_at s at)) (3 + i) at)
  unfolding word_fault words_in
  fault_turn = let e : m - i ≡ suc (m - suc i) = omega arith in rw (e, ← is, ← place)

  module _ (all : Refusal) (so : all ≡ word_fault code s (3 + i) (words_in work i (m - i))) (c : ℕ) (told : c ≡ code (item_at s at)) where
    pub fault_found : (r : Refusal) → (c ≡ 0 → ⊥) → r ≡ refusal c (3 + i) at → Err r ≡ outcome all
    fault_found r ne e = some_told (e ∙ sym (so ∙ fault_turn ∙ rw (← told, ne_eqb c 0 ne))) (λ z. ne (sym (ap (λ (q : Refusal). q.code) e) ∙ z))

    pub fault_on : c ≡ 0 → all ≡ word_fault code s (3 + (i + 1)) (words_in work (i + 1) (m - (i + 1)))
    fault_on e =
        let one : i + 1 ≡ suc i = add-one i in
        let three : 3 + i + 1 ≡ 3 + suc i = omega arith in
        so ∙ fault_turn ∙ rw (← told, e, one, three)

  stands : AllStand s (words_in work 0 m) → Stands s w
  stands all =
      let e : get_or (words_in work 0 m) i 0 ≡ w = words_at work 0 m i more ∙ rw (zero-add i) (sym is) in
      rw e at (all.each i (rw (words_length work 0 m) more))

  pub turn_laid : AllStand s (words_in work 0 m) → LaidOut s at
  turn_laid all = rw place (stands all).laid

  pub turn_known : AllStand s (words_in work 0 m) → Identified s at
  turn_known all = rw place (stands all).known

pub fault_done : (code : Item → ℕ) (s work : List ℕ) (m i : ℕ) (all : Refusal) → m ≤ i → all ≡ word_fault code s (3 + i) (words_in work i (m - i))
    → Ok tt ≡ outcome all
unfolding word_fault words_in
fault_done code s work m i all high so = let z : m - i ≡ 0 = omega arith in fine_told all (ap (λ (q : Refusal). q.code) so ∙ rw z refl)

-- ---- the byte of an item's record: a fault of the items from item k on is at k or behind it
fault_later : (code : Item → ℕ) (k : ℕ) (is : List Item) → eqb (fault_from code k is).code 0 ≡ false → k ≤ (fault_from code k is).index
unfolding fault_from
fault_later code k [] h = absurd (let z : ◌≡◌ {A = ℕ} 0 1 = cc in omega arith)
fault_later code k (i ∷ is) h =
    ⊎_elim (λ (e : eqb (code i) 0 ≡ true). let more = fault_later code (k + 1) is (rw e at h) in rw e (omega arith))
    (λ (e : eqb (code i) 0 ≡ false). rw e (omega arith)) (true_or_false (eqb (code i) 0))

located_next : (k p : ℕ) (ps : List ℕ) (r : Refusal) → (eqb r.code 0 ≡ false → k + 1 ≤ r.index) → located (k + 1) ps r ≡ located k (p ∷ ps) r
unfolding located
located_next k p ps r later =
    ⊎_elim (λ (e : eqb r.code 0 ≡ true). rw e)
    (λ (e : eqb r.code 0 ≡ false).
    let low = later e in
    let one : r.index - k ≡ suc (r.index - (k + 1)) = omega arith in
    rw (e, one))
    (true_or_false (eqb r.code 0))

word_located : (code : Item → ℕ) (s : List ℕ) (k : ℕ) (ws : List ℕ)
    → word_fault code s k ws ≡ located k (map (λ (w : ℕ). word_offset w) ws) (fault_from code k (items_at s ws))
unfolding word_fault located fault_from items_at
word_located code s k [] = refl
word_located code s k (w ∷ ws) =
    let c = code (item_at s (word_offset w)) in
    ⊎_elim (λ (e : eqb c 0 ≡ true).
    rw e
    (word_located code s (k + 1) ws
    ∙ located_next k (word_offset w) (map (λ (v : ℕ). word_offset v) ws) (fault_from code (k + 1) (items_at s ws)) (fault_later code (k + 1) (items_at s ws))))
    (λ (e : eqb c 0 ≡ false). let none : k - k ≡ 0 = omega arith in rw (e, none, e)) (true_or_false (eqb c 0))

-- ---- the whole
module _ {s : List ℕ} {n : ℕ} {work : List ℕ} (readable : Readable false s n) (held : HeldIn s n work) where
  pub held_order_lem : (m : ℕ) → m ≡ n - 3 → Sorted (words_in work 0 m)
  held_order_lem m e = rw (e, held.words) (sorted_in_order _)

  held_stand : AllStand s (words_in work 0 (n - 3))
  held_stand = rw held.words (all_stand readable)

  pub held_roomy : (m : ℕ) → m ≡ n - 3 → 16 * n ≤ length work → Roomy s work m
  held_roomy m e room = record { room = omega arith; stand = rw e held_stand }

  module _ {m : ℕ} {next : List ℕ} {v : ℕ} (is : m ≡ n - 3) (so : Prepared (notes_for (items_at s (words_in work 0 m))) (words_in work 0 m) m next v) where
    pub held_next : AllStand s (words_in next 0 m)
    held_next = rw (so.words, is) held_stand

    pub held_few : m ≤ 5242880
    held_few = omega (arith, readable_few readable)

    pub held_stays : HeldIn s n next
    held_stays = record { words = rw (← is) (so.words ∙ rw (← is) at held.words) }

    pub held_fault : ((i : ℕ) → byte_at s i < 256) → (comf : ℕ) {r : Result Unit Refusal} → comf ≡ comf_at s
        → r ≡ outcome (word_fault (noted_code comf next m v) s 3 (words_in next 0 m)) → r ≡ outcome (topology_fault s n)
    unfolding topology_fault topology_of
    held_fault bytes comf factor e =
        let code = code_noted (items_worded (words_in work 0 m) (record { low = bytes }) (rw is held_stand)) (held_order_lem m is) so comf in
        let ws = sorted (name_words false s n) in
        let three = readable_three readable in
        e
        ∙ ap outcome
        (rw (← code, so.words, is, held.words, factor)
        (word_located (code_among (comf_at s) (items_at s ws)) s 3 ws
        ∙ rw (held_items_lem s n readable.framed readable.short three, held_places s n readable.framed readable.short three)))
