-- The walk over a field of attributes, turn by turn, and the reading of one entry. Assumes nothing.
use Prim.Native.Nat.{ℕ, ◌+◌, ◌-◌, ◌≤◌, ◌<◌}
use mathlib.Core.Bool.{Bool, true, false, not, cond, ◌&&◌}
use mathlib.Core.List.{List, ◌∷◌}
use mathlib.Core.Path.{◌≡◌, refl, sym, ◌∙◌}
use native.Mathlib.Nat.{add-zero}
use native.Mathlib.Numerals.{add-one}
use native.Mathlib.Omega.{arith}
use lib.ListN.{length, take, drop, get_or, set}
use lib.Dec.{eqb}
use borrow.Author.Tests.{eq-eqb, ne_eqb, not-true, not-false}
use Rattle.octets.proofs.ListLaws.{part_byte, part_number, part_long}
use Rattle.octets.specs.Lists.{is_in}
use Rattle.octets.specs.Number.{byte_at}
use Rattle.octets.specs.Premises.{Reads}
use Rattle.entries.specs.Entries.{entry_len, entries_of}
use Rattle.entries.specs.Rules.{through}
use Rattle.entries.proofs.WalkLaws.{walk_end, walk_more}
use Rattle.headvalues.specs.Text.{text_good}
use Rattle.attributes.specs.Attributes.{attribute, label_of, value_of, is_removal, value_good, attributes_from, attributes_fault, met_label, met_after}
use Rattle.std.specs.Prelude.{Ok, Err}
use Rattle.values.proofs.FaultLaws.{told_ok, told_err}
use Rattle.attributes.specs.Premises.{Stamped, Upto}
use Rattle.attributes.specs.Judged.{AttributesJudged}
use Rattle.attributes.proofs.PartLaws.{part_text, attribute_long}
use Rattle.attributes.proofs.StampLaws.{stamped_met, stamped_new, stamped_set, upto_set}

and_false : (b : Bool) → (b && false) ≡ false
and_false true = refl
and_false false = refl

-- ---- one entry: the n bytes at `at` of c
module _ (c : List ℕ) (at n : ℕ) where
  pub label_read : (r : ℕ) → 3 ≤ n → Reads c at 2 r → r ≡ label_of (take n (drop at c))
  unfolding label_of
  label_read r h d = d.is ∙ sym (part_number c at n 0 2 (omega arith) ∙ rw (add-zero at))

  pub removal_short : at + n ≤ length c → (n ≡ 4 → ⊥) → false ≡ is_removal (take n (drop at c))
  unfolding is_removal
  removal_short fit h = rw (part_long c at n fit, ne_eqb n 4 h)

  pub removal_byte : (b : ℕ) → at + n ≤ length c → n ≡ 4 → b ≡ byte_at c (at + 2) → eqb b 127 ≡ is_removal (take n (drop at c))
  unfolding is_removal
  removal_byte b fit h told = rw (part_long c at n fit, eq-eqb n 4 h, part_byte c at n 2 (omega arith), told)

  module _ (update high : Bool) where
    pub value_removal : (r : Bool) → update ≡ true → r ≡ is_removal (take n (drop at c)) → r ≡ true → true ≡ value_good update high (take n (drop at c))
    unfolding value_good
    value_removal r u told t = rw (u, ← told, t)

    module _ (r : Bool) (long : 3 ≤ n) (fit : at + n ≤ length c) (told : r ≡ text_good high (take (at + n - 1 - (at + 2)) (drop (at + 2) c))) where
      value_text : (update && is_removal (take n (drop at c))) ≡ false → r ≡ value_good update high (take n (drop at c))
      unfolding value_good value_of
      value_text none = rw (none, part_text c at n 2 long fit) told

      pub value_cell : update ≡ false → r ≡ value_good update high (take n (drop at c))
      value_cell u = value_text (rw u)

      pub value_kept : (q : Bool) → q ≡ is_removal (take n (drop at c)) → q ≡ false → r ≡ value_good update high (take n (drop at c))
      value_kept q e f = value_text (rw (← e, f) (and_false update))

-- ---- what the walk knows where it stands: `seen` are the labels that the list had met before the field, t is the table here
pub record Here (update high : Bool) (c : List ℕ) (stamp : ℕ) (seen t : List ℕ) (at : ℕ) : Type 0 where
  pub met : List ℕ
  pub stamped : Stamped t stamp met
  pub fault : attributes_fault update high seen c ≡ attributes_from update high met at (entries_of attribute (drop at c))
  pub after : met_after seen c ≡ through met_label met (entries_of attribute (drop at c))

-- and that whatever the labels were
pub record Walked (update high : Bool) (c : List ℕ) (stamp : ℕ) (before t : List ℕ) (at : ℕ) : Type 0 where
  pub here : (seen : List ℕ) → Stamped before stamp seen → Here update high c stamp seen t at
  pub upto : Upto before stamp → Upto t stamp

pub walked_start : (update high : Bool) (c : List ℕ) (stamp : ℕ) (t : List ℕ) → Walked update high c stamp t t 0
unfolding attributes_fault met_after
walked_start update high c stamp t = record {
  here = λ (seen : List ℕ) (s : Stamped t stamp seen). record { met = seen; stamped = s; fault = refl; after = refl };
  upto = λ (u : Upto t stamp). u;
}

-- ---- the turns: n is the length of the entry at `at` as it was measured
module _ {update high : Bool} {c : List ℕ} {stamp : ℕ} {before t : List ℕ} {at : ℕ} (w : Walked update high c stamp before t at) (n : ℕ)
    (size : n ≡ entry_len attribute (drop at c)) where
  pub walked_end : n ≡ 0 → AttributesJudged update high c stamp before t (Ok tt)
  unfolding attributes_from through
  walked_end h =
      let none = walk_end attribute c at n size h in
      record {
        fault = λ (seen : List ℕ) (s : Stamped before stamp seen). told_ok ((w.here seen s).fault ∙ rw none);
        met = λ (seen : List ℕ) (s : Stamped before stamp seen). rw ((w.here seen s).after, none) (w.here seen s).stamped;
        upto = w.upto;
        within = tt;
      }

  module _ (some : n ≡ 0 → ⊥) (fit : at + n ≤ length c) (label : ℕ) (told : label ≡ label_of (take n (drop at c))) (small : label < 65536) where
    -- the fault from here, by the entry at hand
    turn : (met : List ℕ) → attributes_from update high met at (entries_of attribute (drop at c))
        ≡ cond (is_in label met) (at + 1)
        (cond (value_good update high (take n (drop at c))) (attributes_from update high (label ∷ met) (at + n) (entries_of attribute (drop (at + n) c))) (at + 3))
    unfolding attributes_from
    turn met = rw (walk_more attribute c at n size some, part_long c at n fit, told)

    pub walked_met : get_or t label 0 ≡ stamp → AttributesJudged update high c stamp before t (Err (record { at = at }))
    walked_met e = record {
      fault = λ (seen : List ℕ) (s : Stamped before stamp seen).
          let now = w.here seen s in
          told_err (now.fault ∙ turn now.met ∙ rw (stamped_met now.stamped label small e) (add-one at));
      met = λ (seen : List ℕ) (s : Stamped before stamp seen). tt;
      upto = w.upto;
      within = omega (arith, attribute_long (drop at c) n size some);
    }

    module _ (fresh : get_or t label 0 ≡ stamp → ⊥) (long : length t ≡ 65536) (r : Bool) (good : r ≡ value_good update high (take n (drop at c))) where
      value_turn : (met : List ℕ) → Stamped t stamp met → attributes_from update high met at (entries_of attribute (drop at c))
          ≡ cond r (attributes_from update high (label ∷ met) (at + n) (entries_of attribute (drop (at + n) c))) (at + 3)
      value_turn met s = turn met ∙ rw (stamped_new s label small fresh, good)

      upto_next : Upto before stamp → Upto (set t label stamp) stamp
      upto_next u = upto_set label (omega arith) (w.upto u)

      pub walked_bad : not r ≡ true → AttributesJudged update high c stamp before (set t label stamp) (Err (record { at = at + 2 }))
      walked_bad no_value = record {
        fault = λ (seen : List ℕ) (s : Stamped before stamp seen).
            let now = w.here seen s in
            told_err (now.fault ∙ value_turn now.met now.stamped ∙ rw (not-true r no_value) (omega arith));
        met = λ (seen : List ℕ) (s : Stamped before stamp seen). tt;
        upto = upto_next;
        within = omega (arith, attribute_long (drop at c) n size some);
      }

      pub walked_on : not r ≡ false → Walked update high c stamp before (set t label stamp) (at + n)
      unfolding through met_label
      walked_on a_value = record {
        here = λ (seen : List ℕ) (s : Stamped before stamp seen).
            let now = w.here seen s in
            record {
              met = label ∷ now.met;
              stamped = stamped_set now.stamped label small long;
              fault = now.fault ∙ value_turn now.met now.stamped ∙ rw (not-false r a_value);
              after = now.after ∙ rw (walk_more attribute c at n size some, told);
            };
        upto = upto_next;
      }
