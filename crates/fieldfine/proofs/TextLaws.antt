-- Laws of a text that is read once, and of the entry that it ends. Assumes nothing.
use Prim.Native.Nat.{ℕ, suc, ◌+◌, ◌-◌, ◌≤◌, ◌<◌}
use mathlib.Core.Bool.{Bool, true, false, ◌&&◌, ◌||◌}
use mathlib.Core.List.{List, ◌∷◌}
use mathlib.Core.Path.{◌≡◌, refl, sym, ap, ◌∙◌}
use mathlib.Core.Logic.{⊎_elim}
use native.Mathlib.Nat.{add-zero, zero-add, add_assoc}
use native.Mathlib.Numerals.{add-one}
use native.Mathlib.Omega.{arith}
use lib.ListN.{length, take, drop, length-drop}
use lib.Seq.{drop-cons, drop-drop, length-take-le, get_or-take}
use lib.Dec.{leb}
use borrow.Author.Tests.{eq-eqb, le-leb}
use Rattle.octets.specs.Number.{byte_at, num_at}
use Rattle.octets.specs.Premises.{Reads}
use Rattle.octets.proofs.Cases.{eq_or_ne}
use Rattle.entries.specs.declared.Shape.{Shape}
use Rattle.entries.specs.Entries.{unit_of, text_len, entry_len}
use Rattle.entries.proofs.TextLaws.{unit_drop, text_end_lem, text_on}
use Rattle.entries.proofs.EntryLaws.{entry_texted}
use Rattle.headvalues.specs.Text.{is_text, text_good}
use Rattle.headvalues.proofs.TextLaws.{text_low}
use Rattle.attributes.specs.Attributes.{attribute, pointer, label_of, is_removal, value_of, value_good, rind_good, comment_of}
use Rattle.octets.proofs.ListLaws.{part_byte, part_number, part_long}
use Rattle.attributes.proofs.PartLaws.{part_text}
use Rattle.fieldfine.specs.Told.{content_in}
use Rattle.fieldfine.specs.Text.{Ended, TextRun, AttributeTold, PointerTold}

unit_byte : (c : List ℕ) (i : ℕ) → unit_of 1 (drop i c) ≡ byte_at c i
unfolding num_at
unit_byte c i = unit_drop 1 i c ∙ add-zero (byte_at c i)

-- ---- a run of text
pub run_start : (high : Bool) (c : List ℕ) (from : ℕ) → TextRun high c from from
run_start high c from = record {
  low = omega arith;
  good = λ e h. refl;
  ends = λ led. ap (λ (k : ℕ). text_len 1 (drop from c) k) (let z : led ≡ led + (from - from) = omega arith in z);
}

no_end : (high : Bool) (b : ℕ) → is_text high b ≡ true → b ≡ 31 → ⊥
no_end high b is e =
    let low : false ≡ is_text high b = text_low high b (omega arith) in
    let z : ◌≡◌ {A = ℕ} 0 1 = cc in
    omega arith

run_step : {high : Bool} {c : List ℕ} {from i : ℕ} → TextRun high c from i → i < length c → is_text high (byte_at c i) ≡ true → TextRun high c from (i + 1)
unfolding text_good
run_step {high} {c} {from} {i} so more is =
    let low = so.low in
    record {
      low = omega arith;
      good = λ (e : ℕ) (h : i + 1 ≤ e).
          let left : e - i ≡ suc (e - (i + 1)) = omega arith in
          let cut : drop i c ≡ byte_at c i ∷ drop (i + 1) c = rw (add-one i) (drop-cons c i 0 more) in
          so.good e (omega arith) ∙ rw (left, cut, is);
      ends = λ (led : ℕ).
          let past : led + (i - from) + 1 ≡ led + (i + 1 - from) = omega arith in
          so.ends led
          ∙ text_on 1 (drop i c) (led + (i - from)) (omega arith) (rw length-drop (omega arith))
          (λ (e : unit_of 1 (drop i c) ≡ 31). no_end high (byte_at c i) is (sym (unit_byte c i) ∙ e))
          ∙ rw (drop-drop 1 i c, past);
    }

-- ---- the bytes d of a field, with the closing 1E: no text goes past it
pub content_long : {d : List ℕ} → Ended d → length (content_in d) ≡ length d - 1
content_long {d} e = let some = e.some in length-take-le (length d - 1) d (omega arith)

content_byte : (d : List ℕ) (i : ℕ) → i < length d - 1 → byte_at (content_in d) i ≡ byte_at d i
content_byte d i h = get_or-take (length d - 1) d i 0 h

-- a byte that isn't the closing one stands before it
inner : {d : List ℕ} (i b : ℕ) → Ended d → i + 1 ≤ length d → byte_at d i ≡ b → (b ≡ 30 → ⊥) → i < length d - 1
inner {d} i b e fits is other =
    ⊎_elim (λ (last : i ≡ length d - 1). absurd (other (sym is ∙ (rw last e.ends)))) (λ (h : i ≡ length d - 1 → ⊥). less i (length d - 1) (let some = e.some in omega arith) h)
    (eq_or_ne i (length d - 1))
  where
    less : (x y : ℕ) → x ≤ y → (x ≡ y → ⊥) → x < y
    less x y h o = omega arith

text_inner : (high : Bool) (b : ℕ) → is_text high b ≡ true → b ≡ 30 → ⊥
text_inner high b is e =
    let low : false ≡ is_text high b = text_low high b (omega arith) in
    let z : ◌≡◌ {A = ℕ} 0 1 = cc in
    omega arith

text_before : {d : List ℕ} (level : Bool) (i : ℕ) → Ended d → i + 1 ≤ length d → is_text level (byte_at d i) ≡ true → i < length d - 1
text_before {d} level i e fits text = inner i (byte_at d i) e fits refl (text_inner level (byte_at d i) text)

-- bytes 20 to 7E are text at every level
plain_text : (high : Bool) (b : ℕ) → is_text false b ≡ true → is_text high b ≡ true
unfolding is_text
plain_text high b is = by (leb 32 b && leb b 126) (high && (leb 160 b && leb b 255)) is
  where
    by : (x y : Bool) → (x || false) ≡ true → (x || y) ≡ true
    by true y h = refl
    by false y h = absurd (let z : ◌≡◌ {A = ℕ} 0 1 = cc in omega arith)

-- what is text at a level is text at each level that lets as much pass
level_text : (level high : Bool) (b : ℕ) → (level ≡ true → high ≡ true) → is_text level b ≡ true → is_text high b ≡ true
level_text true high b up is = rw (up refl) is
level_text false high b up is = plain_text high b is

module _ {d : List ℕ} {from i : ℕ} (level r : Bool) (e : Ended d) (so : (high : Bool) → (level ≡ true → high ≡ true) → TextRun high (content_in d) from i) (fits : i + 1 ≤ length d)
    (told : r ≡ is_text level (byte_at d i)) (text : r ≡ true) where
  pub level_on : (high : Bool) → (level ≡ true → high ≡ true) → TextRun high (content_in d) from (i + 1)
  level_on high up =
      let before = text_before level i e fits (sym told ∙ text) in
      let is : is_text high (byte_at d i) ≡ true = level_text level high _ up (sym told ∙ text) in
      run_step (so high up) (rw (content_long e) before) (rw (content_byte d i before) is)

  pub level_fits : i + 1 + 1 ≤ length d
  level_fits = let before = text_before level i e fits (sym told ∙ text) in omega arith

-- ---- the entry that a text ends: its fixed bytes at `at`, its text from at + fixed up to the 1F at e
module _ {high : Bool} {c : List ℕ} {from e : ℕ} (at : ℕ) (sh : Shape) (run : TextRun high c from e) (place : from ≡ at + sh.fixed) (one : sh.unit ≡ 1) (more : e < length c)
    (stop : byte_at c e ≡ 31) where
  run_entry : e + 1 - at ≡ entry_len sh (drop at c)
  run_entry =
      let low = run.low in
      let texted = entry_texted sh (drop at c) (rw length-drop (omega arith)) (λ (z : sh.unit ≡ 0). omega arith) in
      let found : text_len 1 (drop from c) sh.fixed ≡ sh.fixed + (e - from) + 1 =
      run.ends sh.fixed ∙ text_end_lem 1 (drop e c) (sh.fixed + (e - from)) (omega arith) (rw length-drop (omega arith)) (unit_byte c e ∙ stop) in
      let here : drop sh.fixed (drop at c) ≡ drop from c = drop-drop sh.fixed at c ∙ rw (← place) in
      let all : entry_len sh (drop at c) ≡ sh.fixed + (e - from) + 1 = texted ∙ rw (one, here) found in
      omega arith

  run_text : text_good high (take (at + (e + 1 - at) - 1 - from) (drop from c)) ≡ true
  unfolding text_good
  run_text =
      let low = run.low in
      let left : at + (e + 1 - at) - 1 - from ≡ e - from = omega arith in
      let none : e - e ≡ 0 = omega arith in
      rw left (run.good e (omega arith) ∙ rw none)

or-true : (b : Bool) → (b || true) ≡ true
or-true true = refl
or-true false = refl

-- ---- an attribute
pub attribute_not : {update high : Bool} {c : List ℕ} {at n : ℕ} → n ≡ 0 → AttributeTold update high c at n
attribute_not e = record { told = λ some. absurd (some e) }

pub attribute_update : {update high : Bool} {c : List ℕ} {at n : ℕ} → update ≡ true → AttributeTold true high c at n → AttributeTold update high c at n
attribute_update e told = rw e told

pub attribute_so : (update : Bool) {high : Bool} {d : List ℕ} {at e : ℕ} → Ended d → TextRun high (content_in d) (at + 2) e → e + 1 ≤ length d → byte_at d e ≡ 31
    → AttributeTold update high (content_in d) at (e + 1 - at)
unfolding value_good value_of
attribute_so update {high} {d} {at} {e} closed run fits stop =
    let c = content_in d in
    let before : e < length d - 1 = inner e 31 closed fits stop (λ (z : 31 ≡ 30). omega arith) in
    let more : e < length c = rw (content_long closed) before in
    let low = run.low in
    let n = e + 1 - at in
    let stopped : byte_at c e ≡ 31 = content_byte d e before ∙ stop in
    let text : text_good high (take (at + n - 1 - (at + 2)) (drop (at + 2) c)) ≡ true = run_text at attribute run refl refl more stopped in
    record {
      told = λ some. record {
        size = run_entry at attribute run refl refl more stopped;
        long = omega arith;
        fits = omega arith;
        value = rw (part_text c at n 2 (omega arith) (omega arith), text) (or-true (update && is_removal (take n (drop at c))));
      };
    }

-- 7F alone
removal_in : (high : Bool) (c : List ℕ) (at : ℕ) → at + 4 ≤ length c → byte_at c (at + 2) ≡ 127 → byte_at c (at + 3) ≡ 31 → AttributeTold true high c at 4
unfolding value_good is_removal
removal_in high c at room first second = record {
  told = λ some. record {
    size = sym size;
    long = omega arith;
    fits = room;
    value = rw (part_long c at 4 room, part_byte c at 4 2 (omega arith), eq-eqb _ _ first);
  };
}
  where
    size : entry_len attribute (drop at c) ≡ 4
    size =
        entry_texted attribute (drop at c) (rw length-drop (omega arith)) (λ (z : 1 ≡ 0). omega arith)
        ∙ rw (drop-drop 2 at c)
        (text_on 1 (drop (at + 2) c) 2 (omega arith) (rw length-drop (omega arith))
        (λ (e : unit_of 1 (drop (at + 2) c) ≡ 31). let x = sym (unit_byte c (at + 2)) ∙ e in omega arith)
        ∙ rw (drop-drop 1 (at + 2) c, add_assoc at 2 1)
        (text_end_lem 1 (drop (at + 3) c) 3 (omega arith) (rw length-drop (omega arith)) (unit_byte c (at + 3) ∙ second)))

pub removal_so : (high : Bool) {d : List ℕ} (at a b : ℕ) → Ended d → 5 ≤ length d - at → a ≡ byte_at d (at + 2) → a ≡ 127 → b ≡ byte_at d (at + 3) → b ≡ 31
    → AttributeTold true high (content_in d) at 4
removal_so high {d} at a b closed room first seven second stop =
    let long = content_long closed in
    removal_in high (content_in d) at (omega arith) (content_byte d (at + 2) (omega arith) ∙ sym first ∙ seven) (content_byte d (at + 3) (omega arith) ∙ sym second ∙ stop)

-- its label
pub label_so : {update high : Bool} {d : List ℕ} {at : ℕ} (n r : ℕ) → Ended d → AttributeTold update high (content_in d) at n → (n ≡ 0 → ⊥) → Reads d at 2 r
    → r ≡ label_of (take n (drop at (content_in d)))
unfolding label_of
label_so {d = d} {at = at} n r closed told some read =
    let good = told.told some in
    let long = good.long in
    let fits = good.fits in
    let all = content_long closed in
    read.is ∙ sym (part_number (content_in d) at n 0 2 (omega arith) ∙ rw (add-zero at) (part_number d 0 (length d - 1) at 2 (omega arith) ∙ rw (zero-add at)))

-- ---- an FFPT
pub pointer_not : {c : List ℕ} {at n : ℕ} → n ≡ 0 → PointerTold c at n
pointer_not e = record { told = λ some. absurd (some e) }

pub pointer_so : {d : List ℕ} {at e : ℕ} (b : ℕ) → Ended d → b ≡ byte_at d (at + 8) → 2 ≤ b → b ≤ 3 → TextRun false (content_in d) (at + 9) e → e + 1 ≤ length d → byte_at d e ≡ 31
    → PointerTold (content_in d) at (e + 1 - at)
unfolding rind_good comment_of
pointer_so {d} {at} {e} b closed read two three run fits stop =
    let c = content_in d in
    let before : e < length d - 1 = inner e 31 closed fits stop (λ (z : 31 ≡ 30). omega arith) in
    let more : e < length c = rw (content_long closed) before in
    let low = run.low in
    let n = e + 1 - at in
    let stopped : byte_at c e ≡ 31 = content_byte d e before ∙ stop in
    let text : text_good false (take (at + n - 1 - (at + 9)) (drop (at + 9) c)) ≡ true = run_text at pointer run refl refl more stopped in
    let byte : byte_at c (at + 8) ≡ b = content_byte d (at + 8) (omega arith) ∙ sym read in
    record {
      told = λ some. record {
        size = run_entry at pointer run refl refl more stopped;
        fits = omega arith;
        rind = rw (part_byte c at n 8 (omega arith), byte, le-leb 2 b two, le-leb b 3 three);
        comment = rw (part_text c at n 9 (omega arith) (omega arith)) text;
      };
    }
