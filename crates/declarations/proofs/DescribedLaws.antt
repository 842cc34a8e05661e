-- Laws of record 0's rule: one for each way through the code that judges it, and what its answer is. Assumes nothing.
use Prim.Native.Nat.{ℕ, suc, ◌+◌, ◌-◌, ◌≤◌, ◌<◌}
use mathlib.Core.Bool.{Bool, true, false, not, ◌&&◌}
use mathlib.Core.List.{List, []}
use mathlib.Core.Path.{◌≡◌, sym, ◌∙◌}
use native.Mathlib.Omega.{arith}
use lib.ListN.{length, take, drop, get_or, set, length-take, length-drop}
use lib.Dec.{eqb, ltb}
use borrow.Author.Tests.{lt-ltb, le-ltb, le-leb, lt-leb, eq-eqb, ne_eqb}
use Rattle.octets.proofs.Tests.{told_no, told_yes}
use Rattle.fieldparts.specs.Same.{same_list}
use Rattle.formats.specs.Formats.{written_at}
use Rattle.formats.specs.Premises.{forms_of}
use Rattle.fieldparts.specs.Descriptive.{parts_of}
use Rattle.iso8211.specs.Field.{count_at, field_at}
use Rattle.iso8211.specs.Premises.{RecordIn}
use Rattle.fieldparts.specs.declared.descriptive.Parts.{Parts}
use Rattle.iso8211.specs.declared.field.Field.{Field}
use Rattle.formats.specs.declared.Formats.{Formats}
use Rattle.table.specs.Text.{bytes}
use Rattle.table.specs.Table.{row_of, kind_of, first}
use Rattle.declarations.specs.Described.{field_bytes, labels_in, formats_in, same_formats, describes, none, described_from, described_of}
use Rattle.declarations.specs.Premises.{same_texts}

-- ---- formats_same
-- by what the code wrote out
formats_by : (a b : List ℕ) (r : Formats) → forms_of r ≡ written_at a 0
    → same_formats a b ≡ (ltb 0 r.end && (eqb r.end (length a) && same_list (forms_of r).items (written_at b 0).items))
unfolding same_formats
formats_by a b r e = rw (← e)

pub formats_none : (a b : List ℕ) (r : Formats) → forms_of r ≡ written_at a 0 → r.end ≡ 0 → false ≡ same_formats a b
formats_none a b r e z = rw (formats_by a b r e, z)

module _ (f : List ℕ) (from to : ℕ) (b : List ℕ) (r : Formats) (low : from ≤ to) (high : to ≤ length f)
    (e : forms_of r ≡ written_at (take (to - from) (drop from f)) 0) (some : r.end ≡ 0 → ⊥) where
  part_length : length (take (to - from) (drop from f)) ≡ to - from
  part_length = simp (length-take, length-drop) (omega arith)

  pub formats_past : (r.end ≡ to - from → ⊥) → false ≡ same_formats (take (to - from) (drop from f)) b
  formats_past other =
      rw (formats_by (take (to - from) (drop from f)) b r e, part_length, lt-ltb 0 r.end (omega arith), ne_eqb r.end (to - from) other)

  pub formats_judged : (t : Formats) (x : Bool) → r.end ≡ to - from → forms_of t ≡ written_at b 0 → x ≡ same_list (forms_of r).items (forms_of t).items
      → x ≡ same_formats (take (to - from) (drop from f)) b
  formats_judged t x same table is =
      rw (formats_by (take (to - from) (drop from f)) b r e, part_length, lt-ltb 0 r.end (omega arith), eq-eqb r.end (to - from) same, ← table) is

-- ---- same_texts
module _ (f : List ℕ) (p : Parts) (labels formats : List ℕ) (r : Bool) (is : r ≡ same_list (take (p.labels - (p.name + 1)) (drop (p.name + 1) f)) labels) where
  pub labels_other : not r ≡ true → false ≡ same_texts f p labels formats
  unfolding same_texts
  labels_other h = rw (told_no r _ is h)

  pub formats_left : (x : Bool) → not r ≡ false → x ≡ same_formats (take (length f - 1 - (p.labels + 1)) (drop (p.labels + 1) f)) formats → x ≡ same_texts f p labels formats
  unfolding same_texts
  formats_left x h so = rw (told_yes r _ is h) so

-- ---- describes
describes_by : (k : ℕ) (f : List ℕ) (p : Parts) → p ≡ parts_of f
    → describes k f ≡ (ltb 0 p.name && same_texts f p (bytes (row_of k).labels) (bytes (row_of k).formats))
unfolding describes labels_in formats_in same_texts
describes_by k f p e = rw (← e)

pub parts_none : (k : ℕ) (f : List ℕ) (p : Parts) → p ≡ parts_of f → p.name ≡ 0 → false ≡ describes k f
parts_none k f p e z = rw (describes_by k f p e, z)

pub row_left : (k : ℕ) (f : List ℕ) (p : Parts) (x : Bool) → p ≡ parts_of f → (p.name ≡ 0 → ⊥)
    → x ≡ same_texts f p (bytes (row_of k).labels) (bytes (row_of k).formats) → x ≡ describes k f
row_left k f p x e some so = rw (describes_by k f p e, lt-ltb 0 p.name (omega arith)) so

-- ---- describes_at
pub describes_part : (k : ℕ) (s : List ℕ) (f : Field) (r : Bool) → r ≡ describes k (take (f.start + f.length - f.start) (drop f.start s))
    → r ≡ describes k (field_bytes s f)
describes_part k s f r e = let n : f.start + f.length - f.start ≡ f.length = omega arith in rw n at e

-- a field of record 0 lies in the file
pub field_room : (s : List ℕ) (j n : ℕ) (f : Field) → RecordIn s 0 → n ≡ count_at s 0 → j < n → f ≡ field_at s 0 j → f.start + f.length ≤ length s
field_room s j n f h count less e = let within = (h.fields j (omega arith)).within in let fits = h.framed.fits in rw e (omega arith)

-- ---- rest: the answer is that from field j on
from_no : (n : ℕ) (s : List ℕ) (j : ℕ) (marks : List ℕ) (f : Field) (k : ℕ) → f ≡ field_at s 0 j → k ≡ kind_of f.tag
    → (ltb k first && (eqb (get_or marks k 0) 0 && describes k (field_bytes s f))) ≡ false → described_from (suc n) s j marks ≡ []
unfolding described_from
from_no n s j marks f k e is h = rw (← e, ← is, h)

from_on : (n : ℕ) (s : List ℕ) (j : ℕ) (marks : List ℕ) (f : Field) (k : ℕ) → f ≡ field_at s 0 j → k ≡ kind_of f.tag
    → (ltb k first && (eqb (get_or marks k 0) 0 && describes k (field_bytes s f))) ≡ true
    → described_from (suc n) s j marks ≡ described_from n s (j + 1) (set marks k 1)
unfolding described_from
from_on n s j marks f k e is h = rw (← e, ← is, h)

module _ (s all : List ℕ) (j n : ℕ) (marks : List ℕ) (f : Field) (k : ℕ) (so : all ≡ described_from (count_at s 0 - j) s j marks) (count : n ≡ count_at s 0) (more : j < n)
    (e : f ≡ field_at s 0 j) (is : k ≡ kind_of f.tag) where
  left : count_at s 0 - j ≡ suc (count_at s 0 - (j + 1))
  left = omega arith

  stops : (x : List ℕ) → x ≡ [] → (ltb k first && (eqb (get_or marks k 0) 0 && describes k (field_bytes s f))) ≡ false → x ≡ all
  stops x empty h = rw (empty, so, left) (sym (from_no (count_at s 0 - (j + 1)) s j marks f k e is h))

  pub turn_unknown : (x : List ℕ) → x ≡ [] → first ≤ k → x ≡ all
  turn_unknown x empty h = stops x empty (rw (le-ltb k first h))

  pub turn_twice : (x : List ℕ) → x ≡ [] → k < first → (get_or marks k 0 ≡ 0 → ⊥) → x ≡ all
  turn_twice x empty h again = stops x empty (rw (lt-ltb k first h, ne_eqb (get_or marks k 0) 0 again))

  module _ (r : Bool) (known : k < first) (fresh : get_or marks k 0 ≡ 0) (judged : r ≡ describes k (field_bytes s f)) where
    pub turn_other : (x : List ℕ) → x ≡ [] → not r ≡ true → x ≡ all
    turn_other x empty h = stops x empty (rw (lt-ltb k first known, eq-eqb (get_or marks k 0) 0 fresh) (told_no r _ judged h))

    pub turn_on : not r ≡ false → all ≡ described_from (count_at s 0 - (j + 1)) s (j + 1) (set marks k 1)
    turn_on h =
        rw (so, left)
        (from_on (count_at s 0 - (j + 1)) s j marks f k e is (rw (lt-ltb k first known, eq-eqb (get_or marks k 0) 0 fresh) (told_yes r _ judged h)))

pub turn_end : (s all : List ℕ) (j n : ℕ) (marks : List ℕ) → all ≡ described_from (count_at s 0 - j) s j marks → n ≡ count_at s 0 → n ≤ j → marks ≡ all
unfolding described_from
turn_end s all j n marks so count past = let z : count_at s 0 - j ≡ 0 = omega arith in sym (so ∙ rw z)

-- ---- described
module _ (s x : List ℕ) (n : ℕ) (count : n ≡ count_at s 0) where
  pub few_fields : x ≡ [] → n < 2 → x ≡ described_of s
  unfolding described_of
  few_fields empty h = rw (← count, lt-leb 2 n h) empty

  module _ (zeroth : Field) (enough : 2 ≤ n) (e : zeroth ≡ field_at s 0 0) where
    pub zeroth_other : x ≡ [] → (zeroth.tag ≡ 808464432 → ⊥) → x ≡ described_of s
    unfolding described_of
    zeroth_other empty h = rw (← count, ← e, le-leb 2 n enough, ne_eqb zeroth.tag 808464432 h) empty

    module _ (one : Field) (is : zeroth.tag ≡ 808464432) (e' : one ≡ field_at s 0 1) where
      pub one_other : x ≡ [] → (one.tag ≡ 808464433 → ⊥) → x ≡ described_of s
      unfolding described_of
      one_other empty h =
          rw (← count, ← e, ← e', le-leb 2 n enough, eq-eqb zeroth.tag 808464432 is, ne_eqb one.tag 808464433 h) empty

      module _ (r : Bool) (is' : one.tag ≡ 808464433) (judged : r ≡ describes first (field_bytes s one)) where
        pub one_wrong : x ≡ [] → not r ≡ true → x ≡ described_of s
        unfolding described_of
        one_wrong empty h =
            rw (← count, ← e, ← e', le-leb 2 n enough, eq-eqb zeroth.tag 808464432 is, eq-eqb one.tag 808464433 is', told_no r _ judged h) empty

        pub rest_left : not r ≡ false → x ≡ described_from (count_at s 0 - 2) s 2 none → x ≡ described_of s
        unfolding described_of
        rest_left h so =
            rw (le-leb 2 (count_at s 0) (omega arith), ← e, ← e', eq-eqb zeroth.tag 808464432 is, eq-eqb one.tag 808464433 is', told_yes r _ judged h) so
