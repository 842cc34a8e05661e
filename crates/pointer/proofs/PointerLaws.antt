-- Laws of the code that judges what an item points to: the answer for the entries left is the answer for all. Assumes nothing.
use Prim.Native.Nat.{ℕ, ◌+◌, ◌-◌, ◌≤◌}
use mathlib.Core.Bool.{Bool, true, false, not, cond}
use mathlib.Core.List.{List}
use mathlib.Core.Path.{◌≡◌, refl, sym, ap, ◌∙◌}
use native.Mathlib.Omega.{arith}
use lib.ListN.{length, take, drop}
use borrow.Author.Tests.{ne_eqb}
use Rattle.std.specs.Prelude.{Option, Some, None}
use Rattle.octets.specs.Lists.{is_in}
use Rattle.octets.specs.Premises.{Reads}
use Rattle.octets.proofs.Tests.{told_no, told_yes}
use Rattle.table.specs.Table.{row_of, VRPT, FFPT, FSPT}
use Rattle.items.specs.Lists.{entries_at}
use Rattle.items.specs.Item.{item_at}
use Rattle.items.specs.Identity.{rcnm_at}
use Rattle.items.specs.Cursors.{left, Stepped}
use Rattle.items.specs.declared.cursor.Cursor.{Cursor}
use Rattle.items.proofs.KindLaws.{vrpt_list, fspt_list, vrpt_fixed, ffpt_fixed, fspt_fixed}
use Rattle.items.proofs.ItemLaws.{vrpt_said, ffpt_said, fspt_said}
use Rattle.items.proofs.CursorLaws.{begin_left, next_done, next_left, next_bytes}
use Rattle.lookups.specs.Lookup.{name_in, found_code}
use Rattle.lookups.specs.LookupWords.{index_of}
use Rattle.lookups.proofs.LookupLaws.{code_at, code_nothing}
use Rattle.pointer.specs.Pointer.{names_code, lnams_code, pointer_code}
use Rattle.answers.specs.First.{first_code, first_by}
use Rattle.pointer.specs.Premises.{held_foid}

-- ---- entries of VRPT and FSPT hold a name
pub vrpt_wide : 5 ≤ (row_of VRPT).fixed
vrpt_wide = omega (arith, vrpt_fixed)

pub fspt_wide : 5 ≤ (row_of FSPT).fixed
fspt_wide = omega (arith, fspt_fixed)

-- what `names_code` asks of a list's kind
pub ruleset named = (vrpt_list, vrpt_wide, fspt_list, fspt_wide)

module _ (s : List ℕ) (at k : ℕ) (c : Cursor) (r : Option (ℕ × ℕ × Cursor)) (stepped : Stepped s at k c r) (from to : ℕ) (next : Cursor) (is : r ≡ Some (from, to, next)) where
  pub name_bytes : 5 ≤ (row_of k).fixed → 5 ≤ length (take (to - from) (drop from s))
  name_bytes h = omega (arith, next_bytes s at k c r stepped from to next is (row_of k).fixed refl)

-- ---- and those of FFPT an LNAM
module _ (s : List ℕ) (at : ℕ) (c : Cursor) (r : Option (ℕ × ℕ × Cursor)) (stepped : Stepped s at FFPT c r) (from to : ℕ) (next : Cursor) (is : r ≡ Some (from, to, next)) where
  pub lnam_bytes : 0 + 8 ≤ length (take (to - from) (drop from s))
  lnam_bytes = omega (arith, next_bytes s at FFPT c r stepped from to next is 9 ffpt_fixed)

-- ---- turns of the names: ws are the words of all items
pub names_begin : (ws s : List ℕ) (at k : ℕ) (c : Cursor) → c ≡ record { field = 0; from = 0; to = 0 }
    → names_code (index_of ws) (entries_at s at k) ≡ names_code (index_of ws) (left s at k c)
names_begin ws s at k c e = ap (λ (es : List (List ℕ)). names_code (index_of ws) es) (sym (begin_left s at k c e))

module _ (ws s : List ℕ) (at k : ℕ) (c : Cursor) (so : names_code (index_of ws) (entries_at s at k) ≡ names_code (index_of ws) (left s at k c))
    (r : Option (ℕ × ℕ × Cursor)) (stepped : Stepped s at k c r) where
  pub names_done : r ≡ None → 0 ≡ names_code (index_of ws) (entries_at s at k)
  unfolding names_code
  names_done e = sym (so ∙ ap (λ (es : List (List ℕ)). names_code (index_of ws) es) (next_done s at k c r stepped e))

  module _ (from to : ℕ) (next : Cursor) (is : r ≡ Some (from, to, next)) (name : ℕ) (found : Option ℕ)
      (read : name ≡ name_in (take (to - from) (drop from s))) (told : found ≡ index_of ws name) where
    names_here : names_code (index_of ws) (entries_at s at k) ≡ first_code (found_code found) (names_code (index_of ws) (left s at k next))
    unfolding names_code
    names_here =
        so ∙ ap (λ (es : List (List ℕ)). names_code (index_of ws) es) (next_left s at k c r stepped from to next is) ∙ rw (told, read)

    -- a name that no item has
    pub names_missing : found ≡ None → 18 ≡ names_code (index_of ws) (entries_at s at k)
    unfolding first_by
    names_missing e = sym (names_here ∙ rw (e, code_nothing))

    pub names_on : (p : ℕ) → found ≡ Some p → names_code (index_of ws) (entries_at s at k) ≡ names_code (index_of ws) (left s at k next)
    unfolding first_by
    names_on p e = names_here ∙ rw (e, code_at p)

-- ---- turns of the LNAMs: ws are the FOIDs of all features
pub lnams_begin : (ws s : List ℕ) (at k : ℕ) (c : Cursor) → c ≡ record { field = 0; from = 0; to = 0 }
    → lnams_code (held_foid ws) (entries_at s at k) ≡ lnams_code (held_foid ws) (left s at k c)
lnams_begin ws s at k c e = ap (λ (es : List (List ℕ)). lnams_code (held_foid ws) es) (sym (begin_left s at k c e))

module _ (ws s : List ℕ) (at k : ℕ) (c : Cursor) (so : lnams_code (held_foid ws) (entries_at s at k) ≡ lnams_code (held_foid ws) (left s at k c))
    (r : Option (ℕ × ℕ × Cursor)) (stepped : Stepped s at k c r) where
  pub lnams_done : r ≡ None → 0 ≡ lnams_code (held_foid ws) (entries_at s at k)
  unfolding lnams_code
  lnams_done e = sym (so ∙ ap (λ (es : List (List ℕ)). lnams_code (held_foid ws) es) (next_done s at k c r stepped e))

  module _ (from to : ℕ) (next : Cursor) (is : r ≡ Some (from, to, next)) (foid : ℕ) (held : Bool)
      (read : Reads (take (to - from) (drop from s)) 0 8 foid) (told : held ≡ is_in foid ws) where
    lnams_here : lnams_code (held_foid ws) (entries_at s at k) ≡ cond held (lnams_code (held_foid ws) (left s at k next)) 18
    unfolding lnams_code held_foid
    lnams_here =
        so ∙ ap (λ (es : List (List ℕ)). lnams_code (held_foid ws) es) (next_left s at k c r stepped from to next is) ∙ rw (told, read.is)

    -- a FOID that no feature has
    pub lnams_missing : not held ≡ true → 18 ≡ lnams_code (held_foid ws) (entries_at s at k)
    lnams_missing t = sym (lnams_here ∙ rw (told_no held held refl t))

    pub lnams_on : not held ≡ false → lnams_code (held_foid ws) (entries_at s at k) ≡ lnams_code (held_foid ws) (left s at k next)
    lnams_on t = lnams_here ∙ rw (told_yes held held refl t)

-- ---- an item by its class and its lists' codes: r is its RCNM
module _ (ws foids s : List ℕ) (at r : ℕ) (read : r ≡ rcnm_at s at) where
  pub vector_code : (n : ℕ) → (r ≡ 100 → ⊥) → n ≡ names_code (index_of ws) (entries_at s at VRPT) → n ≡ pointer_code (index_of ws) (held_foid foids) (item_at s at)
  unfolding pointer_code
  vector_code n ne is = rw (← read, ne_eqb r 100 ne, vrpt_said s at) is

  module _ (feature : r ≡ 100) (related : ℕ) (first : related ≡ lnams_code (held_foid foids) (entries_at s at FFPT)) where
    pub feature_related : (related ≡ 0 → ⊥) → related ≡ pointer_code (index_of ws) (held_foid foids) (item_at s at)
    unfolding pointer_code first_by
    feature_related ne = rw (← read, feature, ffpt_said s at, ← first, ne_eqb related 0 ne)

    pub feature_spatial : (n : ℕ) → related ≡ 0 → n ≡ names_code (index_of ws) (entries_at s at FSPT) → n ≡ pointer_code (index_of ws) (held_foid foids) (item_at s at)
    unfolding pointer_code first_by
    feature_spatial n e is = rw (← read, feature, ffpt_said s at, fspt_said s at, ← first, e) is
