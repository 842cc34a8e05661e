-- Laws of codes 9 to 12. Assumes nothing.
use Prim.Native.Nat.{ℕ, zero, suc, ◌+◌, ◌≤◌, ◌<◌}
use mathlib.Core.Bool.{Bool, true, false, not, cond, ◌&&◌}
use mathlib.Core.List.{List, [], ◌∷◌}
use mathlib.Core.Path.{◌≡◌, refl, sym, ◌∙◌}
use native.Mathlib.Omega.{arith}
use lib.ListN.{take, drop}
use lib.Seq.{take-take}
use lib.Dec.{eqb}
use borrow.Author.Tests.{eq-eqb, ne_eqb}
use Rattle.octets.proofs.Tests.{told_no, told_yes}
use Rattle.iso8211.specs.Record.{end_of}
use Rattle.iso8211.specs.Field.{count_at}
use Rattle.iso8211.specs.Premises.{RecordIn}
use Rattle.iso8211.specs.File.{record_at}
use Rattle.fieldparts.specs.Same.{same_list}
use Rattle.iso8211.proofs.Promise.{at_first, at_next}
use Rattle.layout.specs.Record.{content_at}
use Rattle.layout.specs.General.{aall_at, nall_at, edition_in, number_in}
use Rattle.header.specs.Dsid.{dsid_of}
use Rattle.header.specs.Known.{PartsOf}
use Rattle.header.specs.declared.dsid.Parts.{Parts}
use Rattle.held.specs.Chart.{Header, header_of}
use Rattle.fronts.specs.Front.{DsidIn}
use Rattle.changes.specs.Change.{Change, change_of}
use Rattle.changes.specs.Follow.{chart_name, follow_code}
use Rattle.follow.specs.Headed.{Headed, dsid_code}

-- ---- same_name: the first eight bytes of DSNM are bytes 7 to 14
taken_inside : (m n k : ℕ) (l : List ℕ) → m + n ≤ k → take n (drop m (take k l)) ≡ take n (drop m l)
taken_inside zero n k l h = take-take n k l (omega arith)
taken_inside (suc m) n zero l h = absurd (omega arith)
taken_inside (suc m) n (suc k) [] h = refl
taken_inside (suc m) n (suc k) (b ∷ bs) h = taken_inside m n k bs (omega arith)

pub name_taken : (d : List ℕ) → chart_name (dsid_of d) ≡ take 8 (drop 7 d)
unfolding chart_name dsid_of
name_taken d = taken_inside 7 8 20 d (omega arith)

pub name_same : (f g : List ℕ) (r : Bool) → r ≡ same_list (take 8 (drop 7 f)) (take 8 (drop 7 g)) → r ≡ same_list (chart_name (dsid_of f)) (chart_name (dsid_of g))
name_same f g r e = e ∙ rw (name_taken f, name_taken g)

-- ---- same_levels: a and b are the levels of the first, c and d those of the second
module _ (s : List ℕ) (at : ℕ) (t : List ℕ) (by a b c d : ℕ) (first : a ≡ aall_at s at) (other : c ≡ aall_at t by) where
  pub levels_first : (c ≡ a → ⊥) → false ≡ (eqb (aall_at t by) (aall_at s at) && eqb (nall_at t by) (nall_at s at))
  levels_first ne = rw (← first, ← other, ne_eqb c a ne)

  pub levels_second : c ≡ a → b ≡ nall_at s at → d ≡ nall_at t by → eqb d b ≡ (eqb (aall_at t by) (aall_at s at) && eqb (nall_at t by) (nall_at s at))
  levels_second e f g = rw (← first, ← other, ← f, ← g, eq-eqb c a e)

-- ---- dsid_code: r is whether the names are the same, p and q are the parts of the two
number_of : (d : List ℕ) → (dsid_of d).number ≡ number_in d
unfolding dsid_of
number_of d = refl

edition_of : (d : List ℕ) → (dsid_of d).edition ≡ edition_in d
unfolding dsid_of
edition_of d = refl

module _ (f g : List ℕ) (r : Bool) (is : r ≡ same_list (chart_name (dsid_of f)) (chart_name (dsid_of g))) where
  pub code_other : not r ≡ true → 9 ≡ dsid_code (dsid_of f) (dsid_of g)
  unfolding dsid_code
  code_other h = rw (told_no r (same_list (chart_name (dsid_of f)) (chart_name (dsid_of g))) is h)

  module _ (h : not r ≡ false) {p q : Parts} (ps : PartsOf f p) (qs : PartsOf g q) where
    edition_f : (dsid_of f).edition ≡ p.edition
    edition_f = edition_of f ∙ sym ps.edition

    edition_g : (dsid_of g).edition ≡ q.edition
    edition_g = edition_of g ∙ sym qs.edition

    number_f : (dsid_of f).number ≡ p.number
    number_f = number_of f ∙ sym ps.number

    number_g : (dsid_of g).number ≡ q.number
    number_g = number_of g ∙ sym qs.number

    pub code_edition : (q.edition ≡ p.edition → ⊥) → 10 ≡ dsid_code (dsid_of f) (dsid_of g)
    unfolding dsid_code
    code_edition ne = rw (told_yes r (same_list (chart_name (dsid_of f)) (chart_name (dsid_of g))) is h, edition_f, edition_g, ne_eqb _ _ ne)

    module _ (same : q.edition ≡ p.edition) where
      pub code_number : (q.number ≡ p.number + 1 → ⊥) → 11 ≡ dsid_code (dsid_of f) (dsid_of g)
      unfolding dsid_code
      code_number ne =
          rw (told_yes r (same_list (chart_name (dsid_of f)) (chart_name (dsid_of g))) is h, edition_f, edition_g, eq-eqb _ _ same, number_f, number_g, ne_eqb _ _ ne)

      pub code_next : q.number ≡ p.number + 1 → 0 ≡ dsid_code (dsid_of f) (dsid_of g)
      unfolding dsid_code
      code_next e =
          rw (told_yes r (same_list (chart_name (dsid_of f)) (chart_name (dsid_of g))) is h, edition_f, edition_g, eq-eqb _ _ same, number_f, number_g, eq-eqb _ _ e)

-- ---- follow_code: DSID first, then the levels
pub first_at : (s : List ℕ) (e : ℕ) → e ≡ end_of s 0 → e ≡ record_at s 1
first_at s e is = is ∙ at_next s 0 0 (sym (at_first s))

pub first_dsid : (s : List ℕ) (e : ℕ) → Headed s → e ≡ end_of s 0 → DsidIn s e
first_dsid s e so is = rw (first_at s e is) so.dsid

pub dsid_inside : {s : List ℕ} {at : ℕ} → DsidIn s at → RecordIn s at
dsid_inside so = so.inside

pub dsid_second : {s : List ℕ} {at : ℕ} → DsidIn s at → 1 < count_at s at
dsid_second so = let three = so.third in omega arith

stages : (a b c d : Bool)
    → ◌≡◌ {A = ℕ} (cond a (cond b (cond c (cond d 0 12) 11) 10) 9) (cond (eqb (cond a (cond b (cond c 0 11) 10) 9) 0) (cond d 0 12) (cond a (cond b (cond c 0 11) 10) 9))
stages true true true d = refl
stages true true false d = refl
stages true false c d = refl
stages false b c d = refl

follow_stages : (h : Header) (u : Change)
    → follow_code h u ≡ cond (eqb (dsid_code h.dsid u.dsid) 0) (cond (eqb u.aall h.aall && eqb u.nall h.nall) 0 12) (dsid_code h.dsid u.dsid)
unfolding follow_code dsid_code
follow_stages h u =
    stages (same_list (chart_name h.dsid) (chart_name u.dsid)) (eqb u.dsid.edition h.dsid.edition) (eqb u.dsid.number (h.dsid.number + 1))
    (eqb u.aall h.aall && eqb u.nall h.nall)

module _ (s t : List ℕ) (at by : ℕ) (a : at ≡ record_at s 1) (b : by ≡ record_at t 1) (f g : List ℕ) (fs : f ≡ content_at s at 1) (gs : g ≡ content_at t by 1) (k : ℕ)
    (is : k ≡ dsid_code (dsid_of f) (dsid_of g)) where
  whole : (m : ℕ) → follow_code (header_of s) (change_of t m) ≡ cond (eqb k 0) (cond (eqb (aall_at t by) (aall_at s at) && eqb (nall_at t by) (nall_at s at)) 0 12) k
  unfolding header_of change_of
  whole m = follow_stages (header_of s) (change_of t m) ∙ rw (← a, ← b, ← fs, ← gs, ← is)

  pub code_dsid : (k ≡ 0 → ⊥) → (m : ℕ) → k ≡ follow_code (header_of s) (change_of t m)
  code_dsid ne m = sym (whole m ∙ rw (ne_eqb k 0 ne))

  module _ (z : k ≡ 0) (r : Bool) (levels : r ≡ (eqb (aall_at t by) (aall_at s at) && eqb (nall_at t by) (nall_at s at))) where
    pub code_level : not r ≡ true → (m : ℕ) → 12 ≡ follow_code (header_of s) (change_of t m)
    code_level h m = sym (whole m ∙ rw (eq-eqb k 0 z, told_no r (eqb (aall_at t by) (aall_at s at) && eqb (nall_at t by) (nall_at s at)) levels h))

    pub code_fine : not r ≡ false → (m : ℕ) → 0 ≡ follow_code (header_of s) (change_of t m)
    code_fine h m = sym (whole m ∙ rw (eq-eqb k 0 z, told_yes r (eqb (aall_at t by) (aall_at s at) && eqb (nall_at t by) (nall_at s at)) levels h))
