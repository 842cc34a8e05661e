-- The rules of the header as equations, and the header of the result: no update follows twice. Assumes nothing.
use Prim.Native.Nat.{ℕ, ◌+◌}
use mathlib.Core.Bool.{cond, ◌&&◌}
use mathlib.Core.Path.{◌≡◌, refl, sym}
use native.Mathlib.Omega.{arith}
use lib.Dec.{eqb}
use borrow.Author.Tests.{eqb-true, eq-eqb, ne_eqb}
use Rattle.octets.proofs.Tests.{both}
use Rattle.fieldparts.specs.Same.{same_list}
use Rattle.fieldparts.proofs.SameLaws.{same_equal, same_exactly}
use Rattle.header.specs.Dsid.{revised}
use Rattle.held.specs.Chart.{Header, Chart}
use Rattle.changes.specs.Change.{Change}
use Rattle.changes.specs.Follow.{chart_name, follow_code}
use Rattle.changes.specs.Updated.{updated_header, updated}
use Rattle.changes.specs.Rules.{Follows}
use Rattle.changes.proofs.AmendLaws.{no_code}

-- ---- the code and the equations say the same
pub follows_told : (h : Header) (u : Change) → follow_code h u ≡ 0 → Follows h u
unfolding follow_code
follows_told h u e =
    let levels = eqb u.aall h.aall && eqb u.nall h.nall in
    let last : ℕ = cond (eqb u.dsid.number (h.dsid.number + 1)) (cond levels 0 12) 11 in
    let p = no_code (same_list (chart_name h.dsid) (chart_name u.dsid)) (cond (eqb u.dsid.edition h.dsid.edition) last 10) 9 (λ z. omega arith) e in
    let q = no_code (eqb u.dsid.edition h.dsid.edition) last 10 (λ z. omega arith) p.1 in
    let r = no_code (eqb u.dsid.number (h.dsid.number + 1)) (cond levels 0 12) 11 (λ z. omega arith) q.1 in
    let t = no_code levels 0 12 (λ z. omega arith) r.1 in
    let l = both (eqb u.aall h.aall) (eqb u.nall h.nall) t.0 in
    record {
      name = sym (same_equal (chart_name h.dsid) (chart_name u.dsid) p.0);
      edition = eqb-true u.dsid.edition h.dsid.edition q.0;
      number = eqb-true u.dsid.number (h.dsid.number + 1) r.0;
      attributes = eqb-true u.aall h.aall l.0;
      national = eqb-true u.nall h.nall l.1;
    }

pub follows_tested : {h : Header} {u : Change} → Follows h u → follow_code h u ≡ 0
unfolding follow_code
follows_tested {h} {u} f =
    rw (
      (same_exactly (chart_name h.dsid) (chart_name u.dsid)).1 (sym f.name),
      eq-eqb u.dsid.edition h.dsid.edition f.edition,
      eq-eqb u.dsid.number (h.dsid.number + 1) f.number,
      eq-eqb u.aall h.aall f.attributes,
      eq-eqb u.nall h.nall f.national,
    )

-- ---- the header of the result
-- "The result keeps DSID, save UPDN, and UADT and ISDT, which become the update's ISDT"
pub record HeaderKept (c new : Header) (u : Change) : Type 0 where
  pub name : new.dsid.named ≡ c.dsid.named
  pub edition : new.dsid.edition ≡ c.dsid.edition
  pub number : new.dsid.number ≡ u.dsid.number
  pub applied : new.dsid.applied ≡ u.dsid.issued
  pub issued : new.dsid.issued ≡ u.dsid.issued
  pub rest : new.dsid.rest ≡ c.dsid.rest
  pub aall : new.aall ≡ c.aall
  pub nall : new.nall ≡ c.nall
  pub dspm : new.dspm ≡ c.dspm

pub updated_once : (c : Chart) (u : Change) → HeaderKept c.header (updated c u).header u
unfolding updated updated_header revised
updated_once c u = record { name = refl; edition = refl; number = refl; applied = refl; issued = refl; rest = refl; aall = refl; nall = refl; dspm = refl }

-- UPDN rises by 1
pub updated_next : (c : Chart) (u : Change) → follow_code c.header u ≡ 0 → (updated c u).header.dsid.number ≡ c.header.dsid.number + 1
unfolding updated updated_header revised
updated_next c u e = (follows_told c.header u e).number

-- so the update that was worked in doesn't follow the result: its code there is 11
pub followed_once : (c : Chart) (u : Change) → follow_code c.header u ≡ 0 → follow_code (updated c u).header u ≡ 11
unfolding follow_code updated updated_header revised chart_name
followed_once c u e =
    let f = follows_told c.header u e in
    rw (
      (same_exactly (chart_name c.header.dsid) (chart_name u.dsid)).1 (sym f.name),
      eq-eqb u.dsid.edition c.header.dsid.edition f.edition,
      ne_eqb u.dsid.number (u.dsid.number + 1) (λ z. omega arith),
    )
