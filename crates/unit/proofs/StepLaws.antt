-- One offer to a unit. `unit_steps`: what is taken has the number after that shown, which is then shown. `unit_waits`, `unit_keeps`, `unit_once`: any other file leaves
-- the unit as it is. `unit_takes`, `unit_admits`: what demand 2's rules allow is taken. `unit_named`: name and edition stay. No premise on equal
-- numbers is needed here. Assumes nothing.
use Prim.Native.Nat.{ℕ, ◌+◌, ◌≤◌, ◌<◌}
use mathlib.Core.List.{List}
use mathlib.Core.Logic.{⊎_elim}
use mathlib.Core.Path.{◌≡◌, ap, ◌∙◌}
use native.Mathlib.Omega.{arith}
use lib.ListN.{length}
use Rattle.octets.proofs.Cases.{eq_or_ne}
use Rattle.held.specs.Chart.{Chart}
use Rattle.held.specs.Held.{held_of}
use Rattle.loader.specs.Admit.{admit_of, cell_chart}
use Rattle.loader.specs.Apply.{apply_of, updated_by}
use Rattle.changes.specs.Follow.{chart_name}
use Rattle.demands.specs.Cell.{Bytes, Room}
use Rattle.demands.specs.Update.{Allowed, Areas}
use Rattle.demands.proofs.Updated.{updated_once}
use Rattle.demands.proofs.Whole.{whole_back, whole_admitted, whole_updated}
use Rattle.demands.proofs.Apply.{accepted_exactly}
use Rattle.unit.specs.Unit.{admit_wrote, Offer, offered, BytesEach, UnitOf}
use Rattle.unit.specs.Unit.UnitOf.{given}
use Rattle.unit.specs.Reissue.{chart_number, shown, number_of}
use Rattle.unit.proofs.CallLaws.{offered_done, offered_kept}
use Rattle.unit.proofs.SeriesLaws.{allowed_next, worked_name, worked_edition}
use Rattle.unit.proofs.StandsLaws.{Stands, stands_chart, stands_whole, stands_bytes, stands_readable, stands_again, stands_allowed, unit_stands}

module _ {Offered : List ℕ → Type 0} {base cell : List ℕ} (b : Bytes base) (octets : BytesEach Offered) (u : UnitOf Offered base cell)
    (o : Offer) (these : Bytes o.file) where
  st : Stands Offered (cell_chart base) cell
  st = unit_stands octets b u

  -- what is taken has the next number, which is then shown
  pub unit_steps : (apply_of cell o.file o.work (length o.area)).code ≡ 0 → (number_of o.file ≡ shown cell + 1) × (shown (offered cell o) ≡ number_of o.file)
  unfolding shown number_of
  unit_steps h =
      let a = stands_allowed octets st o these h in
      let made = updated_by (cell_chart cell) o.file in
      let back = (whole_back made (whole_updated (cell_chart cell) o.file these (stands_whole octets st) a)).2 in (
        allowed_next (cell_chart cell) o.file a,
        ap (λ (s : List ℕ). chart_number (cell_chart s)) (offered_done cell o h)
            ∙ ap (λ (c : Chart). chart_number c) back
            ∙ (updated_once (cell_chart cell) o.file a).number,
      )

  -- "in any order, repeated or with gaps": a file of any other number leaves the unit as it is
  pub unit_waits : (number_of o.file ≡ shown cell + 1 → ⊥) → offered cell o ≡ cell
  unit_waits other = offered_kept cell o (λ h. other (unit_steps h).0)

  -- repeated, or earlier
  pub unit_earlier : number_of o.file ≤ shown cell → offered cell o ≡ cell
  unit_earlier h = unit_waits (λ e. omega arith)

  -- with a gap
  pub unit_gap : shown cell + 1 < number_of o.file → offered cell o ≡ cell
  unit_gap h = unit_waits (λ e. omega arith)

  -- what demand 2's rules don't allow is not taken
  pub unit_keeps : (Allowed (cell_chart cell) o.file → ⊥) → offered cell o ≡ cell
  unit_keeps not = offered_kept cell o (λ h. not (stands_allowed octets st o these h))

  -- ---- "Demand 3 alone lets the first pass, so it is read over demand 2": what the rules allow is taken, if the areas suffice
  pub unit_takes : Allowed (cell_chart cell) o.file → Areas cell o.file o.work (length o.area)
      → (offered cell o ≡ held_of (updated_by (cell_chart cell) o.file)) × (shown (offered cell o) ≡ shown cell + 1)
  unit_takes a enough =
      let h = (accepted_exactly cell o.file o.work (length o.area) these (stands_readable octets st)).1 (a, enough) in
      let s = unit_steps h in
      (offered_done cell o h, s.1 ∙ s.0)

  -- the number shown never falls, and rises by one at most
  pub unit_rises : (shown cell ≤ shown (offered cell o)) × (shown (offered cell o) ≤ shown cell + 1)
  unit_rises =
      ⊎_elim (λ (h : (apply_of cell o.file o.work (length o.area)).code ≡ 0). let s = unit_steps h in let e = s.0 in let f = s.1 in (omega arith, omega arith))
      (λ (h : (apply_of cell o.file o.work (length o.area)).code ≡ 0 → ⊥). let e = ap shown (offered_kept cell o h) in (omega arith, omega arith))
      (eq_or_ne (apply_of cell o.file o.work (length o.area)).code 0)

module _ {Offered : List ℕ → Type 0} {base cell : List ℕ} (b : Bytes base) (octets : BytesEach Offered) (u : UnitOf Offered base cell) where
  -- name and edition are the base's, whatever was offered
  pub unit_named : (chart_name (cell_chart cell).header.dsid ≡ chart_name (cell_chart base).header.dsid)
      × ((cell_chart cell).header.dsid.edition ≡ (cell_chart base).header.dsid.edition)
  unit_named =
      let st = unit_stands octets b u in
      let e = stands_chart octets st in (
        ap (λ (c : Chart). chart_name c.header.dsid) e ∙ worked_name st.series,
        ap (λ (c : Chart). c.header.dsid.edition) e ∙ worked_edition st.series,
      )

  -- a file that was taken isn't taken again, whatever areas are lent
  pub unit_once : (o p : Offer) → Offered o.file → p.file ≡ o.file → (apply_of cell o.file o.work (length o.area)).code ≡ 0
      → offered (offered cell o) p ≡ offered cell o
  unit_once o p off same h =
      let s = (unit_steps b octets u o (octets o.file off) h).1 in
      let e = ap number_of same in
      unit_earlier b octets (given o off u) p (rw same (octets o.file off)) (omega arith)

  -- Admit of a unit's cell gives the cell, if the areas suffice
  pub unit_admits : (w : ℕ) (area : List ℕ) → Room cell w (length area) → ((admit_of cell w (length area)).code ≡ 0) × (admit_wrote cell w area ≡ cell)
  unit_admits w area enough =
      let st = unit_stands octets b u in
      let h = (whole_admitted cell w (length area) (stands_bytes octets st)).1 (stands_readable octets st, stands_whole octets st, enough) in
      (h, stands_again octets st w area h)
