-- Demand 2 in the form in which a unit takes it: what a call wrote, why Apply could, and that an offer replaces or keeps. Assumes nothing.
use Prim.Native.Nat.{ℕ}
use mathlib.Core.List.{List}
use mathlib.Core.Path.{◌≡◌}
use lib.ListN.{length}
use borrow.Author.Tests.{eq-eqb, ne_eqb}
use Rattle.held.specs.Held.{held_of}
use Rattle.loader.specs.Admit.{admit_of, cell_chart}
use Rattle.loader.specs.Apply.{apply_of, updated_by}
use Rattle.demands.specs.Cell.{Bytes}
use Rattle.demands.specs.Update.{Allowed}
use Rattle.demands.proofs.Apply.{accepted_readable, accepted_exactly}
use Rattle.demands.proofs.Written.{admitted_held, applied_held}
use Rattle.unit.specs.Unit.{admit_wrote, apply_wrote, Offer, offered}

-- ---- as many bytes of the area as Number says are the held form, and not the bytes behind it
pub admit_wrote_lem : (cell : List ℕ) (w : ℕ) (area : List ℕ) → (admit_of cell w (length area)).code ≡ 0 → admit_wrote cell w area ≡ held_of (cell_chart cell)
unfolding admit_wrote
admit_wrote_lem cell w area h = admitted_held cell w area h

pub apply_wrote_lem : (cell file : List ℕ) (w : ℕ) (area : List ℕ) → (apply_of cell file w (length area)).code ≡ 0
    → apply_wrote cell file w area ≡ held_of (updated_by (cell_chart cell) file)
unfolding apply_wrote
apply_wrote_lem cell file w area h = applied_held cell file w area h

-- ---- what Apply takes is allowed
pub apply_allowed : (cell file : List ℕ) (w o : ℕ) → Bytes file → (apply_of cell file w o).code ≡ 0 → Allowed (cell_chart cell) file
apply_allowed cell file w o these h = ((accepted_exactly cell file w o these (accepted_readable cell file w o h)).0 h).0

-- ---- an offer replaces or keeps
pub offered_done : (cell : List ℕ) (o : Offer) → (apply_of cell o.file o.work (length o.area)).code ≡ 0
    → offered cell o ≡ held_of (updated_by (cell_chart cell) o.file)
unfolding offered
offered_done cell o h = rw (eq-eqb (apply_of cell o.file o.work (length o.area)).code 0 h) (apply_wrote_lem cell o.file o.work o.area h)

pub offered_kept : (cell : List ℕ) (o : Offer) → ((apply_of cell o.file o.work (length o.area)).code ≡ 0 → ⊥) → offered cell o ≡ cell
unfolding offered
offered_kept cell o ne = rw (ne_eqb (apply_of cell o.file o.work (length o.area)).code 0 ne)
