-- What is so of a unit's cell at each moment: it is the held form of the base with a series worked in (`Stands`). It is so of what Admit wrote, an offer that is taken
-- lengthens the series by its file, any other leaves it, and Admit of the cell is the cell. Assumes nothing.
use Prim.Native.Nat.{ℕ, ◌+◌}
use mathlib.Core.List.{List, [], ◌∷◌, ◌++◌}
use mathlib.Core.Logic.{⊎_elim}
use mathlib.Core.Path.{◌≡◌, sym, ap, ◌∙◌}
use lib.ListN.{length}
use Rattle.octets.proofs.Cases.{eq_or_ne}
use Rattle.held.specs.Chart.{Chart}
use Rattle.held.specs.Held.{held_of}
use Rattle.loader.specs.Admit.{admit_of, cell_chart}
use Rattle.loader.specs.Apply.{apply_of, updated_by}
use Rattle.demands.specs.Cell.{Bytes, Readable}
use Rattle.demands.specs.Update.{Allowed}
use Rattle.demands.specs.ByteChart.{Whole}
use Rattle.demands.proofs.Whole.{whole_back, whole_admitted}
use Rattle.unit.specs.Unit.{admit_wrote, Offer, offered, BytesEach, UnitOf}
use Rattle.unit.specs.Unit.UnitOf.{begun, given, again}
use Rattle.unit.specs.Reissue.{chart_number, shown, worked, Series}
use Rattle.unit.specs.Reissue.Series.{ended, next}
use Rattle.unit.proofs.CallLaws.{admit_wrote_lem, apply_allowed, offered_done, offered_kept}
use Rattle.unit.proofs.SeriesLaws.{worked_append, series_append, worked_whole, worked_number}

pub record Stands (Offered : List ℕ → Type 0) (base : Chart) (cell : List ℕ) : Type 0 where
  pub whole : Whole base
  pub updates : List (List ℕ)
  pub series : Series Offered base updates
  pub bytes : cell ≡ held_of (worked base updates)

module _ {Offered : List ℕ → Type 0} (octets : BytesEach Offered) where
  module _ {base : Chart} {cell : List ℕ} (st : Stands Offered base cell) where
    -- ---- the cell and its chart
    there : Whole (worked base st.updates)
    there = worked_whole octets st.whole st.series

    pub stands_chart : cell_chart cell ≡ worked base st.updates
    stands_chart = ap cell_chart st.bytes ∙ (whole_back (worked base st.updates) there).2

    pub stands_whole : Whole (cell_chart cell)
    stands_whole = rw stands_chart there

    pub stands_held : cell ≡ held_of (cell_chart cell)
    stands_held = st.bytes ∙ ap held_of (sym stands_chart)

    pub stands_bytes : Bytes cell
    stands_bytes = rw st.bytes (whole_back (worked base st.updates) there).0

    pub stands_readable : Readable cell
    stands_readable = rw st.bytes (whole_back (worked base st.updates) there).1

    pub stands_shown : chart_number base + length st.updates ≡ shown cell
    unfolding shown
    stands_shown = sym (ap (λ (c : Chart). chart_number c) stands_chart ∙ worked_number st.series)

    -- ---- "began from the other's re-issue": Admit of it is itself
    pub stands_again : (w : ℕ) (area : List ℕ) → (admit_of cell w (length area)).code ≡ 0 → admit_wrote cell w area ≡ cell
    stands_again w area h = admit_wrote_lem cell w area h ∙ sym stands_held

    -- ---- an offer
    pub stands_allowed : (o : Offer) → Bytes o.file → (apply_of cell o.file o.work (length o.area)).code ≡ 0 → Allowed (cell_chart cell) o.file
    stands_allowed o these h = apply_allowed cell o.file o.work (length o.area) these h

    stands_more : (o : Offer) → Offered o.file → (apply_of cell o.file o.work (length o.area)).code ≡ 0
        → Stands Offered base (held_of (updated_by (cell_chart cell) o.file))
    unfolding worked
    stands_more o off h =
        let a : Allowed (worked base st.updates) o.file = rw stands_chart at (stands_allowed o (octets o.file off) h) in
        record {
          whole = st.whole;
          updates = st.updates ++ (o.file ∷ []);
          series = series_append st.series (next off a ended);
          bytes = ap (λ (c : Chart). held_of (updated_by c o.file)) stands_chart ∙ ap held_of (sym (worked_append base st.updates (o.file ∷ [])));
        }

    pub stands_offered : (o : Offer) → Offered o.file → Stands Offered base (offered cell o)
    stands_offered o off =
        ⊎_elim (λ (h : (apply_of cell o.file o.work (length o.area)).code ≡ 0). rw (offered_done cell o h) (stands_more o off h))
        (λ (h : (apply_of cell o.file o.work (length o.area)).code ≡ 0 → ⊥). rw (offered_kept cell o h) st)
        (eq_or_ne (apply_of cell o.file o.work (length o.area)).code 0)

  -- ---- so of each unit
  pub unit_stands : {base cell : List ℕ} → Bytes base → UnitOf Offered base cell → Stands Offered (cell_chart base) cell
  unfolding worked
  unit_stands {base} b (begun w area h) = record {
    whole = ((whole_admitted base w (length area) b).0 h).1;
    updates = [];
    series = ended;
    bytes = admit_wrote_lem base w area h;
  }
  unit_stands b (given o off u) = stands_offered (unit_stands b u) o off
  unit_stands b (again w area h u) = rw (stands_again (unit_stands b u) w area h) (unit_stands b u)
