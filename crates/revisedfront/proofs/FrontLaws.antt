-- Where the records in front stand, their sizes, and how what was written joins. Assumes nothing.
use Prim.Native.Nat.{ℕ, ◌+◌, ◌≤◌, max}
use mathlib.Core.List.{List}
use mathlib.Core.Path.{◌≡◌, ◌∙◌}
use native.Mathlib.Omega.{arith}
use lib.ListN.{length, length-append}
use Rattle.octets.specs.Area.{Wrote}
use Rattle.octets.proofs.AreaLaws.{wrote_join, wrote_length}
use Rattle.iso8211.specs.Record.{end_of}
use Rattle.iso8211.specs.Premises.{FramedAt}
use Rattle.iso8211.specs.File.{record_at}
use Rattle.iso8211.proofs.Promise.{at_on}
use Rattle.layout.specs.Record.{content_at}
use Rattle.layout.specs.General.{aall_at, nall_at}
use Rattle.counted.specs.declared.counts.Tally.{Tally}
use Rattle.records.specs.Written.{record_bytes, size_of}
use Rattle.records.proofs.WrittenLaws.{record_length}
use Rattle.header.specs.First.{first_record}
use Rattle.header.proofs.FirstLaws.{first_length}
use Rattle.header.proofs.DssiLaws.{dssi_length}
use Rattle.fronts.specs.Front.{dsid_fields, dspm_fields, revised_in, dssi_in, RevisedSized, DsidIn}
use Rattle.revisedfront.specs.Front.{Fronted, fronts_of, Found, front_bytes, FrontSized}
use Rattle.revisedfront.specs.declared.front.Fronts.{Fronts}

-- ---- where they stand
pub dsid_framed : {cell : List ℕ} (d : ℕ) → DsidIn cell d → FramedAt cell d
dsid_framed d so = so.inside.framed

pub fronts_found : {cell update : List ℕ} (d p b : ℕ) → Fronted cell update → d ≡ record_at cell 1 → DsidIn cell d → p ≡ end_of cell d → b ≡ record_at update 1 → DsidIn update b
    → Found cell update (record { dsid = d; dspm = p; by = b })
fronts_found {cell} {update} d p b so first dsid second other by =
    let next : p ≡ record_at cell 2 = at_on cell 1 d p first second in
    record { is = rw (first, next, other); dsid = dsid; dspm = rw next so.dspm; by = by }

-- ---- their sizes
module _ (cell update : List ℕ) (f : Fronts) (t : Tally) where
  pub front_length : length (front_bytes cell update f t)
      ≡ 1561 + size_of (dsid_fields (revised_in cell f.dsid update f.by) (dssi_in cell f.dsid t)) + size_of (dspm_fields (content_at cell f.dspm 1))
  unfolding front_bytes
  front_length =
      let d = dsid_fields (revised_in cell f.dsid update f.by) (dssi_in cell f.dsid t) in
      let p = dspm_fields (content_at cell f.dspm 1) in
      rw (length-append first_record, length-append (record_bytes d), record_length d, record_length p, first_length) (omega arith)

pub front_sized : {cell update : List ℕ} {f : Fronts} (d p m : ℕ) → Found cell update f → RevisedSized cell f.dsid update f.by d
    → p ≡ size_of (dspm_fields (content_at cell f.dspm 1)) → p ≤ 200000 → m ≡ max d p → FrontSized cell update (record { sum = 1561 + d + p; most = m })
front_sized {cell} {update} {f} d p m found first second low most =
    let g = fronts_of cell update in
    let one : RevisedSized cell g.dsid update g.by d = rw found.is at first in
    let two : p ≡ size_of (dspm_fields (content_at cell g.dspm 1)) = rw found.is at second in
    let few = first.few in
    let size : (t : Tally) → d ≡ size_of (dsid_fields (revised_in cell g.dsid update g.by) (dssi_in cell g.dsid t)) =
    λ (t : Tally). one.is (dssi_in cell g.dsid t) (dssi_length (aall_at cell g.dsid) (nall_at cell g.dsid) t) in
    record {
      sum_is = λ t. let e = size t in omega (arith, front_length cell update g t);
      most_is = λ t. most ∙ rw (← (size t), ← two);
      sum_few = omega arith;
    }

-- ---- written
module _ (cell update : List ℕ) (f : Fronts) (t : Tally) (a : List ℕ) (room : length (front_bytes cell update f t) ≤ length a) where
  pub first_room : 0 + 1561 ≤ length a
  first_room = omega (arith, front_length cell update f t)

  module _ {b : List ℕ} {m : ℕ} (w : Wrote a 0 first_record b m) where
    pub dsid_room : m + size_of (dsid_fields (revised_in cell f.dsid update f.by) (dssi_in cell f.dsid t)) ≤ length b
    dsid_room = omega (arith, front_length cell update f t, w.end, wrote_length w, first_length)

    module _ {d : List ℕ} {q : ℕ} (x : Wrote b m (record_bytes (dsid_fields (revised_in cell f.dsid update f.by) (dssi_in cell f.dsid t))) d q) where
      pub dspm_room : q + size_of (dspm_fields (content_at cell f.dspm 1)) ≤ length d
      dspm_room =
          omega (
            arith,
            front_length cell update f t,
            w.end,
            wrote_length w,
            x.end,
            wrote_length x,
            first_length,
            record_length (dsid_fields (revised_in cell f.dsid update f.by) (dssi_in cell f.dsid t)),
          )

      pub front_put : {e : List ℕ} {r : ℕ} → Wrote d q (record_bytes (dspm_fields (content_at cell f.dspm 1))) e r → Wrote a 0 (front_bytes cell update f t) e r
      unfolding front_bytes
      front_put y = wrote_join w (wrote_join x y)
