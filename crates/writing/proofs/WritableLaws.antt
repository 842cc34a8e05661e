-- The items of a cell in which nothing was refused can be copied: "RUIN 1 in cells". So can those that an update inserts: "RUIN 1 insert". Assumes nothing.
use Prim.Native.Nat.{ℕ, ◌+◌, ◌-◌, ◌≤◌, ◌<◌}
use mathlib.Core.Bool.{Bool, true, false}
use mathlib.Core.List.{List}
use mathlib.Core.Logic.{⊎_elim}
use mathlib.Core.Path.{◌≡◌, sym, ap, ◌∙◌}
use native.Mathlib.Nat.{add-zero}
use native.Mathlib.Omega.{arith}
use lib.ListN.{length}
use borrow.Author.Tests.{eq-eqb, ne_eqb}
use Rattle.octets.proofs.ListLaws.{part_byte}
use Rattle.octets.specs.Number.{byte_at}
use Rattle.iso8211.specs.Field.{count_at, field_at}
use Rattle.iso8211.specs.File.{record_at}
use Rattle.table.specs.Table.{VRID, FRID}
use Rattle.values.specs.Vrid.{is_vector}
use Rattle.headvalues.proofs.Promise.{vrid_good, frid_good}
use Rattle.layout.specs.Record.{kind_at, content_at}
use Rattle.layout.proofs.Promise.{full_vrid, full_frid}
use Rattle.fieldvalue.specs.Value.{value_fault}
use Rattle.chart.specs.Read.{read_fault}
use Rattle.chart.proofs.Promise.{fair, fair_vrid, fair_frid, good_records}
use Rattle.items.specs.Identity.{id_at, rcnm_at, ruin_at}
use Rattle.items.specs.Premises.{LaidOut, Identified}
use Rattle.names.specs.Premises.{Readable}
use Rattle.names.specs.Names.{first_item}
use Rattle.itemfields.proofs.FieldsLaws.{class_small}
use Rattle.itemrows.specs.Plain.{Writable}
use Rattle.writing.proofs.FieldLaws.{content_long, filled_as}

module _ (update : Bool) (aall nall : ℕ) (s : List ℕ) (at : ℕ) (laid : LaidOut s at) (known : Identified s at) (fine : value_fault update aall nall s at ≡ 0) where
  inside : 1 < count_at s at
  inside = let two = laid.two in omega arith

  byte_in : (i : ℕ) → i < length (content_at s at 1) → byte_at (content_at s at 1) i ≡ byte_at s (id_at s at + i)
  byte_in i h = part_byte s (id_at s at) ((field_at s at 1).length - 1) i (omega (arith, content_long s at laid 1 inside))

  byte_first : 0 < length (content_at s at 1) → byte_at (content_at s at 1) 0 ≡ rcnm_at s at
  unfolding rcnm_at
  byte_first h = byte_in 0 h ∙ ap (λ (i : ℕ). byte_at s i) (add-zero (id_at s at))

  -- a vector has the class of one, and a feature has that of one
  vector_class : kind_at s at 1 ≡ VRID → rcnm_at s at ≡ 100 → ⊥
  vector_class e h =
      let long = full_vrid (content_at s at 1) (filled_as s at laid 1 inside VRID e) in
      let good = vrid_good update (content_at s at 1) (fair_vrid (kind_at s at 1) e (fair update aall nall s at laid.inside fine 1 inside)) in
      let class : is_vector (rcnm_at s at) ≡ true = ap is_vector (sym (byte_first (omega arith))) ∙ good.rcnm in
      omega (arith, class_small (rcnm_at s at) class)

  feature_class : kind_at s at 1 ≡ FRID → rcnm_at s at ≡ 100
  feature_class e =
      let long = full_frid (content_at s at 1) (filled_as s at laid 1 inside FRID e) in
      let good = frid_good update (content_at s at 1) (fair_frid (kind_at s at 1) e (fair update aall nall s at laid.inside fine 1 inside)) in
      sym (byte_first (omega arith)) ∙ good.rcnm

  ruin_vector : (rcnm_at s at ≡ 100 → ⊥) → ruin_at s at ≡ byte_at s (id_at s at + 7)
  unfolding ruin_at
  ruin_vector ne = rw (ne_eqb (rcnm_at s at) 100 ne)

  ruin_feature : rcnm_at s at ≡ 100 → ruin_at s at ≡ byte_at s (id_at s at + 11)
  unfolding ruin_at
  ruin_feature e = rw (eq-eqb (rcnm_at s at) 100 e)

  ruin_writable : ruin_at s at ≡ 1 → Writable s at
  ruin_writable one = record {
    laid = laid;
    known = known;
    vector = λ (ne : rcnm_at s at ≡ 100 → ⊥).
        (⊎_elim (λ (e : kind_at s at 1 ≡ VRID). e) (λ (e : kind_at s at 1 ≡ FRID). absurd (ne (feature_class e))) known.is, sym (ruin_vector ne) ∙ one);
    feature = λ (h : rcnm_at s at ≡ 100). sym (ruin_feature h) ∙ one;
  }

-- "RUIN 1 in cells"
module _ (aall nall : ℕ) (s : List ℕ) (at : ℕ) (laid : LaidOut s at) (known : Identified s at) (fine : value_fault false aall nall s at ≡ 0) where
  one_in : 1 < count_at s at
  one_in = inside false aall nall s at laid known fine

  cell_ruin : ruin_at s at ≡ 1
  cell_ruin =
      ⊎_elim (λ (e : kind_at s at 1 ≡ VRID).
      let long = full_vrid (content_at s at 1) (filled_as s at laid 1 one_in VRID e) in
      let good = vrid_good false (content_at s at 1) (fair_vrid (kind_at s at 1) e (fair false aall nall s at laid.inside fine 1 one_in)) in
      let ruin = good.ruin in
      let one : byte_at (content_at s at 1) 7 ≡ 1 = omega arith in
      ruin_vector false aall nall s at laid known fine (vector_class false aall nall s at laid known fine e)
      ∙ sym (byte_in false aall nall s at laid known fine 7 (omega arith)) ∙ one)
      (λ (e : kind_at s at 1 ≡ FRID).
      let long = full_frid (content_at s at 1) (filled_as s at laid 1 one_in FRID e) in
      let good = frid_good false (content_at s at 1) (fair_frid (kind_at s at 1) e (fair false aall nall s at laid.inside fine 1 one_in)) in
      let ruin = good.ruin in
      let one : byte_at (content_at s at 1) 11 ≡ 1 = omega arith in
      ruin_feature false aall nall s at laid known fine (feature_class false aall nall s at laid known fine e)
      ∙ sym (byte_in false aall nall s at laid known fine 11 (omega arith)) ∙ one) known.is

  pub writable : Writable s at
  writable = ruin_writable false aall nall s at laid known fine cell_ruin

-- every item of a readable cell
pub cell_writable : (s : List ℕ) (n k : ℕ) → Readable false s n → (read_fault false s n).code ≡ 0 → 3 ≤ k → k < n → Writable s (record_at s k)
unfolding first_item
cell_writable s n k readable fine low less =
    let here = (good_records false s n readable.framed fine).0 k (omega arith) less in
    let item = readable.items k low less in
    writable here.good.state.aall here.good.state.nall s (record_at s k) item.0 item.1 here.good.valued

-- every item that a readable update inserts
pub insert_writable : (s : List ℕ) (m k : ℕ) → Readable true s m → (read_fault true s m).code ≡ 0 → 2 ≤ k → k < m → ruin_at s (record_at s k) ≡ 1 → Writable s (record_at s k)
unfolding first_item
insert_writable s m k readable fine low less one =
    let here = (good_records true s m readable.framed fine).0 k (omega arith) less in
    let item = readable.items k low less in
    ruin_writable true here.good.state.aall here.good.state.nall s (record_at s k) item.0 item.1 here.good.valued one
