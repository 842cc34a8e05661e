-- The records of DSID and DSPM, written and read back; then the whole chart: what is written for a chart means that chart. Assumes nothing.
use Prim.Native.Nat.{ℕ, suc, ◌+◌, ◌-◌, ◌≤◌}
use mathlib.Core.Bool.{Bool, true, false, cond}
use mathlib.Core.List.{List, [], ◌∷◌}
use mathlib.Core.Path.{◌≡◌, refl, sym, ap, ◌∙◌}
use native.Mathlib.Omega.{arith}
use lib.ListN.{length, get_or}
use borrow.Author.Tests.{eq-eqb}
use Rattle.std.specs.Prelude.{Ok}
use Rattle.octets.specs.Number.{num_at, bytes_of}
use Rattle.iso8211.specs.Record.{end_of}
use Rattle.iso8211.specs.Field.{field_at}
use Rattle.iso8211.specs.File.{frame_of, record_at}
use Rattle.iso8211.proofs.Promise.{at_start}
use Rattle.table.specs.Table.{row_of, table, tag_of, kind_of, among, as_number, first, DSID, DSSI, DSPM}
use Rattle.table.specs.Text.{bytes}
use Rattle.values.specs.Class.{is_geo, is_meta, is_collection}
use Rattle.layout.specs.Layout.{opens, follows, placed, may_end, filled, start}
use Rattle.layout.specs.Record.{content_at}
use Rattle.fieldvalue.specs.Value.{is_attributes, field_fault, seen_before, seen_after}
use Rattle.chart.specs.Read.{next_stage, passed_state, first_state, records_fault, read_fault}
use Rattle.declarations.specs.Described.{described_of}
use Rattle.items.proofs.IdentityLaws.{num_one}
use Rattle.names.specs.Names.{first_item, items_from, first_twice, twice_of}
use Rattle.names.specs.Held.{held_items}
use Rattle.counted.specs.Counts as counts
use Rattle.counted.specs.Counts.{count_of, counts_good}
use Rattle.counted.specs.Tallies.{AtMost}
use Rattle.records.specs.Pieces.{Piece}
use Rattle.records.specs.Premises.{piece_of, pieces_at}
use Rattle.records.specs.Written.{records_bytes}
use Rattle.records.proofs.WrittenLaws.{RecordRead, fields_read}
use Rattle.records.proofs.FileLaws.{Stand, file_framed, file_stands}
use Rattle.records.proofs.FileLaws.Stand.{stand_more}
use Rattle.itemfields.specs.Views.{piece_laid, laid_in, valued_in}
use Rattle.items.specs.Item.{Item}
use Rattle.itemfields.specs.Fields.{piece}
use Rattle.held.specs.Chart.{Chart, header_of, chart_of}
use Rattle.held.specs.Held.{items_pieces, count_in, of_name, of_class, tally_in, dsid_pieces, dspm_pieces, records_of, held_of}
use Rattle.held.specs.Limits.{Fits, record_count}
use Rattle.held.specs.Good.{GoodChart}
use Rattle.header.specs.First.{first_record}
use Rattle.header.specs.Dsid.{dsid_bytes}
use Rattle.header.specs.Dssi.{dssi_bytes}
use Rattle.header.proofs.FirstLaws.{first_is, first_marks, first_described, first_declares}
use Rattle.header.proofs.DssiLaws.{DssiRead, dssi_read, dssi_fine}
use Rattle.itemfields.proofs.ViewLaws.{laid_seen, values_seen, piece_seen, number_seen}
use Rattle.held.proofs.FileLaws.{objects_fine, objects_back}
use Rattle.held.proofs.FileLaws.Due.{due_any}
use Rattle.held.proofs.OrderLaws.{ordered_stays}
use Rattle.held.proofs.NameLaws.{below_none, objects_once, objects_counted, name_like, class_like}
use Rattle.layout.specs.General.{aall_at, nall_at, dssi_count}
use Rattle.answers.specs.Answer.{fine}

-- ---- no count is above the number of objects
one_most : (b : Bool) → cond b 1 0 ≤ 1
one_most true = omega arith
one_most false = omega arith

count_most : (like : Item → Bool) (ts : List Item) → count_in like ts ≤ length ts
unfolding count_in
count_most like [] = omega arith
count_most like (t ∷ ts) = let a = one_most (like t) in let b = count_most like ts in omega arith

pub tally_most : (ts : List Item) → length ts ≤ 5242880 → AtMost 5242880 (tally_in ts)
unfolding tally_in
tally_most ts few = record {
  meta_few = let m = count_most (of_class is_meta) ts in omega arith;
  geo_few = let m = count_most (of_class is_geo) ts in omega arith;
  collection_few = let m = count_most (of_class is_collection) ts in omega arith;
  isolated_few = let m = count_most (of_name 110) ts in omega arith;
  connected_few = let m = count_most (of_name 120) ts in omega arith;
  edges_few = let m = count_most (of_name 130) ts in omega arith;
}

-- ---- fields that are placed, declared, filled
laid_piece : (stage : ℕ) (marks : List ℕ) (prev k : ℕ) (c : List ℕ) (rest : List Piece) → kind_of (tag_of k) ≡ k → placed false stage prev k ≡ true → get_or marks k 0 ≡ 1
    → filled k c ≡ true
    → laid_in false stage marks k rest ≡ true → laid_in false stage marks prev (piece k c ∷ rest) ≡ true
unfolding laid_in piece_laid
laid_piece stage marks prev k c rest named place declared full more = rw (named, place, eq-eqb _ _ declared, full) more

valued_piece : (aall nall prev k : ℕ) (seen c : List ℕ) (rest : List Piece) → kind_of (tag_of k) ≡ k → field_fault false aall nall k (seen_before prev k seen) c ≡ 0
    → ((met : List ℕ) → valued_in false aall nall k met rest ≡ true) → valued_in false aall nall prev seen (piece k c ∷ rest) ≡ true
unfolding valued_in
valued_piece aall nall prev k seen c rest named none more = rw (named, none) (more (seen_after k (seen_before prev k seen) c))

module _ (c : Chart) (good : GoodChart c) (few : record_count c ≤ 65536) where
  abbrev dssi : List ℕ
  dssi = dssi_bytes c.header.aall c.header.nall (tally_in c.items)

  dssi_is : DssiRead dssi c.header.aall c.header.nall (tally_in c.items)
  dssi_is = dssi_read c.header.aall c.header.nall (tally_in c.items) (tally_most c.items (omega arith))

  laid_dsid : laid_in false 0 first_marks start (dsid_pieces c) ≡ true
  unfolding dsid_pieces laid_in kind_of among tag_of row_of table as_number bytes placed opens follows may_end filled bytes_of
  laid_dsid =
      laid_piece 0 first_marks start first (bytes_of 2 1) (piece DSID (dsid_bytes c.header.dsid) ∷ piece DSSI dssi ∷ []) refl refl refl refl
      (laid_piece 0 first_marks first DSID (dsid_bytes c.header.dsid) (piece DSSI dssi ∷ []) refl refl refl good.dsid_is_laid
      (laid_piece 0 first_marks DSID DSSI dssi [] refl refl refl (eq-eqb (length dssi) 35 dssi_is.long) refl))

  valued_dsid : valued_in false 0 0 start [] (dsid_pieces c) ≡ true
  unfolding dsid_pieces valued_in kind_of among tag_of row_of table as_number bytes field_fault is_attributes
  valued_dsid =
      valued_piece 0 0 start first [] (bytes_of 2 1) (piece DSID (dsid_bytes c.header.dsid) ∷ piece DSSI dssi ∷ []) refl refl
      (λ a. valued_piece 0 0 first DSID a (dsid_bytes c.header.dsid) (piece DSSI dssi ∷ []) refl good.dsid_fine
      (λ b. valued_piece 0 0 DSID DSSI b dssi [] refl (dssi_fine dssi _ _ _ dssi_is good.aall_low good.nall_low) (λ d. refl)))

  laid_dspm : laid_in false 1 first_marks start (dspm_pieces c) ≡ true
  unfolding dspm_pieces laid_in kind_of among tag_of row_of table as_number bytes placed opens follows may_end filled bytes_of
  laid_dspm =
      laid_piece 1 first_marks start first (bytes_of 2 2) (piece DSPM c.header.dspm ∷ []) refl refl refl refl
      (laid_piece 1 first_marks first DSPM c.header.dspm [] refl refl refl good.dspm_is_laid refl)

  valued_dspm : (aall nall : ℕ) → valued_in false aall nall start [] (dspm_pieces c) ≡ true
  unfolding dspm_pieces valued_in kind_of among tag_of row_of table as_number bytes field_fault is_attributes
  valued_dspm aall nall =
      valued_piece aall nall start first [] (bytes_of 2 2) (piece DSPM c.header.dspm ∷ []) refl refl
      (λ a. valued_piece aall nall first DSPM a c.header.dspm [] refl good.dspm_fine (λ b. refl))

-- ---- the whole chart
-- where the records of a chart stand
pub record Standing (s : List ℕ) (c : Chart) : Type 0 where
  pub dsid : RecordRead s (record_at s 1) (dsid_pieces c)
  pub dspm : RecordRead s (record_at s 2) (dspm_pieces c)
  pub items : Stand s (record_at s 3) (items_pieces 3 c.items)

three_records : {s : List ℕ} {at : ℕ} {a b : List Piece} {rs : List (List Piece)} → Stand s at (a ∷ b ∷ rs)
    → RecordRead s at a × RecordRead s (end_of s at) b × Stand s (end_of s (end_of s at)) rs
three_records (stand_more x (stand_more y more)) = (x, y, more)

objects_count : (n : ℕ) (ts : List Item) → length (items_pieces n ts) ≡ length ts
unfolding items_pieces
objects_count n [] = refl
objects_count n (t ∷ ts) = ap suc (objects_count (n + 1) ts)

pub held_framed : (c : Chart) → Fits c → frame_of (held_of c) ≡ Ok (record_count c)
unfolding records_of
held_framed c fit =
    file_framed first_record first_is (dsid_pieces c) (dspm_pieces c ∷ items_pieces 3 c.items) fit.each
    ∙ ap Ok (let e = objects_count 3 c.items in omega arith)

pub held_stands : (c : Chart) → Fits c → Standing (held_of c) c
unfolding records_of record_at
held_stands c fit =
    let p = three_records (file_stands first_record first_is (dsid_pieces c) (dspm_pieces c ∷ items_pieces 3 c.items) fit.each) in
    record { dsid = p.0; dspm = p.1; items = p.2 }

module _ (s : List ℕ) (c : Chart) (good : GoodChart c) (few : record_count c ≤ 65536) (st : Standing s c) where
  dsid_seen : pieces_at s (record_at s 1) ≡ dsid_pieces c
  dsid_seen = fields_read (dsid_pieces c) st.dsid

  dspm_seen : pieces_at s (record_at s 2) ≡ dspm_pieces c
  dspm_seen = fields_read (dspm_pieces c) st.dspm

  -- a number of DSSI
  dssi_seen : (p k : ℕ) → p + k ≤ 35 → num_at s ((field_at s (record_at s 1) 2).start + p) k ≡ num_at (dssi c good few) p k
  unfolding dsid_pieces
  dssi_seen p k h = number_seen s (record_at s 1) (dsid_pieces c) 2 (piece DSSI []) p k dsid_seen (omega arith) (let l = (dssi_is c good few).long in omega arith)

  aall_seen : aall_at s (record_at s 1) ≡ c.header.aall
  unfolding aall_at
  aall_seen = sym (num_one s ((field_at s (record_at s 1) 2).start + 1)) ∙ dssi_seen 1 1 (omega arith) ∙ num_one (dssi c good few) 1 ∙ (dssi_is c good few).aall_is

  nall_seen : nall_at s (record_at s 1) ≡ c.header.nall
  unfolding nall_at
  nall_seen = sym (num_one s ((field_at s (record_at s 1) 2).start + 2)) ∙ dssi_seen 2 1 (omega arith) ∙ num_one (dssi c good few) 2 ∙ (dssi_is c good few).nall_is

  pub records_fine : records_fault (suc (suc (length c.items))) false first_marks s 1 (record_at s 1) first_state ≡ fine
  unfolding records_fault passed_state next_stage record_at
  records_fine =
      let a = record_at s 1 in
      let b = record_at s 2 in
      let s1 = passed_state false s a first_state in
      rw (
        laid_seen false 0 first_marks s a (dsid_pieces c) dsid_seen (laid_dsid c good few),
        values_seen false 0 0 s a (dsid_pieces c) dsid_seen (valued_dsid c good few),
        laid_seen false 1 first_marks s b (dspm_pieces c) dspm_seen (laid_dspm c good few),
        values_seen false (aall_at s a) (nall_at s a) s b (dspm_pieces c) dspm_seen (valued_dspm c good few (aall_at s a) (nall_at s a)),
      )
      (objects_fine c.header.aall c.header.nall 3 3 (record_at s 3) s (passed_state false s b s1) first_declares good.items st.items due_any aall_seen nall_seen)

  items_are : items_from (length c.items) s (record_at s 3) ≡ c.items
  items_are = objects_back c.header.aall c.header.nall 3 (record_at s 3) s good.items st.items

  pub chart_back : chart_of s (record_count c) ≡ c
  unfolding chart_of held_items header_of dsid_pieces dspm_pieces piece_of
  chart_back =
      let less : 3 + length c.items - 3 ≡ length c.items = omega arith in
      let d : content_at s (record_at s 1) 1 ≡ dsid_bytes c.header.dsid =
      ap (λ (x : Piece). x.content) (piece_seen s (record_at s 1) (dsid_pieces c) 1 (piece DSID []) dsid_seen (omega arith)) in
      let p : content_at s (record_at s 2) 1 ≡ c.header.dspm =
      ap (λ (x : Piece). x.content) (piece_seen s (record_at s 2) (dspm_pieces c) 1 (piece DSPM []) dspm_seen (omega arith)) in
      rw (less, d, good.dsid_back, p, aall_seen, nall_seen, items_are, ordered_stays good.items)

  pub counts_good_lem : counts_good s (record_count c) ≡ true
  unfolding counts_good dssi_count tally_in
  counts_good_lem =
      let ts = c.items in
      let r = dssi_is c good few in
      let less : 3 + length ts - 3 ≡ length ts = omega arith in
      let named : (rcnm : ℕ) → count_of (counts.of_name rcnm) (length ts) s (record_at s 3) ≡ count_in (of_name rcnm) ts =
      λ rcnm. objects_counted (counts.of_name rcnm) (of_name rcnm) (name_like rcnm) c.header.aall c.header.nall 3 (record_at s 3) s good.items st.items in
      let classed : (in_range : ℕ → Bool) → count_of (counts.of_class in_range) (length ts) s (record_at s 3) ≡ count_in (of_class in_range) ts =
      λ in_range. objects_counted (counts.of_class in_range) (of_class in_range) (class_like in_range) c.header.aall c.header.nall 3 (record_at s 3) s good.items
      st.items in
      rw (
        less,
        classed is_meta,
        classed is_geo,
        classed is_collection,
        named 110,
        named 120,
        named 130,
        eq-eqb _ _ (dssi_seen 3 4 (omega arith) ∙ r.meta_is),
        eq-eqb _ _ (dssi_seen 11 4 (omega arith) ∙ r.geo_is),
        eq-eqb _ _ (dssi_seen 15 4 (omega arith) ∙ r.collection_is),
        eq-eqb _ _ (dssi_seen 19 4 (omega arith) ∙ r.isolated_is),
        eq-eqb _ _ (dssi_seen 23 4 (omega arith) ∙ r.connected_is),
        eq-eqb _ _ (dssi_seen 27 4 (omega arith) ∙ r.edges_is),
      )

  pub names_once : twice_of false s (record_count c) ≡ record { index = 0; offset = 0 }
  unfolding twice_of first_twice first_item
  names_once =
      let less : 3 + length c.items - 3 ≡ length c.items = omega arith in
      let start : record_at s 0 ≡ 0 = sym (at_start s) in
      rw (less, items_are, objects_once 3 [] below_none good.items) (ap (λ (p : ℕ). record { index = 0; offset = p }) start)

-- what a chart's held form is: framed, without a refusal of codes 4 to 8, the same chart, and its own held form
pub record HeldRead (c : Chart) : Type 0 where
  pub framed : frame_of (held_of c) ≡ Ok (record_count c)
  pub read : read_fault false (held_of c) (record_count c) ≡ fine
  pub once : twice_of false (held_of c) (record_count c) ≡ record { index = 0; offset = 0 }
  pub counted : counts_good (held_of c) (record_count c) ≡ true
  pub back : chart_of (held_of c) (record_count c) ≡ c
  pub again : held_of (chart_of (held_of c) (record_count c)) ≡ held_of c
  pub items : items_from (length c.items) (held_of c) (record_at (held_of c) 3) ≡ c.items

pub reads_back : (c : Chart) → GoodChart c → Fits c → HeldRead c
unfolding read_fault
reads_back c good fit =
    let s = held_of c in
    let st = held_stands c fit in
    let marks : described_of s ≡ first_marks = first_described (records_bytes (records_of c)) in
    let less : 3 + length c.items - 1 ≡ suc (suc (length c.items)) = omega arith in
    record {
      framed = held_framed c fit;
      read = rw (marks, less) (records_fine s c good fit.few st);
      once = names_once s c good fit.few st;
      counted = counts_good_lem s c good fit.few st;
      back = chart_back s c good fit.few st;
      again = ap held_of (chart_back s c good fit.few st);
      items = objects_back c.header.aall c.header.nall 3 (record_at s 3) s good.items st.items;
    }
