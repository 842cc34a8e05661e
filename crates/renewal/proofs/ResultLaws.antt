-- The held form of the result by its parts: how long it is, its longest record, its bytes. Assumes nothing.
use Prim.Native.Nat.{ℕ, ◌+◌, ◌≤◌, max}
use mathlib.Core.Bool.{Bool}
use mathlib.Core.List.{List, ◌∷◌, ◌++◌, append_assoc}
use mathlib.Core.Path.{◌≡◌, refl, sym, ap, ◌∙◌}
use native.Mathlib.Omega.{arith}
use lib.ListN.{length, length-append}
use Rattle.octets.specs.Area.{Wrote}
use Rattle.octets.proofs.AreaLaws.{wrote_join, wrote_as, wrote_length}
use Rattle.iso8211.specs.File.{record_at}
use Rattle.layout.specs.Record.{content_at}
use Rattle.counted.specs.declared.counts.Tally.{Tally}
use Rattle.records.specs.Pieces.{Piece}
use Rattle.records.specs.Written.{record_bytes, records_bytes}
use Rattle.items.specs.Item.{Item}
use Rattle.header.specs.First.{first_record}
use Rattle.held.specs.Chart.{header_of}
use Rattle.held.specs.Held.{tally_in, dsid_pieces, dspm_pieces, items_pieces, records_of, held_of}
use Rattle.held.specs.Limits.{longest_of, fits}
use Rattle.writing.specs.declared.all.Sizes.{Sizes}
use Rattle.fronts.specs.Front.{dsid_fields, dspm_fields, revised_in, dssi_in}
use Rattle.reissue.specs.Plan.{within_limits, Planned}
use Rattle.changes.specs.Change.{change_of}
use Rattle.changes.specs.Updated.{updated_header}
use Rattle.resultitems.specs.Items.{objects_in, written_by, most_by, AllSized}
use Rattle.revisedfront.specs.Front.{Found, front_bytes, FrontSized}
use Rattle.renewal.specs.Renewed.{revised_header, renewed, front_of}
use Rattle.revisedfront.specs.declared.front.Fronts.{Fronts}
use Rattle.resultitems.proofs.AllLaws.{objects_length}

-- ---- the result is that of `changes`, however many records the update has
pub renewed_is : (cell update : List ℕ) (m : ℕ) (os : List Item) → renewed cell update os ≡ record { header = updated_header (header_of cell) (change_of update m); items = os }
unfolding revised_header updated_header change_of
renewed_is cell update m os = refl

-- ---- its records, over the files
module _ (cell update : List ℕ) (os : List Item) where
  abbrev dsid : List Piece
  dsid = dsid_fields (revised_in cell (record_at cell 1) update (record_at update 1)) (dssi_in cell (record_at cell 1) (tally_in os))

  abbrev dspm : List Piece
  dspm = dspm_fields (content_at cell (record_at cell 2) 1)

  records_are : records_of (renewed cell update os) ≡ dsid ∷ dspm ∷ items_pieces 3 os
  unfolding records_of dsid_pieces dspm_pieces revised_header header_of
  records_are = refl

  bytes_are : records_bytes (records_of (renewed cell update os)) ≡ record_bytes dsid ++ (record_bytes dspm ++ written_by 3 os)
  unfolding records_bytes written_by
  bytes_are = ap records_bytes records_are

  held_parts : held_of (renewed cell update os) ≡ front_of cell update os ++ written_by 3 os
  unfolding front_of front_bytes
  held_parts =
      rw bytes_are
      (sym (append_assoc first_record (record_bytes dsid ++ record_bytes dspm) (written_by 3 os)
      ∙ ap (λ (x : List ℕ). first_record ++ x) (append_assoc (record_bytes dsid) (record_bytes dspm) (written_by 3 os))))

  held_length : length (held_of (renewed cell update os)) ≡ length (front_of cell update os) + length (written_by 3 os)
  held_length = ap length held_parts ∙ length-append (front_of cell update os) (written_by 3 os)

  -- ---- the plan
  module _ {front items : Sizes} (first : FrontSized cell update front) (rest : AllSized os items) where
    total_is : length (held_of (renewed cell update os)) ≡ front.sum + items.sum
    unfolding front_of
    total_is = held_length ∙ rw (← (first.sum_is (tally_in os)), ← rest.sum_is)

    longest_is : longest_of (records_of (renewed cell update os)) ≡ max front.most items.most
    unfolding longest_of most_by
    longest_is =
        let m = first.most_is (tally_in os) in
        let n = rest.most_is in
        ap longest_of records_are ∙ omega arith

    pub plan_told : (count most total : ℕ) (fit : Bool) → length os ≡ count → most ≡ max front.most items.most → total ≡ front.sum + items.sum
        → fit ≡ within_limits (3 + count) most total → Planned (renewed cell update os) (record { fits = fit; total = total })
    unfolding within_limits fits
    plan_told count most total fit few em et told = record { fits_is = told ∙ rw (few, longest_is, total_is, ← em, ← et); total_is = et ∙ sym total_is }

pub result_told : (cell update work : List ℕ) (end count edits most total : ℕ) (fit : Bool) (front items : Sizes) → FrontSized cell update front
    → AllSized (objects_in cell update work end count edits) items → most ≡ max front.most items.most → total ≡ front.sum + items.sum
    → fit ≡ within_limits (3 + count) most total
    → Planned (renewed cell update (objects_in cell update work end count edits)) (record { fits = fit; total = total })
result_told cell update work end count edits most total fit front items first rest em et told =
    plan_told cell update (objects_in cell update work end count edits) first rest count most total fit (objects_length cell update work end count edits) em et told

-- ---- records 0 to 2, with the counts that were taken
front_as : {cell update : List ℕ} {f : Fronts} → Found cell update f → (os : List Item) (t : Tally) → t ≡ tally_in os → front_bytes cell update f t ≡ front_of cell update os
unfolding front_of
front_as found os t counted = rw (counted, found.is)

module _ {cell update : List ℕ} {f : Fronts} (found : Found cell update f) (os : List Item) (t : Tally) (counted : t ≡ tally_in os) where
  pub fore_room : (n : ℕ) → length (front_of cell update os) ≤ n → length (front_bytes cell update f t) ≤ n
  fore_room n h = rw (front_as found os t counted) h

  pub fore_put : {a b : List ℕ} {r : ℕ} → Wrote a 0 (front_bytes cell update f t) b r → Wrote a 0 (front_of cell update os) b r
  fore_put w = wrote_as (front_of cell update os) (front_as found os t counted) w

-- ---- then the items
module _ (cell update : List ℕ) (os : List Item) where
  pub front_room : (n : ℕ) → length (held_of (renewed cell update os)) ≤ n → length (front_of cell update os) ≤ n
  front_room n h = omega (arith, held_length cell update os)

  pub items_room : {a b : List ℕ} {q : ℕ} → length (held_of (renewed cell update os)) ≤ length a → Wrote a 0 (front_of cell update os) b q
      → q + length (written_by 3 os) ≤ length b
  items_room h w = omega (arith, held_length cell update os, w.end, wrote_length w)

  pub result_put : {a b d : List ℕ} {q r : ℕ} → Wrote a 0 (front_of cell update os) b q → Wrote b q (written_by 3 os) d r → Wrote a 0 (held_of (renewed cell update os)) d r
  result_put w x = wrote_as (held_of (renewed cell update os)) (sym (held_parts cell update os)) (wrote_join w x)
