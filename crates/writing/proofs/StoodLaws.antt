-- An item whose record was written can be read where it stands and be copied from there, even if its record is longer than the leader can say:
-- an edited record in a work area. Assumes nothing.
use Prim.Native.Nat.{ℕ, ◌≤◌}
use mathlib.Core.Bool.{false}
use mathlib.Core.List.{List}
use mathlib.Core.Path.{◌≡◌, ◌∙◌}
use native.Mathlib.Omega.{arith}
use lib.ListN.{length}
use Rattle.octets.specs.Area.{Has}
use Rattle.iso8211.specs.Field.{FieldsIn}
use Rattle.records.specs.Premises.{pieces_at}
use Rattle.records.specs.Written.{record_bytes, size_of}
use Rattle.records.proofs.WrittenLaws.{loose_read, loose_pieces, few_loose}
use Rattle.items.specs.Item.{Item}
use Rattle.itemfields.specs.Fields.{item_pieces, vector_pieces, feature_pieces}
use Rattle.itemfields.proofs.ViewLaws.{values_seen}
use Rattle.itemfields.proofs.FieldsLaws.{vector_back, feature_back, valued_vector, valued_feature}
use Rattle.itemfields.proofs.ItemLaws.{vector_few, feature_few, vector_laid, vector_known, feature_laid, feature_known}
use Rattle.header.proofs.FirstLaws.{first_declares}
use Rattle.held.specs.Good.{Good}
use Rattle.held.specs.Good.Good.{a_vector, a_feature}
use Rattle.held.proofs.FileLaws.{vector_pieces_lem, feature_pieces_lem}
use Rattle.itemrows.specs.Plain.{Stood}
use Rattle.writing.proofs.WritableLaws.{writable}

-- its fields are few
few : {aall nall : ℕ} (n : ℕ) (t : Item) → Good aall nall t → (1 ≤ length (item_pieces n t)) × (length (item_pieces n t) ≤ 8)
few n t (a_vector v) = rw (vector_pieces_lem n t v) (let f = vector_few n t in (omega arith, omega arith))
few n t (a_feature g) = rw (feature_pieces_lem n t g) (let f = feature_few n t in (omega arith, omega arith))

-- a record with its fields
pub stood_pieces : {aall nall : ℕ} (n : ℕ) (t : Item) {s : List ℕ} {at : ℕ} → Good aall nall t → FieldsIn s at → pieces_at s at ≡ item_pieces n t → Stood s at t
stood_pieces {aall} {nall} n t {s} {at} (a_vector v) inside seen =
    let is : pieces_at s at ≡ vector_pieces n t = seen ∙ vector_pieces_lem n t v in
    let fine = values_seen false aall nall s at (vector_pieces n t) is (valued_vector n t v) in
    record {
      able = writable aall nall s at (vector_laid s at n t inside v is first_declares) (vector_known s at n t inside v is first_declares) fine;
      same = vector_back t v s at n is;
    }
stood_pieces {aall} {nall} n t {s} {at} (a_feature f) inside seen =
    let is : pieces_at s at ≡ feature_pieces n t = seen ∙ feature_pieces_lem n t f in
    let fine = values_seen false aall nall s at (feature_pieces n t) is (valued_feature n t f) in
    record {
      able = writable aall nall s at (feature_laid s at n t inside f is first_declares) (feature_known s at n t inside f is first_declares) fine;
      same = feature_back t f s at n is;
    }

-- a record as it was written
pub stood : {aall nall : ℕ} (n : ℕ) (t : Item) {s : List ℕ} {at : ℕ} → Good aall nall t → size_of (item_pieces n t) ≤ 300000
    → Has s at (record_bytes (item_pieces n t)) → Stood s at t
stood n t good small has =
    let f = few n t good in
    let read = loose_read (item_pieces n t) (few_loose (item_pieces n t) f.0 f.1 small) has in
    stood_pieces n t good read.inside (loose_pieces (item_pieces n t) read)
