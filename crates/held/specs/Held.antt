-- The held form of a chart: document 01's section of that name. Assumes nothing.
use Rattle.std.specs.Prelude.{ℕ, ◌+◌, Bool, cond, ◌&&◌, List, [], ◌∷◌, ◌++◌, eqb}
use Rattle.octets.specs.Number.{bytes_of}
use Rattle.table.specs.Table.{first, DSID, DSSI, DSPM}
use Rattle.values.specs.Class.{is_geo, is_meta, is_collection}
use Rattle.counted.specs.declared.counts.Tally.{Tally}
use Rattle.records.specs.Pieces.{Piece}
use Rattle.records.specs.Written.{records_bytes}
use Rattle.items.specs.Item.{Item}
use Rattle.itemfields.specs.Fields.{piece, item_pieces}
use Rattle.header.specs.First.{first_record}
use Rattle.header.specs.Dsid.{dsid_bytes}
use Rattle.header.specs.Dssi.{dssi_bytes}
use Rattle.held.specs.Chart.{Chart}

-- ---- "true DSSI counts"
unfoldable pub count_in : (Item → Bool) → List Item → ℕ
count_in such [] = 0
count_in such (t ∷ ts) = cond (such t) 1 0 + count_in such ts

-- vectors of this class
unfoldable pub of_name : ℕ → Item → Bool
of_name rcnm t = eqb t.rcnm rcnm

-- features of an OBJL in this range
unfoldable pub of_class : (ℕ → Bool) → Item → Bool
of_class within t = eqb t.rcnm 100 && within t.objl

unfoldable pub tally_in : List Item → Tally
tally_in ts = record {
  meta = count_in (of_class is_meta) ts;
  geo = count_in (of_class is_geo) ts;
  collection = count_in (of_class is_collection) ts;
  isolated = count_in (of_name 110) ts;
  connected = count_in (of_name 120) ts;
  edges = count_in (of_name 130) ts;
}

-- ---- the records, each as its fields; "0001 counts from 1"
unfoldable pub dsid_pieces : Chart → List Piece
dsid_pieces c =
    piece first (bytes_of 2 1)
    ∷ piece DSID (dsid_bytes c.header.dsid)
    ∷ piece DSSI (dssi_bytes c.header.aall c.header.nall (tally_in c.items))
    ∷ []

unfoldable pub dspm_pieces : Chart → List Piece
dspm_pieces c = piece first (bytes_of 2 2) ∷ piece DSPM c.header.dspm ∷ []

-- the vectors and features, the first with the running number n
unfoldable pub items_pieces : ℕ → List Item → List (List Piece)
items_pieces n [] = []
items_pieces n (t ∷ ts) = item_pieces n t ∷ items_pieces (n + 1) ts

-- those behind record 0
unfoldable pub records_of : Chart → List (List Piece)
records_of c = dsid_pieces c ∷ dspm_pieces c ∷ items_pieces 3 c.items

-- ---- "Record 0 is one fixed string .. Then the cell's records"
abbrev pub held_of : Chart → List ℕ
held_of c = first_record ++ records_bytes (records_of c)
