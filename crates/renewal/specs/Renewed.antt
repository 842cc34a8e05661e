-- The result of an update as it is written, and what is known before. Nothing here need be believed: it is shown to be what `changes` says.
-- Assumes nothing.
use Rattle.std.specs.Prelude.{ℕ, List}
use Rattle.iso8211.specs.File.{record_at}
use Rattle.layout.specs.Record.{content_at}
use Rattle.items.specs.Item.{Item}
use Rattle.header.specs.Dsid.{dsid_of, revised}
use Rattle.held.specs.Chart.{Header, header_of, Chart}
use Rattle.held.specs.Held.{tally_in}
use Rattle.resultitems.specs.Items.{Items}
use Rattle.revisedfront.specs.Front.{Fronted, fronts_of, front_bytes}

-- the cell's header, its DSID revised by that of the update
unfoldable pub revised_header : List ℕ → List ℕ → Header
revised_header cell update = record {
  dsid = revised (header_of cell).dsid (dsid_of (content_at update (record_at update 1) 1));
  aall = (header_of cell).aall;
  nall = (header_of cell).nall;
  dspm = (header_of cell).dspm;
}

-- the result of these objects
abbrev pub renewed : List ℕ → List ℕ → List Item → Chart
renewed cell update os = record { header = revised_header cell update; items = os }

-- its records 0 to 2, with its true counts
unfoldable pub front_of : List ℕ → List ℕ → List Item → List ℕ
front_of cell update os = front_bytes cell update (fronts_of cell update) (tally_in os)

-- a cell and an update whose result can be written: its items stand in the work area
pub record Renewing (cell update work : List ℕ) (end count edits : ℕ) : Type 0 where
  pub front : Fronted cell update
  pub items : Items cell update work end count edits
