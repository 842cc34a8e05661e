-- What an update makes of a chart. Assumes nothing.
use Rattle.std.specs.Prelude.{◌+◌}
use Rattle.items.specs.Item.{Item, item_name}
use Rattle.header.specs.Dsid.{revised}
use Rattle.held.specs.Chart.{Header, Chart}
use Rattle.edits.specs.Lists.{lists_edited}
use Rattle.merge.specs.Update as merge
use Rattle.changes.specs.Change.{Amendment, edit_of, Change}

-- "The result keeps DSID, save UPDN, and UADT and ISDT, which become the update's ISDT"
unfoldable pub updated_header : Header → Change → Header
updated_header h u = record {
  dsid = revised h.dsid u.dsid;
  aall = h.aall;
  nall = h.nall;
  dspm = h.dspm;
}

-- a modify raises RVER by 1 and edits the lists; all else of the object stays
unfoldable pub amended : Amendment → Item → Item
amended a t = record {
  rcnm = t.rcnm;
  rcid = t.rcid;
  version = t.version + 1;
  prim = t.prim;
  grup = t.grup;
  objl = t.objl;
  foid = t.foid;
  lists = lists_edited (edit_of a) t.lists;
}

-- an insert brings the record's own object
abbrev pub by_amendment : merge.Change Item Amendment
by_amendment = record {
  key = item_name;
  name = λ (a : Amendment). item_name a.object;
  ruin = λ (a : Amendment). a.ruin;
  made = λ (a : Amendment). a.object;
  edit = amended;
}

-- the records of the update, one after the other, on what is held
unfoldable pub updated : Chart → Change → Chart
updated c u = record { header = updated_header c.header u; items = merge.result by_amendment c.items u.amendments }
