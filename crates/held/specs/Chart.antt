-- A chart as a value: what a readable cell means. Assumes nothing.
use Rattle.std.specs.Prelude.{ℕ, List}
use Rattle.iso8211.specs.File.{record_at}
use Rattle.layout.specs.Record.{content_at}
use Rattle.items.specs.Item.{Item}
use Rattle.names.specs.Held.{held_items}
use Rattle.header.specs.Dsid.{Dsid, dsid_of}
use Rattle.layout.specs.General.{aall_at, nall_at}

-- what DSID, DSSI and DSPM say; DSSI's counts are the chart's own
pub record Header : Type 0 where
  pub dsid : Dsid
  pub aall : ℕ
  pub nall : ℕ
  pub dspm : List ℕ

-- a header, and the vectors and features in held order
pub record Chart : Type 0 where
  pub header : Header
  pub items : List Item

-- "Cell: 0; then 0001 DSID DSSI; then 0001 DSPM; then vectors; then features": DSID and DSPM are field 1 of their records
unfoldable pub header_of : List ℕ → Header
header_of s = record {
  dsid = dsid_of (content_at s (record_at s 1) 1);
  aall = aall_at s (record_at s 1);
  nall = nall_at s (record_at s 1);
  dspm = content_at s (record_at s 2) 1;
}

-- what a readable cell of n records means
unfoldable pub chart_of : List ℕ → ℕ → Chart
chart_of s n = record { header = header_of s; items = held_items s n }
