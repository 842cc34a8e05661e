-- The chart of a file of bytes is of bytes, and so is what an update of bytes makes of it: `cell_bytes`, `file_bytes`, `updated_bytes`. Assumes nothing.
use Prim.Native.Nat.{ℕ, zero, suc, ◌+◌, ◌-◌}
use mathlib.Core.List.{List}
use lib.Dec.{leb, eqb}
use Rattle.iso8211.specs.Record.{end_of}
use Rattle.iso8211.specs.Field.{field_at}
use Rattle.iso8211.specs.File.{record_at}
use Rattle.table.specs.Table.{row_of}
use Rattle.dataset.specs.Dsid.{updn_end}
use Rattle.layout.specs.Record.{content_at}
use Rattle.fieldvalue.specs.Value.{is_attributes}
use Rattle.attributes.specs.Attributes.{label_of, is_removal}
use Rattle.topology.proofs.BytesLaws.{AllBytes, entries_bytes}
use Rattle.topology.proofs.BytesLaws.AllBytes.{none, more}
use Rattle.items.specs.Item.{list_of, item_name, Item, item_at}
use Rattle.header.specs.Dsid.{dsid_of, revised}
use Rattle.names.specs.Names.{items_from}
use Rattle.names.specs.Held.{insert_by, order_by, held_order, held_items}
use Rattle.held.specs.Chart.{Chart, header_of, chart_of}
use Rattle.edits.specs.Lists.{Edit, control_of, lists_edited}
use Rattle.merge.specs.Update.{obeyed, result}
use Rattle.changes.specs.Change.{Amendment, edit_of, amendments_from, Change, change_of}
use Rattle.changes.specs.Updated.{updated_header, amended, by_amendment, updated}
use Rattle.changes.specs.Rules.{All}
use Rattle.changes.specs.Rules.All.{all_none, all_more}
use Rattle.demands.specs.Cell.{Bytes}
use Rattle.demands.specs.ByteChart.{ByteList, ByteDsid, ByteObject, ByteChart, ByteChange}
use Rattle.demands.proofs.AllLaws.{all_take, all_drop, all_cond, changes_all, edited_all, placed_all, without_all, changed_all}
use Rattle.demands.proofs.HeldBytes.{byte_list}
use Rattle.reader.specs.Reader.{count_in}
use Rattle.loader.specs.Admit.{cell_chart}
use Rattle.loader.specs.Apply.{changes_in, file_change, updated_by}

-- ---- a file of bytes
module _ (s : List ℕ) (bytes : Bytes s) where
  content_bytes : (at j : ℕ) → ByteList (content_at s at j)
  content_bytes at j = all_take ((field_at s at j).length - 1) (all_drop (field_at s at j).start (byte_list s bytes))

  dsid_bytes_lem : (at : ℕ) → ByteDsid (dsid_of (content_at s at 1))
  unfolding dsid_of
  dsid_bytes_lem at =
      let d = content_at s at 1 in
      let all = content_bytes at 1 in
      record {
        named = all_take 20 all;
        applied = all_take 8 (all_drop (updn_end d + 1) all);
        issued = all_take 8 (all_drop (updn_end d + 9) all);
        rest = all_drop (updn_end d + 17) all;
      }

  each_bytes : {es : List (List ℕ)} → AllBytes es → All ByteList es
  each_bytes none = all_none
  each_bytes (more {e = e} b rest) = all_more (byte_list e (record { small = b.low })) (each_bytes rest)

  object_bytes : (at : ℕ) → ByteObject (item_at s at)
  unfolding list_of
  object_bytes at = record { lists = λ k. all_cond (row_of k).list (each_bytes (entries_bytes s at k (record { low = bytes.small }))) all_none }

  objects_bytes : (n at : ℕ) → All ByteObject (items_from n s at)
  unfolding items_from
  objects_bytes zero at = all_none
  objects_bytes (suc n) at = all_more (object_bytes at) (objects_bytes n (end_of s at))

  amendments_bytes : (n at : ℕ) → All (λ (a : Amendment). ByteObject a.object) (amendments_from n s at)
  unfolding amendments_from
  amendments_bytes zero at = all_none
  amendments_bytes (suc n) at = all_more (object_bytes at) (amendments_bytes n (end_of s at))

-- held order
insert_bytes : (t : Item) {ts : List Item} → ByteObject t → All ByteObject ts → All ByteObject (insert_by item_name t ts)
unfolding insert_by
insert_bytes t b all_none = all_more b all_none
insert_bytes t b (all_more {e = u} h rest) = all_cond (leb (item_name t) (item_name u)) (all_more b (all_more h rest)) (all_more h (insert_bytes t b rest))

order_bytes : {ts : List Item} → All ByteObject ts → All ByteObject (held_order ts)
unfolding order_by
order_bytes all_none = all_none
order_bytes (all_more {e = t} h rest) = insert_bytes t h (order_bytes rest)

pub cell_bytes : (cell : List ℕ) → Bytes cell → ByteChart (cell_chart cell)
unfolding chart_of header_of held_items
cell_bytes cell bytes = record {
  dsid = dsid_bytes_lem cell bytes (record_at cell 1);
  dspm = content_bytes cell bytes (record_at cell 2) 1;
  items = order_bytes (objects_bytes cell bytes (count_in cell - 3) (record_at cell 3));
}

pub file_bytes : (file : List ℕ) → Bytes file → ByteChange (file_change file)
unfolding change_of
file_bytes file bytes = record { dsid = dsid_bytes_lem file bytes (record_at file 1); amendments = amendments_bytes file bytes (changes_in file - 2) (record_at file 2) }

-- ---- an update
edited_bytes : (u : Edit) (held : ℕ → List (List ℕ)) (k : ℕ) → All ByteList (u.lists k) → All ByteList (held k) → All ByteList (lists_edited u held k)
unfolding lists_edited
edited_bytes u held k new old = all_cond (is_attributes k) (changes_all label_of is_removal old new) (edited_all (control_of u held k) old new)

amended_bytes : (a : Amendment) → ByteObject a.object → (t : Item) → ByteObject t → ByteObject (amended a t)
unfolding amended
amended_bytes a b t h = record { lists = λ k. edited_bytes (edit_of a) t.lists k (b.lists k) (h.lists k) }

obeyed_bytes : (a : Amendment) {ts : List Item} → ByteObject a.object → All ByteObject ts → All ByteObject (obeyed by_amendment a ts)
unfolding obeyed
obeyed_bytes a b all =
    all_cond (eqb a.ruin 1) (placed_all item_name a.object b all)
    (all_cond (eqb a.ruin 2) (without_all item_name (item_name a.object) all) (changed_all item_name (item_name a.object) (amended a) (amended_bytes a b) all))

result_bytes : {ts : List Item} {us : List Amendment} → All ByteObject ts → All (λ (a : Amendment). ByteObject a.object) us → All ByteObject (result by_amendment ts us)
unfolding result
result_bytes all all_none = all
result_bytes {ts = ts} all (all_more {e = a} b rest) = result_bytes {ts = obeyed by_amendment a ts} (obeyed_bytes a b all) rest

change_bytes : (c : Chart) (u : Change) → ByteChart c → ByteChange u → ByteChart (updated c u)
unfolding updated updated_header revised
change_bytes c u b v = record {
  dsid = record { named = b.dsid.named; applied = v.dsid.issued; issued = v.dsid.issued; rest = b.dsid.rest };
  dspm = b.dspm;
  items = result_bytes b.items v.amendments;
}

pub updated_bytes : (c : Chart) (file : List ℕ) → Bytes file → ByteChart c → ByteChart (updated_by c file)
updated_bytes c file bytes b = change_bytes c (file_change file) b (file_bytes file bytes)
