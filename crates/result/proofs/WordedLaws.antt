-- Files are bytes, so the words of the result have the ranks of its items, and the ends of its edges fit their notes. Assumes nothing.
use Prim.Native.Nat.{ℕ, ◌+◌, ◌-◌, ◌≤◌}
use mathlib.Core.List.{List, ◌++◌}
use mathlib.Core.Logic.{⊎_elim}
use mathlib.Core.Option.{Option, none, some}
use mathlib.Core.Path.{◌≡◌}
use native.Mathlib.Omega.{arith}
use lib.ListN.{take, drop}
use borrow.Author.Tests.{eq-eqb, ne_eqb}
use Rattle.octets.proofs.Cases.{eq_or_ne}
use Rattle.table.specs.Table.{VRPT}
use Rattle.fieldvalue.specs.Value.{is_attributes}
use Rattle.items.specs.Identity.{rcnm_at, rank_of, name_at}
use Rattle.items.specs.Item.{list_of, Item, item_at}
use Rattle.items.proofs.KindLaws.{vrpt_list}
use Rattle.names.proofs.HeldLaws.{rcid_small, last_feature}
use Rattle.topology.specs.Notes.{Worded}
use Rattle.topology.proofs.BytesLaws.{Bytes, AllBytes, all_take, all_drop, all_join, entries_bytes, node_few}
use Rattle.topology.proofs.ReachLaws.{name_rank}
use Rattle.edits.specs.Control.{Control, edited, edited_by, gone}
use Rattle.edits.specs.Lists.{Edit, list_edited, control_of, lists_edited}
use Rattle.items.specs.Word.{mark_of, marked_offset}
use Rattle.merge.specs.Sited.{Sits, Sited}
use Rattle.merge.specs.declared.walk.At.{At}
use Rattle.changes.specs.Change.{Amendment, amendment_at, edit_of}
use Rattle.changes.specs.Updated.{amended}
use Rattle.resultitems.specs.Result.{object_by, changed_by, object_of}

-- ---- an edit of lists of bytes brings bytes
edited_bytes : (o : Option Control) (held brought : List (List ℕ)) → AllBytes held → AllBytes brought → AllBytes (list_edited o held brought)
unfolding list_edited edited_by edited
edited_bytes none held brought h b = h
edited_bytes (some c) held brought h b =
    all_join (take (c.index - 1) held) (brought ++ drop (c.index - 1 + gone c) held) (all_take (c.index - 1) held h)
    (all_join brought (drop (c.index - 1 + gone c) held) b (all_drop (c.index - 1 + gone c) held h))

vrpt_edited : (u : Edit) (held : ℕ → List (List ℕ)) → AllBytes (held VRPT) → AllBytes (u.lists VRPT) → AllBytes (lists_edited u held VRPT)
unfolding lists_edited is_attributes
vrpt_edited u held h b = edited_bytes (control_of u held VRPT) (held VRPT) (u.lists VRPT) h b

vrpt_bytes : (s : List ℕ) (at : ℕ) → Bytes s → AllBytes ((item_at s at).lists VRPT)
unfolding list_of
vrpt_bytes s at bytes = rw vrpt_list (entries_bytes s at VRPT bytes)

-- ---- a record's object
sits_worded : {such : ℕ → Type 0} {s : List ℕ} {w : ℕ} → Bytes s → Sits such s w → Worded (item_at s (marked_offset w)) w
unfolding name_at
sits_worded {such} {s} {w} bytes sits = record {
  name = sits.name;
  rank = name_rank (item_at s (marked_offset w)) w sits.name (rcid_small s (marked_offset w) bytes.low);
  class = λ (e : rank_of (rcnm_at s (marked_offset w)) ≡ 3). last_feature (rcnm_at s (marked_offset w)) e sits.known.class;
  few = node_few 2 _ (vrpt_bytes s (marked_offset w) bytes);
}

-- what the update makes of it has its name and class
amended_worded : (a : Amendment) (t : Item) (w : ℕ) → AllBytes (t.lists VRPT) → AllBytes (a.object.lists VRPT) → Worded t w → Worded (amended a t) w
unfolding amended
amended_worded a t w held brought worded = record {
  name = worded.name;
  rank = worded.rank;
  class = worded.class;
  few = node_few 2 _ (vrpt_edited (edit_of a) t.lists held brought);
}

-- ---- an item of the result
module _ {of_cell of_update : ℕ → Type 0} {cell update : List ℕ} {p : At} (low : Bytes cell) (come : Bytes update) (sited : Sited of_cell of_update cell update p) where
  single_worded : Worded (object_by cell update p.word) p.word
  unfolding object_by
  single_worded =
      ⊎_elim (λ (e : mark_of p.word ≡ 1). rw (eq-eqb (mark_of p.word) 1 e) (sits_worded come (sited.mark e)))
      (λ (ne : mark_of p.word ≡ 1 → ⊥). rw (ne_eqb (mark_of p.word) 1 ne) (sits_worded low (sited.plain (omega arith)))) (eq_or_ne (mark_of p.word) 1)

  changed_worded : p.change ≡ 1 → Worded (changed_by update p.by (object_by cell update p.word)) p.word
  unfolding changed_by object_by
  changed_worded e =
      let z : mark_of p.word ≡ 0 = sited.held e in
      let ne : mark_of p.word ≡ 1 → ⊥ = λ (f : mark_of p.word ≡ 1). omega arith in
      rw (ne_eqb (mark_of p.word) 1 ne)
      (amended_worded (amendment_at update (marked_offset p.by)) (item_at cell (marked_offset p.word)) p.word (vrpt_bytes cell (marked_offset p.word) low)
      (vrpt_bytes update (marked_offset p.by) come) (sits_worded low (sited.plain z)))

  pub sited_worded : p.change ≤ 1 → Worded (object_of cell update p) p.word
  sited_worded one =
      ⊎_elim (λ (e : p.change ≡ 0). rw e single_worded)
      (λ (ne : p.change ≡ 0 → ⊥). rw (ne_eqb p.change 0 ne) (changed_worded (omega arith))) (eq_or_ne p.change 0)
