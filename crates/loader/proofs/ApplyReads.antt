-- Apply's sixteen bytes read as the four numbers of its answer: none of them passes four bytes. Assumes nothing.
use Prim.Native.Nat.{ℕ, zero, suc, ◌+◌, ◌-◌, ◌≤◌}
use mathlib.Core.Bool.{Bool, true, false, cond, ◌&&◌}
use mathlib.Core.List.{List, [], ◌∷◌}
use mathlib.Core.Option.{Option, none, some}
use mathlib.Core.Path.{◌≡◌, refl, ap}
use native.Mathlib.Omega.{arith}
use lib.ListN.{length}
use lib.Dec.{eqb, ltb}
use Rattle.octets.specs.Number.{num_at}
use Rattle.iso8211.specs.Record.{end_of}
use Rattle.iso8211.specs.File.{record_at}
use Rattle.fieldparts.specs.Same.{same_list}
use Rattle.reader.specs.Reader.{cell_fault, update_fault}
use Rattle.items.specs.Item.{Item, item_name}
use Rattle.names.specs.Held.{held_items}
use Rattle.held.specs.Chart.{Header, Chart, chart_of}
use Rattle.edits.specs.InsertDelete.{insert_allowed}
use Rattle.merge.specs.Update as merge
use Rattle.changes.specs.Change.{Amendment, edit_of, Change, amendments_from, change_of}
use Rattle.changes.specs.Follow.{chart_name, follow_code}
use Rattle.changes.specs.Amend.{kinds_of, insert_code, identity_same, edit_allowed, modify_code, found_code, held_by, amendment_code, amendments_fault, change_fault, placed_in}
use Rattle.changes.specs.Updated.{by_amendment, updated}
use Rattle.verdict.specs.Verdict.{chart_topology}
use Rattle.loader.specs.Apply.{result_of, apply_of}
use Rattle.loader.proofs.ReadLaws.{held_length, cell_few, cond_least, items_few, small_work, small_held, update_few, small_opening}
use Rattle.answers.specs.declared.refusal.Refusal.{Refusal}
use Rattle.answers.specs.Sixteen.{answer_bytes}
use Rattle.answers.proofs.SmallLaws.{Few, few_more, few_made, few_cond, few_first, Small, small_filed, small_first, ReadsAs, bytes_read}

-- ---- how many records and objects there are
amendments_length : (n : ℕ) (s : List ℕ) (at : ℕ) → length (amendments_from n s at) ≡ n
unfolding amendments_from
amendments_length zero s at = refl
amendments_length (suc n) s at = ap suc (amendments_length n s (end_of s at))

cond_length : {A : Type 0} (b : Bool) (x y : List A) (m : ℕ) → length x ≤ m → length y ≤ m → length (cond b x y) ≤ m
cond_length true x y m h k = h
cond_length false x y m h k = k

-- ---- a record of an update brings one object at most
module _ {A : Type 0} (key : A → ℕ) where
  placed_length : (new : A) (l : List A) → length (merge.placed key new l) ≤ suc (length l)
  unfolding merge.placed
  placed_length new [] = omega arith
  placed_length new (a ∷ l) =
      let more = placed_length new l in
      cond_length (ltb (key a) (key new)) (a ∷ merge.placed key new l) (new ∷ a ∷ l) (suc (length (a ∷ l))) (omega arith) (omega arith)

  without_length : (n : ℕ) (l : List A) → length (merge.without key n l) ≤ length l
  unfolding merge.without
  without_length n [] = omega arith
  without_length n (a ∷ l) =
      let more = without_length n l in
      cond_length (eqb (key a) n) (merge.without key n l) (a ∷ merge.without key n l) (length (a ∷ l)) (omega arith) (omega arith)

  changed_length : (n : ℕ) (f : A → A) (l : List A) → length (merge.changed key n f l) ≡ length l
  unfolding merge.changed
  changed_length n f [] = refl
  changed_length n f (a ∷ l) = ap suc (changed_length n f l)

module _ {A U : Type 0} (by : merge.Change A U) where
  obeyed_length : (u : U) (l : List A) → length (merge.obeyed by u l) ≤ suc (length l)
  unfolding merge.obeyed
  obeyed_length u l =
      let gone = without_length by.key (by.name u) l in
      let kept = changed_length by.key (by.name u) (by.edit u) l in
      cond_length (eqb (by.ruin u) 1) _ _ (suc (length l)) (placed_length by.key (by.made u) l)
      (cond_length (eqb (by.ruin u) 2) _ _ (suc (length l)) (omega arith) (omega arith))

  result_length : (held : List A) (us : List U) → length (merge.result by held us) ≤ length held + length us
  unfolding merge.result
  result_length held [] = omega arith
  result_length held (u ∷ us) =
      let one = obeyed_length u held in let more = result_length (merge.obeyed by u held) us in omega arith

-- ---- codes 9 to 16
follow_least : (h : Header) (u : Change) → follow_code h u ≤ 22
unfolding follow_code
follow_least h u =
    cond_least (same_list (chart_name h.dsid) (chart_name u.dsid)) _ _ 22
    (cond_least (eqb u.dsid.edition h.dsid.edition) _ _ 22
    (cond_least (eqb u.dsid.number (h.dsid.number + 1)) _ _ 22
    (cond_least (eqb u.aall h.aall && eqb u.nall h.nall) 0 12 22 (omega arith) (omega arith)) (omega arith)) (omega arith)) (omega arith)

insert_least : (a : Amendment) → insert_code a ≤ 22
unfolding insert_code
insert_least a =
    cond_least (eqb a.object.version 1) _ _ 22 (cond_least (insert_allowed (kinds_of a.object.rcnm) (edit_of a)) 0 16 22 (omega arith) (omega arith)) (omega arith)

modify_least : (a : Amendment) (held : Item) → modify_code a held ≤ 22
unfolding modify_code
modify_least a held =
    cond_least (eqb a.object.version (held.version + 1)) _ _ 22
    (cond_least (identity_same a.object held) _ _ 22 (cond_least (edit_allowed a held) 0 16 22 (omega arith) (omega arith)) (omega arith)) (omega arith)

found_least : (a : Amendment) (held : Option Item) → found_code a held ≤ 22
unfolding found_code
found_least a none = cond_least (eqb a.ruin 1) _ _ 22 (insert_least a) (omega arith)
found_least a (some held) = cond_least (eqb a.ruin 1) _ _ 22 (omega arith) (modify_least a held)

amendments_few : (held : List Item) (k : ℕ) (us : List Amendment) → Few (k + length us) (amendments_fault held k us)
unfolding amendments_fault amendment_code
amendments_few held k [] = few_made 0 0 0 (omega arith) (omega arith)
amendments_few held k (a ∷ us) =
    few_first (few_made (amendment_code held a) k 0 (found_least a (held_by held (item_name a.object))) (omega arith))
    (few_more (omega arith) (amendments_few held (k + 1) us))

change_few : (c : Chart) (u : Change) → Few (2 + length u.amendments) (change_fault c u)
unfolding change_fault
change_few c u =
    few_first (few_made (follow_code c.header u) 1 0 (follow_least c.header u) (omega arith)) (amendments_few c.items 2 u.amendments)

placed_few : {m : ℕ} (s : List ℕ) (r : Refusal) → Few m r → Few m (placed_in s r)
unfolding placed_in
placed_few s r few =
    few_cond (eqb r.code 0) (few_made 0 0 0 (omega arith) (omega arith)) (few_made r.code r.index (record_at s r.index) few.code_few few.index_few)

change_placed : (cell : List ℕ) (n : ℕ) (update : List ℕ) (m : ℕ) → Few (m + 2) (placed_in update (change_fault (chart_of cell n) (change_of update m)))
unfolding change_of
change_placed cell n update m =
    let long = amendments_length (m - 2) update (record_at update 2) in
    placed_few update (change_fault (chart_of cell n) (change_of update m)) (few_more (omega arith) (change_few (chart_of cell n) (change_of update m)))

-- ---- codes 17 to 19 of the result: it holds no more than the cell's objects and the update's records
objects_few : (cell : List ℕ) (n : ℕ) (update : List ℕ) (m : ℕ) → length (result_of cell n update m).items ≤ n + m
unfolding updated chart_of change_of
objects_few cell n update m =
    let come = amendments_from (m - 2) update (record_at update 2) in
    let held = held_length cell n in
    let long = amendments_length (m - 2) update (record_at update 2) in
    let made = result_length by_amendment (held_items cell n) come in
    omega arith

result_few : (cell : List ℕ) (n : ℕ) (update : List ℕ) (m : ℕ) → Few (3 + (n + m)) (chart_topology (result_of cell n update m))
unfolding chart_topology
result_few cell n update m =
    let c = result_of cell n update m in
    let objects = objects_few cell n update m in
    few_more (omega arith) (items_few (num_at c.header.dspm 16 4) c.items)

-- ---- the answer's four numbers
pub apply_small : (cell update : List ℕ) (w o : ℕ) → Small (apply_of cell update w o)
unfolding apply_of
apply_small cell update w o =
    small_opening 1 cell _ (omega arith)
    (λ n held.
    small_opening 2 update _ (omega arith)
    (λ m come.
    small_first (small_work w (n + m) (omega arith))
    (small_first (small_filed 1 (cell_fault cell n) (omega arith) (cell_few cell n) (omega arith))
    (small_first (small_filed 2 (update_fault update m) (omega arith) (update_few update m) (omega arith))
    (small_first (small_filed 2 _ (omega arith) (change_placed cell n update m) (omega arith))
    (small_first (small_filed 3 _ (omega arith) (result_few cell n update m) (omega arith)) (small_held o (result_of cell n update m))))))))

-- "fills a 16-byte answer (code, file, record, number, each 4 bytes, low byte first)"
pub apply_reads : (cell update : List ℕ) (w o : ℕ) → ReadsAs (answer_bytes (apply_of cell update w o)) (apply_of cell update w o)
apply_reads cell update w o = bytes_read (apply_of cell update w o) (apply_small cell update w o)
