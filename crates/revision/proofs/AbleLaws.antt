-- Each item of the result is one that the code can take: its records stand where its words say. Assumes nothing.
use Prim.Native.Nat.{ℕ, ◌-◌, ◌≤◌}
use mathlib.Core.Bool.{Bool, true, false, cond}
use mathlib.Core.List.{List, [], ◌∷◌}
use mathlib.Core.Path.{◌≡◌, sym, ◌∙◌}
use native.Mathlib.Omega.{arith}
use lib.Dec.{eqb}
use Rattle.words.specs.Order.{sorted}
use Rattle.iso8211.specs.File.{record_at}
use Rattle.items.specs.Identity.{ruin_at}
use Rattle.items.specs.Word.{name_of, mark_of, marked_offset}
use Rattle.names.specs.NameWords.{name_words, items_at}
use Rattle.items.specs.Item.{item_at}
use Rattle.merge.specs.Places.{joined, single, double, places_from, places_of}
use Rattle.merge.specs.Files.{RecordOf}
use Rattle.merge.specs.Sited.{Sited, AllSited, AllInsert}
use Rattle.merge.specs.Sited.AllSited.{sited_none, sited_more}
use Rattle.merge.specs.Sited.AllInsert.{insert_none, insert_more}
use Rattle.merge.specs.declared.walk.At.{At}
use Rattle.changes.specs.Change.{amendment_at, change_of}
use Rattle.changes.specs.Amend.{amendments_fault}
use Rattle.changes.specs.Updated.{amended}
use Rattle.resultitems.specs.Result.{object_by, changed_by, object_of}
use Rattle.resultitems.specs.Able.{Able, AllAble}
use Rattle.resultitems.specs.Able.AllAble.{able_none, able_more}
use Rattle.result.proofs.WordedLaws.{sited_worded}
use Rattle.revision.specs.Following.{Following, Small}
use Rattle.revision.proofs.StandLaws.{stand_kept, stand_new, stand_changed}
use Rattle.layout.specs.General.{aall_at, nall_at}

-- ---- an item is modified once at most
pub data AllOnce : List At → Type 0 where
  once_none : AllOnce []
  once_more : {p : At} {ps : List At} → p.change ≤ 1 → AllOnce ps → AllOnce (p ∷ ps)

once_either : (z : Bool) {l k : List At} → AllOnce l → AllOnce k → AllOnce (cond z l k)
once_either true a b = a
once_either false a b = b

once_joined : (ws ms : List ℕ) → AllOnce (joined single double ws ms)
unfolding joined
once_joined [] ms = once_none
once_joined (w ∷ ws) [] = once_more {p = single w} (omega arith) (once_joined ws [])
once_joined (w ∷ ws) (m ∷ ms) =
    once_either (eqb (name_of w) (name_of m)) (once_more {p = double w m} (omega arith) (once_joined ws ms)) (once_more {p = single w} (omega arith) (once_joined ws (m ∷ ms)))

pub once_places : (work : List ℕ) (end count edits : ℕ) → AllOnce (places_of work end count edits)
unfolding places_of places_from
once_places work end count edits = once_joined _ _

-- ---- the items
module _ {cell : List ℕ} {n : ℕ} {update : List ℕ} {m : ℕ} (f : Following cell n update m) (small : Small cell update)
    (none : (amendments_fault (items_at cell (sorted (name_words false cell n))) 2 (change_of update m).amendments).code ≡ 0) where
  changed_object : (p : At) → mark_of p.word ≡ 0 → p.change ≡ 1 → object_of cell update p ≡ amended (amendment_at update (marked_offset p.by))
      (item_at cell (marked_offset p.word))
  unfolding object_by changed_by
  changed_object p plain e = rw (e, plain)

  able : (p : At) → Sited (RecordOf false cell n) (RecordOf true update m) cell update p → (mark_of p.word ≡ 1 → ruin_at update (marked_offset p.word) ≡ 1) → p.change ≤ 1
      → Able cell update p
  able p sited insert one = record {
    worded = sited_worded (record { low = small.old }) (record { low = small.new }) sited one;
    one = one;
    kept = λ e plain. stand_kept f small (marked_offset p.word) (sited.plain plain).is;
    new = λ e mark. stand_new f small (marked_offset p.word) (sited.mark mark).is (insert mark);
    changed = λ (e : p.change ≡ 1).
        let plain = sited.held e in
        let old = sited.plain plain in
        let new = sited.by e in
        let is = stand_changed f small none (marked_offset p.word) (marked_offset p.by) old.is new.is (sym old.name ∙ sym (sited.same e) ∙ new.name)
        (sited.edit e) in
        record {
          held = plain;
          edit = is.editable;
          aall = aall_at cell (record_at cell 1);
          nall = nall_at cell (record_at cell 1);
          good = rw (changed_object p plain e) is.good;
        };
  }

  pub all_able : (ps : List At) → AllSited (RecordOf false cell n) (RecordOf true update m) cell update ps → AllInsert update ps → AllOnce ps → AllAble cell update ps
  all_able [] sited_none insert_none once_none = able_none
  all_able (p ∷ ps) (sited_more sited rest) (insert_more insert more) (once_more one all) = able_more (able p sited insert one) (all_able ps rest more all)
