-- The limits as a test and as a proposition are one. Assumes nothing.
use Prim.Native.Nat.{ℕ, ◌+◌, ◌≤◌}
use mathlib.Core.Bool.{true, false}
use mathlib.Core.List.{List, [], ◌∷◌}
use mathlib.Core.Logic.{⊎_elim}
use mathlib.Core.Path.{◌≡◌}
use native.Mathlib.Omega.{arith}
use lib.ListN.{length}
use lib.Dec.{leb}
use borrow.Author.Tests.{le-leb, leb-true}
use Rattle.octets.proofs.Cases.{true_or_false}
use Rattle.octets.proofs.Tests.{all3}
use Rattle.records.specs.Pieces.{Piece}
use Rattle.records.specs.Written.{AllFit}
use Rattle.records.specs.Written.AllFit.{fit_none, fit_more}
use Rattle.items.specs.Item.{is_feature, Item}
use Rattle.itemfields.specs.Fields.{item_pieces, feature_pieces, vector_pieces}
use Rattle.held.specs.Chart.{Chart}
use Rattle.held.specs.Held.{items_pieces, dsid_pieces, dspm_pieces, records_of, held_of}
use Rattle.held.specs.Limits.{longest_of, record_count, fits, Fits}

-- ---- every record has a field
object_some : (n : ℕ) (t : Item) → 1 ≤ length (item_pieces n t)
unfolding item_pieces feature_pieces vector_pieces
object_some n t =
    ⊎_elim (λ (e : is_feature t.rcnm ≡ true). rw e (omega arith)) (λ (e : is_feature t.rcnm ≡ false). rw e (omega arith)) (true_or_false (is_feature t.rcnm))

objects_fit : (n : ℕ) (ts : List Item) → longest_of (items_pieces n ts) ≤ 99999 → AllFit (items_pieces n ts)
unfolding longest_of items_pieces
objects_fit n [] h = fit_none
objects_fit n (t ∷ ts) h = fit_more {r = item_pieces n t} (record { some = object_some n t; small = omega arith }) (objects_fit (n + 1) ts (omega arith))

records_fit : (c : Chart) → longest_of (records_of c) ≤ 99999 → AllFit (records_of c)
unfolding longest_of records_of dsid_pieces dspm_pieces
records_fit c h =
    fit_more {r = dsid_pieces c} (record { some = omega arith; small = omega arith })
    (fit_more {r = dspm_pieces c} (record { some = omega arith; small = omega arith }) (objects_fit 3 c.items (omega arith)))

longest_fits : {rs : List (List Piece)} → AllFit rs → longest_of rs ≤ 99999
unfolding longest_of
longest_fits fit_none = omega arith
longest_fits (fit_more f more) = let a = f.small in let b = longest_fits more in omega arith

-- ---- both ways
pub fits_told : (c : Chart) → fits c ≡ true → Fits c
unfolding fits
fits_told c h =
    let p = all3 (leb (record_count c) 65536) (leb (longest_of (records_of c)) 99999) (leb (length (held_of c)) 5242880) h in
    record { few = leb-true (record_count c) 65536 p.0; each = records_fit c (leb-true _ _ p.1); short = leb-true (length (held_of c)) 5242880 p.2 }

pub fits_tested : (c : Chart) → Fits c → fits c ≡ true
unfolding fits
fits_tested c f =
    rw (le-leb (record_count c) 65536 f.few, le-leb (longest_of (records_of c)) 99999 (longest_fits f.each), le-leb (length (held_of c)) 5242880 f.short)
