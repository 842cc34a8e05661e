-- A kind of the table has one tag. Assumes nothing.
use Prim.Native.Nat.{ℕ, suc, ◌+◌, ◌-◌, ◌≤◌, ◌<◌}
use mathlib.Core.Bool.{true, false, cond}
use mathlib.Core.List.{List, [], ◌∷◌}
use mathlib.Core.Logic.{◌⊎◌, ⊎_elim}
use mathlib.Core.Path.{◌≡◌, refl}
use native.Mathlib.Omega.{arith}
use lib.ListN.{length, get_or}
use lib.Dec.{eqb}
use borrow.Author.Tests.{eqb-true}
use Rattle.octets.proofs.Cases.{true_or_false}
use Rattle.table.specs.Text.{bytes}
use Rattle.table.specs.Table.{Row, table, row_of, among, as_number, kind_of, tag_of, VRPT, SG2D, SG3D, FFPT, FSPT}
use Rattle.items.proofs.KindLaws.{vrpt_list, sg2d_list, sg3d_list, ffpt_list, fspt_list}
use Rattle.spans.specs.Spans.{Tagged}

-- the row that a tag is found in has it
found_tag : (rows : List Row) (last : Row) (j t k : ℕ) → among rows j t ≡ k → j + length rows ≡ 18 → k < 18 → (j ≤ k) × (t ≡ as_number (bytes (get_or rows (k - j) last).tag) 0)
unfolding among
found_tag [] last j t k e all h = absurd (by (true_or_false (eqb t 808464433)) e)
  where
    by : (eqb t 808464433 ≡ true) ⊎ (eqb t 808464433 ≡ false) → cond (eqb t 808464433) 18 19 ≡ k → ⊥
    by c = ⊎_elim (λ (y : eqb t 808464433 ≡ true). rw y (λ (z : 18 ≡ k). omega arith)) (λ (n : eqb t 808464433 ≡ false). rw n (λ (z : 19 ≡ k). omega arith)) c
found_tag (r ∷ rows) last j t k e all h = by (found_tag rows last (suc j) t k) (true_or_false (eqb t (as_number (bytes r.tag) 0))) e
  where
    later : (suc j ≤ k) × (t ≡ as_number (bytes (get_or rows (k - suc j) last).tag) 0) → (j ≤ k) × (t ≡ as_number (bytes (get_or (r ∷ rows) (k - j) last).tag) 0)
    later (low, is) = let step : k - j ≡ suc (k - suc j) = omega arith in (omega arith, rw step is)

    by : (among rows (suc j) t ≡ k → suc j + length rows ≡ 18 → k < 18 → (suc j ≤ k) × (t ≡ as_number (bytes (get_or rows (k - suc j) last).tag) 0))
        → (eqb t (as_number (bytes r.tag) 0) ≡ true) ⊎ (eqb t (as_number (bytes r.tag) 0) ≡ false)
        → cond (eqb t (as_number (bytes r.tag) 0)) j (among rows (suc j) t) ≡ k → (j ≤ k) × (t ≡ as_number (bytes (get_or (r ∷ rows) (k - j) last).tag) 0)
    by rest c =
        ⊎_elim
        (λ (y : eqb t (as_number (bytes r.tag) 0) ≡ true).
        rw y (λ (z : j ≡ k). let none : k - j ≡ 0 = omega arith in (omega arith, rw none (eqb-true t (as_number (bytes r.tag) 0) y))))
        (λ (n : eqb t (as_number (bytes r.tag) 0) ≡ false). rw n (λ (z : among rows (suc j) t ≡ k). later (rest z (omega arith) h)))
        c

kind_tag : (t k : ℕ) → kind_of t ≡ k → k < 18 → t ≡ tag_of k
unfolding kind_of tag_of row_of table
kind_tag t k e h = let none : k - 0 ≡ k = omega arith in rw none at (found_tag table (row_of 18) 0 t k e refl h).1

-- ---- the five lists that topology takes
pub vrpt_tag : Tagged VRPT 1448235092
unfolding kind_of among tag_of row_of table as_number bytes
vrpt_tag = record { list = vrpt_list; is = refl; only = λ t e. kind_tag t VRPT e (omega arith) }

pub sg2d_tag : Tagged SG2D 1397174852
unfolding kind_of among tag_of row_of table as_number bytes
sg2d_tag = record { list = sg2d_list; is = refl; only = λ t e. kind_tag t SG2D e (omega arith) }

pub sg3d_tag : Tagged SG3D 1397175108
unfolding kind_of among tag_of row_of table as_number bytes
sg3d_tag = record { list = sg3d_list; is = refl; only = λ t e. kind_tag t SG3D e (omega arith) }

pub ffpt_tag : Tagged FFPT 1179013204
unfolding kind_of among tag_of row_of table as_number bytes
ffpt_tag = record { list = ffpt_list; is = refl; only = λ t e. kind_tag t FFPT e (omega arith) }

pub fspt_tag : Tagged FSPT 1179865172
unfolding kind_of among tag_of row_of table as_number bytes
fspt_tag = record { list = fspt_list; is = refl; only = λ t e. kind_tag t FSPT e (omega arith) }
