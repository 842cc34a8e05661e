-- What is known of two files without a refusal up to 12, and of their records where 13 to 16 find nothing. Assumes nothing.
use Prim.Native.Nat.{ℕ, zero, suc, ◌+◌, ◌-◌, ◌≤◌, ◌<◌}
use mathlib.Core.Bool.{Bool, true, false}
use mathlib.Core.List.{List, [], ◌∷◌}
use mathlib.Core.Logic.{◌⊎◌, ⊎_elim}
use mathlib.Core.Path.{◌≡◌, refl, sym, ap}
use native.Mathlib.Omega.{arith}
use lib.ListN.{length, get_or}
use lib.Dec.{eqb}
use borrow.Author.Tests.{eq-eqb, ne_eqb, eqb-true, eqb-false}
use Rattle.std.specs.Prelude.{Some}
use Rattle.octets.proofs.Cases.{true_or_false, eq_or_ne}
use Rattle.iso8211.specs.Record.{end_of}
use Rattle.iso8211.specs.File.{record_at}
use Rattle.iso8211.proofs.Promise.{at_next, at_start}
use Rattle.chart.specs.Read.{read_fault}
use Rattle.items.specs.Word.{name_of, word_offset}
use Rattle.names.specs.Premises.{Readable, Strict}
use Rattle.names.specs.Names.{twice_of}
use Rattle.lookups.specs.LookupWords.{lookup}
use Rattle.reader.proofs.ReaderLaws.{readable, cell_parts, update_parts}
use Rattle.items.specs.Item.{Item}
use Rattle.held.proofs.CellLaws.{CellTold, cell_told}
use Rattle.changes.specs.Change.{Amendment, amendment_at, amendments_from, change_of}
use Rattle.changes.specs.Amend.{amendment_code, amendments_fault}
use Rattle.changes.specs.Told.{UpdateTold}
use Rattle.changes.proofs.ToldLaws.{update_told}
use Rattle.revision.specs.Following.{Following, Small}
use Rattle.answers.specs.First.{first_by}

-- ---- out of the verdicts of reading
-- no repeat is no record and no place
once_whole : (update : Bool) (s : List ℕ) (n : ℕ) → (twice_of update s n).index ≡ 0 → twice_of update s n ≡ record { index = 0; offset = 0 }
unfolding twice_of
once_whole update s n e = rw e (ap (λ (p : ℕ). record { index = 0; offset = p }) (sym (at_start s)))

module _ {cell : List ℕ} {n : ℕ} {update : List ℕ} {m : ℕ} (f : Following cell n update m) where
  pub cell_read : (read_fault false cell n).code ≡ 0
  cell_read = (cell_parts cell n f.cell_fine).0

  pub update_read : (read_fault true update m).code ≡ 0
  update_read = (update_parts update m f.update_fine).0

  pub cell_readable : Readable false cell n
  cell_readable = readable false cell n f.held.framed f.held.short cell_read

  pub update_readable : Readable true update m
  update_readable = readable true update m f.come.framed f.come.short update_read

  pub cell_once : twice_of false cell n ≡ record { index = 0; offset = 0 }
  cell_once = once_whole false cell n (cell_parts cell n f.cell_fine).1

  pub update_once : twice_of true update m ≡ record { index = 0; offset = 0 }
  update_once = once_whole true update m (update_parts update m f.update_fine).1

  module _ (small : Small cell update) where
    pub cell_known : CellTold cell n
    cell_known = cell_told cell n f.held.framed f.held.short small.old cell_read (cell_parts cell n f.cell_fine).1

    pub update_known : UpdateTold update m
    update_known = update_told update m f.come.framed f.come.short small.new update_read (update_parts update m f.update_fine).1

-- ---- where 13 to 16 find nothing, no record has a code
none_apart : (held : List Item) (k : ℕ) (a : Amendment) (more : List Amendment) → (amendments_fault held k (a ∷ more)).code ≡ 0
    → (amendment_code held a ≡ 0) × ((amendments_fault held (k + 1) more).code ≡ 0)
unfolding amendments_fault first_by
none_apart held k a more h =
    ⊎_elim (λ (e : eqb (amendment_code held a) 0 ≡ true). (eqb-true (amendment_code held a) 0 e, rw e at h))
    (λ (e : eqb (amendment_code held a) 0 ≡ false). absurd (eqb-false (amendment_code held a) 0 e (rw e at h))) (true_or_false (eqb (amendment_code held a) 0))

codes_from : (held : List Item) (s : List ℕ) (c k : ℕ) → (amendments_fault held k (amendments_from c s (record_at s k))).code ≡ 0
    → (j : ℕ) → k ≤ j → j < k + c → amendment_code held (amendment_at s (record_at s j)) ≡ 0
unfolding amendments_from
codes_from held s zero k h j low high = absurd (omega arith)
codes_from held s (suc c) k h j low high =
    let r = none_apart held k (amendment_at s (record_at s k)) (amendments_from c s (end_of s (record_at s k))) h in
    ⊎_elim (λ (here : k ≡ j). rw (← here) r.0)
    (λ (later : k ≡ j → ⊥). codes_from held s c (k + 1) (rw (at_next s k (record_at s k) refl) at r.1) j (omega arith) (omega arith)) (eq_or_ne k j)

pub codes_none : (held : List Item) (s : List ℕ) (m : ℕ) → 2 ≤ m → (amendments_fault held 2 (change_of s m).amendments).code ≡ 0
    → (j : ℕ) → 2 ≤ j → j < m → amendment_code held (amendment_at s (record_at s j)) ≡ 0
unfolding change_of
codes_none held s m two h j low high = codes_from held s (m - 2) 2 h j low (omega arith)

-- ---- a name of rising words is found where it stands
pub lookup_at : (ws : List ℕ) (p : ℕ) → Strict ws → p < length ws → lookup ws (name_of (get_or ws p 0)) ≡ Some (word_offset (get_or ws p 0))
unfolding lookup
lookup_at [] p strict h = absurd (omega arith)
lookup_at (w ∷ ws) zero strict h = rw (eq-eqb (name_of w) (name_of w) refl)
lookup_at (w ∷ ws) (suc p) strict h =
    let less = strict.up 0 (suc p) (omega arith) h in
    let rest : Strict ws = record { up = λ a b x y. strict.up (suc a) (suc b) (omega arith) (omega arith) } in
    rw (ne_eqb (name_of w) (name_of (get_or ws p 0)) (λ (e : name_of w ≡ name_of (get_or ws p 0)). omega arith)) (lookup_at ws p rest (omega arith))
