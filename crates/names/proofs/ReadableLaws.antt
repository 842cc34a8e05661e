-- What a cell that passed Layout and Value tells of its records. Assumes nothing.
use Prim.Native.Nat.{ℕ, ◌≤◌, ◌<◌}
use mathlib.Core.Bool.{Bool, true, false}
use mathlib.Core.List.{List}
use mathlib.Core.Path.{◌≡◌, refl, sym, ap, ◌∙◌}
use native.Mathlib.Omega.{arith}
use Rattle.std.specs.Prelude.{Ok}
use Rattle.items.specs.Word.{name_weight}
use Rattle.headvalues.specs.Dspm.{most_comf}
use Rattle.iso8211.specs.Premises.{FramedAt}
use Rattle.iso8211.specs.File.{frame_of, record_at}
use Rattle.iso8211.proofs.Promise.{framed_at, records_few, record_in, fields_in}
use Rattle.table.specs.Table.{DSSI, DSPM}
use Rattle.layout.specs.Layout.{filled}
use Rattle.layout.specs.Record.{content_at}
use Rattle.layout.specs.Premises.{Laid, DssiThere, DspmThere}
use Rattle.layout.proofs.Promise.{laid_dsid, laid_dspm, full_dssi, full_dspm, content_length}
use Rattle.items.specs.Premises.{LaidOut, Identified}
use Rattle.names.specs.Premises.{Readable}
use Rattle.names.specs.Names.{first_item}
use Rattle.layout.specs.General.{comf_at}

module _ {update : Bool} {s : List ℕ} {n : ℕ} (readable : Readable update s n) where
  pub readable_few : n ≤ 5242880
  readable_few = let few = records_few s n readable.framed in let short = readable.short in omega arith

  pub readable_framed : (k at : ℕ) → k < n → at ≡ record_at s k → FramedAt s at
  readable_framed k at h e = framed_at s n k at readable.framed h e

  -- a record's place fits the 24 bits that a word has for it
  pub place_small : (k : ℕ) → k < n → record_at s k < name_weight
  place_small k h = let there = (readable_framed k (record_at s k) h refl).headed.led.there in let short = readable.short in omega arith

-- a cell has its first three records
pub readable_three : {s : List ℕ} {n : ℕ} → Readable false s n → 3 ≤ n
unfolding first_item
readable_three readable = readable.head

-- and the others are vectors and features
pub readable_laid : {s : List ℕ} {n : ℕ} → Readable false s n → (k at : ℕ) → 3 ≤ k → k < n → at ≡ record_at s k → LaidOut s at
unfolding first_item
readable_laid readable k at low high e = rw e (readable.items k low high).0

pub readable_known : {s : List ℕ} {n : ℕ} → Readable false s n → (k at : ℕ) → 3 ≤ k → k < n → at ≡ record_at s k → Identified s at
unfolding first_item
readable_known readable k at low high e = rw e (readable.items k low high).1

-- "Cell: 0; then 0001 DSID DSSI": DSSI is there once record 1 is laid out
pub dssi_there : {marks s : List ℕ} (n : ℕ) → frame_of s ≡ Ok n → 1 < n → Laid false 0 marks s (record_at s 1) → DssiThere s
dssi_there {marks} {s} n v h laid =
    let at = record_at s 1 in
    let kinds = laid_dsid laid refl in
    let three = kinds.0 in
    let inside = record_in s n 1 at v h refl in
    let within = (inside.fields 2 (omega arith)).within in
    let fits = inside.framed.fits in
    let full : filled DSSI (content_at s at 2) ≡ true = ap (λ (k : ℕ). filled k (content_at s at 2)) (sym kinds.2) ∙ laid.full 2 (omega arith) in
    record {
      framed = inside.framed;
      third = omega arith;
      whole = omega (arith, full_dssi (content_at s at 2) full, content_length s at 2 (fields_in inside) (omega arith));
    }

-- "then 0001 DSPM": it is there once record 2 is laid out; that COMF is not above its most is Value's
pub dspm_there : {marks s : List ℕ} (n : ℕ) → frame_of s ≡ Ok n → 2 < n → Laid false 1 marks s (record_at s 2) → comf_at s ≤ most_comf → DspmThere s
dspm_there {marks} {s} n v h laid few =
    let at = record_at s 2 in
    let kinds = laid_dspm laid refl in
    let two = kinds.0 in
    let inside = record_in s n 2 at v h refl in
    let within = (inside.fields 1 (omega arith)).within in
    let fits = inside.framed.fits in
    let full : filled DSPM (content_at s at 1) ≡ true = ap (λ (k : ℕ). filled k (content_at s at 1)) (sym kinds.1) ∙ laid.full 1 (omega arith) in
    let long = (full_dspm (content_at s at 1) full).long in
    record {
      framed = inside.framed;
      second = omega arith;
      whole = omega (arith, long, content_length s at 1 (fields_in inside) (omega arith));
      few = few;
    }
