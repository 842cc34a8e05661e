-- How a record of a framed file comes to be known as laid out, and as a vector's or a feature's. Assumes nothing.
use Prim.Native.Nat.{ℕ, ◌+◌, ◌≤◌, ◌<◌}
use mathlib.Core.Bool.{Bool, true}
use mathlib.Core.List.{List}
use mathlib.Core.Logic.{⊎_elim, ◌⊎◌, inl, inr}
use mathlib.Core.Path.{◌≡◌, sym, ap, ◌∙◌}
use native.Mathlib.Omega.{arith}
use lib.ListN.{length}
use Rattle.std.specs.Prelude.{Ok}
use Rattle.iso8211.specs.Field.{count_at, field_at}
use Rattle.iso8211.specs.File.{frame_of, record_at}
use Rattle.table.specs.Table.{VRID, FRID, FOID}
use Rattle.layout.specs.Layout.{filled}
use Rattle.layout.specs.Record.{kind_at, content_at}
use Rattle.layout.specs.Premises.{Laid}
use Rattle.items.specs.Premises.{LaidOut, Identified, Featured}
use Rattle.items.specs.Identity.{id_at, rcnm_at}
use Rattle.iso8211.proofs.Promise.{record_in, fields_in}
use Rattle.layout.proofs.Promise.{content_length, laid_feature, full_vrid, full_frid, full_foid}

-- ---- a record that is laid out
pub laid_out : (s : List ℕ) (n k at : ℕ) → frame_of s ≡ Ok n → k < n → at ≡ record_at s k → 2 ≤ count_at s at
    → ((j : ℕ) → j < count_at s at → filled (kind_at s at j) (content_at s at j) ≡ true) → LaidOut s at
laid_out s n k at v h e two full = record {
  inside = fields_in (record_in s n k at v h e);
  two = two;
  fills = full;
}

pub laid_record : {update : Bool} {stage : ℕ} {marks s : List ℕ} {at : ℕ} (n k : ℕ) → Laid update stage marks s at
    → frame_of s ≡ Ok n → k < n → at ≡ record_at s k → LaidOut s at
laid_record {update} {stage} {marks} {s} {at} n k laid v h e = laid_out s n k at v h e laid.two laid.full

-- a vector's RCNM is not that of a feature
vector_other : {x : ℕ} → (x ≡ 110) ⊎ ((x ≡ 120) ⊎ (x ≡ 130)) → x ≡ 100 → ⊥
vector_other {x} t e =
    ⊎_elim (λ (a : x ≡ 110). omega arith) (λ (o : (x ≡ 120) ⊎ (x ≡ 130)). ⊎_elim (λ (b : x ≡ 120). omega arith) (λ (c : x ≡ 130). omega arith) o) t

-- ---- the identifier fields of a record that is laid out
module _ (s : List ℕ) (at : ℕ) (laid : LaidOut s at) where
  -- a field of m bytes and its 1E lies in the file
  content_long : (j m : ℕ) → j < count_at s at → length (content_at s at j) ≡ m → (field_at s at j).start + m ≤ length s
  content_long j m h e =
      let f = laid.inside.fields j h in
      let within = f.within in
      let fits = laid.inside.fits in
      omega (arith, e, content_length s at j laid.inside h)

  pub vrid_long : kind_at s at 1 ≡ VRID → id_at s at + 8 ≤ length s
  vrid_long e =
      let two = laid.two in
      content_long 1 8 (omega arith) (full_vrid (content_at s at 1) (ap (λ (k : ℕ). filled k (content_at s at 1)) (sym e) ∙ laid.fills 1 (omega arith)))

  pub frid_long : kind_at s at 1 ≡ FRID → id_at s at + 12 ≤ length s
  frid_long e =
      let two = laid.two in
      content_long 1 12 (omega arith) (full_frid (content_at s at 1) (ap (λ (k : ℕ). filled k (content_at s at 1)) (sym e) ∙ laid.fills 1 (omega arith)))

  pub foid_long : 3 ≤ count_at s at → kind_at s at 2 ≡ FOID → (field_at s at 2).start + 8 ≤ length s
  foid_long third e = content_long 2 8 (omega arith) (full_foid (content_at s at 2) (ap (λ (k : ℕ). filled k (content_at s at 2)) (sym e) ∙ laid.fills 2 (omega arith)))

  pub featured : kind_at s at 1 ≡ FRID → 3 ≤ count_at s at → kind_at s at 2 ≡ FOID → Featured s at
  featured e third object = record { is = e; long = frid_long e; third = third; object = object; whole = foid_long third object }

  -- a vector's record, whose RCNM is a vector's
  pub vector_identified : kind_at s at 1 ≡ VRID → (rcnm_at s at ≡ 110) ⊎ ((rcnm_at s at ≡ 120) ⊎ (rcnm_at s at ≡ 130)) → Identified s at
  vector_identified e class = record {
    is = inl e;
    long = vrid_long e;
    feature = λ (h : rcnm_at s at ≡ 100). absurd (vector_other class h);
    class = ⊎_elim (λ (a : rcnm_at s at ≡ 110). inl a)
        (λ (o : (rcnm_at s at ≡ 120) ⊎ (rcnm_at s at ≡ 130)). inr (⊎_elim (λ (b : rcnm_at s at ≡ 120). inl b) (λ (c : rcnm_at s at ≡ 130). inr (inl c)) o)) class;
  }

  pub feature_identified : Featured s at → rcnm_at s at ≡ 100 → Identified s at
  feature_identified f e = record { is = inr f.is; long = (let long = f.long in omega arith); feature = λ h. f; class = inr (inr (inr e)) }

-- of a record without a fault of layout
pub laid_featured : {update : Bool} {stage : ℕ} {marks s : List ℕ} {at : ℕ} → Laid update stage marks s at → LaidOut s at
    → kind_at s at 1 ≡ FRID → Featured s at
laid_featured {update} {stage} {marks} {s} {at} good laid e = let more = laid_feature good e in featured s at laid e more.0 more.1
