-- Where the identifier field stands: behind a 0001, which has three bytes. Assumes nothing.
use Prim.Native.Nat.{ℕ, ◌+◌, ◌<◌}
use mathlib.Core.List.{List}
use mathlib.Core.Path.{◌≡◌, refl, sym, ap, ◌∙◌}
use native.Mathlib.Omega.{arith}
use lib.ListN.{length}
use Rattle.iso8211.specs.Leader.{base_at}
use Rattle.iso8211.specs.Field.{count_at, field_at}
use Rattle.iso8211.specs.Premises.{HeadOf}
use Rattle.iso8211.specs.declared.field.Head.{Head}
use Rattle.table.specs.Table.{table, kind_of, among, as_number, first}
use Rattle.table.specs.Text.{bytes}
use Rattle.layout.specs.Record.{kind_at, content_at}
use Rattle.layout.proofs.Promise.{full_first, content_length}
use Rattle.items.specs.Identity.{id_at}
use Rattle.items.specs.Premises.{LaidOut}

module _ {s : List ℕ} {at : ℕ} (laid : LaidOut s at) where
  -- the length of a field of which its kind tells how many bytes it has
  pub long_is : (j k n : ℕ) → j < count_at s at → kind_at s at j ≡ k → length (content_at s at j) ≡ n → (field_at s at j).length ≡ n + 1
  long_is j k n h kind full =
      let some = (laid.inside.fields j h).long in
      omega (arith, content_length s at j laid.inside h)

  module _ (front : kind_at s at 0 ≡ first) where
    pub first_long : (field_at s at 0).length ≡ 3
    first_long =
        let two = laid.two in
        long_is 0 first 2 (omega arith) front (full_first (content_at s at 0) (rw front at (laid.fills 0 (omega arith))))

    pub id_place : at + base_at s at + 3 ≡ id_at s at
    id_place =
        let two = laid.two in
        omega (arith, laid.inside.gapless 0 (omega arith), laid.inside.front, first_long)

first_kind : kind_of 808464433 ≡ first
unfolding kind_of among table as_number bytes
first_kind = refl

-- ---- by the tag as it is read
module _ (s : List ℕ) (at : ℕ) (h : Head) (t : ℕ) (laid : LaidOut s at) (head : HeadOf s at h) (read : t ≡ (field_at s at 0).tag) (front : t ≡ 808464433) where
  pub front_kind : kind_at s at 0 ≡ first
  front_kind = ap kind_of (sym read ∙ front) ∙ first_kind

  pub front_id : at + h.base + 3 ≡ id_at s at
  front_id = ap (λ (b : ℕ). at + b + 3) head.base ∙ id_place laid front_kind
