-- Laws of the general records: DSSI and its levels; COMF, the way to record 2 and what is read there. Assumes nothing.
use Prim.Native.Nat.{ℕ, ◌+◌, ◌≤◌, ◌<◌}
use mathlib.Core.List.{List}
use mathlib.Core.Path.{◌≡◌, ap}
use native.Mathlib.Omega.{arith}
use lib.ListN.{length}
use Rattle.std.specs.Prelude.{Ok}
use Rattle.headvalues.specs.Dspm.{most_comf}
use Rattle.octets.specs.Number.{byte_at}
use Rattle.octets.specs.Premises.{Reads}
use Rattle.iso8211.specs.Record.{end_of}
use Rattle.iso8211.specs.Field.{count_at, field_at}
use Rattle.iso8211.specs.Premises.{FramedAt}
use Rattle.iso8211.specs.declared.field.Field.{Field}
use Rattle.iso8211.specs.File.{frame_of, record_at}
use Rattle.iso8211.proofs.Promise.{framed_at, at_start, at_on}
use Rattle.layout.specs.General.{aall_at, nall_at, comf_at}
use Rattle.layout.specs.Premises.{LevelsIn, DspmThere}

-- ---- DSSI, and its levels
module _ {s : List ℕ} {at : ℕ} {f : Field} (there : LevelsIn s at) (is : f ≡ field_at s at 2) where
  pub dssi_start : f.start ≡ (field_at s at 2).start
  dssi_start = ap (λ (x : Field). x.start) is

  pub dssi_room : f.start + 3 ≤ length s
  dssi_room = rw is there.room

pub aall_told : (s : List ℕ) (at i : ℕ) → i ≡ (field_at s at 2).start → byte_at s (i + 1) ≡ aall_at s at
unfolding aall_at
aall_told s at i e = rw e

pub nall_told : (s : List ℕ) (at i : ℕ) → i ≡ (field_at s at 2).start → byte_at s (i + 2) ≡ nall_at s at
unfolding nall_at
nall_told s at i e = rw e

-- ---- the first two records, then DSPM
module _ (s : List ℕ) (n : ℕ) (framed : frame_of s ≡ Ok n) (three : 3 ≤ n) where
  pub comf_first : FramedAt s 0
  comf_first = framed_at s n 0 0 framed (omega arith) (at_start s)

  pub comf_second : (e : ℕ) → e ≡ end_of s 0 → FramedAt s e
  comf_second e is = framed_at s n 1 e framed (omega arith) (at_on s 0 0 e (at_start s) is)

module _ (s : List ℕ) (there : DspmThere s) (e at : ℕ) (is : e ≡ end_of s 0) (next : at ≡ end_of s e) where
  place_two : at ≡ record_at s 2
  place_two = at_on s 1 e at (at_on s 0 0 e (at_start s) is) next

  pub dspm_framed : FramedAt s at
  dspm_framed = rw place_two there.framed

  pub dspm_second : 1 < count_at s at
  dspm_second = let second = there.second in rw place_two (omega arith)

  module _ (f : Field) (field : f ≡ field_at s at 1) where
    pub dspm_start : f.start ≡ (field_at s (record_at s 2) 1).start
    dspm_start = rw (field, place_two)

    pub dspm_whole : f.start + 20 ≤ length s
    dspm_whole = rw (field, place_two) there.whole

-- what is read at 16 of it
module _ (s : List ℕ) (there : DspmThere s) (start r : ℕ) (is : start ≡ (field_at s (record_at s 2) 1).start) (reads : Reads s (start + 16) 4 r) where
  pub comf_told : r ≡ comf_at s
  unfolding comf_at
  comf_told = rw is at reads.is

  pub comf_few : r ≤ most_comf
  comf_few = let few = there.few in omega (arith, comf_told)
