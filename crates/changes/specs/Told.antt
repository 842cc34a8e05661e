-- What a readable update tells of its records and of its change: what the code that applies it takes. Nothing here need be believed. Assumes nothing.
use Rattle.std.specs.Prelude.{ℕ, ◌≤◌, ◌<◌, true, List, [], ◌⊎◌, ◌≡◌, length}
use Rattle.iso8211.specs.File.{record_at}
use Rattle.table.specs.Table.{row_of}
use Rattle.layout.specs.Record.{content_at}
use Rattle.items.specs.Premises.{LaidOut, Identified}
use Rattle.items.specs.Lists.{list_at}
use Rattle.header.specs.Known.{Known}
use Rattle.changes.specs.Change.{amendment_at, change_of}
use Rattle.changes.specs.Good.{GoodAmendment, GoodChange}
use Rattle.layout.specs.General.{aall_at, nall_at}

-- "VRPC, SGCC, FFPC, FSPC may stand once each": a control that stands has its five bytes
pub record Controlled (s : List ℕ) (at : ℕ) : Type 0 where
  pub five : (k : ℕ) → (row_of k).control ≡ true → (list_at s at k ≡ []) ⊎ (length (list_at s at k) ≡ 5)

-- the record at `at`, a vector's or a feature's
pub record RecordTold (s : List ℕ) (at : ℕ) : Type 0 where
  pub good : GoodAmendment (aall_at s (record_at s 1)) (nall_at s (record_at s 1)) (amendment_at s at)
  pub laid : LaidOut s at
  pub known : Identified s at
  pub controls : Controlled s at

pub record UpdateTold (s : List ℕ) (m : ℕ) : Type 0 where
  pub two : 2 ≤ m
  pub good : GoodChange (change_of s m)
  pub known : Known (content_at s (record_at s 1) 1)
  pub records : (k : ℕ) → 2 ≤ k → k < m → RecordTold s (record_at s k)
