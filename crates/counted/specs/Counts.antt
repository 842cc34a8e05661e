-- DSSI's counts against the records of a cell. Assumes nothing.
use Rattle.std.specs.Prelude.{ℕ, zero, suc, ◌+◌, ◌-◌, Bool, cond, ◌&&◌, List, eqb}
use Rattle.iso8211.specs.Record.{end_of}
use Rattle.iso8211.specs.File.{record_at}
use Rattle.values.specs.Class.{is_geo, is_meta, is_collection}
use Rattle.items.specs.Identity.{rcnm_at, objl_at}
use Rattle.layout.specs.General.{dssi_count}

-- a record of this RCNM
unfoldable pub of_name : ℕ → List ℕ → ℕ → Bool
of_name rcnm s at = eqb (rcnm_at s at) rcnm

-- a feature of a class in this range
unfoldable pub of_class : (ℕ → Bool) → List ℕ → ℕ → Bool
of_class within s at = eqb (rcnm_at s at) 100 && within (objl_at s at)

-- how many of n records, from the one at `at` on, are such
unfoldable pub count_of : (List ℕ → ℕ → Bool) → ℕ → List ℕ → ℕ → ℕ
count_of such zero s at = 0
count_of such (suc n) s at = cond (such s at) 1 0 + count_of such n s (end_of s at)

-- "DSSI counts differ from a cell's records": NOMR meta, NOGR geo, NOLR collection, NOIN isolated nodes, NOCN connected nodes, NOED edges.
-- NOCR and NOFA, counts 1 and 7, are 0 by Value, and no record is of their kind
unfoldable pub counts_good : List ℕ → ℕ → Bool
counts_good s n =
    eqb (dssi_count s 0) (count_of (of_class is_meta) (n - 3) s (record_at s 3))
    && (eqb (dssi_count s 2) (count_of (of_class is_geo) (n - 3) s (record_at s 3))
    && (eqb (dssi_count s 3) (count_of (of_class is_collection) (n - 3) s (record_at s 3))
    && (eqb (dssi_count s 4) (count_of (of_name 110) (n - 3) s (record_at s 3))
    && (eqb (dssi_count s 5) (count_of (of_name 120) (n - 3) s (record_at s 3))
    && eqb (dssi_count s 6) (count_of (of_name 130) (n - 3) s (record_at s 3))))))
