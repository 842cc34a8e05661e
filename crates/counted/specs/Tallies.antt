-- The counts in one pass, as a tally. It serves the proofs, and nothing here need be believed. Assumes nothing.
use Rattle.std.specs.Prelude.{ℕ, ◌+◌, ◌-◌, ◌≤◌, Bool, cond, ◌&&◌, List, eqb}
use Rattle.octets.specs.Number.{num_at}
use Rattle.iso8211.specs.File.{record_at}
use Rattle.values.specs.Class.{is_geo, is_meta, is_collection}
use Rattle.items.specs.Identity.{rcnm_at, objl_at}
use Rattle.counted.specs.declared.counts.Tally.{Tally}
use Rattle.table.specs.Offsets.{DSSI_NOMR, DSSI_NOGR, DSSI_NOLR, DSSI_NOIN, DSSI_NOCN, DSSI_NOED}
use Rattle.counted.specs.Counts.{count_of, of_class, of_name}

-- ---- the same in one pass: a tally of the six counts
-- with a vector of this RCNM
unfoldable pub with_vector : Tally → ℕ → Tally
with_vector t rcnm = record {
  meta = t.meta;
  geo = t.geo;
  collection = t.collection;
  isolated = t.isolated + cond (eqb rcnm 110) 1 0;
  connected = t.connected + cond (eqb rcnm 120) 1 0;
  edges = t.edges + cond (eqb rcnm 130) 1 0;
}

-- with a feature of this class
unfoldable pub with_feature : Tally → ℕ → Tally
with_feature t objl = record {
  meta = t.meta + cond (is_meta objl) 1 0;
  geo = t.geo + cond (is_geo objl) 1 0;
  collection = t.collection + cond (is_collection objl) 1 0;
  isolated = t.isolated;
  connected = t.connected;
  edges = t.edges;
}

-- the tally with the record at `at`
unfoldable pub with_record : Tally → List ℕ → ℕ → Tally
with_record t s at = cond (eqb (rcnm_at s at) 100) (with_feature t (objl_at s at)) (with_vector t (rcnm_at s at))

-- the tally with n records from the one at `at` on
unfoldable pub with_records : Tally → ℕ → List ℕ → ℕ → Tally
with_records t n s at = record {
  meta = t.meta + count_of (of_class is_meta) n s at;
  geo = t.geo + count_of (of_class is_geo) n s at;
  collection = t.collection + count_of (of_class is_collection) n s at;
  isolated = t.isolated + count_of (of_name 110) n s at;
  connected = t.connected + count_of (of_name 120) n s at;
  edges = t.edges + count_of (of_name 130) n s at;
}

-- the tally of all vectors and features of a cell of n records
unfoldable pub tally_of : List ℕ → ℕ → Tally
tally_of s n = with_records (record { meta = 0; geo = 0; collection = 0; isolated = 0; connected = 0; edges = 0 }) (n - 3) s (record_at s 3)

-- no count of t is above m
pub record AtMost (m : ℕ) (t : Tally) : Type 0 where
  pub meta_few : t.meta ≤ m
  pub geo_few : t.geo ≤ m
  pub collection_few : t.collection ≤ m
  pub isolated_few : t.isolated ≤ m
  pub connected_few : t.connected ≤ m
  pub edges_few : t.edges ≤ m

-- the counts of the DSSI at p are those of t: NOIN, NOCN, NOED of the vectors, behind NOMR, NOGR, NOLR of the features
unfoldable pub vectors_good : List ℕ → ℕ → Tally → Bool
vectors_good s p t = eqb (num_at s (p + DSSI_NOIN) 4) t.isolated && (eqb (num_at s (p + DSSI_NOCN) 4) t.connected && eqb (num_at s (p + DSSI_NOED) 4) t.edges)

unfoldable pub tally_good : List ℕ → ℕ → Tally → Bool
tally_good s p t =
    eqb (num_at s (p + DSSI_NOMR) 4) t.meta
    && (eqb (num_at s (p + DSSI_NOGR) 4) t.geo
    && (eqb (num_at s (p + DSSI_NOLR) 4) t.collection
    && vectors_good s p t))
