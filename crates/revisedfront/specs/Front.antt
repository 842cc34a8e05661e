-- The records in front: record 0, DSID and DSSI, DSPM. Nothing here need be believed. Assumes nothing.
use Rattle.std.specs.Prelude.{ℕ, ◌≤◌, max, List, ◌++◌, ◌≡◌, length}
use Rattle.iso8211.specs.File.{record_at}
use Rattle.layout.specs.Record.{content_at}
use Rattle.counted.specs.declared.counts.Tally.{Tally}
use Rattle.records.specs.Written.{record_bytes, size_of}
use Rattle.header.specs.First.{first_record}
use Rattle.writing.specs.declared.all.Sizes.{Sizes}
use Rattle.fronts.specs.Front.{dsid_fields, dspm_fields, revised_in, dssi_in, DsidIn, DspmIn}
use Rattle.follow.specs.Headed.{Headed}
use Rattle.revisedfront.specs.declared.front.Fronts.{Fronts}

-- a cell and an update of which the records in front are there
pub record Fronted (cell update : List ℕ) : Type 0 where
  pub held : Headed cell
  pub dspm : DspmIn cell (record_at cell 2)
  pub come : Headed update

-- where they stand: DSID and DSPM of the cell, DSID of the update
abbrev pub fronts_of : List ℕ → List ℕ → Fronts
fronts_of cell update = record { dsid = record_at cell 1; dspm = record_at cell 2; by = record_at update 1 }

pub record Found (cell update : List ℕ) (f : Fronts) : Type 0 where
  pub is : f ≡ fronts_of cell update
  pub dsid : DsidIn cell f.dsid
  pub dspm : DspmIn cell f.dspm
  pub by : DsidIn update f.by

-- records 0 to 2 of the result, with these counts
unfoldable pub front_bytes : List ℕ → List ℕ → Fronts → Tally → List ℕ
front_bytes cell update f t =
    first_record
    ++ (record_bytes (dsid_fields (revised_in cell f.dsid update f.by) (dssi_in cell f.dsid t)) ++ record_bytes (dspm_fields (content_at cell f.dspm 1)))

-- how long they are together, and the longer of records 1 and 2, whatever the counts
pub record FrontSized (cell update : List ℕ) (r : Sizes) : Type 0 where
  pub sum_is : (t : Tally) → r.sum ≡ length (front_bytes cell update (fronts_of cell update) t)
  pub most_is : (t : Tally) → r.most
      ≡ max (size_of (dsid_fields (revised_in cell (record_at cell 1) update (record_at update 1)) (dssi_in cell (record_at cell 1) t)))
      (size_of (dspm_fields (content_at cell (record_at cell 2) 1)))
  pub sum_few : r.sum ≤ 500000
