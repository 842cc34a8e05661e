-- What is known before the held form is written, and what is found. Nothing here need be believed. Assumes nothing.
use Rattle.std.specs.Prelude.{ℕ, ◌+◌, ◌-◌, ◌≤◌, Bool, true, ◌&&◌, List, ◌++◌, ◌≡◌, length, leb}
use Rattle.answers.specs.Codes.{most_bytes, most_records, longest_record}
use Rattle.iso8211.specs.Premises.{FramedAt}
use Rattle.iso8211.specs.File.{record_at}
use Rattle.words.specs.Words.{words_in}
use Rattle.layout.specs.Record.{content_at}
use Rattle.names.specs.Premises.{AllStand}
use Rattle.counted.specs.declared.counts.Tally.{Tally}
use Rattle.records.specs.Written.{record_bytes}
use Rattle.header.specs.First.{first_record}
use Rattle.header.specs.Dsid.{dsid_of, dsid_bytes}
use Rattle.header.specs.Dssi.{dssi_bytes}
use Rattle.held.specs.Chart.{Chart, header_of, chart_of}
use Rattle.held.specs.Held.{held_of}
use Rattle.held.specs.Limits.{fits}
use Rattle.names.specs.NameWords.{items_at}
use Rattle.writing.specs.All.{Words, AllSame}
use Rattle.fronts.specs.Front.{dsid_fields, dspm_fields, DsidIn, DspmIn}
use Rattle.reissue.specs.declared.plan.Plan.{Plan}
use Rattle.layout.specs.General.{aall_at, nall_at}

-- the chart of a cell whose items in held order have these words
abbrev pub chart_from : List ℕ → List ℕ → Chart
chart_from s ws = record { header = header_of s; items = items_at s ws }

-- a readable cell with the words of m items, in held order, in the work area
pub record Writing (s : List ℕ) (m : ℕ) (work : List ℕ) : Type 0 where
  pub front : FramedAt s 0
  pub dsid : DsidIn s (record_at s 1)
  pub dspm : DspmIn s (record_at s 2)
  pub words : Words s m work
  pub stand : AllStand s (words_in work 0 m)

-- a cell of n records without a refusal, whose words stand in the work area
pub record Ready (s : List ℕ) (n : ℕ) (work : List ℕ) : Type 0 where
  pub three : 3 ≤ n
  pub same : chart_from s (words_in work 0 (n - 3)) ≡ chart_of s n
  pub count : length (chart_of s n).items ≡ n - 3
  pub writing : n ≤ 65536 → Writing s (n - 3) work

-- "Limits: 99,999 bytes a record, 65,536 records with record 0, 5,242,880 bytes", by numbers
unfoldable pub within_limits : ℕ → ℕ → ℕ → Bool
within_limits n most total = leb n most_records && (leb most longest_record && leb total most_bytes)

pub record Planned (c : Chart) (p : Plan) : Type 0 where
  pub fits_is : p.fits ≡ fits c
  pub total_is : p.total ≡ length (held_of c)

-- `same` says that the records of the first m words are the held form's, but for their running numbers
pub record SameTold (s : List ℕ) (m : ℕ) (work : List ℕ) (same : Bool) : Type 0 where
  pub is : same ≡ true → AllSame s m work

-- records 0 to 2, DSID at a, DSPM at b
unfoldable pub front_bytes : List ℕ → ℕ → ℕ → Tally → List ℕ
front_bytes s a b t =
    first_record ++ (record_bytes (dsid_fields (dsid_bytes (dsid_of (content_at s a 1))) (dssi_bytes (aall_at s a) (nall_at s a) t)) ++ record_bytes (dspm_fields (content_at s b 1)))
