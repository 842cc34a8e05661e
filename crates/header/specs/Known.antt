-- What the code that writes a DSID asks of it, and what it finds in it. Nothing here need be believed. Assumes nothing.
use Rattle.std.specs.Prelude.{ℕ, ◌+◌, ◌≤◌, ◌<◌, List, ◌≡◌, length, take, drop}
use Rattle.dataset.specs.Dsid.{dsnm_end, edtn_end, updn_end}
use Rattle.dataset.specs.declared.Ends.{Ends}
use Rattle.header.specs.Dsid.{Dsid, dsid, dsid_bytes}
use Rattle.layout.specs.General.{edition_in, number_in}
use Rattle.header.specs.declared.dsid.Parts.{Parts}

-- a DSID without a fault: DSNM ends at byte 19, EDTN has at most four digits, UPDN at most three, and what must stand behind them is there
pub record Known (d : List ℕ) : Type 0 where
  pub name : dsnm_end d ≡ 19
  pub edition : 19 < edtn_end d
  pub edition_few : edtn_end d ≤ 24
  pub number : edtn_end d < updn_end d
  pub number_few : updn_end d ≤ edtn_end d + 4
  pub behind : updn_end d + 22 ≤ length d

-- what is known of the ends that are found
pub record EndsKnown (d : List ℕ) (e : Ends) : Type 0 where
  pub name : e.dsnm ≡ 19
  pub edition : 19 < e.edtn
  pub edition_few : e.edtn ≤ 24
  pub number : e.edtn < e.updn
  pub number_few : e.updn ≤ e.edtn + 4
  pub behind : e.updn + 22 ≤ length d

pub record PartsOf (d : List ℕ) (p : Parts) : Type 0 where
  pub edition : p.edition ≡ edition_in d
  pub number : p.number ≡ number_in d
  pub few : p.number ≤ 1000000000
  pub issue : p.issue ≡ updn_end d + 1
  pub front : 20 ≤ length d
  pub behind : p.issue + 16 ≤ length d

-- the DSID d with this UPDN and these dates
abbrev pub dated : List ℕ → ℕ → List ℕ → List ℕ → Dsid
dated d number applied issued = dsid (take 20 d) (edition_in d) number applied issued (drop (updn_end d + 17) d)

-- r bytes are written for the DSID d with this UPDN and dates of eight bytes
pub record SizeWith (d : List ℕ) (number r : ℕ) : Type 0 where
  pub is : (applied issued : List ℕ) → length applied ≡ 8 → length issued ≡ 8 → r ≡ length (dsid_bytes (dated d number applied issued))
  pub few : r ≤ length d + 22
