-- DSID as a value: what it says, and how the held form writes it. Assumes nothing.
use Rattle.std.specs.Prelude.{ℕ, ◌+◌, List, ◌∷◌, ◌++◌, take, drop}
use Rattle.octets.specs.Digits.{digits_of, fewest}
use Rattle.dataset.specs.Dsid.{updn_end}
use Rattle.layout.specs.General.{edition_in, number_in}

-- RCNM to DSNM, with the 1F behind it; EDTN and UPDN; UADT and ISDT, eight bytes each; STED to COMT as they stand
pub record Dsid : Type 0 where
  pub named : List ℕ
  pub edition : ℕ
  pub number : ℕ
  pub applied : List ℕ
  pub issued : List ℕ
  pub rest : List ℕ

abbrev pub dsid : List ℕ → ℕ → ℕ → List ℕ → List ℕ → List ℕ → Dsid
dsid named edition number applied issued rest = record { named = named; edition = edition; number = number; applied = applied; issued = issued; rest = rest }

-- ---- read
-- what a DSID says; DSNM has twelve bytes, from byte 7 on
unfoldable pub dsid_of : List ℕ → Dsid
dsid_of d = dsid (take 20 d) (edition_in d) (number_in d) (take 8 (drop (updn_end d + 1) d)) (take 8 (drop (updn_end d + 9) d)) (drop (updn_end d + 17) d)

-- ---- written
-- "without leading zeros"
unfoldable pub shortest : ℕ → List ℕ
shortest v = digits_of (fewest v) v

-- "EDTN and UPDN without leading zeros", each with its 1F
unfoldable pub dsid_with : List ℕ → ℕ → ℕ → List ℕ → List ℕ
dsid_with front edition number back = front ++ (shortest edition ++ (31 ∷ (shortest number ++ (31 ∷ back))))

unfoldable pub dsid_bytes : Dsid → List ℕ
dsid_bytes h = dsid_with h.named h.edition h.number (h.applied ++ (h.issued ++ h.rest))

-- ---- updated
-- "The result keeps DSID, save UPDN, and UADT and ISDT, which become the update's ISDT": d the cell's, e the update's
unfoldable pub revised : Dsid → Dsid → Dsid
revised d e = dsid d.named d.edition e.number e.issued e.issued d.rest
