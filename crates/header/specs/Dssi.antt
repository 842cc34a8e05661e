-- DSSI as the held form writes it. Assumes nothing.
use Rattle.std.specs.Prelude.{ℕ, List, [], ◌∷◌, ◌++◌}
use Rattle.octets.specs.Number.{bytes_of}
use Rattle.counted.specs.declared.counts.Tally.{Tally}

-- NOMR meta, NOCR, NOGR geo, NOLR collection: "NOCR and NOFA 0 in cells"
unfoldable pub feature_counts : Tally → List ℕ
feature_counts t = bytes_of 4 t.meta ++ (bytes_of 4 0 ++ (bytes_of 4 t.geo ++ bytes_of 4 t.collection))

-- NOIN isolated nodes, NOCN connected nodes, NOED edges, NOFA
unfoldable pub vector_counts : Tally → List ℕ
vector_counts t = bytes_of 4 t.isolated ++ (bytes_of 4 t.connected ++ (bytes_of 4 t.edges ++ bytes_of 4 0))

-- "DSTR 2", AALL, NALL, then "true DSSI counts"
unfoldable pub dssi_bytes : ℕ → ℕ → Tally → List ℕ
dssi_bytes aall nall t = (2 ∷ aall ∷ nall ∷ []) ++ (feature_counts t ++ vector_counts t)
