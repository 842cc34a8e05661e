-- A list that passes a test is a file of bytes: with it the small files are shown to be such by computing. Assumes nothing.
use Prim.Native.Nat.{ℕ}
use mathlib.Core.Bool.{Bool, true}
use mathlib.Core.List.{List, [], ◌∷◌}
use mathlib.Core.Path.{◌≡◌}
use lib.Dec.{ltb}
use borrow.Author.Tests.{ltb-true}
use Rattle.octets.proofs.Tests.{both}
use Rattle.entries.specs.Rules.{all_of}
use Rattle.changes.specs.Rules.All.{all_none, all_more}
use Rattle.demands.specs.Cell.{Bytes}
use Rattle.demands.specs.ByteChart.{ByteList}
use Rattle.demands.proofs.HeldBytes.{byte_file}

unfoldable pub is_byte : ℕ → Bool
is_byte b = ltb b 256

each : (s : List ℕ) → all_of is_byte s ≡ true → ByteList s
unfolding all_of is_byte
each [] h = all_none
each (b ∷ s) h = let p = both (ltb b 256) (all_of is_byte s) h in all_more (ltb-true b 256 p.0) (each s p.1)

pub bytes_tested : (s : List ℕ) → all_of is_byte s ≡ true → Bytes s
bytes_tested s h = byte_file (each s h)
