-- A file is one of bytes, and so is each entry of its lists; so the nodes that an edge names fit their half of its note. Assumes nothing.
use Prim.Native.Nat.{ℕ, zero, suc, ◌+◌, ◌-◌, ◌<◌}
use mathlib.Core.Bool.{Bool, true, false, cond}
use mathlib.Core.List.{List, [], ◌∷◌, ◌++◌}
use native.Mathlib.Omega.{arith}
use lib.ListN.{length, take, drop}
use lib.Dec.{eqb}
use Rattle.octets.specs.Number.{byte_at, num_at}
use Rattle.iso8211.specs.Field.{count_at, field_at}
use Rattle.entries.specs.declared.Shape.{Shape}
use Rattle.entries.specs.Entries.{entry_len, entries_from, entries_of}
use Rattle.entries.specs.Rules.{through}
use Rattle.layout.specs.Layout.{shape_of}
use Rattle.layout.specs.Record.{kind_at, content_at}
use Rattle.items.specs.Lists.{part_at, join_from, list_at, entries_at}
use Rattle.ring.specs.Ring.{node_step, node_with}

pub record Bytes (l : List ℕ) : Type 0 where
  pub low : (i : ℕ) → byte_at l i < 256

pub data AllBytes : List (List ℕ) → Type 0 where
  none : AllBytes []
  more : {e : List ℕ} {es : List (List ℕ)} → Bytes e → AllBytes es → AllBytes (e ∷ es)

-- ---- parts of bytes
first_byte : (x : ℕ) (l : List ℕ) → Bytes (x ∷ l) → x < 256
first_byte x l b = b.low 0

rest_bytes : (x : ℕ) (l : List ℕ) → Bytes (x ∷ l) → Bytes l
rest_bytes x l b = record { low = λ i. b.low (suc i) }

nil_bytes : Bytes []
nil_bytes = record { low = λ i. omega arith }

cons_bytes : (x : ℕ) (l : List ℕ) → x < 256 → Bytes l → Bytes (x ∷ l)
cons_bytes x l h b = record { low = at } where
  at : (i : ℕ) → byte_at (x ∷ l) i < 256
  at zero = h
  at (suc i) = b.low i

pub take_bytes : (n : ℕ) (l : List ℕ) → Bytes l → Bytes (take n l)
take_bytes zero l b = nil_bytes
take_bytes (suc n) [] b = nil_bytes
take_bytes (suc n) (x ∷ l) b = cons_bytes x (take n l) (first_byte x l b) (take_bytes n l (rest_bytes x l b))

pub drop_bytes : (n : ℕ) (l : List ℕ) → Bytes l → Bytes (drop n l)
drop_bytes zero l b = b
drop_bytes (suc n) [] b = b
drop_bytes (suc n) (x ∷ l) b = drop_bytes n l (rest_bytes x l b)

join_bytes : (a b : List ℕ) → Bytes a → Bytes b → Bytes (a ++ b)
join_bytes [] b p q = q
join_bytes (x ∷ a) b p q = cons_bytes x (a ++ b) (first_byte x a p) (join_bytes a b (rest_bytes x a p) q)

-- ---- parts of a list of byte strings
pub all_take : (n : ℕ) (es : List (List ℕ)) → AllBytes es → AllBytes (take n es)
all_take zero es all = none
all_take (suc n) [] all = none
all_take (suc n) (e ∷ es) (more b rest) = more b (all_take n es rest)

pub all_drop : (n : ℕ) (es : List (List ℕ)) → AllBytes es → AllBytes (drop n es)
all_drop zero es all = all
all_drop (suc n) [] all = all
all_drop (suc n) (e ∷ es) (more b rest) = all_drop n es rest

pub all_join : (a b : List (List ℕ)) → AllBytes a → AllBytes b → AllBytes (a ++ b)
all_join [] b none q = q
all_join (e ∷ a) b (more p rest) q = more p (all_join a b rest q)

-- ---- the entries of a list
some_bytes : (z : Bool) {e : List ℕ} {es : List (List ℕ)} → Bytes e → AllBytes es → AllBytes (cond z [] (e ∷ es))
some_bytes true b rest = none
some_bytes false b rest = more b rest

cut_bytes : (f : ℕ) (sh : Shape) (bs : List ℕ) → Bytes bs → AllBytes (entries_from f sh bs)
unfolding entries_from
cut_bytes zero sh bs b = none
cut_bytes (suc f) sh bs b =
    some_bytes (eqb (entry_len sh bs) 0) (take_bytes (entry_len sh bs) bs b)
    (cut_bytes f sh (drop (entry_len sh bs) bs) (drop_bytes (entry_len sh bs) bs b))

part_bytes : (s : List ℕ) (at k j : ℕ) → Bytes s → Bytes (part_at s at k j)
unfolding part_at
part_bytes s at k j b = pick (eqb (kind_at s at j) k) where
  pick : (z : Bool) → Bytes (cond z (content_at s at j) [])
  pick true = take_bytes ((field_at s at j).length - 1) (drop (field_at s at j).start s) (drop_bytes (field_at s at j).start s b)
  pick false = nil_bytes

from_bytes : (n : ℕ) (s : List ℕ) (at k j : ℕ) → Bytes s → Bytes (join_from n s at k j)
unfolding join_from
from_bytes zero s at k j b = nil_bytes
from_bytes (suc n) s at k j b = join_bytes (part_at s at k j) (join_from n s at k (j + 1)) (part_bytes s at k j b) (from_bytes n s at k (j + 1) b)

pub entries_bytes : (s : List ℕ) (at k : ℕ) → Bytes s → AllBytes (entries_at s at k)
unfolding entries_at entries_of list_at
entries_bytes s at k b = cut_bytes (length (list_at s at k)) (shape_of k) (list_at s at k) (from_bytes (count_at s at) s at k 0 b)

-- ---- the nodes of an edge
four_bytes : (e : List ℕ) (p : ℕ) → Bytes e → num_at e p 4 < 4294967296
unfolding num_at
four_bytes e p b =
    let x = b.low p in
    let y = b.low (suc p) in
    let z = b.low (suc (suc p)) in
    let w = b.low (suc (suc (suc p))) in
    omega arith

step_few : (topi node : ℕ) (e : List ℕ) → Bytes e → node < 4294967296 → node_step topi node e < 4294967296
unfolding node_step
step_few topi node e b h = pick (eqb (byte_at e 7) topi) where
  pick : (z : Bool) → cond z (num_at e 1 4) node < 4294967296
  pick true = four_bytes e 1 b
  pick false = h

through_few : (topi node : ℕ) (es : List (List ℕ)) → AllBytes es → node < 4294967296 → through (node_step topi) node es < 4294967296
unfolding through
through_few topi node [] none h = h
through_few topi node (e ∷ es) (more b rest) h = through_few topi (node_step topi node e) es rest (step_few topi node e b h)

pub node_few : (topi : ℕ) (es : List (List ℕ)) → AllBytes es → node_with topi es < 4294967296
unfolding node_with
node_few topi es b = through_few topi 0 es b (omega arith)
