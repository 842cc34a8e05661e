-- What the functions of format lists answer, one record each. It serves the proofs, and nothing here need be believed. Assumes nothing.
use Rattle.std.specs.Prelude.{ℕ, ◌+◌, ◌-◌, ◌*◌, ◌≤◌, ◌<◌, List, ◌≡◌, length, take, drop, replicate}
use Rattle.octets.specs.Number.{byte_at}
use Rattle.formats.specs.declared.Taken.{Taken}
use Rattle.formats.specs.declared.Formats.{Formats}
use Rattle.formats.specs.Formats.{Form, digit_at, form}

-- ---- what the code answers
-- a byte that is read, 0 past the end of s: where it is not 0, it is within s
pub record Seen (s : List ℕ) (i r : ℕ) : Type 0 where
  pub is : r ≡ byte_at s i
  pub small : r < 256
  pub inside : r ≤ 255 * (length s - i)

-- a digit that is read: where it is one, it is within s
pub record Digit (s : List ℕ) (i r : ℕ) : Type 0 where
  pub is : r ≡ digit_at s i
  pub small : r ≤ 10
  pub inside : 10 ≤ r + 10 * (length s - i)

-- a number that is read of s from i on, t by its definition
pub record Short (t : Taken) (s : List ℕ) (i : ℕ) (r : Taken) : Type 0 where
  pub is : r ≡ t
  pub after : i ≤ r.next
  pub within : r.next ≤ length s
  pub small : r.value ≤ 999

-- a primitive that is read of s, t by its definition
pub record Primitive (t : Taken) (s : List ℕ) (r : Taken) : Type 0 where
  pub is : r ≡ t
  pub within : r.next ≤ length s

-- the list that the code's answer stands for
abbrev pub forms_of : Formats → Form
forms_of f = form (take f.count f.items) f.end

-- no primitives
abbrev pub nothing : Formats
nothing = record { items = replicate 32 0; count = 0; end = 0 }

-- an answer of 32 places, of which the first `count` are used and the others are 0
pub record Filled (r : Formats) : Type 0 where
  pub wide : length r.items ≡ 32
  pub few : r.count ≤ 32
  pub rest : drop r.count r.items ≡ replicate (32 - r.count) 0

-- the answer r says f, a list that ends within n bytes
pub record Written (f : Form) (n : ℕ) (r : Formats) : Type 0 where
  pub is : forms_of r ≡ f
  pub fills : Filled r
  pub within : r.end ≤ n
