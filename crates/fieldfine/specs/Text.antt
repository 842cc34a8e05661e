-- What the walk over a list with texts knows of its entries. It serves the proofs, and nothing here need be believed. Assumes nothing.
use Rattle.std.specs.Prelude.{ℕ, ◌+◌, ◌-◌, ◌≤◌, Bool, true, false, List, ◌≡◌, length, take, drop}
use Rattle.octets.specs.Number.{byte_at}
use Rattle.entries.specs.Entries.{text_len, entry_len}
use Rattle.headvalues.specs.Text.{text_good}
use Rattle.attributes.specs.Attributes.{attribute, pointer, value_good, rind_good, comment_of}

-- a field's bytes with its closing 1E
pub record Ended (d : List ℕ) : Type 0 where
  pub some : 1 ≤ length d
  pub ends : byte_at d (length d - 1) ≡ 30

-- all bytes of c from `from` up to i are text: a text from `from` on is text exactly where it is from i on, and ends where it ends from i on
pub record TextRun (high : Bool) (c : List ℕ) (from i : ℕ) : Type 0 where
  pub low : from ≤ i
  pub good : (e : ℕ) → i ≤ e → text_good high (take (e - from) (drop from c)) ≡ text_good high (take (e - i) (drop i c))
  pub ends : (led : ℕ) → text_len 1 (drop from c) led ≡ text_len 1 (drop i c) (led + (i - from))

-- n bytes at `at` are an attribute whose value is good
pub record AttributeGood (update high : Bool) (c : List ℕ) (at n : ℕ) : Type 0 where
  pub size : n ≡ entry_len attribute (drop at c)
  pub long : 3 ≤ n
  pub fits : at + n ≤ length c
  pub value : value_good update high (take n (drop at c)) ≡ true

pub record AttributeTold (update high : Bool) (c : List ℕ) (at n : ℕ) : Type 0 where
  pub told : (n ≡ 0 → ⊥) → AttributeGood update high c at n

-- n bytes at `at` are an FFPT whose values are good
pub record PointerGood (c : List ℕ) (at n : ℕ) : Type 0 where
  pub size : n ≡ entry_len pointer (drop at c)
  pub fits : at + n ≤ length c
  pub rind : rind_good (take n (drop at c)) ≡ true
  pub comment : text_good false (comment_of (take n (drop at c))) ≡ true

pub record PointerTold (c : List ℕ) (at n : ℕ) : Type 0 where
  pub told : (n ≡ 0 → ⊥) → PointerGood c at n
