-- Text: which bytes it is made of, and where it ends. Assumes nothing.
use Rattle.std.specs.Prelude.{ℕ, suc, ◌+◌, ◌-◌, Bool, true, cond, ◌&&◌, ◌||◌, List, [], ◌∷◌, take, drop, leb, eqb}

-- "Text bytes 20-7E hex; at level 1 .. also A0-FF"
unfoldable pub is_text : Bool → ℕ → Bool
is_text high b = (leb 32 b && leb b 126) || (high && (leb 160 b && leb b 255))

-- every byte is a text byte; none is needed: "An empty value means unknown"
unfoldable pub text_good : Bool → List ℕ → Bool
text_good high [] = true
text_good high (b ∷ bs) = is_text high b && text_good high bs

-- the bytes of s from i up to e are text
abbrev pub text_in : Bool → List ℕ → ℕ → ℕ → Bool
text_in high s i e = text_good high (take (e - i) (drop i s))

-- how many bytes stand before the first 1F, all where there is none
unfoldable pub until_end : List ℕ → ℕ
until_end [] = 0
until_end (b ∷ bs) = cond (eqb b 31) 0 (suc (until_end bs))

-- "A without a size ends in 1F": the place of the first 1F of s at or after i; where there is none, the length of s (i itself beyond it)
unfoldable pub text_end : List ℕ → ℕ → ℕ
text_end s i = i + until_end (drop i s)
