-- Tests and what a chain of them tells: the rule set by which a function of early returns meets a definition made of tests, and
-- the helpers that take such a definition apart again. Assumes nothing.
use Rattle.std.proofs.Common.{◌≡◌, ℕ, Bool, true, false, cond, not, ◌&&◌, ◌||◌, ◌⊎◌, sym, refl, inl, inr, arith, rules, le-ltb, lt-ltb, eq-eqb, ne_eqb, le-leb}
use borrow.Author.Tests.{lt-leb, not-true, not-false}

-- "search tests" under "unfolding D" closes a return of a function whose answer is D, a right-nested && of ltb, leb, eqb
pub ruleset tests = (rules, lt-ltb, le-ltb, lt-leb, le-leb, eq-eqb, ne_eqb, not-true, not-false)

-- ---- a callee's answer r of a Bool definition d, and the test on r
pub told_no : (r d : Bool) → r ≡ d → not r ≡ true → d ≡ false
told_no true d e h = absurd (let z : ◌≡◌ {A = ℕ} 0 1 = cc in omega arith)
told_no false d e h = sym e

pub told_yes : (r d : Bool) → r ≡ d → not r ≡ false → d ≡ true
told_yes true d e h = sym e
told_yes false d e h = absurd (let z : ◌≡◌ {A = ℕ} 0 1 = cc in omega arith)

-- ---- into a conjunction, test by test
pub and_no : (a b : Bool) → a ≡ false → false ≡ (a && b)
and_no true b e = absurd (let z : ◌≡◌ {A = ℕ} 0 1 = cc in omega arith)
and_no false b e = refl

pub and_yes : (a b x : Bool) → a ≡ true → x ≡ b → x ≡ (a && b)
and_yes true b x e h = h
and_yes false b x e h = absurd (let z : ◌≡◌ {A = ℕ} 0 1 = cc in omega arith)

-- "search chain depth N" closes a return of a function whose answer is a chain of tests and of callees' answers
pub ruleset chain = (tests, and_no, and_yes, told_no, told_yes)

-- ---- out of a true conjunction
pub both : (a b : Bool) → (a && b) ≡ true → (a ≡ true) × (b ≡ true)
both true b h = (refl, h)
both false b h = absurd (let z : ◌≡◌ {A = ℕ} 0 1 = cc in omega arith)

pub all3 : (a b c : Bool) → (a && (b && c)) ≡ true → (a ≡ true) × (b ≡ true) × (c ≡ true)
all3 a b c h = let p = both a (b && c) h in let q = both b c p.1 in (p.0, q.0, q.1)

pub all4 : (a b c d : Bool) → (a && (b && (c && d))) ≡ true → (a ≡ true) × (b ≡ true) × (c ≡ true) × (d ≡ true)
all4 a b c d h = let p = both a (b && (c && d)) h in let q = all3 b c d p.1 in (p.0, q.0, q.1, q.2)

-- ---- out of an alternative
pub or_cases : (a b : Bool) → (a || b) ≡ true → (a ≡ true) ⊎ (b ≡ true)
or_cases true b h = inl refl
or_cases false b h = inr h

pub or-false : (a b : Bool) → (a || b) ≡ false → (a ≡ false) × (b ≡ false)
or-false false b h = (refl, h)
or-false true b h = absurd (let z : ◌≡◌ {A = ℕ} 0 1 = cc in omega arith)

-- a test that says "where a, b"
pub implied : (a b : Bool) → (not a || b) ≡ true → a ≡ true → b ≡ true
implied true b h e = h
implied false b h e = absurd (let z : ◌≡◌ {A = ℕ} 0 1 = cc in omega arith)

-- ---- into an alternative, and its parts exchanged
pub or_right : (a b : Bool) → b ≡ true → (a || b) ≡ true
or_right true b h = refl
or_right false b h = h

pub or_swap : (a b c : Bool) → (a || (b || c)) ≡ (b || (a || c))
or_swap true true c = refl
or_swap true false c = refl
or_swap false b c = refl

-- ---- what can't be
pub never : {A : Type 0} → false ≡ true → A
never h = absurd (let z : ◌≡◌ {A = ℕ} 0 1 = cc in omega arith)

-- ---- a choice whose test is told
module _ {A : Type 0} where
  pub then_same : (b : Bool) (x y : A) → b ≡ true → cond b x y ≡ x
  then_same true x y e = refl
  then_same false x y e = absurd (let z : ◌≡◌ {A = ℕ} 0 1 = cc in omega arith)

  pub else_same : (b : Bool) (x y : A) → b ≡ false → cond b x y ≡ y
  else_same true x y e = absurd (let z : ◌≡◌ {A = ℕ} 0 1 = cc in omega arith)
  else_same false x y e = refl
