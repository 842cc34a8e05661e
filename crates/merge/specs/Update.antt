-- What an update makes of what a chart holds: record by record, in the update's order. Assumes nothing.
use Rattle.std.specs.Prelude.{ℕ, cond, List, [], ◌∷◌, ltb, eqb}

-- A is what a chart holds and U what an update brings. Names are numbers that stand in held order: "vectors by class 110, 120, 130, then
-- features, RCID ascending". `key` is the name of what is held, `name` that of a record of the update; "RUIN 1 insert, 2 delete, 3 modify";
-- `made` is what an insert brings, `edit` what a modify makes of what is held
pub record Change (A U : Type 0) : Type 0 where
  pub key : A → ℕ
  pub name : U → ℕ
  pub ruin : U → ℕ
  pub made : U → A
  pub edit : U → A → A

-- "1 insert": in front of the first that has no lower name
unfoldable pub placed : {A : Type 0} → (A → ℕ) → A → List A → List A
placed key new [] = new ∷ []
placed key new (a ∷ l) = cond (ltb (key a) (key new)) (a ∷ placed key new l) (new ∷ (a ∷ l))

-- "2 delete": all but what has this name
unfoldable pub without : {A : Type 0} → (A → ℕ) → ℕ → List A → List A
without key n [] = []
without key n (a ∷ l) = cond (eqb (key a) n) (without key n l) (a ∷ without key n l)

-- "3 modify": what has this name changes where it stands
unfoldable pub changed : {A : Type 0} → (A → ℕ) → ℕ → (A → A) → List A → List A
changed key n f [] = []
changed key n f (a ∷ l) = cond (eqb (key a) n) (f a) a ∷ changed key n f l

-- one record of the update
unfoldable pub obeyed : {A U : Type 0} → Change A U → U → List A → List A
obeyed by u l =
    cond (eqb (by.ruin u) 1) (placed by.key (by.made u) l)
    (cond (eqb (by.ruin u) 2) (without by.key (by.name u) l) (changed by.key (by.name u) (by.edit u) l))

-- all of them, one after the other
unfoldable pub result : {A U : Type 0} → Change A U → List A → List U → List A
result by held [] = held
result by held (u ∷ us) = result by (obeyed by u held) us

-- what no record of the update names, in its order
unfoldable pub unnamed : {A U : Type 0} → Change A U → List U → List A → List A
unnamed by [] l = l
unnamed by (u ∷ us) l = unnamed by us (without by.key (by.name u) l)
