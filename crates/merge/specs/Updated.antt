-- The update's result as proofs take it: a walk along the names, and what is asked of the lists for it to be `result`. Nothing here need be
-- believed. Assumes nothing.
use Rattle.std.specs.Prelude.{ℕ, ◌<◌, Bool, true, cond, List, [], ◌∷◌, ◌≡◌, ltb, eqb}
use Rattle.merge.specs.Update.{Change}
use Rattle.merge.specs.Targets.{target_good}

-- of a change the walk asks only whether it deletes: it inserts where its name isn't held
pub record Rules (A U : Type 0) : Type 0 where
  pub key : A → ℕ
  pub name : U → ℕ
  pub gone : U → Bool
  pub made : U → A
  pub edit : U → A → A

abbrev pub rules_of : {A U : Type 0} → Change A U → Rules A U
rules_of {A} {U} by = record { key = by.key; name = by.name; gone = λ (u : U). eqb (by.ruin u) 2; made = by.made; edit = by.edit }

-- one change: what has its name goes, or is modified, where it stands; where nothing has it, what the change brings comes in, in front of the
-- first thing of a higher name
unfoldable pub worked : {A U : Type 0} → Rules A U → U → List A → List A
worked by u [] = by.made u ∷ []
worked by u (a ∷ l) =
    cond (ltb (by.key a) (by.name u)) (a ∷ worked by u l)
    (cond (ltb (by.name u) (by.key a)) (by.made u ∷ (a ∷ l)) (cond (by.gone u) l (by.edit u a ∷ l)))

-- all changes, whatever their order: no two have one name
unfoldable pub updated : {A U : Type 0} → Rules A U → List A → List U → List A
updated by held [] = held
updated by held (u ∷ us) = worked by u (updated by held us)

-- ---- what is asked of the lists
-- every name of l is above n
pub data Over {A : Type 0} (key : A → ℕ) (n : ℕ) : List A → Type 0 where
  over_none : Over key n []
  over_more : {a : A} {l : List A} → n < key a → Over key n l → Over key n (a ∷ l)

-- each name of l is above those before it
pub data Rising {A : Type 0} (key : A → ℕ) : List A → Type 0 where
  rise_none : Rising key []
  rise_more : {a : A} {l : List A} → Over key (key a) l → Rising key l → Rising key (a ∷ l)

-- what a modify leaves has the name that it had
pub record Named {A U : Type 0} (by : Rules A U) : Type 0 where
  pub keep : (u : U) (a : A) → by.key (by.edit u a) ≡ by.key a

-- what these changes insert has their names
pub data AllMade {A U : Type 0} (by : Rules A U) : List U → Type 0 where
  made_none : AllMade by []
  made_more : {u : U} {us : List U} → by.key (by.made u) ≡ by.name u → AllMade by us → AllMade by (u ∷ us)

-- none of these names is n
pub data Differs {U : Type 0} (name : U → ℕ) (n : ℕ) : List U → Type 0 where
  diff_none : Differs name n []
  diff_more : {u : U} {us : List U} → (n ≡ name u → ⊥) → Differs name n us → Differs name n (u ∷ us)

-- no two of these names are the same
pub data Apart {U : Type 0} (name : U → ℕ) : List U → Type 0 where
  apart_none : Apart name []
  apart_more : {u : U} {us : List U} → Differs name (name u) us → Apart name us → Apart name (u ∷ us)

-- each of these changes has a good target in what is held before all of them
pub data AllFit {A U : Type 0} (by : Change A U) (held : List A) : List U → Type 0 where
  fit_none : AllFit by held []
  fit_more : {u : U} {us : List U} → target_good by held u ≡ true → AllFit by held us → AllFit by held (u ∷ us)
