-- The promise of Show has one part, at one place, one answer and one final content of each area: no second satisfies it. Assumes nothing.
use Prim.Native.Nat.{ℕ}
use mathlib.Core.List.{List}
use mathlib.Core.Path.{◌≡◌, sym, ◌∙◌}
use Rattle.show.specs.Shows.{Shows}

pub show_only : {cell update work answer a b v w x y : List ℕ} {rcnm rcid : ℕ} {here there p q : ℕ × ℕ} → Shows cell update work v answer a rcnm rcid x here there p
    → Shows cell update work w answer b rcnm rcid y here there q → (x ≡ y) × (a ≡ b) × (v ≡ w) × (p ≡ q)
show_only f g = (f.bytes ∙ sym g.bytes, f.area ∙ sym g.area, f.zero ∙ sym g.zero, f.place ∙ sym g.place)
