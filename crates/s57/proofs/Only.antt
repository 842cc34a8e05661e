-- A call's promise has one answer and one final content of each area: no second satisfies it. The records are those of the contracts themselves.
-- Assumes nothing.
use Prim.Native.Nat.{ℕ}
use mathlib.Core.List.{List}
use mathlib.Core.Path.{◌≡◌, sym, ◌∙◌}
use Rattle.s57.specs.Returned.{Judged, Admitted, Applied}

pub judge_only : {cell work answer a b v w : List ℕ} {r q : ℕ} → Judged cell work answer a v r → Judged cell work answer b w q → (r ≡ q) × (a ≡ b) × (v ≡ w)
judge_only f g = (f.code ∙ sym g.code, f.area ∙ sym g.area, f.zero ∙ sym g.zero)

pub admit_only : {cell out work answer g h a b v w : List ℕ} {r q : ℕ} → Admitted cell out work answer g a v r → Admitted cell out work answer h b w q
    → (r ≡ q) × (g ≡ h) × (a ≡ b) × (v ≡ w)
admit_only f g = (f.code ∙ sym g.code, f.output ∙ sym g.output, f.area ∙ sym g.area, f.zero ∙ sym g.zero)

pub apply_only : {cell update out work answer g h a b v w : List ℕ} {r q : ℕ} → Applied cell update out work answer g a v r → Applied cell update out work answer h b w q
    → (r ≡ q) × (g ≡ h) × (a ≡ b) × (v ≡ w)
apply_only f g = (f.code ∙ sym g.code, f.output ∙ sym g.output, f.area ∙ sym g.area, f.zero ∙ sym g.zero)
