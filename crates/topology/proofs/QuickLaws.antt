-- Laws of what is seen quickly: what the front of a record tells, and an item without fault. Assumes nothing.
use Prim.Native.Nat.{ℕ, ◌+◌, ◌-◌, ◌≤◌}
use mathlib.Core.Bool.{Bool, true}
use mathlib.Core.List.{List, [], ◌∷◌}
use mathlib.Core.Path.{◌≡◌, sym, ap, ◌∙◌}
use native.Mathlib.Omega.{arith}
use lib.ListN.{length, take, drop}
use Rattle.octets.specs.Number.{num_at}
use Rattle.octets.specs.Premises.{Reads}
use Rattle.iso8211.specs.Field.{field_at}
use Rattle.iso8211.specs.Premises.{HeadOf}
use Rattle.iso8211.specs.declared.field.Head.{Head}
use Rattle.table.specs.Table.{VRPT}
use Rattle.answers.specs.First.{first_by}
use Rattle.items.specs.Lists.{entries_at}
use Rattle.items.specs.Identity.{id_at, rcnm_at, foid_at}
use Rattle.items.specs.Item.{Item}
use Rattle.items.specs.Premises.{LaidOut, Listed, Identified, Featured}
use Rattle.items.proofs.KindLaws.{vrpt_list}
use Rattle.ring.specs.Walk.{ends_with}
use Rattle.spans.specs.Spans.{Reached, FrontTold, SpanOf}
use Rattle.spans.specs.declared.Span.{Span}
use Rattle.spans.specs.declared.Front.{Front}
use Rattle.spans.specs.declared.Front.TheVariants.{Vector, Feature}
use Rattle.spans.proofs.StrideLaws.{vrpt_lies}
use Rattle.quickvectors.specs.Quick.{Quick}
use Rattle.quickvectors.proofs.VectorLaws.{two_entries}
use Rattle.quickfeatures.specs.Quick.{Drawn}
use Rattle.topology.specs.Topology.{item_code}
use Rattle.topology.specs.Notes.{noted_code}

-- ---- the front of a record: f is the answer
module _ (s : List ℕ) (at : ℕ) (h : Head) (f : Front) (told : FrontTold s at h f) (id due : ℕ) where
  module _ (is : f ≡ Vector id due) where
    vector_front : (id ≡ id_at s at) × (rcnm_at s at ≡ 100 → ⊥) × Reached s at h 2 due
    unfolding FrontTold
    vector_front = rw is at told

    pub vector_id : id ≡ id_at s at
    vector_id = vector_front.0

    pub vector_reached : Reached s at h 2 due
    vector_reached = vector_front.2

  module _ (is : f ≡ Feature id due) where
    feature_front : (id ≡ id_at s at) × (rcnm_at s at ≡ 100) × Reached s at h 3 due × (id + 13 ≡ (field_at s at 2).start)
    unfolding FrontTold
    feature_front = rw is at told

    pub feature_id : id ≡ id_at s at
    feature_id = feature_front.0

    pub feature_class : rcnm_at s at ≡ 100
    feature_class = feature_front.1

    pub feature_reached : Reached s at h 3 due
    feature_reached = feature_front.2

    -- FOID stands there
    pub foid_room : Identified s at → id + 21 ≤ length s
    foid_room known = let whole = (known.feature feature_class).whole in let place = feature_front.3 in omega arith

    pub foid_read : (r : ℕ) → Reads s (id + 13) 8 r → r ≡ foid_at s at
    unfolding foid_at
    foid_read r read = read.is ∙ ap (λ (i : ℕ). num_at s i 8) feature_front.3

-- ---- a feature without fault, whatever COMF
pub drawn_quick : (comf : ℕ) (work : List ℕ) (m v : ℕ) (i : Item) (r : Bool) → Drawn work m v i r → Quick comf work m v i r
drawn_quick comf work m v i r drawn = record { is = λ (e : r ≡ true). drawn.is e comf }

-- ---- an item without fault has no code
pub quick_code : (comf : ℕ) (work : List ℕ) (m v : ℕ) (i : Item) (r : Bool) → Quick comf work m v i r → r ≡ true → 0 ≡ noted_code comf work m v i
unfolding item_code first_by
quick_code comf work m v i r quick e = let none = quick.is e in rw (none.shape, none.pointer, none.ring)

-- ---- the notes
pub edge_listed : (s : List ℕ) (at : ℕ) (h : Head) → LaidOut s at → HeadOf s at h → Listed s at h VRPT
edge_listed s at h laid head = record { laid = laid; head = head; list = vrpt_list }

pub feature_told : (s : List ℕ) (at : ℕ) → Identified s at → rcnm_at s at ≡ 100 → Featured s at
feature_told s at known class = known.feature class

pub ends_told : (s : List ℕ) (at : ℕ) (ends : Span) (r : ℕ) → SpanOf s at 1448235092 ends → ends.from ≤ ends.to → ends.to - ends.from ≡ 18
    → r ≡ ends_with (take (ends.from + 9 - ends.from) (drop ends.from s) ∷ take (ends.to - (ends.from + 9)) (drop (ends.from + 9) s) ∷ [])
    → r ≡ ends_with (entries_at s at VRPT)
ends_told s at ends r of order size told =
    let l = vrpt_lies s at ends of order in
    told ∙ ap ends_with (sym (l.are ∙ two_entries s ends.from ends.to size l.within))
