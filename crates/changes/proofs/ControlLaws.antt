-- A control stands once in a record of an update, and has its five bytes. Assumes nothing.
use Prim.Native.Nat.{ℕ, ◌≤◌}
use mathlib.Core.Bool.{Bool, true, false}
use mathlib.Core.List.{List, [], ◌∷◌, append-nil}
use mathlib.Core.Logic.{◌⊎◌, inl, inr, ⊎_elim}
use mathlib.Core.Path.{◌≡◌, refl, sym, ap, ◌∙◌}
use native.Mathlib.Omega.{arith}
use lib.ListN.{length}
use borrow.Author.Tests.{eq-eqb, ne_eqb, not-true}
use Rattle.octets.proofs.Tests.{never}
use Rattle.octets.proofs.Cases.{eq_or_ne}
use Rattle.table.specs.Table.{row_of, table, first}
use Rattle.layout.proofs.KindLaws.{control_row, opens_group}
use Rattle.layout.proofs.Promise.{full_control}
use Rattle.items.specs.Lists.{list_at}
use Rattle.records.specs.Pieces.{Piece}
use Rattle.records.specs.Premises.{pieces_at}
use Rattle.itemfields.specs.Views.{kind_in, laid_in, list_in}
use Rattle.itemfields.proofs.ViewLaws.{list_seen}
use Rattle.itemfields.proofs.JoinLaws.{step, absent}
use Rattle.itemfields.proofs.ReadLaws.{Opened}
use Rattle.changes.specs.Told.{Controlled}

-- what is no list does not come again behind itself
no_more : (update : Bool) (stage : ℕ) (marks : List ℕ) (k : ℕ) (fs : List Piece) → (row_of k).list ≡ false → (row_of k).group ≤ 3 → laid_in update stage marks k fs ≡ true
    → list_in k fs ≡ []
unfolding list_in
no_more update stage marks k [] single low laid = refl
no_more update stage marks k (f ∷ fs) single low laid =
    let j = kind_in f in
    let st = step update stage marks k f fs low laid in
    let group = st.after.group in
    let up = st.after.order in
    let past : (row_of k).order ≡ (row_of j).order → ⊥ = λ e. let r = st.after.again e in never (sym single ∙ (ap (λ (i : ℕ). (row_of i).list) r.0 ∙ r.1)) in
    rw (ne_eqb j k (λ e. past (ap (λ (i : ℕ). (row_of i).order) (sym e))))
    (absent update stage marks j k fs (omega arith) st.more (λ r. past (let down = r.order in omega arith)))

control_once : (update : Bool) (stage : ℕ) (marks : List ℕ) (prev k : ℕ) (fs : List Piece) → (row_of k).control ≡ true → (row_of prev).group ≤ 3
    → laid_in update stage marks prev fs ≡ true → (list_in k fs ≡ []) ⊎ (length (list_in k fs) ≡ 5)
unfolding list_in
control_once update stage marks prev k [] control low laid = inl refl
control_once update stage marks prev k (f ∷ fs) control low laid =
    let j = kind_in f in
    let st = step update stage marks prev f fs low laid in
    let group = st.after.group in
    let rest = control_once update stage marks j k fs control (omega arith) st.more in
    ⊎_elim (λ (same : j ≡ k).
    let one : (row_of j).list ≡ false = rw same (control_row k control).0 in
    let none : list_in k fs ≡ [] = rw same at (no_more update stage marks j fs one (omega arith) st.more) in
    inr (rw (eq-eqb j k same, none, append-nil f.content) (full_control k f.content control (rw same at st.full))))
    (λ (other : j ≡ k → ⊥). rw (ne_eqb j k other) rest)
    (eq_or_ne j k)

-- a field that is no control brings nothing
past_one : (k j : ℕ) (f : Piece) (rest : List Piece) → kind_in f ≡ j → (row_of j).control ≡ false → (row_of k).control ≡ true → list_in k (f ∷ rest) ≡ list_in k rest
unfolding list_in
past_one k j f rest e free control =
    rw (ne_eqb (kind_in f) k (λ x. never (sym free ∙ (ap (λ (i : ℕ). (row_of i).control) (sym e ∙ x) ∙ control))))

first_free : (row_of first).control ≡ false
unfolding row_of table
first_free = refl

pub controlled : (update : Bool) (stage : ℕ) (marks : List ℕ) (aall nall : ℕ) (s : List ℕ) (at : ℕ) → Opened update stage marks aall nall (pieces_at s at) → Controlled s at
controlled update stage marks aall nall s at o =
    let g = opens_group stage (kind_in o.two) o.opening in
    record {
      five = λ k control.
          let e : list_at s at k ≡ list_in k o.rest = list_seen s at k (o.one ∷ o.two ∷ o.rest) o.is
          ∙ (past_one k first o.one (o.two ∷ o.rest) o.head first_free control ∙ past_one k (kind_in o.two) o.two o.rest refl (not-true _ g.1) control) in
          rw e (control_once update stage marks (kind_in o.two) k o.rest control g.0 o.laid);
    }
