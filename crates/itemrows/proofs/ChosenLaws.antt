-- Fields that are a selection of kinds of lists, in the order of the kinds, are what the held form has for their lists. Assumes nothing.
use Prim.Native.Nat.{ℕ, suc, ◌+◌, ◌≤◌, ◌<◌}
use mathlib.Core.Bool.{true, false}
use mathlib.Core.List.{List, [], ◌∷◌, append-nil}
use mathlib.Core.Logic.{⊎_elim}
use mathlib.Core.Path.{◌≡◌, refl, sym, ap, ◌∙◌}
use native.Mathlib.Omega.{arith}
use lib.ListN.{length}
use lib.Dec.{eqb}
use borrow.Author.Tests.{eq-eqb, ne_eqb, eqb-true}
use Rattle.octets.proofs.Cases.{true_or_false}
use Rattle.entries.proofs.EntriesLaws.{count_few}
use Rattle.table.specs.Table.{first, tag_of, kind_of}
use Rattle.layout.specs.Layout.{shape_of, filled}
use Rattle.layout.proofs.Promise.{full_list}
use Rattle.records.specs.Pieces.{Piece}
use Rattle.records.specs.Written.{rows_for, piece_length}
use Rattle.itemfields.specs.Fields.{vector_kinds, feature_kinds}
use Rattle.itemfields.specs.Views.{kind_in, list_in}
use Rattle.itemfields.proofs.KindLaws.{ListKind, attv, vrpt, sg2d, sg3d, attf, natf, ffpt, fspt}
use Rattle.itemrows.specs.Plain.{tags_of, untaken}
use Rattle.itemrows.specs.Joined.{field_piece, field_pieces}

-- kinds of lists, ascending, from `low` on
pub data Rising : ℕ → List ℕ → Type 0 where
  rising_none : {low : ℕ} → Rising low []
  rising_more : {low k : ℕ} {ks : List ℕ} → low ≤ k → k < first → ListKind k → Rising (suc k) ks → Rising low (k ∷ ks)

pub vector_rising : Rising 4 vector_kinds
vector_rising =
    rising_more {low = 4} {k = 4} (omega arith) (omega arith) attv
    (rising_more {low = 5} {k = 6} (omega arith) (omega arith) vrpt
    (rising_more {low = 7} {k = 8} (omega arith) (omega arith) sg2d (rising_more {low = 9} {k = 9} (omega arith) (omega arith) sg3d rising_none)))

pub feature_rising : Rising 12 feature_kinds
feature_rising =
    rising_more {low = 12} {k = 12} (omega arith) (omega arith) attf
    (rising_more {low = 13} {k = 13} (omega arith) (omega arith) natf
    (rising_more {low = 14} {k = 15} (omega arith) (omega arith) ffpt (rising_more {low = 16} {k = 17} (omega arith) (omega arith) fspt rising_none)))

-- fields each of which is filled by its subfields
pub data Full : List Piece → Type 0 where
  full_none : Full []
  full_more : {f : Piece} {fs : List Piece} → filled (kind_in f) f.content ≡ true → Full fs → Full (f ∷ fs)

-- a selection of these kinds, in their order, none of them empty
data Chosen : List ℕ → List Piece → Type 0 where
  chosen_none : Chosen [] []
  chosen_skip : {k : ℕ} {ks : List ℕ} {fs : List Piece} → Chosen ks fs → Chosen (k ∷ ks) fs
  chosen_take : {k : ℕ} {ks : List ℕ} {f : Piece} {fs : List Piece} → f.named ≡ tag_of k → 1 ≤ length f.content → Chosen ks fs → Chosen (k ∷ ks) (f ∷ fs)

-- ---- what no tag takes
pub untaken_none : (ts : List ℕ) → untaken ts [] ≡ []
unfolding untaken
untaken_none [] = refl
untaken_none (t ∷ ts) = refl

chosen_nil : (ks : List ℕ) → Chosen ks []
chosen_nil [] = chosen_none
chosen_nil (k ∷ ks) = chosen_skip (chosen_nil ks)

-- a list field holds a byte at least
some_content : (k : ℕ) (f : Piece) → ListKind k → f.named ≡ tag_of k → filled (kind_in f) f.content ≡ true → 1 ≤ length f.content
some_content k f kind e full =
    let here : kind_in f ≡ k = ap kind_of e ∙ kind.named in
    let whole = full_list k f.content kind.list (ap (λ (q : ℕ). filled q f.content) (sym here) ∙ full) in
    let some = whole.1 in
    omega (arith, count_few (shape_of k) f.content)

chosen : (ks : List ℕ) (fs : List Piece) (due low : ℕ) → Rising low ks → Full fs → untaken (tags_of ks) (rows_for due fs) ≡ [] → Chosen ks fs
unfolding untaken tags_of rows_for
chosen [] [] due low r a e = chosen_none
chosen [] (f ∷ fs) due low r a e = absurd (let z = ap length e in omega arith)
chosen (k ∷ ks) [] due low r a e = chosen_nil (k ∷ ks)
chosen (k ∷ ks) (f ∷ fs) due low (rising_more lo hi kind more) (full_more full rest) e =
    ⊎_elim
    (λ (t : eqb f.named (tag_of k) ≡ true).
    let same = eqb-true f.named (tag_of k) t in
    chosen_take same (some_content k f kind same full) (chosen ks fs (due + piece_length f) (suc k) more rest (rw t at e)))
    (λ (no_match : eqb f.named (tag_of k) ≡ false). chosen_skip (chosen ks (f ∷ fs) due (suc k) more (full_more full rest) (rw no_match at e)))
    (true_or_false (eqb f.named (tag_of k)))

-- ---- their lists
absent : (k low : ℕ) {ks : List ℕ} {fs : List Piece} → Chosen ks fs → Rising low ks → k < low → list_in k fs ≡ []
unfolding list_in
absent k low chosen_none r h = refl
absent k low (chosen_skip {k = j} more) (rising_more lo hi kind rest) h = absent k (suc j) more rest (omega arith)
absent k low (chosen_take {k = j} {f = f} e some more) (rising_more lo hi kind rest) h =
    let here : kind_in f ≡ j = ap kind_of e ∙ kind.named in
    rw (ne_eqb (kind_in f) k (λ (same : kind_in f ≡ k). omega arith)) (absent k (suc j) more rest (omega arith))

piece_is : (k : ℕ) (f : Piece) → f.named ≡ tag_of k → 1 ≤ length f.content → field_piece k f.content ≡ f ∷ []
unfolding field_piece
piece_is k f e some = by f.content refl some
  where
    by : (c : List ℕ) → f.content ≡ c → 1 ≤ length c → field_piece k c ≡ f ∷ []
    by [] same h = absurd (omega arith)
    by (b ∷ bs) same h = ap (λ (p : Piece). p ∷ []) (rw (← same, ← e))

chosen_fields : (low : ℕ) {ks : List ℕ} {fs : List Piece} (bytes : ℕ → List ℕ) → Chosen ks fs → Rising low ks
    → ((k : ℕ) → low ≤ k → k < first → bytes k ≡ list_in k fs) → field_pieces ks bytes ≡ fs
unfolding field_pieces field_piece list_in
chosen_fields low bytes chosen_none r are = refl
chosen_fields low bytes (chosen_skip {k = k} {fs = fs} more) (rising_more lo hi kind rest) are =
    let none : bytes k ≡ [] = are k lo hi ∙ absent k (suc k) more rest (omega arith) in
    rw none (chosen_fields (suc k) bytes more rest (λ (j : ℕ) (from : suc k ≤ j) (to : j < first). are j (omega arith) to))
chosen_fields low bytes (chosen_take {k = k} {f = f} {fs = fs} e some more) (rising_more lo hi kind rest) are =
    let here : kind_in f ≡ k = ap kind_of e ∙ kind.named in
    let mine : bytes k ≡ f.content =
    are k lo hi ∙ rw (eq-eqb (kind_in f) k here, absent k (suc k) more rest (omega arith)) (append-nil f.content) in
    let others : (j : ℕ) → suc k ≤ j → j < first → bytes j ≡ list_in j fs =
    λ (j : ℕ) (from : suc k ≤ j) (to : j < first). are j (omega arith) to ∙ rw (ne_eqb (kind_in f) j (λ (same : kind_in f ≡ j). omega arith)) in
    rw (mine, piece_is k f e some, chosen_fields (suc k) bytes more rest others)

-- where the kinds' tags take all rows, the fields are the held form of their lists
pub all_taken : (ks : List ℕ) (fs : List Piece) (due low : ℕ) (bytes : ℕ → List ℕ) → Rising low ks → Full fs → untaken (tags_of ks) (rows_for due fs) ≡ []
    → ((k : ℕ) → low ≤ k → k < first → bytes k ≡ list_in k fs) → field_pieces ks bytes ≡ fs
all_taken ks fs due low bytes rising full none are = chosen_fields low bytes (chosen ks fs due low rising full none) rising are
