-- A vector or a feature written in the held form: laid out, of good values, and read back. Assumes nothing.
use Prim.Native.Nat.{ℕ, ◌+◌, ◌≤◌, ◌<◌}
use mathlib.Core.Bool.{Bool, true, false, cond, ◌||◌}
use mathlib.Core.List.{List, [], ◌∷◌, ◌++◌, flatten, append-nil}
use mathlib.Core.Logic.{◌⊎◌, inl, inr, ⊎_elim}
use mathlib.Core.Path.{◌≡◌, refl, sym, ap, ◌∙◌, fun_ext}
use native.Mathlib.Nat.{add-zero}
use native.Mathlib.Omega.{arith}
use lib.ListN.{length, get_or}
use lib.Dec.{eqb}
use borrow.Author.Tests.{eq-eqb, ne_eqb, eqb-true, eqb-false}
use Rattle.octets.proofs.ListLaws.{has_self}
use Rattle.octets.specs.Lists.{is_in}
use Rattle.octets.specs.Number.{byte_at, num_at, bytes_of}
use Rattle.octets.proofs.Cases.{true_or_false}
use Rattle.octets.proofs.Tests.{both, or_cases}
use Rattle.entries.specs.Rules.{all_of}
use Rattle.octets.proofs.NumberLaws.{bytes_length, num_read}
use Rattle.iso8211.specs.Field.{field_at}
use Rattle.entries.proofs.EntriesLaws.{cut_joined}
use Rattle.table.specs.Table.{table, row_of, tag_of, kind_of, among, as_number, first, VRID, ATTV, VRPT, SG2D, SG3D, FRID, FOID}
use Rattle.table.specs.Text.{bytes}
use Rattle.values.specs.Vrid.{is_vector, vrid_fault}
use Rattle.values.specs.Frid.{frid_fault}
use Rattle.layout.specs.Layout.{opens, follows, placed, filled, start}
use Rattle.fieldvalue.specs.Value.{is_attributes, field_fault, seen_before, seen_after}
use Rattle.items.specs.Lists.{entries_at}
use Rattle.items.specs.Identity.{id_at, rcnm_at, rcid_at, prim_at, objl_at, foid_at, version_at}
use Rattle.items.proofs.IdentityLaws.{num_one}
use Rattle.records.specs.Pieces.{Piece}
use Rattle.records.specs.Premises.{pieces_at}
use Rattle.itemfields.specs.Views.{piece_laid, laid_in, valued_in, list_in}
use Rattle.items.specs.Item.{is_feature, grup_at, of_feature, list_of, Item, item_at}
use Rattle.itemfields.specs.Fields.{piece, list_piece, list_pieces, vector_kinds, feature_kinds, vrid_bytes, frid_bytes, vector_pieces, feature_pieces}
use Rattle.itemfields.specs.Good.{Lists, Vector, Feature}
use Rattle.itemfields.proofs.KindLaws.{Chain, pairs_chain, soundings_chain, feature_chain}
use Rattle.itemfields.proofs.KindLaws.Chain.{chain_none, chain_more}
use Rattle.itemfields.proofs.ViewLaws.{list_seen, number_seen}
use Rattle.itemfields.proofs.LaidLaws.{Declared, laid_lists, valued_lists}
use Rattle.itemfields.proofs.IdLaws.{vrid_long, frid_long, VridRead, FridRead, vrid_read, frid_read, vrid_fine, frid_fine}

-- ---- the head of a record
-- a field that is no list, of n bytes, as the table has it
pub record Single (k n : ℕ) : Type 0 where
  pub named : kind_of (tag_of k) ≡ k
  pub declared : {marks : List ℕ} → Declared marks → get_or marks k 0 ≡ 1
  pub fills : (c : List ℕ) → length c ≡ n → filled k c ≡ true
  pub single : (row_of k).list ≡ false

single_first : Single first 2
unfolding kind_of among tag_of row_of table as_number bytes filled
single_first = record { named = refl; declared = λ d. d.is first (omega arith) refl; fills = λ c e. eq-eqb (length c) 2 e; single = refl }

single_vrid : Single VRID 8
unfolding kind_of among tag_of row_of table as_number bytes filled
single_vrid = record { named = refl; declared = λ d. d.is VRID (omega arith) refl; fills = λ c e. eq-eqb (length c) 8 e; single = refl }

single_frid : Single FRID 12
unfolding kind_of among tag_of row_of table as_number bytes filled
single_frid = record { named = refl; declared = λ d. d.is FRID (omega arith) refl; fills = λ c e. eq-eqb (length c) 12 e; single = refl }

single_foid : Single FOID 8
unfolding kind_of among tag_of row_of table as_number bytes filled
single_foid = record { named = refl; declared = λ d. d.is FOID (omega arith) refl; fills = λ c e. eq-eqb (length c) 8 e; single = refl }

laid_single : (update : Bool) (stage : ℕ) {marks : List ℕ} (prev : ℕ) {k n : ℕ} (c : List ℕ) (rest : List Piece) → Declared marks → Single k n
    → placed update stage prev k ≡ true → length c ≡ n
    → laid_in update stage marks k rest ≡ true → laid_in update stage marks prev (piece k c ∷ rest) ≡ true
unfolding laid_in piece_laid
laid_single update stage prev {k} c rest d kind place long more = rw (kind.named, place, eq-eqb _ _ (kind.declared d), kind.fills c long) more

-- of the two lists of coordinates one is empty
one_list : (t : Item) → (t.lists SG2D ≡ []) ⊎ (t.lists SG3D ≡ [])
    → (list_pieces vector_kinds t.lists ≡ list_pieces (ATTV ∷ VRPT ∷ SG2D ∷ []) t.lists) ⊎ (list_pieces vector_kinds t.lists ≡ list_pieces (ATTV ∷ VRPT ∷ SG3D ∷ []) t.lists)
unfolding list_pieces list_piece
one_list t e = ⊎_elim (λ (p : t.lists SG2D ≡ []). inr (rw p)) (λ (p : t.lists SG3D ≡ []). inl (rw p)) e

-- ---- laid out
pub laid_vector : (n : ℕ) (t : Item) {aall nall : ℕ} {marks : List ℕ} → Vector false aall nall t → Declared marks → laid_in false 2 marks start (vector_pieces n t) ≡ true
unfolding vector_pieces placed opens row_of table
laid_vector n t {marks = marks} v d =
    let ls = t.lists in
    let each = v.lists.each in
    let lists : laid_in false 2 marks VRID (list_pieces vector_kinds ls) ≡ true =
    ⊎_elim (λ (e : list_pieces vector_kinds ls ≡ list_pieces (ATTV ∷ VRPT ∷ SG2D ∷ []) ls). rw e (laid_lists false 2 ls d each pairs_chain))
    (λ (e : list_pieces vector_kinds ls ≡ list_pieces (ATTV ∷ VRPT ∷ SG3D ∷ []) ls). rw e (laid_lists false 2 ls d each soundings_chain)) (one_list t v.either) in
    laid_single false 2 start (bytes_of 2 n) _ d single_first refl (bytes_length 2 n)
    (laid_single false 2 first (vrid_bytes t) _ d single_vrid refl (vrid_long t) lists)

pub laid_feature : (stage n : ℕ) (t : Item) {aall nall : ℕ} {marks : List ℕ} → (stage ≡ 2) ⊎ (stage ≡ 3) → Feature false aall nall t → Declared marks
    → laid_in false stage marks start (feature_pieces n t) ≡ true
unfolding feature_pieces placed opens follows row_of table
laid_feature stage n t due f d =
    let opened : placed false stage first FRID ≡ true = ⊎_elim (λ (e : stage ≡ 2). rw e) (λ (e : stage ≡ 3). rw e) due in
    laid_single false stage start (bytes_of 2 n) _ d single_first refl (bytes_length 2 n)
    (laid_single false stage first (frid_bytes t) _ d single_frid opened (frid_long t)
    (laid_single false stage FRID (bytes_of 8 t.foid) _ d single_foid refl (bytes_length 8 t.foid)
    (laid_lists false stage t.lists d f.lists.each feature_chain)))

-- ---- of good values
valued_single : (aall nall prev : ℕ) {k n : ℕ} (seen c : List ℕ) (rest : List Piece) → Single k n → field_fault false aall nall k (seen_before prev k seen) c ≡ 0
    → ((met : List ℕ) → valued_in false aall nall k met rest ≡ true) → valued_in false aall nall prev seen (piece k c ∷ rest) ≡ true
unfolding valued_in
valued_single aall nall prev {k} seen c rest kind none more = rw (kind.named, none) (more (seen_after k (seen_before prev k seen) c))

fault_first : (aall nall : ℕ) (seen c : List ℕ) → field_fault false aall nall first seen c ≡ 0
unfolding field_fault is_attributes
fault_first aall nall seen c = refl

fault_foid : (aall nall : ℕ) (seen c : List ℕ) → field_fault false aall nall FOID seen c ≡ 0
unfolding field_fault is_attributes
fault_foid aall nall seen c = refl

fault_vrid : (aall nall : ℕ) (seen c : List ℕ) → field_fault false aall nall VRID seen c ≡ vrid_fault false c
unfolding field_fault
fault_vrid aall nall seen c = refl

fault_frid : (aall nall : ℕ) (seen c : List ℕ) → field_fault false aall nall FRID seen c ≡ frid_fault false c
unfolding field_fault
fault_frid aall nall seen c = refl

pub class_small : (rcnm : ℕ) → is_vector rcnm ≡ true → (rcnm < 256) × (101 ≤ rcnm)
unfolding is_vector
class_small rcnm h =
    ⊎_elim (λ (a : eqb rcnm 110 ≡ true). let e = eqb-true rcnm 110 a in (omega arith, omega arith))
    (λ (a : (eqb rcnm 120 || eqb rcnm 130) ≡ true).
    ⊎_elim (λ (b : eqb rcnm 120 ≡ true). let e = eqb-true rcnm 120 b in (omega arith, omega arith))
    (λ (b : eqb rcnm 130 ≡ true). let e = eqb-true rcnm 130 b in (omega arith, omega arith)) (or_cases _ _ a))
    (or_cases _ _ h)

vector_id : (t : Item) {aall nall : ℕ} → Vector false aall nall t → VridRead (vrid_bytes t) t
vector_id t v = let a = v.id_high in let b = v.version_high in vrid_read t (class_small t.rcnm v.class).0 (omega arith) (omega arith)

feature_id : (t : Item) {aall nall : ℕ} → Feature false aall nall t → FridRead (frid_bytes t) t
feature_id t f = let a = f.id_high in let b = f.version_high in let c = f.class in frid_read t (omega arith) (omega arith) f.prim_small f.grup_small f.objl_small
    (omega arith)

pub valued_vector : (n : ℕ) (t : Item) {aall nall : ℕ} → Vector false aall nall t → valued_in false aall nall start [] (vector_pieces n t) ≡ true
unfolding vector_pieces
valued_vector n t {aall} {nall} v =
    let ls = t.lists in
    let each = v.lists.each in
    let good = v.lists.good in
    let lists : (met : List ℕ) → valued_in false aall nall VRID met (list_pieces vector_kinds ls) ≡ true =
    λ met. ⊎_elim (λ (e : list_pieces vector_kinds ls ≡ list_pieces (ATTV ∷ VRPT ∷ SG2D ∷ []) ls). rw e (valued_lists false aall nall ls each good pairs_chain met))
    (λ (e : list_pieces vector_kinds ls ≡ list_pieces (ATTV ∷ VRPT ∷ SG3D ∷ []) ls). rw e (valued_lists false aall nall ls each good soundings_chain met)) (one_list t v.either) in
    valued_single aall nall start [] (bytes_of 2 n) _ single_first (fault_first aall nall _ _)
    (λ met. valued_single aall nall first met (vrid_bytes t) _ single_vrid
    (fault_vrid aall nall (seen_before first VRID met) (vrid_bytes t) ∙ vrid_fine (vrid_bytes t) t (vector_id t v) v.class v.id_low v.id_high v.version_low) lists)

pub valued_feature : (n : ℕ) (t : Item) {aall nall : ℕ} → Feature false aall nall t → valued_in false aall nall start [] (feature_pieces n t) ≡ true
unfolding feature_pieces
valued_feature n t {aall} {nall} f =
    valued_single aall nall start [] (bytes_of 2 n) _ single_first (fault_first aall nall _ _)
    (λ met. valued_single aall nall first met (frid_bytes t) _ single_frid
    (fault_frid aall nall (seen_before first FRID met) (frid_bytes t) ∙ frid_fine (frid_bytes t) t (feature_id t f) f.class f.id_low f.id_high f.prim_is_good f.objl_is_good
    f.version_low)
    (λ more. valued_single aall nall FRID more (bytes_of 8 t.foid) _ single_foid (fault_foid aall nall _ _)
    (valued_lists false aall nall t.lists f.lists.each f.lists.good feature_chain)))

-- ---- read back: lists
-- what a list field brings to the list of kind k
list_piece_lem : (k j : ℕ) (es : List (List ℕ)) (rest : List Piece) → kind_of (tag_of j) ≡ j → list_in k (list_piece j es ++ rest) ≡ cond (eqb j k) (flatten es) [] ++ list_in k rest
unfolding list_in list_piece flatten
list_piece_lem k j [] rest e = rw (same_either (eqb j k))
  where
    same_either : (b : Bool) → ◌≡◌ {A = List ℕ} (cond b [] []) []
    same_either true = refl
    same_either false = refl
list_piece_lem k j (e ∷ es) rest is = rw is

chain_apart : {prev : ℕ} {ks : List ℕ} → Chain prev ks → is_in prev ks ≡ false
unfolding is_in
chain_apart (chain_none end) = refl
chain_apart {prev} (chain_more {k = k} kind b here there) =
    rw (ne_eqb k prev (λ e. eqb-false prev k b.other (sym e)), chain_apart here)

-- the list of kind k, where its kind is among these
lists_back : {prev : ℕ} {ks : List ℕ} (ls : ℕ → List (List ℕ)) (k : ℕ) → Chain prev ks → list_in k (list_pieces ks ls) ≡ cond (is_in k ks) (flatten (ls k)) []
unfolding list_pieces list_in is_in
lists_back ls k (chain_none end) = refl
lists_back ls k (chain_more {k = j} {ks = ks} kind b here there) =
    list_piece_lem k j (ls j) (list_pieces ks ls) kind.named ∙ ⊎_elim
    (λ (e : eqb j k ≡ true).
    let same : j ≡ k = eqb-true j k e in
    let apart : is_in k ks ≡ false = rw same at (chain_apart there) in
    rw (e, lists_back ls k there, apart, same) (append-nil (flatten (ls k))))
    (λ (e : eqb j k ≡ false). rw (e, lists_back ls k there)) (true_or_false (eqb j k))

-- a field that is no list brings nothing to a list
single_past : {j n : ℕ} (k : ℕ) (c : List ℕ) (rest : List Piece) → Single j n → (row_of k).list ≡ true → list_in k (piece j c ∷ rest) ≡ list_in k rest
unfolding list_in
single_past {j} k c rest kind list =
    let other : eqb j k ≡ false = ne_eqb j k (λ e. let f : (row_of k).list ≡ false = rw e at kind.single in let z : ◌≡◌ {A = Bool} false true = cc in let y : ◌≡◌ {A = ℕ} 0 1 =
    cc in omega arith) in
    rw (kind.named, other)

pub kinds_list : (ks : List ℕ) (k : ℕ) → all_of (λ j. (row_of j).list) ks ≡ true → is_in k ks ≡ true → (row_of k).list ≡ true
unfolding all_of is_in
kinds_list [] k all h = absurd (let z : ◌≡◌ {A = ℕ} 0 1 = cc in omega arith)
kinds_list (j ∷ ks) k all h =
    let p = both (row_of j).list (all_of (λ i. (row_of i).list) ks) all in
    ⊎_elim (λ (e : eqb j k ≡ true). rw (eqb-true j k e) at p.0) (λ (e : is_in k ks ≡ true). kinds_list ks k p.1 e) (or_cases _ _ h)

-- lists of some kinds alone, read back from the fields that they were written to
all_back : {prev aall nall : ℕ} {ks kinds : List ℕ} (ls : ℕ → List (List ℕ)) (s : List ℕ) (at : ℕ) (fs : List Piece) → pieces_at s at ≡ fs → Chain prev ks
    → Lists false aall nall kinds ls
    → all_of (λ j. (row_of j).list) kinds ≡ true → ((k : ℕ) → is_in k ks ≡ false → ls k ≡ []) → ((k : ℕ) → (row_of k).list ≡ true → list_in k fs ≡ list_in k (list_pieces ks ls))
    → (k : ℕ) → list_of s at k ≡ ls k
unfolding list_of entries_at flatten
all_back {ks = ks} {kinds = kinds} ls s at fs is chain lists all none head k =
    ⊎_elim (λ (l : (row_of k).list ≡ true).
    let joined : list_in k (list_pieces ks ls) ≡ flatten (ls k) = lists_back ls k chain ∙ ⊎_elim (λ (i : is_in k ks ≡ true). rw i) (λ (i : is_in k ks ≡ false). rw (i, none k i))
    (true_or_false (is_in k ks)) in
    rw (l, list_seen s at k fs is, head k l, joined) (cut_joined (lists.each k)))
    (λ (l : (row_of k).list ≡ false).
    ⊎_elim (λ (i : is_in k kinds ≡ true). absurd (let y = kinds_list kinds k all i in let z : ◌≡◌ {A = Bool} false true = cc in let x : ◌≡◌ {A = ℕ} 0 1 = cc in omega arith))
    (λ (i : is_in k kinds ≡ false). rw (l, lists.only k i)) (true_or_false (is_in k kinds)))
    (true_or_false (row_of k).list)

-- ---- read back: the object
-- a number of the identifier field
pub id_seen : (s : List ℕ) (at : ℕ) (a b : Piece) (rest : List Piece) (p k : ℕ) → pieces_at s at ≡ a ∷ b ∷ rest → p + k ≤ length b.content
    → num_at s (id_at s at + p) k ≡ num_at b.content p k
id_seen s at a b rest p k e room = number_seen s at (a ∷ b ∷ rest) 1 a p k e (omega arith) room

pub at_front : (s : List ℕ) (i : ℕ) → byte_at s i ≡ num_at s (i + 0) 1
at_front s i = sym (num_one s i) ∙ ap (λ (j : ℕ). num_at s j 1) (sym (add-zero i))

no_pairs : (ls : ℕ → List (List ℕ)) → ls SG2D ≡ [] → list_pieces vector_kinds ls ≡ list_pieces (ATTV ∷ VRPT ∷ SG3D ∷ []) ls
unfolding list_pieces list_piece
no_pairs ls e = rw e

no_soundings : (ls : ℕ → List (List ℕ)) → ls SG3D ≡ [] → list_pieces vector_kinds ls ≡ list_pieces (ATTV ∷ VRPT ∷ SG2D ∷ []) ls
unfolding list_pieces list_piece
no_soundings ls e = rw e

vector_rest : (t : Item) {aall nall : ℕ} → Vector false aall nall t → (s : List ℕ) (at : ℕ) (n : ℕ) → pieces_at s at ≡ vector_pieces n t → (k : ℕ) → list_of s at k ≡ t.lists k
unfolding vector_pieces is_in all_of row_of table
vector_rest t v s at n is k =
    let ls = t.lists in
    let fs = vector_pieces n t in
    let only = v.lists.only in
    let head : (j : ℕ) → (row_of j).list ≡ true → list_in j fs ≡ list_in j (list_pieces vector_kinds ls) =
    λ j l. single_past j (bytes_of 2 n) _ single_first l ∙ single_past j (vrid_bytes t) _ single_vrid l in
    ⊎_elim (λ (e : ls SG2D ≡ []).
    all_back ls s at fs is soundings_chain v.lists refl
    (λ j i. ⊎_elim (λ (q : eqb SG2D j ≡ true). rw (← (eqb-true SG2D j q)) e) (λ (q : eqb SG2D j ≡ false). only j (rw q i)) (true_or_false (eqb SG2D j)))
    (λ j l. head j l ∙ ap (list_in j) (no_pairs ls e)) k)
    (λ (e : ls SG3D ≡ []).
    all_back ls s at fs is pairs_chain v.lists refl
    (λ j i. ⊎_elim (λ (q : eqb SG3D j ≡ true). rw (← (eqb-true SG3D j q)) e) (λ (q : eqb SG3D j ≡ false). only j (rw q i)) (true_or_false (eqb SG3D j)))
    (λ j l. head j l ∙ ap (list_in j) (no_soundings ls e)) k)
    v.either

bare_is : (a b c p g o f : ℕ) (ls : ℕ → List (List ℕ)) → (p ≡ 0) × (g ≡ 0) × (o ≡ 0) × (f ≡ 0)
    → ◌≡◌ {A = Item} (record { rcnm = a; rcid = b; version = c; prim = 0; grup = 0; objl = 0; foid = 0; lists = ls })
    (record { rcnm = a; rcid = b; version = c; prim = p; grup = g; objl = o; foid = f; lists = ls })
bare_is a b c p g o f ls e = rw (e.0, e.1, e.2, e.3)

pub vector_back : (t : Item) {aall nall : ℕ} → Vector false aall nall t → (s : List ℕ) (at : ℕ) (n : ℕ) → pieces_at s at ≡ vector_pieces n t → item_at s at ≡ t
unfolding rcnm_at rcid_at version_at of_feature is_feature vector_pieces
vector_back t v s at n is =
    let r = vector_id t v in
    let long = r.long in
    let other = class_small t.rcnm v.class in
    let rest = list_pieces vector_kinds t.lists in
    let a : byte_at s (id_at s at) ≡ t.rcnm = at_front s (id_at s at) ∙ id_seen s at _ _ rest 0 1 is (omega arith) ∙ r.rcnm_is in
    let b : num_at s (id_at s at + 1) 4 ≡ t.rcid = id_seen s at _ _ rest 1 4 is (omega arith) ∙ r.rcid_is in
    let c : num_at s (id_at s at + 5) 2 ≡ t.version = id_seen s at _ _ rest 5 2 is (omega arith) ∙ r.version_is in
    let ls : list_of s at ≡ t.lists = fun_ext (vector_rest t v s at n is) in
    rw (a, b, c, ls, ne_eqb t.rcnm 100 (λ e. omega arith)) (bare_is t.rcnm t.rcid t.version t.prim t.grup t.objl t.foid t.lists v.bare)

pub feature_back : (t : Item) {aall nall : ℕ} → Feature false aall nall t → (s : List ℕ) (at : ℕ) (n : ℕ) → pieces_at s at ≡ feature_pieces n t → item_at s at ≡ t
unfolding rcnm_at rcid_at version_at prim_at grup_at objl_at foid_at of_feature is_feature feature_pieces is_in all_of row_of table
feature_back t f s at n is =
    let r = feature_id t f in
    let long = r.long in
    let ls = t.lists in
    let fs = feature_pieces n t in
    let rest = piece FOID (bytes_of 8 t.foid) ∷ list_pieces feature_kinds ls in
    let a : byte_at s (id_at s at) ≡ t.rcnm = at_front s (id_at s at) ∙ id_seen s at _ _ rest 0 1 is (omega arith) ∙ r.rcnm_is in
    let b : num_at s (id_at s at + 1) 4 ≡ t.rcid = id_seen s at _ _ rest 1 4 is (omega arith) ∙ r.rcid_is in
    let c : byte_at s (id_at s at + 5) ≡ t.prim = sym (num_one s (id_at s at + 5)) ∙ id_seen s at _ _ rest 5 1 is (omega arith) ∙ r.prim_is in
    let d : byte_at s (id_at s at + 6) ≡ t.grup = sym (num_one s (id_at s at + 6)) ∙ id_seen s at _ _ rest 6 1 is (omega arith) ∙ r.grup_is in
    let e : num_at s (id_at s at + 7) 2 ≡ t.objl = id_seen s at _ _ rest 7 2 is (omega arith) ∙ r.objl_is in
    let g : num_at s (id_at s at + 9) 2 ≡ t.version = id_seen s at _ _ rest 9 2 is (omega arith) ∙ r.version_is in
    let o : num_at s (field_at s at 2).start 8 ≡ t.foid =
    ap (λ (i : ℕ). num_at s i 8) (sym (add-zero (field_at s at 2).start)) ∙ number_seen s at fs 2 (piece FOID []) 0 8 is (omega arith)
    (rw (bytes_length 8 t.foid) (omega arith)) ∙ num_read 8 t.foid f.foid_small (has_self (bytes_of 8 t.foid)) in
    let lists : list_of s at ≡ ls = fun_ext (all_back ls s at fs is feature_chain f.lists refl f.lists.only
    (λ j l. single_past j (bytes_of 2 n) _ single_first l ∙ single_past j (frid_bytes t) _ single_frid l ∙ single_past j (bytes_of 8 t.foid) _ single_foid l)) in
    rw (a, b, c, d, e, g, o, lists, eq-eqb t.rcnm 100 f.class)
