-- A record whose lists stand in one field each, in held order, has the fields of its held form, but for the running number; its rows are its
-- directory's, its bytes behind 0001 one run of the file's. Assumes nothing.
use Prim.Native.Nat.{ℕ, suc, ◌+◌, ◌-◌, ◌≤◌, ◌<◌}
use mathlib.Core.Bool.{true, false, cond}
use mathlib.Core.List.{List, [], ◌∷◌, ◌++◌}
use mathlib.Core.Logic.{⊎_elim}
use mathlib.Core.Path.{◌≡◌, refl, sym, ap, ◌∙◌}
use native.Mathlib.Nat.{sub-zero}
use native.Mathlib.Omega.{arith}
use lib.ListN.{length, take, drop, get_or}
use lib.Seq.{drop-cons}
use lib.Dec.{eqb}
use borrow.Author.Tests.{ne_eqb, eqb-true}
use Rattle.octets.specs.Number.{byte_at, bytes_of}
use Rattle.octets.proofs.NumberLaws.{bytes_length}
use Rattle.octets.proofs.Cases.{true_or_false, eq_or_ne}
use Rattle.iso8211.specs.Leader.{base_at}
use Rattle.iso8211.specs.Directory.{tag}
use Rattle.iso8211.specs.Field.{count_at, directory_at, field_at}
use Rattle.iso8211.proofs.Promise.{directory_length}
use Rattle.table.specs.Table.{Row, first, unknown, VRID, FRID, FOID, table, as_number, row_of, tag_of, among, kind_of}
use Rattle.table.specs.Text.{bytes}
use Rattle.layout.specs.Record.{kind_at, content_at}
use Rattle.layout.proofs.Promise.{full_first}
use Rattle.items.specs.Identity.{id_at, rcnm_at}
use Rattle.items.specs.Premises.{LaidOut}
use Rattle.items.specs.Lists.{list_at}
use Rattle.records.specs.Pieces.{Piece}
use Rattle.records.specs.Premises.{piece_of, pieces_from, pieces_at}
use Rattle.records.specs.Written.{body_of, rows_for}
use Rattle.items.specs.Item.{item_at}
use Rattle.itemfields.specs.Fields.{piece, item_pieces, vector_kinds, feature_kinds}
use Rattle.itemfields.specs.Views.{list_in}
use Rattle.itemfields.proofs.ViewLaws.{list_seen}
use Rattle.itemrows.specs.Plain.{Writable, tags_of, untaken, Plain}
use Rattle.itemrows.specs.Joined.{field_pieces, id_kinds, kept_pieces, lead_pieces, joined_pieces}
use Rattle.itemrows.proofs.ChosenLaws.{Rising, vector_rising, feature_rising, all_taken}
use Rattle.writing.proofs.FieldLaws.{content_long, filled_as, fields_full, row_is, fields_rows, end_of_fields, fields_bytes}
use Rattle.writing.proofs.CopyLaws.{vector_pieces_lem, feature_pieces_lem}

-- ---- a kind of the table has one tag
past_table : (t : ℕ) → first ≤ cond (eqb t 808464433) first unknown
past_table t =
    ⊎_elim
    (λ (e : eqb t 808464433 ≡ true). rw e (omega arith))
    (λ (e : eqb t 808464433 ≡ false). rw e (omega arith))
    (true_or_false (eqb t 808464433))

among_tag : (other : Row) (rs : List Row) (j t k : ℕ) → j + length rs ≡ first → among rs j t ≡ k → k < first
    → (j ≤ k) × (t ≡ as_number (bytes (get_or rs (k - j) other).tag) 0)
unfolding among
among_tag other [] j t k full e h = absurd (let p = past_table t in omega arith)
among_tag other (r ∷ rs) j t k full e h =
    ⊎_elim
    (λ (same : eqb t (as_number (bytes r.tag) 0) ≡ true).
    let here : j ≡ k = rw same at e in
    let none : k - j ≡ 0 = omega arith in
    (omega arith, rw none (eqb-true t (as_number (bytes r.tag) 0) same)))
    (λ (apart : eqb t (as_number (bytes r.tag) 0) ≡ false).
    let rest = among_tag other rs (suc j) t k (omega arith) (rw apart at e) h in
    let low = rest.0 in
    let one : k - j ≡ suc (k - suc j) = omega arith in
    (omega arith, rw one rest.1))
    (true_or_false (eqb t (as_number (bytes r.tag) 0)))

kind_tag : (t k : ℕ) → kind_of t ≡ k → k < first → t ≡ tag_of k
unfolding kind_of tag_of row_of table
kind_tag t k e h = (among_tag (row_of first) table 0 t k refl e h).1 ∙ rw (sub-zero k)

first_kind : kind_of (tag_of first) ≡ first
unfolding kind_of among tag_of row_of table as_number bytes
first_kind = refl

vrid_kind : kind_of (tag_of VRID) ≡ VRID
unfolding kind_of among tag_of row_of table as_number bytes
vrid_kind = refl

-- ---- a field that is kept, and one that brings nothing to a list
kept_one : (s : List ℕ) (at j n k : ℕ) → (field_at s at j).tag ≡ tag_of k → piece k (content_at s at j) ∷ pieces_from n s at (j + 1) ≡ pieces_from (suc n) s at j
unfolding pieces_from piece_of
kept_one s at j n k e = rw (← e)

list_past : (s : List ℕ) (at j n k : ℕ) → (kind_at s at j ≡ k → ⊥) → list_in k (pieces_from (suc n) s at j) ≡ list_in k (pieces_from n s at (j + 1))
unfolding list_in pieces_from piece_of
list_past s at j n k ne = rw (ne_eqb (kind_at s at j) k ne)

-- the record's own fields, 0001 with this running number
unfoldable pub standing : ℕ → List ℕ → ℕ → List Piece
standing number s at = piece first (bytes_of 2 number) ∷ pieces_from (count_at s at - 1) s at 1

module _ (s : List ℕ) (at : ℕ) (w : Writable s at) (plain : Plain (directory_at s at)) where
  laid : LaidOut s at
  laid = w.laid

  two : 2 ≤ count_at s at
  two = laid.two

  front_kind : kind_at s at 0 ≡ first
  unfolding field_at
  front_kind = ap kind_of plain.front ∙ first_kind

  -- 0001 is three bytes
  front_long : (field_at s at 0).length ≡ 3
  front_long =
      let long = full_first (content_at s at 0) (filled_as s at laid 0 (omega arith) first front_kind) in
      omega (arith, content_long s at laid 0 (omega arith))

  pub id_start : id_at s at ≡ at + base_at s at + 3
  id_start = let g = laid.inside.gapless 0 (omega arith) in let f = laid.inside.front in omega (arith, front_long)

  -- the fields from field j on, where the kinds' tags take them all
  lists_stand : (ks : List ℕ) (low j n due : ℕ) → j + n ≡ count_at s at → Rising low ks → untaken (tags_of ks) (drop j (directory_at s at)) ≡ []
      → (j < count_at s at → (field_at s at j).start ≡ at + base_at s at + due)
      → ((k : ℕ) → low ≤ k → k < first → list_at s at k ≡ list_in k (pieces_from n s at j)) → field_pieces ks (list_at s at) ≡ pieces_from n s at j
  lists_stand ks low j n due long rising none starts are =
      all_taken ks (pieces_from n s at j) due low (list_at s at) rising (fields_full s at laid n j long) (rw (fields_rows s at laid n j due long starts) none) are

  -- 0001 and the field behind it bring nothing to a list of kind k
  list_behind : (n k : ℕ) → count_at s at ≡ suc (suc n) → k < first → (kind_at s at 1 ≡ k → ⊥) → list_at s at k ≡ list_in k (pieces_from n s at 2)
  unfolding pieces_at
  list_behind n k long few ne =
      list_seen s at k (pieces_at s at) refl ∙ ap (λ (c : ℕ). list_in k (pieces_from c s at 0)) long
      ∙ list_past s at 0 (suc n) k (λ (same : kind_at s at 0 ≡ k). omega (arith, front_kind)) ∙ list_past s at 1 n k ne

  -- ---- a vector
  module _ (e : (field_at s at 1).tag ≡ tag_of VRID) (none : untaken (tags_of vector_kinds) (drop 2 (directory_at s at)) ≡ []) where
    vrid : kind_at s at 1 ≡ VRID
    vrid = ap kind_of e ∙ vrid_kind

    is_vector_lem : rcnm_at s at ≡ 100 → ⊥
    is_vector_lem h = let f = (w.known.feature h).is in omega (arith, vrid)

    vector_kept : (n : ℕ) → count_at s at ≡ suc (suc n) → field_pieces vector_kinds (list_at s at) ≡ pieces_from n s at 2
    vector_kept n long =
        lists_stand vector_kinds 4 2 n (3 + (field_at s at 1).length) (omega arith) vector_rising none
        (λ (more : 2 < count_at s at). let g = laid.inside.gapless 1 more in omega (arith, id_start))
        (λ (k : ℕ) (lo : 4 ≤ k) (hi : k < first). list_behind n k long hi (λ (same : kind_at s at 1 ≡ k). omega (arith, vrid)))

    vector_stands : ((i : ℕ) → byte_at s i < 256) → (number n : ℕ) → count_at s at ≡ suc (suc n) → item_pieces number (item_at s at) ≡ standing number s at
    unfolding standing joined_pieces lead_pieces kept_pieces id_kinds
    vector_stands small number n long =
        let rest : count_at s at - 1 ≡ suc n = omega arith in
        vector_pieces_lem s at small w is_vector_lem number
        ∙ rw (vector_kept n long, rest) (ap (λ (fs : List Piece). piece first (bytes_of 2 number) ∷ fs) (kept_one s at 1 n VRID e))

  -- ---- a feature
  module _ (other : (field_at s at 1).tag ≡ tag_of VRID → ⊥) (none : untaken (tags_of feature_kinds) (drop 3 (directory_at s at)) ≡ []) where
    is_feature_lem : rcnm_at s at ≡ 100
    is_feature_lem =
        ⊎_elim
        (λ (e : rcnm_at s at ≡ 100). e)
        (λ (ne : rcnm_at s at ≡ 100 → ⊥). absurd (other (kind_tag (field_at s at 1).tag VRID (w.vector ne).0 (omega arith))))
        (eq_or_ne (rcnm_at s at) 100)

    frid : kind_at s at 1 ≡ FRID
    frid = (w.known.feature is_feature_lem).is

    foid : kind_at s at 2 ≡ FOID
    foid = (w.known.feature is_feature_lem).object

    feature_kept : (n : ℕ) → count_at s at ≡ suc (suc (suc n)) → field_pieces feature_kinds (list_at s at) ≡ pieces_from n s at 3
    feature_kept n long =
        lists_stand feature_kinds 12 3 n (3 + (field_at s at 1).length + (field_at s at 2).length) (omega arith) feature_rising none
        (λ (more : 3 < count_at s at).
        let g = laid.inside.gapless 1 (omega arith) in
        let h = laid.inside.gapless 2 more in
        omega (arith, id_start))
        (λ (k : ℕ) (lo : 12 ≤ k) (hi : k < first).
        list_behind (suc n) k long hi (λ (same : kind_at s at 1 ≡ k). omega (arith, frid))
        ∙ list_past s at 2 n k (λ (same : kind_at s at 2 ≡ k). omega (arith, foid)))

    feature_stands : ((i : ℕ) → byte_at s i < 256) → (number n : ℕ) → count_at s at ≡ suc (suc (suc n)) → item_pieces number (item_at s at) ≡ standing number s at
    unfolding standing joined_pieces lead_pieces kept_pieces id_kinds
    feature_stands small number n long =
        let rest : count_at s at - 1 ≡ suc (suc n) = omega arith in
        let named_one : (field_at s at 1).tag ≡ tag_of FRID = kind_tag (field_at s at 1).tag FRID frid (omega arith) in
        let named_two : (field_at s at 2).tag ≡ tag_of FOID = kind_tag (field_at s at 2).tag FOID foid (omega arith) in
        feature_pieces_lem s at small w is_feature_lem number
        ∙ rw (feature_kept n long, rest)
        (ap (λ (fs : List Piece). piece first (bytes_of 2 number) ∷ fs)
        (ap (λ (fs : List Piece). piece FRID (content_at s at 1) ∷ fs) (kept_one s at 2 n FOID named_two) ∙ kept_one s at 1 (suc n) FRID named_one))

    three : 3 ≤ count_at s at
    three = (w.known.feature is_feature_lem).third

  -- ---- the held form's fields are the record's own
  pub stands : ((i : ℕ) → byte_at s i < 256) → (number : ℕ) → item_pieces number (item_at s at) ≡ standing number s at
  unfolding field_at
  stands small number =
      ⊎_elim
      (λ (v : (tag (get_or (directory_at s at) 1 []) ≡ tag_of VRID) × (untaken (tags_of vector_kinds) (drop 2 (directory_at s at)) ≡ [])).
      vector_stands v.0 v.1 small number (count_at s at - 2) (omega (arith, two)))
      (λ (f : (tag (get_or (directory_at s at) 1 []) ≡ tag_of VRID → ⊥) × (untaken (tags_of feature_kinds) (drop 3 (directory_at s at)) ≡ [])).
      feature_stands f.0 f.1 small number (count_at s at - 3) (omega (arith, three f.0 f.1)))
      plain.lists

  -- with its rows, and its bytes behind 0001
  pub stands_rows : (number : ℕ) → rows_for 0 (standing number s at) ≡ directory_at s at
  unfolding standing rows_for field_at
  stands_rows number =
      let rest : rows_for 3 (pieces_from (count_at s at - 1) s at 1) ≡ drop 1 (directory_at s at) =
      fields_rows s at laid (count_at s at - 1) 1 3 (omega (arith, two)) (λ (more : 1 < count_at s at). id_start) in
      let front : get_or (directory_at s at) 0 [] ≡ tag_of first ∷ 3 ∷ 0 ∷ [] =
      row_is s at 0 0 (omega (arith, two)) (let f = laid.inside.front in omega arith)
      ∙ ap (λ (t : ℕ). t ∷ (field_at s at 0).length ∷ 0 ∷ []) plain.front ∙ ap (λ (n : ℕ). tag_of first ∷ n ∷ 0 ∷ []) front_long in
      rw (bytes_length 2 number, rest)
      (sym (drop-cons (directory_at s at) 0 [] (rw (directory_length s at) (omega (arith, two))) ∙ ap (λ (r : List ℕ). r ∷ drop 1 (directory_at s at)) front))

  pub stands_body : (number : ℕ) → body_of (standing number s at) ≡ bytes_of 2 number ++ (30 ∷ take (end_of_fields s at - id_at s at) (drop (id_at s at) s))
  unfolding standing body_of
  stands_body number =
      let rest : count_at s at - 1 ≡ suc (count_at s at - 2) = omega (arith, two) in
      rw rest (ap (λ (l : List ℕ). bytes_of 2 number ++ (30 ∷ l)) (fields_bytes s at laid (count_at s at - 2) 1 (omega (arith, two))))
