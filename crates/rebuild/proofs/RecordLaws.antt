-- What was written in front of the lists and the lists are the record of the object that a modify makes. Assumes nothing.
use Prim.Native.Nat.{ℕ, ◌+◌, ◌-◌, ◌≤◌, ◌<◌}
use mathlib.Core.Bool.{true, false}
use mathlib.Core.List.{List, [], ◌∷◌, ◌++◌, flatten, append_assoc}
use mathlib.Core.Logic.{⊎_elim}
use mathlib.Core.Path.{◌≡◌, refl, sym, ap, ◌∙◌}
use native.Mathlib.Nat.{zero-add}
use native.Mathlib.Omega.{arith}
use lib.ListN.{length, take, drop, get_or, length-append, get_or-append}
use lib.Seq.{get_or-append-add, get_or-drop}
use borrow.Author.Tests.{eq-eqb, ne_eqb}
use Rattle.octets.specs.Number.{byte_at, num_at, bytes_of}
use Rattle.octets.specs.Area.{Has, Wrote}
use Rattle.octets.proofs.AreaLaws.{wrote_has, wrote_length, wrote_back}
use Rattle.octets.proofs.Cases.{le_or_lt, true_or_false}
use Rattle.iso8211.specs.Field.{field_at}
use Rattle.entries.specs.declared.Shape.{Shape}
use Rattle.entries.specs.Entries.{Each}
use Rattle.entries.specs.Entries.Each.{each_none, each_more}
use Rattle.entries.proofs.EntriesLaws.{each_entries}
use Rattle.table.specs.Table.{first, VRID, FRID, FOID, tag_of, row_of, table, as_number}
use Rattle.table.specs.Text.{bytes}
use Rattle.layout.specs.Layout.{shape_of}
use Rattle.items.specs.Premises.{Featured}
use Rattle.items.specs.Identity.{id_at, rcnm_at, rcid_at, prim_at, objl_at, foid_at, version_at}
use Rattle.items.specs.Lists.{list_at, entries_at}
use Rattle.records.specs.Pieces.{Piece}
use Rattle.records.specs.Written.{body_of, rows_for, head_bytes, record_bytes, size_of}
use Rattle.records.proofs.WrittenLaws.{record_length}
use Rattle.items.specs.Item.{list_of, grup_at, of_feature, is_feature, item_at}
use Rattle.itemfields.specs.Fields.{piece, list_piece, list_pieces, vector_kinds, feature_kinds, vrid_bytes, frid_bytes, vector_pieces, feature_pieces, item_pieces}
use Rattle.itemfields.proofs.BytesLaws.{num_bytes}
use Rattle.itemfields.proofs.IdLaws.{vrid_long, frid_long}
use Rattle.edits.specs.Lists.{lists_edited}
use Rattle.edits.proofs.ListsLaws.{lists_each}
use Rattle.itemrows.specs.Plain.{tags_of}
use Rattle.itemrows.specs.Joined.{field_piece, field_pieces, sum_of, list_rows}
use Rattle.itemrows.proofs.RowLaws.{four_is}
use Rattle.joining.proofs.PartLaws.{body_append}
use Rattle.writing.proofs.JoinedLaws.{lengths, rows_append, lists_rows, lists_sum}
use Rattle.itemrows.proofs.PlanLaws.{Planned}
use Rattle.asheld.proofs.PartLaws.{join}
use Rattle.writing.proofs.CopyLaws.{list_piece_lem, byte_as}
use Rattle.changes.specs.Change.{Amendment, amendment_at, edit_of}
use Rattle.changes.specs.Amend.{kinds_of}
use Rattle.changes.specs.Updated.{amended}
use Rattle.amend.specs.Sides.{list_bytes, Totaled}
use Rattle.raising.specs.Record.{Editable, edited_pieces, EditedPut, ListsPut, vector_head, feature_head, version_bytes, id_front, foid_bytes}

-- ---- bytes that stand
has_join : {s : List ℕ} {i j : ℕ} (xs ys : List ℕ) → Has s i xs → Has s j ys → j ≡ i + length xs → Has s i (xs ++ ys)
has_join {s} {i} {j} xs ys f g e = record {
  room = rw (length-append xs ys) (omega (arith, g.room));
  byte = λ (k : ℕ) (h : k < length (xs ++ ys)).
      ⊎_elim (λ (past : length xs ≤ k).
      let n = k - length xs in
      let place : i + k ≡ j + n = omega arith in
      let index : k ≡ length xs + n = omega arith in
      ap (λ (p : ℕ). byte_at s p) place ∙ g.byte n (omega (arith, length-append xs ys)) ∙ sym (ap (λ (p : ℕ). byte_at (xs ++ ys) p) index ∙ get_or-append-add xs ys n 0))
      (λ (less : k < length xs). f.byte k less ∙ sym (get_or-append xs ys 0 k less)) (le_or_lt (length xs) k);
}

-- what is written in front of them leaves them
has_behind : {a b : List ℕ} {p q i : ℕ} {xs : List ℕ} (ys : List ℕ) → Wrote a p xs b q → q ≤ i → Has a i ys → Has b i ys
has_behind {a} {b} {p} {q} {i} ys w past h = record {
  room = omega (arith, h.room, wrote_length w);
  byte = λ (k : ℕ) (less : k < length ys).
      let n = i + k - q in
      let place : i + k ≡ q + n = omega arith in
      ap (λ (m : ℕ). byte_at b m) place ∙ sym (get_or-drop q b n 0) ∙ ap (λ (l : List ℕ). get_or l n 0) (wrote_back w) ∙ get_or-drop q a n 0
      ∙ ap (λ (m : ℕ). byte_at a m) (sym place) ∙ h.byte k less;
}

-- ---- fields and lists, whatever the fields are
total_lengths : {bytes : ℕ → List ℕ} {kinds totals : List ℕ} → Totaled bytes kinds totals → length kinds ≡ 4 → totals ≡ lengths bytes kinds
unfolding lengths
total_lengths {bytes} {kinds} {totals} tot long =
    four_is totals tot.four
    ∙ rw (tot.is 0 (omega arith), tot.is 1 (omega arith), tot.is 2 (omega arith), tot.is 3 (omega arith)) (sym (ap (lengths bytes) (four_is kinds long)))

module _ (front : List Piece) (fixed : ℕ) (rows : List (List ℕ)) (led : rows ≡ rows_for 0 front) (long : length (body_of front) ≡ fixed) (bytes : ℕ → List ℕ) (kinds totals : List ℕ)
    (four : length kinds ≡ 4) where
  planned : Totaled bytes kinds totals → Planned (front ++ field_pieces kinds bytes) (rows ++ list_rows fixed (tags_of kinds) totals) (fixed + sum_of totals)
  planned tot =
      let lists = field_pieces kinds bytes in
      let are = total_lengths tot four in
      let back : list_rows fixed (tags_of kinds) totals ≡ rows_for (0 + length (body_of front)) lists = rw (long, zero-add fixed, are) (sym (lists_rows kinds bytes fixed)) in
      let sum : sum_of totals ≡ length (body_of lists) = ap sum_of are ∙ sym (lists_sum kinds bytes) in
      let both = ap length (body_append front lists) ∙ length-append (body_of front) (body_of lists) in
      record { rows_are = rw (led, back) (sym (rows_append 0 front lists)); long = omega arith }

  module _ {a d : List ℕ} {r : ℕ} (put : ListsPut bytes kinds a totals)
      (w : Wrote a r (head_bytes (rows ++ list_rows fixed (tags_of kinds) totals) (fixed + sum_of totals) ++ body_of front) d 256) where
    head_is : head_bytes (rows ++ list_rows fixed (tags_of kinds) totals) (fixed + sum_of totals)
        ≡ head_bytes (rows_for 0 (front ++ field_pieces kinds bytes)) (length (body_of (front ++ field_pieces kinds bytes)))
    head_is = let plan = planned put.totaled in rw (plan.rows_are, plan.long)

    bytes_are : (head_bytes (rows ++ list_rows fixed (tags_of kinds) totals) (fixed + sum_of totals) ++ body_of front) ++ body_of (field_pieces kinds bytes)
        ≡ record_bytes (front ++ field_pieces kinds bytes)
    unfolding record_bytes
    bytes_are =
        append_assoc (head_bytes (rows ++ list_rows fixed (tags_of kinds) totals) (fixed + sum_of totals)) (body_of front) (body_of (field_pieces kinds bytes))
        ∙ rw (head_is, body_append front (field_pieces kinds bytes))

    stands : Has d r (record_bytes (front ++ field_pieces kinds bytes))
    stands =
        rw (← bytes_are)
        (has_join (head_bytes (rows ++ list_rows fixed (tags_of kinds) totals) (fixed + sum_of totals) ++ body_of front) (body_of (field_pieces kinds bytes)) (wrote_has w)
        (has_behind (body_of (field_pieces kinds bytes)) w (omega arith) put.has) w.end)

    size : size_of (front ++ field_pieces kinds bytes) ≤ 300000
    size =
        let e = length-append (head_bytes (rows ++ list_rows fixed (tags_of kinds) totals) (fixed + sum_of totals) ++ body_of front) (body_of (field_pieces kinds bytes)) in
        let short = put.short in
        omega (arith, ap length bytes_are, record_length (front ++ field_pieces kinds bytes), w.end)

-- ---- the lists of the result as fields
each_of : (s : List ℕ) (at k : ℕ) → Each (shape_of k) (list_of s at k)
unfolding list_of entries_at
each_of s at k =
    ⊎_elim (λ (t : (row_of k).list ≡ true). rw t (each_entries (shape_of k) (list_at s at k))) (λ (f : (row_of k).list ≡ false). rw f each_none)
    (true_or_false (row_of k).list)

none_flat : {sh : Shape} (es : List (List ℕ)) → Each sh es → flatten es ≡ [] → es ≡ []
unfolding flatten
none_flat [] each e = refl
none_flat (x ∷ es) (each_more one rest) e = absurd (let z = ap length e in let some = one.some in omega (arith, length-append x (flatten es)))

module _ (cell : List ℕ) (at : ℕ) (update : List ℕ) (by : ℕ) where
  piece_same : (k : ℕ) → list_piece k (lists_edited (edit_of (amendment_at update by)) (item_at cell at).lists k) ≡ field_piece k (list_bytes cell at update by k)
  piece_same k =
      let u = edit_of (amendment_at update by) in
      list_piece_lem k (lists_edited u (item_at cell at).lists k) (list_bytes cell at update by k) refl
      (none_flat (lists_edited u (item_at cell at).lists k) (lists_each u (item_at cell at).lists k (each_of cell at k) (each_of update by k)))

  pieces_same : (ks : List ℕ) → list_pieces ks (lists_edited (edit_of (amendment_at update by)) (item_at cell at).lists) ≡ field_pieces ks (list_bytes cell at update by)
  unfolding list_pieces field_pieces
  pieces_same [] = refl
  pieces_same (k ∷ ks) = rw (piece_same k, pieces_same ks)

-- ---- the identifier fields: RVER and RUIN behind what the record of the cell has
close : (p c : List ℕ) → (p ++ (c ++ (1 ∷ []))) ++ (30 ∷ []) ≡ p ++ (c ++ (1 ∷ 30 ∷ []))
close p c = append_assoc p (c ++ (1 ∷ [])) (30 ∷ []) ∙ ap (λ (l : List ℕ). p ++ l) (append_assoc c (1 ∷ []) (30 ∷ []))

nest : (a b c d e x : List ℕ) → a ++ (b ++ (c ++ (d ++ (e ++ x)))) ≡ (a ++ (b ++ (c ++ (d ++ e)))) ++ x
nest a b c d e x =
    sym (append_assoc a (b ++ (c ++ (d ++ e))) x
    ∙ ap (λ (l : List ℕ). a ++ l) (append_assoc b (c ++ (d ++ e)) x
    ∙ ap (λ (l : List ℕ). b ++ l) (append_assoc c (d ++ e) x ∙ ap (λ (l : List ℕ). c ++ l) (append_assoc d e x))))

module _ (s : List ℕ) (at : ℕ) (small : (i : ℕ) → byte_at s i < 256) where
  five : id_at s at + 8 ≤ length s → bytes_of 1 (rcnm_at s at) ++ bytes_of 4 (rcid_at s at) ≡ take 5 (drop (id_at s at) s)
  unfolding rcnm_at rcid_at
  five room =
      rw (byte_as s at small (id_at s at) (byte_at s (id_at s at)) refl (omega arith), num_bytes s small 4 (id_at s at + 1) (omega arith))
      (join s (id_at s at) (id_at s at + 1) 1 4 refl (omega arith))

  nine_join : (p : ℕ) (a b c d e : List ℕ) → a ≡ take 1 (drop p s) → b ≡ take 4 (drop (p + 1) s) → c ≡ take 1 (drop (p + 5) s) → d ≡ take 1 (drop (p + 6) s)
      → e ≡ take 2 (drop (p + 7) s) → p + 9 ≤ length s → a ++ (b ++ (c ++ (d ++ e))) ≡ take 9 (drop p s)
  nine_join p a b c d e ea eb ec ed ee h =
      rw (
        ea,
        eb,
        ec,
        ed,
        ee,
        join s (p + 6) (p + 7) 1 2 (omega arith) (omega arith),
        join s (p + 5) (p + 6) 1 3 (omega arith) (omega arith),
        join s (p + 1) (p + 5) 4 4 (omega arith) (omega arith),
      )
      (join s p (p + 1) 1 8 (omega arith) (omega arith))

  nine : id_at s at + 12 ≤ length s
      → bytes_of 1 (rcnm_at s at) ++ (bytes_of 4 (rcid_at s at) ++ (bytes_of 1 (prim_at s at) ++ (bytes_of 1 (grup_at s at) ++ bytes_of 2 (objl_at s at)))) ≡ take 9 (drop (id_at s at) s)
  unfolding rcnm_at rcid_at prim_at grup_at objl_at
  nine room =
      nine_join (id_at s at) (bytes_of 1 (byte_at s (id_at s at))) (bytes_of 4 (num_at s (id_at s at + 1) 4)) (bytes_of 1 (byte_at s (id_at s at + 5))) (bytes_of 1 (byte_at s (id_at s at + 6)))
      (bytes_of 2 (num_at s (id_at s at + 7) 2)) (byte_as s at small (id_at s at) (byte_at s (id_at s at)) refl (omega arith)) (num_bytes s small 4 (id_at s at + 1) (omega arith))
      (byte_as s at small (id_at s at + 5) (byte_at s (id_at s at + 5)) refl (omega arith)) (byte_as s at small (id_at s at + 6) (byte_at s (id_at s at + 6)) refl (omega arith))
      (num_bytes s small 2 (id_at s at + 7) (omega arith)) (omega arith)

  -- ---- a vector
  module _ (a : Amendment) (room : id_at s at + 8 ≤ length s) where
    vrid_is : vrid_bytes (amended a (item_at s at)) ≡ take 5 (drop (id_at s at) s) ++ (bytes_of 2 (version_at s at + 1) ++ (1 ∷ []))
    unfolding vrid_bytes amended
    vrid_is =
        sym (append_assoc (bytes_of 1 (rcnm_at s at)) (bytes_of 4 (rcid_at s at)) (bytes_of 2 (version_at s at + 1) ++ (1 ∷ [])))
        ∙ ap (λ (l : List ℕ). l ++ (bytes_of 2 (version_at s at + 1) ++ (1 ∷ []))) (five room)

    vector_fields : List Piece
    vector_fields = piece first (bytes_of 2 0) ∷ piece VRID (vrid_bytes (amended a (item_at s at))) ∷ []

    vector_body : body_of vector_fields ≡ id_front s at 5 (version_at s at + 1)
    unfolding body_of vector_fields id_front version_bytes
    vector_body =
        let lead = take 5 (drop (id_at s at) s) in
        let v = bytes_of 2 (version_at s at + 1) in
        ap (λ (l : List ℕ). bytes_of 2 0 ++ (30 ∷ (l ++ (30 ∷ [])))) vrid_is ∙ ap (λ (l : List ℕ). bytes_of 2 0 ++ (30 ∷ l)) (close lead v)
        ∙ sym (append_assoc (bytes_of 2 0) (30 ∷ lead) (v ++ (1 ∷ 30 ∷ [])))

    vector_long : length (body_of vector_fields) ≡ 12
    unfolding body_of vector_fields bytes_of
    vector_long = omega (arith, length-append (vrid_bytes (amended a (item_at s at))) (30 ∷ []), vrid_long (amended a (item_at s at)))

    vector_rows : (808464433 ∷ 3 ∷ 0 ∷ []) ∷ (1448233284 ∷ 9 ∷ 3 ∷ []) ∷ [] ≡ rows_for 0 vector_fields
    unfolding rows_for vector_fields bytes_of tag_of row_of table as_number bytes
    vector_rows = rw (vrid_long (amended a (item_at s at)))

  -- ---- a feature
  module _ (a : Amendment) (of : Featured s at) (hundred : rcnm_at s at ≡ 100) where
    as_feature : (v : ℕ) → of_feature (rcnm_at s at) v ≡ v
    unfolding of_feature is_feature
    as_feature v = rw (eq-eqb (rcnm_at s at) 100 hundred)

    frid_is : frid_bytes (amended a (item_at s at)) ≡ take 9 (drop (id_at s at) s) ++ (bytes_of 2 (version_at s at + 1) ++ (1 ∷ []))
    unfolding frid_bytes amended
    frid_is =
        rw (as_feature (prim_at s at), as_feature (grup_at s at), as_feature (objl_at s at))
        (nest (bytes_of 1 (rcnm_at s at)) (bytes_of 4 (rcid_at s at)) (bytes_of 1 (prim_at s at)) (bytes_of 1 (grup_at s at)) (bytes_of 2 (objl_at s at))
        (bytes_of 2 (version_at s at + 1) ++ (1 ∷ []))
        ∙ ap (λ (l : List ℕ). l ++ (bytes_of 2 (version_at s at + 1) ++ (1 ∷ []))) (nine of.long))

    foid_is : bytes_of 8 (of_feature (rcnm_at s at) (foid_at s at)) ++ (30 ∷ []) ≡ foid_bytes s at
    unfolding foid_bytes foid_at
    foid_is = rw (as_feature (foid_at s at), num_bytes s small 8 (field_at s at 2).start of.whole)

    feature_fields : List Piece
    feature_fields =
        piece first (bytes_of 2 0) ∷ piece FRID (frid_bytes (amended a (item_at s at))) ∷ piece FOID (bytes_of 8 (of_feature (rcnm_at s at) (foid_at s at))) ∷ []

    feature_body : body_of feature_fields ≡ id_front s at 9 (version_at s at + 1) ++ foid_bytes s at
    unfolding body_of feature_fields id_front version_bytes
    feature_body =
        let lead = take 9 (drop (id_at s at) s) in
        let v = bytes_of 2 (version_at s at + 1) in
        let frid = frid_bytes (amended a (item_at s at)) in
        let back = bytes_of 8 (of_feature (rcnm_at s at) (foid_at s at)) ++ (30 ∷ []) in
        ap (λ (l : List ℕ). bytes_of 2 0 ++ (30 ∷ l)) (sym (append_assoc frid (30 ∷ []) back))
        ∙ ap (λ (l : List ℕ). bytes_of 2 0 ++ (30 ∷ ((l ++ (30 ∷ [])) ++ back))) frid_is
        ∙ ap (λ (l : List ℕ). bytes_of 2 0 ++ (30 ∷ (l ++ back))) (close lead v)
        ∙ sym (append_assoc (bytes_of 2 0) (30 ∷ (lead ++ (v ++ (1 ∷ 30 ∷ [])))) back)
        ∙ ap (λ (l : List ℕ). l ++ back) (sym (append_assoc (bytes_of 2 0) (30 ∷ lead) (v ++ (1 ∷ 30 ∷ []))))
        ∙ ap (λ (l : List ℕ). ((bytes_of 2 0 ++ (30 ∷ lead)) ++ (v ++ (1 ∷ 30 ∷ []))) ++ l) foid_is

    feature_long : length (body_of feature_fields) ≡ 25
    unfolding body_of feature_fields bytes_of
    feature_long =
        let frid = frid_bytes (amended a (item_at s at)) in
        omega (arith, length-append frid (30 ∷ (bytes_of 8 (of_feature (rcnm_at s at) (foid_at s at)) ++ (30 ∷ []))), frid_long (amended a (item_at s at)))

    feature_rows : (808464433 ∷ 3 ∷ 0 ∷ []) ∷ (1179797828 ∷ 13 ∷ 3 ∷ []) ∷ (1179601220 ∷ 9 ∷ 16 ∷ []) ∷ [] ≡ rows_for 0 feature_fields
    unfolding rows_for feature_fields bytes_of tag_of row_of table as_number bytes
    feature_rows = rw (frid_long (amended a (item_at s at)))

vector_kinds_lem : (n : ℕ) → (n ≡ 100 → ⊥) → vector_kinds ≡ kinds_of n
unfolding kinds_of is_feature
vector_kinds_lem n ne = rw (ne_eqb n 100 ne)

feature_kinds_lem : (n : ℕ) → n ≡ 100 → feature_kinds ≡ kinds_of n
unfolding kinds_of is_feature
feature_kinds_lem n e = rw e

module _ {cell : List ℕ} {at : ℕ} {update : List ℕ} {by : ℕ} (able : Editable cell at update by) (small : (i : ℕ) → byte_at cell i < 256) where
  vector_are : (rcnm_at cell at ≡ 100 → ⊥) → edited_pieces cell at update by
      ≡ vector_fields cell at small (amendment_at update by) able.paired.known.long ++ field_pieces vector_kinds (list_bytes cell at update by)
  unfolding item_pieces is_feature vector_pieces amended vector_fields
  vector_are ne = rw (ne_eqb (rcnm_at cell at) 100 ne, pieces_same cell at update by vector_kinds)

  feature_are : (hundred : rcnm_at cell at ≡ 100) (of : Featured cell at) → edited_pieces cell at update by
      ≡ feature_fields cell at small (amendment_at update by) of hundred ++ field_pieces feature_kinds (list_bytes cell at update by)
  unfolding item_pieces is_feature feature_pieces amended feature_fields
  feature_are hundred of = rw (eq-eqb (rcnm_at cell at) 100 hundred, pieces_same cell at update by feature_kinds)

-- ---- the record, r being RCNM as it was read
module _ {cell : List ℕ} {at : ℕ} {update : List ℕ} {by : ℕ} (able : Editable cell at update by) (small : (i : ℕ) → byte_at cell i < 256) {before area totals : List ℕ}
    (put : ListsPut (list_bytes cell at update by) (kinds_of (rcnm_at cell at)) before totals) (rcnm place : ℕ) (read : (rcnm ≡ rcnm_at cell at) × (rcnm < 256)) where
  made : (fs : List Piece) → 1 ≤ place → edited_pieces cell at update by ≡ fs → Has area place (record_bytes fs) → size_of fs ≤ 300000 → EditedPut cell at update by area place
  made fs some e has few =
      let same : Has area place (record_bytes (edited_pieces cell at update by)) = rw e has in
      record { has = same; some = some; fits = omega (arith, same.room, record_length (edited_pieces cell at update by)); small = rw e few }

  pub vector_made : (rcnm ≡ 100 → ⊥) → Wrote before place (vector_head totals ++ id_front cell at 5 (version_at cell at + 1)) area 256 × (1 ≤ place)
      → EditedPut cell at update by area place
  unfolding vector_head
  vector_made other (w, some) =
      let a = amendment_at update by in
      let room = able.paired.known.long in
      let front = vector_fields cell at small a room in
      let rows : List (List ℕ) = (808464433 ∷ 3 ∷ 0 ∷ []) ∷ (1448233284 ∷ 9 ∷ 3 ∷ []) ∷ [] in
      let ne : rcnm_at cell at ≡ 100 → ⊥ = λ (e : rcnm_at cell at ≡ 100). other (read.0 ∙ e) in
      let lists : ListsPut (list_bytes cell at update by) vector_kinds before totals = rw (vector_kinds_lem (rcnm_at cell at) ne) put in
      let wrote = rw (← (vector_body cell at small a room)) at w in
      made (front ++ field_pieces vector_kinds (list_bytes cell at update by)) some (vector_are able small ne)
      (stands front 12 rows (vector_rows cell at small a room) (vector_long cell at small a room) (list_bytes cell at update by) vector_kinds totals refl lists wrote)
      (size front 12 rows (vector_rows cell at small a room) (vector_long cell at small a room) (list_bytes cell at update by) vector_kinds totals refl lists wrote)

  pub feature_made : rcnm ≡ 100 → Wrote before place (feature_head totals ++ (id_front cell at 9 (version_at cell at + 1) ++ foid_bytes cell at)) area 256 × (1 ≤ place)
      → EditedPut cell at update by area place
  unfolding feature_head
  feature_made is (w, some) =
      let a = amendment_at update by in
      let hundred = sym read.0 ∙ is in
      let of = able.paired.known.feature hundred in
      let front = feature_fields cell at small a of hundred in
      let rows : List (List ℕ) = (808464433 ∷ 3 ∷ 0 ∷ []) ∷ (1179797828 ∷ 13 ∷ 3 ∷ []) ∷ (1179601220 ∷ 9 ∷ 16 ∷ []) ∷ [] in
      let lists : ListsPut (list_bytes cell at update by) feature_kinds before totals = rw (feature_kinds_lem (rcnm_at cell at) hundred) put in
      let wrote = rw (← (feature_body cell at small a of hundred)) at w in
      made (front ++ field_pieces feature_kinds (list_bytes cell at update by)) some (feature_are able small hundred of)
      (stands front 25 rows (feature_rows cell at small a of hundred) (feature_long cell at small a of hundred) (list_bytes cell at update by) feature_kinds totals refl lists wrote)
      (size front 25 rows (feature_rows cell at small a of hundred) (feature_long cell at small a of hundred) (list_bytes cell at update by) feature_kinds totals refl lists wrote)
