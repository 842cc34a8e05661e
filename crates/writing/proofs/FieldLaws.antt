-- The fields of a record as they stand: their bytes, and all of them as rows and as one run of bytes. Assumes nothing.
use Prim.Native.Nat.{ℕ, zero, suc, ◌+◌, ◌-◌, ◌*◌, ◌≤◌, ◌<◌}
use mathlib.Core.Bool.{true}
use mathlib.Core.List.{List, [], ◌∷◌, ◌++◌, append_assoc}
use mathlib.Core.Path.{◌≡◌, refl, sym, ap, ◌∙◌}
use native.Mathlib.Numerals.{add-one}
use native.Mathlib.Omega.{arith}
use lib.ListN.{length, take, drop, get_or, length-drop, drop_of_length-le}
use lib.Seq.{length-take-le, take-suc, drop-cons, get_or-drop}
use Rattle.octets.specs.Number.{byte_at}
use Rattle.iso8211.specs.Leader.{base_at, length_digits, position_digits}
use Rattle.iso8211.specs.Directory.{tag, len, position, row_at, row_width}
use Rattle.iso8211.specs.Field.{count_at, directory_at, field_at}
use Rattle.iso8211.proofs.DirectoryLaws.{rows_row}
use Rattle.iso8211.proofs.Promise.{directory_length}
use Rattle.layout.specs.Layout.{filled}
use Rattle.layout.specs.Record.{kind_at, content_at}
use Rattle.items.specs.Premises.{LaidOut}
use Rattle.records.specs.Premises.{piece_of, pieces_from}
use Rattle.records.specs.Written.{body_of, rows_for}
use Rattle.itemrows.proofs.ChosenLaws.{Full, full_none, full_more}
use Rattle.asheld.proofs.PartLaws.{join}

-- ---- one field
module _ (s : List ℕ) (at : ℕ) (laid : LaidOut s at) (j : ℕ) (here : j < count_at s at) where
  pub content_long : length (content_at s at j) + 1 ≡ (field_at s at j).length
  content_long =
      let inside = laid.inside.fields j here in
      let long = inside.long in
      let within = inside.within in
      let fits = laid.inside.fits in
      let e = length-take-le ((field_at s at j).length - 1) (drop (field_at s at j).start s) (rw length-drop (omega arith)) in
      omega arith

  pub content_fits : (field_at s at j).start + (length (content_at s at j) + 1) ≤ length s
  content_fits =
      let within = (laid.inside.fields j here).within in
      let fits = laid.inside.fits in
      omega (arith, content_long)

  pub content_is : (n : ℕ) → length (content_at s at j) ≡ n → content_at s at j ≡ take n (drop (field_at s at j).start s)
  content_is n e = let k : (field_at s at j).length - 1 ≡ n = omega (arith, content_long) in ap (λ (x : ℕ). take x (drop (field_at s at j).start s)) k

  -- with its 1E
  pub field_is : (n : ℕ) → length (content_at s at j) ≡ n → take (suc n) (drop (field_at s at j).start s) ≡ content_at s at j ++ (30 ∷ [])
  field_is n e =
      let place : (field_at s at j).start + n ≡ (field_at s at j).start + (field_at s at j).length - 1 = omega (arith, content_long) in
      let last : get_or (drop (field_at s at j).start s) n 0 ≡ 30 =
      get_or-drop (field_at s at j).start s n 0 ∙ ap (λ (k : ℕ). byte_at s k) place ∙ (laid.inside.fields j here).ends in
      take-suc (drop (field_at s at j).start s) n 0 (rw length-drop (omega (arith, content_fits)))
      ∙ ap (λ (x : ℕ). take n (drop (field_at s at j).start s) ++ (x ∷ [])) last ∙ ap (λ (l : List ℕ). l ++ (30 ∷ [])) (sym (content_is n e))

  pub filled_as : (k : ℕ) → kind_at s at j ≡ k → filled k (content_at s at j) ≡ true
  filled_as k e = ap (λ (q : ℕ). filled q (content_at s at j)) (sym e) ∙ laid.fills j here

-- ---- all fields from field j on
three : (s row : List ℕ) (l p i : ℕ) → row ≡ row_at s l p i → row ≡ tag row ∷ len row ∷ position row ∷ []
unfolding row_at
three s row l p i e = rw e

pub row_is : (s : List ℕ) (at j due : ℕ) → j < count_at s at → (field_at s at j).start ≡ at + base_at s at + due
    → get_or (directory_at s at) j [] ≡ (field_at s at j).tag ∷ (field_at s at j).length ∷ due ∷ []
unfolding field_at directory_at
row_is s at j due here e =
    let row = get_or (directory_at s at) j [] in
    let place : position row ≡ due = omega arith in
    three s row (length_digits s at) (position_digits s at) (at + 24 + j * row_width (length_digits s at) (position_digits s at))
    (rows_row (count_at s at) j s (length_digits s at) (position_digits s at) (at + 24) here)
    ∙ ap (λ (x : ℕ). tag row ∷ len row ∷ x ∷ []) place

-- where the last one ends
unfoldable pub end_of_fields : List ℕ → ℕ → ℕ
end_of_fields s at = (field_at s at (count_at s at - 1)).start + (field_at s at (count_at s at - 1)).length

module _ (s : List ℕ) (at : ℕ) (laid : LaidOut s at) where
  -- each is filled by its subfields
  pub fields_full : (n j : ℕ) → j + n ≡ count_at s at → Full (pieces_from n s at j)
  unfolding pieces_from piece_of
  fields_full zero j e = full_none
  fields_full (suc n) j e = full_more (laid.fills j (omega arith)) (fields_full n (j + 1) (omega arith))

  -- their rows are the directory's
  pub fields_rows : (n j due : ℕ) → j + n ≡ count_at s at → (j < count_at s at → (field_at s at j).start ≡ at + base_at s at + due)
      → rows_for due (pieces_from n s at j) ≡ drop j (directory_at s at)
  unfolding rows_for pieces_from piece_of
  fields_rows zero j due e starts = sym (drop_of_length-le (directory_at s at) {i = j} (rw (directory_length s at) (omega arith)))
  fields_rows (suc n) j due e starts =
      let here : j < count_at s at = omega arith in
      let long = content_long s at laid j here in
      let start = starts here in
      let rest = fields_rows n (j + 1) (due + (field_at s at j).length) (omega arith)
      (λ (more : j + 1 < count_at s at). let g = laid.inside.gapless j more in omega arith) in
      let whole : drop j (directory_at s at) ≡ ((field_at s at j).tag ∷ (field_at s at j).length ∷ due ∷ []) ∷ drop (j + 1) (directory_at s at) =
      rw (add-one j)
      (drop-cons (directory_at s at) j [] (rw (directory_length s at) here)
      ∙ ap (λ (r : List ℕ). r ∷ drop (suc j) (directory_at s at)) (row_is s at j due here start)) in
      rw (long, rest) (sym whole)

  last_end : (j : ℕ) → j + 1 ≡ count_at s at → end_of_fields s at ≡ (field_at s at j).start + (field_at s at j).length
  unfolding end_of_fields
  last_end j e = let k : count_at s at - 1 ≡ j = omega arith in ap (λ (i : ℕ). (field_at s at i).start + (field_at s at i).length) k

  field_end_lem : (n j : ℕ) → j + suc n ≡ count_at s at → (field_at s at j).start + (field_at s at j).length ≤ end_of_fields s at
  field_end_lem zero j e = omega (arith, last_end j (omega arith))
  field_end_lem (suc n) j e = let g = laid.inside.gapless j (omega arith) in omega (arith, field_end_lem n (j + 1) (omega arith))

  pub end_within : end_of_fields s at ≤ laid.inside.end
  end_within =
      let some = laid.inside.headed.some in
      let last : count_at s at - 1 + 1 ≡ count_at s at = omega arith in
      let within = (laid.inside.fields (count_at s at - 1) (omega arith)).within in
      omega (arith, last_end (count_at s at - 1) last)

  -- the fields before the last end before it
  pub end_behind : (j : ℕ) → j < count_at s at → (field_at s at j).start + (field_at s at j).length ≤ end_of_fields s at
  end_behind j here = field_end_lem (count_at s at - suc j) j (omega arith)

  -- their bytes are the record's
  pub fields_bytes : (n j : ℕ) → j + suc n ≡ count_at s at
      → body_of (pieces_from (suc n) s at j) ≡ take (end_of_fields s at - (field_at s at j).start) (drop (field_at s at j).start s)
  unfolding body_of pieces_from piece_of
  fields_bytes zero j e =
      let here : j < count_at s at = omega arith in
      let end = last_end j (omega arith) in
      let long = content_long s at laid j here in
      let size : end_of_fields s at - (field_at s at j).start ≡ suc (length (content_at s at j)) = omega arith in
      rw size (sym (field_is s at laid j here (length (content_at s at j)) refl))
  fields_bytes (suc n) j e =
      let here : j < count_at s at = omega arith in
      let long = content_long s at laid j here in
      let g = laid.inside.gapless j (omega arith) in
      let far = field_end_lem n (j + 1) (omega arith) in
      let c = content_at s at j in
      let start = (field_at s at j).start in
      let rest = end_of_fields s at - (field_at s at (j + 1)).start in
      let size : suc (length c) + rest ≡ end_of_fields s at - start = omega arith in
      let fits = laid.inside.fits in
      let within = end_within in
      rw (fields_bytes n (j + 1) (omega arith))
      (sym (append_assoc c (30 ∷ []) (take rest (drop (field_at s at (j + 1)).start s)))
      ∙ ap (λ (l : List ℕ). l ++ take rest (drop (field_at s at (j + 1)).start s)) (sym (field_is s at laid j here (length c) refl))
      ∙ join s start (field_at s at (j + 1)).start (suc (length c)) rest (omega arith) (omega arith)
      ∙ ap (λ (k : ℕ). take k (drop start s)) size)
