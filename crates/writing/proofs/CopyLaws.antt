-- What is copied is what the held form says: the identifier fields and lists of an item of a cell. Assumes nothing.
use Prim.Native.Nat.{ℕ, ◌+◌, ◌≤◌, ◌<◌}
use mathlib.Core.Bool.{true}
use mathlib.Core.List.{List, [], ◌∷◌, ◌++◌, append_assoc, flatten}
use mathlib.Core.Path.{◌≡◌, refl, sym, ap, ◌∙◌}
use native.Mathlib.Omega.{arith}
use lib.ListN.{length, take, drop, length-append}
use borrow.Author.Tests.{eq-eqb, ne_eqb}
use Rattle.octets.specs.Number.{byte_at, num_at, bytes_of}
use Rattle.octets.specs.Area.{Wrote}
use Rattle.octets.proofs.AreaLaws.{wrote_as}
use Rattle.iso8211.specs.Field.{count_at, field_at}
use Rattle.entries.specs.Entries.{entries_of}
use Rattle.entries.proofs.EntriesLaws.{entries_nil}
use Rattle.table.specs.Table.{VRID, FRID, FOID, tag_of, row_of, table, as_number, ATTV, VRPT, SG2D, SG3D, ATTF, NATF, FFPT, FSPT}
use Rattle.table.specs.Text.{bytes}
use Rattle.layout.specs.Layout.{shape_of}
use Rattle.layout.specs.Record.{kind_at, content_at}
use Rattle.layout.proofs.Promise.{full_vrid, full_frid, full_foid}
use Rattle.items.specs.Identity.{id_at, rcnm_at, rcid_at, prim_at, objl_at, foid_at, version_at}
use Rattle.items.specs.Premises.{LaidOut, Featured}
use Rattle.items.specs.Lists.{list_at, entries_at}
use Rattle.items.proofs.IdentityLaws.{num_one}
use Rattle.records.specs.Written.{body_of, rows_for, record_bytes, size_of}
use Rattle.records.proofs.HeadLaws.{byte_one}
use Rattle.items.specs.Item.{list_of, grup_at, of_feature, is_feature, item_at}
use Rattle.itemfields.specs.Fields.{piece, list_piece, list_pieces, vector_kinds, feature_kinds, vrid_bytes, frid_bytes, vector_pieces, feature_pieces, item_pieces}
use Rattle.itemfields.proofs.BytesLaws.{list_bytes_lem, num_bytes}
use Rattle.itemrows.specs.Plain.{tags_of, Writable, ItemSized}
use Rattle.itemrows.specs.Joined.{field_piece, field_pieces, id_kinds, kept_pieces, lead_pieces, joined_pieces, Tagged, Lead, Sized}
use Rattle.asheld.proofs.PartLaws.{join}
use Rattle.writing.proofs.FieldLaws.{content_long, content_fits, content_is, field_is, filled_as}

-- ---- the fields before the lists
module _ (s : List ℕ) (at : ℕ) (laid : LaidOut s at) where
  one_in : 1 < count_at s at
  one_in = let two = laid.two in omega arith

  vrid_long : kind_at s at 1 ≡ VRID → length (content_at s at 1) ≡ 8
  vrid_long e = full_vrid (content_at s at 1) (filled_as s at laid 1 one_in VRID e)

  vector_lead : (rows : List (List ℕ)) → kind_at s at 1 ≡ VRID → take 2 rows ≡ (808464433 ∷ 3 ∷ 0 ∷ []) ∷ (1448233284 ∷ 9 ∷ 3 ∷ []) ∷ [] → Lead s at 1 12 rows
  unfolding lead_pieces kept_pieces id_kinds body_of rows_for bytes_of tag_of row_of table as_number bytes
  vector_lead rows e told =
      let long = vrid_long e in
      record {
        few = omega arith;
        least = omega arith;
        most = omega arith;
        long = λ number. let z = length-append (content_at s at 1) (30 ∷ []) in omega arith;
        within = omega (arith, content_fits s at laid 1 one_in);
        bytes_are = field_is s at laid 1 one_in 8 long;
        rows_are = λ number. told ∙ rw long;
      }

  module _ (e : kind_at s at 1 ≡ FRID) (o : kind_at s at 2 ≡ FOID) (three : 3 ≤ count_at s at) where
    two_in : 2 < count_at s at
    two_in = omega arith

    frid_long : length (content_at s at 1) ≡ 12
    frid_long = full_frid (content_at s at 1) (filled_as s at laid 1 one_in FRID e)

    foid_long : length (content_at s at 2) ≡ 8
    foid_long = full_foid (content_at s at 2) (filled_as s at laid 2 two_in FOID o)

    next : id_at s at + 13 ≡ (field_at s at 2).start
    next = let g = laid.inside.gapless 1 (omega arith) in omega (arith, content_long s at laid 1 one_in, frid_long)

    both : take 22 (drop (id_at s at) s) ≡ content_at s at 1 ++ (30 ∷ (content_at s at 2 ++ (30 ∷ [])))
    both =
        sym (join s (id_at s at) (field_at s at 2).start 13 9 next (omega (arith, content_fits s at laid 2 two_in)))
        ∙ ap (λ (l : List ℕ). l ++ take 9 (drop (field_at s at 2).start s)) (field_is s at laid 1 one_in 12 frid_long)
        ∙ ap (λ (l : List ℕ). (content_at s at 1 ++ (30 ∷ [])) ++ l) (field_is s at laid 2 two_in 8 foid_long)
        ∙ append_assoc (content_at s at 1) (30 ∷ []) (content_at s at 2 ++ (30 ∷ []))

    feature_lead : (rows : List (List ℕ)) → take 3 rows ≡ (808464433 ∷ 3 ∷ 0 ∷ []) ∷ (1179797828 ∷ 13 ∷ 3 ∷ []) ∷ (1179601220 ∷ 9 ∷ 16 ∷ []) ∷ [] → Lead s at 2 25 rows
    unfolding lead_pieces kept_pieces id_kinds body_of rows_for bytes_of tag_of row_of table as_number bytes
    feature_lead rows told =
        record {
          few = omega arith;
          least = omega arith;
          most = omega arith;
          long = λ number.
              let z = length-append (content_at s at 1) (30 ∷ (content_at s at 2 ++ (30 ∷ []))) in
              let y = length-append (content_at s at 2) (30 ∷ []) in
              omega (arith, frid_long, foid_long);
          within = omega (arith, content_fits s at laid 2 two_in, next, foid_long);
          bytes_are = both;
          rows_are = λ number. told ∙ rw (frid_long, foid_long);
        }

pub vector_tagged : Tagged (ATTV ∷ VRPT ∷ SG2D ∷ SG3D ∷ []) (1096045654 ∷ 1448235092 ∷ 1397174852 ∷ 1397175108 ∷ [])
unfolding tags_of tag_of row_of table as_number bytes
vector_tagged = record { is = refl; four = refl }

pub feature_tagged : Tagged (ATTF ∷ NATF ∷ FFPT ∷ FSPT ∷ []) (1096045638 ∷ 1312904262 ∷ 1179013204 ∷ 1179865172 ∷ [])
unfolding tags_of tag_of row_of table as_number bytes
feature_tagged = record { is = refl; four = refl }

-- ---- the lists
pub list_piece_lem : (k : ℕ) (es : List (List ℕ)) (bs : List ℕ) → flatten es ≡ bs → (bs ≡ [] → es ≡ []) → list_piece k es ≡ field_piece k bs
unfolding list_piece field_piece flatten
list_piece_lem k [] [] e none = refl
list_piece_lem k [] (b ∷ bs) e none = absurd (let z = ap length e in omega arith)
list_piece_lem k (x ∷ es) [] e none = absurd (let z = ap length (none refl) in omega arith)
list_piece_lem k (x ∷ es) (b ∷ bs) e none = ap (λ (l : List ℕ). piece k l ∷ []) e

list_copied : (s : List ℕ) (at k : ℕ) → LaidOut s at → (row_of k).list ≡ true → list_piece k (list_of s at k) ≡ field_piece k (list_at s at k)
unfolding list_of entries_at
list_copied s at k laid list =
    list_piece_lem k (list_of s at k) (list_at s at k) (list_bytes_lem s at k laid list)
    (λ (e : list_at s at k ≡ []). rw list (ap (λ (l : List ℕ). entries_of (shape_of k) l) e ∙ entries_nil (shape_of k)))

vector_lists : (s : List ℕ) (at : ℕ) → LaidOut s at → list_pieces vector_kinds (list_of s at) ≡ field_pieces vector_kinds (list_at s at)
unfolding list_pieces field_pieces row_of table
vector_lists s at laid = rw (list_copied s at 4 laid refl, list_copied s at 6 laid refl, list_copied s at 8 laid refl, list_copied s at 9 laid refl)

feature_lists : (s : List ℕ) (at : ℕ) → LaidOut s at → list_pieces feature_kinds (list_of s at) ≡ field_pieces feature_kinds (list_at s at)
unfolding list_pieces field_pieces row_of table
feature_lists s at laid = rw (list_copied s at 12 laid refl, list_copied s at 13 laid refl, list_copied s at 15 laid refl, list_copied s at 17 laid refl)

-- ---- the identifier fields, from the numbers that they say
module _ (s : List ℕ) (at : ℕ) (small : (i : ℕ) → byte_at s i < 256) where
  pub byte_as : (p v : ℕ) → byte_at s p ≡ v → p + 1 ≤ length s → bytes_of 1 v ≡ take 1 (drop p s)
  byte_as p v e h = ap (λ (x : ℕ). bytes_of 1 x) (sym e ∙ sym (num_one s p)) ∙ num_bytes s small 1 p h

  last_as : (p : ℕ) → byte_at s p ≡ 1 → p + 1 ≤ length s → 1 ∷ [] ≡ take 1 (drop p s)
  last_as p e h = sym (byte_one 1 (omega arith)) ∙ byte_as p 1 e h

  vrid_join : (p : ℕ) (a b c d : List ℕ) → a ≡ take 1 (drop p s) → b ≡ take 4 (drop (p + 1) s) → c ≡ take 2 (drop (p + 5) s) → d ≡ take 1 (drop (p + 7) s)
      → p + 8 ≤ length s → a ++ (b ++ (c ++ d)) ≡ take 8 (drop p s)
  vrid_join p a b c d ea eb ec ed h =
      rw (ea, eb, ec, ed, join s (p + 5) (p + 7) 2 1 (omega arith) (omega arith), join s (p + 1) (p + 5) 4 3 (omega arith) (omega arith))
      (join s p (p + 1) 1 7 (omega arith) (omega arith))

  frid_join : (p : ℕ) (a b c d e f g : List ℕ) → a ≡ take 1 (drop p s) → b ≡ take 4 (drop (p + 1) s) → c ≡ take 1 (drop (p + 5) s) → d ≡ take 1 (drop (p + 6) s)
      → e ≡ take 2 (drop (p + 7) s) → f ≡ take 2 (drop (p + 9) s) → g ≡ take 1 (drop (p + 11) s) → p + 12 ≤ length s
      → a ++ (b ++ (c ++ (d ++ (e ++ (f ++ g))))) ≡ take 12 (drop p s)
  frid_join p a b c d e f g ea eb ec ed ee ef eg h =
      rw (
        ea,
        eb,
        ec,
        ed,
        ee,
        ef,
        eg,
        join s (p + 9) (p + 11) 2 1 (omega arith) (omega arith),
        join s (p + 7) (p + 9) 2 3 (omega arith) (omega arith),
        join s (p + 6) (p + 7) 1 5 (omega arith) (omega arith),
        join s (p + 5) (p + 6) 1 6 (omega arith) (omega arith),
        join s (p + 1) (p + 5) 4 7 (omega arith) (omega arith),
      )
      (join s p (p + 1) 1 11 (omega arith) (omega arith))

  -- ---- a vector
  module _ (w : Writable s at) (ne : rcnm_at s at ≡ 100 → ⊥) where
    vrid_copied : vrid_bytes (item_at s at) ≡ content_at s at 1
    unfolding vrid_bytes rcnm_at rcid_at version_at
    vrid_copied =
        let long = vrid_long s at w.laid (w.vector ne).0 in
        let room = w.known.long in
        let version : version_at s at ≡ num_at s (id_at s at + 5) 2 = rw (ne_eqb (rcnm_at s at) 100 ne) in
        vrid_join (id_at s at) (bytes_of 1 (rcnm_at s at)) (bytes_of 4 (rcid_at s at)) (bytes_of 2 (version_at s at)) (1 ∷ [])
        (byte_as (id_at s at) (rcnm_at s at) refl (omega arith))
        (num_bytes s small 4 (id_at s at + 1) (omega arith))
        (ap (λ (x : ℕ). bytes_of 2 x) version ∙ num_bytes s small 2 (id_at s at + 5) (omega arith))
        (last_as (id_at s at + 7) (w.vector ne).1 (omega arith)) (omega arith)
        ∙ sym (content_is s at w.laid 1 (one_in s at w.laid) 8 long)

    pub vector_pieces_lem : (number : ℕ) → item_pieces number (item_at s at) ≡ joined_pieces number s at 1 vector_kinds
    unfolding item_pieces is_feature vector_pieces joined_pieces lead_pieces kept_pieces id_kinds
    vector_pieces_lem number = rw (ne_eqb (rcnm_at s at) 100 ne, vrid_copied, vector_lists s at w.laid)

  -- ---- a feature
  module _ (w : Writable s at) (hundred : rcnm_at s at ≡ 100) where
    of : Featured s at
    of = w.known.feature hundred

    as_feature : (v : ℕ) → of_feature (rcnm_at s at) v ≡ v
    unfolding of_feature is_feature
    as_feature v = rw (eq-eqb (rcnm_at s at) 100 hundred)

    version_is : version_at s at ≡ num_at s (id_at s at + 9) 2
    unfolding version_at
    version_is = rw (eq-eqb (rcnm_at s at) 100 hundred)

    rcnm_is : byte_at s (id_at s at) ≡ rcnm_at s at
    unfolding rcnm_at
    rcnm_is = refl

    prim_is : byte_at s (id_at s at + 5) ≡ prim_at s at
    unfolding prim_at
    prim_is = refl

    grup_is : byte_at s (id_at s at + 6) ≡ grup_at s at
    unfolding grup_at
    grup_is = refl

    frid_copied : frid_bytes (item_at s at) ≡ content_at s at 1
    unfolding frid_bytes rcid_at objl_at
    frid_copied =
        let long = frid_long s at w.laid of.is of.object of.third in
        let room = of.long in
        frid_join (id_at s at) (bytes_of 1 (rcnm_at s at)) (bytes_of 4 (rcid_at s at)) (bytes_of 1 (of_feature (rcnm_at s at) (prim_at s at)))
        (bytes_of 1 (of_feature (rcnm_at s at) (grup_at s at))) (bytes_of 2 (of_feature (rcnm_at s at) (objl_at s at))) (bytes_of 2 (version_at s at)) (1 ∷ [])
        (byte_as (id_at s at) (rcnm_at s at) rcnm_is (omega arith))
        (num_bytes s small 4 (id_at s at + 1) (omega arith))
        (byte_as (id_at s at + 5) (of_feature (rcnm_at s at) (prim_at s at)) (prim_is ∙ sym (as_feature (prim_at s at))) (omega arith))
        (byte_as (id_at s at + 6) (of_feature (rcnm_at s at) (grup_at s at)) (grup_is ∙ sym (as_feature (grup_at s at))) (omega arith))
        (ap (λ (x : ℕ). bytes_of 2 x) (as_feature (objl_at s at)) ∙ num_bytes s small 2 (id_at s at + 7) (omega arith))
        (ap (λ (x : ℕ). bytes_of 2 x) version_is ∙ num_bytes s small 2 (id_at s at + 9) (omega arith))
        (last_as (id_at s at + 11) (w.feature hundred) (omega arith)) (omega arith)
        ∙ sym (content_is s at w.laid 1 (one_in s at w.laid) 12 long)

    foid_copied : bytes_of 8 (of_feature (rcnm_at s at) (foid_at s at)) ≡ content_at s at 2
    unfolding foid_at
    foid_copied =
        ap (λ (x : ℕ). bytes_of 8 x) (as_feature (foid_at s at)) ∙ num_bytes s small 8 (field_at s at 2).start of.whole
        ∙ sym (content_is s at w.laid 2 (two_in s at w.laid of.is of.object of.third) 8 (foid_long s at w.laid of.is of.object of.third))

    pub feature_pieces_lem : (number : ℕ) → item_pieces number (item_at s at) ≡ joined_pieces number s at 2 feature_kinds
    unfolding item_pieces is_feature feature_pieces joined_pieces lead_pieces kept_pieces id_kinds
    feature_pieces_lem number = rw (eq-eqb (rcnm_at s at) 100 hundred, frid_copied, foid_copied, feature_lists s at w.laid)

-- ---- as the code asks for it: the fields of the item are m identifier fields and lists of these kinds, joined
pub record JoinedAs (s : List ℕ) (at m : ℕ) (kinds : List ℕ) : Type 0 where
  pub is : (number : ℕ) → item_pieces number (item_at s at) ≡ joined_pieces number s at m kinds

module _ {s : List ℕ} {at m : ℕ} {kinds : List ℕ} (same : JoinedAs s at m kinds) where
  pub item_sized : (q : ℕ) → Sized s at m kinds q → ItemSized s at q
  item_sized q z = record { is = λ number. z.is number ∙ ap size_of (sym (same.is number)); few = z.few }

  pub item_room : (number place room : ℕ) → place + size_of (item_pieces number (item_at s at)) ≤ room → place + size_of (joined_pieces number s at m kinds) ≤ room
  item_room number place room h = rw (← (same.is number)) h

  pub item_put : {a b : List ℕ} {place q : ℕ} (number : ℕ) → Wrote a place (record_bytes (joined_pieces number s at m kinds)) b q
      → Wrote a place (record_bytes (item_pieces number (item_at s at))) b q
  item_put number v = wrote_as (record_bytes (item_pieces number (item_at s at))) (ap record_bytes (sym (same.is number))) v

-- r is RCNM as it was read
module _ (s : List ℕ) (at r : ℕ) (w : Writable s at) (read : r ≡ rcnm_at s at) where
  pub feature_led : (rows : List (List ℕ)) → r ≡ 100 → take 3 rows ≡ (808464433 ∷ 3 ∷ 0 ∷ []) ∷ (1179797828 ∷ 13 ∷ 3 ∷ []) ∷ (1179601220 ∷ 9 ∷ 16 ∷ []) ∷ []
      → Lead s at 2 25 rows
  feature_led rows is told = let f = w.known.feature (sym read ∙ is) in feature_lead s at w.laid f.is f.object f.third rows told

  pub vector_led : (rows : List (List ℕ)) → (r ≡ 100 → ⊥) → take 2 rows ≡ (808464433 ∷ 3 ∷ 0 ∷ []) ∷ (1448233284 ∷ 9 ∷ 3 ∷ []) ∷ [] → Lead s at 1 12 rows
  vector_led rows other told = vector_lead s at w.laid rows (w.vector (λ (e : rcnm_at s at ≡ 100). other (read ∙ e))).0 told

  module _ (small : (i : ℕ) → byte_at s i < 256) where
    pub feature_joined : r ≡ 100 → JoinedAs s at 2 (ATTF ∷ NATF ∷ FFPT ∷ FSPT ∷ [])
    feature_joined is = record { is = feature_pieces_lem s at small w (sym read ∙ is) }

    pub vector_joined : (r ≡ 100 → ⊥) → JoinedAs s at 1 (ATTV ∷ VRPT ∷ SG2D ∷ SG3D ∷ [])
    vector_joined other = record { is = vector_pieces_lem s at small w (λ (e : rcnm_at s at ≡ 100). other (read ∙ e)) }
