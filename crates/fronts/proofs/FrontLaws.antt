-- The records of DSID and DSPM: what is read for them, their sizes, and how what was written joins. Assumes nothing.
use Prim.Native.Nat.{ℕ, ◌+◌, ◌-◌, ◌≤◌, ◌<◌}
use mathlib.Core.List.{List, [], ◌∷◌, ◌++◌, append_assoc}
use mathlib.Core.Path.{◌≡◌, refl, sym, ap, ◌∙◌}
use native.Mathlib.Omega.{arith}
use lib.ListN.{length, take, drop, length-append, length-take}
use Rattle.layout.specs.Premises.{LevelsIn}
use Rattle.octets.specs.Number.{bytes_of}
use Rattle.octets.specs.Area.{Wrote}
use Rattle.octets.proofs.AreaLaws.{wrote_join, wrote_as, wrote_length}
use Rattle.octets.proofs.NumberLaws.{wrote_to}
use Rattle.iso8211.specs.Field.{count_at, field_at}
use Rattle.iso8211.specs.Premises.{RecordIn}
use Rattle.iso8211.specs.declared.field.Field.{Field}
use Rattle.table.specs.Table.{row_of, table, tag_of, as_number}
use Rattle.table.specs.Text.{bytes}
use Rattle.layout.specs.Layout.{content_of}
use Rattle.layout.specs.Record.{content_at}
use Rattle.layout.specs.General.{aall_at, nall_at}
use Rattle.records.specs.Pieces.{Piece}
use Rattle.records.specs.Written.{body_of, rows_for, base_for, head_bytes, record_bytes, size_of}
use Rattle.records.proofs.WrittenLaws.{record_length}
use Rattle.counted.specs.declared.counts.Tally.{Tally}
use Rattle.header.specs.Dsid.{dsid_of, dsid_bytes, revised}
use Rattle.header.specs.Dssi.{dssi_bytes}
use Rattle.header.specs.Known.{Known}
use Rattle.header.proofs.DssiLaws.{dssi_length}
use Rattle.fronts.specs.Front.{dsid_fields, dspm_fields, revised_in, dsid_rows, opening, FieldThere, DsidIn, SizeFor, DsidSized, RevisedSized}

-- ---- fields that are there
pub field_there : {s : List ℕ} {at j : ℕ} {f : Field} → RecordIn s at → j < count_at s at → f ≡ field_at s at j → FieldThere s at j f
field_there {s} {at} {j} {f} inside less is =
    let i = inside.fields j less in
    let long = i.long in
    let within = i.within in
    let after = i.after in
    let fits = inside.framed.fits in
    let small = inside.framed.small in
    record { is = is; long = rw is long; few = rw is (omega arith); within = rw is (omega arith) }

module _ {s : List ℕ} {at j : ℕ} {f : Field} (there : FieldThere s at j f) where
  pub content_lent : take (f.start + (f.length - 1) - f.start) (drop f.start s) ≡ content_at s at j
  content_lent =
      let e : f.start + (f.length - 1) - f.start ≡ f.length - 1 = omega arith in
      rw e (ap (content_of s) there.is)

  pub content_few : length (take (f.start + (f.length - 1) - f.start) (drop f.start s)) ≤ 99999
  content_few =
      let few = there.few in
      let e = length-take (f.start + (f.length - 1) - f.start) (drop f.start s) in
      omega arith

pub levels_there : {s : List ℕ} {at : ℕ} → DsidIn s at → LevelsIn s at
levels_there so = record { inside = so.inside; third = so.third; room = omega (arith, so.whole) }

-- ---- a DSID lent is one that is known
pub lent_known : {s : List ℕ} {at : ℕ} (f : List ℕ) → DsidIn s at → f ≡ content_at s at 1 → Known f
lent_known f so is = rw is so.known

-- ---- rows and lengths
pub dsid_rows_lem : (d v : List ℕ) (n : ℕ) → length d ≡ n → length v ≡ 35
    → rows_for 0 (dsid_fields d v) ≡ dsid_rows n
unfolding rows_for tag_of row_of table as_number bytes bytes_of
dsid_rows_lem d v n e f = let g : 3 + (n + 1) ≡ n + 4 = omega arith in rw (e, f, g)

pub dspm_rows : (d : List ℕ) (n : ℕ) → length d ≡ n → rows_for 0 (dspm_fields d) ≡ (808464433 ∷ 3 ∷ 0 ∷ []) ∷ (1146310733 ∷ (n + 1) ∷ 3 ∷ []) ∷ []
unfolding rows_for tag_of row_of table as_number bytes bytes_of
dspm_rows d n e = rw e

dsid_body : (d v : List ℕ) → body_of (dsid_fields d v) ≡ (bytes_of 2 1 ++ (30 ∷ [])) ++ ((d ++ (30 ∷ [])) ++ (v ++ (30 ∷ [])))
unfolding body_of bytes_of
dsid_body d v = rw (append_assoc d (30 ∷ []) (v ++ (30 ∷ [])))

dspm_body : (d : List ℕ) → body_of (dspm_fields d) ≡ (bytes_of 2 2 ++ (30 ∷ [])) ++ (d ++ (30 ∷ []))
unfolding body_of bytes_of
dspm_body d = refl

dsid_long : (d v : List ℕ) (n : ℕ) → length d ≡ n → length v ≡ 35 → length (body_of (dsid_fields d v)) ≡ 40 + n
unfolding bytes_of
dsid_long d v n e f = ap length (dsid_body d v) ∙ rw (length-append (d ++ (30 ∷ [])), length-append d, length-append v, e, f) (omega arith)

dspm_long : (d : List ℕ) (n : ℕ) → length d ≡ n → length (body_of (dspm_fields d)) ≡ 4 + n
unfolding bytes_of
dspm_long d n e = ap length (dspm_body d) ∙ rw (length-append d, e) (omega arith)

-- ---- sizes
size_is : (fs : List Piece) → size_of fs ≡ base_for (rows_for 0 fs) + length (body_of fs)
unfolding size_of
size_is fs = refl

pub total_of : (rows : List (List ℕ)) (n base : ℕ) → take 3 rows ≡ dsid_rows n → base ≡ base_for (take 3 rows) → base ≤ 217 → SizeFor n (base + (40 + n))
total_of rows n base rowed based low = record {
  is = λ d v e long. sym (size_is (dsid_fields d v) ∙ rw (dsid_rows_lem d v n e long, dsid_long d v n e long, ← rowed, ← based));
  few = omega arith;
}

pub dsid_sized : (s : List ℕ) (at : ℕ) (f : List ℕ) (n r : ℕ) → f ≡ content_at s at 1 → length f ≤ 99999 → n ≡ length (dsid_bytes (dsid_of f)) → n ≤ length f + 22 → SizeFor n r
    → DsidSized s at r
dsid_sized s at f n r is short size few so = record {
  is = λ v long. so.is (dsid_bytes (dsid_of (content_at s at 1))) v (sym (size ∙ ap (λ (x : List ℕ). length (dsid_bytes (dsid_of x))) is)) long;
  few = let low = so.few in omega arith;
}

pub revised_sized : (s : List ℕ) (at : ℕ) (t : List ℕ) (by : ℕ) (f g : List ℕ) (n r : ℕ) → f ≡ content_at s at 1 → length f ≤ 99999 → g ≡ content_at t by 1
    → n ≡ length (dsid_bytes (revised (dsid_of f) (dsid_of g))) → n ≤ length f + 22 → SizeFor n r → RevisedSized s at t by r
revised_sized s at t by f g n r is short by_is size few so = record {
  is = λ v long. so.is (revised_in s at t by) v (sym (size ∙ rw (is, by_is))) long;
  few = let low = so.few in omega arith;
}

module _ (rows : List (List ℕ)) (n base : ℕ) where
  pub dspm_sized : (s : List ℕ) (at : ℕ) (f : List ℕ) → f ≡ content_at s at 1 → n ≡ length f
      → take 2 rows ≡ (808464433 ∷ 3 ∷ 0 ∷ []) ∷ (1146310733 ∷ (n + 1) ∷ 3 ∷ []) ∷ [] → base ≡ base_for (take 2 rows) → base + (4 + n) ≡ size_of (dspm_fields (content_at s at 1))
  dspm_sized s at f is size rowed based =
      let d = content_at s at 1 in
      let e : length d ≡ n = sym (size ∙ ap length is) in
      sym (size_is (dspm_fields d) ∙ rw (dspm_rows d n e, dspm_long d n e, ← rowed, ← based))

-- ---- fields written
pub ended_room : {a b : List ℕ} {at m : ℕ} (v : ℕ) → at + 3 ≤ length a → Wrote a at (bytes_of 2 v) b m → m + 1 ≤ length b
ended_room v room w = omega (arith, wrote_to 2 v w, wrote_length w)

pub ended : {a b d : List ℕ} {at m r : ℕ} {xs : List ℕ} → Wrote a at xs b m → Wrote b m (bytes_of 1 30) d r → Wrote a at (xs ++ (30 ∷ [])) d r
unfolding bytes_of
ended w x = wrote_join w x

pub number_end : {a b d : List ℕ} {at m r : ℕ} (v : ℕ) → Wrote a at (bytes_of 2 v) b m → Wrote b m (bytes_of 1 30) d r → r ≡ at + 3
number_end v w x = omega (arith, wrote_to 2 v w, wrote_to 1 30 x)

pub counts_room : {a b : List ℕ} {at m : ℕ} (x y : ℕ) (t : Tally) → at + 36 ≤ length a → Wrote a at (dssi_bytes x y t) b m → m + 1 ≤ length b
counts_room x y t room w = omega (arith, w.end, wrote_length w, dssi_length x y t)

pub counts_put : {a b d : List ℕ} {place m r : ℕ} (s : List ℕ) (at x y : ℕ) (t : Tally) → x ≡ aall_at s at → y ≡ nall_at s at
    → Wrote a place (dssi_bytes x y t) b m → Wrote b m (bytes_of 1 30) d r → Wrote a place (dssi_bytes (aall_at s at) (nall_at s at) t ++ (30 ∷ [])) d r
counts_put s at x y t e f w v = ended (rw (e, f) at w) v

-- ---- the fields of the record of DSPM
pub dspm_put : {a b d e : List ℕ} {place m q r : ℕ} (f : List ℕ) → Wrote a place (bytes_of 2 2 ++ (30 ∷ [])) b m → Wrote b m f d q → Wrote d q (bytes_of 1 30) e r
    → Wrote a place (body_of (dspm_fields f)) e r
dspm_put f one two three = wrote_as (body_of (dspm_fields f)) (sym (dspm_body f)) (wrote_join one (ended two three))

-- ---- a record: its head, then its fields
record_is : (fs : List Piece) → record_bytes fs ≡ head_bytes (rows_for 0 fs) (length (body_of fs)) ++ body_of fs
unfolding record_bytes
record_is fs = refl

module _ (fs : List Piece) (rows : List (List ℕ)) (body : ℕ) (rowed : rows_for 0 fs ≡ rows) (long : length (body_of fs) ≡ body) where
  record_parts : record_bytes fs ≡ head_bytes rows body ++ body_of fs
  record_parts = record_is fs ∙ rw (rowed, long)

  parts_length : size_of fs ≡ length (head_bytes rows body) + body
  parts_length = sym (record_length fs) ∙ ap length record_parts ∙ length-append (head_bytes rows body) (body_of fs) ∙ rw long

  head_room : (place k : ℕ) → place + size_of fs ≤ k → place + length (head_bytes rows body) ≤ k
  head_room place k h = omega (arith, parts_length)

  fields_room : {a b : List ℕ} {place m : ℕ} → place + size_of fs ≤ length a → Wrote a place (head_bytes rows body) b m → m + body ≤ length b
  fields_room h w = omega (arith, parts_length, w.end, wrote_length w)

  record_put : {a b d : List ℕ} {place m r : ℕ} → Wrote a place (head_bytes rows body) b m → Wrote b m (body_of fs) d r → Wrote a place (record_bytes fs) d r
  record_put w x = wrote_as (record_bytes fs) (sym record_parts) (wrote_join w x)

-- ---- what stands before a DSID of n bytes
pub opening_head : (rows : List (List ℕ)) (n place k : ℕ) → take 3 rows ≡ dsid_rows n → place + length (opening n) ≤ k → place + length (head_bytes (take 3 rows) (40 + n)) ≤ k
unfolding opening
opening_head rows n place k rowed room = rw rowed (omega (arith, length-append (head_bytes (dsid_rows n) (40 + n)) (bytes_of 2 1 ++ (30 ∷ []))))

pub opening_first : {a b : List ℕ} {place m : ℕ} (rows : List (List ℕ)) (n : ℕ) → take 3 rows ≡ dsid_rows n → place + length (opening n) ≤ length a
    → Wrote a place (head_bytes (take 3 rows) (40 + n)) b m → m + 3 ≤ length b
unfolding opening bytes_of
opening_first rows n rowed room w =
    let x : Wrote _ _ (head_bytes (dsid_rows n) (40 + n)) _ _ = rw rowed at w in
    omega (arith, x.end, wrote_length x, length-append (head_bytes (dsid_rows n) (40 + n)) (bytes_of 2 1 ++ (30 ∷ [])))

pub opening_put : {a b d : List ℕ} {place m r : ℕ} (rows : List (List ℕ)) (n : ℕ) → take 3 rows ≡ dsid_rows n → Wrote a place (head_bytes (take 3 rows) (40 + n)) b m
    → Wrote b m (bytes_of 2 1 ++ (30 ∷ [])) d r → Wrote a place (opening n) d r
unfolding opening
opening_put rows n rowed w x = wrote_join (rw rowed at w) x

-- ---- the record of a DSID d of n bytes and a DSSI v: the opening, then these
module _ (d v : List ℕ) (n : ℕ) (size : n ≡ length d) (long : length v ≡ 35) where
  opened : record_bytes (dsid_fields d v) ≡ opening n ++ ((d ++ (30 ∷ [])) ++ (v ++ (30 ∷ [])))
  unfolding opening
  opened =
      record_parts (dsid_fields d v) (dsid_rows n) (40 + n) (dsid_rows_lem d v n (sym size) long) (dsid_long d v n (sym size) long)
      ∙ ap (λ (l : List ℕ). head_bytes (dsid_rows n) (40 + n) ++ l) (dsid_body d v)
      ∙ sym (append_assoc (head_bytes (dsid_rows n) (40 + n)) (bytes_of 2 1 ++ (30 ∷ [])) ((d ++ (30 ∷ [])) ++ (v ++ (30 ∷ []))))

  opened_length : size_of (dsid_fields d v) ≡ length (opening n) + (n + 37)
  opened_length =
      sym (record_length (dsid_fields d v)) ∙ ap length opened ∙ length-append (opening n) ((d ++ (30 ∷ [])) ++ (v ++ (30 ∷ [])))
      ∙ rw (length-append (d ++ (30 ∷ [])), length-append d, length-append v, ← size, long) (omega arith)

  module _ {a b : List ℕ} {place m : ℕ} (room : place + size_of (dsid_fields d v) ≤ length a) (w : Wrote a place (opening n) b m) where
    behind_opening : m + (length d + 1) ≤ length b
    behind_opening = omega (arith, opened_length, w.end, wrote_length w)

    behind_named : {e : List ℕ} {q : ℕ} → Wrote b m (d ++ (30 ∷ [])) e q → q + 36 ≤ length e
    behind_named x = omega (arith, opened_length, w.end, wrote_length w, x.end, wrote_length x, length-append d (30 ∷ []))

  opened_put : {a b e f : List ℕ} {place m q r : ℕ} → Wrote a place (opening n) b m → Wrote b m (d ++ (30 ∷ [])) e q → Wrote e q (v ++ (30 ∷ [])) f r
      → Wrote a place (record_bytes (dsid_fields d v)) f r
  opened_put w x y = wrote_as (record_bytes (dsid_fields d v)) (sym opened) (wrote_join w (wrote_join x y))

-- ---- the record of DSID, its content f lent
module _ (s : List ℕ) (at : ℕ) (t : Tally) (f : List ℕ) (n : ℕ) (is : f ≡ content_at s at 1) (size : n ≡ length (dsid_bytes (dsid_of f))) where
  abbrev own : List ℕ
  own = dsid_bytes (dsid_of (content_at s at 1))

  abbrev counts : List ℕ
  counts = dssi_bytes (aall_at s at) (nall_at s at) t

  own_is : dsid_bytes (dsid_of f) ≡ own
  own_is = ap (λ (x : List ℕ). dsid_bytes (dsid_of x)) is

  own_size : n ≡ length own
  own_size = size ∙ ap length own_is

  counts_long : length counts ≡ 35
  counts_long = dssi_length (aall_at s at) (nall_at s at) t

  pub dsid_opening_room : (place k : ℕ) → place + size_of (dsid_fields own counts) ≤ k → place + length (opening n) ≤ k
  dsid_opening_room place k h = omega (arith, opened_length own counts n own_size counts_long)

  module _ {a b : List ℕ} {place m : ℕ} (w : Wrote a place (opening n) b m) where
    pub dsid_named_room : place + size_of (dsid_fields own counts) ≤ length a → m + (length (dsid_bytes (dsid_of f)) + 1) ≤ length b
    dsid_named_room room = rw own_is (behind_opening own counts n own_size counts_long room w)

    module _ {e : List ℕ} {q : ℕ} (x : Wrote b m (dsid_bytes (dsid_of f) ++ (30 ∷ [])) e q) where
      pub dsid_counts_room : place + size_of (dsid_fields own counts) ≤ length a → q + 36 ≤ length e
      dsid_counts_room room = behind_named own counts n own_size counts_long room w (rw own_is at x)

      pub dsid_record_put : {g : List ℕ} {r : ℕ} → Wrote e q (counts ++ (30 ∷ [])) g r → Wrote a place (record_bytes (dsid_fields own counts)) g r
      dsid_record_put y = opened_put own counts n own_size counts_long w (rw own_is at x) y

-- ---- the same of the result's, with the update's content g lent
module _ (s : List ℕ) (at : ℕ) (u : List ℕ) (by : ℕ) (t : Tally) (f g : List ℕ) (n : ℕ) (is : f ≡ content_at s at 1) (by_is : g ≡ content_at u by 1)
    (size : n ≡ length (dsid_bytes (revised (dsid_of f) (dsid_of g)))) where
  abbrev both : List ℕ
  both = revised_in s at u by

  abbrev tally : List ℕ
  tally = dssi_bytes (aall_at s at) (nall_at s at) t

  both_is : dsid_bytes (revised (dsid_of f) (dsid_of g)) ≡ both
  both_is = rw (is, by_is)

  both_size : n ≡ length both
  both_size = size ∙ ap length both_is

  tally_long : length tally ≡ 35
  tally_long = dssi_length (aall_at s at) (nall_at s at) t

  pub revised_opening_room : (place k : ℕ) → place + size_of (dsid_fields both tally) ≤ k → place + length (opening n) ≤ k
  revised_opening_room place k h = omega (arith, opened_length both tally n both_size tally_long)

  module _ {a b : List ℕ} {place m : ℕ} (w : Wrote a place (opening n) b m) where
    pub revised_named_room : place + size_of (dsid_fields both tally) ≤ length a → m + (length (dsid_bytes (revised (dsid_of f) (dsid_of g))) + 1) ≤ length b
    revised_named_room room = rw both_is (behind_opening both tally n both_size tally_long room w)

    module _ {e : List ℕ} {q : ℕ} (x : Wrote b m (dsid_bytes (revised (dsid_of f) (dsid_of g)) ++ (30 ∷ [])) e q) where
      pub revised_counts_room : place + size_of (dsid_fields both tally) ≤ length a → q + 36 ≤ length e
      revised_counts_room room = behind_named both tally n both_size tally_long room w (rw both_is at x)

      pub revised_record_put : {h : List ℕ} {r : ℕ} → Wrote e q (tally ++ (30 ∷ [])) h r → Wrote a place (record_bytes (dsid_fields both tally)) h r
      revised_record_put y = opened_put both tally n both_size tally_long w (rw both_is at x) y

-- ---- the record of DSPM, its content f lent
module _ (s : List ℕ) (at : ℕ) (f : List ℕ) (rows : List (List ℕ)) (is : f ≡ content_at s at 1)
    (rowed : take 2 rows ≡ (808464433 ∷ 3 ∷ 0 ∷ []) ∷ (1146310733 ∷ (length f + 1) ∷ 3 ∷ []) ∷ []) where
  lent_rows : rows_for 0 (dspm_fields (content_at s at 1)) ≡ take 2 rows
  lent_rows = dspm_rows (content_at s at 1) (length f) (ap length (sym is)) ∙ sym rowed

  lent_long : length (body_of (dspm_fields (content_at s at 1))) ≡ 4 + length f
  lent_long = dspm_long (content_at s at 1) (length f) (ap length (sym is))

  pub dspm_head_room : (place k : ℕ) → place + size_of (dspm_fields (content_at s at 1)) ≤ k → place + length (head_bytes (take 2 rows) (4 + length f)) ≤ k
  dspm_head_room place k h = head_room (dspm_fields (content_at s at 1)) (take 2 rows) (4 + length f) lent_rows lent_long place k h

  pub dspm_fields_room : {a b : List ℕ} {place m : ℕ} → place + size_of (dspm_fields (content_at s at 1)) ≤ length a
      → Wrote a place (head_bytes (take 2 rows) (4 + length f)) b m → m + (4 + length f) ≤ length b
  dspm_fields_room h w = fields_room (dspm_fields (content_at s at 1)) (take 2 rows) (4 + length f) lent_rows lent_long h w

  pub dspm_record_put : {a b d : List ℕ} {place m r : ℕ} → Wrote a place (head_bytes (take 2 rows) (4 + length f)) b m → Wrote b m (body_of (dspm_fields f)) d r
      → Wrote a place (record_bytes (dspm_fields (content_at s at 1))) d r
  dspm_record_put w x = record_put (dspm_fields (content_at s at 1)) (take 2 rows) (4 + length f) lent_rows lent_long w (rw is at x)
