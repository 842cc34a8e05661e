-- What is written for a chart of bytes is a file of bytes: `held_bytes_lem`. Assumes nothing.
use Prim.Native.Nat.{ℕ, zero, suc, ◌+◌, ◌/◌, ◌%◌, ◌^◌, ◌≤◌, ◌<◌}
use mathlib.Core.Bool.{Bool, true, false, cond}
use mathlib.Core.List.{List, [], ◌∷◌}
use mathlib.Core.Path.{◌≡◌, refl}
use native.Mathlib.Omega.{arith}
use lib.ListN.{length, length-append}
use lib.Dec.{ltb, lit<}
use borrow.Author.Tests.{ltb-true}
use Rattle.octets.proofs.ListLaws.{all_below, all_below_lem}
use Rattle.octets.specs.Number.{byte_at, bytes_of}
use Rattle.octets.specs.Digits.{digits_of, fewest}
use Rattle.octets.proofs.DigitsLaws.{fewest_most}
use Rattle.entries.specs.Rules.{all_of}
use Rattle.table.specs.Text.{bytes}
use Rattle.table.specs.Table.{row_of, table, as_number, tag_of, kind_count, DSID, DSSI, DSPM, VRID, FRID, FOID, first}
use Rattle.counted.specs.declared.counts.Tally.{Tally}
use Rattle.records.specs.Pieces.{Piece}
use Rattle.records.specs.Written.{tag_bytes, piece_length, body_of, rows_for, longest, farthest, length_size, position_size, row_bytes, rows_bytes, base_for, leader_of, head_over}
use Rattle.records.specs.Written.{head_bytes, record_bytes, size_of, records_bytes, AllFit}
use Rattle.records.specs.Written as records
use Rattle.records.specs.Written.AllFit.{fit_none, fit_more}
use Rattle.items.specs.Item.{is_feature, Item}
use Rattle.itemfields.specs.Fields.{piece, list_piece, list_pieces, vector_kinds, feature_kinds, vrid_bytes, frid_bytes, vector_pieces, feature_pieces, item_pieces}
use Rattle.header.specs.First.{first_record}
use Rattle.header.specs.Literal.{first_bytes}
use Rattle.header.specs.Dsid.{Dsid, shortest, dsid_with, dsid_bytes}
use Rattle.header.specs.Dssi.{feature_counts, vector_counts, dssi_bytes}
use Rattle.header.proofs.FirstLaws.{first_literal}
use Rattle.held.specs.Chart.{Chart}
use Rattle.held.specs.Held.{tally_in, dsid_pieces, dspm_pieces, items_pieces, records_of, held_of}
use Rattle.held.specs.Limits.{Fits}
use Rattle.held.specs.Good.{GoodChart}
use Rattle.changes.specs.Rules.{All}
use Rattle.changes.specs.Rules.All.{all_none, all_more}
use Rattle.changes.proofs.RulesLaws.{all_told}
use Rattle.demands.specs.Cell.{Bytes}
use Rattle.demands.specs.ByteChart.{ByteList, ByteDsid, ByteObject, ByteChart}
use Rattle.demands.proofs.AllLaws.{all_join, all_flatten}

-- ---- a file of bytes, as a list and by index
pub byte_list : (s : List ℕ) → Bytes s → ByteList s
byte_list [] b = all_none
byte_list (x ∷ s) b = all_more (b.small 0) (byte_list s (record { small = λ i. b.small (suc i) }))

byte_at_lem : {s : List ℕ} → ByteList s → (i : ℕ) → byte_at s i < 256
byte_at_lem all_none i = omega arith
byte_at_lem (all_more h p) zero = h
byte_at_lem (all_more h p) (suc i) = byte_at_lem p i

pub byte_file : {s : List ℕ} → ByteList s → Bytes s
byte_file p = record { small = byte_at_lem p }

-- ---- numbers and digits
byte : (x : ℕ) {l : List ℕ} → x < 256 → ByteList l → ByteList (x ∷ l)
byte x h p = all_more {e = x} h p

told : (s : List ℕ) → all_of (λ (b : ℕ). ltb b 256) s ≡ true → ByteList s
told s h = all_told (λ (b : ℕ). ltb b 256) (λ (b : ℕ). b < 256) (λ b e. ltb-true b 256 e) s h

bytes_low : (n v : ℕ) → ByteList (bytes_of n v)
unfolding bytes_of
bytes_low zero v = all_none
bytes_low (suc n) v = byte (v % 256) (omega arith) (bytes_low n (v / 256))

digit_low : (x : ℕ) → 48 + x % 10 < 256
digit_low x = omega arith

digits_low : (w v : ℕ) → ByteList (digits_of w v)
unfolding digits_of
digits_low zero v = all_none
digits_low (suc w) v = byte (48 + v / 10 ^ w % 10) (digit_low (v / 10 ^ w)) (digits_low w v)

-- ---- a record: its tags are four bytes each, its fields bytes
record BytePiece (f : Piece) : Type 0 where
  four : f.named < 4294967296
  content : ByteList f.content

tag_low : (t : ℕ) → t < 4294967296 → ByteList (tag_bytes t)
unfolding tag_bytes
tag_low t h =
    byte (t / 256 / 256 / 256) (omega arith) (byte (t / 256 / 256 % 256) (omega arith) (byte (t / 256 % 256) (omega arith) (byte (t % 256) (omega arith) all_none)))

rows_low : (l p due : ℕ) {fs : List Piece} → All BytePiece fs → ByteList (rows_bytes l p (rows_for due fs))
unfolding rows_bytes rows_for row_bytes
rows_low l p due all_none = all_none
rows_low l p due (all_more {e = f} h rest) =
    all_join (all_join (tag_low f.named h.four) (all_join (digits_low l (piece_length f)) (digits_low p due))) (rows_low l p (due + piece_length f) rest)

body_low : {fs : List Piece} → All BytePiece fs → ByteList (body_of fs)
unfolding body_of
body_low all_none = all_none
body_low (all_more h rest) = all_join h.content (byte 30 (omega arith) (body_low rest))

leader_low : (size base l p : ℕ) → l ≤ 9 → p ≤ 9 → ByteList (leader_of size base l p)
unfolding leader_of all_of
leader_low size base l p a b =
    all_join (digits_low 5 size)
    (all_join (told (32 ∷ 68 ∷ 32 ∷ 32 ∷ 32 ∷ 32 ∷ 32 ∷ []) refl)
    (all_join (digits_low 5 base)
    (all_join (told (32 ∷ 32 ∷ 32 ∷ []) refl) (byte (48 + l) (omega arith) (byte (48 + p) (omega arith) (told (48 ∷ 52 ∷ []) refl))))))

-- the digit sizes are those of numbers within the record
longest_low : (fs : List Piece) (due : ℕ) → longest (rows_for due fs) ≤ length (body_of fs)
unfolding longest rows_for body_of
longest_low [] due = omega arith
longest_low (f ∷ fs) due = rw length-append (let r = longest_low fs (due + piece_length f) in omega arith)

farthest_low : (fs : List Piece) (due : ℕ) → farthest (rows_for due fs) ≤ due + length (body_of fs)
unfolding farthest rows_for body_of
farthest_low [] due = omega arith
farthest_low (f ∷ fs) due = rw length-append (let r = farthest_low fs (due + piece_length f) in omega arith)

record_low : {fs : List Piece} → records.Fits fs → All BytePiece fs → ByteList (record_bytes fs)
unfolding record_bytes head_bytes head_over size_of
record_low {fs} fit h =
    let es = rows_for 0 fs in
    let body = length (body_of fs) in
    let size : base_for es + body ≤ 99999 = fit.small in
    let long : longest es ≤ body = longest_low fs 0 in
    let far : farthest es ≤ 0 + body = farthest_low fs 0 in
    let l : length_size es ≤ 5 = fewest_most 4 (longest es) (omega arith) in
    let p : position_size es ≤ 5 = fewest_most 4 (farthest es) (omega arith) in
    all_join
    (all_join (leader_low (base_for es + body) (base_for es) (length_size es) (position_size es) (omega arith) (omega arith))
    (all_join (rows_low (length_size es) (position_size es) 0 h) (byte 30 (omega arith) all_none)))
    (body_low h)

records_low : {rs : List (List Piece)} → AllFit rs → All (All BytePiece) rs → ByteList (records_bytes rs)
unfolding records_bytes
records_low fit_none all_none = all_none
records_low (fit_more fit fits) (all_more h rest) = all_join (record_low fit h) (records_low fits rest)

-- ---- the fields of a chart
tag_four : (k : ℕ) → k < kind_count → tag_of k < 4294967296
unfolding all_below tag_of row_of table as_number bytes
tag_four k h = ltb-true (tag_of k) 4294967296 (all_below_lem (λ (j : ℕ). ltb (tag_of j) 4294967296) kind_count k refl h)

piece_low : (k : ℕ) {c : List ℕ} → k < kind_count → ByteList c → BytePiece (piece k c)
piece_low k h p = record { four = tag_four k h; content = p }

list_low : (k : ℕ) {es : List (List ℕ)} → k < kind_count → All ByteList es → All BytePiece (list_piece k es)
unfolding list_piece
list_low k h all_none = all_none
list_low k h (all_more p ps) = all_more (piece_low k h (all_flatten (all_more p ps))) all_none

lists_low : {ks : List ℕ} (ls : ℕ → List (List ℕ)) → All (λ (k : ℕ). k < kind_count) ks → ((k : ℕ) → All ByteList (ls k)) → All BytePiece (list_pieces ks ls)
unfolding list_pieces
lists_low ls all_none each = all_none
lists_low ls (all_more {e = k} h hs) each = all_join (list_low k h (each k)) (lists_low ls hs each)

vrid_low : (t : Item) → ByteList (vrid_bytes t)
unfolding vrid_bytes
vrid_low t = all_join (bytes_low 1 t.rcnm) (all_join (bytes_low 4 t.rcid) (all_join (bytes_low 2 t.version) (byte 1 (omega arith) all_none)))

frid_low : (t : Item) → ByteList (frid_bytes t)
unfolding frid_bytes
frid_low t =
    all_join (bytes_low 1 t.rcnm)
    (all_join (bytes_low 4 t.rcid)
    (all_join (bytes_low 1 t.prim)
    (all_join (bytes_low 1 t.grup) (all_join (bytes_low 2 t.objl) (all_join (bytes_low 2 t.version) (byte 1 (omega arith) all_none))))))

-- the kinds of lists have numbers of the table
vector_few : All (λ (k : ℕ). k < kind_count) vector_kinds
vector_few = all_more (lit< tt) (all_more (lit< tt) (all_more (lit< tt) (all_more (lit< tt) all_none)))

feature_few : All (λ (k : ℕ). k < kind_count) feature_kinds
feature_few = all_more (lit< tt) (all_more (lit< tt) (all_more (lit< tt) (all_more (lit< tt) all_none)))

object_low : (n : ℕ) (t : Item) → ByteObject t → All BytePiece (item_pieces n t)
unfolding item_pieces vector_pieces feature_pieces
object_low n t b = pick (is_feature t.rcnm)
  where
    pick : (z : Bool) → All BytePiece (cond z (feature_pieces n t) (vector_pieces n t))
    pick true =
        all_more (piece_low first (omega arith) (bytes_low 2 n))
        (all_more (piece_low FRID (omega arith) (frid_low t))
        (all_more (piece_low FOID (omega arith) (bytes_low 8 t.foid))
        (lists_low t.lists feature_few b.lists)))
    pick false =
        all_more (piece_low first (omega arith) (bytes_low 2 n))
        (all_more (piece_low VRID (omega arith) (vrid_low t))
        (lists_low t.lists vector_few b.lists))

objects_low : (n : ℕ) {ts : List Item} → All ByteObject ts → All (All BytePiece) (items_pieces n ts)
unfolding items_pieces
objects_low n all_none = all_none
objects_low n (all_more {e = t} b bs) = all_more (object_low n t b) (objects_low (n + 1) bs)

dsid_low : (d : Dsid) → ByteDsid d → ByteList (dsid_bytes d)
unfolding dsid_bytes dsid_with shortest
dsid_low d b =
    all_join b.named
    (all_join (digits_low (fewest d.edition) d.edition)
    (byte 31 (omega arith)
    (all_join (digits_low (fewest d.number) d.number) (byte 31 (omega arith) (all_join b.applied (all_join b.issued b.rest))))))

dssi_low : (aall nall : ℕ) (t : Tally) → aall ≤ 1 → nall ≤ 1 → ByteList (dssi_bytes aall nall t)
unfolding dssi_bytes feature_counts vector_counts
dssi_low aall nall t a b =
    byte 2 (omega arith)
    (byte aall (omega arith)
    (byte nall (omega arith)
    (all_join (all_join (bytes_low 4 t.meta) (all_join (bytes_low 4 0) (all_join (bytes_low 4 t.geo) (bytes_low 4 t.collection))))
    (all_join (bytes_low 4 t.isolated) (all_join (bytes_low 4 t.connected) (all_join (bytes_low 4 t.edges) (bytes_low 4 0)))))))

chart_low : (c : Chart) → GoodChart c → ByteChart c → All (All BytePiece) (records_of c)
unfolding records_of dsid_pieces dspm_pieces
chart_low c g b =
    all_more
    (all_more (piece_low first (omega arith) (bytes_low 2 1))
    (all_more (piece_low DSID (omega arith) (dsid_low c.header.dsid b.dsid))
    (all_more (piece_low DSSI (omega arith) (dssi_low c.header.aall c.header.nall (tally_in c.items) g.aall_low g.nall_low)) all_none)))
    (all_more
    (all_more (piece_low first (omega arith) (bytes_low 2 2)) (all_more (piece_low DSPM (omega arith) b.dspm) all_none))
    (objects_low 3 b.items))

-- ---- the held form
literal_low : ByteList first_bytes
unfolding first_bytes all_of
literal_low = told first_bytes refl

first_low : ByteList first_record
first_low = rw first_literal literal_low

pub held_bytes_lem : (c : Chart) → GoodChart c → Fits c → ByteChart c → Bytes (held_of c)
held_bytes_lem c g fit b = byte_file (all_join first_low (records_low fit.each (chart_low c g b)))
