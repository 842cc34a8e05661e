-- The code that writes DSID and DSSI: what it finds, its room, and how what its calls wrote joins. Assumes nothing.
use Prim.Native.Nat.{ℕ, ◌+◌, ◌-◌, ◌%◌, ◌≤◌, ◌<◌}
use mathlib.Core.List.{List, [], ◌∷◌, ◌++◌, append_assoc, append-nil}
use mathlib.Core.Path.{◌≡◌, sym, ap, ◌∙◌}
use native.Mathlib.Omega.{arith}
use lib.ListN.{length, take, drop, length-append, length-drop}
use lib.Seq.{length-take-le, take_all}
use Rattle.octets.specs.Number.{bytes_of}
use Rattle.octets.specs.Digits.{number_at, digits_of, fewest}
use Rattle.octets.specs.Premises.{Number}
use Rattle.octets.specs.Area.{Wrote}
use Rattle.octets.proofs.AreaLaws.{wrote_join, wrote_as, wrote_length}
use Rattle.octets.proofs.NumberLaws.{wrote_to}
use Rattle.octets.proofs.DigitsLaws.{digits_length}
use Rattle.dataset.specs.Dsid.{dsid_ends, updn_end}
use Rattle.dataset.specs.declared.Ends.{Ends}
use Rattle.counted.specs.declared.counts.Tally.{Tally}
use Rattle.header.specs.Dsid.{shortest, dsid_with, dsid_of, dsid_bytes, revised}
use Rattle.layout.specs.General.{edition_in, number_in}
use Rattle.header.specs.Dssi.{feature_counts, vector_counts, dssi_bytes}
use Rattle.header.specs.Known.{Known, EndsKnown, PartsOf, SizeWith, dated}
use Rattle.header.specs.declared.dsid.Parts.{Parts}

-- ---- parts_of
pub ends_known : {d : List ℕ} {e : Ends} → Known d → e ≡ dsid_ends d → EndsKnown d e
unfolding dsid_ends
ends_known {d} k is =
    rw is (record { name = k.name; edition = k.edition; edition_few = k.edition_few; number = k.number; number_few = k.number_few; behind = k.behind })

pub parts_told : {d : List ℕ} (e : Ends) (ed nu : ℕ) → e ≡ dsid_ends d → EndsKnown d e → Number d (e.dsnm + 1) (e.edtn - (e.dsnm + 1)) ed
    → Number d (e.edtn + 1) (e.updn - (e.edtn + 1)) nu
    → PartsOf d (record { edition = ed; number = nu; issue = e.updn + 1 })
unfolding dsid_ends edition_in number_in
parts_told {d} e ed nu is k x y = record {
  edition = x.is ∙ ap (λ (i : Ends). number_at d (i.dsnm + 1) (i.edtn - (i.dsnm + 1))) is;
  number = y.is ∙ ap (λ (i : Ends). number_at d (i.edtn + 1) (i.updn - (i.edtn + 1))) is;
  few = y.most;
  issue = ap (λ (i : Ends). i.updn + 1) is;
  front = let a = k.edition in let b = k.number in let f = k.behind in omega arith;
  behind = let f = k.behind in omega arith;
}

-- ---- put_number
pub number_room : {a b : List ℕ} {at f m : ℕ} (v : ℕ) → f ≡ fewest v → Wrote a at (digits_of f v) b m → at + (fewest v + 1) ≤ length a → m + 1 ≤ length b
number_room {f = f} v is w room = omega (arith, w.end, digits_length f v, wrote_length w)

pub number_put : {a b d : List ℕ} {at f m r : ℕ} (v : ℕ) → f ≡ fewest v → Wrote a at (digits_of f v) b m → Wrote b m (bytes_of 1 31) d r → Wrote a at (shortest v ++ (31 ∷ [])) d r
unfolding shortest bytes_of
number_put v is w x = wrote_join (rw is at w) x

shortest_length : (v : ℕ) → length (shortest v ++ (31 ∷ [])) ≡ fewest v + 1
unfolding shortest
shortest_length v = rw (length-append, digits_length (fewest v) v)

-- ---- put_names
-- each number together with its 1F
with_parts : (front : List ℕ) (ed nu : ℕ) (back : List ℕ) → dsid_with front ed nu back ≡ front ++ ((shortest ed ++ (31 ∷ [])) ++ ((shortest nu ++ (31 ∷ [])) ++ back))
unfolding dsid_with
with_parts front ed nu back = rw (append_assoc (shortest ed) (31 ∷ []) ((shortest nu ++ (31 ∷ [])) ++ back), append_assoc (shortest nu) (31 ∷ []) back)

with_none : (front : List ℕ) (ed nu : ℕ) → dsid_with front ed nu [] ≡ front ++ ((shortest ed ++ (31 ∷ [])) ++ (shortest nu ++ (31 ∷ [])))
with_none front ed nu = with_parts front ed nu [] ∙ rw (append-nil (shortest nu ++ (31 ∷ [])))

-- what stands behind the numbers stands behind all
with_back : (front : List ℕ) (ed nu : ℕ) (back : List ℕ) → dsid_with front ed nu back ≡ dsid_with front ed nu [] ++ back
with_back front ed nu back =
    let x = shortest ed ++ (31 ∷ []) in
    let y = shortest nu ++ (31 ∷ []) in
    with_parts front ed nu back ∙ rw (with_none front ed nu, append_assoc front (x ++ y) back, append_assoc x y back)

with_length : (front : List ℕ) (ed nu : ℕ) (back : List ℕ) → length (dsid_with front ed nu back) ≡ length front + (fewest ed + 1 + (fewest nu + 1 + length back))
with_length front ed nu back =
    ap length (with_parts front ed nu back)
    ∙ rw (length-append front, length-append (shortest ed ++ (31 ∷ [])), length-append (shortest nu ++ (31 ∷ [])), shortest_length ed, shortest_length nu)

module _ (front : List ℕ) (ed nu : ℕ) (a : List ℕ) (at : ℕ) (room : at + length (dsid_with front ed nu []) ≤ length a) where
  pub front_room : at + length front ≤ length a
  front_room = omega (arith, with_length front ed nu [])

  module _ {b : List ℕ} {m : ℕ} (w : Wrote a at front b m) where
    pub edition_room : m + (fewest ed + 1) ≤ length b
    edition_room = omega (arith, with_length front ed nu [], w.end, wrote_length w)

    module _ {d : List ℕ} {q : ℕ} (x : Wrote b m (shortest ed ++ (31 ∷ [])) d q) where
      pub update_room : q + (fewest nu + 1) ≤ length d
      update_room = omega (arith, with_length front ed nu [], w.end, wrote_length w, x.end, wrote_length x, shortest_length ed)

      pub names_put : {e : List ℕ} {r : ℕ} → Wrote d q (shortest nu ++ (31 ∷ [])) e r → Wrote a at (dsid_with front ed nu []) e r
      names_put y = wrote_as (dsid_with front ed nu []) (sym (with_none front ed nu)) (wrote_join w (wrote_join x y))

-- ---- put_dates
module _ (x y z a : List ℕ) (at : ℕ) (room : at + length (x ++ (y ++ z)) ≤ length a) where
  pub applied_room : at + length x ≤ length a
  applied_room = omega (arith, length-append x (y ++ z))

  module _ {b : List ℕ} {m : ℕ} (w : Wrote a at x b m) where
    pub issued_room : m + length y ≤ length b
    issued_room = omega (arith, length-append x (y ++ z), length-append y z, w.end, wrote_length w)

    module _ {d : List ℕ} {q : ℕ} (v : Wrote b m y d q) where
      pub rest_room : q + length z ≤ length d
      rest_room = omega (arith, length-append x (y ++ z), length-append y z, w.end, wrote_length w, v.end, wrote_length v)

      pub dates_put : {e : List ℕ} {r : ℕ} → Wrote d q z e r → Wrote a at (x ++ (y ++ z)) e r
      dates_put u = wrote_join w (wrote_join v u)

-- ---- put_dated
module _ {d : List ℕ} {p : Parts} (is : PartsOf d p) (nu : ℕ) (x y : List ℕ) where
  -- what stands behind the dates, as the code lends it
  abbrev rest : List ℕ
  rest = take (length d - (p.issue + 16)) (drop (p.issue + 16) d)

  lent_rest : rest ≡ drop (updn_end d + 17) d
  lent_rest =
      let e : p.issue + 16 ≡ updn_end d + 17 = (let i = is.issue in omega arith) in
      take_all (length d - (p.issue + 16)) (drop (p.issue + 16) d) (omega (arith, length-drop (p.issue + 16) d)) ∙ ap (λ (k : ℕ). drop k d) e

  dated_parts : dsid_bytes (dated d nu x y) ≡ dsid_with (take 20 d) p.edition nu [] ++ (x ++ (y ++ rest))
  unfolding dsid_bytes
  dated_parts = with_back (take 20 d) (edition_in d) nu (x ++ (y ++ drop (updn_end d + 17) d)) ∙ rw (is.edition, lent_rest)

  module _ (a : List ℕ) (at : ℕ) (room : at + length (dsid_bytes (dated d nu x y)) ≤ length a) where
    pub names_room : at + length (dsid_with (take 20 d) p.edition nu []) ≤ length a
    names_room = omega (arith, ap length dated_parts, length-append (dsid_with (take 20 d) p.edition nu []) (x ++ (y ++ rest)))

    module _ {b : List ℕ} {m : ℕ} (w : Wrote a at (dsid_with (take 20 d) p.edition nu []) b m) where
      pub dates_room : m + length (x ++ (y ++ rest)) ≤ length b
      dates_room = omega (arith, ap length dated_parts, length-append (dsid_with (take 20 d) p.edition nu []) (x ++ (y ++ rest)), w.end, wrote_length w)

      pub dated_put : {e : List ℕ} {r : ℕ} → Wrote b m (x ++ (y ++ rest)) e r → Wrote a at (dsid_bytes (dated d nu x y)) e r
      dated_put v = wrote_as (dsid_bytes (dated d nu x y)) (sym dated_parts) (wrote_join w v)

-- ---- size_with
pub size_with : {d : List ℕ} {p : Parts} (nu k l : ℕ) → Known d → PartsOf d p → k ≡ fewest p.edition → l ≡ fewest nu → k ≤ 10 → l ≤ 10
    → SizeWith d nu (22 + k + l + (length d - p.issue))
unfolding dsid_bytes
size_with {d} {p} nu k l known is ek el low small = record {
  is = λ x y long short.
      let f : length (take 20 d) ≡ 20 = length-take-le 20 d is.front in
      let g = length-drop (updn_end d + 17) d in
      let i = is.issue in
      let j = is.behind in
      let e : fewest (edition_in d) ≡ k = sym (ek ∙ ap fewest is.edition) in
      let n = with_length (take 20 d) (edition_in d) nu (x ++ (y ++ drop (updn_end d + 17) d)) in
      let a = length-append x (y ++ drop (updn_end d + 17) d) in
      let b = length-append y (drop (updn_end d + 17) d) in
      sym (n ∙ omega arith);
  few = let i = is.issue in let j = is.behind in let a = known.edition in let b = known.number in omega arith;
}

-- ---- dsid_size, put_dsid
eight : (n : ℕ) → n + 8 - n ≡ 8
eight n = omega arith

date_long : (n : ℕ) (d : List ℕ) → n + 8 ≤ length d → length (take 8 (drop n d)) ≡ 8
date_long n d h = length-take-le 8 (drop n d) (omega (arith, length-drop n d))

module _ {d : List ℕ} {p : Parts} (is : PartsOf d p) where
  -- the dates as the code lends them
  abbrev applied : List ℕ
  applied = take (p.issue + 8 - p.issue) (drop p.issue d)

  abbrev issued : List ℕ
  issued = take (p.issue + 8 + 8 - (p.issue + 8)) (drop (p.issue + 8) d)

  applied_is : applied ≡ take 8 (drop (updn_end d + 1) d)
  applied_is = rw (eight p.issue, is.issue)

  issued_is : issued ≡ take 8 (drop (updn_end d + 9) d)
  issued_is = let e : p.issue + 8 ≡ updn_end d + 9 = (let i = is.issue in omega arith) in rw (eight (p.issue + 8), e)

  applied_long : length applied ≡ 8
  applied_long = let b = is.behind in rw (eight p.issue) (date_long p.issue d (omega arith))

  issued_long : length issued ≡ 8
  issued_long = let b = is.behind in rw (eight (p.issue + 8)) (date_long (p.issue + 8) d (omega arith))

  own_dated : dsid_of d ≡ dated d p.number applied issued
  unfolding dsid_of
  own_dated = rw (is.number, applied_is, issued_is)

  pub dsid_sized : {r : ℕ} → SizeWith d p.number r → r ≡ length (dsid_bytes (dsid_of d))
  dsid_sized s = rw own_dated (s.is applied issued applied_long issued_long)

  pub dsid_room : (at n : ℕ) → at + length (dsid_bytes (dsid_of d)) ≤ n → at + length (dsid_bytes (dated d p.number applied issued)) ≤ n
  dsid_room at n h = rw own_dated at h

  pub dsid_put : {a b : List ℕ} {at r : ℕ} → Wrote a at (dsid_bytes (dated d p.number applied issued)) b r → Wrote a at (dsid_bytes (dsid_of d)) b r
  dsid_put w = wrote_as (dsid_bytes (dsid_of d)) (ap dsid_bytes (sym own_dated)) w

  -- ---- revised_size, put_revised: these are the parts of the update's DSID, f is the cell's
  revised_dated : (f : List ℕ) → revised (dsid_of f) (dsid_of d) ≡ dated f p.number issued issued
  unfolding revised dsid_of
  revised_dated f = rw (is.number, issued_is)

  pub revised_sized : {r : ℕ} (f : List ℕ) → SizeWith f p.number r → r ≡ length (dsid_bytes (revised (dsid_of f) (dsid_of d)))
  revised_sized f s = rw (revised_dated f) (s.is issued issued issued_long issued_long)

  pub revised_room : (f : List ℕ) (at n : ℕ) → at + length (dsid_bytes (revised (dsid_of f) (dsid_of d))) ≤ n → at + length (dsid_bytes (dated f p.number issued issued)) ≤ n
  revised_room f at n h = rw (revised_dated f) at h

  pub revised_put : {a b : List ℕ} {at r : ℕ} (f : List ℕ) → Wrote a at (dsid_bytes (dated f p.number issued issued)) b r
      → Wrote a at (dsid_bytes (revised (dsid_of f) (dsid_of d))) b r
  revised_put f w = wrote_as (dsid_bytes (revised (dsid_of f) (dsid_of d))) (ap dsid_bytes (sym (revised_dated f))) w

-- ---- put_levels, put_features, put_vectors, put_dssi
byte_in : (v : ℕ) → v < 256 → bytes_of 1 v ≡ v ∷ []
unfolding bytes_of
byte_in v h = let e : v % 256 ≡ v = omega arith in rw e

pub levels_put : {a b d e : List ℕ} {at m q r : ℕ} (x y : ℕ) → x < 256 → y < 256 → Wrote a at (bytes_of 1 2) b m → Wrote b m (bytes_of 1 x) d q → Wrote d q (bytes_of 1 y) e r
    → Wrote a at (2 ∷ x ∷ y ∷ []) e r
unfolding bytes_of
levels_put x y xs ys u v w = wrote_join u (wrote_join (wrote_as (x ∷ []) (byte_in x xs) v) (wrote_as (y ∷ []) (byte_in y ys) w))

pub levels_second : {a b : List ℕ} {at m : ℕ} (x : ℕ) → at + 3 ≤ length a → Wrote a at (bytes_of 1 x) b m → m + 1 ≤ length b
levels_second x room w = omega (arith, wrote_to 1 x w, wrote_length w)

pub levels_third : {a b d : List ℕ} {at m q : ℕ} (x y : ℕ) → at + 3 ≤ length a → Wrote a at (bytes_of 1 x) b m → Wrote b m (bytes_of 1 y) d q → q + 1 ≤ length d
levels_third x y room w v = omega (arith, wrote_to 1 x w, wrote_length w, wrote_to 1 y v, wrote_length v)

pub levels_end : {a b d e : List ℕ} {at m q r : ℕ} (x y z : ℕ) → Wrote a at (bytes_of 1 x) b m → Wrote b m (bytes_of 1 y) d q → Wrote d q (bytes_of 1 z) e r → r ≡ at + 3
levels_end x y z u v w = omega (arith, wrote_to 1 x u, wrote_to 1 y v, wrote_to 1 z w)

pub pair_room : {a b : List ℕ} {at m : ℕ} (x : ℕ) → at + 8 ≤ length a → Wrote a at (bytes_of 4 x) b m → m + 4 ≤ length b
pair_room x room w = omega (arith, wrote_to 4 x w, wrote_length w)

pub pair_put : {a b d : List ℕ} {at m r : ℕ} (x y : ℕ) → Wrote a at (bytes_of 4 x) b m → Wrote b m (bytes_of 4 y) d r → Wrote a at (bytes_of 4 x ++ bytes_of 4 y) d r
pair_put x y w v = wrote_join w v

pub pair_end : {a b d : List ℕ} {at m r : ℕ} (x y : ℕ) → Wrote a at (bytes_of 4 x) b m → Wrote b m (bytes_of 4 y) d r → r ≡ at + 8
pair_end x y w v = omega (arith, wrote_to 4 x w, wrote_to 4 y v)

-- room for the second pair
pub pairs_room : {a b xs : List ℕ} {at m : ℕ} → at + 16 ≤ length a → Wrote a at xs b m → m ≡ at + 8 → m + 8 ≤ length b
pairs_room room w e = omega (arith, wrote_length w)

pub features_put : {a b d : List ℕ} {at m r : ℕ} (t : Tally) → Wrote a at (bytes_of 4 t.meta ++ bytes_of 4 0) b m
    → Wrote b m (bytes_of 4 t.geo ++ bytes_of 4 t.collection) d r → Wrote a at (feature_counts t) d r
unfolding feature_counts bytes_of
features_put t w v = wrote_join w v

pub vectors_put : {a b d : List ℕ} {at m r : ℕ} (t : Tally) → Wrote a at (bytes_of 4 t.isolated ++ bytes_of 4 t.connected) b m
    → Wrote b m (bytes_of 4 t.edges ++ bytes_of 4 0) d r → Wrote a at (vector_counts t) d r
unfolding vector_counts bytes_of
vectors_put t w v = wrote_join w v

-- room behind three bytes, and behind sixteen more
pub features_room : {a b xs : List ℕ} {at m : ℕ} → at + 35 ≤ length a → Wrote a at xs b m → m ≡ at + 3 → m + 16 ≤ length b
features_room room w e = omega (arith, wrote_length w)

pub vectors_room : {a b d xs ys : List ℕ} {at m q : ℕ} → at + 35 ≤ length a → Wrote a at xs b m → m ≡ at + 3 → Wrote b m ys d q → q ≡ m + 16 → q + 16 ≤ length d
vectors_room room w e v f = omega (arith, wrote_length w, wrote_length v)

pub dssi_put : {a b d e : List ℕ} {at m q r x y : ℕ} (t : Tally) → Wrote a at (2 ∷ x ∷ y ∷ []) b m → Wrote b m (feature_counts t) d q → Wrote d q (vector_counts t) e r
    → Wrote a at (dssi_bytes x y t) e r
unfolding dssi_bytes
dssi_put t w v u = wrote_join w (wrote_join v u)
