-- Laws of the loop over coordinates: as long as none was beyond its limit, the rule of all entries is the rule of those left. Assumes nothing.
use Rattle.std.proofs.Common.{◌≡◌, ℕ, suc, ◌+◌, ◌-◌, ◌*◌, ◌/◌, ◌%◌, ◌<◌, ◌≤◌, Bool, true, false, not, ◌||◌, ltb, List, length, take, drop, sym, refl, ⊎_elim, mul-le-mul_right, mod-lt, mul-le-mul_left, div-add-mod', zero-mul, arith, length-drop, length-take, ltb-false, le-ltb, lt-ltb, le-leb}
use Rattle.octets.specs.Premises.{Reads}
use Rattle.octets.proofs.Cases.{le_or_lt}
use Rattle.entries.specs.Entries.{entries_of}
use Rattle.entries.specs.Rules.{all_of}
use Rattle.items.proofs.PartLaws.{stride_end, stride_on}
use Rattle.vectorshape.specs.Shape.{magnitude, pair_good}
use Rattle.spans.specs.Spans.{rest_of}
use Rattle.spans.specs.declared.Span.{Span}
use Rattle.quickvectors.specs.Quick.{BeyondTold, PairTold, PairsTold, ListTold}

pub never : {A : Type 0} → false ≡ true → A
never e = absurd (let z : ◌≡◌ {A = ℕ} 0 1 = cc in omega arith)

pub ever : {A : Type 0} → true ≡ false → A
ever e = absurd (let z : ◌≡◌ {A = ℕ} 0 1 = cc in omega arith)

-- ---- one number: w is the sum, modulo 2 ^ 32
within_limit : (u limit w : ℕ) → u < 4294967296 → limit ≤ 1800000000 → w ≡ (u + limit) % 4294967296 → w ≤ 2 * limit → magnitude u ≤ limit
unfolding magnitude
within_limit u limit w byte small sum h =
    ⊎_elim
    (λ (high : 2147483648 ≤ u). rw (le-ltb u 2147483648 high) (omega arith))
    (λ (low : u < 2147483648). rw (lt-ltb u 2147483648 low) (omega arith))
    (le_or_lt 2147483648 u)

pub beyond_told : (u limit w : ℕ) → u < 4294967296 → limit ≤ 1800000000 → w ≡ (u + limit) % 4294967296 → BeyondTold u limit (ltb (2 * limit) w)
beyond_told u limit w byte small sum = record { is = λ (e : ltb (2 * limit) w ≡ false). within_limit u limit w byte small sum (ltb-false (2 * limit) w e) }

-- ---- a pair
neither : (a b : Bool) → (a || b) ≡ false → (a ≡ false) × (b ≡ false)
neither true b e = ever e
neither false b e = (refl, e)

pub pair_told : (comf : ℕ) (e : List ℕ) (u w : ℕ) (y x : Bool) → Reads e 0 4 u → BeyondTold u (90 * comf) y → Reads e 4 4 w → BeyondTold w (180 * comf) x
    → PairTold comf e (y || x)
unfolding pair_good
pair_told comf e u w y x first north second east = record {
  is = λ (none : (y || x) ≡ false).
      let n = neither y x none in
      rw (← first.is, ← second.is, le-leb (magnitude u) (90 * comf) (north.is n.0), le-leb (magnitude w) (180 * comf) (east.is n.1));
}

-- ---- the loop: k entries are passed, and `out` says whether one of them was beyond
pub record Passed (comf size : ℕ) (b : List ℕ) (k : ℕ) (out : Bool) : Type 0 where
  pub so : out ≡ false → all_of (pair_good comf) (entries_of (record { fixed = size; unit = 0 }) b)
      ≡ all_of (pair_good comf) (entries_of (record { fixed = size; unit = 0 }) (drop (k * size) b))

pub passed_start : (comf size : ℕ) (b : List ℕ) → Passed comf size b 0 false
passed_start comf size b = record { so = λ (e : false ≡ false). rw (zero-mul size) }

-- an entry that is counted lies within the bytes
pub count_room : (n size k : ℕ) → 8 ≤ size → k < n / size → k * size + size ≤ n
count_room n size k some more =
    let most : suc k * size ≤ n / size * size = mul-le-mul_right size more in
    let sum : n / size * size + n % size ≡ n = div-add-mod' n size in
    omega arith

pub entry_room : (b : List ℕ) (size k : ℕ) → 8 ≤ size → k < length b / size → k * size + size ≤ length b
entry_room b size k some more = count_room (length b) size k some more

pub entry_below : (b : List ℕ) (size k : ℕ) → 8 ≤ size → k < length b / size → k < length b
entry_below b size k some more =
    let room = entry_room b size k some more in
    let eight : k * 8 ≤ k * size = mul-le-mul_left k some in
    omega arith

module _ (comf size : ℕ) (b : List ℕ) (k : ℕ) (out : Bool) (passed : Passed comf size b k out) (some : 8 ≤ size) where
  pub passed_end : length b / size ≤ k → PairsTold comf size b (not out)
  passed_end all = record { is = by out passed }
    where
      last : length b - k * size < size
      last =
          let most : length b / size * size ≤ k * size = mul-le-mul_right size all in
          let sum : length b / size * size + length b % size ≡ length b = div-add-mod' (length b) size in
          let pos : 0 < size = omega arith in
          let low = mod-lt (length b) pos in
          omega arith

      by : (o : Bool) → Passed comf size b k o → not o ≡ true → all_of (pair_good comf) (entries_of (record { fixed = size; unit = 0 }) b) ≡ true
      by true p e = never e
      by false p e = sym (stride_end (pair_good comf) size b (k * size) (p.so refl) last)

  -- i is where entry k starts
  pub passed_on : (r : Bool) (i : ℕ) → i ≡ k * size → i + size ≤ length b → PairTold comf (take (i + size - i) (drop i b)) r → Passed comf size b (k + 1) (out || r)
  passed_on r i starts room told = record {
    so = λ (e : (out || r) ≡ false).
        let n = neither out r e in
        let next : (k + 1) * size ≡ i + size = omega arith in
        let good = told.is n.1 in
        rw next (stride_on (pair_good comf) size b i (rw starts (passed.so n.0)) some (omega arith) true (sym good) refl);
  }

-- an entry as it is lent has eight bytes at least
pub entry_long : (b : List ℕ) (size i : ℕ) → 8 ≤ size → i + size ≤ length b → 8 ≤ length (take (i + size - i) (drop i b))
entry_long b size i some room = rw (length-take, length-drop) (omega arith)

-- ---- a span
pub list_no : (comf size : ℕ) (s : List ℕ) (sp : Span) → ListTold comf size s sp false
list_no comf size s sp = record { order = λ (e : false ≡ true). never e; is = λ (e : false ≡ true). never e }

pub list_told : (comf size : ℕ) (s : List ℕ) (sp : Span) (r : Bool) → sp.from ≤ sp.to → PairsTold comf size (take (sp.to - sp.from) (drop sp.from s)) r
    → ListTold comf size s sp r
unfolding rest_of
list_told comf size s sp r order told = record { order = λ (e : r ≡ true). order; is = λ (e : r ≡ true). told.is e }
