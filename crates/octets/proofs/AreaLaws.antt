-- Laws of `Has`, `Wrote` and `Going`: what stands in a list, what a writer wrote, and a writer under way. With them no proof above
-- sees an index of an appended list or a single store. Assumes nothing.
use Rattle.std.proofs.Common.{◌≡◌, ℕ, suc, ◌+◌, ◌<◌, ◌≤◌, List, [], ◌∷◌, ◌++◌, length, get_or, take, drop, set, replicate, sym, refl, ap, ◌∙◌, append_assoc, append-nil, add-zero, add_assoc, add-suc, suc-add, add-one, arith, length-append, length-drop, drop_of_length-le, length-take-le, get_or-drop, drop-cons, get_or-take, take_at, get_or-append-add, ext_get_or, drop_at}
use lib.ListN.{get_or-append}
use lib.Seq.{sets, set_comm, drop-length, length-sets, sets-eq}
use Rattle.octets.specs.Number.{byte_at}
use Rattle.octets.specs.Area.{Has, Wrote, Going}

-- ---- Has
pub has_mid : (a xs b : List ℕ) → Has (a ++ (xs ++ b)) (length a) xs
has_mid a xs b = record {
  room = simp length-append (omega arith);
  byte = λ k h. get_or-append-add a (xs ++ b) k 0 ∙ get_or-append xs b 0 k h;
}

pub has_end : (a xs : List ℕ) → Has (a ++ xs) (length a) xs
has_end a xs = record {
  room = simp length-append (omega arith);
  byte = λ k h. get_or-append-add a xs k 0;
}

pub has_whole : (xs b : List ℕ) → Has (xs ++ b) 0 xs
has_whole xs b = has_mid [] xs b

pub has_at : {s : List ℕ} {i : ℕ} {xs : List ℕ} (j : ℕ) → i ≡ j → Has s i xs → Has s j xs
has_at j e h = rw e at h

pub has_left : {s : List ℕ} {i : ℕ} (xs ys : List ℕ) → Has s i (xs ++ ys) → Has s i xs
has_left {s} {i} xs ys h = record {
  room = omega (arith, simp length-append at h.room);
  byte = λ k b. h.byte k (simp length-append (omega arith)) ∙ get_or-append xs ys 0 k b;
}

pub has_right : {s : List ℕ} {i : ℕ} (xs ys : List ℕ) → Has s i (xs ++ ys) → Has s (i + length xs) ys
has_right {s} {i} xs ys h = record {
  room = omega (arith, simp length-append at h.room);
  byte = λ k b. ap (λ (n : ℕ). byte_at s n) (add_assoc i (length xs) k) ∙ h.byte (length xs + k) (simp length-append (omega arith)) ∙ get_or-append-add xs ys k 0;
}

pub has_head : {s : List ℕ} {i x : ℕ} {xs : List ℕ} → Has s i (x ∷ xs) → byte_at s i ≡ x
has_head {s} {i} h = ap (λ (n : ℕ). byte_at s n) (sym (add-zero i)) ∙ h.byte 0 (omega arith)

pub has_tail : {s : List ℕ} {i x : ℕ} {xs : List ℕ} → Has s i (x ∷ xs) → Has s (i + 1) xs
has_tail {s} {i} {x} {xs} h = has_right (x ∷ []) xs h

pub has_part : {s : List ℕ} {i : ℕ} (xs : List ℕ) → Has s i xs → take (length xs) (drop i s) ≡ xs
has_part {s} {i} xs h =
    let size : length (take (length xs) (drop i s)) ≡ length xs = length-take-le (length xs) (drop i s) (rw length-drop (omega (arith, h.room))) in
    ext_get_or 0 (take (length xs) (drop i s)) xs size
    (λ k b. let k< : k < length xs = rw size at b in
    get_or-take (length xs) (drop i s) k 0 k< ∙ get_or-drop i s k 0 ∙ h.byte k k<)

-- ---- stores one after the other
pub sets_append : (xs ys l : List ℕ) (i : ℕ) → sets (sets l i xs) (i + length xs) ys ≡ sets l i (xs ++ ys)
sets_append [] ys l i = ap (λ (k : ℕ). sets l k ys) (add-zero i)
sets_append (x ∷ xs) ys l i =
    ap (λ (k : ℕ). sets (sets (set l i x) (suc i) xs) k ys) (add-suc i (length xs) ∙ sym (suc-add i (length xs)))
    ∙ sets_append xs ys (set l i x) (suc i)

-- a store in front of them, before or after
pub set_sets : (xs l : List ℕ) (i j y : ℕ) → i < j → set (sets l j xs) i y ≡ sets (set l i y) j xs
set_sets [] l i j y h = refl
set_sets (x ∷ xs) l i j y h =
    set_sets xs (set l j x) i (suc j) y (omega arith) ∙ ap (λ (k : List ℕ). sets k (suc j) xs) (set_comm l j i x y (λ e. omega arith))

-- ---- Wrote
pub wrote_none : (a : List ℕ) (at : ℕ) → at ≤ length a → Wrote a at [] a at
wrote_none a at h = record { is = refl; end = sym (add-zero at); room = h }

pub wrote_join : {a b c : List ℕ} {at m r : ℕ} {xs ys : List ℕ} → Wrote a at xs b m → Wrote b m ys c r → Wrote a at (xs ++ ys) c r
wrote_join {a} {b} {c} {at} {m} {r} {xs} {ys} f g =
    let long : length b ≡ length a = ap length f.is ∙ length-sets a at xs in
    record {
      is = g.is ∙ ap (λ (l : List ℕ). sets l m ys) f.is ∙ ap (λ (k : ℕ). sets (sets a at xs) k ys) f.end ∙ sets_append xs ys a at;
      end = rw length-append (omega (arith, f.end, g.end));
      room = omega (arith, long, g.room);
    }

pub wrote_length : {a b : List ℕ} {at r : ℕ} {xs : List ℕ} → Wrote a at xs b r → length b ≡ length a
wrote_length {a} {at = at} {xs = xs} w = ap length w.is ∙ length-sets a at xs

-- the same bytes under another name
pub wrote_as : {a b : List ℕ} {at r : ℕ} {xs : List ℕ} (ys : List ℕ) → xs ≡ ys → Wrote a at xs b r → Wrote a at ys b r
wrote_as ys e w = rw e at w

-- what stands before and behind is as it was
pub wrote_whole : {a b : List ℕ} {at r : ℕ} {xs : List ℕ} → Wrote a at xs b r → b ≡ take at a ++ (xs ++ drop r a)
wrote_whole {a} {at = at} {xs = xs} w =
    let fit : at + length xs ≤ length a = omega (arith, w.end, w.room) in
    w.is ∙ sets-eq xs a at fit ∙ append_assoc (take at a) xs (drop (at + length xs) a)
    ∙ ap (λ (k : ℕ). take at a ++ (xs ++ drop k a)) (sym w.end)

pub wrote_front : {a b : List ℕ} {at r : ℕ} {xs : List ℕ} → Wrote a at xs b r → take at b ≡ take at a
wrote_front {a} {at = at} {r = r} {xs = xs} w =
    let fit : at ≤ length a = omega (arith, w.end, w.room) in
    ap (λ (l : List ℕ). take at l) (wrote_whole w) ∙ take_at (take at a) (xs ++ drop r a) at (length-take-le at a fit)

pub wrote_back : {a b : List ℕ} {at r : ℕ} {xs : List ℕ} → Wrote a at xs b r → drop r b ≡ drop r a
wrote_back {a} {at = at} {r = r} {xs = xs} w =
    let fit : at ≤ length a = omega (arith, w.end, w.room) in
    let head : length (take at a ++ xs) ≡ r = rw (length-append, length-take-le at a fit) (sym w.end) in
    ap (λ (l : List ℕ). drop r l) (wrote_whole w ∙ sym (append_assoc (take at a) xs (drop r a))) ∙ drop_at (take at a ++ xs) (drop r a) r head

-- what was written stands there
pub wrote_has : {a b : List ℕ} {at r : ℕ} {xs : List ℕ} → Wrote a at xs b r → Has b at xs
wrote_has {a} {b} {at} {r} {xs} w =
    let fit : at ≤ length a = omega (arith, w.end, w.room) in
    rw (wrote_whole w) (has_at at (length-take-le at a fit) (has_mid (take at a) xs (drop r a)))

-- there is one answer
pub wrote_only : {a b c : List ℕ} {at r q : ℕ} {xs : List ℕ} → Wrote a at xs b r → Wrote a at xs c q → (b ≡ c) × (r ≡ q)
wrote_only f g = (f.is ∙ sym g.is, f.end ∙ sym g.end)

-- room for the whole is room for its parts
pub room_first : (xs ys : List ℕ) (at n : ℕ) → at + length (xs ++ ys) ≤ n → at + length xs ≤ n
room_first xs ys at n h = omega (arith, simp length-append at h)

pub room_rest : {a b : List ℕ} {at m : ℕ} (xs ys : List ℕ) → at + length (xs ++ ys) ≤ length a → Wrote a at xs b m → m + length ys ≤ length b
room_rest {a} {b} {at} {m} xs ys h w = omega (arith, wrote_length w, w.end, simp length-append at h)

-- ---- Going
pub going_start : (a : List ℕ) (at : ℕ) (all : List ℕ) → at ≤ length a → Going a at all a at all
going_start a at all h = record { done = []; wrote = wrote_none a at h; join = refl }

pub going_step : {a b c : List ℕ} {at p q : ℕ} {all rest : List ℕ} (xs next : List ℕ) → Going a at all b p rest → rest ≡ xs ++ next → Wrote b p xs c q → Going a at all c q next
going_step xs next g e w = record {
  done = g.done ++ xs;
  wrote = wrote_join g.wrote w;
  join = g.join ∙ ap (λ (l : List ℕ). g.done ++ l) e ∙ sym (append_assoc g.done xs next);
}

pub going_end : {a b : List ℕ} {at p : ℕ} {all rest : List ℕ} → Going a at all b p rest → rest ≡ [] → Wrote a at all b p
going_end {all = all} g e = wrote_as all (sym (g.join ∙ ap (λ (l : List ℕ). g.done ++ l) e ∙ append-nil g.done)) g.wrote

pub going_length : {a b : List ℕ} {at p : ℕ} {all rest : List ℕ} → Going a at all b p rest → length b ≡ length a
going_length g = wrote_length g.wrote

pub going_room : {a b : List ℕ} {at p : ℕ} {all rest : List ℕ} → Going a at all b p rest → at + length all ≤ length a → p + length rest ≤ length b
going_room {a} {b} {at} {p} {all} {rest} g h = omega (arith, going_length g, g.wrote.end, ap length g.join, length-append g.done rest)

-- ---- an area cleared to its end
pub clear_all : (a b : List ℕ) (i : ℕ) → i ≡ length a → b ≡ replicate i 0 ++ drop i a → b ≡ replicate (length a) 0
clear_all a b i e h = h ∙ rw (e, drop-length a) (append-nil (replicate (length a) 0))

-- one byte more of a list that is being copied
pub copy_more : {a b : List ℕ} {at i : ℕ} {src : List ℕ} → Going a at src b (at + i) (drop i src) → at + length src ≤ length a → i < length src
    → Going a at src (set b (at + i) (get_or src i 0)) (at + (i + 1)) (drop (i + 1) src)
copy_more {a} {b} {at} {i} {src} g fit more =
    going_step (get_or src i 0 ∷ []) (drop (i + 1) src) g (rw (add-one i) (drop-cons src i 0 more))
    (record { is = refl; end = sym (add_assoc at i 1); room = omega (arith, going_length g) })

-- all bytes copied
pub copy_all : {a b : List ℕ} {at i : ℕ} {src : List ℕ} → Going a at src b (at + i) (drop i src) → i ≡ length src → Wrote a at src b (at + length src)
copy_all {a} {b} {at} {i} {src} g e = rw e at (going_end g (drop_of_length-le src {i = i} (omega arith)))
