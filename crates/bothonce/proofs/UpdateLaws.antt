-- Laws of an update that is read in one pass, and of the part of the work area that is lent for it. Assumes nothing.
use Prim.Native.Nat.{ℕ, ◌-◌, ◌*◌, ◌≤◌}
use mathlib.Core.Bool.{true, false}
use mathlib.Core.List.{List}
use mathlib.Core.Path.{◌≡◌, refl, sym, ◌∙◌}
use native.Mathlib.Omega.{arith}
use lib.ListN.{length, take}
use borrow.Rule.Slice.PartMut.{mid_of, put_mid, mid_len}
use Rattle.words.specs.Words.{words_in}
use Rattle.words.specs.Order.{sorted, Sorts}
use Rattle.std.specs.Prelude.{Option, Some, None, is_some}
use Rattle.answers.proofs.OutcomeLaws.{none_of}
use Rattle.names.specs.Names.{first_item, twice_of, met_twice}
use Rattle.names.specs.NameWords.{name_words}
use Rattle.names.specs.Premises.{Readable}
use Rattle.names.specs.declared.twice.Repeat.{Repeat}
use Rattle.names.proofs.ReadableLaws.{readable_few}
use Rattle.names.proofs.CollectLaws.{order_done}
use Rattle.reader.proofs.ReaderLaws.{readable, update_fine, come_words}
use Rattle.reader.proofs.FrontLaws.{front_count}
use Rattle.readboth.proofs.BothLaws.{update_placed, part_front}
use Rattle.readonce.specs.Once.{FileTold}
use Rattle.readonce.specs.declared.pass.Passed.{Passed}
use Rattle.bothonce.specs.Both.{UpdateTold, PlacedTold}

pub update_not : {s area : List ℕ} → UpdateTold s area 0
update_not = record { told = λ some. absurd (some refl) }

none_some : (t : Option Repeat) → is_some t ≡ false → t ≡ None
none_some None h = refl
none_some (Some w) h = cc

-- ---- of m records that were passed
module _ {s before area : List ℕ} {p : Passed} (told : FileTold true s before area p) (some : p.count ≡ 0 → ⊥) where
  abbrev m : ℕ
  m = p.count

  pub once_readable : Readable true s m
  once_readable = let r = told.told some in readable true s m r.framed r.short r.none

  pub once_two : 2 ≤ m
  unfolding first_item
  once_two = once_readable.head

  pub once_few : m ≤ 5242880
  once_few = readable_few once_readable

  -- ---- and sorted
  module _ {after : List ℕ} (sorts : Sorts area 0 (m - 2) after) where
    pub once_words : words_in after 0 (m - first_item true) ≡ sorted (name_words true s m)
    unfolding first_item
    once_words = (order_done true s before area after m 2 refl (told.told some).words sorts).words

    pub once_room : 8 * m ≤ length area → 8 * (m - first_item true) ≤ length after
    once_room room = let size = sorts.size in omega arith

    -- ---- without a name twice
    pub update_all : (t : Option Repeat) → t ≡ met_twice (twice_of true s m) → is_some t ≡ false → 8 * m ≤ length area → UpdateTold s after m
    update_all t twice once room =
        let r = told.told some in
        record {
          told = λ some. record {
            front = sym (front_count 2 s _ r.short refl m r.framed);
            two = once_two;
            room = (let size = sorts.size in omega arith);
            fine = none_of _ (update_fine s m r.none twice (none_some t once)) refl;
            words = come_words once_words;
          };
        }

-- ---- the part from word i on is lent, and comes back as ys
module _ (work ys : List ℕ) (i : ℕ) (inside : 8 * i ≤ length work) (long : length ys ≡ length (mid_of (8 * i) (length work - 8 * i) work)) where
  pub placed_told : {s : List ℕ} {r : ℕ} → UpdateTold s ys r → PlacedTold s i (put_mid (8 * i) (length work - 8 * i) work ys) r
  placed_told {s} {r} t =
      let size = long ∙ mid_len (8 * i) (length work) work (omega arith) in
      record {
        told = λ some.
            let u = t.told some in
            let room = u.room in
            record { front = u.front; two = u.two; fine = u.fine; words = update_placed work ys i r (omega arith) long s u.words };
      }

  pub placed_front : take (8 * i) (put_mid (8 * i) (length work - 8 * i) work ys) ≡ take (8 * i) work
  placed_front = part_front work ys i 0 (omega arith) long
