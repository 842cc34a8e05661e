-- The words in the work area stand for the cell's chart. Assumes nothing.
use Prim.Native.Nat.{ℕ, ◌+◌, ◌-◌, ◌*◌, ◌≤◌, ◌<◌}
use mathlib.Core.Bool.{false}
use mathlib.Core.List.{List}
use mathlib.Core.Path.{◌≡◌, refl, sym, ap, ◌∙◌}
use native.Mathlib.Omega.{arith}
use lib.ListN.{length, get_or}
use Rattle.octets.proofs.ListLaws.{member_at}
use Rattle.octets.specs.Number.{byte_at}
use Rattle.iso8211.specs.File.{record_at}
use Rattle.iso8211.proofs.Promise.{record_in}
use Rattle.words.specs.Words.{word_at, words_in}
use Rattle.words.specs.Order.{sorted}
use Rattle.words.proofs.WordsLaws.{words_length, words_at}
use Rattle.chart.specs.Read.{read_fault}
use Rattle.items.specs.Word.{word_offset}
use Rattle.items.proofs.IdentityLaws.{word_offset_lem}
use Rattle.names.specs.NameWords.{name_words, items_at}
use Rattle.names.specs.Premises.{Readable, HeldIn}
use Rattle.names.specs.Names.{first_item, twice_of}
use Rattle.names.proofs.HeldLaws.{all_stand}
use Rattle.names.proofs.ItemsLaws.{held_items_lem}
use Rattle.names.proofs.NamedLaws.{word_record}
use Rattle.names.proofs.ReadableLaws.{place_small}
use Rattle.items.specs.Item.{Item}
use Rattle.names.specs.Held.{held_items}
use Rattle.held.specs.Chart.{header_of, chart_of}
use Rattle.held.proofs.CellLaws.{cell_told}
use Rattle.writing.specs.All.{Words}
use Rattle.itemrows.specs.Plain.{Writable}
use Rattle.writing.proofs.WritableLaws.{cell_writable}
use Rattle.reissue.specs.Plan.{chart_from, Ready}
use Rattle.reissue.proofs.TallyLaws.{objects_length}
use Rattle.layout.specs.Premises.{DssiThere, DspmThere}

-- ---- the words in the work area
held_chart : (s work : List ℕ) (n : ℕ) → items_at s (words_in work 0 (n - 3)) ≡ held_items s n → chart_from s (words_in work 0 (n - 3)) ≡ chart_of s n
unfolding chart_of
held_chart s work n same = ap (λ (os : List Item). record { header = header_of s; items = os }) same

module _ {s : List ℕ} {n : ℕ} {work : List ℕ} (readable : Readable false s n) (fine : (read_fault false s n).code ≡ 0) (held : HeldIn s n work) where
  word_writable : (p : ℕ) → p < n - 3 → Writable s (word_offset (word_at work p))
  unfolding first_item
  word_writable p h =
      let ws = sorted (name_words false s n) in
      let long : length ws ≡ n - 3 = ap length (sym held.words) ∙ words_length work 0 (n - 3) in
      let r = word_record false s n (get_or ws p 0) (member_at ws p (omega arith)) in
      let word : get_or ws p 0 ≡ word_at work p = ap (λ (l : List ℕ). get_or l p 0) (sym held.words) ∙ words_at work 0 (n - 3) p h
      ∙ ap (λ (i : ℕ). word_at work i) (let e : 0 + p ≡ p = omega arith in e) in
      let place : word_offset (word_at work p) ≡ record_at s r.0 = ap (λ (v : ℕ). word_offset v) (sym word ∙ sym r.3) ∙ word_offset_lem s (record_at s r.0)
      (place_small readable r.0 r.2) in
      rw place (cell_writable s n r.0 readable fine r.1 r.2)

  words_writable : n ≤ 65536 → 16 * n ≤ length work → Words s (n - 3) work
  words_writable few room = record { few = omega arith; room = omega arith; each = word_writable }

-- what the writer asks of a cell without a refusal, whose words stand in the work area
pub ready : (s work : List ℕ) (n : ℕ) → ((i : ℕ) → byte_at s i < 256) → Readable false s n → DssiThere s → DspmThere s → (read_fault false s n).code ≡ 0
    → (twice_of false s n).index ≡ 0 → HeldIn s n work → 16 * n ≤ length work → Ready s n work
unfolding chart_of
ready s work n small readable dssi dspm fine once held room =
    let t = cell_told s n readable.framed readable.short small fine once in
    let same = ap (items_at s) held.words ∙ held_items_lem s n readable.framed readable.short t.three in
    let three = t.three in
    record {
      three = t.three;
      same = held_chart s work n same;
      count = sym (ap length same) ∙ objects_length s (words_in work 0 (n - 3)) ∙ words_length work 0 (n - 3);
      writing = λ few. record {
        front = (record_in s n 0 0 readable.framed (omega arith) (Rattle.iso8211.proofs.Promise.at_start s)).framed;
        dsid = record { inside = record_in s n 1 (record_at s 1) readable.framed (omega arith) refl; third = dssi.third; known = t.known; whole = dssi.whole };
        dspm = record { inside = record_in s n 2 (record_at s 2) readable.framed (omega arith) refl; second = dspm.second };
        words = words_writable readable fine held few room;
        stand = rw held.words (all_stand readable);
      };
    }
