-- The held form's length and longest record, by the sizes of its parts; its bytes, part by part. Assumes nothing.
use Prim.Native.Nat.{ℕ, ◌+◌, ◌≤◌, max}
use mathlib.Core.Bool.{Bool, true}
use mathlib.Core.List.{List, [], ◌∷◌, ◌++◌, append_assoc}
use mathlib.Core.Path.{◌≡◌, refl, sym, ap, ◌∙◌}
use native.Mathlib.Omega.{arith}
use lib.ListN.{length, length-append}
use Rattle.octets.specs.Area.{Wrote}
use Rattle.octets.proofs.AreaLaws.{wrote_join, wrote_as, wrote_length}
use Rattle.iso8211.specs.Record.{end_of}
use Rattle.iso8211.specs.Premises.{FramedAt}
use Rattle.iso8211.specs.File.{record_at}
use Rattle.iso8211.proofs.Promise.{at_start, at_on}
use Rattle.words.specs.Words.{words_in}
use Rattle.words.proofs.WordsLaws.{words_length}
use Rattle.layout.specs.Record.{content_at}
use Rattle.items.specs.Word.{word_offset}
use Rattle.counted.specs.declared.counts.Tally.{Tally}
use Rattle.records.specs.Written.{record_bytes, records_bytes, size_of}
use Rattle.records.proofs.WrittenLaws.{record_length}
use Rattle.items.specs.Item.{item_at}
use Rattle.itemfields.specs.Fields.{item_pieces}
use Rattle.header.specs.First.{first_record}
use Rattle.header.specs.Dsid.{dsid_of, dsid_bytes}
use Rattle.header.specs.Dssi.{dssi_bytes}
use Rattle.header.proofs.FirstLaws.{first_length}
use Rattle.header.proofs.DssiLaws.{dssi_length}
use Rattle.held.specs.Chart.{header_of}
use Rattle.held.specs.Held.{tally_in, dsid_pieces, dspm_pieces, items_pieces, records_of, held_of}
use Rattle.held.specs.Limits.{longest_of, fits}
use Rattle.names.specs.NameWords.{items_at}
use Rattle.writing.specs.All.{written_from, most_of, AllSized, AllSame, AllMeasured}
use Rattle.writing.specs.declared.all.Measured.{Measured}
use Rattle.writing.specs.declared.all.Sizes.{Sizes}
use Rattle.fronts.specs.Front.{dsid_fields, dspm_fields, DsidIn, DspmIn, DsidSized}
use Rattle.reissue.specs.Plan.{chart_from, Writing, within_limits, Planned, front_bytes, SameTold}
use Rattle.reissue.proofs.TallyLaws.{objects_length}
use Rattle.layout.specs.General.{aall_at, nall_at}

-- ---- the records of the chart, over the file
module _ (s ws : List ℕ) where
  abbrev a : ℕ
  a = record_at s 1

  abbrev b : ℕ
  b = record_at s 2

  abbrev own : List ℕ
  own = dsid_bytes (dsid_of (content_at s a 1))

  abbrev counts : List ℕ
  counts = dssi_bytes (aall_at s a) (nall_at s a) (tally_in (items_at s ws))

  records_are : records_of (chart_from s ws) ≡ dsid_fields own counts ∷ dspm_fields (content_at s b 1) ∷ items_pieces 3 (items_at s ws)
  unfolding records_of dsid_pieces dspm_pieces header_of
  records_are = refl

  bytes_are : records_bytes (records_of (chart_from s ws)) ≡ record_bytes (dsid_fields own counts) ++ (record_bytes (dspm_fields (content_at s b 1)) ++ written_from 3 s ws)
  unfolding records_bytes written_from
  bytes_are = ap records_bytes records_are

  held_parts : held_of (chart_from s ws) ≡ front_bytes s a b (tally_in (items_at s ws)) ++ written_from 3 s ws
  unfolding front_bytes
  held_parts =
      rw bytes_are
      (sym (append_assoc first_record (record_bytes (dsid_fields own counts) ++ record_bytes (dspm_fields (content_at s b 1))) (written_from 3 s ws)
      ∙ ap (λ (x : List ℕ). first_record ++ x) (append_assoc (record_bytes (dsid_fields own counts)) (record_bytes (dspm_fields (content_at s b 1))) (written_from 3 s ws))))

-- the length of records 0 to 2
front_length : (s : List ℕ) (a b : ℕ) (t : Tally) → length (front_bytes s a b t)
    ≡ 1561 + size_of (dsid_fields (dsid_bytes (dsid_of (content_at s a 1))) (dssi_bytes (aall_at s a) (nall_at s a) t)) + size_of (dspm_fields (content_at s b 1))
unfolding front_bytes
front_length s a b t =
    let d = dsid_fields (dsid_bytes (dsid_of (content_at s a 1))) (dssi_bytes (aall_at s a) (nall_at s a) t) in
    let p = dspm_fields (content_at s b 1) in
    rw (length-append first_record, length-append (record_bytes d), record_length d, record_length p, first_length) (omega arith)

-- ---- the plan
longest_words : (n : ℕ) (s ws : List ℕ) → longest_of (items_pieces n (items_at s ws)) ≡ most_of n s ws
unfolding longest_of items_pieces items_at most_of
longest_words n s [] = refl
longest_words n s (w ∷ ws) = ap (max (size_of (item_pieces n (item_at s (word_offset w))))) (longest_words (n + 1) s ws)

module _ (s ws : List ℕ) (d p : ℕ) (sizes : Sizes) (first : DsidSized s (record_at s 1) d) (second : p ≡ size_of (dspm_fields (content_at s (record_at s 2) 1)))
    (rest : AllSized s ws sizes) where
  dsid_is : d ≡ size_of (dsid_fields (own s ws) (counts s ws))
  dsid_is = first.is (counts s ws) (dssi_length (aall_at s (record_at s 1)) (nall_at s (record_at s 1)) (tally_in (items_at s ws)))

  total_is : length (held_of (chart_from s ws)) ≡ 1561 + d + p + sizes.sum
  total_is =
      ap length (held_parts s ws) ∙ length-append (front_bytes s (record_at s 1) (record_at s 2) (tally_in (items_at s ws))) (written_from 3 s ws)
      ∙ rw (front_length s (record_at s 1) (record_at s 2) (tally_in (items_at s ws)), ← dsid_is, ← second, ← rest.sum_is)

  longest_is : longest_of (records_of (chart_from s ws)) ≡ max (max d p) sizes.most
  unfolding longest_of
  longest_is = ap longest_of (records_are s ws) ∙ rw (← dsid_is, ← second, longest_words 3 s ws, ← rest.most_is) (omega arith)

pub planned : (s work : List ℕ) (m d p x y total : ℕ) (f : Bool) (sizes : Sizes) → DsidSized s (record_at s 1) d → p ≡ size_of (dspm_fields (content_at s (record_at s 2) 1))
    → AllSized s (words_in work 0 m) sizes
    → x ≡ max d p → y ≡ max x sizes.most → total ≡ 1561 + d + p + sizes.sum → f ≡ within_limits (3 + m) y total
    → Planned (chart_from s (words_in work 0 m)) (record { fits = f; total = total })
unfolding within_limits fits
planned s work m d p x y total f sizes first second rest ex ey et is =
    let ws = words_in work 0 m in
    let few : length (items_at s ws) ≡ m = objects_length s ws ∙ words_length work 0 m in
    let t = total_is s ws d p sizes first second rest in
    let l = longest_is s ws d p sizes first second rest in
    record { fits_is = is ∙ rw (few, l, t, ← et, ← ex, ← ey); total_is = et ∙ sym t }

-- ---- where the records of DSID and DSPM are
pub dsid_in_lem : {s work : List ℕ} {m : ℕ} (e : ℕ) → Writing s m work → e ≡ end_of s 0 → DsidIn s e
dsid_in_lem {s} e so is = rw (at_on s 0 0 e (at_start s) is) so.dsid

pub dspm_in : {s work : List ℕ} {m : ℕ} (e f : ℕ) → Writing s m work → e ≡ end_of s 0 → f ≡ end_of s e → DspmIn s f
dspm_in {s} e f so is next = rw (at_on s 1 e f (at_on s 0 0 e (at_start s) is) next) so.dspm

pub dsid_framed : {s work : List ℕ} {m : ℕ} (e : ℕ) → Writing s m work → e ≡ end_of s 0 → FramedAt s e
dsid_framed e so is = (dsid_in_lem e so is).inside.framed

pub plan_told : (s work : List ℕ) (m e f d p x y total : ℕ) (fit : Bool) (sizes : Sizes) → e ≡ end_of s 0 → f ≡ end_of s e → DsidSized s e d
    → p ≡ size_of (dspm_fields (content_at s f 1))
    → AllSized s (words_in work 0 m) sizes → x ≡ max d p → y ≡ max x sizes.most → total ≡ 1561 + d + p + sizes.sum → fit ≡ within_limits (3 + m) y total
    → Planned (chart_from s (words_in work 0 m)) (record { fits = fit; total = total })
plan_told s work m e f d p x y total fit sizes is next first second rest ex ey et told =
    let one = at_on s 0 0 e (at_start s) is in
    planned s work m d p x y total fit sizes (rw one at first) (rw (at_on s 1 e f one next) at second) rest ex ey et told

pub same_told : (s work : List ℕ) (m : ℕ) (r : Measured) → AllMeasured s m work r → SameTold s m work r.same
same_told s work m r told = record { is = told.same }

pub copies : (s work : List ℕ) (m : ℕ) (same : Bool) → SameTold s m work same → same ≡ true → AllSame s m work
copies s work m same told is = told.is is

-- ---- records 0 to 2 written
module _ (s : List ℕ) (first second : ℕ) (t : Tally) (a : List ℕ) (room : length (front_bytes s first second t) ≤ length a) where
  pub first_room : 0 + 1561 ≤ length a
  first_room = omega (arith, front_length s first second t)

  module _ {b : List ℕ} {m : ℕ} (w : Wrote a 0 first_record b m) where
    pub dsid_room : m + size_of (dsid_fields (dsid_bytes (dsid_of (content_at s first 1))) (dssi_bytes (aall_at s first) (nall_at s first) t)) ≤ length b
    dsid_room = omega (arith, front_length s first second t, w.end, wrote_length w, first_length)

    module _ {d : List ℕ} {q : ℕ} (x : Wrote b m (record_bytes (dsid_fields (dsid_bytes (dsid_of (content_at s first 1))) (dssi_bytes (aall_at s first) (nall_at s first) t))) d q) where
      pub dspm_room : q + size_of (dspm_fields (content_at s second 1)) ≤ length d
      dspm_room =
          omega (
            arith,
            front_length s first second t,
            w.end,
            wrote_length w,
            x.end,
            wrote_length x,
            first_length,
            record_length (dsid_fields (dsid_bytes (dsid_of (content_at s first 1))) (dssi_bytes (aall_at s first) (nall_at s first) t)),
          )

      pub front_put : {e : List ℕ} {r : ℕ} → Wrote d q (record_bytes (dspm_fields (content_at s second 1))) e r → Wrote a 0 (front_bytes s first second t) e r
      unfolding front_bytes
      front_put y = wrote_join w (wrote_join x y)

-- ---- the whole chart written
module _ (s work : List ℕ) (m e f : ℕ) (t : Tally) (is : e ≡ end_of s 0) (next : f ≡ end_of s e) (counted : t ≡ tally_in (items_at s (words_in work 0 m))) where
  chart_parts : held_of (chart_from s (words_in work 0 m)) ≡ front_bytes s e f t ++ written_from 3 s (words_in work 0 m)
  chart_parts =
      let one = at_on s 0 0 e (at_start s) is in
      held_parts s (words_in work 0 m) ∙ rw (← counted, ← (at_on s 1 e f one next), ← one)

  pub front_room : (n : ℕ) → length (held_of (chart_from s (words_in work 0 m))) ≤ n → length (front_bytes s e f t) ≤ n
  front_room n h = omega (arith, ap length chart_parts ∙ length-append (front_bytes s e f t) (written_from 3 s (words_in work 0 m)))

  pub items_room : {a b : List ℕ} {q : ℕ} → length (held_of (chart_from s (words_in work 0 m))) ≤ length a → Wrote a 0 (front_bytes s e f t) b q
      → q + length (written_from 3 s (words_in work 0 m)) ≤ length b
  items_room h w = omega (arith, ap length chart_parts ∙ length-append (front_bytes s e f t) (written_from 3 s (words_in work 0 m)), w.end, wrote_length w)

  pub chart_put : {a b d : List ℕ} {q r : ℕ} → Wrote a 0 (front_bytes s e f t) b q → Wrote b q (written_from 3 s (words_in work 0 m)) d r
      → Wrote a 0 (held_of (chart_from s (words_in work 0 m))) d r
  chart_put w x = wrote_as (held_of (chart_from s (words_in work 0 m))) (sym chart_parts) (wrote_join w x)
