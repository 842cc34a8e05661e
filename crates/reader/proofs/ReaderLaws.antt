-- Laws of reading whole: what a file without a refusal of codes 4 to 6 gives to those who read its names and counts, and the answers in
-- order. Assumes nothing.
use Prim.Native.Nat.{ℕ, ◌+◌, ◌-◌, ◌≤◌, ◌<◌}
use mathlib.Core.Bool.{Bool, true, false, not, ◌||◌}
use mathlib.Core.List.{List}
use mathlib.Core.Logic.{⊎_elim, ◌⊎◌, inl, inr}
use mathlib.Core.Path.{◌≡◌, refl, sym, ap, ◌∙◌}
use native.Mathlib.Nat.{add-zero}
use native.Mathlib.Omega.{arith}
use lib.ListN.{length}
use lib.Dec.{eqb}
use borrow.Author.Tests.{eq-eqb, ne_eqb, eqb-true}
use Rattle.std.specs.Prelude.{Result, Ok, Err, Option, Some, None}
use Rattle.octets.proofs.ListLaws.{part_byte, part_number}
use Rattle.headvalues.specs.Dspm.{most_comf}
use Rattle.octets.specs.Number.{byte_at, num_at}
use Rattle.octets.proofs.Cases.{eq_or_ne, true_or_false}
use Rattle.octets.proofs.Tests.{told_no, told_yes}
use Rattle.iso8211.specs.Record.{end_of}
use Rattle.iso8211.specs.Field.{field_at}
use Rattle.iso8211.specs.Premises.{RecordIn}
use Rattle.iso8211.specs.File.{frame_of, record_at}
use Rattle.iso8211.proofs.Promise.{record_in, fields_in, at_next, at_first}
use Rattle.table.specs.Table.{VRID, FRID, DSPM}
use Rattle.values.specs.Vrid.{is_vector}
use Rattle.headvalues.proofs.Promise.{vrid_good, frid_good, dspm_good}
use Rattle.declarations.specs.Described.{described_of}
use Rattle.layout.specs.Record.{kind_at, content_at}
use Rattle.layout.specs.Premises.{Laid, DssiThere, DspmThere}
use Rattle.layout.proofs.Promise.{laid, laid_item, laid_late, laid_dspm, full_vrid, full_frid, full_dspm, content_length}
use Rattle.items.specs.Premises.{LaidOut, Identified}
use Rattle.items.specs.Identity.{rcnm_at, id_at}
use Rattle.items.proofs.Promise.{laid_featured, vector_identified, feature_identified}
use Rattle.chart.specs.Read.{read_fault}
use Rattle.chart.proofs.Promise.{Good, Here, Fair, good_records, fair, fair_vrid, fair_frid, fair_dspm}
use Rattle.words.specs.Words.{words_in}
use Rattle.words.specs.Order.{sorted}
use Rattle.names.specs.NameWords.{name_words}
use Rattle.names.specs.Premises.{Readable, HeldIn}
use Rattle.names.specs.Names.{first_item, twice_of, met_twice}
use Rattle.names.proofs.TwiceLaws.{met_none, met_some}
use Rattle.counted.specs.Counts.{counts_good}
use Rattle.names.proofs.ReadableLaws.{dssi_there, dspm_there}
use Rattle.names.specs.declared.twice.Repeat.{Repeat}
use Rattle.reader.specs.Reader.{twice_refusal, counts_refusal, cell_fault, update_fault}
use Rattle.layout.specs.General.{comf_at}
use Rattle.answers.specs.Answer.{refusal, outcome}
use Rattle.answers.specs.First.{first_by}
use Rattle.answers.proofs.FirstLaws.{first_told}
use Rattle.answers.proofs.OutcomeLaws.{fine_told, made_told, told_first}
use Rattle.answers.specs.declared.refusal.Refusal.{Refusal}
use Rattle.reader.specs.Lent.{ComeIn}

rcnm_there : (s : List ℕ) (at : ℕ) → byte_at s (id_at s at + 0) ≡ rcnm_at s at
unfolding rcnm_at
rcnm_there s at = ap (λ (i : ℕ). byte_at s i) (add-zero (id_at s at))

-- "110 isolated node, 120 connected node, 130 edge"
either : (a b c : Bool) → (a || (b || c)) ≡ true → (a ≡ true) ⊎ ((b ≡ true) ⊎ (c ≡ true))
either true b c h = inl refl
either false true c h = inr (inl refl)
either false false c h = inr (inr h)

vector_one : (rcnm : ℕ) → is_vector rcnm ≡ true → (rcnm ≡ 110) ⊎ ((rcnm ≡ 120) ⊎ (rcnm ≡ 130))
unfolding is_vector
vector_one rcnm h =
    ⊎_elim (λ (a : eqb rcnm 110 ≡ true). inl (eqb-true _ _ a))
    (λ (o : (eqb rcnm 120 ≡ true) ⊎ (eqb rcnm 130 ≡ true)).
    inr (⊎_elim (λ (b : eqb rcnm 120 ≡ true). inl (eqb-true _ _ b)) (λ (c : eqb rcnm 130 ≡ true). inr (eqb-true _ _ c)) o))
    (either (eqb rcnm 110) (eqb rcnm 120) (eqb rcnm 130) h)

-- ---- a record whose framing, layout and values are good
module _ {update : Bool} {marks s : List ℕ} {at : ℕ} (known : RecordIn s at) (fine : Good update marks s at) where
  laid_here : Laid update fine.state.stage marks s at
  laid_here = laid update fine.state.stage marks s at known fine.laid

  out_here : LaidOut s at
  out_here = record { inside = fields_in known; two = laid_here.two; fills = laid_here.full }

  -- the first byte of the identifier field is the record's RCNM
  name_here : 0 < length (content_at s at 1) → byte_at (content_at s at 1) 0 ≡ rcnm_at s at
  name_here some =
      let two = laid_here.two in
      let size = content_length s at 1 (fields_in known) (omega arith) in
      part_byte s (id_at s at) ((field_at s at 1).length - 1) 0 (omega arith) ∙ rcnm_there s at

  fair_here : Fair update fine.state.aall fine.state.nall (kind_at s at 1) (content_at s at 1)
  fair_here =
      let two = laid_here.two in
      fair update fine.state.aall fine.state.nall s at (fields_in known) fine.valued 1 (omega arith)

  vector_here : kind_at s at 1 ≡ VRID → is_vector (rcnm_at s at) ≡ true
  vector_here e =
      let two = laid_here.two in
      let long = full_vrid (content_at s at 1) (rw e at (laid_here.full 1 (omega arith))) in
      let good = vrid_good update (content_at s at 1) (fair_vrid _ e fair_here) in
      rw (name_here (omega arith)) at good.rcnm

  feature_here : kind_at s at 1 ≡ FRID → rcnm_at s at ≡ 100
  feature_here e =
      let two = laid_here.two in
      let long = full_frid (content_at s at 1) (rw e at (laid_here.full 1 (omega arith))) in
      let good = frid_good update (content_at s at 1) (fair_frid _ e fair_here) in
      sym (name_here (omega arith)) ∙ good.rcnm

  factor_here : kind_at s at 1 ≡ DSPM → num_at s ((field_at s at 1).start + 16) 4 ≤ most_comf
  factor_here e =
      let two = laid_here.two in
      let long = (full_dspm (content_at s at 1) (rw e at (laid_here.full 1 (omega arith)))).long in
      let size = content_length s at 1 (fields_in known) (omega arith) in
      let good = dspm_good (content_at s at 1) (fair_dspm _ e fair_here) in
      rw (part_number s (field_at s at 1).start ((field_at s at 1).length - 1) 16 4 (omega arith)) at good.comf.1

  -- a vector or a feature
  pub identified : 2 ≤ fine.state.stage → fine.state.stage ≤ 3 → Identified s at
  identified two few =
      let feature : kind_at s at 1 ≡ FRID → Identified s at = λ (e : kind_at s at 1 ≡ FRID). feature_identified s at out_here (laid_featured laid_here out_here e) (feature_here e) in
      ⊎_elim (λ (e2 : fine.state.stage ≡ 2).
      ⊎_elim (λ (v : kind_at s at 1 ≡ VRID). vector_identified s at out_here v (vector_one (rcnm_at s at) (vector_here v))) feature
      (laid_item laid_here e2))
      (λ (other : fine.state.stage ≡ 2 → ⊥). feature (laid_late laid_here (omega arith)))
      (eq_or_ne fine.state.stage 2)

-- record k of a file in which nothing was refused
module _ (update : Bool) (s : List ℕ) (n k : ℕ) (framed : frame_of s ≡ Ok n) (less : k < n) (here : Here update (described_of s) s k) where
  at_record : RecordIn s (record_at s k)
  at_record = record_in s n k (record_at s k) framed less refl

  item_here : 2 ≤ here.good.state.stage → LaidOut s (record_at s k) × Identified s (record_at s k)
  item_here two = (out_here at_record here.good, identified at_record here.good two here.stage.few)

-- all of them
readable_items : (update : Bool) (s : List ℕ) (n : ℕ) → frame_of s ≡ Ok n → ((j : ℕ) → 1 ≤ j → j < n → Here update (described_of s) s j)
    → (k : ℕ) → first_item update ≤ k → k < n → LaidOut s (record_at s k) × Identified s (record_at s k)
unfolding first_item
readable_items true s n framed here k low less =
    let h = here k (omega arith) less in
    let two : 2 ≤ h.good.state.stage = ⊎_elim (λ (e : k ≡ 2). h.stage.early e refl) (λ (o : k ≡ 2 → ⊥). h.stage.items (omega arith)) (eq_or_ne k 2) in
    item_here true s n k framed less h two
readable_items false s n framed here k low less =
    let h = here k (omega arith) less in
    item_here false s n k framed less h (h.stage.items low)

first_few : (update : Bool) (n : ℕ) → (update ≡ false → 3 ≤ n) → 2 ≤ n → first_item update ≤ n
unfolding first_item
first_few true n cell two = two
first_few false n cell two = cell refl

pub readable : (update : Bool) (s : List ℕ) (n : ℕ) → frame_of s ≡ Ok n → length s ≤ 5242880 → (read_fault update s n).code ≡ 0 → Readable update s n
readable update s n framed short none =
    let g = good_records update s n framed none in
    record {
      framed = framed;
      short = short;
      head = first_few update n g.1.0 g.1.1;
      items = readable_items update s n framed g.0;
    }

-- DSSI of a cell
pub dssi_read : (s : List ℕ) (n : ℕ) → frame_of s ≡ Ok n → (read_fault false s n).code ≡ 0 → DssiThere s
dssi_read s n framed none =
    let g = good_records false s n framed none in
    let two = g.1.1 in
    let one : 1 < n = omega arith in
    let h = g.0 1 (omega arith) one in
    let state = h.stage.dsid refl in
    dssi_there n framed one (rw state at (laid_here (at_record false s n 1 framed one h) h.good))

-- DSPM of a cell, and its COMF
factor_read : (s : List ℕ) → num_at s ((field_at s (record_at s 2) 1).start + 16) 4 ≤ most_comf → comf_at s ≤ most_comf
unfolding comf_at
factor_read s h = h

pub dspm_read : (s : List ℕ) (n : ℕ) → frame_of s ≡ Ok n → (read_fault false s n).code ≡ 0 → DspmThere s
dspm_read s n framed none =
    let g = good_records false s n framed none in
    let three = g.1.0 refl in
    let two : 2 < n = omega arith in
    let h = g.0 2 (omega arith) two in
    let state = h.stage.dspm refl refl in
    let known = at_record false s n 2 framed two h in
    let laid = laid_here known h.good in
    dspm_there n framed two (rw state at laid) (factor_read s (factor_here known h.good (laid_dspm laid state).1))

-- ---- a file in which nothing was refused
twice_none : (t : Repeat) → (twice_refusal t).code ≡ 0 → t.index ≡ 0
unfolding twice_refusal
twice_none t z =
    ⊎_elim (λ (h : t.index ≡ 0). h) (λ (h : t.index ≡ 0 → ⊥). absurd (let y : ◌≡◌ {A = ℕ} 7 0 = rw (ne_eqb t.index 0 h) at z in omega arith)) (eq_or_ne t.index 0)

counts_none : (s : List ℕ) (n : ℕ) → (counts_refusal s n).code ≡ 0 → counts_good s n ≡ true
unfolding counts_refusal
counts_none s n z =
    ⊎_elim (λ (h : counts_good s n ≡ true). h) (λ (h : counts_good s n ≡ false). absurd (let y : ◌≡◌ {A = ℕ} 8 0 = rw h at z in omega arith))
    (true_or_false (counts_good s n))

pub cell_parts : (s : List ℕ) (n : ℕ) → (cell_fault s n).code ≡ 0 → ((read_fault false s n).code ≡ 0) × ((twice_of false s n).index ≡ 0) × (counts_good s n ≡ true)
unfolding cell_fault
cell_parts s n z =
    let a = first_told (λ (r : Refusal). r.code) (read_fault false s n) _ z in
    let b = first_told (λ (r : Refusal). r.code) (twice_refusal (twice_of false s n)) (counts_refusal s n) a.2 in
    (a.0, twice_none (twice_of false s n) b.0, counts_none s n b.2)

pub update_parts : (s : List ℕ) (n : ℕ) → (update_fault s n).code ≡ 0 → ((read_fault true s n).code ≡ 0) × ((twice_of true s n).index ≡ 0)
unfolding update_fault
update_parts s n z =
    let a = first_told (λ (r : Refusal). r.code) (read_fault true s n) (twice_refusal (twice_of true s n)) z in
    (a.0, twice_none (twice_of true s n) a.2)

pub cell_good : (s : List ℕ) (n : ℕ) → frame_of s ≡ Ok n → length s ≤ 5242880 → (cell_fault s n).code ≡ 0 → Readable false s n
cell_good s n framed short z = readable false s n framed short (cell_parts s n z).0

pub cell_comf : (s : List ℕ) (n : ℕ) → frame_of s ≡ Ok n → (cell_fault s n).code ≡ 0 → DspmThere s
cell_comf s n framed z = dspm_read s n framed (cell_parts s n z).0

pub update_good : (s : List ℕ) (n : ℕ) → frame_of s ≡ Ok n → length s ≤ 5242880 → (update_fault s n).code ≡ 0 → Readable true s n
update_good s n framed short z = readable true s n framed short (update_parts s n z).0

-- ---- cell_fault and update_fault: one law for each way out
pub cell_read : (s : List ℕ) (n : ℕ) {r : Result Unit Refusal} {a : Refusal} → r ≡ outcome (read_fault false s n) → r ≡ Err a → Err a ≡ outcome (cell_fault s n)
unfolding cell_fault
cell_read s n e h = told_first (read_fault false s n) _ e h

module _ (s : List ℕ) (n : ℕ) (none : (read_fault false s n).code ≡ 0) {r : Option Repeat} (told : r ≡ met_twice (twice_of false s n)) where
  pub cell_twice : {t : Repeat} (a : Refusal) → r ≡ Some t → a ≡ refusal 7 t.index t.offset → Err a ≡ outcome (cell_fault s n)
  unfolding cell_fault twice_refusal first_by
  cell_twice a h e = let p = met_some _ told h in made_told e (e ∙ rw (p.0, eq-eqb _ _ none, ne_eqb _ _ p.1))

  module _ (once : r ≡ None) (q : Bool) (counted : q ≡ counts_good s n) where
    pub cell_counts : (a : Refusal) (p : ℕ) → not q ≡ true → p ≡ end_of s 0 → a ≡ refusal 8 1 p → Err a ≡ outcome (cell_fault s n)
    unfolding cell_fault twice_refusal counts_refusal first_by
    cell_counts a p h at e =
        made_told e
        (e ∙ ap (refusal 8 1) (at ∙ at_next s 0 0 (sym (at_first s))) ∙ rw (eq-eqb _ _ none, eq-eqb _ _ (met_none _ told once), told_no q (counts_good s n) counted h))

    pub cell_fine : not q ≡ false → Ok tt ≡ outcome (cell_fault s n)
    unfolding cell_fault twice_refusal counts_refusal first_by
    cell_fine h = fine_told (cell_fault s n) (rw (eq-eqb _ _ none, eq-eqb _ _ (met_none _ told once), told_yes q (counts_good s n) counted h) refl)

pub come_words : {s work : List ℕ} {n : ℕ} → words_in work 0 (n - first_item true) ≡ sorted (name_words true s n) → ComeIn s n work
unfolding first_item
come_words e = record { words = e }

pub held_words : {s work : List ℕ} {n : ℕ} → words_in work 0 (n - first_item false) ≡ sorted (name_words false s n) → HeldIn s n work
unfolding first_item
held_words e = record { words = e }

pub update_read : (s : List ℕ) (n : ℕ) {r : Result Unit Refusal} {a : Refusal} → r ≡ outcome (read_fault true s n) → r ≡ Err a → Err a ≡ outcome (update_fault s n)
unfolding update_fault
update_read s n e h = told_first (read_fault true s n) _ e h

module _ (s : List ℕ) (n : ℕ) (none : (read_fault true s n).code ≡ 0) {r : Option Repeat} (told : r ≡ met_twice (twice_of true s n)) where
  pub update_twice : {t : Repeat} (a : Refusal) → r ≡ Some t → a ≡ refusal 7 t.index t.offset → Err a ≡ outcome (update_fault s n)
  unfolding update_fault twice_refusal first_by
  update_twice a h e = let p = met_some _ told h in made_told e (e ∙ rw (p.0, eq-eqb _ _ none, ne_eqb _ _ p.1))

  pub update_fine : r ≡ None → Ok tt ≡ outcome (update_fault s n)
  unfolding update_fault twice_refusal first_by
  update_fine once = fine_told (update_fault s n) (rw (eq-eqb _ _ none, eq-eqb _ _ (met_none _ told once)) refl)
