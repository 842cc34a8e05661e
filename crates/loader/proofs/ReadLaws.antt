-- The answer's sixteen bytes read as its four numbers: none of them passes four bytes. Assumes nothing.
use Prim.Native.Nat.{ℕ, zero, suc, ◌+◌, ◌-◌, ◌*◌, ◌≤◌}
use mathlib.Core.Bool.{Bool, true, false, cond, ◌&&◌}
use mathlib.Core.List.{List, [], ◌∷◌}
use mathlib.Core.Logic.{⊎_elim}
use mathlib.Core.Path.{◌≡◌, refl, sym, ap, ◌∙◌}
use native.Mathlib.Omega.{arith}
use lib.ListN.{length}
use lib.Dec.{eqb, leb, ltb}
use borrow.Author.Tests.{ltb-false}
use Rattle.std.specs.Prelude.{Option, Some, None, Result, Ok, Err}
use Rattle.octets.specs.Lists.{is_in}
use Rattle.octets.specs.Number.{num_at}
use Rattle.octets.proofs.Cases.{true_or_false}
use Rattle.iso8211.specs.Record.{end_of}
use Rattle.iso8211.specs.File.{frame_of, record_at}
use Rattle.iso8211.proofs.Promise.{records_few, broken_few}
use Rattle.declarations.specs.Described.{described_of}
use Rattle.layout.specs.Layout.{layout_fault}
use Rattle.fieldvalue.specs.Value.{value_fault}
use Rattle.chart.specs.Read.{passed_state, first_state, records_fault, read_fault}
use Rattle.chart.specs.declared.read.State.{State}
use Rattle.items.specs.Item.{Item, item_name}
use Rattle.names.specs.Names.{first_item, items_from, twice_from, first_twice, twice_of}
use Rattle.counted.specs.Counts.{counts_good}
use Rattle.lookups.specs.Lookup.{name_in, found_code}
use Rattle.names.specs.Held.{insert_by, order_by, held_order, held_items, held_offsets, place_in, object_in}
use Rattle.table.specs.Table.{VRPT, FFPT, FSPT}
use Rattle.vectorshape.specs.Shape.{shape_good, shape_code}
use Rattle.pointer.specs.Pointer.{names_code, lnams_code, pointer_code}
use Rattle.answers.specs.First.{first_by}
use Rattle.ring.specs.Ring.{node_in, rings_good, ring_code}
use Rattle.topology.specs.Topology.{item_code, code_among, fault_from, topology_of, located, topology_fault}
use Rattle.reader.specs.Reader.{framed_front, front_of, twice_refusal, counts_refusal, cell_fault, work_answer, fronted, opening, update_fault}
use Rattle.judging.specs.Judge.{cell_verdict, judge_of}
use Rattle.held.specs.Chart.{Chart, chart_of}
use Rattle.held.specs.Held.{held_of}
use Rattle.held.specs.Limits.{fits}
use Rattle.held.proofs.LimitsLaws.{fits_told}
use Rattle.loader.specs.Admit.{held_answer, admit_of}
use Rattle.layout.specs.General.{comf_at}
use Rattle.answers.specs.declared.refusal.Refusal.{Refusal}
use Rattle.answers.specs.Answer.{answer, filed}
use Rattle.answers.proofs.SmallLaws.{Few, few_more, few_made, few_cond, few_first, Small, small_cond, small_made, small_filed, small_first, ReadsAs, bytes_read}
use Rattle.answers.specs.declared.answer.Answer.{Answer}
use Rattle.answers.specs.Sixteen.{answer_bytes}

-- ---- codes 4 to 8
records_few_here : (n : ℕ) (update : Bool) (marks s : List ℕ) (k at : ℕ) (st : State) → Few (k + n) (records_fault n update marks s k at st)
unfolding records_fault
records_few_here zero update marks s k at st = few_cond (ltb st.stage 2) (few_made 5 k (length s) (omega arith) (omega arith)) (few_made 0 0 0 (omega arith) (omega arith))
records_few_here (suc n) update marks s k at st =
    few_cond (eqb (layout_fault update st.stage marks s at) 0)
    (few_cond (eqb (value_fault update st.aall st.nall s at) 0)
    (few_more (omega arith) (records_few_here n update marks s (k + 1) (end_of s at) (passed_state update s at st)))
    (few_made 6 k (value_fault update st.aall st.nall s at) (omega arith) (omega arith)))
    (few_made 5 k (layout_fault update st.stage marks s at) (omega arith) (omega arith))

read_few : (update : Bool) (s : List ℕ) (n : ℕ) → Few (n + 3) (read_fault update s n)
unfolding read_fault
read_few update s n =
    few_cond (eqb (length (described_of s)) 0) (few_made 4 0 0 (omega arith) (omega arith))
    (few_more (omega arith) (records_few_here (n - 1) update (described_of s) s 1 (record_at s 1) first_state))

items_length : (n : ℕ) (s : List ℕ) (at : ℕ) → length (items_from n s at) ≡ n
unfolding items_from
items_length zero s at = refl
items_length (suc n) s at = ap suc (items_length n s (end_of s at))

twice_index : (k : ℕ) (seen : List ℕ) (is : List Item) → twice_from k seen is ≤ k + length is
unfolding twice_from
twice_index k seen [] = omega arith
twice_index k seen (i ∷ is) = pick (is_in (item_name i) seen) (twice_index (k + 1) (item_name i ∷ seen) is) where
  pick : (b : Bool) → twice_from (k + 1) (item_name i ∷ seen) is ≤ k + 1 + length is → cond b k (twice_from (k + 1) (item_name i ∷ seen) is) ≤ k + length (i ∷ is)
  pick true h = omega arith
  pick false h = omega arith

first_least : (update : Bool) → first_item update ≤ 3
unfolding first_item
first_least true = omega arith
first_least false = omega arith

pub twice_few : (update : Bool) (s : List ℕ) (n : ℕ) → (twice_of update s n).index ≤ n + 3
unfolding twice_of first_twice
twice_few update s n =
    let t = twice_index (first_item update) [] (items_from (n - first_item update) s (record_at s (first_item update))) in
    let long = items_length (n - first_item update) s (record_at s (first_item update)) in
    let first = first_least update in
    omega arith

twice_refused : (update : Bool) (s : List ℕ) (n : ℕ) → Few (n + 3) (twice_refusal (twice_of update s n))
unfolding twice_refusal
twice_refused update s n =
    few_cond (eqb (twice_of update s n).index 0) (few_made 0 0 0 (omega arith) (omega arith))
    (few_made 7 (twice_of update s n).index (twice_of update s n).offset (omega arith) (twice_few update s n))

counts_refused : (s : List ℕ) (n : ℕ) → Few (n + 3) (counts_refusal s n)
unfolding counts_refusal
counts_refused s n = few_cond (counts_good s n) (few_made 0 0 0 (omega arith) (omega arith)) (few_made 8 1 (record_at s 1) (omega arith) (omega arith))

pub cell_few : (s : List ℕ) (n : ℕ) → Few (n + 3) (cell_fault s n)
unfolding cell_fault
cell_few s n = few_first (read_few false s n) (few_first (twice_refused false s n) (counts_refused s n))

pub update_few : (s : List ℕ) (n : ℕ) → Few (n + 3) (update_fault s n)
unfolding update_fault
update_few s n = few_first (read_few true s n) (twice_refused true s n)

-- ---- codes 17 to 19
pub cond_least : (b : Bool) (x y m : ℕ) → x ≤ m → y ≤ m → cond b x y ≤ m
cond_least true x y m h k = h
cond_least false x y m h k = k

found_least : (x : Option ℕ) → found_code x ≤ 18
unfolding found_code
found_least (Some k) = omega arith
found_least None = omega arith

names_least : (place : ℕ → Option ℕ) (es : List (List ℕ)) → names_code place es ≤ 18
unfolding names_code first_by
names_least place [] = omega arith
names_least place (e ∷ es) = cond_least (eqb (found_code (place (name_in e))) 0) _ _ 18 (names_least place es) (found_least (place (name_in e)))

lnams_least : (object : ℕ → Bool) (es : List (List ℕ)) → lnams_code object es ≤ 18
unfolding lnams_code
lnams_least object [] = omega arith
lnams_least object (e ∷ es) = cond_least (object (num_at e 0 8)) _ _ 18 (lnams_least object es) (omega arith)

pointer_least : (place : ℕ → Option ℕ) (object : ℕ → Bool) (i : Item) → pointer_code place object i ≤ 18
unfolding pointer_code first_by
pointer_least place object i =
    cond_least (eqb i.rcnm 100) _ _ 18
    (cond_least (eqb (lnams_code object (i.lists FFPT)) 0) _ _ 18 (names_least place (i.lists FSPT)) (lnams_least object (i.lists FFPT)))
    (names_least place (i.lists VRPT))

ring_least : (node : ℕ → ℕ → ℕ) (i : Item) → ring_code node i ≤ 19
unfolding ring_code
ring_least node i =
    cond_least (eqb i.rcnm 100 && eqb i.prim 3) _ _ 19 (cond_least (rings_good node (i.lists FSPT)) 0 19 19 (omega arith) (omega arith)) (omega arith)

item_least : (comf : ℕ) (all : List Item) (i : Item) → code_among comf all i ≤ 22
unfolding code_among item_code first_by shape_code
item_least comf all i =
    let shape : shape_code comf i ≤ 22 = cond_least (shape_good comf i) 0 17 22 (omega arith) (omega arith) in
    let pointer = pointer_least (place_in all) (object_in all) i in
    let ring = ring_least (node_in all) i in
    cond_least (eqb (shape_code comf i) 0) _ _ 22
    (cond_least (eqb (pointer_code (place_in all) (object_in all) i) 0) _ _ 22 (omega arith) (omega arith)) shape

fault_few : (code : Item → ℕ) → ((i : Item) → code i ≤ 22) → (k : ℕ) (is : List Item) → Few (k + length is) (fault_from code k is)
unfolding fault_from
fault_few code least k [] = few_made 0 0 0 (omega arith) (omega arith)
fault_few code least k (i ∷ is) =
    few_cond (eqb (code i) 0) (few_more (omega arith) (fault_few code least (k + 1) is)) (few_made (code i) k 0 (least i) (omega arith))

pub items_few : (comf : ℕ) (all : List Item) → Few (3 + length all) (topology_of comf all)
unfolding topology_of
items_few comf all = fault_few (code_among comf all) (item_least comf all) 3 all

insert_length : (i : Item) (is : List Item) → length (insert_by item_name i is) ≡ suc (length is)
unfolding insert_by
insert_length i [] = refl
insert_length i (j ∷ is) = pick (leb (item_name i) (item_name j)) (insert_length i is) where
  pick : (b : Bool) → length (insert_by item_name i is) ≡ suc (length is) → length (cond b (i ∷ j ∷ is) (j ∷ insert_by item_name i is)) ≡ suc (length (j ∷ is))
  pick true h = refl
  pick false h = ap suc h

order_length : (is : List Item) → length (held_order is) ≡ length is
unfolding order_by
order_length [] = refl
order_length (i ∷ is) = insert_length i (held_order is) ∙ ap suc (order_length is)

-- as many items as records
pub held_length : (s : List ℕ) (n : ℕ) → length (held_items s n) ≡ n - 3
unfolding held_items
held_length s n = order_length (items_from (n - 3) s (record_at s 3)) ∙ items_length (n - 3) s (record_at s 3)

located_few : (m k : ℕ) (places : List ℕ) (r : Refusal) → Few m r → Few m (located k places r)
unfolding located
located_few m k places r few = record { code_few = few.code_few; index_few = few.index_few }

topology_few : (s : List ℕ) (n : ℕ) → Few (n + 3) (topology_fault s n)
unfolding topology_fault
topology_few s n =
    let long = held_length s n in
    located_few (n + 3) 3 (held_offsets s n) (topology_of (comf_at s) (held_items s n)) (few_more (omega arith) (items_few (comf_at s) (held_items s n)))

verdict_few : (s : List ℕ) (n : ℕ) → Few (n + 3) (cell_verdict s n)
unfolding cell_verdict
verdict_few s n = few_first (cell_few s n) (topology_few s n)

-- what begins with the front of a file: codes 1 and 2 are small, and a framed file has no more records than bytes
framed_cases : (P : Result ℕ Answer → Type 0) (file : ℕ) (s : List ℕ) (f : Result ℕ ℕ) → f ≡ frame_of s → length s ≤ 5242880 → file ≤ 3
    → ((a : Answer) → Small a → P (Err a)) → ((n : ℕ) → n ≤ 5242880 → P (Ok n)) → P (framed_front file s f)
unfolding framed_front
framed_cases P file s (Ok n) e short low refused count = let few = records_few s n (sym e) in count n (omega arith)
framed_cases P file s (Err k) e short low refused count =
    let few = broken_few s k (sym e) in
    refused (answer 2 file k 0 (record_at s k)) (small_made 2 file k 0 (record_at s k) (omega arith) low (omega arith) (omega arith))

pub front_cases : (P : Result ℕ Answer → Type 0) (file : ℕ) (s : List ℕ) → file ≤ 3 → ((a : Answer) → Small a → P (Err a)) → ((n : ℕ) → n ≤ 5242880 → P (Ok n))
    → P (front_of file s)
unfolding front_of
front_cases P file s low refused count =
    ⊎_elim (λ (t : ltb 5242880 (length s) ≡ true). rw t (refused (answer 1 file 0 0 0) (small_made 1 file 0 0 0 (omega arith) low (omega arith) (omega arith))))
    (λ (t : ltb 5242880 (length s) ≡ false). rw t (framed_cases P file s (frame_of s) refl (ltb-false _ _ t) low refused count)) (true_or_false (ltb 5242880 (length s)))

-- what comes of an opened file
pub small_opening : (file : ℕ) (s : List ℕ) (on : ℕ → Answer) → file ≤ 3 → ((n : ℕ) → n ≤ 5242880 → Small (on n)) → Small (opening file s on)
unfolding fronted
small_opening file s on low rest = front_cases (λ f. Small (fronted (λ (a : Answer). a) on f)) file s low (λ a small. small) rest

-- 16 bytes for each of n records, n at most those of two files
pub small_work : (w n : ℕ) → n ≤ 10485760 → Small (work_answer w n)
unfolding work_answer
small_work w n h =
    small_cond (ltb w (16 * n)) (small_made 3 0 0 (16 * n) 0 (omega arith) (omega arith) (omega arith) (omega arith))
    (small_made 0 0 0 0 0 (omega arith) (omega arith) (omega arith) (omega arith))

pub small_verdict : (cell : List ℕ) (n : ℕ) → n ≤ 5242880 → Small (filed 1 (cell_verdict cell n))
small_verdict cell n h = small_filed 1 (cell_verdict cell n) (omega arith) (verdict_few cell n) (omega arith)

pub judge_small : (cell : List ℕ) (w : ℕ) → Small (judge_of cell w)
unfolding judge_of
judge_small cell w = small_opening 1 cell _ (omega arith) (λ n h. small_first (small_work w n (omega arith)) (small_verdict cell n h))

-- ---- the same of Admit: what fits has a length of four bytes
pub small_held : (o : ℕ) (c : Chart) → Small (held_answer o c)
unfolding held_answer
small_held o c =
    ⊎_elim (λ (f : fits c ≡ true).
    let n = length (held_of c) in
    let short = (fits_told c f).short in
    rw f (small_cond (ltb o n) (small_made 21 0 0 n 0 (omega arith) (omega arith) (omega arith) (omega arith))
    (small_made 0 0 0 n 0 (omega arith) (omega arith) (omega arith) (omega arith))))
    (λ (f : fits c ≡ false). rw f (small_made 20 3 0 0 0 (omega arith) (omega arith) (omega arith) (omega arith))) (true_or_false (fits c))

pub admit_small : (cell : List ℕ) (w o : ℕ) → Small (admit_of cell w o)
unfolding admit_of
admit_small cell w o =
    small_opening 1 cell _ (omega arith)
    (λ n h. small_first (small_work w n (omega arith)) (small_first (small_verdict cell n h) (small_held o (chart_of cell n))))

-- "fills a 16-byte answer (code, file, record, number, each 4 bytes, low byte first)"
pub answer_reads : (cell : List ℕ) (w : ℕ) → ReadsAs (answer_bytes (judge_of cell w)) (judge_of cell w)
answer_reads cell w = bytes_read (judge_of cell w) (judge_small cell w)

pub admit_reads : (cell : List ℕ) (w o : ℕ) → ReadsAs (answer_bytes (admit_of cell w o)) (admit_of cell w o)
admit_reads cell w o = bytes_read (admit_of cell w o) (admit_small cell w o)
