-- What is asked of all items, as their words and notes answer it: whether a feature has a FOID, where an edge begins and ends. Assumes nothing.
use Prim.Native.Nat.{ℕ, zero, suc, ◌+◌, ◌-◌, ◌*◌, ◌/◌, ◌%◌, ◌≤◌, ◌<◌}
use mathlib.Core.Bool.{Bool, true, false, cond}
use mathlib.Core.List.{List, [], ◌∷◌}
use mathlib.Core.Logic.{⊎_elim}
use mathlib.Core.Path.{◌≡◌, refl, sym, ap, ◌∙◌, fun_ext}
use native.Mathlib.Omega.{arith}
use lib.ListN.{length, get_or, take, drop}
use lib.Dec.{eqb}
use borrow.Author.Tests.{eq-eqb, ne_eqb, eqb-true, lt-ltb, le-ltb}
use Rattle.std.specs.Prelude.{Option, Some, None}
use Rattle.octets.specs.Lists.{is_in}
use Rattle.octets.proofs.Cases.{le_or_lt, eq_or_ne}
use Rattle.table.specs.Table.{VRPT}
use Rattle.words.specs.Words.{words_in}
use Rattle.words.specs.Order.{Sorted}
use Rattle.words.specs.Find.{first_from}
use Rattle.words.proofs.OrderLaws.{sorted_tail, sorted_member}
use Rattle.items.specs.Identity.{rcnm_at, rank_of, name_from}
use Rattle.items.specs.Word.{name_of, word_offset, end_in, feature_word, rank_in}
use Rattle.items.specs.Item.{Item, item_at, item_name}
use Rattle.items.proofs.ItemLaws.{vrpt_said}
use Rattle.items.proofs.IdentityLaws.{rank_few, rank_edge}
use Rattle.names.specs.NameWords.{items_at}
use Rattle.lookups.specs.LookupWords.{index_from, index_of}
use Rattle.names.specs.Premises.{Stands, AllStand}
use Rattle.names.specs.Held.{place_from, place_in, object_in}
use Rattle.names.proofs.HeldLaws.{stand_first, stand_rest, stand_rank, stand_name, last_feature}
use Rattle.pointer.specs.Premises.{held_foid}
use Rattle.ring.specs.Walk.{ends_with, node_at}
use Rattle.ring.specs.Ring.{node_with, node_of, nodes_of, found, node_in}
use Rattle.topology.specs.Topology.{code_among}
use Rattle.topology.specs.Notes.{note_for, notes_for, noted_code, Prepared, Worded, AllWorded, worded_none, worded_more}
use Rattle.topology.proofs.BytesLaws.{Bytes, entries_bytes, node_few}

-- ---- how many words stand below those of the features
first_none : first_from feature_word [] ≡ 0
unfolding first_from
first_none = refl

first_below : (w : ℕ) (ws : List ℕ) → w < feature_word → first_from feature_word (w ∷ ws) ≡ suc (first_from feature_word ws)
unfolding first_from
first_below w ws h = rw (lt-ltb w feature_word h)

first_feature : (w : ℕ) (ws : List ℕ) → feature_word ≤ w → first_from feature_word (w ∷ ws) ≡ 0
unfolding first_from
first_feature w ws h = rw (le-ltb w feature_word h)

-- ---- words of features alone
pub record Features (ws : List ℕ) : Type 0 where
  pub high : (p : ℕ) → p < length ws → feature_word ≤ get_or ws p 0

features_rest : {w : ℕ} {ws : List ℕ} → Features (w ∷ ws) → Features ws
features_rest {w} {ws} f = record { high = λ p h. f.high (suc p) (omega arith) }

features_all : {w : ℕ} {ws : List ℕ} → Sorted (w ∷ ws) → feature_word ≤ w → Features (w ∷ ws)
features_all {w} {ws} order h = record { high = λ p less. let up = order.order 0 p (omega arith) less in omega arith }

-- ---- the halves of a note
half : Bool → ℕ → ℕ
half begin w = cond begin (w / 4294967296) (w % 4294967296)

half_none : (begin : Bool) → 0 ≡ half begin 0
unfolding half
half_none true = omega arith
half_none false = omega arith

halves_apart : (begin : Bool) (a b : ℕ) → b < 4294967296 → cond begin a b ≡ half begin (a * 4294967296 + b)
unfolding half
halves_apart true a b h = omega arith
halves_apart false a b h = omega arith

node_pick : (begin : Bool) (es : List (List ℕ)) → node_with (cond begin 1 2) es ≡ cond begin (node_with 1 es) (node_with 2 es)
node_pick true es = refl
node_pick false es = refl

-- only an edge's RCNM has the rank 2
edge_rank : (a b c : Bool) → ◌≡◌ {A = ℕ} (cond a 0 (cond b 1 (cond c 2 3))) 2 → c ≡ true
edge_rank true b c e = absurd (omega arith)
edge_rank false true c e = absurd (omega arith)
edge_rank false false true e = refl
edge_rank false false false e = absurd (omega arith)

edge_only : (rcnm : ℕ) → rank_of rcnm ≡ 2 → rcnm ≡ 130
unfolding rank_of
edge_only rcnm e = eqb-true rcnm 130 (edge_rank (eqb rcnm 110) (eqb rcnm 120) (eqb rcnm 130) e)

-- ---- one item and its word
module _ {i : Item} {w : ℕ} (worded : Worded i w) where
  feature_rank : feature_word ≤ w → rank_of i.rcnm ≡ 3
  feature_rank h = omega (arith, worded.rank, rank_few i.rcnm)

  feature_is : feature_word ≤ w → i.rcnm ≡ 100
  feature_is h = worded.class (feature_rank h)

  feature_note : feature_word ≤ w → note_for i ≡ i.foid
  unfolding note_for
  feature_note h = rw (feature_rank h)

  vector_rank : w < feature_word → rank_of i.rcnm ≡ 3 → ⊥
  vector_rank low e = omega (arith, worded.rank)

  vector_is : w < feature_word → eqb i.rcnm 100 ≡ false
  unfolding rank_of
  vector_is low = ne_eqb i.rcnm 100 (λ (e : i.rcnm ≡ 100). vector_rank low (rw e))

  node_edge : (begin : Bool) → rank_of i.rcnm ≡ 2 → node_of (cond begin 1 2) i ≡ half begin (note_for i)
  unfolding node_of note_for half ends_with
  node_edge begin two =
      rw (two, edge_only i.rcnm two)
      (node_pick begin (i.lists VRPT) ∙ halves_apart begin (node_with 1 (i.lists VRPT)) (node_with 2 (i.lists VRPT)) worded.few)

  node_other : (begin : Bool) → w < feature_word → (rank_of i.rcnm ≡ 2 → ⊥) → node_of (cond begin 1 2) i ≡ half begin (note_for i)
  unfolding node_of note_for
  node_other begin low ne =
      let no : eqb i.rcnm 130 ≡ false = ne_eqb _ _ (λ (e : i.rcnm ≡ 130). ne (sym (rank_edge i.rcnm e))) in
      rw (no, ne_eqb (rank_of i.rcnm) 3 (vector_rank low), ne_eqb (rank_of i.rcnm) 2 ne) (half_none begin)

  node_vector : (begin : Bool) → w < feature_word → node_of (cond begin 1 2) i ≡ half begin (note_for i)
  node_vector begin low =
      ⊎_elim (λ (e : rank_of i.rcnm ≡ 2). node_edge begin e) (λ (ne : rank_of i.rcnm ≡ 2 → ⊥). node_other begin low ne) (eq_or_ne (rank_of i.rcnm) 2)

  node_feature : (topi : ℕ) → feature_word ≤ w → node_of topi i ≡ 0
  unfolding node_of
  node_feature topi h = rw (feature_is h)

-- ---- names
place_from_lem : (k name : ℕ) {is : List Item} {ws : List ℕ} → AllWorded is ws → place_from k is name ≡ index_from k ws name
unfolding place_from index_from
place_from_lem k name worded_none = refl
place_from_lem k name (worded_more one all) = rw (← one.name, place_from_lem (k + 1) name all)

-- ---- FOIDs
objects_features : (foid : ℕ) {is : List Item} {ws : List ℕ} → AllWorded is ws → Features ws → object_in is foid ≡ is_in foid (notes_for is)
unfolding object_in is_in notes_for
objects_features foid worded_none high = refl
objects_features foid (worded_more {i = i} one all) high =
    let up = high.high 0 (omega arith) in
    rw (eq-eqb i.rcnm 100 (feature_is one up), feature_note one up, objects_features foid all (features_rest high))

objects_word : (foid : ℕ) {is : List Item} {ws : List ℕ} → AllWorded is ws → Sorted ws → object_in is foid ≡ is_in foid (drop (first_from feature_word ws) (notes_for is))
unfolding object_in is_in notes_for
objects_word foid worded_none order = rw first_none
objects_word foid (worded_more {i = i} {is = is} {w = w} {ws = ws} one all) order =
    let rest = objects_word foid all (sorted_tail order) in
    ⊎_elim (λ (h : feature_word ≤ w). rw (first_feature w ws h) (objects_features foid (worded_more one all) (features_all order h)))
    (λ (h : w < feature_word). rw (first_below w ws h, vector_is one h) rest)
    (le_or_lt feature_word w)

-- ---- the ends of edges
nodes_features : (topi k : ℕ) {is : List Item} {ws : List ℕ} → AllWorded is ws → Features ws → get_or (nodes_of topi is) k 0 ≡ 0
unfolding nodes_of
nodes_features topi k worded_none high = refl
nodes_features topi zero (worded_more one all) high = node_feature one topi (high.high 0 (omega arith))
nodes_features topi (suc k) (worded_more one all) high = nodes_features topi k all (features_rest high)

nodes_word : (begin : Bool) (k : ℕ) {is : List Item} {ws : List ℕ} → AllWorded is ws → Sorted ws
    → get_or (nodes_of (cond begin 1 2) is) k 0 ≡ half begin (get_or (take (first_from feature_word ws) (notes_for is)) k 0)
unfolding nodes_of notes_for
nodes_word begin k worded_none order = rw first_none (half_none begin)
nodes_word begin zero (worded_more {w = w} {ws = ws} one all) order =
    ⊎_elim (λ (h : feature_word ≤ w). rw (first_feature w ws h) (node_feature one (cond begin 1 2) h ∙ half_none begin))
    (λ (h : w < feature_word). rw (first_below w ws h) (node_vector one begin h)) (le_or_lt feature_word w)
nodes_word begin (suc k) (worded_more {w = w} {ws = ws} one all) order =
    let rest = nodes_word begin k all (sorted_tail order) in
    ⊎_elim (λ (h : feature_word ≤ w). rw (first_feature w ws h)
    (nodes_features (cond begin 1 2) (suc k) (worded_more one all) (features_all order h) ∙ half_none begin))
    (λ (h : w < feature_word). rw (first_below w ws h) rest) (le_or_lt feature_word w)

nodes_found : (begin : Bool) (x : Option ℕ) {is : List Item} {ws : List ℕ} → AllWorded is ws → Sorted ws
    → found (nodes_of (cond begin 1 2) is) x ≡ half begin (found (take (first_from feature_word ws) (notes_for is)) x)
unfolding found
nodes_found begin (Some k) all order = nodes_word begin k all order
nodes_found begin None all order = half_none begin

-- ---- the same of a work area that is prepared
module _ {is : List Item} {ws : List ℕ} {m : ℕ} {work : List ℕ} {v : ℕ} (all : AllWorded is ws) (order : Sorted ws) (so : Prepared (notes_for is) ws m work v) where
  places : place_in is ≡ index_of (words_in work 0 m)
  unfolding place_in index_of
  places = fun_ext (λ (name : ℕ). place_from_lem 0 name all) ∙ ap index_of (sym so.words)

  objects : object_in is ≡ held_foid (words_in work (m + v) (m - v))
  unfolding held_foid
  objects =
      fun_ext (λ (foid : ℕ).
      objects_word foid all order
      ∙ rw (← so.first) (sym (sorted_member foid (drop v (notes_for is))))
      ∙ ap (is_in foid) (sym so.foids))

  nodes : node_in is ≡ node_at (words_in work 0 m) (words_in work m v)
  unfolding node_in node_at end_in half
  nodes =
      fun_ext (λ (topi : ℕ). fun_ext (λ (name : ℕ).
      rw (places, so.ends, so.first) (nodes_found (eqb topi 1) (index_of (words_in work 0 m) name) all order)))

  -- the code of an item among all is its code by words and notes
  pub code_noted : (comf : ℕ) → code_among comf is ≡ noted_code comf work m v
  unfolding code_among
  code_noted comf = rw (places, objects, nodes)

-- ---- the items of a file, which is one of bytes, and their words
-- a word with the item's name has the rank of its class
pub name_rank : (i : Item) (w : ℕ) → name_of w ≡ item_name i → i.rcid < 4294967296 → rank_in w ≡ rank_of i.rcnm
unfolding name_from
name_rank i w e small = omega arith

stands_worded : {s : List ℕ} {w : ℕ} → Bytes s → Stands s w → Worded (item_at s (word_offset w)) w
stands_worded {s} {w} bytes stands = record {
  name = stand_name stands;
  rank = stand_rank stands bytes.low;
  class = λ (e : rank_of (rcnm_at s (word_offset w)) ≡ 3). last_feature (rcnm_at s (word_offset w)) e stands.known.class;
  few = rw (vrpt_said s (word_offset w)) (node_few 2 _ (entries_bytes s (word_offset w) VRPT bytes));
}

pub items_worded : {s : List ℕ} (ws : List ℕ) → Bytes s → AllStand s ws → AllWorded (items_at s ws) ws
unfolding items_at
items_worded [] bytes all = worded_none
items_worded (w ∷ ws) bytes all = worded_more (stands_worded bytes (stand_first all)) (items_worded ws bytes (stand_rest all))
