-- Laws of what is seen of items while the notes are put. Assumes nothing.
use Prim.Native.Nat.{ℕ, zero, suc, ◌+◌, ◌-◌, ◌*◌, ◌≤◌, ◌<◌}
use mathlib.Core.Bool.{Bool, true, false}
use mathlib.Core.List.{List}
use mathlib.Core.Logic.{⊎_elim}
use mathlib.Core.Path.{◌≡◌, refl, sym, ap, ◌∙◌}
use native.Mathlib.Nat.{zero-add}
use native.Mathlib.Numerals.{add-one}
use native.Mathlib.Omega.{arith}
use lib.ListN.{length, get_or}
use Rattle.octets.proofs.Cases.{eq_or_ne}
use Rattle.words.specs.Words.{word_at, words_in}
use Rattle.words.specs.Order.{Sorted}
use Rattle.words.proofs.WordsLaws.{words_at, words_length}
use Rattle.answers.specs.First.{first_by}
use Rattle.lookups.specs.LookupWords.{index_of}
use Rattle.items.specs.Identity.{id_at, rcnm_at, rank_of}
use Rattle.items.specs.Word.{word_offset}
use Rattle.items.specs.Item.{Item, item_at}
use Rattle.items.specs.Premises.{LaidOut, Identified}
use Rattle.names.specs.Premises.{Noted}
use Rattle.spans.specs.Spans.{LoneTold, SpanOf}
use Rattle.spans.specs.declared.Spans.{Spans}
use Rattle.quickvectors.specs.Quick.{Quick, FaultlessVector, VectorTold, WordlessTold, VectorIn, NodeIn, NamesIn}
use Rattle.quickvectors.proofs.CoordinateLaws.{never}
use Rattle.topology.specs.Topology.{item_code}
use Rattle.topology.specs.Notes.{note_for, noted_code, word_fault, Ranked, Prepared, SeenTold, AloneTold, ClearTo, ClearWith}
use Rattle.topology.specs.declared.seen.Seen.{Seen}
use Rattle.topology.proofs.BesideLaws.{beside_words}
use Rattle.topology.proofs.NotesLaws.{Filed, note_none}
use Rattle.topology.proofs.TopologyLaws.{fault_start, fault_on}

-- ---- one item
-- of which only the note is known
pub seen_note : (comf : ℕ) (ws : List ℕ) (i : Item) (r : Seen) → r.note ≡ note_for i → r.clear ≡ false → SeenTold comf ws i r
seen_note comf ws i r told none = record { note = told; clear = λ (e : r.clear ≡ true). never (sym none ∙ e) }

pub seen_judged : (comf : ℕ) (ws : List ℕ) (i : Item) (r : Seen) → r.note ≡ note_for i → VectorTold comf ws i r.clear → SeenTold comf ws i r
seen_judged comf ws i r told faultless = record { note = told; clear = faultless.is }

-- a vector is no feature
vector_ranked : (s : List ℕ) (at rank : ℕ) → Ranked s at rank → (rank ≡ 3 → ⊥) → rcnm_at s at ≡ 100 → ⊥
unfolding rank_of
vector_ranked s at rank ranked feature is = feature (ranked.is ∙ ap rank_of is)

-- its lists
pub seen_vector : (s : List ℕ) (at rank id : ℕ) (sp : Spans) → Ranked s at rank → (rank ≡ 3 → ⊥) → id ≡ id_at s at
    → SpanOf s at 1448235092 sp.one → SpanOf s at 1397174852 sp.two → SpanOf s at 1397175108 sp.three → VectorIn s at id sp
seen_vector s at rank id sp ranked feature there ends pairs soundings = record {
  known = ranked.known;
  there = there;
  vector = vector_ranked s at rank ranked feature;
  ends = ends;
  pairs = pairs;
  soundings = soundings;
}

-- a node of one pair
pub alone_no : (s : List ℕ) (at rank due : ℕ) → AloneTold s at rank due false
alone_no s at rank due = record { node = λ (e : false ≡ true). never e; is = λ (e : false ≡ true). never e }

pub alone_told : (s : List ℕ) (at rank due : ℕ) (r : Bool) → Ranked s at rank → (rank ≡ 3 → ⊥) → (rank ≡ 2 → ⊥) → LoneTold s at due r → AloneTold s at rank due r
unfolding rank_of
alone_told s at rank due r ranked feature edge told = record {
  node = λ (e : r ≡ true). edge;
  is = λ (e : r ≡ true).
      record {
        known = ranked.known;
        vector = vector_ranked s at rank ranked feature;
        node = λ (is : rcnm_at s at ≡ 130). edge (ranked.is ∙ ap rank_of is);
        pair = told.is e;
      };
}

pub alone_node : (s : List ℕ) (at rank due : ℕ) (b : Bool) → AloneTold s at rank due b → b ≡ true → NodeIn s at due
alone_node s at rank due b told e = told.is e

pub seen_node : (comf : ℕ) (ws s : List ℕ) (at rank due : ℕ) (b : Bool) (r : Seen) → Ranked s at rank → (rank ≡ 3 → ⊥) → AloneTold s at rank due b → b ≡ true
    → r.note ≡ 0 → WordlessTold comf (item_at s at) r.clear → SeenTold comf ws (item_at s at) r
seen_node comf ws s at rank due b r ranked feature alone e none told = record {
  note = none ∙ note_none ranked feature (alone.node e);
  clear = λ (y : r.clear ≡ true). told.is y ws;
}

-- where no more is asked than whether it is clear: its class is read, and the words are those of the notes
pub read_ranked : (s : List ℕ) (at rank rcnm : ℕ) → LaidOut s at → Identified s at → rcnm ≡ rcnm_at s at → rank ≡ rank_of rcnm → Ranked s at rank
read_ranked s at rank rcnm laid known read is = record { laid = laid; known = known; is = is ∙ ap rank_of read }

pub noted_names : {work : List ℕ} {m v : ℕ} → Noted work m v → NamesIn work m
noted_names noted = record { room = let room = noted.room in omega arith; order = noted.order }

pub seen_quick : (comf : ℕ) (work : List ℕ) (m v : ℕ) (i : Item) (r : Seen) → SeenTold comf (words_in work 0 m) i r → Quick comf work m v i r.clear
seen_quick comf work m v i r told = record {
  is = λ (e : r.clear ≡ true). let faultless = told.clear e in record { shape = faultless.shape; pointer = faultless.pointer _; ring = faultless.ring _ };
}

-- an item without fault has no code, whatever is said of FOIDs and nodes
pub faultless_code : (comf : ℕ) (ws : List ℕ) (object : ℕ → Bool) (node : ℕ → ℕ → ℕ) (i : Item) → FaultlessVector comf ws i → 0 ≡ item_code comf (index_of ws) object node i
unfolding item_code first_by
faultless_code comf ws object node i faultless = rw (faultless.shape, faultless.pointer object, faultless.ring node)

-- ---- how many are clear
-- the words stay while notes are put, and are as many as ever
pub filed_names : {s a : List ℕ} {m i : ℕ} {b : List ℕ} → Filed s a m i b → 16 * m ≤ length a → Sorted (words_in a 0 m) → NamesIn b m
filed_names {s} {a} {m} {i} {b} filed room order = record {
  room = let size = filed.so.beside.size in omega arith;
  order = rw (beside_words filed.so.beside 0 m (omega arith)) order;
}

pub clear_none : (comf : ℕ) (s a : List ℕ) (m : ℕ) → ClearTo comf s (words_in a 0 m) 0
clear_none comf s a m = record { few = omega arith; each = λ (j : ℕ) (h : j < 0). absurd (omega arith) }

-- item i, whose word is w, was seen in the area b
module _ {comf : ℕ} {s a : List ℕ} {m i : ℕ} {b : List ℕ} (filed : Filed s a m i b) (more : i < m) (w : ℕ) (is : w ≡ word_at b i) (seen : Seen)
    (told : SeenTold comf (words_in b 0 m) (item_at s (word_offset w)) seen) {clear : ℕ} (so : ClearTo comf s (words_in a 0 m) clear) where
  same : words_in b 0 m ≡ words_in a 0 m
  same = beside_words filed.so.beside 0 m (omega arith)

  word_is : get_or (words_in a 0 m) i 0 ≡ w
  word_is = ap (λ (l : List ℕ). get_or l i 0) (sym same) ∙ words_at b 0 m i more ∙ rw (zero-add i) (sym is)

  pub clear_on : (r : ℕ) → ClearWith clear i seen.clear r → ClearTo comf s (words_in a 0 m) r
  clear_on r with_it =
      ⊎_elim
      (λ (e : r ≡ clear). rw e so)
      (λ (one : (seen.clear ≡ true) × (clear ≡ i) × (r ≡ i + 1)).
      record {
        few = rw (words_length a 0 m) (let e = one.2 in omega arith);
        each = λ (j : ℕ) (h : j < r).
            ⊎_elim
            (λ (here : j ≡ i). rw (here, word_is) (rw same at (told.clear one.0)))
            (λ (before : j ≡ i → ⊥). so.each j (let e = one.2 in let f = one.1 in omega arith))
            (eq_or_ne j i);
      })
      with_it.is

-- ---- the walk over all items begins behind those that are clear
module _ (comf : ℕ) (s work : List ℕ) (m v clear : ℕ) (so : ClearTo comf s (words_in work 0 m) clear) where
  pub clear_few : clear ≤ m
  clear_few = rw (words_length work 0 m) at so.few

  clear_steps : (k : ℕ) → k ≤ clear
      → word_fault (noted_code comf work m v) s 3 (words_in work 0 m) ≡ word_fault (noted_code comf work m v) s (3 + k) (words_in work k (m - k))
  clear_steps zero low = fault_start (noted_code comf work m v) s work m
  clear_steps (suc k) low =
      let few = clear_few in
      let more : k < m = omega arith in
      let there : get_or (words_in work 0 m) k 0 ≡ word_at work k = words_at work 0 m k more ∙ rw (zero-add k) in
      let faultless = rw there at (so.each k low) in
      let before = clear_steps k (omega arith) in
      rw (add-one k) at
      (fault_on (noted_code comf work m v) s work m k more (word_at work k) refl (word_offset (word_at work k)) refl
      (word_fault (noted_code comf work m v) s 3 (words_in work 0 m)) before 0 (faultless_code comf (words_in work 0 m) _ _ (item_at s (word_offset (word_at work k))) faultless) refl)

  pub clear_start : word_fault (noted_code comf work m v) s 3 (words_in work 0 m) ≡ word_fault (noted_code comf work m v) s (3 + clear) (words_in work clear (m - clear))
  clear_start = clear_steps clear (omega arith)

-- they are the same words when the notes of the features are sorted
pub held_clear : {comf : ℕ} {s : List ℕ} (ws : List ℕ) {m : ℕ} {notes next : List ℕ} {v k : ℕ} → ClearTo comf s ws k → Prepared notes ws m next v
    → ClearTo comf s (words_in next 0 m) k
held_clear ws so prepared = rw prepared.words so
