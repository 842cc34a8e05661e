-- The look-up of a name among the sorted words of a file's records: what it answers is one of the records that have the name, and
-- nothing just where none has. Assumes nothing.
use Prim.Native.Nat.{ℕ, ◌+◌, ◌-◌, ◌≤◌, ◌<◌}
use mathlib.Core.Bool.{Bool, true}
use mathlib.Core.List.{List}
use mathlib.Core.Logic.{⊎_elim}
use mathlib.Core.Path.{◌≡◌, refl, sym, ap, ◌∙◌}
use native.Mathlib.Omega.{arith}
use lib.ListN.{get_or}
use Rattle.std.specs.Prelude.{Some, None}
use Rattle.octets.proofs.ListLaws.{member_at, member_place}
use Rattle.octets.specs.Lists.{is_in}
use Rattle.iso8211.specs.File.{record_at}
use Rattle.words.specs.Order.{sorted}
use Rattle.words.proofs.OrderLaws.{sorted_member}
use Rattle.items.specs.Identity.{name_at, word_for}
use Rattle.items.specs.Word.{name_of, word_offset}
use Rattle.items.proofs.IdentityLaws.{word_name, word_offset_lem}
use Rattle.names.specs.NameWords.{name_words}
use Rattle.lookups.specs.LookupWords.{lookup}
use Rattle.names.specs.Premises.{Readable}
use Rattle.names.specs.Names.{first_item}
use Rattle.lookups.specs.Lookup.{found_code}
use Rattle.names.proofs.NamesLaws.{from_length, from_at}
use Rattle.names.proofs.ReadableLaws.{place_small}
use Rattle.lookups.proofs.LookupLaws.{lookup_told, lookup_lost, found_cases, code_nothing, code_at}

-- a word of the file is a record's
module _ (update : Bool) (s : List ℕ) (n : ℕ) where
  pub word_record : (w : ℕ) → is_in w (sorted (name_words update s n)) ≡ true → (k : ℕ) × (first_item update ≤ k) × (k < n) × (word_for s (record_at s k) ≡ w)
  unfolding name_words
  word_record w h =
      let t = member_place w (name_words update s n) (sym (sorted_member w (name_words update s n)) ∙ h) in
      let less : t.0 < n - first_item update = rw (from_length (n - first_item update) s (record_at s (first_item update))) at t.1 in
      (first_item update + t.0, omega arith, omega arith, sym (from_at (n - first_item update) s (first_item update) (record_at s (first_item update)) t.0 refl less) ∙ t.2)

  record_word : (k : ℕ) → first_item update ≤ k → k < n → is_in (word_for s (record_at s k)) (sorted (name_words update s n)) ≡ true
  unfolding name_words
  record_word k low high =
      let place : first_item update + (k - first_item update) ≡ k = omega arith in
      let there : get_or (name_words update s n) (k - first_item update) 0 ≡ word_for s (record_at s k) =
      from_at (n - first_item update) s (first_item update) (record_at s (first_item update)) (k - first_item update) refl (omega arith) ∙ rw place in
      sorted_member (word_for s (record_at s k)) (name_words update s n)
      ∙ (rw there at (member_at (name_words update s n) (k - first_item update) (omega (arith, from_length (n - first_item update) s (record_at s (first_item update))))))

-- ---- the look-up
module _ {update : Bool} {s : List ℕ} {n : ℕ} (readable : Readable update s n) (name : ℕ) where
  -- the place is that of a record that has the name
  pub found_record : (p : ℕ) → lookup (sorted (name_words update s n)) name ≡ Some p → (k : ℕ) × (first_item update ≤ k) × (k < n) × (record_at s k ≡ p) × (name_at s p ≡ name)
  found_record p e =
      let ws = sorted (name_words update s n) in
      let t = lookup_told ws name p e in
      let r = word_record update s n (get_or ws t.0 0) (member_at ws t.0 t.1) in
      let small = place_small readable r.0 r.2 in
      let place : record_at s r.0 ≡ p = sym (word_offset_lem s (record_at s r.0) small) ∙ ap (λ (w : ℕ). word_offset w) r.3 ∙ t.3 in
      let named : name_at s (record_at s r.0) ≡ name = sym (word_name s (record_at s r.0) small) ∙ ap (λ (w : ℕ). name_of w) r.3 ∙ t.2 in
      (r.0, r.1, r.2, place, rw place at named)

  -- nothing: no record has it
  pub lost_record : lookup (sorted (name_words update s n)) name ≡ None → (k : ℕ) → first_item update ≤ k → k < n → name_at s (record_at s k) ≡ name → ⊥
  lost_record e k low high is =
      let ws = sorted (name_words update s n) in
      let t = member_place (word_for s (record_at s k)) ws (record_word update s n k low high) in
      let named : name_of (get_or ws t.0 0) ≡ name = ap (λ (w : ℕ). name_of w) t.2 ∙ word_name s (record_at s k) (place_small readable k high) ∙ is in
      lookup_lost ws name t.0 t.1 named e

  -- "a NAME is refused exactly if no record of the cell has it"
  pub name_refused : ((k : ℕ) → first_item update ≤ k → k < n → name_at s (record_at s k) ≡ name → ⊥) → found_code (lookup (sorted (name_words update s n)) name) ≡ 18
  name_refused none =
      ⊎_elim (λ (e : lookup (sorted (name_words update s n)) name ≡ None). rw e code_nothing)
      (λ (t : (p : ℕ) × (lookup (sorted (name_words update s n)) name ≡ Some p)).
      let r = found_record t.0 t.1 in absurd (none r.0 r.1 r.2 (rw r.3 r.4)))
      (found_cases (lookup (sorted (name_words update s n)) name))

  pub name_found : (k : ℕ) → first_item update ≤ k → k < n → name_at s (record_at s k) ≡ name → found_code (lookup (sorted (name_words update s n)) name) ≡ 0
  name_found k low high is =
      ⊎_elim (λ (e : lookup (sorted (name_words update s n)) name ≡ None). absurd (lost_record e k low high is))
      (λ (t : (p : ℕ) × (lookup (sorted (name_words update s n)) name ≡ Some p)). rw t.1 (code_at t.0))
      (found_cases (lookup (sorted (name_words update s n)) name))

  -- where no other record has the name, the place is that of the one that has it
  pub name_place : (k : ℕ) → first_item update ≤ k → k < n → name_at s (record_at s k) ≡ name → ((j : ℕ) → first_item update ≤ j → j < n → name_at s (record_at s j) ≡ name → j ≡ k)
      → lookup (sorted (name_words update s n)) name ≡ Some (record_at s k)
  name_place k low high is only =
      ⊎_elim (λ (e : lookup (sorted (name_words update s n)) name ≡ None). absurd (lost_record e k low high is))
      (λ (t : (p : ℕ) × (lookup (sorted (name_words update s n)) name ≡ Some p)).
      let r = found_record t.0 t.1 in
      let same : r.0 ≡ k = only r.0 r.1 r.2 (rw r.3 r.4) in
      t.1 ∙ ap (λ (p : ℕ). Some p) (sym r.3 ∙ ap (λ (j : ℕ). record_at s j) same))
      (found_cases (lookup (sorted (name_words update s n)) name))
