-- A series of updates: what it leaves of the base, its numbers, and that there is one of each length. Each law is an induction along the series. Assumes nothing.
use Prim.Native.Nat.{ℕ, ◌+◌, ◌≤◌, ◌<◌}
use mathlib.Core.List.{List, [], ◌∷◌, ◌++◌, map, Memᴰ}
use mathlib.Core.Logic.{⊎_elim}
use mathlib.Core.Path.{◌≡◌, refl, sym, ap, ap₂, ◌∙◌}
use native.Mathlib.Omega.{arith}
use lib.ListN.{length}
use Rattle.octets.proofs.Cases.{eq_or_ne}
use Rattle.held.specs.Chart.{Chart}
use Rattle.changes.specs.Follow.{chart_name}
use Rattle.loader.specs.Apply.{updated_by}
use Rattle.demands.specs.Update.{Allowed}
use Rattle.demands.specs.ByteChart.{Whole}
use Rattle.demands.proofs.Updated.{updated_once}
use Rattle.demands.proofs.Whole.{whole_updated}
use Rattle.unit.specs.Unit.{BytesEach}
use Rattle.unit.specs.Reissue.{chart_number, number_of, UpdateOf, OneEach, worked, Series, numbers_after}
use Rattle.unit.specs.Reissue.Series.{ended, next}

-- ---- an allowed file: it is an update of the base, if name and edition are the base's; and its number
pub of_base : (base c : Chart) (u : List ℕ) → chart_name c.header.dsid ≡ chart_name base.header.dsid → c.header.dsid.edition ≡ base.header.dsid.edition
    → Allowed c u → UpdateOf base u
of_base base c u n e a = record { reads = a.reads; name = a.rules.header.name ∙ n; edition = a.rules.header.edition ∙ e }

pub allowed_next : (c : Chart) (file : List ℕ) → Allowed c file → number_of file ≡ chart_number c + 1
unfolding number_of
allowed_next c file a = a.rules.header.number

-- ---- one series behind another
pub worked_append : (c : Chart) (us vs : List (List ℕ)) → worked c (us ++ vs) ≡ worked (worked c us) vs
unfolding worked
worked_append c [] vs = refl
worked_append c (u ∷ us) vs = worked_append (updated_by c u) us vs

module _ {Offered : List ℕ → Type 0} where
  pub series_append : {c : Chart} {us vs : List (List ℕ)} → Series Offered c us → Series Offered (worked c us) vs → Series Offered c (us ++ vs)
  unfolding worked
  series_append ended t = t
  series_append (next o a s) t = next o a (series_append s t)

  -- ---- what a series leaves: name, edition, a chart that may be held; and its numbers
  pub worked_name : {c : Chart} {us : List (List ℕ)} → Series Offered c us → chart_name (worked c us).header.dsid ≡ chart_name c.header.dsid
  unfolding worked
  worked_name ended = refl
  worked_name (next {c = c} {file = u} o a s) = worked_name s ∙ (updated_once c u a).name

  pub worked_edition : {c : Chart} {us : List (List ℕ)} → Series Offered c us → (worked c us).header.dsid.edition ≡ c.header.dsid.edition
  unfolding worked
  worked_edition ended = refl
  worked_edition (next {c = c} {file = u} o a s) = worked_edition s ∙ (updated_once c u a).edition

  pub worked_whole : BytesEach Offered → {c : Chart} {us : List (List ℕ)} → Whole c → Series Offered c us → Whole (worked c us)
  unfolding worked
  worked_whole octets g ended = g
  worked_whole octets g (next {c = c} {file = u} o a s) = worked_whole octets (whole_updated c u (octets u o) g a) s

  pub worked_number : {c : Chart} {us : List (List ℕ)} → Series Offered c us → chart_number (worked c us) ≡ chart_number c + length us
  unfolding worked
  worked_number ended = omega arith
  worked_number (next {c = c} {file = u} o a s) = let h = worked_number s in let g = (updated_once c u a).next in omega arith

  pub series_numbers : {c : Chart} {us : List (List ℕ)} → Series Offered c us → map number_of us ≡ numbers_after (chart_number c) (length us)
  unfolding numbers_after
  series_numbers ended = refl
  series_numbers (next {c = c} {file = u} {files = us} o a s) =
      ap₂ {C = List ℕ} (λ x xs. x ∷ xs) (allowed_next c u a) (series_numbers s ∙ ap (λ (n : ℕ). numbers_after n (length us)) (updated_once c u a).next)

  -- ---- with one file to a number there is one series to a length, and it has every update
  module _ (base : Chart) (one : OneEach Offered base) where
    pub series_same : {c : Chart} {us vs : List (List ℕ)} → chart_name c.header.dsid ≡ chart_name base.header.dsid
        → c.header.dsid.edition ≡ base.header.dsid.edition → Series Offered c us → Series Offered c vs → length us ≡ length vs → us ≡ vs
    series_same n e ended ended h = refl
    series_same n e ended (next o a s) h = absurd (omega arith)
    series_same n e (next o a s) ended h = absurd (omega arith)
    series_same n e (next {c = c} {file = u} {files = us} o a s) (next {file = v} {files = vs} p b t) h =
        let first : u ≡ v = one.same u v o p (of_base base c u n e a) (of_base base c v n e b) (allowed_next c u a ∙ sym (allowed_next c v b)) in
        let t' : Series Offered (updated_by c u) vs = rw first t in
        let kept = updated_once c u a in
        let rest : us ≡ vs = series_same (kept.name ∙ n) (kept.edition ∙ e) s t' (omega arith) in
        ap₂ {C = List (List ℕ)} (λ x xs. x ∷ xs) first rest

    pub series_every : {c : Chart} {us : List (List ℕ)} → chart_name c.header.dsid ≡ chart_name base.header.dsid
        → c.header.dsid.edition ≡ base.header.dsid.edition → Series Offered c us
        → (file : List ℕ) → Offered file → UpdateOf base file → chart_number c < number_of file → number_of file ≤ chart_number c + length us → Memᴰ file us
    series_every n e ended file p own low high = absurd (omega arith)
    series_every n e (next {c = c} {file = u} {files = us} o a s) file p own low high =
        ⊎_elim (λ (h : number_of file ≡ chart_number c + 1).
        Memᴰ.head (one.same file u p o own (of_base base c u n e a) (h ∙ sym (allowed_next c u a))))
        (λ (h : number_of file ≡ chart_number c + 1 → ⊥).
        let kept = updated_once c u a in
        let more = kept.next in
        Memᴰ.tail (series_every (kept.name ∙ n) (kept.edition ∙ e) s file p own (omega arith) (omega arith)))
        (eq_or_ne (number_of file) (chart_number c + 1))
