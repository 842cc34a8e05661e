-- Laws of the kinds of fields: rules of the table, each one computed test. Assumes nothing.
use Prim.Native.Nat.{ℕ, zero, suc, ◌+◌, ◌≤◌, ◌<◌}
use mathlib.Core.Bool.{Bool, true, false, not, cond, ◌&&◌, ◌||◌}
use mathlib.Core.List.{List, [], ◌∷◌}
use mathlib.Core.Logic.{◌⊎◌, inl, inr, ⊎_elim}
use mathlib.Core.Path.{◌≡◌, refl}
use native.Mathlib.Omega.{arith}
use lib.ListN.{length, get_or}
use lib.Dec.{eqb, leb, ltb}
use borrow.Author.Tests.{leb-true, ltb-true, eqb-true, eq-eqb, not-true}
use Rattle.octets.proofs.ListLaws.{all_below, all_below_lem}
use Rattle.octets.proofs.Tests.{both, all4, implied, or_cases}
use Rattle.entries.specs.Premises.{Sound}
use Rattle.entries.specs.Rules.{all_of}
use Rattle.table.specs.Table.{Row, table, row_of, kind_of, among, as_number, first, DSID, DSSI, DSPM, VRID, FRID, FOID, unknown, kind_count}
use Rattle.table.specs.Text.{bytes}
use Rattle.layout.specs.Layout.{opens, follows, shape_of}

-- ---- a rule of every row
-- what holds of each of some rows and of the one behind them holds of row k
rows_keep : (rule : Row → Bool) (rows : List Row) (last : Row) (k : ℕ) → all_of rule rows ≡ true → rule last ≡ true → rule (get_or rows k last) ≡ true
unfolding all_of
rows_keep rule [] last k all end = end
rows_keep rule (r ∷ rows) last zero all end = (both (rule r) (all_of rule rows) all).0
rows_keep rule (r ∷ rows) last (suc k) all end = rows_keep rule rows last k (both (rule r) (all_of rule rows) all).1 end

-- the fixed bytes of an entry are few
unfoldable slim : Row → Bool
slim r = leb 1 r.fixed && leb r.fixed 64

row_slim : (k : ℕ) → slim (row_of k) ≡ true
unfolding slim row_of table all_of
row_slim k = rows_keep slim table _ k refl refl

unit_narrow : (text : Bool) → cond text 1 0 ≤ 2
unit_narrow true = omega arith
unit_narrow false = omega arith

-- every shape of the table is sound
pub shape_sound : (k : ℕ) → Sound (shape_of k)
unfolding slim
shape_sound k =
    let p = both (leb 1 (row_of k).fixed) (leb (row_of k).fixed 64) (row_slim k) in
    record { some = leb-true _ _ p.0; slim = leb-true _ _ p.1; narrow = unit_narrow (row_of k).text }

-- ---- which kinds there are
either_few : (b : Bool) (x y : ℕ) → x < kind_count → y < kind_count → cond b x y < kind_count
either_few true x y h k = h
either_few false x y h k = k

among_few : (rows : List Row) (k t : ℕ) → k + length rows < kind_count → among rows k t < kind_count
unfolding among
among_few [] k t h = either_few (eqb t 808464433) first unknown (omega arith) (omega arith)
among_few (r ∷ rows) k t h = either_few (eqb t (as_number (bytes r.tag) 0)) k (among rows (suc k) t) (omega arith) (among_few rows (suc k) t (omega arith))

pub kind_few : (t : ℕ) → kind_of t < kind_count
unfolding kind_of table
kind_few t = among_few table 0 t (omega arith)

-- ---- a rule of every kind
-- a test of kinds that only kind n passes
only : (test : ℕ → Bool) (n k : ℕ) → all_below kind_count (λ j. not (test j) || eqb j n) ≡ true → k < kind_count → test k ≡ true → k ≡ n
only test n k all few h = eqb-true k n (implied (test k) (eqb k n) (all_below_lem (λ j. not (test j) || eqb j n) kind_count k all few) h)

-- a test of kinds that none passes
never : (test : ℕ → Bool) (k : ℕ) → all_below kind_count (λ j. not (test j)) ≡ true → k < kind_count → test k ≡ true → ⊥
never test k all few h =
    let n = all_below_lem (λ j. not (test j)) kind_count k all few in
    let f : not true ≡ true = rw h at n in
    let z : ◌≡◌ {A = ℕ} 0 1 = cc in
    omega arith

-- ---- which kind opens a record
pub opens_dsid : (k : ℕ) → k < kind_count → opens 0 k ≡ true → k ≡ DSID
unfolding opens row_of table all_below
opens_dsid k few h = only (opens 0) DSID k refl few h

pub opens_dspm : (k : ℕ) → k < kind_count → opens 1 k ≡ true → k ≡ DSPM
unfolding opens row_of table all_below
opens_dspm k few h = only (opens 1) DSPM k refl few h

pub opens_feature : (k : ℕ) → k < kind_count → opens 3 k ≡ true → k ≡ FRID
unfolding opens row_of table all_below
opens_feature k few h = only (opens 3) FRID k refl few h

pub opens_item : (k : ℕ) → k < kind_count → opens 2 k ≡ true → (k ≡ VRID) ⊎ (k ≡ FRID)
unfolding opens row_of table all_below
opens_item k few h =
    let t = implied (opens 2 k) (eqb k VRID || eqb k FRID) (all_below_lem (λ j. not (opens 2 j) || (eqb j VRID || eqb j FRID)) kind_count k refl few) h in
    ⊎_elim (λ (v : eqb k VRID ≡ true). inl (eqb-true _ _ v)) (λ (f : eqb k FRID ≡ true). inr (eqb-true _ _ f)) (or_cases (eqb k VRID) (eqb k FRID) t)

-- it is of one of the four groups, and no control
unfoldable opener : Row → Bool
opener r = not (eqb r.order 1) || (leb r.group 3 && not r.control)

row_opener : (k : ℕ) → opener (row_of k) ≡ true
unfolding opener row_of table all_of
row_opener k = rows_keep opener table _ k refl refl

pub opens_group : (stage k : ℕ) → opens stage k ≡ true → ((row_of k).group ≤ 3) × (not (row_of k).control ≡ true)
unfolding opens opener
opens_group stage k h =
    let first_place = (both (eqb (row_of k).order 1) (eqb (row_of k).group stage || (eqb stage 2 && eqb (row_of k).group 3)) h).0 in
    let p = both (leb (row_of k).group 3) (not (row_of k).control) (implied (eqb (row_of k).order 1) _ (row_opener k) first_place) in
    (leb-true _ _ p.0, p.1)

pub first_apart : (row_of first).group ≡ 9
unfolding row_of table
first_apart = refl

-- ---- which kind follows which
pub follows_dsid : (update : Bool) (k : ℕ) → k < kind_count → follows update DSID k ≡ true → k ≡ DSSI
unfolding follows row_of table all_below
follows_dsid true k few h = only (follows true DSID) DSSI k refl few h
follows_dsid false k few h = only (follows false DSID) DSSI k refl few h

pub follows_dssi : (update : Bool) (k : ℕ) → k < kind_count → follows update DSSI k ≡ true → ⊥
unfolding follows row_of table all_below
follows_dssi true k few h = never (follows true DSSI) k refl few h
follows_dssi false k few h = never (follows false DSSI) k refl few h

pub follows_dspm : (update : Bool) (k : ℕ) → k < kind_count → follows update DSPM k ≡ true → ⊥
unfolding follows row_of table all_below
follows_dspm true k few h = never (follows true DSPM) k refl few h
follows_dspm false k few h = never (follows false DSPM) k refl few h

-- what a field tells of the one before it
pub record Followed (update : Bool) (prev k : ℕ) : Type 0 where
  pub group : (row_of prev).group ≡ (row_of k).group
  pub order : (row_of prev).order ≤ (row_of k).order
  pub again : (row_of prev).order ≡ (row_of k).order → (prev ≡ k) × ((row_of k).list ≡ true)
  pub identified : prev ≡ FRID → k ≡ FOID
  pub uncontrolled : update ≡ false → (row_of k).control ≡ false

later : (prev k m n : ℕ) (list : Bool) → (ltb m n || (eqb prev k && list)) ≡ true → (prev ≡ k → m ≡ n) → (m ≤ n) × (m ≡ n → (prev ≡ k) × (list ≡ true))
later prev k m n list h same =
    ⊎_elim (λ (less : ltb m n ≡ true). let l = ltb-true m n less in (omega arith, λ (e : m ≡ n). absurd (omega arith)))
    (λ (repeat : (eqb prev k && list) ≡ true).
    let p = both (eqb prev k) list repeat in
    let e = eqb-true prev k p.0 in
    let o = same e in (omega arith, λ (q : m ≡ n). (e, p.1)))
    (or_cases (ltb m n) (eqb prev k && list) h)

uncontrol : (control update : Bool) → (not control || update) ≡ true → update ≡ false → control ≡ false
uncontrol false update h e = refl
uncontrol true update h e = absurd (let z : ◌≡◌ {A = ℕ} 0 1 = cc in omega arith)

pub followed : (update : Bool) (prev k : ℕ) → follows update prev k ≡ true → Followed update prev k
unfolding follows
followed update prev k h =
    let p = all4 (eqb (row_of prev).group (row_of k).group) (ltb (row_of prev).order (row_of k).order || (eqb prev k && (row_of k).list))
    (not (eqb prev FRID) || eqb k FOID) (not (row_of k).control || update) h in
    let l = later prev k (row_of prev).order (row_of k).order (row_of k).list p.1 (λ (e : prev ≡ k). rw e) in
    record {
      group = eqb-true _ _ p.0;
      order = l.0;
      again = l.1;
      identified = λ (e : prev ≡ FRID). eqb-true k FOID (implied (eqb prev FRID) (eqb k FOID) p.2 (eq-eqb _ _ e));
      uncontrolled = λ (e : update ≡ false). uncontrol (row_of k).control update p.3 e;
    }

-- ---- controls
unfoldable control_five : Row → Bool
control_five r = not r.control || (not r.list && eqb r.fixed 5)

row_control : (k : ℕ) → control_five (row_of k) ≡ true
unfolding control_five row_of table all_of
row_control k = rows_keep control_five table _ k refl refl

-- a control is no list, and has five bytes
pub control_row : (k : ℕ) → (row_of k).control ≡ true → ((row_of k).list ≡ false) × ((row_of k).fixed ≡ 5)
unfolding control_five
control_row k h =
    let p = both (not (row_of k).list) (eqb (row_of k).fixed 5) (implied (row_of k).control _ (row_control k) h) in
    (not-true _ p.0, eqb-true _ _ p.1)
