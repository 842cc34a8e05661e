-- Demand 2 of what an update makes of a chart. `updated_good`: the result of an allowed file may be held. `updated_once`: it has the name and the edition that were,
-- and the file's number, one more than the chart's, so that the file doesn't follow it again. `named_done`, `unnamed_kept`: each record of the file is done, and what
-- none names stays. Assumes nothing.
use Prim.Native.Nat.{ℕ, ◌+◌}
use mathlib.Core.List.{List}
use mathlib.Core.Path.{◌≡◌}
use Rattle.items.specs.Item.{item_name}
use Rattle.held.specs.Chart.{Chart}
use Rattle.held.specs.Good.{GoodChart}
use Rattle.merge.specs.Update.{unnamed}
use Rattle.merge.specs.Updated.{Differs}
use Rattle.merge.specs.Updated.Differs.{diff_none, diff_more}
use Rattle.changes.specs.Change.{Amendment}
use Rattle.changes.specs.Follow.{chart_name, follow_code}
use Rattle.changes.specs.Amend.{held_by}
use Rattle.changes.specs.Updated.{by_amendment}
use Rattle.changes.specs.Rules.{All, Done}
use Rattle.changes.specs.Rules.All.{all_none, all_more}
use Rattle.changes.proofs.RulesLaws.{acceptable_tested}
use Rattle.changes.proofs.GoodLaws as good
use Rattle.changes.proofs.FollowLaws as follow
use Rattle.changes.proofs.FollowLaws.{follows_tested}
use Rattle.changes.proofs.KeptLaws as kept
use Rattle.demands.specs.Verdict.{Good}
use Rattle.demands.specs.Cell.{Bytes}
use Rattle.loader.specs.Apply.{file_change, updated_by}
use Rattle.demands.specs.Update.{Allowed}
use Rattle.demands.proofs.FileLaws.{change_good}

-- ---- `updated_good`
pub updated_good : (c : Chart) (file : List ℕ) → Bytes file → GoodChart c → Allowed c file → Good (updated_by c file)
updated_good c file bytes g a =
    let v = change_good file bytes a.reads in
    let e = acceptable_tested a.rules in
    record { values = good.updated_good g v e; sound = a.result; limits = a.limits }

-- ---- `updated_once`
pub record Once (c : Chart) (file : List ℕ) : Type 0 where
  pub name : chart_name (updated_by c file).header.dsid ≡ chart_name c.header.dsid
  pub edition : (updated_by c file).header.dsid.edition ≡ c.header.dsid.edition
  pub number : (updated_by c file).header.dsid.number ≡ (file_change file).dsid.number
  pub next : (updated_by c file).header.dsid.number ≡ c.header.dsid.number + 1
  pub not_again : follow_code (updated_by c file).header (file_change file) ≡ 11

pub updated_once : (c : Chart) (file : List ℕ) → Allowed c file → Once c file
unfolding chart_name
updated_once c file a =
    let u = file_change file in
    let h = follow.updated_once c u in
    let e = follows_tested a.rules.header in
    record { name = rw h.name; edition = h.edition; number = h.number; next = follow.updated_next c u e; not_again = follow.followed_once c u e }

-- ---- `named_done`, `unnamed_kept`
pub named_done : (c : Chart) (file : List ℕ) → Bytes file → Allowed c file → All (Done c.items (updated_by c file).items) (file_change file).amendments
named_done c file bytes a = kept.named_done c (change_good file bytes a.reads) (acceptable_tested a.rules)

-- the objects that no record of the file names, in their order; there is nothing else that none names
pub unnamed_kept : (c : Chart) (file : List ℕ)
    → unnamed by_amendment (file_change file).amendments (updated_by c file).items ≡ unnamed by_amendment (file_change file).amendments c.items
unnamed_kept c file = kept.unnamed_kept c (file_change file)

-- what is held under a name that no record of the file has
all_differ : (n : ℕ) {us : List Amendment} → All (λ (a : Amendment). n ≡ item_name a.object → ⊥) us → Differs (λ (a : Amendment). item_name a.object) n us
all_differ n all_none = diff_none
all_differ n (all_more h rest) = diff_more h (all_differ n rest)

pub other_kept : (c : Chart) (file : List ℕ) (n : ℕ) → All (λ (a : Amendment). n ≡ item_name a.object → ⊥) (file_change file).amendments
    → held_by (updated_by c file).items n ≡ held_by c.items n
other_kept c file n others = kept.other_kept c (file_change file) n (all_differ n others)
