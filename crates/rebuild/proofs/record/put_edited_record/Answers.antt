use Rattle.std.proofs.Common.{rules, ℕ, ◌<◌, arith}
use Rattle.octets.specs.Number.{byte_at}
use Rattle.rebuild.proofs.RecordLaws.{feature_made, vector_made}
use Rattle.rebuild.proofs.PuttingLaws.{editable_old, editable_known, editable_feature, editable_low, lists_small}
use Rattle.rebuild.proofs.record.put_edited_record.Goals as goal

pub put_feature-requires : goal.put_feature-requires
put_feature-requires c = (
  search (rules, editable_old),
  search (rules, editable_known),
  search (rules, editable_feature),
  search (rules, editable_low),
  search
      (rules, lists_small),
  search rules,
)

pub returns-then-rcnm_of-eq100 : goal.returns-then-rcnm_of-eq100
returns-then-rcnm_of-eq100 c =
    let small : (i : ℕ) → byte_at c.args.cell.now i < 256 = λ i. omega (arith, c.type_inv.cell i) in
    (search (rules, feature_made), search rules)

pub put_vector-requires : goal.put_vector-requires
put_vector-requires c = (search (rules, editable_old), search (rules, editable_known), search (rules, editable_low), search (rules, lists_small), search rules)

pub returns : goal.returns
returns c =
    let small : (i : ℕ) → byte_at c.args.cell.now i < 256 = λ i. omega (arith, c.type_inv.cell i) in
    let lists = c.put_lists_by-totals.ensures.0 in
    let read = c.rcnm_of.ensures in
    let front = c.put_vector.ensures in
    (vector_made (search rules) small lists _ _ read (search rules) front, search rules)
