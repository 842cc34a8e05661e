-- A feature or a vector, by RCNM: each has its identifier fields and its kinds of lists. The bytes that are lent are below 256.
use Rattle.std.proofs.Common.{ℕ, ◌<◌, arith, rules}
use Rattle.octets.specs.Number.{byte_at}
use Rattle.writing.proofs.CopyLaws.{feature_led, feature_tagged, feature_joined, vector_led, vector_tagged, vector_joined, item_sized}
use Rattle.writing.proofs.joined.size_joined.Goals as goal

pub size_record-requires : goal.size_record-requires
size_record-requires c = (search rules, search (rules, feature_led), search (rules, feature_tagged))

pub returns-then-rcnm_of-eq100 : goal.returns-then-rcnm_of-eq100
returns-then-rcnm_of-eq100 c =
    let small : (i : ℕ) → byte_at c.args.s.now i < 256 = λ i. omega (arith, c.type_inv.s i) in
    search (rules, item_sized, feature_joined)

pub size_record-requires-2 : goal.size_record-requires-2
size_record-requires-2 c = (search rules, search (rules, vector_led), search (rules, vector_tagged))

pub returns : goal.returns
returns c =
    let small : (i : ℕ) → byte_at c.args.s.now i < 256 = λ i. omega (arith, c.type_inv.s i) in
    search (rules, item_sized, vector_joined)
