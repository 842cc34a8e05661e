-- A feature or a vector, by RCNM: each has its identifier fields and its kinds of lists. The bytes that are lent are below 256.
use Rattle.std.proofs.Common.{ℕ, ◌<◌, arith, rules}
use Rattle.octets.specs.Number.{byte_at}
use Rattle.writing.proofs.CopyLaws.{feature_led, feature_tagged, feature_joined, vector_led, vector_tagged, vector_joined, item_room, item_put}
use Rattle.writing.proofs.joined.put_joined.Goals as goal

pub put_record-requires : goal.put_record-requires
put_record-requires c =
    let small : (i : ℕ) → byte_at c.args.s.now i < 256 = λ i. omega (arith, c.type_inv.s i) in
    (search rules, search (rules, feature_led), search (rules, feature_tagged), search (rules, item_room, feature_joined))

pub returns-then-rcnm_of-eq100 : goal.returns-then-rcnm_of-eq100
returns-then-rcnm_of-eq100 c =
    let small : (i : ℕ) → byte_at c.args.s.now i < 256 = λ i. omega (arith, c.type_inv.s i) in
    search (rules, item_put, feature_joined)

pub put_record-requires-2 : goal.put_record-requires-2
put_record-requires-2 c =
    let small : (i : ℕ) → byte_at c.args.s.now i < 256 = λ i. omega (arith, c.type_inv.s i) in
    (search rules, search (rules, vector_led), search (rules, vector_tagged), search (rules, item_room, vector_joined))

pub returns : goal.returns
returns c =
    let small : (i : ℕ) → byte_at c.args.s.now i < 256 = λ i. omega (arith, c.type_inv.s i) in
    search (rules, item_put, vector_joined)
