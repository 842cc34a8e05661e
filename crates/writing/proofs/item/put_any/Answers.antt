-- A record that stands as in held form has the rows of its own directory and the fields that it has. The bytes that are lent are below 256.
use Rattle.std.proofs.Common.{ℕ, ◌<◌, arith, rules}
use Rattle.octets.specs.Number.{byte_at}
use Rattle.writing.proofs.PlainLaws.{plain_few, plain_ended, plain_least, plain_from, plain_head, plain_room, plain_put}
use Rattle.writing.proofs.item.put_any.Goals as goal

pub rows_of-rows-requires : goal.rows_of-rows-requires
rows_of-rows-requires c = search (rules, plain_few)

pub body_of-body-requires : goal.body_of-body-requires
body_of-body-requires c = search (rules, plain_ended)

pub put_head-a-requires : goal.put_head-a-requires
put_head-a-requires c =
    let small : (i : ℕ) → byte_at c.args.s.now i < 256 = λ i. omega (arith, c.type_inv.s i) in
    (search (rules, plain_few), (omega arith, search (rules, plain_head)))

pub overflow_sub-body : goal.overflow_sub-body
overflow_sub-body c = search (rules, plain_least)

pub put_lead-requires : goal.put_lead-requires
put_lead-requires c =
    let small : (i : ℕ) → byte_at c.args.s.now i < 256 = λ i. omega (arith, c.type_inv.s i) in
    (search (rules, plain_from), search (rules, plain_room))

pub returns : goal.returns
returns c =
    let small : (i : ℕ) → byte_at c.args.s.now i < 256 = λ i. omega (arith, c.type_inv.s i) in
    search (rules, plain_put)
