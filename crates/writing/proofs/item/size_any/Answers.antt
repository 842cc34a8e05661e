-- A record that stands as in held form has the rows of its own directory and the fields that it has. The bytes that are lent are below 256.
use Rattle.std.proofs.Common.{ℕ, ◌<◌, arith, rules}
use Rattle.octets.specs.Number.{byte_at}
use Rattle.writing.proofs.PlainLaws.{plain_few, plain_ended, plain_sized}
use Rattle.writing.proofs.item.size_any.Goals as goal

pub rows_of-rows-requires : goal.rows_of-rows-requires
rows_of-rows-requires c = search (rules, plain_few)

pub base_of-requires : goal.base_of-requires
base_of-requires c = search (rules, plain_few)

pub body_of-requires : goal.body_of-requires
body_of-requires c = search (rules, plain_ended)

pub returns : goal.returns
returns c =
    let small : (i : ℕ) → byte_at c.args.s.now i < 256 = λ i. omega (arith, c.type_inv.s i) in
    search (rules, plain_sized)
