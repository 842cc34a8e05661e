-- The record as it stands is that of its item. The bytes that are lent are below 256.
use Rattle.std.proofs.Common.{ℕ, ◌<◌, arith, rules}
use Rattle.octets.specs.Number.{byte_at}
use Rattle.writing.proofs.HeldLaws.{same_least, same_room, same_item}
use Rattle.writing.proofs.item.put_copy.Goals as goal

pub put_same-requires : goal.put_same-requires
put_same-requires c =
    let small : (i : ℕ) → byte_at c.args.s.now i < 256 = λ i. omega (arith, c.type_inv.s i) in
    (search rules, (search rules, (search (rules, same_least), search (rules, same_room))))

pub returns : goal.returns
returns c =
    let small : (i : ℕ) → byte_at c.args.s.now i < 256 = λ i. omega (arith, c.type_inv.s i) in
    search (rules, same_item)
