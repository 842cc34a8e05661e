-- A record whose bytes are those of the held form is copied; any other goes by the general way. The bytes that are lent are below 256.
use Rattle.std.proofs.Common.{ℕ, ◌<◌, arith, rules}
use Rattle.octets.specs.Number.{byte_at}
use Rattle.writing.proofs.HeldLaws.{front_same, held_is, held_least, held_room, held_item}
use Rattle.writing.proofs.item.put_item.Goals as goal

pub put_copy-requires : goal.put_copy-requires
put_copy-requires c = (search rules, search (rules, front_same), search rules)

pub put_held-requires : goal.put_held-requires
put_held-requires c =
    let small : (i : ℕ) → byte_at c.args.s.now i < 256 = λ i. omega (arith, c.type_inv.s i) in
    (search rules, (search (rules, held_is), (search rules, (search (rules, held_least), search (rules, held_room)))))

pub returns : goal.returns
returns c =
    let small : (i : ℕ) → byte_at c.args.s.now i < 256 = λ i. omega (arith, c.type_inv.s i) in
    search (rules, held_item)
