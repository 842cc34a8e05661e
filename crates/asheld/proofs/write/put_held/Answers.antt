-- The number goes over the one that stood there. The bytes that are lent are below 256.
use Rattle.std.proofs.Common.{ℕ, ◌<◌, arith, rules}
use Rattle.octets.specs.Number.{byte_at}
use Rattle.asheld.proofs.WriteLaws.{held_fits, held_put}
use Rattle.asheld.proofs.write.put_held.Goals as goal

pub put_whole-end-requires : goal.put_whole-end-requires
put_whole-end-requires c = (search rules, (search (rules, held_fits), search rules))

pub returns : goal.returns
returns c =
    let small : (i : ℕ) → byte_at c.args.s.now i < 256 = λ i. omega (arith, c.type_inv.s i) in
    search (rules, held_put)
