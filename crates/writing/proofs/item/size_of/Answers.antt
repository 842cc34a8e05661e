-- A record whose bytes are those of the held form is copied; any other goes by the general way. The bytes that are lent are below 256.
use Rattle.std.proofs.Common.{ℕ, ◌<◌, arith, rules}
use Rattle.octets.specs.Number.{byte_at}
use Rattle.writing.proofs.HeldLaws.{held_sized}
use Rattle.writing.proofs.item.size_of.Goals as goal

pub returns : goal.returns
returns c =
    let small : (i : ℕ) → byte_at c.args.s.now i < 256 = λ i. omega (arith, c.type_inv.s i) in
    search (rules, held_sized)
