-- By what is known of the record. The bytes that are lent are below 256.
use Rattle.std.proofs.Common.{ℕ, ◌<◌, arith, rules}
use Rattle.octets.specs.Number.{byte_at}
use Rattle.writing.proofs.HeldLaws.{known_any, known_held}
use Rattle.writing.proofs.item.known_size.Goals as goal

pub returns-then-size-eq0 : goal.returns-then-size-eq0
returns-then-size-eq0 c = search (rules, known_any)

pub returns : goal.returns
returns c =
    let small : (i : ℕ) → byte_at c.args.s.now i < 256 = λ i. omega (arith, c.type_inv.s i) in
    search (rules, known_held)
