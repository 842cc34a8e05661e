-- By the three bytes. Those that are lent are below 256.
use Rattle.std.proofs.Common.{ℕ, ◌<◌, arith, rules}
use Rattle.octets.specs.Number.{byte_at}
use Rattle.asheld.proofs.FrontLaws.{back_no, back_by}
use Rattle.asheld.proofs.front.is_back.Goals as goal

pub returns-then-get2-ne-TWO_SPACES : goal.returns-then-get2-ne-TWO_SPACES
returns-then-get2-ne-TWO_SPACES c = search (rules, back_no)

pub returns : goal.returns
returns c =
    let small : (i : ℕ) → byte_at c.args.s.now i < 256 = λ i. omega (arith, c.type_inv.s i) in
    search (rules, back_by)
