-- By the digits and the seven bytes. Those that are lent are below 256.
use Rattle.std.proofs.Common.{ℕ, ◌<◌, arith, rules}
use Rattle.octets.specs.Number.{byte_at}
use Rattle.asheld.proofs.FrontLaws.{lead_no, lead_by}
use Rattle.asheld.proofs.front.is_lead.Goals as goal

pub returns-then-get_digits-size : goal.returns-then-get_digits-size
returns-then-get_digits-size c = search (rules, lead_no)

pub returns-then-get4-ne-D_SPACED : goal.returns-then-get4-ne-D_SPACED
returns-then-get4-ne-D_SPACED c = search (rules, lead_no)

pub returns-then-get2-ne-TWO_SPACES : goal.returns-then-get2-ne-TWO_SPACES
returns-then-get2-ne-TWO_SPACES c = search (rules, lead_no)

pub returns : goal.returns
returns c =
    let small : (i : ℕ) → byte_at c.args.s.now i < 256 = λ i. omega (arith, c.type_inv.s i) in
    search (rules, lead_by)
