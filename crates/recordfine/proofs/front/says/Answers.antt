-- Each width is compared with the bytes that it has.
use Rattle.recordfine.proofs.FrontLaws.{says_not, says_two, says_one, says_three}
use Rattle.std.proofs.Common.{arith, rules}
use Rattle.recordfine.proofs.front.says.Goals as goal

pub returns-then-n-eq2 : goal.returns-then-n-eq2
returns-then-n-eq2 c = says_two (λ k. omega (arith, c.type_inv.s k)) (search rules) (search rules) (search rules)

pub returns-then-get1-ne48 : goal.returns-then-get1-ne48
returns-then-get1-ne48 c = says_not

pub returns-then-n-eq3 : goal.returns-then-n-eq3
returns-then-n-eq3 c = says_three (λ k. omega (arith, c.type_inv.s k)) (search rules)
    c.get1.ensures (search rules) (search rules) (search rules)

pub returns-then-n-ne1 : goal.returns-then-n-ne1
returns-then-n-ne1 c = says_not

pub returns-then-v-gt9 : goal.returns-then-v-gt9
returns-then-v-gt9 c = says_not

pub returns : goal.returns
returns c = search (rules, says_one)
