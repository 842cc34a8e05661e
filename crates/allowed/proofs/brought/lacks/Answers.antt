use borrow.Author.Tests.{tests}
use Rattle.std.proofs.Common.{refl, rules, true, arith}
use Rattle.std.proofs.lemmas.Iterator.{YieldsList-from_range, cases_from_all}
use Rattle.std.specs.Bool.{⊤}
use Rattle.allowed.specs.Brought.{SkipsTold}
use Rattle.allowed.proofs.BroughtLaws.{lacks_so}
use Rattle.allowed.proofs.brought.lacks.Goals as goal

pub returns : goal.returns
returns c =
    lacks_so _ _ _ _ _ c.args.r.now.head.count _ _ c.args.r.now.headed.count
    (cases_from_all _ _ _
    (λ f. SkipsTold c.args.r.now.file.now c.args.r.now.at f c.args.i true × SkipsTold c.args.r.now.file.now c.args.r.now.at f c.args.j true
    × SkipsTold c.args.r.now.file.now c.args.r.now.at f c.args.k true)
    (λ f. ⊤) c.all.ensures.ran
    (YieldsList-from_range 0 c.args.r.now.head.count c.args.r.now.head.count refl (omega arith))
    (λ x q k. search (rules, tests)) (λ x q k. search rules))
