use Rattle.std.proofs.Common.{◌<◌, ◌∙◌, arith, rules}
use borrow.Author.Tests.{tests}
use Rattle.std.proofs.lemmas.Iterator.Search.{all_from_yields_List}
use Rattle.std.specs.Slice.Iter.{chunks_exact_steps}
use Rattle.vectorshape.specs.Shape.{pair_good}
use Rattle.vectorshape.proofs.ChunkLaws.{all_listed, chunks_yield}
use Rattle.vectorshape.proofs.coordinate.part_pairs.Goals as goal

pub returns : goal.returns
returns c =
    let some : 0 < c.args.size = omega arith in
    all_from_yields_List {steps = chunks_exact_steps} {v = λ x. x.now} {s = c.chunks_exact.result} (pair_good c.args.comf) c.all.new.self _ _ c.all.ensures.ran
    (chunks_yield c.args.size some c.chunks_exact.result c.args.part.now c.chunks_exact.ensures.size c.chunks_exact.ensures.rest)
    (λ x b q k. search (rules, tests))
    ∙ all_listed (pair_good c.args.comf) _
