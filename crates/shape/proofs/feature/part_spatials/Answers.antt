use borrow.Author.Tests.{tests}
use Rattle.std.proofs.Common.{◌∙◌, arith, rules}
use Rattle.std.proofs.lemmas.Iterator.Search.{all_from_yields_List}
use Rattle.std.specs.Slice.Iter.{chunks_exact_steps}
use Rattle.vectorshape.specs.Shape.{spatial_good}
use Rattle.vectorshape.proofs.ChunkLaws.{all_listed, chunks_yield}
use Rattle.shape.proofs.feature.part_spatials.Goals as goal

pub returns : goal.returns
returns c =
    all_from_yields_List {steps = chunks_exact_steps} {v = λ x. x.now} {s = c.chunks_exact.result} (spatial_good c.args.prim) c.all.new.self _ _ c.all.ensures.ran
    (chunks_yield 8 (omega arith) c.chunks_exact.result c.args.part.now c.chunks_exact.ensures.size c.chunks_exact.ensures.rest)
    (λ x b q k. search (rules, tests))
    ∙ all_listed (spatial_good c.args.prim) _
