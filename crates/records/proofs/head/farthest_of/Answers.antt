use Rattle.std.proofs.Common.{take, rules}
use Rattle.std.proofs.lemmas.Iterator.{YieldsList-from_slice, YieldsList-from_map}
use Rattle.std.proofs.lemmas.Iterator.Consumers.{YieldsList-at, max_from_yields_List}
use Rattle.iso8211.specs.Directory.{position}
use Rattle.records.proofs.HeadLaws.{farthest_by}
use Rattle.records.proofs.head.farthest_of.Goals as goal

pub returns : goal.returns
returns c =
    farthest_by _ c.max.result _
    (max_from_yields_List c.map.result c.max.result c.max.ensures.ran
    (YieldsList-from_map _ position (YieldsList-at c.map.ensures.source (YieldsList-from_slice (take c.args.n c.args.rows) c.iter.ensures.rest)) c.map.ensures.closure
    (λ x r q k. search rules)))
    c.unwrap_or.ensures
