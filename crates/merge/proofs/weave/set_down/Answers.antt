-- Two words written.
use Rattle.merge.proofs.WeaveLaws.{set_down}
use Rattle.std.proofs.Common.{rules}
use Rattle.merge.proofs.weave.set_down.Goals as goal

pub returns : goal.returns
returns c = search (rules, set_down)
