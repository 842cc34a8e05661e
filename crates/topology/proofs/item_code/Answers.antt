-- An item without fault has no code; of any other the rules tell it.
use Rattle.topology.proofs.QuickLaws.{quick_code}
use Rattle.std.proofs.Common.{rules}
use Rattle.topology.proofs.item_code.Goals as goal

pub returns-then-is_faultless : goal.returns-then-is_faultless
returns-then-is_faultless c = search (rules, quick_code)
