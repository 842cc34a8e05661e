-- The words are collected, then sorted.
use Rattle.names.proofs.CollectLaws.{order_done}
use Rattle.std.proofs.Common.{rules}
use Rattle.names.proofs.order.order.Goals as goal

pub returns : goal.returns
returns c = search (rules, order_done)
