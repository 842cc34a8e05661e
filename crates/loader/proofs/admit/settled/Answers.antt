-- The refusal, or the held form.
use Rattle.std.proofs.Common.{arith, rules}
use Rattle.loader.proofs.AdmitLaws.{settled_ready, settled_filed, settled_held, settled_kept, settled_put}
use Rattle.loader.proofs.admit.settled.Goals as goal

pub returns-in-Err : goal.returns-in-Err
returns-in-Err c = record {
  value = search (rules, settled_filed);
  out_after = search (rules, settled_kept);
}

pub held_into-requires : goal.held_into-requires
held_into-requires c = settled_ready c.requires c.in_default.is
    (λ i. omega (arith, c.type_inv.cell i))

pub returns : goal.returns
returns c = record {
  value = search (rules, settled_held);
  out_after = search (rules, settled_put);
}
