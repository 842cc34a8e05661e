-- What is rounded up is not above what is divided.
use Rattle.std.proofs.Common.{◌-◌, div-le_self, arith}
use Rattle.quickfeatures.proofs.lnams.lie_of.Goals as goal

pub overflow_add-step : goal.overflow_add-step
overflow_add-step c =
    let args = c.args in
    omega (arith, div-le_self (c.get-last.result - c.get-first.result - 1) (args.m - args.v))
