-- The number in the verdict is at most that of the bytes, so that twice it fits.
use Rattle.std.proofs.Common.{◌≤◌, arith, length, rules}
use Rattle.probe.proofs.VerdictLaws.{even_few, even, odd_few, odd}
use Rattle.probe.proofs.probe_frame.Goals as goal

pub overflow_mul-result : goal.overflow_mul-result
overflow_mul-result c = let few : c.in-Ok.n ≤ length c.args.file.now = search (rules, even_few) in omega arith

pub overflow_mul-result-in-Err : goal.overflow_mul-result-in-Err
overflow_mul-result-in-Err c = let few : c.in-Err.k ≤ length c.args.file.now = search (rules, odd_few) in omega arith

pub overflow_add-result : goal.overflow_add-result
overflow_add-result c = let few : c.in-Err.k ≤ length c.args.file.now = search (rules, odd_few) in omega arith

pub returns-in-Ok : goal.returns-in-Ok
returns-in-Ok c = search (rules, even)

pub returns-in-Err : goal.returns-in-Err
returns-in-Err c = search (rules, odd)
