-- The sum stays below 2 ^ 32; a field ends within the file, so that its numbers fit.
use Rattle.std.proofs.Common.{◌<◌}
use Rattle.probe.proofs.fields.mix_fields.Given as goal

abbrev pub invariant-loop-k : goal.invariant-loop-k
invariant-loop-k l = l.so < 4294967296
