-- The sizes of the parts are those of the records of the result.
use Rattle.renewal.proofs.ResultLaws.{result_told}
use Rattle.std.proofs.Common.{rules}
use Rattle.renewal.proofs.write.planned.Goals as goal

pub returns : goal.returns
returns c = record {
  planned = search (rules, result_told);
  told = search rules;
  rooms = search rules;
}
