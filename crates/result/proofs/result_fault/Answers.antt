-- The words keep their places while the notes are written; by both the items are judged.
use Rattle.result.proofs.FaultLaws.{result_laid, result_places, result_clear, result_topology}
use Rattle.std.proofs.Common.{rules}
use Rattle.result.proofs.result_fault.Goals as goal

pub items_fault-requires : goal.items_fault-requires
items_fault-requires c = (search (rules, result_laid), search rules, search rules, search (rules, result_clear), search rules)

pub returns : goal.returns
returns c =
    let laid = c.requires.0 in
    let beside = c.prepare-ready.ensures.1 in record {
      value = result_topology laid beside
          c.prepare-ready.ensures.0 _ c.items_fault.ensures.0;
      edits_unchanged = result_places laid beside;
      rooms = search rules;
    }
