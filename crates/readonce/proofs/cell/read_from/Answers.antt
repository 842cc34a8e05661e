-- The pass, then the framing from where it came to.
use Rattle.std.proofs.Common.{sym, ◌∙◌, rules}
use Rattle.readonce.proofs.CellLaws.{told_front, told_along, passed_over}
use Rattle.readonce.proofs.cell.read_from.Goals as goal

pub read_rest-requires : goal.read_rest-requires
read_rest-requires c = (
  passed_over _ c.requires
      c.file_once-passed.ensures,
  sym c.opened_from.ensures ∙ (search rules),
)

pub returns-in_err-n : goal.returns-in_err-n
returns-in_err-n c = search (rules, told_front)

pub returns : goal.returns
returns c = told_along c.file_once-passed.auto.area
    c.read_rest.ensures
