-- One law for each way out.
use Rattle.iso8211.proofs.DirectoryLaws.{place_bad, short_bad, long_bad, end_bad, row_good}
use Rattle.std.proofs.Common.{rules}
use Rattle.iso8211.proofs.directory.field_step.Goals as goal

pub returns-then-position-due : goal.returns-then-position-due
returns-then-position-due c = search (rules, place_bad)

pub returns-then-long-lt1 : goal.returns-then-long-lt1
returns-then-long-lt1 c = search (rules, short_bad)

pub returns-then-size-due : goal.returns-then-size-due
returns-then-size-due c = search (rules, long_bad)

pub returns-then-s-body-ne30 : goal.returns-then-s-body-ne30
returns-then-s-body-ne30 c = search (rules, end_bad)

pub returns : goal.returns
returns c = search (rules, row_good)
