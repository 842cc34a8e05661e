-- A class of its own, then the look-up. Assumes nothing.
use Rattle.shownames.proofs.NamedLaws.{place_other, place_looked}
use Rattle.std.proofs.Common.{rules}
use Rattle.shownames.proofs.named.place_named.Goals as goal

pub returns-then-not-is_class : goal.returns-then-not-is_class
returns-then-not-is_class c = search (rules, place_other)

pub returns : goal.returns
returns c = search (rules, place_looked)
