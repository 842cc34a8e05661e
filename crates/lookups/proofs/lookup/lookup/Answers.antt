-- The place is that of the word at the index.
use Rattle.std.proofs.Common.{arith, ◌<◌, rules}
use Rattle.lookups.proofs.LookupLaws.{place_none, place_less, place_here}
use Rattle.lookups.proofs.lookup.lookup.Goals as goal

pub returns-in_err-i : goal.returns-in_err-i
returns-in_err-i c = search (rules, place_none)

pub overflow_add-from : goal.overflow_add-from
overflow_add-from c = let less : c.in_ok-i.i < c.args.m = search (rules, place_less) in omega arith

pub get-requires : goal.get-requires
get-requires c = let less : c.in_ok-i.i < c.args.m = search (rules, place_less) in omega arith

pub returns : goal.returns
returns c = search (rules, place_here)
