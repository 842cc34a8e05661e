-- Codes 4 to 6, then 7; without any of them the words are those that `repeated` left.
use Rattle.std.proofs.Common.{true, rules}
use Rattle.answers.proofs.OutcomeLaws.{none_of}
use Rattle.reader.proofs.ReaderLaws.{readable, update_read, update_twice, update_fine, come_words}
use Rattle.reader.proofs.fault.update_fault.Goals as goal

pub returns-in_err-read_fault-clause-value : goal.returns-in_err-read_fault-clause-value
returns-in_err-read_fault-clause-value c = search (rules, update_read)

pub repeated-requires : goal.repeated-requires
repeated-requires c = (
  readable true _ _ c.requires.framed c.requires.short (none_of _ c.read_fault.ensures c.in_ok-read_fault.was),
  c.requires.room,
)

pub returns-in-Some-clause-value : goal.returns-in-Some-clause-value
returns-in-Some-clause-value c =
    update_twice _ _ (none_of _ c.read_fault.ensures c.in_ok-read_fault.was) c.repeated.ensures.value _ c.in-Some.is c.refuse.ensures

pub returns-clause-value : goal.returns-clause-value
returns-clause-value c =
    update_fine _ _ (none_of _ c.read_fault.ensures c.in_ok-read_fault.was) c.repeated.ensures.value c.in_default.is

pub returns-clause-come_in : goal.returns-clause-come_in
returns-clause-come_in c = λ z. come_words c.repeated.ensures.update_after
