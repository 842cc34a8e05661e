-- Codes 4 to 6, then 7, then 8; without any of them the words are those that `repeated` left.
use Rattle.std.proofs.Common.{false, rules}
use Rattle.iso8211.proofs.Promise.{framed_at, at_start, last_ends}
use Rattle.answers.proofs.OutcomeLaws.{none_of}
use Rattle.reader.proofs.ReaderLaws.{readable, dssi_read, cell_read, cell_twice, cell_counts, cell_fine, held_words}
use Rattle.reader.proofs.fault.cell_fault_from.Goals as goal

pub returns-in_err-read_fault_from-clause-value : goal.returns-in_err-read_fault_from-clause-value
returns-in_err-read_fault_from-clause-value c = search (rules, cell_read)

pub repeated-requires : goal.repeated-requires
repeated-requires c = (
  readable false _ _ c.requires.0.framed c.requires.0.short (none_of _ c.read_fault_from.ensures c.in_ok-read_fault_from.was),
  c.requires.0.room,
)

pub returns-in-Some-clause-value : goal.returns-in-Some-clause-value
returns-in-Some-clause-value c =
    cell_twice _ _ (none_of _ c.read_fault_from.ensures c.in_ok-read_fault_from.was) c.repeated.ensures.value _ c.in-Some.is c.refuse.ensures

pub counts_good-requires : goal.counts_good-requires
counts_good-requires c =
    let none = none_of _ c.read_fault_from.ensures c.in_ok-read_fault_from.was in
    (readable false _ _ c.requires.0.framed c.requires.0.short none, dssi_read _ _ c.requires.0.framed none)

pub record_end-requires : goal.record_end-requires
record_end-requires c = framed_at _ _ 0 0 c.requires.0.framed (last_ends _ _ c.requires.0.framed).0 (at_start _)

pub returns-then-not-counts_good-clause-value : goal.returns-then-not-counts_good-clause-value
returns-then-not-counts_good-clause-value c =
    cell_counts _ _ (none_of _ c.read_fault_from.ensures c.in_ok-read_fault_from.was) c.repeated.ensures.value c.in_default.is
    _ c.counts_good.ensures _ _ c.if-not-counts_good.true-raw c.record_end.ensures.0 c.refuse-then-not-counts_good.ensures

pub returns-clause-value : goal.returns-clause-value
returns-clause-value c =
    cell_fine _ _ (none_of _ c.read_fault_from.ensures c.in_ok-read_fault_from.was) c.repeated.ensures.value c.in_default.is
    _ c.counts_good.ensures c.if-not-counts_good.false-raw

pub returns-clause-held_in : goal.returns-clause-held_in
returns-clause-held_in c = λ z. held_words c.repeated.ensures.update_after
