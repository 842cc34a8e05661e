-- Each return is one of the definition's tests; the last is the answer of the walk over the directory.
use Rattle.std.proofs.Common.{arith, ◌-◌, ◌+◌, div-mul-le_self}
use Rattle.octets.proofs.Tests.{tests}
use Rattle.iso8211.specs.Record.{body_good}
use Rattle.iso8211.proofs.record.body_good.Goals as goal

pub returns-then-size-gt99999 : goal.returns-then-size-gt99999
unfolding body_good
returns-then-size-gt99999 c = search tests

pub returns-then-s-at : goal.returns-then-s-at
unfolding body_good
returns-then-s-at c = search tests

pub returns-then-size-base : goal.returns-then-size-base
unfolding body_good
returns-then-size-base c = search tests

pub returns-then-base-w : goal.returns-then-base-w
unfolding body_good
returns-then-base-w c = search tests

pub returns-then-base-w-ne0 : goal.returns-then-base-w-ne0
unfolding body_good
returns-then-base-w-ne0 c = search tests

pub returns-then-s-at-ne30 : goal.returns-then-s-at-ne30
unfolding body_good
returns-then-s-at-ne30 c = search tests

pub fields_good-requires : goal.fields_good-requires
fields_good-requires c =
    omega (
      arith,
      div-mul-le_self (c.args.base - 25)
          (4 + c.args.l + c.args.p),
    )

pub returns : goal.returns
unfolding body_good
returns c = search tests
