use Rattle.octets.proofs.Tests.{tests}
use Rattle.fieldvalue.specs.Value.{is_attributes}
use Rattle.amend.proofs.lists.is_attributes.Goals as goal
use Rattle.amend.proofs.lists.is_attributes.Goals.{then-k-eq-ATTV, else-k-eq-ATTV}

pub returns-then-k-eq-ATTF : goal.returns-then-k-eq-ATTF
unfolding is_attributes
returns-then-k-eq-ATTF c = elim c.if-k-eq-ATTV.branch [ then-k-eq-ATTV w ↦ search tests | else-k-eq-ATTV w ↦ search tests ]

pub returns-else-k-eq-ATTF : goal.returns-else-k-eq-ATTF
unfolding is_attributes
returns-else-k-eq-ATTF c = search tests
