-- Each way out is one test; the last is a field that is fine.
use Rattle.std.proofs.Common.{arith}
use Rattle.fieldfine.proofs.PlaceLaws.{identifier_fine}
use Rattle.fieldfine.proofs.single.vrid_field.Goals as goal

pub returns : goal.returns
returns c = identifier_fine _ c.if-c-ne-VRID.false c.if-marks-ne1.false
    c.if-prev-ne-FIRST.false c.if-stage-ne2.false (omega arith) c.vrid_good.ensures c.if-not-vrid_good.false-raw
