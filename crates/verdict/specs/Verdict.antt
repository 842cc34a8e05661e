-- The verdict on a chart: codes 17 to 19 of a value, without a file. Assumes nothing.
use Rattle.octets.specs.Number.{num_at}
use Rattle.topology.specs.Topology.{topology_of}
use Rattle.held.specs.Chart.{Chart}
use Rattle.answers.specs.declared.refusal.Refusal.{Refusal}

-- COMF is the four bytes at 16 of DSPM
unfoldable pub chart_topology : Chart → Refusal
chart_topology c = topology_of (num_at c.header.dspm 16 4) c.items
