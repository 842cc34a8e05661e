-- A chart that may be held, as proofs pass it on: the statements about the calls don't speak of it, so nothing here need be believed. Assumes nothing.
use Rattle.held.specs.Chart.{Chart}
use Rattle.held.specs.Good.{GoodChart}
use Rattle.held.specs.Limits.{Fits}
use Rattle.demands.specs.Sound.{Sound}

-- its values are good, its topology holds, and it keeps the limits
pub record Good (c : Chart) : Type 0 where
  pub values : GoodChart c
  pub sound : Sound c
  pub limits : Fits c
