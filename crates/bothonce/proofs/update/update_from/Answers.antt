-- The part is lent, so that what stands before it stays.
use Rattle.bothonce.proofs.UpdateLaws.{placed_told, placed_front}
use Rattle.bothonce.proofs.update.update_from.Goals as goal

pub returns : goal.returns
returns c =
    record {
      placed_told = placed_told _ _ _ c.requires c.update_once.auto.area c.update_once.ensures;
      work_unchanged = placed_front _ c.update_once.new.area _
          c.requires c.update_once.auto.area;
    }
