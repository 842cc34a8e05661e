-- What was seen, told and lent. Assumes nothing.
use Rattle.show.proofs.SightLaws.{sight_in}
use Rattle.show.proofs.CallLaws.{show_part, show_area}
use Rattle.show.proofs.PlaceLaws.{show_place}
use Rattle.std.proofs.Common.{rules}
use Rattle.show.proofs.show.Goals as goal

pub sight_part-requires : goal.sight_part-requires
sight_part-requires c = search (rules, sight_in)

pub returns : goal.returns
returns c =
    let told = c.sight_answer.ensures in
    let put = c.put_answer.ensures in
    record {
      bytes = show_part _ _ _ _ _ _ c.seen-sight.ensures.value _ c.sight_part.ensures.result_value;
      area = show_area _ _ _ _ _ _ c.seen-sight.ensures.value _ _ _ told put;
      zero = c.seen-sight.ensures.work_after;
      place = show_place _ _ _ _ _ _ _ _ c.seen-sight.ensures.value _ c.sight_part.ensures.ref_ptr_value;
    }
