-- The low half is written; the bytes are those of the number.
use Rattle.answers.proofs.SixteenLaws.{put_low}
use Rattle.std.proofs.Common.{rules}
use Rattle.answers.proofs.sixteen.put_low.Goals as goal

pub returns : goal.returns
returns c = search (rules, put_low)
