-- The place is below the file's limit, so the sum fits.
use Rattle.items.proofs.IdentityLaws.{word_read}
use Rattle.std.proofs.Common.{rules}
use Rattle.readonce.proofs.record.word_at.Goals as goal

pub returns : goal.returns
returns c = search (rules, word_read)
