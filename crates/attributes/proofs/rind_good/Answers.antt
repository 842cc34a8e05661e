-- The byte at the entry's place and 8 is the entry's RIND.
use Rattle.std.proofs.Common.{◌∙◌, refl}
use borrow.Author.Tests.{lt-leb}
use Rattle.attributes.proofs.FfptLaws.{rind_low, rind_rest}
use Rattle.attributes.proofs.rind_good.Goals as goal

pub returns-then-rind-ge2 : goal.returns-then-rind-ge2
returns-then-rind-ge2 c = rind_rest c.args.c.now c.args.at _ c.requires.0 _ refl c.if-rind-ge2.true

pub returns-else-rind-ge2 : goal.returns-else-rind-ge2
returns-else-rind-ge2 c = lt-leb _ _ c.if-rind-ge2.false ∙ rind_low c.args.c.now c.args.at _ c.requires.0 _ refl c.if-rind-ge2.false
