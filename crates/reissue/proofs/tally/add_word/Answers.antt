-- A word's rank is that of its record's class. Assumes nothing.
use Rattle.std.proofs.Common.{arith, rules}
use Rattle.reissue.proofs.TallyLaws.{word_feature, with_feature_lem, with_vector_lem}
use Rattle.reissue.proofs.tally.add_word.Goals as goal

pub objl_of-requires : goal.objl_of-requires
objl_of-requires c = (
  search rules,
  word_feature c.requires.1 (λ i. omega (arith, c.type_inv.s i))
      (search rules),
)

pub returns-then-rank-eq3 : goal.returns-then-rank-eq3
returns-then-rank-eq3 c = with_feature_lem c.requires.1 (λ i. omega (arith, c.type_inv.s i))
    _ _ _ (search rules) (search rules) c.add_feature.ensures

pub returns : goal.returns
returns c = with_vector_lem c.requires.1 (λ i. omega (arith, c.type_inv.s i)) _ _ _ (search rules)
    (search rules) c.add_vector.ensures
