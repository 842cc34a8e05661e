use Rattle.std.proofs.Common.{rules}
use Rattle.attributes.proofs.FfptLaws.{walked_start, walked_end, walked_rind, walked_comment, walked_on, pointer_within}
use Rattle.attributes.proofs.PartLaws.{pointer_long}
use Rattle.attributes.proofs.ffpt_fault.Goals as goal

pub loop-at-init : goal.loop-at-init
loop-at-init c = (search rules, search (rules, walked_start))

pub returns-then-n-eq0 : goal.returns-then-n-eq0
returns-then-n-eq0 c = (search (rules, walked_end), search rules)

pub rind_good-requires : goal.rind_good-requires
rind_good-requires c = (search (rules, pointer_long), search rules)

pub returns-then-not-rind_good : goal.returns-then-not-rind_good
returns-then-not-rind_good c = (search (rules, walked_rind), search (rules, pointer_within))

pub comment_good-requires : goal.comment_good-requires
comment_good-requires c = (search (rules, pointer_long), search rules)

pub returns-then-not-comment_good : goal.returns-then-not-comment_good
returns-then-not-comment_good c = (
  walked_comment c.loop-at.invariant.1 _ c.entry_len_at-n.ensures.0 c.if-n-eq0.false
      c.entry_len_at-n.ensures.1 _ c.rind_good.ensures c.if-not-rind_good.false-raw _ c.comment_good.ensures c.if-not-comment_good.true-raw,
  search (rules, pointer_within),
)

pub loop-at-preserved : goal.loop-at-preserved
loop-at-preserved c = (
  search rules,
  walked_on c.loop-at.invariant.1 _ c.entry_len_at-n.ensures.0 c.if-n-eq0.false
      c.entry_len_at-n.ensures.1 _ c.rind_good.ensures c.if-not-rind_good.false-raw _ c.comment_good.ensures c.if-not-comment_good.false-raw,
)
