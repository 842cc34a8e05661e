-- The headers first: 9 to 12 at record 1 of the update, then its records. Assumes nothing.
use Rattle.resultstages.proofs.MergeLaws.{changed_refused, changed_on, refused_kept, amending}
use Rattle.loader.proofs.AdmitLaws.{area_kept}
use Rattle.resultstages.proofs.FrontLaws.{cell_headed, update_headed}
use Rattle.amending.proofs.changed.Goals as goal

pub follow_code-code-requires : goal.follow_code-code-requires
follow_code-code-requires c = (cell_headed c.requires, update_headed c.requires)

pub header_at-requires : goal.header_at-requires
header_at-requires c = update_headed c.requires

pub returns-then-code-ne0 : goal.returns-then-code-ne0
returns-then-code-ne0 c = record {
  value = changed_refused _ _ _ _ _ _ (c.follow_code-code.ensures _) _ _ _ c.if-code-ne0.true
      c.header_at.ensures.0 c.refuse.ensures c.of_refusal.ensures;
  out_after = area_kept _ _ _ (refused_kept _ _ _ _ _ c.if-code-ne0.true c.refuse.ensures c.of_refusal.ensures);
}

pub amended_apart-requires : goal.amended_apart-requires
amended_apart-requires c = amending _ c.requires (c.follow_code-code.ensures _)
    c.if-code-ne0.false

pub returns : goal.returns
returns c = record {
  value = changed_on _ _ _ _ _ _ (c.follow_code-code.ensures _)
      _ c.if-code-ne0.false c.amended_apart.ensures.value;
  out_after = c.amended_apart.ensures.out_after;
}
