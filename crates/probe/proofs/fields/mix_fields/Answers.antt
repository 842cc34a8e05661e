use Rattle.std.proofs.Common.{◌+◌, ◌≤◌, arith, length, rules}
use Rattle.probe.proofs.WalkLaws.{field_ends}
use Rattle.probe.proofs.fields.mix_fields.Goals as goal

pub mix_field-so-requires : goal.mix_field-so-requires
mix_field-so-requires c = (
  search rules,
  let ends : c.field-field.result.start + c.field-field.result.length ≤ length c.args.file.now =
      search (rules, field_ends) in omega arith,
)
