-- The word and the rest of the line, joined; a number of 32 bits has at most 10 digits.
use Rattle.std.proofs.Common.{◌<◌, ◌^◌, arith, rules}
use Rattle.listingrows.proofs.TextLaws.{refused_room, refused_wrote}
use Rattle.table.specs.Text.{bytes}
use Rattle.listingrows.proofs.text.put_refused.Goals as goal

pub put_tabbed-requires : goal.put_tabbed-requires
unfolding bytes
put_tabbed-requires c =
    let code_few : c.args.code < 10 ^ 10 = omega arith in
    let file-few : c.args.file < 10 ^ 10 = omega arith in
    let index_few : c.args.index < 10 ^ 10 = omega arith in
    search (rules, refused_room)

pub returns : goal.returns
unfolding bytes
returns c = search (rules, refused_wrote)
