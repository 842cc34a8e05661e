-- The record whole, and the number over the one that stood there. The bytes that are lent are below 256.
use Rattle.std.proofs.Common.{ℕ, ◌<◌, arith, rules}
use Rattle.octets.specs.Number.{byte_at}
use Rattle.asheld.proofs.FrontLaws.{size_sure, same_end, same_put}
use Rattle.iso8211.proofs.DirectoryLaws.{base_sure}
use Rattle.asheld.proofs.write.put_same.Goals as goal

pub sure_digits-size-requires : goal.sure_digits-size-requires
sure_digits-size-requires c = search (rules, size_sure)

pub sure_digits-base-requires : goal.sure_digits-base-requires
sure_digits-base-requires c = search (rules, base_sure)

pub slice_bounds-copy-end : goal.slice_bounds-copy-end
slice_bounds-copy-end c = search (rules, same_end)

pub returns : goal.returns
returns c =
    let small : (i : ℕ) → byte_at c.args.s.now i < 256 = λ i. omega (arith, c.type_inv.s i) in
    search (rules, same_put)
