use Rattle.std.proofs.Common.{ℕ, ◌<◌, ◌≡◌, length, get_or, arith, rules, length-append}
use Rattle.std.proofs.lemmas.Slice.Zip.{zip_turn, zip_end}
use Rattle.itemrows.proofs.RowLaws.{listing_start, listing_on, listing_end}
use Rattle.itemrows.proofs.rows.list_rows.Goals as goal
use Rattle.itemrows.proofs.rows.list_rows.Goals.{In-Some}

-- the tag and the total of this turn
turn : (c : In-Some) → (length c.loop-tag.yielded < length c.args.tags) × (length c.loop-tag.yielded < length c.args.totals)
    × ((d : ℕ) → c.in-Some.tag.now ≡ get_or c.args.tags (length c.loop-tag.yielded) d) × ((d : ℕ) → c.in-Some.t.now ≡ get_or c.args.totals (length c.loop-tag.yielded) d)
turn c =
    let from = c.into_iter-tag-iterator.ensures.into_iter_gives in
    let first : c.into_iter-tag-iterator.result.a.rest.now ≡ c.args.tags = rw (from, c.zip-tag-items.ensures.first) c.iter.ensures.rest in
    let second : c.into_iter-tag-iterator.result.b.rest.now ≡ c.args.totals = rw from c.zip-tag-items.ensures.second.0 in
    zip_turn _ _ c.loop-tag.yielded c.into_iter-tag-iterator.result c.loop-tag.tag-iterator c.next.new.self c.next.result
    first second c.loop-tag.yielded_by _ c.in-Some.is c.next.ensures.steps

pub loop-tag-init : goal.loop-tag-init
loop-tag-init c = search (rules, listing_start)

pub with_list-next-requires : goal.with_list-next-requires
with_list-next-requires c =
    let t = turn (goal.at.with_list-next-requires c).In-Some in
    let few = c.loop-tag.invariant.few in
    (omega arith, rw (t.3 0) (c.requires.1.1.each _))

pub bytes_for-d-requires : goal.bytes_for-d-requires
bytes_for-d-requires c = let t = turn (goal.at.bytes_for-d-requires c).In-Some in rw (t.3 0) (c.requires.1.1.each _)

pub loop-tag-preserved : goal.loop-tag-preserved
loop-tag-preserved c =
    let t = turn (goal.at.loop-tag-preserved c).In-Some in
    rw length-append (listing_on c.loop-tag.invariant (omega arith) (omega arith) _ _ (omega arith) (rw (← t.2 0, ← t.3 0) c.with_list-next.ensures)
    (rw (← t.3 0) c.fields_of-m.ensures) (rw (← t.3 0) c.bytes_for-d.ensures))

pub returns : goal.returns
returns c =
    let from = c.into_iter-tag-iterator.ensures.into_iter_gives in
    let first : c.into_iter-tag-iterator.result.a.rest.now ≡ c.args.tags = rw (from, c.zip-tag-items.ensures.first) c.iter.ensures.rest in
    let second : c.into_iter-tag-iterator.result.b.rest.now ≡ c.args.totals = rw from c.zip-tag-items.ensures.second.0 in
    let all = zip_end _ _ c.loop-tag.yielded c.into_iter-tag-iterator.result c.loop-tag.tag-iterator c.next.new.self c.next.result
    first second c.loop-tag.yielded_by c.in-None.is c.next.ensures.steps in
    listing_end c.loop-tag.invariant (omega arith) (omega arith) (omega arith)
