use Rattle.std.proofs.Common.{ℕ, ◌<◌, ◌≡◌, length, get_or, arith, rules, length-append}
use Rattle.std.proofs.lemmas.Slice.Zip.{zip_turn, zip_end}
use Rattle.octets.proofs.AreaLaws.{going_start, going_length}
use Rattle.joining.proofs.PartLaws.{total_is, fields_room, fields_on, fields_end}
use Rattle.joining.proofs.lists.put_lists.Goals as goal
use Rattle.joining.proofs.lists.put_lists.Goals.{In-Some}

-- the kind and the total of this turn
turn : (c : In-Some) → (length c.loop-k.yielded < length c.args.kinds) × (length c.loop-k.yielded < length c.args.totals)
    × ((d : ℕ) → c.in-Some.k.now ≡ get_or c.args.kinds (length c.loop-k.yielded) d) × ((d : ℕ) → c.in-Some.t.now ≡ get_or c.args.totals (length c.loop-k.yielded) d)
turn c =
    let from = c.into_iter-k-iterator.ensures.into_iter_gives in
    let first : c.into_iter-k-iterator.result.a.rest.now ≡ c.args.kinds = rw (from, c.zip-k-items.ensures.first) c.iter.ensures.rest in
    let second : c.into_iter-k-iterator.result.b.rest.now ≡ c.args.totals = rw from c.zip-k-items.ensures.second.0 in
    zip_turn _ _ c.loop-k.yielded c.into_iter-k-iterator.result c.loop-k.k-iterator c.next.new.self c.next.result
    first second c.loop-k.yielded_by _ c.in-Some.is c.next.ensures.steps

pub loop-k-init : goal.loop-k-init
loop-k-init c = going_start _ _ _ (omega arith)

pub put_field-next-requires : goal.put_field-next-requires
put_field-next-requires c =
    let t = turn (goal.at.put_field-next-requires c).In-Some in
    let here : length c.loop-k.yielded < 4 = omega arith in
    let room = fields_room _ _ _ here (omega arith) c.loop-k.invariant c.requires.2 in
    let total = total_is c.requires.1 _ here in
    (search rules, rw (t.2 0, t.3 0) total, rw (t.2 0) room)

pub loop-k-preserved : goal.loop-k-preserved
loop-k-preserved c =
    let t = turn (goal.at.loop-k-preserved c).In-Some in
    let here : length c.loop-k.yielded < 4 = omega arith in
    rw length-append (fields_on c.args.kinds _ _ here (omega arith) c.loop-k.invariant (rw (← t.2 0) c.put_field-next.ensures))

pub shape_of-out : goal.shape_of-out
shape_of-out c = search (rules, going_length)

pub returns : goal.returns
returns c =
    let from = c.into_iter-k-iterator.ensures.into_iter_gives in
    let first : c.into_iter-k-iterator.result.a.rest.now ≡ c.args.kinds = rw (from, c.zip-k-items.ensures.first) c.iter.ensures.rest in
    let second : c.into_iter-k-iterator.result.b.rest.now ≡ c.args.totals = rw from c.zip-k-items.ensures.second.0 in
    let all = zip_end _ _ c.loop-k.yielded c.into_iter-k-iterator.result c.loop-k.k-iterator c.next.new.self c.next.result
    first second c.loop-k.yielded_by c.in-None.is c.next.ensures.steps in
    fields_end c.args.kinds _ (length c.loop-k.yielded) c.loop-k.invariant (omega arith) (omega arith)
