use Rattle.std.proofs.Common.{◌≡◌, ◌≤◌, length, ap, arith}
use Rattle.sk_dict.specs.Blocks.{in_block}
use Rattle.sk_dict.proofs.BlockLemmas.{read_block, room_below, room_above, room_same}
use Rattle.sk_dict.proofs.order.make_room.Goals as goal

-- a offset of the lower half
pub returns-then-place-le-HALF-clause-ok : goal.returns-then-place-le-HALF-clause-ok
returns-then-place-le-HALF-clause-ok c =
    let block : c.index.result.now ≡ in_block c.args.blocks.now.items c.args.place.block = read_block c.args.blocks.now.items c.args.place.block _ c.requires.there c.index.ensures in
    let full : 512 ≤ length (in_block c.args.blocks.now.items c.args.place.block) = omega (arith, ap length c.numbers.ensures.value, ap length block) in
    room_below c.args.blocks.now.items c.cut.new.blocks.items c.args.place.block c.args.place.offset 256 c.requires.there c.in_ok-cut.ensures.ok (omega arith) (omega arith) (omega arith)

pub returns-then-place-le-HALF-clause-same : goal.returns-then-place-le-HALF-clause-same
returns-then-place-le-HALF-clause-same c =
    let block : c.index.result.now ≡ in_block c.args.blocks.now.items c.args.place.block = read_block c.args.blocks.now.items c.args.place.block _ c.requires.there c.index.ensures in
    let full : 512 ≤ length (in_block c.args.blocks.now.items c.args.place.block) = omega (arith, ap length c.numbers.ensures.value, ap length block) in
    room_same c.args.blocks.now.items c.cut.new.blocks.items c.args.place.block c.args.place.offset _ _ c.requires.there
    (room_below c.args.blocks.now.items c.cut.new.blocks.items c.args.place.block c.args.place.offset 256 c.requires.there c.in_ok-cut.ensures.ok (omega arith) (omega arith) (omega arith))

-- a offset of the upper half
pub returns-clause-ok : goal.returns-clause-ok
returns-clause-ok c =
    let block : c.index.result.now ≡ in_block c.args.blocks.now.items c.args.place.block = read_block c.args.blocks.now.items c.args.place.block _ c.requires.there c.index.ensures in
    let bounded : length (in_block c.args.blocks.now.items c.args.place.block) ≤ 512 = omega (arith, c.numbers.ensures.sized.bounded, ap length block) in
    room_above c.args.blocks.now.items c.cut.new.blocks.items c.args.place.block c.args.place.offset 256 c.requires.there c.in_ok-cut.ensures.ok (omega arith) c.requires.within bounded (omega arith)

pub returns-clause-same : goal.returns-clause-same
returns-clause-same c =
    let block : c.index.result.now ≡ in_block c.args.blocks.now.items c.args.place.block = read_block c.args.blocks.now.items c.args.place.block _ c.requires.there c.index.ensures in
    let bounded : length (in_block c.args.blocks.now.items c.args.place.block) ≤ 512 = omega (arith, c.numbers.ensures.sized.bounded, ap length block) in
    room_same c.args.blocks.now.items c.cut.new.blocks.items c.args.place.block c.args.place.offset _ _ c.requires.there
    (room_above c.args.blocks.now.items c.cut.new.blocks.items c.args.place.block c.args.place.offset 256 c.requires.there c.in_ok-cut.ensures.ok (omega arith) c.requires.within bounded (omega arith))
