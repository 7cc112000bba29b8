use Rattle.std.proofs.Common.{◌<◌, length, sym, ap, ◌∙◌, arith}
use Rattle.flame_pieces.specs.KeptWorks.{part_of}
use Rattle.flame_pieces.specs.declared.works.Output.{Output}
use Rattle.flame_pieces.proofs.Rooms.{map_kept, room_for, rooms_more}
use Rattle.flame_pieces.proofs.works.make_rooms.Goals as goal

pub returns-in_err-make_room-clause-parts : goal.returns-in_err-make_room-clause-parts
returns-in_err-make_room-clause-parts c =
    let outputs = c.loop-i.outputs in
    let i = c.loop-i.i in
    let within : i < length outputs = omega (arith, c.loop-i-test.true, c.loop-i.auto.outputs, c.loop-i.auto.i-end) in
    map_kept part_of outputs i c.index-outputs-i.result c.make_room.new.self within c.index-outputs-i.is
    (c.make_room.ensures.part ∙ ap part_of (sym c.index-outputs-i.is))
    ∙ c.loop-i.invariant.parts

pub returns-in_err-make_room-clause-messages : goal.returns-in_err-make_room-clause-messages
returns-in_err-make_room-clause-messages c =
    let outputs = c.loop-i.outputs in
    let i = c.loop-i.i in
    let within : i < length outputs = omega (arith, c.loop-i-test.true, c.loop-i.auto.outputs, c.loop-i.auto.i-end) in
    map_kept (λ (o : Output). o.message) outputs i c.index-outputs-i.result c.make_room.new.self within c.index-outputs-i.is
    (c.make_room.ensures.message ∙ ap (λ (o : Output). o.message) (sym c.index-outputs-i.is))
    ∙ c.loop-i.invariant.messages

pub loop-i-preserved : goal.loop-i-preserved
loop-i-preserved c =
    let outputs = c.loop-i.outputs in
    let i = c.loop-i.i in
    let within : i < length outputs = omega (arith, c.loop-i-test.true, c.loop-i.auto.outputs, c.loop-i.auto.i-end) in
    let beside : i < length c.args.parts.now = omega (arith, within, c.loop-i.auto.outputs, c.requires) in
    record {
      parts =
          map_kept part_of outputs i c.index-outputs-i.result c.make_room.new.self within c.index-outputs-i.is
          (c.make_room.ensures.part ∙ ap part_of (sym c.index-outputs-i.is))
          ∙ c.loop-i.invariant.parts;
      messages =
          map_kept (λ (o : Output). o.message) outputs i c.index-outputs-i.result c.make_room.new.self within c.index-outputs-i.is
          (c.make_room.ensures.message ∙ ap (λ (o : Output). o.message) (sym c.index-outputs-i.is))
          ∙ c.loop-i.invariant.messages;
      rooms =
          rooms_more c.args.parts.now outputs i c.index-parts-i.result c.make_room.new.self beside within c.index-parts-i.is
          c.loop-i.invariant.rooms (room_for c.index-parts-i.result c.len.result c.make_room.new.self c.len.ensures c.in_ok-make_room.ensures.room);
    }
