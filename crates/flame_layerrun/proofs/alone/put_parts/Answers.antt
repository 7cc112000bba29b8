use Rattle.std.proofs.Common.{◌≡◌, ◌+◌, ◌<◌, ◌∙◌, [], List, ap, arith, length, refl, sym}
use Rattle.std.proofs.lemmas.List.{nil_from_length}
use Rattle.std.proofs.lemmas.List.Elements.{All-head, All-rest, All-same}
use Rattle.flame_world.specs.declared.pieces.Part.{Part}
use Rattle.flame_lanes.specs.LayerBoards.{weigh_board}
use Rattle.flame_layerrun.specs.LayerWork.{weigh_of_type}
use Rattle.flame_layerrun.proofs.alone.put_parts.Goals as goal

pub loop-part-init : goal.loop-part-init
loop-part-init c =
    let boards = c.args.boards.now.items in
    let P : Part → Type 0 = λ part. part.message < length boards in
    let parts : c.into_iter-part-iterator.result.rest.items ≡ c.args.parts.items =
    c.into_iter-part-iterator.ensures.into_iter_gives.0 in
    record {
      there = All-same P _ _ parts c.requires;
      moved = λ message weight.
          ap (λ (list : List Part). weigh_board boards message weight + weigh_of_type list message weight) parts;
      count = refl;
    }

pub put_part-requires : goal.put_part-requires
put_part-requires c =
    let P : Part → Type 0 = λ part. part.message < length c.args.boards.now.items in
    let here : c.in-Some.part.message < length c.args.boards.now.items =
    All-head P c.in-Some.part c.next.new.self.rest.items
    (All-same P _ _ (sym c.in-Some.ensures.steps.0) c.loop-part.invariant.there) in
    omega (arith, here, c.loop-part.invariant.count)

pub loop-part-preserved : goal.loop-part-preserved
loop-part-preserved c =
    let kept = c.loop-part.invariant in
    let steps = c.in-Some.ensures.steps.0 in
    let P : Part → Type 0 = λ part. part.message < length c.args.boards.now.items in
    record {
      there = All-rest P c.in-Some.part c.next.new.self.rest.items _ steps kept.there;
      moved = λ message weight. omega (
        arith,
        kept.moved message weight,
        c.in_ok-put_part.ensures.moved message weight,
        ap (λ (parts : List Part). weigh_of_type parts message weight) steps,
      );
      count = c.in_ok-put_part.ensures.count ∙ kept.count;
    }

pub returns-clause-moved : goal.returns-clause-moved
returns-clause-moved c = λ message weight.
    let it = c.loop-part.part-iterator in
    let none : it.rest.items ≡ [] = nil_from_length it.rest.items (omega (arith, it.rest.ok.0, c.in-None.ensures.steps.0)) in
    omega (
      arith,
      c.loop-part.invariant.moved message weight,
      ap (λ (parts : List Part). weigh_of_type parts message weight) none,
    )
