use Rattle.std.proofs.Common.{◌∷◌, [], ◌∙◌, refl, sym}
use Rattle.flame_layerrun.specs.LayerWork.{weigh_of_type}
use Rattle.flame_layerrun.proofs.LongerLanes.{longer-both, longer-length, longer-none, longer-own, own-length, weigh_of_type-append}
use Rattle.flame_layerrun.proofs.working.hand_in_all.Goals as goal

pub loop-part-init : goal.loop-part-init
loop-part-init g c =
    let floor = c.args.floor.now in
    record {
      longer = longer-none (weigh_of_type []) floor.messages.now c.args.lanes.now.items (λ place message at weight. refl) c.requires.long;
      own = c.requires.own;
      long = c.requires.long;
    }

pub loop-part-preserved : goal.loop-part-preserved
loop-part-preserved g c =
    let floor = c.args.floor.now in
    let messages = floor.messages.now in
    let was = c.loop-part in
    let part = c.in-Some.part in
    let news = c.hand_in.new.lanes.items in
    let more = c.in_ok-hand_in.ensures.longer in
    record {
      longer = longer-both (weigh_of_type was.yielded) (weigh_of_type (part ∷ [])) _
          (weigh_of_type-append was.yielded (part ∷ []))
          messages c.args.lanes.now.items was.lanes.items news was.invariant.longer more;
      own = longer-own (weigh_of_type (part ∷ [])) messages floor.boards.now was.lanes.items news more was.invariant.own;
      long = longer-length (weigh_of_type (part ∷ [])) messages was.lanes.items news more;
    }

pub hand_in-requires-clause-boards : goal.hand_in-requires-clause-boards
hand_in-requires-clause-boards g c = λ lifetimes outlives.
    let was = c.loop-part in
    was.invariant.long ∙ sym (own-length c.args.floor.now.boards.now was.lanes.items was.invariant.own)
