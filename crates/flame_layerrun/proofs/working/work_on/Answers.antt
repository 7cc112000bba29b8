use Rattle.std.proofs.Common.{ℕ, ◌∷◌, [], ◌∙◌, ap, sym, subst}
use Rattle.std.specs.Prelude.{IsTrue}
use Rattle.std.specs.List.{All}
use Rattle.flame_spec.specs.Below.{is_in}
use Rattle.flame_world.specs.declared.pieces.Part.{Part}
use Rattle.flame_world.specs.declared.pieces.Rest.{Rest}
use Rattle.flame_round.specs.KeptRounds.{round_of}
use Rattle.flame_layerrun.specs.LayerWork.{weigh_all_sent, weigh_of_type}
use Rattle.flame_layerrun.proofs.DoneJobs.{weigh_all_sent-one}
use Rattle.flame_layerrun.proofs.LongerLanes.{longer-length, longer-own, longer-told}
use Rattle.flame_lanes.proofs.Columned.{All-unmapped}
use Rattle.flame_layerrun.proofs.working.work_on.Goals as goal

pub hand_in_all-requires-clause-listed : goal.hand_in_all-requires-clause-listed
hand_in_all-requires-clause-listed g c = λ lifetimes outlives.
    let listed = λ (message : ℕ). IsTrue (is_in message c.args.floor.now.messages.now) in
    All-unmapped listed (λ (part : Part). part.message) c.in_ok-rest.parts.items
    (subst (All listed) (sym c.in_ok-rest.ensures.outputs) c.requires.listed)

pub returns-clause-left : goal.returns-clause-left
returns-clause-left g c = λ read all.
    ap (λ (rest : Rest). record { place = c.args.task.place; rest = rest }) (c.in_ok-rest.ensures.rest read all)

pub returns-clause-longer : goal.returns-clause-longer
returns-clause-longer g c = λ read all.
    let round = round_of c.args.floor.now.round in
    longer-told (weigh_of_type c.in_ok-rest.parts.items) (weigh_all_sent round read (c.args.task ∷ []))
    (λ message weight. c.in_ok-rest.ensures.parts read all message weight ∙ weigh_all_sent-one round read c.args.task message weight)
    c.args.floor.now.messages.now c.args.lanes.now.items c.hand_in_all.new.lanes.items c.in_ok-hand_in_all.ensures.longer

pub returns-clause-own : goal.returns-clause-own
returns-clause-own g c =
    longer-own (weigh_of_type c.in_ok-rest.parts.items) c.args.floor.now.messages.now c.args.floor.now.boards.now
    c.args.lanes.now.items c.hand_in_all.new.lanes.items c.in_ok-hand_in_all.ensures.longer c.requires.own

pub returns-clause-long : goal.returns-clause-long
returns-clause-long g c =
    longer-length (weigh_of_type c.in_ok-rest.parts.items) c.args.floor.now.messages.now
    c.args.lanes.now.items c.hand_in_all.new.lanes.items c.in_ok-hand_in_all.ensures.longer
