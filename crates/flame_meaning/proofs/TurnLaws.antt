-- Turns, loops and calls, one unit each.
use Rattle.std.proofs.Common.{refl, ap}
use Rattle.flame_spec.specs.HelperFaults.{deepest_calls}
use Rattle.flame_meaning.specs.Loops.{pay_from, after_turn}
use Rattle.flame_meaning.specs.Outcomes.{scene_of}
use Rattle.flame_meaning.specs.OutcomeLaws.{TurnTakesOne, CallTakesOne, LoopGoesOn, HelpersSeeNoCaller}
use Rattle.flame_meaning.specs.Scenes.{Scene}
use Rattle.flame_meaning.specs.Statements.{test_value}
use Rattle.flame_meaning.proofs.Turns.{unrolled, calls_fall}

pub turn_takes_one : TurnTakesOne
turn_takes_one line fuel body next s e = ap (λ k. pay_from k line s (λ t. after_turn (body t) next)) e

pub loop_goes_on : LoopGoesOn
loop_goes_on line test body step source place readings constants iteration s =
    let scene : Scene = scene_of source place readings constants iteration in
    unrolled line (test_value test scene) body step scene s (calls_fall deepest_calls _ _ _ _)

pub call_takes_one : CallTakesOne
call_takes_one levels model helpers constants iteration line helper values fuel = refl

pub helpers_see_no_caller : HelpersSeeNoCaller
helpers_see_no_caller source place other readings others constants iteration = refl
