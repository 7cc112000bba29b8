-- How an iteration goes from layer to layer.
use Rattle.std.proofs.Common.{◌≡◌, ◌∙◌, ◌+◌, ℕ, List, Option, ap, length, subst, sym}
use Rattle.std.specs.Prelude.{ℤ}
use Rattle.std.specs.Option.{option_or}
use Rattle.flame_spec.specs.declared.outcomes.Source.{Source}
use Rattle.flame_spec.specs.Accepted.{IsAccepted}
use Rattle.flame_world.specs.declared.worlds.World.{World}
use Rattle.flame_world.specs.Fields.{Field}
use Rattle.flame_world.specs.Iterations.{Round, round_of}
use Rattle.flame_layers.specs.declared.stops.Stop.{Stop}
use Rattle.flame_layers.specs.LayerFields.{all_takers, first_stop, layer_field, layer_stop}
use Rattle.flame_layers.specs.LayerFunctions.{runs_in_layer}
use Rattle.flame_layers.specs.LayerLaws.{LayersLeadOn}
use Rattle.flame_layers.specs.LayerStates.{HasComeTo}

-- the functions of a layer that are still run, ran
pub next_layer : LayersLeadOn → (round : Round) (agents : List (List (List ℤ))) (layer : ℕ) (stop found next : Option Stop) (field after : Field) (fs : List ℕ)
    → IsAccepted round.source
    → length agents ≡ length round.source.model.agents
    → HasComeTo round agents layer stop field
    → fs ≡ runs_in_layer round.source.model layer stop
    → after ≡ layer_field round fs field
    → found ≡ first_stop round field fs (all_takers round fs field)
    → next ≡ option_or found stop
    → HasComeTo round agents (layer + 1) next after
next_layer on round agents layer stop found next field after fs accepted count come are left first is =
    let runs = runs_in_layer round.source.model layer stop in
    let stopped : layer_stop round runs field stop ≡ next =
    sym (is ∙ ap (λ (s : Option Stop). option_or s stop) (first ∙ ap (λ gs. first_stop round field gs (all_takers round gs field)) are)) in
    let became : layer_field round runs field ≡ after = sym (left ∙ ap (λ gs. layer_field round gs field) are) in
    subst (λ (s : Option Stop). HasComeTo round agents (layer + 1) s after) stopped
    (subst (λ (f : Field). HasComeTo round agents (layer + 1) (layer_stop round runs field stop) f) became
    (on round agents layer stop field accepted count come))

-- in a world with these constants
pub in_world : (source : Source) (constants : List ℤ) (iteration : ℤ) (fuel : ℕ) (world : World) (agents : List (List (List ℤ))) (layer : ℕ)
    (stop : Option Stop) (field : Field)
    → world.constants ≡ constants
    → HasComeTo (record { source = source; constants = constants; iteration = iteration; fuel = fuel }) agents layer stop field
    → HasComeTo (round_of source world iteration fuel) agents layer stop field
in_world source constants iteration fuel world agents layer stop field same come =
    subst
    (λ (c : List ℤ). HasComeTo (record { source = source; constants = c; iteration = iteration; fuel = fuel }) agents layer stop field)
    (sym same) come
