-- A core begins.
use Rattle.std.proofs.Common.{◌≡◌, ◌∙◌, [], true, false, ap, length, refl, sym, subst, w32, rules, SFits}
use Rattle.std.specs.Prelude.{ℕ}
use Rattle.std.proofs.lemmas.Int.{to_z-of_z}
use Rattle.std.proofs.lemmas.List.{length-map}
use Rattle.flame_spec.specs.declared.outcomes.Source.{Source}
use Rattle.flame_spec.specs.Before.{before, function_count}
use Rattle.flame_spec.specs.Below.{is_in}
use Rattle.flame_spec.specs.Counted.{is_counted}
use Rattle.flame_spec.specs.Functions.{functions}
use Rattle.flame_world.specs.WorldFits.{FitTypes}
use Rattle.flame_events.specs.CoreEnds.{is_faulted}
use Rattle.flame_events.specs.CoreStates.{Core, is_shut, is_frozen, status_of, opening_core}
use Rattle.flame_events.specs.LegalEvents.{inputs_of, outputs_of}
use Rattle.flame_pieces.specs.KeptStatuses.{status_of as kept_status}
use Rattle.flame_field.specs.KeptBoards.{is_board_frozen}
use Rattle.flame_field.specs.KeptPools.{AreDealt}
use Rattle.flame_round.specs.Choices.{choice_at}
use Rattle.flame_progress.specs.KeptCores.{core_of}
use Rattle.flame_progress.proofs.Tallied.{tells_same}
use Rattle.flame_core.proofs.Counting.{functions_numbered}
use Rattle.flame_core.proofs.InOrders.{nothing_faulted, nothing_frozen, nothing_shut}
use Rattle.flame_core.proofs.ShutRanks.{nothing_reached}
use Rattle.flame_orders.proofs.OnceOutputs.{outputs_once}
use Rattle.flame_core.proofs.cores.Core.new.Goals as goal

pub counted-requires : goal.counted-requires
counted-requires c =
    sym (ap (λ (s : Source). is_counted s.model) c.source.ensures.same) ∙ sym c.if-not-is_counted.ensures

pub begun-requires : goal.begun-requires
begun-requires c =
    subst (λ bags. FitTypes c.args.program.now.model bags) (sym c.in_ok-agents.ensures) c.requires.fits.agents

pub invariant_of-result : goal.invariant_of-result
invariant_of-result c =
    let source = c.args.program.now in
    let model = source.model in
    let progress = c.in_ok-progress.progress in
    let is : core_of progress ≡ opening_core model c.args.world.agents =
    c.in_ok-progress.ensures.core ∙ ap (opening_core model) c.in_ok-agents.ensures in
    let counted : is_counted model ≡ true =
    sym (ap (λ (s : Source). is_counted s.model) c.source.ensures.same) ∙ sym c.if-not-is_counted.ensures in
    let shut : (f : ℕ) → false ≡ is_shut (status_of (core_of progress) f) =
    λ f. sym (ap (λ (k : Core). is_shut (status_of k f)) is ∙ nothing_shut model c.args.world.agents f) in
    let frozen : (m : ℕ) → false ≡ is_frozen (core_of progress) m =
    λ m. sym (ap (λ (k : Core). is_frozen k m) is ∙ nothing_frozen model c.args.world.agents m) in
    let counts = c.in_ok-counts.ensures in
    let fits : SFits w32 c.args.iteration = search rules in
    record {
      reached = record {
        fits = c.requires.fits;
        some = c.requires.some;
        events = [];
        leads = record { legal = refl; left = is };
      };
      numbered = functions_numbered model counted;
      dealt = subst (λ n. AreDealt (choice_at model n) progress.field.pools) (sym (to_z-of_z w32 c.args.iteration fits))
          (c.in_ok-progress.ensures.dealt (choice_at model c.args.iteration));
      ranked = nothing_reached model (core_of progress) c.none.result c.none.ensures.shut c.none.ensures.fault
          (λ f. sym (shut f))
          (λ f. ap (λ (k : Core). is_faulted k f) is ∙ nothing_faulted model c.args.world.agents f);
      tallies = record {
        functions =
            sym (length-map progress.statuses.items kept_status)
            ∙ ap (λ (k : Core). length k.statuses) is
            ∙ length-map (functions model) _;
        messages =
            sym (length-map progress.field.boards.items is_board_frozen)
            ∙ ap (λ (k : Core). length k.frozen) is
            ∙ length-map model.messages _;
        outputs = λ f. c.in_ok-progress.ensures.outputs f (outputs_of model f);
        once = outputs_once source c.source.ensures.accepted;
        counted = record {
          functions = tells_same (function_count model) (function_count model) (before model) (λ f. false)
              (λ f. is_shut (status_of (core_of progress) f)) c.in_ok-counts.counts.functions shut counts.functions;
          inputs = tells_same (length model.messages) (function_count model) (λ m f. is_in m (inputs_of model f)) (λ m. false)
              (is_frozen (core_of progress)) c.in_ok-counts.counts.inputs frozen counts.inputs;
          outputs = tells_same (function_count model) (length model.messages) (λ f m. is_in m (outputs_of model f)) (λ f. false)
              (λ f. is_shut (status_of (core_of progress) f)) c.in_ok-counts.counts.outputs shut counts.outputs;
        };
      };
    }

pub returns-clause-new : goal.returns-clause-new
returns-clause-new c =
    c.in_ok-progress.ensures.core ∙ ap (opening_core c.args.program.now.model) c.in_ok-agents.ensures

pub returns-clause-core : goal.returns-clause-core
returns-clause-core c =
    let model = c.args.program.now.model in
    let is = c.in_ok-progress.ensures.core ∙ ap (opening_core model) c.in_ok-agents.ensures in
    let fits : SFits w32 c.args.iteration = search rules in
    λ i. record {
      source = c.args.program.now;
      world = c.args.world;
      iteration = to_z-of_z w32 c.args.iteration fits i;
      fuel = c.args.fuel;
      pieces = c.args.pieces;
      core = is i;
    }
