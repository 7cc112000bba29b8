-- The code of the function begins with what the agent has before it, and means its outcome.
use mir.Syntax.{w32}
use mir.Val.{SFits}
use Rattle.std.proofs.Common.{◌∙◌, subst, sym, rules}
use Rattle.std.proofs.lemmas.Int.{to_z-of_z}
use Rattle.std.specs.Prelude.{ℤ}
use Rattle.flame_code.specs.HelperCodes.{HelperCodes}
use Rattle.flame_code.specs.Meanings.{Entry, FitsEntry, Means}
use Rattle.flame_agent.proofs.AgentOutcomes.{entry-fits, outcome-is}
use Rattle.flame_agent.proofs.agents.run_agent.Goals as goal

pub run_into-requires-clause-entry : goal.run_into-requires-clause-entry
run_into-requires-clause-entry c =
    let setting = c.args.setting.now in
    let code = c.code_of-code.result.now in
    let feeds = c.put_views.new.views in
    let iteration : SFits w32 setting.iteration = search rules in
    let from : ℤ → Entry =
    λ at.
    record {
      memory = c.args.memory.now;
      feeds = feeds;
      constants = setting.constants.now;
      iteration = at;
      fuel = setting.fuel;
    } in
    subst (λ at. FitsEntry code (from at)) (sym (to_z-of_z w32 setting.iteration iteration))
    (entry-fits c.args.program.now c.args.function setting c.args.memory.now c.requires.fits code feeds setting.iteration
    setting.fuel c.code_of-code.ensures.widths c.in_ok-put_views.ensures)

pub returns : goal.returns
returns c =
    let source = c.args.program.now in
    let setting = c.args.setting.now in
    let code = c.code_of-code.result.now in
    let feeds = c.put_views.new.views in
    let ran = c.in_ok-ending.ensures.ran in
    let iteration : SFits w32 setting.iteration = search rules in
    let from : ℤ → Entry =
    λ at.
    record {
      memory = c.args.memory.now;
      feeds = feeds;
      constants = setting.constants.now;
      iteration = at;
      fuel = setting.fuel;
    } in
    let fits =
    entry-fits source c.args.function setting c.args.memory.now c.requires.fits code feeds setting.iteration setting.fuel
    c.code_of-code.ensures.widths c.in_ok-put_views.ensures in
    let means =
    subst (λ (h : HelperCodes). Means h.routines code (from setting.iteration) ran.outcome) c.helpers.ensures
    (subst (λ at. Means c.helpers.result.now.routines code (from at) ran.outcome)
    (to_z-of_z w32 setting.iteration iteration) ran.holds) in
    record {
      outcome = ran.outcome;
      holds =
          (c.programs_mean.ensures source c.args.function code (from setting.iteration) ran.outcome
          c.source-source.ensures.accepted c.code_of-code.ensures.code fits).0 means
          ∙ outcome-is source c.args.function setting c.args.memory.now c.requires.fits feeds c.requires.source
          c.in_ok-put_views.ensures;
      ends = ran.ends;
      messages = ran.messages;
      births = ran.births;
    }
