-- What one agent more leaves stands behind what those before it left.
use Rattle.std.proofs.Common.{◌∙◌, ◌++◌, ◌∷◌, [], List, refl, sym, subst, w32, rules, SFits}
use Rattle.std.specs.Prelude.{ℤ}
use Rattle.std.proofs.lemmas.Int.{to_z-of_z}
use Rattle.flame_spec.specs.declared.outcomes.Outcome.{Outcome}
use Rattle.flame_world.specs.Meaning.{outcome_under}
use Rattle.flame_leaving.specs.declared.leavings.Leaving.{Leaving}
use Rattle.flame_leaving.specs.Leavings.{AreLeft, AreLeftBut}
use Rattle.flame_agent.proofs.Nexts.{added-next, ended-by, faulted-by}
use Rattle.flame_agent.proofs.agents.run_next.Goals as goal

pub returns-in_ok-add_ended-in-Ended : goal.returns-in_ok-add_ended-in-Ended
returns-in_ok-add_ended-in-Ended c = λ agents left.
    let setting = c.args.setting.now in
    let function = c.args.function in
    let memory = c.args.memory.now in
    let run : List ℤ → Outcome = outcome_under setting function in
    let ran = c.in_ok-ending.ensures in
    let old = c.args.leaving.now in
    let added : Leaving = record old { sent = c.run_agent.new.sent; born = c.run_agent.new.born } in
    let but = added-next setting.iteration function run agents memory c.in_ok-ending.ending old added left ran refl refl refl in
    let own = ended-by ran.outcome (run memory) _ _ (sym c.in-Ended.is ∙ ran.ends) ran.holds in
    c.in_ok-add_ended-in-Ended.ensures setting.iteration function run agents memory own.0 own.1 own.2 but

pub returns-in_ok-add_faulted-in-Faulted : goal.returns-in_ok-add_faulted-in-Faulted
returns-in_ok-add_faulted-in-Faulted c = λ agents left.
    let setting = c.args.setting.now in
    let function = c.args.function in
    let memory = c.args.memory.now in
    let run : List ℤ → Outcome = outcome_under setting function in
    let fits : SFits w32 setting.iteration = search rules in
    let same = to_z-of_z w32 setting.iteration fits in
    let ran = c.in_ok-ending.ensures in
    let old = c.args.leaving.now in
    let added : Leaving = record old { sent = c.run_agent.new.sent; born = c.run_agent.new.born } in
    let but = added-next setting.iteration function run agents memory c.in_ok-ending.ending old added left ran refl refl refl in
    let own = faulted-by ran.outcome (run memory) c.in-Faulted.fault (sym c.in-Faulted.is ∙ ran.ends) ran.holds in
    subst (λ (at : ℤ). AreLeft at function run (agents ++ memory ∷ []) c.add_faulted.new.self) same
    (c.in_ok-add_faulted-in-Faulted.ensures run agents own
    (subst (λ (at : ℤ). AreLeftBut at function run agents memory added) (sym same) but))
