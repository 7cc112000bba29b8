-- The filter of the input.
use Rattle.std.proofs.Common.{sym, subst}
use Rattle.flame_spec.specs.declared.outcomes.Source.{Source}
use Rattle.flame_program.specs.SourceInputs.{AreSelectors, FiltersInput}
use Rattle.flame_program.proofs.InputSelectors.{filter-found, no-filter}
use Rattle.flame_program.proofs.program.Program.filter.Goals as goal

pub returns-in-Some : goal.returns-in-Some
returns-in-Some c =
    let model = c.args.self.now.model in
    let all : AreSelectors model c.items.result.now =
    subst (AreSelectors model) (sym c.items.ensures)
    (subst (λ (s : Source). AreSelectors s.model c.self.inside.parts.selectors) c.self.view_is c.self.invariant.parts.read) in
    subst (FiltersInput model c.args.function c.args.input) (sym c.as_ref.ensures.value)
    (filter-found model c.items.result.now c.args.function c.args.input c.in-Some.selector.now all c.in-Some.ensures)

pub returns-in-None : goal.returns-in-None
returns-in-None c =
    let model = c.args.self.now.model in
    let all : AreSelectors model c.items.result.now =
    subst (AreSelectors model) (sym c.items.ensures)
    (subst (λ (s : Source). AreSelectors s.model c.self.inside.parts.selectors) c.self.view_is c.self.invariant.parts.read) in
    no-filter model c.items.result.now c.args.function c.args.input all c.in-None.ensures
