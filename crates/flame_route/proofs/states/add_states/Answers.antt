-- The states of a type with functions, and of one without.
use Rattle.std.proofs.Common.{◌∙◌, [], ◌∷◌, ◌++◌, ap, sym, not, cond, codes}
use Rattle.flame_spec.specs.KnownNames.{is_among}
use Rattle.flame_spec.specs.States.{distinct_after, ends}
use Rattle.flame_route.proofs.Found.{lone-state, some-states}
use Rattle.flame_route.proofs.states.add_states.Goals as goal

pub returns-then-is_empty : goal.returns-then-is_empty
returns-then-is_empty c =
    let added = c.in_ok-_added._added in
    lone-state c.args.functions.now added _ (sym c.is_empty.ensures ∙ c.if-is_empty.true)
    (c.in_ok-_added.ensures.added ∙ ap (λ own. not (is_among (codes "start") own)) c.requires)
    (c.in_ok-_added.ensures.after ∙ ap (λ own. cond added (own ++ codes "start" ∷ []) own) c.requires)

pub returns : goal.returns
returns c =
    let functions = c.args.functions.now in
    c.in_ok-add_ends.ensures
    ∙ ap (λ own. own ++ distinct_after own (ends functions)) c.requires
    ∙ some-states functions (sym c.is_empty.ensures ∙ c.if-is_empty.false)
