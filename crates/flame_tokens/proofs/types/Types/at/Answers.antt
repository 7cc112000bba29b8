-- The type of this number is the one that was looked at.
use Rattle.std.proofs.Common.{◌≡◌, ◌<◌, List, length, get_or, subst, rules, refl}
use Rattle.std.proofs.lemmas.Option.{slice_get_read}
use Rattle.flame_spec.specs.declared.models.AgentType.{AgentType}
use Rattle.flame_tokens.specs.AgentTrees.{IsNamed}
use Rattle.flame_tokens.proofs.types.Types.at.Goals as goal

pub returns-then-eq : goal.returns-then-eq
returns-then-eq c =
    let types = c.self.inside.types.now in
    let number = c.args.number in
    let name = c.args.name.now in
    let kind = c.index-self-number.result in
    let within : number < length types = search rules in
    let same : kind.name ≡ name = search rules in
    subst (λ (all : List AgentType). IsNamed all number name (get_or types number kind)) c.self.view_is
    (subst (λ (type : AgentType). IsNamed types number name type) c.index-self-number.is
    (record { stands = slice_get_read types (length types) number kind refl within c.index-self-number.is; named = same }))
