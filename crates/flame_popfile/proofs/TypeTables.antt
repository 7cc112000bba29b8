-- Tables of agent types that are filled from the last type to the first.
use Rattle.std.proofs.Common.{◌≡◌, ℕ, ◌+◌, ◌-◌, ◌<◌, ◌≤◌, List, length, drop, get_or, ap, ◌∙◌, cond, Option, Some, arith}
use Rattle.std.specs.Str.{bytes_eq}
use Rattle.flame_spec.specs.declared.models.AgentType.{AgentType}
use Rattle.flame_spec.specs.Lists.{numbered_from}
use Rattle.flame_spec.proofs.Numbered.{numbered_from-before}

-- one type more in front
pub type_before :
    (types : List AgentType) (left : ℕ) (type : AgentType) (word name : List ℕ) (kind : ℕ × AgentType)
    (now before : Option (ℕ × AgentType))
    → 0 < left
    → left ≤ length types
    → type ≡ get_or types (left - 1) type
    → word ≡ type.name
    → kind ≡ (left - 1, type)
    → before ≡ numbered_from (λ (type : AgentType). bytes_eq type.name name) left (drop left types)
    → now ≡ cond (bytes_eq word name) (Some kind) before
    → now ≡ numbered_from (λ (type : AgentType). bytes_eq type.name name) (left - 1) (drop (left - 1) types)
type_before types left type word name kind now before some within is named are earlier step =
    let passes = λ (type : AgentType). bytes_eq type.name name in
    let again : left ≡ left - 1 + 1 = omega arith in
    let below : left - 1 < length types = omega arith in
    step
    ∙ ap (λ word. cond (bytes_eq word name) (Some kind) before) named
    ∙ ap (λ kind. cond (bytes_eq type.name name) (Some kind) before) are
    ∙ numbered_from-before passes types (left - 1) type before below is
    (earlier ∙ ap (λ i. numbered_from passes i (drop i types)) again)
