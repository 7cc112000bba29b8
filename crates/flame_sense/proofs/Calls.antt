-- Calls of helpers, as the program makes them.
use Rattle.std.proofs.Common.{◌≡◌, ◌≢◌, ℕ, zero, suc, ◌-◌, List, refl, sym, ap, ◌∙◌, arith}
use Rattle.std.specs.Prelude.{ℤ}
use Rattle.flame_spec.specs.declared.models.Model.{Model}
use Rattle.flame_spec.specs.Definitions.{Definition}
use Rattle.flame_spec.specs.Trees.{Statements}
use Rattle.flame_meaning.specs.Scenes.{Scene, Progress, Gave}
use Rattle.flame_meaning.specs.Ends.{End}
use Rattle.flame_meaning.specs.Statements.{meanings}
use Rattle.flame_meaning.specs.HelperCalls.{gives, entered, helper_scene, calls_within}

-- a call that is paid for
pub opened :
    (levels : ℕ) (model : Model) (helpers : List Definition) (constants : List ℤ) (iteration : ℤ)
    (line : ℕ) (helper : Definition) (values : List ℤ) (fuel : ℕ)
    → levels ≢ 0
    → fuel ≢ 0
    → calls_within levels model helpers constants iteration line helper values fuel
    ≡ gives (meanings helper.body
    (helper_scene model helpers constants iteration (calls_within (levels - 1) model helpers constants iteration))
    (entered helper.parameters values (fuel - 1)))
opened levels model helpers constants iteration line helper values zero k l = absurd (l refl)
opened zero model helpers constants iteration line helper values (suc fuel) k l = absurd (k refl)
opened (suc levels) model helpers constants iteration line helper values (suc fuel) k l =
    let e : levels ≡ suc levels - 1 = omega arith in
    let f : fuel ≡ suc fuel - 1 = omega arith in
    ap (λ n. gives (meanings helper.body
    (helper_scene model helpers constants iteration (calls_within n model helpers constants iteration))
    (entered helper.parameters values fuel))) e
    ∙ ap (λ n. gives (meanings helper.body
    (helper_scene model helpers constants iteration (calls_within (suc levels - 1) model helpers constants iteration))
    (entered helper.parameters values n))) f

-- a call that is paid for, as the program makes it
pub answered :
    (levels : ℕ) (model : Model) (helpers : List Definition) (constants : List ℤ) (iteration : ℤ)
    (line : ℕ) (helper : Definition) (values : List ℤ) (fuel : ℕ)
    (body : Statements) (inner : Scene) (s : Progress) (e : End) (given : Gave)
    → levels ≢ 0
    → fuel ≢ 0
    → body ≡ helper.body
    → inner ≡ helper_scene model helpers constants iteration (calls_within (levels - 1) model helpers constants iteration)
    → s ≡ entered helper.parameters values (fuel - 1)
    → meanings body inner s ≡ e
    → given ≡ gives e
    → calls_within levels model helpers constants iteration line helper values fuel ≡ given
answered levels model helpers constants iteration line helper values fuel body inner s e given some paid same there begins ends gives_so =
    let scene : Scene = helper_scene model helpers constants iteration
    (calls_within (levels - 1) model helpers constants iteration) in
    let start : Progress = entered helper.parameters values (fuel - 1) in
    opened levels model helpers constants iteration line helper values fuel some paid
    ∙ ap (λ b. gives (meanings b scene start)) (sym same)
    ∙ ap (λ i. gives (meanings body i start)) (sym there)
    ∙ ap (λ p. gives (meanings body inner p)) (sym begins)
    ∙ ap gives ends
    ∙ sym gives_so
