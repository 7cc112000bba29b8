use Rattle.std.proofs.Common.{◌≤◌, ◌+◌, length, ap, ◌∙◌, arith, add-zero, drop_of_length-le, sym, ◌≡◌, ℕ, List, drop, w32, rules, SFits}
use Rattle.std.proofs.lemmas.Int.{to_z-of_z}
use Rattle.std.specs.Prelude.{ℤ, Option}
use Rattle.flame_cond.specs.declared.forms.Test.{Test}
use Rattle.flame_pool.specs.Choosing.{first_place}
use Rattle.flame_pool.proofs.choices.first_place.Goals as goal

none_left : (conditions : List (Option Test)) (functions : List ℕ) (iteration : ℤ) (memory : List ℤ) (place at : ℕ)
    → length functions ≤ at
    → first_place conditions functions iteration memory ≡ place + first_place conditions (drop at functions) iteration memory
    → place ≡ first_place conditions functions iteration memory
none_left conditions functions iteration memory place at past rest =
    sym (
    rest
    ∙ ap (λ left. place + first_place conditions left iteration memory) (drop_of_length-le functions past)
    ∙ add-zero place
    )

pub returns : goal.returns
returns c =
    let fits : SFits w32 c.args.iteration = search rules in
    let rest = rw (to_z-of_z w32 c.args.iteration fits) at c.loop-function.invariant.rest in
    none_left _ c.args.functions.now _ _ _ c.loop-function.function-index (omega arith) rest
