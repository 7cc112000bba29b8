-- What is stored under a name.
use Rattle.std.proofs.Common.{◌≡◌, ℕ, List, get_or, sym, ap, ◌∙◌, cond}
use Rattle.std.specs.Prelude.{ℤ, slice_set, is_some}
use Rattle.flame_spec.specs.LookUps.{memory_named}
use Rattle.flame_spec.specs.Scopes.{memory_at}
use Rattle.flame_sense.specs.declared.scene.Local as variable
use Rattle.flame_meaning.specs.Scenes.{Scene, Progress, local_value}
use Rattle.flame_meaning.specs.Statements.{set_local, set_found, set_name}
use Rattle.flame_sense.specs.StandsFor.{local_of, visible, StandsAt}
use Rattle.flame_sense.proofs.Locals.{value_there, set_there}

-- a store goes to the newest local of the name
pub stored_there :
    (word : List ℕ) (v : ℤ) (scene : Scene) (s : Progress) (locals : List variable.Local) (i : ℕ) (d x : variable.Local)
    → StandsAt word locals i
    → local_of x ≡ record { name = (get_or locals i d).name.now; value = v }
    → s.locals ≡ visible locals
    → record s { locals = visible (slice_set locals i x) } ≡ set_name word v scene s
stored_there word v scene s locals i d x at is has =
    sym (ap (λ o. cond (is_some o) (record s { locals = set_local word v s.locals })
    (set_found (memory_named (memory_at scene.context) word) v s))
    (ap (local_value word) has ∙ value_there word locals i d at)
    ∙ ap (λ l. record s { locals = l }) (ap (set_local word v) has ∙ set_there word v locals i d x at is))
