-- The lists of successors are what stands before what.
use Rattle.std.proofs.Common.{◌≡◌, ℕ, zero, suc, ◌+◌, ◌≤◌, List, [], ◌∷◌, ◌++◌, length, map, refl, sym, ap, ◌∙◌, subst, arith, false, Some, None, Option}
use Rattle.std.specs.Prelude.{slice_get}
use Rattle.std.proofs.lemmas.Option.{slice_get_past}
use Rattle.flame_spec.specs.declared.models.Model.{Model}
use Rattle.flame_spec.specs.declared.models.AgentType.{AgentType}
use Rattle.flame_spec.specs.declared.models.Function.{Function}
use Rattle.flame_spec.specs.Functions.{Place, at_type, functions_from, functions}
use Rattle.flame_spec.specs.Before.{both_stand, before_among, before, function_count}
use Rattle.flame_graph.specs.Graph.{AreSuccessors, follows, AreAscending}
use Rattle.flame_graph.proofs.Following.{follows_is, ascending_is}
use Rattle.flame_depend.specs.Links.{IsOfTypes, AreOfTypes}

-- nothing stands before what is past the last function
outside : (ps : List Place) (f g : ℕ) → length ps ≤ g → before_among ps f g ≡ false
outside ps f g h = ap (both_stand (slice_get ps f)) (slice_get_past ps g h) ∙ go (slice_get ps f)
  where
    go : (o : Option Place) → both_stand o None ≡ false
    go None = refl
    go (Some p) = refl

pub follows_model : (model : Model) (lists : List (List ℕ)) → AreSuccessors (function_count model) (before model) lists → follows lists ≡ before model
follows_model model lists = follows_is (function_count model) (before model) lists (outside (functions model))

pub ascending_model : (model : Model) (lists : List (List ℕ)) → AreSuccessors (function_count model) (before model) lists → AreAscending lists
ascending_model model lists = ascending_is (function_count model) (before model) lists (outside (functions model))

pub model_successors : (model : Model) (ps : List Place) (n : ℕ) (lists : List (List ℕ)) → ps ≡ functions model → n ≡ length ps → AreSuccessors n (before_among ps) lists → AreSuccessors (function_count model) (before model) lists
model_successors model ps n lists e l a =
    let P : ℕ → Type 0 = λ m. AreSuccessors m (before_among ps) lists in
    let Q : List Place → Type 0 = λ qs. AreSuccessors (length qs) (before_among qs) lists in
    subst Q e (subst P l a)

-- each function is of one of the types
of_types_from : (agent bound : ℕ) (types : List AgentType) → agent + length types ≤ bound → (f : ℕ) → IsOfTypes bound (slice_get (functions_from agent types) f)
of_types_from agent bound [] h f = tt
of_types_from agent bound (type ∷ types) h f = go type.functions f (of_types_from (agent + 1) bound types (omega arith))
  where
    go : (fs : List Function) (f : ℕ) → ((g : ℕ) → IsOfTypes bound (slice_get (functions_from (agent + 1) types) g)) → IsOfTypes bound (slice_get (map (at_type agent type) fs ++ functions_from (agent + 1) types) f)
    go [] f rest = rest f
    go (x ∷ fs) zero rest = omega (arith, h)
    go (x ∷ fs) (suc f) rest = go fs f rest

pub of_types : (model : Model) (ps : List Place) (types : ℕ) → ps ≡ functions model → types ≡ length model.agents → AreOfTypes types ps
of_types model ps types e t =
    let P : List Place → Type 0 = AreOfTypes types in
    let Q : ℕ → Type 0 = λ k. AreOfTypes k (functions model) in
    subst P (sym e) (subst Q (sym t) (of_types_from 0 (length model.agents) model.agents (omega arith)))
