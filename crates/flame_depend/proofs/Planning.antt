-- What holds of the lists holds of the model.
use Rattle.std.proofs.Common.{◌≡◌, ℕ, ◌+◌, ◌<◌, ◌≤◌, List, [], ◌∷◌, length, drop, get_or, map, refl, sym, ap, ◌∙◌, arith, Some, cond}
use Rattle.std.proofs.lemmas.Bool.{le-ltb}
use Rattle.std.proofs.lemmas.List.{drop_more}
use Rattle.flame_spec.specs.declared.models.Model.{Model}
use Rattle.flame_spec.specs.declared.models.AgentType.{AgentType}
use Rattle.flame_spec.specs.Before.{before, function_count}
use Rattle.flame_spec.specs.States.{start_states, many_from}
use Rattle.flame_spec.specs.ModelOrder.{first_left, step_back, from_there, walk_back, begun_with_least, cycle_from, cycle}
use Rattle.flame_spec.proofs.Orders.{Relation}
use Rattle.flame_graph.specs.Graph.{AreSuccessors, follows}
use Rattle.flame_depend.specs.Plans.{lone}
use Rattle.flame_depend.proofs.Following.{follows_model}

pub at_model : {X : Type 0} (what : ℕ → Relation → X) (model : Model) (lists : List (List ℕ)) → AreSuccessors (function_count model) (before model) lists → what (length lists) (follows lists) ≡ what (function_count model) (before model)
at_model what model lists a = ap (λ n. what n (follows lists)) a.len ∙ ap (what (function_count model)) (follows_model model lists a)

-- from the first function left over the cycle is met
pub cycle_is : (n : ℕ) (before : Relation) (start : ℕ) → first_left n before ≡ Some start → begun_with_least (walk_back (n + 1) (step_back n before) [] start) ≡ cycle n before
cycle_is n before start e = sym (ap (λ o. from_there o (cycle_from n before)) e)

-- ---- start states

pub one_lone : (states : List (List ℕ)) → length states ≡ 1 → map lone states ≡ states ∷ []
one_lone [] h = absurd (omega (arith, h))
one_lone (x ∷ []) h = refl
one_lone (x ∷ y ∷ states) h = absurd (omega (arith, h))

pub many_more : (agents : List AgentType) (i : ℕ) (d : AgentType) → i < length agents → length (start_states (get_or agents i d).functions) ≤ 1 → many_from i (drop i agents) ≡ many_from (i + 1) (drop (i + 1) agents)
many_more agents i d h l =
    ap (many_from i) (drop_more agents i d h)
    ∙ ap (λ b. cond b (Some (i, start_states (get_or agents i d).functions)) (many_from (i + 1) (drop (i + 1) agents))) (le-ltb 1 (length (start_states (get_or agents i d).functions)) l)
