-- Plans, and why models have none.
use Rattle.std.proofs.Common.{◌≡◌, ℕ, ◌+◌, List, [], ◌∷◌, map, length, Option, Some, None, Ok, Err, refl, sym, ap, ◌∙◌, cond}
use Rattle.std.specs.Prelude.{nat_lt, option_map, IsSome}
use Rattle.flame_spec.specs.declared.faults.CheckFault.{CheckFault}
use Rattle.flame_spec.specs.declared.models.AgentType.{AgentType}
use Rattle.flame_spec.specs.declared.models.Model.{Model}
use Rattle.flame_spec.specs.declared.outcomes.Source.{Source}
use Rattle.flame_spec.specs.CheckFaults.{check_faults}
use Rattle.flame_spec.specs.Lists.{first}
use Rattle.flame_spec.specs.ModelOrder.{left_over, model_cycle}
use Rattle.flame_spec.specs.States.{many_from}
use Rattle.flame_depend.specs.declared.faults.DependFault.{DependFault}
use Rattle.flame_depend.specs.declared.faults.DependFault.TheVariants.{Cycle, Starts}
use Rattle.flame_depend.specs.declared.plans.Plan.{Plan}
use Rattle.flame_depend.specs.Plans.{lone, starts_of, IsPlan, IsFault}
use Rattle.flame_load.specs.declared.faults.LoadFault.TheVariants.{Depend}
use Rattle.flame_load.specs.LoadAnswers.{HasCheckFault}
use Rattle.flame_load.specs.LoadedSources.{starts_fault, fault_of_order, depend_fault, planned_source}
use Rattle.flame_load.specs.LoadRefusals.{of_model}
use Rattle.flame_load.proofs.KnownOrRefused.{none_refuses, refuses}

-- none of these types has two start states, where they have one each
none_many :
    (i : ℕ) (starts : List (List ℕ)) (types : List AgentType)
    → map lone starts ≡ map starts_of types
    → many_from i types ≡ None
none_many i [] [] e = refl
none_many i [] (type ∷ types) e = absurd (cc)
none_many i (state ∷ starts) [] e = absurd (cc)
none_many i (state ∷ starts) (type ∷ types) e =
    let one : lone state ≡ starts_of type = cc in
    let more : map lone starts ≡ map starts_of types = cc in
    ap (λ states. cond (nat_lt 1 (length states)) (Some (i, states)) (many_from (i + 1) types)) (sym one)
    ∙ none_many (i + 1) starts types more

-- a model that has a plan has no fault
pub plan_has_no_fault : (model : Model) (plan : Plan) → IsPlan model plan → depend_fault model ≡ None
plan_has_no_fault model plan is =
    ap (fault_of_order model) is.acyclic
    ∙ ap (option_map starts_fault) (none_many 0 plan.starts model.agents is.starts)

cycle_there : (model : Model) (left : Option ℕ) → IsSome left → fault_of_order model left ≡ Some (Cycle (record { functions = model_cycle model }))
cycle_there model None some = absurd (cc)
cycle_there model (Some function) some = refl

-- the fault of a model that has no plan
pub fault_is_found : (model : Model) (fault : DependFault) → IsFault model fault → depend_fault model ≡ Some fault
fault_is_found model (Cycle fault) is =
    cycle_there model (left_over model) is.0 ∙ (λ i. Some (Cycle (record { functions = sym is.1 i })))
fault_is_found model (Starts fault) is =
    ap (fault_of_order model) is.0 ∙ ap (option_map starts_fault) is.1

-- ---- the source

pub planned_given :
    (source : Source) (plan : Plan) → IsPlan source.model plan → (planned_source source).answer ≡ Ok source
planned_given source plan is =
    none_refuses (λ fault. of_model (Depend fault) source.model) (depend_fault source.model) source
    (plan_has_no_fault source.model plan is)

pub planned_refused :
    (source : Source) (fault : DependFault)
    → IsFault source.model fault
    → (planned_source source).answer ≡ Err (of_model (Depend fault) source.model)
planned_refused source fault is =
    refuses (λ fault. of_model (Depend fault) source.model) (depend_fault source.model) source fault
    (fault_is_found source.model fault is)

-- ---- the function files

-- a first check fault of a source with a tree for each function file tells of its model
pub check_fault_tells :
    (source : Source) (fault : CheckFault)
    → length source.units ≡ length source.model.files
    → first (check_faults source.model source.units) ≡ Some fault
    → HasCheckFault source.model fault
check_fault_tells source fault paired found = record { units = source.units; paired = paired; found = found }
