-- The faults of an agent type, part by part.
use Rattle.std.proofs.Common.{◌≡◌, ℕ, List, [], ◌++◌, codes, sym, ap, ◌∙◌, Bool}
use Rattle.flame_spec.specs.declared.faults.NameKind.TheVariants.{Duplicate}
use Rattle.flame_spec.specs.declared.models.AgentType.{AgentType}
use Rattle.flame_spec.specs.declared.models.Function.{Function}
use Rattle.flame_spec.specs.declared.models.Variable.{Variable}
use Rattle.flame_spec.specs.KnownNames.{is_among, DeclaredNames}
use Rattle.flame_spec.specs.Paths.{at_key}
use Rattle.flame_spec.specs.Refusals.{fault_where}
use Rattle.flame_spec.specs.FunctionFaults.{functions_faults}
use Rattle.flame_spec.specs.NameFaults.{memory_faults, agent_faults}

-- a type whose name and memory have no faults has those of its functions
pub functions-are : (declared : DeclaredNames) (types : List (List ℕ)) (is_taken : List ℕ → Bool) (path : List ℕ)
    (agent : AgentType) (name : List ℕ) (variables memory : List Variable) (functions : List Function)
    → name ≡ agent.name
    → variables ≡ agent.memory
    → memory ≡ variables
    → functions ≡ agent.functions
    → fault_where (is_among name types) Duplicate (at_key path (codes "name")) name ≡ []
    → memory_faults declared.constants (at_key path (codes "memory")) variables ≡ []
    → functions_faults declared memory is_taken (at_key path (codes "functions")) functions
    ≡ agent_faults declared types is_taken path agent
functions-are declared types is_taken path agent name variables memory functions n v m f new apart =
    let name_none : fault_where (is_among agent.name types) Duplicate (at_key path (codes "name")) agent.name ≡ [] =
    ap (λ text. fault_where (is_among text types) Duplicate (at_key path (codes "name")) text) (sym n) ∙ new in
    let memory_none : memory_faults declared.constants (at_key path (codes "memory")) agent.memory ≡ [] =
    ap (memory_faults declared.constants (at_key path (codes "memory"))) (sym v) ∙ apart in
    let rest =
    functions_faults
    declared
    agent.memory
    is_taken
    (at_key path (codes "functions"))
    agent.functions in
    ap
    (λ names. functions_faults declared names is_taken (at_key path (codes "functions")) functions)
    (m ∙ v)
    ∙ ap (functions_faults declared agent.memory is_taken (at_key path (codes "functions"))) f
    ∙ sym
    (ap
    (λ l. l ++ (memory_faults declared.constants (at_key path (codes "memory")) agent.memory ++ rest))
    name_none
    ∙ ap (λ l. l ++ rest) memory_none)
