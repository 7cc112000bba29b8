-- The check faults of a model's function files: all of them, in their order.
use Rattle.std.specs.Prelude.{ℕ, List, [], ◌∷◌, ◌++◌, Bool, true, false, not, ◌&&◌, Some, if◌then◌else◌}
use Rattle.std.specs.List.{list_any, flat_map}
use Rattle.flame_spec.specs.declared.models.Model.{Model}
use Rattle.flame_spec.specs.declared.models.Function.{Function}
use Rattle.flame_spec.specs.declared.trees.Unit as file
use Rattle.flame_spec.specs.declared.faults.CheckFault.{CheckFault}
use Rattle.flame_spec.specs.declared.faults.CheckKind.TheVariants.{DefinedTwice, HasParameters, MissingFunction}
use Rattle.flame_spec.specs.Definitions.{Definition, definitions, is_idle, is_for, has_none, is_helper, helpers_among}
use Rattle.flame_spec.specs.KnownNames.{is_among}
use Rattle.flame_spec.specs.Functions.{Place, functions}
use Rattle.flame_spec.specs.HelperFaults.{helper_context, recursive_faults, deep_faults}
use Rattle.flame_spec.specs.Scopes.{Context, at_entry, after_parameters}
use Rattle.flame_spec.specs.StatementFaults.{parameters_faults, statements_faults}

-- ---- functions that are defined twice

-- the C function, where an earlier one has its name [C, 6.9]
abbrev pub twice_where : Bool → Definition → List CheckFault
twice_where true d = record { kind = DefinedTwice; file = d.file; line = d.line; name = d.name } ∷ []
twice_where false d = []

-- each C function that has the name of an earlier one; before these stand C functions of the earlier names [C, 6.9]
abbrev pub twice_faults : List (List ℕ) → List Definition → List CheckFault
twice_faults earlier [] = []
twice_faults earlier (d ∷ more) = twice_where (is_among d.name earlier) d ++ twice_faults (d.name ∷ earlier) more

-- ---- functions of the model that have parameters

-- the C function is one for the function of the model, which is not `idle` [own]
abbrev pub is_run_by : Definition → Place → Bool
is_run_by d place = not (is_idle place.function) && is_for place.function d

-- the C function, where it has parameters and is one for a function of the model [FLAME User Manual]
abbrev pub with_parameters_where : Bool → Definition → List CheckFault
with_parameters_where true d = record { kind = HasParameters; file = d.file; line = d.line; name = d.name } ∷ []
with_parameters_where false d = []

-- a C function for a function of the model that has parameters [FLAME User Manual]
abbrev pub with_parameters_faults : Model → Definition → List CheckFault
with_parameters_faults model d =
    with_parameters_where (not (has_none d.parameters) && list_any (is_run_by d) (functions model)) d

-- ---- functions that are missing

-- the function of the model, where no C function defines it [FLAME User Manual]
abbrev pub missing_where : Bool → Function → List CheckFault
missing_where true function = record { kind = MissingFunction; file = 0; line = 0; name = function.name } ∷ []
missing_where false function = []

-- a function of the model that is not `idle` and that no C function defines [FLAME User Manual]
abbrev pub missing_faults : List Definition → Place → List CheckFault
missing_faults ds place =
    missing_where (not (is_idle place.function) && not (list_any (is_for place.function) ds)) place.function

-- ---- bodies

-- where a C function is checked for a function of the model [own]
abbrev pub context : Model → List Definition → Definition → Place → Context
context model hs d place = record { model = model; helpers = hs; runs = Some place; file = d.file }

-- the parameters and the body of a C function, where it is checked there; parameters stand in the scope of the body's
-- block [C, 6.9.1]
abbrev pub definition_faults : Context → Definition → List CheckFault
definition_faults context d =
    parameters_faults context at_entry d.parameters
    ++ statements_faults context (after_parameters at_entry d.parameters) d.body

-- a C function, where it is one for this function of the model, which is not `idle` [own]
abbrev pub body_faults : Model → List Definition → Definition → Place → List CheckFault
body_faults model hs d place = if is_run_by d place then definition_faults (context model hs d place) d else []

-- a C function: a helper once; another one for each function of the model that it is one for, in document order. The
-- body for a function `idle` of the model, and a C function without parameters that the model does not name, are passed
-- over [own]
abbrev pub bodies_faults : Model → List Definition → Definition → List CheckFault
bodies_faults model hs d =
    if is_helper model d
    then definition_faults (helper_context model hs d) d
    else flat_map (body_faults model hs d) (functions model)

-- ---- the whole list

-- the faults of these C functions, of which these are helpers: functions that are defined twice, those for functions of
-- the model that have parameters, functions of the model that are missing, a cycle of calls of helpers, calls of helpers
-- that are too deep, and the faults in bodies [own]
abbrev pub faults_with : Model → List Definition → List Definition → List CheckFault
faults_with model hs ds =
    twice_faults [] ds
    ++ flat_map (with_parameters_faults model) ds
    ++ flat_map (missing_faults ds) (functions model)
    ++ recursive_faults model hs
    ++ deep_faults model hs
    ++ flat_map (bodies_faults model hs) ds

-- the check faults of these C functions [own]
abbrev pub faults_of : Model → List Definition → List CheckFault
faults_of model ds = faults_with model (helpers_among model ds) ds

-- the check faults of a model and its function files, which are numbered as they stand [own]
abbrev pub check_faults : Model → List file.Unit → List CheckFault
check_faults model units = faults_of model (definitions units)
