-- The bodies of a C function, by the numbers of the functions of the model that it is one for.
use Rattle.std.proofs.Common.{◌≡◌, ℕ, ◌+◌, List, ap, ◌∙◌, arith}
use Rattle.std.specs.Prelude.{slice_get}
use Rattle.std.specs.List.{flat_map}
use Rattle.flame_spec.specs.declared.faults.CheckFault.{CheckFault}
use Rattle.flame_spec.specs.CheckFaults.{body_faults, context, definition_faults, is_run_by}
use Rattle.flame_spec.specs.Definitions.{Definition, helpers}
use Rattle.flame_spec.specs.Functions.{functions}
use Rattle.flame_spec.specs.Lists.{numbers_where}
use Rattle.flame_spec.specs.Scopes.{Context}
use Rattle.flame_lookup.specs.Sources.{Sources}
use Rattle.flame_check.proofs.Members.{by_numbers}

-- where the C function is checked for the function of the model of this number
abbrev pub context_by : Sources → Definition → ℕ → Context
context_by sources d number = record {
  model = sources.model;
  helpers = helpers sources.model sources.units;
  runs = slice_get (functions sources.model) number;
  file = d.file;
}

-- its faults there
abbrev pub faults_by : Sources → Definition → ℕ → List CheckFault
faults_by sources d number = definition_faults (context_by sources d number) d

-- the faults for all functions of the model that it is one for
pub faults_by_numbers :
    (sources : Sources) (d : Definition)
    → flat_map (body_faults sources.model (helpers sources.model sources.units) d) (functions sources.model)
    ≡ flat_map (faults_by sources d) (numbers_where (is_run_by d) (functions sources.model))
faults_by_numbers sources d =
    by_numbers (is_run_by d)
    (λ place. definition_faults (context sources.model (helpers sources.model sources.units) d place) d)
    (faults_by sources d) 0 (functions sources.model)
    (λ i place h.
    let e : 0 + i ≡ i = omega arith in
    ap (faults_by sources d) e
    ∙ ap
    (λ runs. definition_faults
    (record { model = sources.model; helpers = helpers sources.model sources.units; runs = runs; file = d.file }) d)
    h)
