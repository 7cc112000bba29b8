use Rattle.std.proofs.Common.{◌≡◌, drop}
use Rattle.std.specs.List.{flat_map}
use Rattle.flame_spec.specs.CheckFaults.{body_faults}
use Rattle.flame_spec.specs.Definitions.{helpers}
use Rattle.flame_spec.specs.Functions.{functions}
use Rattle.flame_lookup.specs.WordsFound.{definition_found}
use Rattle.flame_check.proofs.Walks.{faults_by}
use Rattle.flame_check.proofs.walking.clean_for_all.Given as goal

abbrev pub invariant-loop-number : goal.invariant-loop-number
invariant-loop-number l =
    flat_map
    (body_faults l.tables.model (helpers l.tables.model l.tables.units) (definition_found l.function))
    (functions l.tables.model)
    ≡ flat_map (faults_by l.tables (definition_found l.function)) (drop l.number-index l.numbers)
