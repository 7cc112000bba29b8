-- Functions of the model with their types, as they were found.
use Rattle.flame_spec.specs.Functions.{Place}
use Rattle.flame_case_nodes.specs.declared.fitting.Found.{Found}

-- a function with its type and the number of its type [own]
abbrev pub place_in : Found → Place
place_in found = record { agent = found.number; type = found.agent.now; function = found.function.now }
