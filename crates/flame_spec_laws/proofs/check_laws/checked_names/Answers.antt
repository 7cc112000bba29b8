-- What names stand for in C functions without faults.
use Rattle.flame_spec.specs.Trees.{name}
use Rattle.flame_spec.specs.Trees.{at as element}
use Rattle.flame_spec_laws.specs.BodyParts.{value, assigning, declaring, defining}
use Rattle.std.proofs.Common.{◌∷◌}
use Rattle.flame_spec_laws.proofs.CheckedBodies.{part-none}
use Rattle.flame_spec_laws.proofs.Names.{name_read, name_indexed, name_assigned, name_declared, parameter_declared}
use Rattle.flame_spec_laws.proofs.check_laws.checked_names.Goals as goal

pub returns-clause-visible : goal.returns-clause-visible
returns-clause-visible c = λ line word model units d at sight none is stands.
    name_read at sight line word (part-none (value (name line word)) model units d at sight none is stands)

pub returns-clause-indexed : goal.returns-clause-indexed
returns-clause-indexed c = λ line word index_line index model units d at sight none is stands.
    name_indexed at sight line word index_line index
    (part-none (value (element line word index_line index)) model units d at sight none is stands)

pub returns-clause-assigned : goal.returns-clause-assigned
returns-clause-assigned c = λ a model units d at sight none is stands.
    name_assigned at sight a (part-none (assigning a) model units d at sight none is stands)

pub returns-clause-declared : goal.returns-clause-declared
returns-clause-declared c = λ item items model units d at sight none is stands.
    name_declared at sight item items
    (part-none (declaring (item ∷ items)) model units d at sight none is stands)

pub returns-clause-parameters : goal.returns-clause-parameters
returns-clause-parameters c = λ parameter parameters body model units d at sight none is stands.
    parameter_declared at sight parameter parameters body
    (part-none (defining (parameter ∷ parameters) body) model units d at sight none is stands)
