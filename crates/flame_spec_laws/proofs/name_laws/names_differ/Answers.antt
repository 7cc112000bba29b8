use Rattle.std.proofs.Common.{map}
use Rattle.flame_ops.specs.Ascii.{capitals}
use Rattle.flame_spec.specs.KnownNames.{unit_names, message_names}
use Rattle.flame_spec.specs.NameFaults.{type_names}
use Rattle.flame_spec_laws.proofs.Distinct.{distinct, constants_differ, units_differ, messages_differ, types_differ}
use Rattle.flame_spec_laws.proofs.name_laws.names_differ.Goals as goal

pub returns-clause-constants : goal.returns-clause-constants
returns-clause-constants c = λ model none.
    let apart = constants_differ model none in
    (distinct model.constants apart.plain, distinct (map capitals model.constants) apart.shouted)

pub returns-clause-units : goal.returns-clause-units
returns-clause-units c = λ model none. distinct (unit_names model.units) (units_differ model none)

pub returns-clause-messages : goal.returns-clause-messages
returns-clause-messages c = λ model none.
    let apart = messages_differ model none in (
      distinct (message_names model.messages) apart.plain,
      distinct (map capitals (message_names model.messages)) apart.shouted,
    )

pub returns-clause-types : goal.returns-clause-types
returns-clause-types c = λ model none. distinct (type_names model.agents) (types_differ model none)
