-- What calls are in C functions without faults.
use Rattle.flame_spec.specs.Trees.{get, call, called}
use Rattle.flame_spec_laws.specs.BodyParts.{value, whole, storing, doing}
use Rattle.flame_spec_laws.proofs.CheckedBodies.{part-none}
use Rattle.flame_spec_laws.proofs.Calls.{getter, helper_call, is_call}
use Rattle.flame_spec_laws.proofs.Loops.{whole_array}
use Rattle.flame_spec_laws.proofs.check_laws.checked_calls.Goals as goal

pub returns-clause-getters : goal.returns-clause-getters
returns-clause-getters c = λ line word model units d at sight none is stands.
    getter at line word (part-none (value (get line word)) model units d at sight none is stands)

pub returns-clause-called : goal.returns-clause-called
returns-clause-called c = λ line word arguments model units d at sight none is stands.
    helper_call at sight line word arguments
    (part-none (storing (called line word arguments)) model units d at sight none is stands)

pub returns-clause-forms : goal.returns-clause-forms
returns-clause-forms c = λ line word arguments model units d at sight none is stands.
    is_call at sight line word arguments
    (part-none (doing (call line word arguments)) model units d at sight none is stands)

pub returns-clause-arrays : goal.returns-clause-arrays
returns-clause-arrays c = λ line word size e model units d at sight none is stands.
    whole_array at sight line word size e
    (part-none (whole line word size e) model units d at sight none is stands)
