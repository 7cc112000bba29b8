-- What stands in no helper.
use Rattle.flame_rows.proofs.Lists.{append-is_nil_left}
use Rattle.flame_spec.specs.Trees.{name, get, field, field_at, call, loop_over}
use Rattle.flame_spec.specs.Trees.{at as element}
use Rattle.flame_spec_laws.specs.BodyParts.{value, assigning, doing}
use Rattle.flame_spec_laws.proofs.CheckedBodies.{part-none}
use Rattle.flame_spec_laws.proofs.Names.{name_read, name_indexed, name_assigned}
use Rattle.flame_spec_laws.proofs.Calls.{getter, is_call}
use Rattle.flame_spec_laws.proofs.Loops.{field_read, field_at_read, loop_found}
use Rattle.flame_spec_laws.proofs.Helpers.{no_memory, no_message, no_array, aside, assigns_local, only_helpers}
use Rattle.flame_spec_laws.proofs.helper_laws.helpers_stand_alone.Goals as goal

pub returns-clause-names : goal.returns-clause-names
returns-clause-names c = λ line word model units d at sight none is stands alone.
    aside at alone sight word
    (name_read at sight line word (part-none (value (name line word)) model units d at sight none is stands)).0.means

pub returns-clause-elements : goal.returns-clause-elements
returns-clause-elements c = λ line word index_line index model units d at sight none is stands alone.
    no_array at alone word
    (name_indexed at sight line word index_line index
    (part-none (value (element line word index_line index)) model units d at sight none is stands)).1

pub returns-clause-getters : goal.returns-clause-getters
returns-clause-getters c = λ line word model units d at sight none is stands alone.
    let (variable, among, same, single)
    = getter at line word (part-none (value (get line word)) model units d at sight none is stands) in
    no_memory at alone variable among

pub returns-clause-fields : goal.returns-clause-fields
returns-clause-fields c = λ line word variable model units d at sight none is stands alone.
    let (read, row, single) = field_read at sight line word variable
    (part-none (value (field line word variable)) model units d at sight none is stands) in
    no_message at alone row.message row.known

pub returns-clause-field_elements : goal.returns-clause-field_elements
returns-clause-field_elements c = λ line word variable index_line index model units d at sight none is stands alone.
    let (read, row, array) = field_at_read at sight line word variable
    (append-is_nil_left _ _
    (part-none (value (field_at line word variable index_line index)) model units d at sight none is stands)) in
    no_message at alone row.message row.known

pub returns-clause-assigned : goal.returns-clause-assigned
returns-clause-assigned c = λ a model units d at sight none is stands alone.
    let (assignable, bare, indexed)
    = name_assigned at sight a (part-none (assigning a) model units d at sight none is stands) in
    assigns_local at alone sight a assignable indexed

pub returns-clause-calls : goal.returns-clause-calls
returns-clause-calls c = λ line word arguments model units d at sight none is stands alone.
    only_helpers at alone word arguments
    (is_call at sight line word arguments
    (part-none (doing (call line word arguments)) model units d at sight none is stands))

pub returns-clause-loops : goal.returns-clause-loops
returns-clause-loops c = λ line word body end_line end_word model units d at sight none is stands alone.
    let (message, found, loop) = loop_found at sight line word body end_line end_word
    (part-none (doing (loop_over line word body end_line end_word)) model units d at sight none is stands) in
    no_message at alone message.1 loop.known
