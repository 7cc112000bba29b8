-- What loops, fields and jumps are in C functions without faults.
use Rattle.std.proofs.Common.{codes}
use Rattle.flame_rows.proofs.Lists.{append-is_nil_left}
use Rattle.flame_spec.specs.declared.faults.CheckKind.TheVariants.{StrayBreak}
use Rattle.flame_spec.specs.Trees.{field, field_at, loop_over, break, continue}
use Rattle.flame_spec.proofs.FaultTests.{fault_where-none}
use Rattle.flame_spec_laws.specs.BodyParts.{value, doing}
use Rattle.flame_spec_laws.proofs.CheckedBodies.{part-none}
use Rattle.flame_spec_laws.proofs.Sights.{within}
use Rattle.flame_spec_laws.proofs.Loops.{field_read, field_at_read, loop_found, not_nested}
use Rattle.flame_spec_laws.proofs.check_laws.checked_loops.Goals as goal

pub returns-clause-inputs : goal.returns-clause-inputs
returns-clause-inputs c = λ line word body end_line end_word model units d at sight none is stands.
    let (message, found, loop) = loop_found at sight line word body end_line end_word
    (part-none (doing (loop_over line word body end_line end_word)) model units d at sight none is stands) in
    (message.1, loop)

pub returns-clause-fields : goal.returns-clause-fields
returns-clause-fields c = λ line word variable model units d at sight none is stands.
    field_read at sight line word variable
    (part-none (value (field line word variable)) model units d at sight none is stands)

pub returns-clause-elements : goal.returns-clause-elements
returns-clause-elements c = λ line word variable index_line index model units d at sight none is stands.
    field_at_read at sight line word variable
    (append-is_nil_left _ _
    (part-none (value (field_at line word variable index_line index)) model units d at sight none is stands))

pub returns-clause-breaks : goal.returns-clause-breaks
returns-clause-breaks c = λ line model units d at sight none is stands.
    within sight.loops (fault_where-none _ at StrayBreak line (codes "break")
    (part-none (doing (break line)) model units d at sight none is stands))

pub returns-clause-continues : goal.returns-clause-continues
returns-clause-continues c = λ line model units d at sight none is stands.
    within sight.loops (fault_where-none _ at StrayBreak line (codes "continue")
    (part-none (doing (continue line)) model units d at sight none is stands))

pub returns-clause-nested : goal.returns-clause-nested
returns-clause-nested c =
    λ line word body end_line end_word inner_line inner_word inner_body inner_end inner_end_word model units d at sight
    none is stands there inside.
    not_nested at sight there line word body end_line end_word
    inner_line inner_word inner_body inner_end inner_end_word
    (part-none (doing (loop_over line word body end_line end_word)) model units d at sight none is stands) inside
