-- Heads of `for`: the words that only bodies and proofs use.
use Rattle.std.specs.Prelude.{List, ◌++◌, option_map}
use Rattle.flame_spec.specs.declared.faults.CheckFault.{CheckFault}
use Rattle.flame_spec.specs.declared.trees.Head.{Head}
use Rattle.flame_spec.specs.ExpressionFaults.{optional_faults}
use Rattle.flame_spec.specs.Scopes.{Context, Sight, after_all}
use Rattle.flame_spec.specs.Seen.{Headed, assigned, expression, statements}
use Rattle.flame_spec.specs.StatementFaults.{optional_assignment_faults, statements_faults}
use Rattle.flame_body.specs.declared.slots.SlotHead.{SlotHead}
use Rattle.flame_body.specs.NumberedTrees.{numbered, numbered_assignment, numbered_statements}

-- the head of a `for` [own]
abbrev pub head_seen : Head → Headed
head_seen head = record {
  first = statements head.first;
  test = option_map expression head.test;
  step = option_map assigned head.step;
}

-- the faults of a head, in whose scope the place is already [own]
abbrev pub head_faults : Context → Sight → Headed → List CheckFault
head_faults context sight head =
    statements_faults context sight head.first
    ++ optional_faults context (after_all sight head.first) head.test
    ++ optional_assignment_faults context (after_all sight head.first) head.step

-- a head with numbers in place of names, in whose scope the place is already [own]
abbrev pub numbered_head : Context → Sight → Headed → SlotHead
numbered_head context sight head = record {
  first = numbered_statements context sight head.first;
  test = option_map (numbered context (after_all sight head.first)) head.test;
  step = option_map (numbered_assignment context (after_all sight head.first)) head.step;
}
