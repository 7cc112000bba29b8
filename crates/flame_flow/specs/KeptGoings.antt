-- How what goes on is kept.
use Rattle.flame_flow.specs.declared.goings.GoingOn.{GoingOn}
use Rattle.flame_flow.specs.Goings.{Going}

-- its core, what is due, and what may be over [own]
abbrev pub going_of : GoingOn → Going
going_of going = record { core = going.told.seen.core; due = going.due; over = going.over.items }
