use Rattle.std.proofs.Common.{◌≡◌, ◌≤◌, true, sym, subst, Option, Some, arith}
use Rattle.flame_spec.specs.declared.outcomes.Widths.{Widths}
use Rattle.flame_code.specs.declared.instrs.Instr.{Instr}
use Rattle.flame_code.specs.Machine.{act}
use Rattle.flame_machine.specs.MachineFrames.{held, framed, config}
use Rattle.flame_machine.specs.MachineSteps.{seen, told, adds_nothing, Stepped}
use Rattle.flame_machine.proofs.Places.{ready_within, some_left, instr_here}
use Rattle.flame_code.specs.Routines.{takes}
use Rattle.flame_machine.proofs.Stacks.{as_tall}
use Rattle.flame_machine.proofs.Standing.{has_room, has_locals, has_fields}
use Rattle.flame_machine.specs.Running.{place_of}
use Rattle.flame_machine.proofs.running.turn.Goals as goal

pub first_of-instr-requires : goal.first_of-instr-requires
first_of-instr-requires g c =
    some_left c.args.code.now c.args.rest.now
    (ready_within c.args.code.now (place_of c.args.code.now c.args.rest.now) (framed (held c.args.frame.now c.args.cells.now) c.args.locals.now c.args.memory.now) (told c.args.code.now.widths c.args.added.now) (g.F.Feed.feeds c.args.feed.now) c.requires.valid c.requires.ready)

pub apply-requires-clause-room : goal.apply-requires-clause-room
apply-requires-clause-room g c =
    let room = has_room c.args.code.now c.requires.valid (place_of c.args.code.now c.args.rest.now) (framed (held c.args.frame.now c.args.cells.now) c.args.locals.now c.args.memory.now) (told c.args.code.now.widths c.args.added.now) (g.F.Feed.feeds c.args.feed.now) c.requires.ready in
    let tall = as_tall c.args.frame.now c.args.cells.now c.requires.fits in
    omega (arith, room, tall)

pub apply-requires-clause-pops : goal.apply-requires-clause-pops
apply-requires-clause-pops g c =
    let at = instr_here c.args.code.now c.args.rest.now c.requires.left c.first_of-instr.result.now c.first_of-instr.ensures in
    let tall = as_tall c.args.frame.now c.args.cells.now c.requires.fits in
    let pops = c.requires.valid.pops c.requires.ready.stands.path at in
    subst (λ (w : Widths). takes w c.first_of-instr.result.now ≤ c.args.frame.now.height) (sym c.widths.ensures)
    (subst (λ n. takes c.args.code.now.widths c.first_of-instr.result.now ≤ n) tall pops)

pub apply-requires-clause-locals : goal.apply-requires-clause-locals
apply-requires-clause-locals g c =
    has_locals c.args.code.now c.requires.valid (place_of c.args.code.now c.args.rest.now) (framed (held c.args.frame.now c.args.cells.now) c.args.locals.now c.args.memory.now) (told c.args.code.now.widths c.args.added.now) (g.F.Feed.feeds c.args.feed.now) c.requires.ready c.first_of-instr.result.now
    (instr_here c.args.code.now c.args.rest.now c.requires.left c.first_of-instr.result.now c.first_of-instr.ensures)

pub apply-requires-clause-fields : goal.apply-requires-clause-fields
apply-requires-clause-fields g c =
    has_fields c.args.code.now c.requires.valid (place_of c.args.code.now c.args.rest.now) (framed (held c.args.frame.now c.args.cells.now) c.args.locals.now c.args.memory.now) (told c.args.code.now.widths c.args.added.now) (g.F.Feed.feeds c.args.feed.now) c.requires.ready c.first_of-instr.result.now
    (instr_here c.args.code.now c.args.rest.now c.requires.left c.first_of-instr.result.now c.first_of-instr.ensures)

pub returns-clause-does : goal.returns-clause-does
returns-clause-does g c =
    let code = c.args.code.now in
    let place = place_of code c.args.rest.now in
    let before = g.F.Feed.feeds c.args.feed.now in
    let after = g.F.Feed.feeds c.apply.new.feed in
    let old = framed (held c.args.frame.now c.args.cells.now) c.args.locals.now c.args.memory.now in
    let new = framed (held c.apply.new.frame c.apply.new.cells) c.apply.new.locals c.apply.new.memory in
    let at = instr_here code c.args.rest.now c.requires.left c.first_of-instr.result.now c.first_of-instr.ensures in
    subst (λ (o : Option Instr). Stepped place (act c.args.given.now code.widths o (config place old (told code.widths c.args.added.now) (seen code.widths before)))
    new (told code.widths c.apply.new.added) (seen code.widths after) c.apply.result) (sym at)
    (subst (λ (w : Widths). Stepped place (act c.args.given.now w (Some c.first_of-instr.result.now) (config place old (told w c.args.added.now) (seen w before)))
    new (told w c.apply.new.added) (seen w after) c.apply.result) c.widths.ensures (c.apply.ensures.does place))

pub returns-clause-quiet : goal.returns-clause-quiet
returns-clause-quiet g c nothing =
    c.apply.ensures.quiet (subst (λ (w : Widths). adds_nothing w ≡ true) (sym c.widths.ensures) nothing)
