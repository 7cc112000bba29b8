use Rattle.std.proofs.Common.{ap, ◌∙◌}
use Rattle.flame_code.specs.InputRows.{rows_of}
use Rattle.flame_code.proofs.InputMoves.{rows-at_start, rows-at_next}
use Rattle.flame_machine.specs.MachineFrames.{held, framed}
use Rattle.flame_machine.specs.MachineSteps.{seen, told}
use Rattle.flame_machine.proofs.Arms.{in_arm, by_arm, adding_arm, sees_messages, sees_agents, entered, delivered, field_within, field_at_within}
use Rattle.flame_machine.proofs.Inputs.{field-first}
use Rattle.flame_machine.proofs.steps.apply.Goals as goal

pub returns-in-Dup-clause-does : goal.returns-in-Dup-clause-does
returns-in-Dup-clause-does g c place =
    by_arm place c.args.given.now c.args.widths.now (held c.args.frame.now c.args.cells.now) (held c.again.new.frame c.again.new.cells) c.args.locals.now c.args.memory.now (told c.args.widths.now c.args.added.now) (seen c.args.widths.now (g.F.Feed.feeds c.args.feed.now))
    c.again.result c.args.instr.now _ c.in-Dup.is (c.again.ensures.does c.args.given.now c.args.widths.now)

pub returns-in-Neg-clause-does : goal.returns-in-Neg-clause-does
returns-in-Neg-clause-does g c place =
    by_arm place c.args.given.now c.args.widths.now (held c.args.frame.now c.args.cells.now) (held c.opposite.new.frame c.opposite.new.cells) c.args.locals.now c.args.memory.now (told c.args.widths.now c.args.added.now) (seen c.args.widths.now (g.F.Feed.feeds c.args.feed.now))
    c.opposite.result c.args.instr.now _ c.in-Neg.is (c.opposite.ensures.does c.args.given.now c.args.widths.now)

pub returns-in-JumpZero-clause-does : goal.returns-in-JumpZero-clause-does
returns-in-JumpZero-clause-does g c place =
    by_arm place c.args.given.now c.args.widths.now (held c.args.frame.now c.args.cells.now) (held c.jump_zero.new.frame c.jump_zero.new.cells) c.args.locals.now c.args.memory.now (told c.args.widths.now c.args.added.now) (seen c.args.widths.now (g.F.Feed.feeds c.args.feed.now))
    c.jump_zero.result c.args.instr.now _ c.in-JumpZero.is (c.jump_zero.ensures.does c.args.given.now c.args.widths.now)

pub returns-in-JumpNotZero-clause-does : goal.returns-in-JumpNotZero-clause-does
returns-in-JumpNotZero-clause-does g c place =
    by_arm place c.args.given.now c.args.widths.now (held c.args.frame.now c.args.cells.now) (held c.jump_not_zero.new.frame c.jump_not_zero.new.cells) c.args.locals.now c.args.memory.now (told c.args.widths.now c.args.added.now) (seen c.args.widths.now (g.F.Feed.feeds c.args.feed.now))
    c.jump_not_zero.result c.args.instr.now _ c.in-JumpNotZero.is (c.jump_not_zero.ensures.does c.args.given.now c.args.widths.now)

pub returns-in-Call-clause-does : goal.returns-in-Call-clause-does
returns-in-Call-clause-does g c place =
    by_arm place c.args.given.now c.args.widths.now (held c.args.frame.now c.args.cells.now) (held c.pay_call.new.frame c.args.cells.now) c.args.locals.now c.args.memory.now (told c.args.widths.now c.args.added.now) (seen c.args.widths.now (g.F.Feed.feeds c.args.feed.now))
    c.pay_call.result c.args.instr.now _ c.in-Call.is (c.pay_call.ensures.does c.args.given.now c.args.widths.now c.args.cells.now c.requires.room)

pub returns-in-Add-clause-does : goal.returns-in-Add-clause-does
returns-in-Add-clause-does g c place =
    by_arm place c.args.given.now c.args.widths.now (held c.args.frame.now c.args.cells.now) (held c.operate.new.frame c.operate.new.cells) c.args.locals.now c.args.memory.now (told c.args.widths.now c.args.added.now) (seen c.args.widths.now (g.F.Feed.feeds c.args.feed.now))
    c.operate.result c.args.instr.now _ c.in-Add.is (c.operate.ensures.does)

pub returns-in-Sub-clause-does : goal.returns-in-Sub-clause-does
returns-in-Sub-clause-does g c place =
    by_arm place c.args.given.now c.args.widths.now (held c.args.frame.now c.args.cells.now) (held c.operate-in-Sub.new.frame c.operate-in-Sub.new.cells) c.args.locals.now c.args.memory.now (told c.args.widths.now c.args.added.now) (seen c.args.widths.now (g.F.Feed.feeds c.args.feed.now))
    c.operate-in-Sub.result c.args.instr.now _ c.in-Sub.is (c.operate-in-Sub.ensures.does)

pub returns-in-Mul-clause-does : goal.returns-in-Mul-clause-does
returns-in-Mul-clause-does g c place =
    by_arm place c.args.given.now c.args.widths.now (held c.args.frame.now c.args.cells.now) (held c.operate-in-Mul.new.frame c.operate-in-Mul.new.cells) c.args.locals.now c.args.memory.now (told c.args.widths.now c.args.added.now) (seen c.args.widths.now (g.F.Feed.feeds c.args.feed.now))
    c.operate-in-Mul.result c.args.instr.now _ c.in-Mul.is (c.operate-in-Mul.ensures.does)

pub returns-in-Div-clause-does : goal.returns-in-Div-clause-does
returns-in-Div-clause-does g c place =
    by_arm place c.args.given.now c.args.widths.now (held c.args.frame.now c.args.cells.now) (held c.operate-in-Div.new.frame c.operate-in-Div.new.cells) c.args.locals.now c.args.memory.now (told c.args.widths.now c.args.added.now) (seen c.args.widths.now (g.F.Feed.feeds c.args.feed.now))
    c.operate-in-Div.result c.args.instr.now _ c.in-Div.is (c.operate-in-Div.ensures.does)

pub returns-in-Rem-clause-does : goal.returns-in-Rem-clause-does
returns-in-Rem-clause-does g c place =
    by_arm place c.args.given.now c.args.widths.now (held c.args.frame.now c.args.cells.now) (held c.operate-in-Rem.new.frame c.operate-in-Rem.new.cells) c.args.locals.now c.args.memory.now (told c.args.widths.now c.args.added.now) (seen c.args.widths.now (g.F.Feed.feeds c.args.feed.now))
    c.operate-in-Rem.result c.args.instr.now _ c.in-Rem.is (c.operate-in-Rem.ensures.does)

pub returns-in-Lt-clause-does : goal.returns-in-Lt-clause-does
returns-in-Lt-clause-does g c place =
    by_arm place c.args.given.now c.args.widths.now (held c.args.frame.now c.args.cells.now) (held c.operate-in-Lt.new.frame c.operate-in-Lt.new.cells) c.args.locals.now c.args.memory.now (told c.args.widths.now c.args.added.now) (seen c.args.widths.now (g.F.Feed.feeds c.args.feed.now))
    c.operate-in-Lt.result c.args.instr.now _ c.in-Lt.is (c.operate-in-Lt.ensures.does)

pub returns-in-Gt-clause-does : goal.returns-in-Gt-clause-does
returns-in-Gt-clause-does g c place =
    by_arm place c.args.given.now c.args.widths.now (held c.args.frame.now c.args.cells.now) (held c.operate-in-Gt.new.frame c.operate-in-Gt.new.cells) c.args.locals.now c.args.memory.now (told c.args.widths.now c.args.added.now) (seen c.args.widths.now (g.F.Feed.feeds c.args.feed.now))
    c.operate-in-Gt.result c.args.instr.now _ c.in-Gt.is (c.operate-in-Gt.ensures.does)

pub returns-in-Le-clause-does : goal.returns-in-Le-clause-does
returns-in-Le-clause-does g c place =
    by_arm place c.args.given.now c.args.widths.now (held c.args.frame.now c.args.cells.now) (held c.operate-in-Le.new.frame c.operate-in-Le.new.cells) c.args.locals.now c.args.memory.now (told c.args.widths.now c.args.added.now) (seen c.args.widths.now (g.F.Feed.feeds c.args.feed.now))
    c.operate-in-Le.result c.args.instr.now _ c.in-Le.is (c.operate-in-Le.ensures.does)

pub returns-in-Ge-clause-does : goal.returns-in-Ge-clause-does
returns-in-Ge-clause-does g c place =
    by_arm place c.args.given.now c.args.widths.now (held c.args.frame.now c.args.cells.now) (held c.operate-in-Ge.new.frame c.operate-in-Ge.new.cells) c.args.locals.now c.args.memory.now (told c.args.widths.now c.args.added.now) (seen c.args.widths.now (g.F.Feed.feeds c.args.feed.now))
    c.operate-in-Ge.result c.args.instr.now _ c.in-Ge.is (c.operate-in-Ge.ensures.does)

pub returns-in-Eq-clause-does : goal.returns-in-Eq-clause-does
returns-in-Eq-clause-does g c place =
    by_arm place c.args.given.now c.args.widths.now (held c.args.frame.now c.args.cells.now) (held c.operate-in-Eq.new.frame c.operate-in-Eq.new.cells) c.args.locals.now c.args.memory.now (told c.args.widths.now c.args.added.now) (seen c.args.widths.now (g.F.Feed.feeds c.args.feed.now))
    c.operate-in-Eq.result c.args.instr.now _ c.in-Eq.is (c.operate-in-Eq.ensures.does)

pub returns-in-Ne-clause-does : goal.returns-in-Ne-clause-does
returns-in-Ne-clause-does g c place =
    by_arm place c.args.given.now c.args.widths.now (held c.args.frame.now c.args.cells.now) (held c.operate-in-Ne.new.frame c.operate-in-Ne.new.cells) c.args.locals.now c.args.memory.now (told c.args.widths.now c.args.added.now) (seen c.args.widths.now (g.F.Feed.feeds c.args.feed.now))
    c.operate-in-Ne.result c.args.instr.now _ c.in-Ne.is (c.operate-in-Ne.ensures.does)

pub returns-in-Pay-clause-does : goal.returns-in-Pay-clause-does
returns-in-Pay-clause-does g c place =
    by_arm place c.args.given.now c.args.widths.now (held c.args.frame.now c.args.cells.now) (held c.pay.new.frame c.args.cells.now) c.args.locals.now c.args.memory.now (told c.args.widths.now c.args.added.now) (seen c.args.widths.now (g.F.Feed.feeds c.args.feed.now))
    c.pay.result c.args.instr.now _ c.in-Pay.is (c.pay.ensures.does c.args.cells.now)

pub returns-in-MemAt-clause-does : goal.returns-in-MemAt-clause-does
returns-in-MemAt-clause-does g c place =
    in_arm place c.args.given.now c.args.widths.now (framed (held c.args.frame.now c.args.cells.now) c.args.locals.now c.args.memory.now) (told c.args.widths.now c.args.added.now) (seen c.args.widths.now (g.F.Feed.feeds c.args.feed.now))
    (framed (held c.load.new.frame c.load.new.cells) c.args.locals.now c.args.memory.now) (told c.args.widths.now c.args.added.now) c.load.result c.args.instr.now _ c.in-MemAt.is
    (c.load.ensures.does c.args.given.now c.args.widths.now place c.args.locals.now (told c.args.widths.now c.args.added.now) (seen c.args.widths.now (g.F.Feed.feeds c.args.feed.now)))

pub returns-in-SetMemAt-clause-does : goal.returns-in-SetMemAt-clause-does
returns-in-SetMemAt-clause-does g c place =
    in_arm place c.args.given.now c.args.widths.now (framed (held c.args.frame.now c.args.cells.now) c.args.locals.now c.args.memory.now) (told c.args.widths.now c.args.added.now) (seen c.args.widths.now (g.F.Feed.feeds c.args.feed.now))
    (framed (held c.store.new.frame c.store.new.cells) c.args.locals.now c.store.new.memory) (told c.args.widths.now c.args.added.now) c.store.result c.args.instr.now _ c.in-SetMemAt.is
    (c.store.ensures.does c.args.given.now c.args.widths.now place c.args.locals.now (told c.args.widths.now c.args.added.now) (seen c.args.widths.now (g.F.Feed.feeds c.args.feed.now)))

pub returns-in-Field-clause-does : goal.returns-in-Field-clause-does
returns-in-Field-clause-does g c place =
    in_arm place c.args.given.now c.args.widths.now (framed (held c.args.frame.now c.args.cells.now) c.args.locals.now c.args.memory.now) (told c.args.widths.now c.args.added.now) (seen c.args.widths.now (g.F.Feed.feeds c.args.feed.now))
    (framed (held c.read_field.new.frame c.read_field.new.cells) c.args.locals.now c.args.memory.now) (told c.args.widths.now c.args.added.now) c.read_field.result c.args.instr.now _ c.in-Field.is
    (c.read_field.ensures.does c.args.given.now c.args.widths.now (seen c.args.widths.now (g.F.Feed.feeds c.args.feed.now)) (field-first _ _ (g.F.Feed.feeds c.args.feed.now) (field_within _ c.in-Field.is c.requires.within) c.in-Field.column) place c.args.locals.now c.args.memory.now (told c.args.widths.now c.args.added.now))

pub returns-in-FieldAt-clause-does : goal.returns-in-FieldAt-clause-does
returns-in-FieldAt-clause-does g c place =
    in_arm place c.args.given.now c.args.widths.now (framed (held c.args.frame.now c.args.cells.now) c.args.locals.now c.args.memory.now) (told c.args.widths.now c.args.added.now) (seen c.args.widths.now (g.F.Feed.feeds c.args.feed.now))
    (framed (held c.load_field.new.frame c.load_field.new.cells) c.args.locals.now c.args.memory.now) (told c.args.widths.now c.args.added.now) c.load_field.result c.args.instr.now _ c.in-FieldAt.is
    (c.load_field.ensures.does c.args.given.now c.args.widths.now (seen c.args.widths.now (g.F.Feed.feeds c.args.feed.now)) (field-first _ _ (g.F.Feed.feeds c.args.feed.now) (field_at_within _ c.in-FieldAt.is c.requires.within)) place c.args.locals.now c.args.memory.now (told c.args.widths.now c.args.added.now))

pub returns-in-Send-clause-does : goal.returns-in-Send-clause-does
returns-in-Send-clause-does g c place =
    adding_arm place c.args.given.now c.args.widths.now (framed (held c.args.frame.now c.args.cells.now) c.args.locals.now c.args.memory.now) (framed (held c.send.new.frame c.send.new.cells) c.args.locals.now c.args.memory.now)
    c.args.added.now c.send.new.added (seen c.args.widths.now (g.F.Feed.feeds c.args.feed.now)) c.send.result c.args.instr.now _ (sees_messages c.args.widths.now c.in-Send.is c.requires.within) c.in-Send.is
    (c.send.ensures.does c.args.given.now place c.args.locals.now c.args.memory.now (seen c.args.widths.now (g.F.Feed.feeds c.args.feed.now)))

pub returns-in-Send-clause-quiet : goal.returns-in-Send-clause-quiet
returns-in-Send-clause-quiet g c nothing =
    let some = sees_messages c.args.widths.now c.in-Send.is c.requires.within in cc

pub returns-in-Bear-clause-does : goal.returns-in-Bear-clause-does
returns-in-Bear-clause-does g c place =
    adding_arm place c.args.given.now c.args.widths.now (framed (held c.args.frame.now c.args.cells.now) c.args.locals.now c.args.memory.now) (framed (held c.bear.new.frame c.bear.new.cells) c.args.locals.now c.args.memory.now)
    c.args.added.now c.bear.new.added (seen c.args.widths.now (g.F.Feed.feeds c.args.feed.now)) c.bear.result c.args.instr.now _ (sees_agents c.args.widths.now c.in-Bear.is c.requires.within) c.in-Bear.is
    (c.bear.ensures.does c.args.given.now place c.args.locals.now c.args.memory.now (seen c.args.widths.now (g.F.Feed.feeds c.args.feed.now)))

pub returns-in-Bear-clause-quiet : goal.returns-in-Bear-clause-quiet
returns-in-Bear-clause-quiet g c nothing =
    let some = sees_agents c.args.widths.now c.in-Bear.is c.requires.within in cc

pub returns-in-Enter-clause-does : goal.returns-in-Enter-clause-does
returns-in-Enter-clause-does g c place =
    entered place c.args.given.now c.args.widths.now (framed (held c.args.frame.now c.args.cells.now) c.args.locals.now c.args.memory.now) (told c.args.widths.now c.args.added.now) (g.F.Feed.feeds c.args.feed.now) _ c.args.instr.now
    c.in-Enter.input c.in-Enter.is c.requires.within c.begin.ensures

pub returns-in-Next-clause-does : goal.returns-in-Next-clause-does
returns-in-Next-clause-does g c place =
    delivered place c.args.given.now c.args.widths.now (held c.args.frame.now c.args.cells.now) (held c.next_row.new.frame c.args.cells.now) c.args.locals.now c.args.memory.now (told c.args.widths.now c.args.added.now) (g.F.Feed.feeds c.args.feed.now) _ c.args.instr.now c.next_row.result
    c.in-Next.line c.in-Next.input c.in-Next.to c.in-Next.is c.requires.within c.next_row.ensures.moved (c.next_row.ensures.does c.args.cells.now)

pub returns-in-Enter-clause-rows : goal.returns-in-Enter-clause-rows
returns-in-Enter-clause-rows g c = ap rows_of c.begin.ensures ∙ rows-at_start c.in-Enter.input (g.F.Feed.feeds c.args.feed.now)

pub returns-in-Next-clause-rows : goal.returns-in-Next-clause-rows
returns-in-Next-clause-rows g c = ap rows_of c.next_row.ensures.moved ∙ rows-at_next c.in-Next.input (g.F.Feed.feeds c.args.feed.now)
