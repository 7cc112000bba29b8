use Rattle.std.proofs.Common.{ℕ, Option, List, subst}
use Rattle.flame_outside.specs.Scripts.{outside}
use Rattle.flame_world.specs.declared.faults.SimFault.{SimFault}
use Rattle.flame_load.specs.InputReads.{known}
use Rattle.flame_top.specs.Standing.{Stands}
use Rattle.flame_top.specs.TraceAnswers.{text_of}
use Rattle.flame_top.specs.TraceReports.{IsTraceOf, traced_with, traced}
use Rattle.flame_top.proofs.OrderedWords.{nothing_keeps}
use Rattle.flame_top.proofs.SomeTraces.{some_known, some_nothing}
use Rattle.flame_top.proofs.traces.trace_from.Goals as goal

pub returns-in-Ok-clause-carries : goal.returns-in-Ok-clause-carries
returns-in-Ok-clause-carries g c =
    let order = c.args.order.now in
    let source = c.args.program.now in
    let start = c.args.start in
    let wrote = c.write_trace in
    let old = outside (g.D.Depot.seen c.args.depot.now) (g.S.Sink.seen c.args.out.now) in
    let new = outside (g.D.Depot.seen wrote.new.depot) (g.S.Sink.seen wrote.new.out) in
    let text = text_of c.in-Ok.written in
    some_known (IsTraceOf order source start) (traced order source start) text
    wrote.result.ending wrote.result.files old new c.in-Ok.ensures.trace wrote.ensures.read
    (subst (λ (fault : Option SimFault). Stands wrote.result.ending wrote.result.files (traced_with source.model order.out text fault) old new)
    c.in-Ok.ensures.fault
    (subst (λ (name : List ℕ). Stands wrote.result.ending wrote.result.files (traced_with source.model name text c.in-Ok.written.fault) old new)
    c.as_str.ensures wrote.ensures.stands))

pub returns-in-Err-clause-carries : goal.returns-in-Err-clause-carries
returns-in-Err-clause-carries g c =
    let order = c.args.order.now in
    let source = c.args.program.now in
    let start = c.args.start in
    let out = outside (g.D.Depot.seen c.args.depot.now) (g.S.Sink.seen c.args.out.now) in
    rw (c.before_files.ensures.ending, c.before_files.ensures.files)
    (some_nothing (IsTraceOf order source start) (λ trace. known (traced order source start trace)) out)

pub returns-in-Err-clause-keeps : goal.returns-in-Err-clause-keeps
returns-in-Err-clause-keeps g c =
    rw (c.before_files.ensures.ending, c.before_files.ensures.files)
    (nothing_keeps (outside (g.D.Depot.seen c.args.depot.now) (g.S.Sink.seen c.args.out.now)))
