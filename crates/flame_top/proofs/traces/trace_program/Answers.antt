-- The population comes first.
use Rattle.std.proofs.Common.{◌≡◌, ℕ, List, Ok, subst}
use Rattle.flame_outside.specs.Scripts.{outside}
use Rattle.flame_popfile.specs.declared.starts.Start.{Start}
use Rattle.flame_load.specs.InputReads.{known}
use Rattle.flame_top.specs.declared.ending.Ending.{Ending}
use Rattle.flame_top.specs.InputAnswers.{Stops}
use Rattle.flame_top.specs.OrderReports.{start_read, trace_source, IsTraceOfSource}
use Rattle.flame_top.specs.Standing.{Keeps}
use Rattle.flame_top.specs.TraceAnswers.{CarriesSome}
use Rattle.flame_top.specs.TraceReports.{Traced, IsTraceOf, traced}
use Rattle.flame_top.proofs.SomeTraces.{some_given, some_stopped}
use Rattle.flame_top.proofs.Standings.{before_files, keeps_behind_reads, keeps_stopped}
use Rattle.flame_top.proofs.traces.trace_program.Goals as goal

pub returns-in-Ok-clause-carries : goal.returns-in-Ok-clause-carries
returns-in-Ok-clause-carries g c = λ told held.
    let order = c.args.order.now in
    let source = c.args.program.now in
    let carried = c.trace_from in
    some_given (start_read told source 1 order.pop) (IsTraceOf order source)
    (λ (start : Start) (trace : Traced). known (traced order source start trace)) c.in-Ok.start
    carried.result.ending carried.result.files
    (g.D.Depot.seen c.args.depot.now) (g.D.Depot.seen c.start_in.new.depot) (g.S.Sink.seen c.args.out.now)
    (outside (g.D.Depot.seen carried.new.depot) (g.S.Sink.seen carried.new.out))
    c.start_in.ensures.reads
    (subst (λ (name : List ℕ). (start_read told source 1 name).answer ≡ Ok c.in-Ok.start) c.as_str.ensures
    (c.in-Ok.ensures.gives told held))
    carried.ensures.carries

pub returns-in-Ok-clause-keeps : goal.returns-in-Ok-clause-keeps
returns-in-Ok-clause-keeps g c =
    let carried = c.trace_from in
    keeps_behind_reads
    (g.D.Depot.seen c.args.depot.now) (g.D.Depot.seen c.start_in.new.depot) (g.S.Sink.seen c.args.out.now)
    (outside (g.D.Depot.seen carried.new.depot) (g.S.Sink.seen carried.new.out))
    c.start_in.ensures.reads carried.result.ending carried.result.files carried.ensures.keeps

pub returns-in-Err-clause-carries : goal.returns-in-Err-clause-carries
returns-in-Err-clause-carries g c = λ told held.
    let order = c.args.order.now in
    let source = c.args.program.now in
    let old = g.D.Depot.seen c.args.depot.now in
    let new = g.D.Depot.seen c.start_in.new.depot in
    let sink = g.S.Sink.seen c.args.out.now in
    let P : Ending → ℕ → Type 0 = λ ending files.
    CarriesSome (IsTraceOfSource told order source) (trace_source told order source) ending files
    (outside old sink) (outside new sink) in
    before_files P c.before_files.result c.in-Err.ending c.before_files.ensures.ending c.before_files.ensures.files
    (some_stopped (start_read told source 1 order.pop) (IsTraceOf order source)
    (λ (start : Start) (trace : Traced). known (traced order source start trace)) c.in-Err.ending old new sink
    c.start_in.ensures.reads
    (subst (λ (name : List ℕ). Stops c.in-Err.ending (start_read told source 1 name)) c.as_str.ensures
    (c.in-Err.ensures.gives told held)))

pub returns-in-Err-clause-keeps : goal.returns-in-Err-clause-keeps
returns-in-Err-clause-keeps g c =
    let old = g.D.Depot.seen c.args.depot.now in
    let new = g.D.Depot.seen c.start_in.new.depot in
    let sink = g.S.Sink.seen c.args.out.now in
    let P : Ending → ℕ → Type 0 = λ ending files. Keeps ending files (outside old sink) (outside new sink) in
    before_files P c.before_files.result c.in-Err.ending c.before_files.ensures.ending c.before_files.ensures.files
    (keeps_stopped c.in-Err.ending old new sink c.in-Err.ensures.stops c.in-Err.ensures.read_fault c.start_in.ensures.reads)
