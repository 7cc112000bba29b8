-- The model comes first.
use Rattle.std.proofs.Common.{◌≡◌, ℕ, List, Ok, ◌∙◌, subst}
use Rattle.flame_outside.specs.Scripts.{outside}
use Rattle.flame_spec.specs.declared.outcomes.Source.{Source}
use Rattle.flame_top.specs.declared.ending.Ending.{Ending}
use Rattle.flame_top.specs.InputAnswers.{Stops}
use Rattle.flame_top.specs.OrderReports.{source_read, trace_source, trace_reading, IsTraceOfSource, IsTraceOfInputs}
use Rattle.flame_top.specs.Standing.{Keeps}
use Rattle.flame_top.specs.TraceAnswers.{CarriesSome}
use Rattle.flame_top.specs.TraceReports.{Traced}
use Rattle.flame_top.proofs.SomeTraces.{some_given, some_stopped}
use Rattle.flame_top.proofs.Standings.{before_files, keeps_behind_reads, keeps_stopped}
use Rattle.flame_top.proofs.traces.carry_trace.Goals as goal

pub returns-in-Ok-clause-carries : goal.returns-in-Ok-clause-carries
returns-in-Ok-clause-carries g c = λ told read held reads.
    let order = c.args.order.now in
    let source = c.in-Ok.program in
    let carried = c.trace_program in
    some_given (source_read read told order.model) (IsTraceOfSource told order)
    (λ (source : Source) (trace : Traced). trace_source told order source trace) source
    carried.result.ending carried.result.files
    (g.D.Depot.seen c.args.depot.now) (g.D.Depot.seen c.program_in.new.depot) (g.S.Sink.seen c.args.out.now)
    (outside (g.D.Depot.seen carried.new.depot) (g.S.Sink.seen carried.new.out))
    c.program_in.ensures.reads
    (subst (λ (name : List ℕ). (source_read read told name).answer ≡ Ok source) c.as_str.ensures
    (c.in-Ok.ensures.gives told read held reads))
    (carried.ensures.carries told (c.program_in.ensures.reads.files ∙ held))

pub returns-in-Ok-clause-keeps : goal.returns-in-Ok-clause-keeps
returns-in-Ok-clause-keeps g c =
    let carried = c.trace_program in
    keeps_behind_reads
    (g.D.Depot.seen c.args.depot.now) (g.D.Depot.seen c.program_in.new.depot) (g.S.Sink.seen c.args.out.now)
    (outside (g.D.Depot.seen carried.new.depot) (g.S.Sink.seen carried.new.out))
    c.program_in.ensures.reads carried.result.ending carried.result.files carried.ensures.keeps

pub returns-in-Err-clause-carries : goal.returns-in-Err-clause-carries
returns-in-Err-clause-carries g c = λ told read held reads.
    let order = c.args.order.now in
    let old = g.D.Depot.seen c.args.depot.now in
    let new = g.D.Depot.seen c.program_in.new.depot in
    let sink = g.S.Sink.seen c.args.out.now in
    let P : Ending → ℕ → Type 0 = λ ending files.
    CarriesSome (IsTraceOfInputs read told order) (trace_reading read told order) ending files
    (outside old sink) (outside new sink) in
    before_files P c.before_files.result c.in-Err.ending c.before_files.ensures.ending c.before_files.ensures.files
    (some_stopped (source_read read told order.model) (IsTraceOfSource told order)
    (λ (source : Source) (trace : Traced). trace_source told order source trace) c.in-Err.ending old new sink
    c.program_in.ensures.reads
    (subst (λ (name : List ℕ). Stops c.in-Err.ending (source_read read told name)) c.as_str.ensures
    (c.in-Err.ensures.gives told read held reads)))

pub returns-in-Err-clause-keeps : goal.returns-in-Err-clause-keeps
returns-in-Err-clause-keeps g c =
    let old = g.D.Depot.seen c.args.depot.now in
    let new = g.D.Depot.seen c.program_in.new.depot in
    let sink = g.S.Sink.seen c.args.out.now in
    let P : Ending → ℕ → Type 0 = λ ending files. Keeps ending files (outside old sink) (outside new sink) in
    before_files P c.before_files.result c.in-Err.ending c.before_files.ensures.ending c.before_files.ensures.files
    (keeps_stopped c.in-Err.ending old new sink c.in-Err.ensures.stops c.in-Err.ensures.read_fault c.program_in.ensures.reads)
