-- The trace comes last.
use Rattle.std.proofs.Common.{ℕ, List, sym, subst}
use Rattle.flame_outside.specs.Scripts.{outside}
use Rattle.flame_trace.specs.TraceVerdicts.{verdict}
use Rattle.flame_top.specs.declared.ending.Ending.{Ending}
use Rattle.flame_top.specs.OrderReports.{trace_read, replay_start}
use Rattle.flame_top.specs.TraceReports.{replayed}
use Rattle.flame_top.specs.TraceAnswers.{EndsReplay}
use Rattle.flame_top.specs.Standing.{Carries, Keeps, IsFaulted}
use Rattle.flame_top.proofs.Standings.{before_files, carries_given, carries_stopped, keeps_behind_reads, keeps_stopped}
use Rattle.flame_top.proofs.ReplayEndings.{verdict_carries, verdict_keeps}
use Rattle.flame_top.proofs.FaultlessEndings.{reading_faultless, verdict_faultless}
use Rattle.flame_top.proofs.replays.replay_from.Goals as goal

pub returns-in-Ok-clause-carries : goal.returns-in-Ok-clause-carries
returns-in-Ok-clause-carries g c = λ told tells.
    let source = c.args.program.now in
    let start = c.args.start.now in
    let name = c.args.name.now in
    let old = g.D.Depot.seen c.args.depot.now in
    let mid = g.D.Depot.seen c.trace_in.new.depot in
    let sink = g.S.Sink.seen c.args.out.now in
    let sink' = g.S.Sink.seen c.check_trace.new.out in
    let ended =
    subst (λ (bytes : List ℕ). EndsReplay name (verdict source start bytes) sink sink' c.check_trace.result)
    c.bytes-in-Ok.ensures c.check_trace.ensures.ends in
    let P : Ending → ℕ → Type 0 = λ ending files.
    Carries (replay_start told source start name) ending files (outside old sink) (outside mid sink') in
    before_files P c.before_files.result c.check_trace.result c.before_files.ensures.ending c.before_files.ensures.files
    (carries_given (trace_read told name) (λ bytes. replayed name (verdict source start bytes)) c.in-Ok.bytes
    c.check_trace.result 0 old mid sink (outside mid sink') c.in-Ok.ensures.reads (c.in-Ok.ensures.gives told tells)
    (verdict_carries mid sink sink' name (verdict source start c.in-Ok.bytes) c.check_trace.result ended))

pub returns-in-Ok-clause-keeps : goal.returns-in-Ok-clause-keeps
returns-in-Ok-clause-keeps g c =
    let source = c.args.program.now in
    let start = c.args.start.now in
    let name = c.args.name.now in
    let old = g.D.Depot.seen c.args.depot.now in
    let mid = g.D.Depot.seen c.trace_in.new.depot in
    let sink = g.S.Sink.seen c.args.out.now in
    let sink' = g.S.Sink.seen c.check_trace.new.out in
    let ended =
    subst (λ (bytes : List ℕ). EndsReplay name (verdict source start bytes) sink sink' c.check_trace.result)
    c.bytes-in-Ok.ensures c.check_trace.ensures.ends in
    let P : Ending → ℕ → Type 0 = λ ending files. Keeps ending files (outside old sink) (outside mid sink') in
    before_files P c.before_files.result c.check_trace.result c.before_files.ensures.ending c.before_files.ensures.files
    (keeps_behind_reads old mid sink (outside mid sink') c.in-Ok.ensures.reads c.check_trace.result 0
    (verdict_keeps mid sink sink' name (verdict source start c.in-Ok.bytes) c.check_trace.result ended c.check_trace.ensures.grows))

pub returns-in-Err-clause-carries : goal.returns-in-Err-clause-carries
returns-in-Err-clause-carries g c = λ told tells.
    let source = c.args.program.now in
    let start = c.args.start.now in
    let name = c.args.name.now in
    let old = g.D.Depot.seen c.args.depot.now in
    let new = g.D.Depot.seen c.trace_in.new.depot in
    let sink = g.S.Sink.seen c.args.out.now in
    let P : Ending → ℕ → Type 0 = λ ending files.
    Carries (replay_start told source start name) ending files (outside old sink) (outside new sink) in
    before_files P c.before_files-in-Err.result c.in-Err.ending c.before_files-in-Err.ensures.ending c.before_files-in-Err.ensures.files
    (carries_stopped (trace_read told name) (λ bytes. replayed name (verdict source start bytes))
    old new sink c.in-Err.ensures.reads c.in-Err.ending (c.in-Err.ensures.gives told tells))

pub returns-in-Err-clause-keeps : goal.returns-in-Err-clause-keeps
returns-in-Err-clause-keeps g c =
    let old = g.D.Depot.seen c.args.depot.now in
    let new = g.D.Depot.seen c.trace_in.new.depot in
    let sink = g.S.Sink.seen c.args.out.now in
    let P : Ending → ℕ → Type 0 = λ ending files. Keeps ending files (outside old sink) (outside new sink) in
    before_files P c.before_files-in-Err.result c.in-Err.ending c.before_files-in-Err.ensures.ending c.before_files-in-Err.ensures.files
    (keeps_stopped c.in-Err.ending old new sink c.in-Err.ensures.stops c.in-Err.ensures.read_fault c.in-Err.ensures.reads)

pub returns-in-Ok-clause-faultless : goal.returns-in-Ok-clause-faultless
returns-in-Ok-clause-faultless g c =
    subst (λ (ending : Ending). ¬ IsFaulted ending) (sym c.before_files.ensures.ending)
    (verdict_faultless c.args.name.now (verdict c.args.program.now c.args.start.now c.bytes-in-Ok.result.now) c.check_trace.result
    (g.S.Sink.seen c.args.out.now) (g.S.Sink.seen c.check_trace.new.out) c.check_trace.ensures.ends)

pub returns-in-Err-clause-faultless : goal.returns-in-Err-clause-faultless
returns-in-Err-clause-faultless g c =
    subst (λ (ending : Ending). ¬ IsFaulted ending) (sym c.before_files-in-Err.ensures.ending)
    (reading_faultless c.in-Err.ending c.in-Err.ensures.stops)
