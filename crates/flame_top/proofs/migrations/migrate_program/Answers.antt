use Rattle.std.proofs.Common.{ℕ, sym, subst}
use Rattle.flame_outside.specs.Scripts.{outside}
use Rattle.flame_load.specs.InputReads.{known}
use Rattle.flame_top.specs.declared.ending.Ending.{Ending}
use Rattle.flame_top.specs.OrderReports.{start_read, migrated, migrate_source}
use Rattle.flame_top.specs.Standing.{Carries, Keeps, IsFaulted}
use Rattle.flame_top.proofs.Standings.{before_files, carries_given, carries_known, carries_stopped, keeps_behind_reads, keeps_stopped}
use Rattle.flame_top.proofs.FaultlessEndings.{reading_faultless}
use Rattle.flame_top.proofs.migrations.migrate_program.Goals as goal

pub returns-in-Ok-clause-carries : goal.returns-in-Ok-clause-carries
returns-in-Ok-clause-carries g c = λ told tells.
    let source = c.args.program.now in
    let to = c.args.to.now in
    let written = c.write_population in
    let sink = g.S.Sink.seen c.args.out.now in
    let mid = g.D.Depot.seen c.start_in.new.depot in
    let new = outside (g.D.Depot.seen written.new.depot) (g.S.Sink.seen written.new.out) in
    carries_given (start_read told source 0 c.args.pop.now) (λ start. known (migrated to source start)) c.in-Ok.start
    written.result.ending written.result.files (g.D.Depot.seen c.args.depot.now) mid sink new
    c.in-Ok.ensures.reads (c.in-Ok.ensures.gives told tells)
    (carries_known (migrated to source c.in-Ok.start) written.result.ending written.result.files
    (outside mid sink) new written.ensures.read written.ensures.stands)

pub returns-in-Ok-clause-keeps : goal.returns-in-Ok-clause-keeps
returns-in-Ok-clause-keeps g c =
    let written = c.write_population in
    keeps_behind_reads
    (g.D.Depot.seen c.args.depot.now) (g.D.Depot.seen c.start_in.new.depot) (g.S.Sink.seen c.args.out.now)
    (outside (g.D.Depot.seen written.new.depot) (g.S.Sink.seen written.new.out))
    c.in-Ok.ensures.reads written.result.ending written.result.files written.ensures.keeps

pub returns-in-Err-clause-carries : goal.returns-in-Err-clause-carries
returns-in-Err-clause-carries g c = λ told tells.
    let source = c.args.program.now in
    let pop = c.args.pop.now in
    let to = c.args.to.now in
    let old = g.D.Depot.seen c.args.depot.now in
    let new = g.D.Depot.seen c.start_in.new.depot in
    let sink = g.S.Sink.seen c.args.out.now in
    let P : Ending → ℕ → Type 0 = λ ending files.
    Carries (migrate_source told source pop to) ending files (outside old sink) (outside new sink) in
    before_files P c.before_files.result c.in-Err.ending c.before_files.ensures.ending c.before_files.ensures.files
    (carries_stopped (start_read told source 0 pop) (λ start. known (migrated to source start))
    old new sink c.in-Err.ensures.reads c.in-Err.ending (c.in-Err.ensures.gives told tells))

pub returns-in-Err-clause-keeps : goal.returns-in-Err-clause-keeps
returns-in-Err-clause-keeps g c =
    let old = g.D.Depot.seen c.args.depot.now in
    let new = g.D.Depot.seen c.start_in.new.depot in
    let sink = g.S.Sink.seen c.args.out.now in
    let P : Ending → ℕ → Type 0 = λ ending files. Keeps ending files (outside old sink) (outside new sink) in
    before_files P c.before_files.result c.in-Err.ending c.before_files.ensures.ending c.before_files.ensures.files
    (keeps_stopped c.in-Err.ending old new sink c.in-Err.ensures.stops c.in-Err.ensures.read_fault c.in-Err.ensures.reads)

pub returns-in-Err-clause-faultless : goal.returns-in-Err-clause-faultless
returns-in-Err-clause-faultless g c =
    subst (λ (ending : Ending). ¬ IsFaulted ending) (sym c.before_files.ensures.ending)
    (reading_faultless c.in-Err.ending c.in-Err.ensures.stops)
