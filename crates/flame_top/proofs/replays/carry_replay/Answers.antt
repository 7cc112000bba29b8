-- The model comes first.
use Rattle.std.proofs.Common.{ℕ, sym, ◌∙◌, subst}
use Rattle.flame_outside.specs.Scripts.{outside}
use Rattle.flame_top.specs.declared.ending.Ending.{Ending}
use Rattle.flame_top.specs.OrderReports.{source_read, replay_source, replay_reading}
use Rattle.flame_top.specs.Standing.{Carries, Keeps, IsFaulted}
use Rattle.flame_top.proofs.Standings.{before_files, carries_given, carries_stopped, keeps_behind_reads, keeps_stopped}
use Rattle.flame_top.proofs.FaultlessEndings.{reading_faultless}
use Rattle.flame_top.proofs.replays.carry_replay.Goals as goal

pub returns-in-Ok-clause-carries : goal.returns-in-Ok-clause-carries
returns-in-Ok-clause-carries g c = λ told read tells reads.
    let carried = c.replay_program in
    carries_given (source_read read told c.args.model.now)
    (λ source. replay_source told source c.args.pop.now c.args.name.now) c.in-Ok.program
    carried.result.ending carried.result.files
    (g.D.Depot.seen c.args.depot.now) (g.D.Depot.seen c.program_in.new.depot) (g.S.Sink.seen c.args.out.now)
    (outside (g.D.Depot.seen carried.new.depot) (g.S.Sink.seen carried.new.out))
    c.in-Ok.ensures.reads (c.in-Ok.ensures.gives told read tells reads)
    (carried.ensures.carries told (c.in-Ok.ensures.reads.files ∙ tells))

pub returns-in-Ok-clause-keeps : goal.returns-in-Ok-clause-keeps
returns-in-Ok-clause-keeps g c =
    let carried = c.replay_program in
    keeps_behind_reads
    (g.D.Depot.seen c.args.depot.now) (g.D.Depot.seen c.program_in.new.depot) (g.S.Sink.seen c.args.out.now)
    (outside (g.D.Depot.seen carried.new.depot) (g.S.Sink.seen carried.new.out))
    c.in-Ok.ensures.reads carried.result.ending carried.result.files carried.ensures.keeps

pub returns-in-Err-clause-carries : goal.returns-in-Err-clause-carries
returns-in-Err-clause-carries g c = λ told read tells reads.
    let model = c.args.model.now in
    let pop = c.args.pop.now in
    let name = c.args.name.now in
    let old = g.D.Depot.seen c.args.depot.now in
    let new = g.D.Depot.seen c.program_in.new.depot in
    let sink = g.S.Sink.seen c.args.out.now in
    let P : Ending → ℕ → Type 0 = λ ending files.
    Carries (replay_reading read told model pop name) ending files (outside old sink) (outside new sink) in
    before_files P c.before_files.result c.in-Err.ending c.before_files.ensures.ending c.before_files.ensures.files
    (carries_stopped (source_read read told model) (λ source. replay_source told source pop name)
    old new sink c.in-Err.ensures.reads c.in-Err.ending (c.in-Err.ensures.gives told read tells reads))

pub returns-in-Err-clause-keeps : goal.returns-in-Err-clause-keeps
returns-in-Err-clause-keeps g c =
    let old = g.D.Depot.seen c.args.depot.now in
    let new = g.D.Depot.seen c.program_in.new.depot in
    let sink = g.S.Sink.seen c.args.out.now in
    let P : Ending → ℕ → Type 0 = λ ending files. Keeps ending files (outside old sink) (outside new sink) in
    before_files P c.before_files.result c.in-Err.ending c.before_files.ensures.ending c.before_files.ensures.files
    (keeps_stopped c.in-Err.ending old new sink c.in-Err.ensures.stops c.in-Err.ensures.read_fault c.in-Err.ensures.reads)

pub returns-in-Err-clause-faultless : goal.returns-in-Err-clause-faultless
returns-in-Err-clause-faultless g c =
    subst (λ (ending : Ending). ¬ IsFaulted ending) (sym c.before_files.ensures.ending)
    (reading_faultless c.in-Err.ending c.in-Err.ensures.stops)
