-- The population comes first.
use Rattle.std.proofs.Common.{◌≡◌, ℕ, List, Ok, subst}
use Rattle.flame_outside.specs.Scripts.{outside}
use Rattle.flame_load.specs.InputReads.{known}
use Rattle.flame_top.specs.declared.ending.Ending.{Ending}
use Rattle.flame_top.specs.InputAnswers.{Stops}
use Rattle.flame_top.specs.OrderReports.{ordered_run, start_read, run_of_source}
use Rattle.flame_top.specs.Standing.{Carries, Keeps}
use Rattle.flame_top.proofs.Standings.{before_files, carries_stopped, keeps_stopped, keeps_behind_reads}
use Rattle.flame_top.proofs.DrivenRuns.{run_carries}
use Rattle.flame_top.proofs.runs.run_program.Goals as goal

pub returns-in-Ok-clause-carries : goal.returns-in-Ok-clause-carries
returns-in-Ok-clause-carries g c = λ told held.
    let order = c.args.order.now in
    let source = c.args.program.now in
    let start = c.in-Ok.start in
    let new = outside (g.D.Depot.seen c.run_from.new.depot) (g.S.Sink.seen c.run_from.new.out) in
    run_carries told order source start c.run_from.result.ending c.run_from.result.files
    (g.D.Depot.seen c.args.depot.now) (g.D.Depot.seen c.start_in.new.depot) (g.S.Sink.seen c.args.out.now) new
    c.start_in.ensures.reads
    (subst (λ (name : List ℕ). (start_read told source order.turns name).answer ≡ Ok start) c.as_str.ensures
    (c.in-Ok.ensures.gives told held))
    c.run_from.ensures.driven c.run_from.ensures.stands

pub returns-in-Ok-clause-keeps : goal.returns-in-Ok-clause-keeps
returns-in-Ok-clause-keeps g c =
    keeps_behind_reads
    (g.D.Depot.seen c.args.depot.now) (g.D.Depot.seen c.start_in.new.depot) (g.S.Sink.seen c.args.out.now)
    (outside (g.D.Depot.seen c.run_from.new.depot) (g.S.Sink.seen c.run_from.new.out))
    c.start_in.ensures.reads c.run_from.result.ending c.run_from.result.files c.run_from.ensures.keeps

pub returns-in-Err-clause-carries : goal.returns-in-Err-clause-carries
returns-in-Err-clause-carries g c = λ told held.
    let order = c.args.order.now in
    let source = c.args.program.now in
    let old = g.D.Depot.seen c.args.depot.now in
    let new = g.D.Depot.seen c.start_in.new.depot in
    let sink = g.S.Sink.seen c.args.out.now in
    let P : Ending → ℕ → Type 0 = λ ending files.
    Carries (run_of_source told order source) ending files (outside old sink) (outside new sink) in
    before_files P c.before_files.result c.in-Err.ending c.before_files.ensures.ending c.before_files.ensures.files
    (carries_stopped (start_read told source order.turns order.pop) (λ start. known (ordered_run order source start))
    old new sink c.start_in.ensures.reads c.in-Err.ending
    (subst (λ (name : List ℕ). Stops c.in-Err.ending (start_read told source order.turns name)) c.as_str.ensures
    (c.in-Err.ensures.gives told held)))

pub returns-in-Err-clause-keeps : goal.returns-in-Err-clause-keeps
returns-in-Err-clause-keeps g c =
    let old = g.D.Depot.seen c.args.depot.now in
    let new = g.D.Depot.seen c.start_in.new.depot in
    let sink = g.S.Sink.seen c.args.out.now in
    let P : Ending → ℕ → Type 0 = λ ending files. Keeps ending files (outside old sink) (outside new sink) in
    before_files P c.before_files.result c.in-Err.ending c.before_files.ensures.ending c.before_files.ensures.files
    (keeps_stopped c.in-Err.ending old new sink c.in-Err.ensures.stops c.in-Err.ensures.read_fault c.start_in.ensures.reads)
