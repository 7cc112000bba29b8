-- The model comes first.
use Rattle.std.proofs.Common.{ℕ, sym, subst}
use Rattle.flame_outside.specs.Scripts.{outside}
use Rattle.flame_load.specs.InputReads.{known}
use Rattle.flame_top.specs.declared.ending.Ending.{Ending}
use Rattle.flame_top.specs.Reports.{carried_out, printing}
use Rattle.flame_top.specs.OrderReports.{source_read, text_reading}
use Rattle.flame_top.specs.ModelTexts.{text_as}
use Rattle.flame_top.specs.Standing.{Carries, Keeps, IsFaulted}
use Rattle.flame_top.proofs.Standings.{before_files, carries_stopped, keeps_stopped, keeps_behind_reads}
use Rattle.flame_top.proofs.PrintedTexts.{text_carries, text_keeps}
use Rattle.flame_top.proofs.FaultlessEndings.{print_faultless, reading_faultless}
use Rattle.flame_top.proofs.texts.carry_text.Goals as goal

pub returns-in-Ok-clause-carries : goal.returns-in-Ok-clause-carries
returns-in-Ok-clause-carries g c = λ told read held reads.
    let name = c.args.name.now in
    let old = g.D.Depot.seen c.args.depot.now in
    let mid = g.D.Depot.seen c.program_in.new.depot in
    let sink = g.S.Sink.seen c.args.out.now in
    let sink' = g.S.Sink.seen c.print_of.new.out in
    let P : Ending → ℕ → Type 0 = λ ending files.
    Carries (text_reading read told name (text_as c.args.what)) ending files (outside old sink) (outside mid sink') in
    before_files P c.before_files.result c.print_of.result c.before_files.ensures.ending c.before_files.ensures.files
    (text_carries read told name (text_as c.args.what) c.in-Ok.program c.print_of.result old mid sink sink'
    c.program_in.ensures.reads (c.in-Ok.ensures.gives told read held reads) c.print_of.ensures.ends)

pub returns-in-Ok-clause-keeps : goal.returns-in-Ok-clause-keeps
returns-in-Ok-clause-keeps g c =
    let old = g.D.Depot.seen c.args.depot.now in
    let mid = g.D.Depot.seen c.program_in.new.depot in
    let sink = g.S.Sink.seen c.args.out.now in
    let sink' = g.S.Sink.seen c.print_of.new.out in
    let P : Ending → ℕ → Type 0 = λ ending files. Keeps ending files (outside old sink) (outside mid sink') in
    before_files P c.before_files.result c.print_of.result c.before_files.ensures.ending c.before_files.ensures.files
    (keeps_behind_reads old mid sink (outside mid sink') c.program_in.ensures.reads c.print_of.result 0
    (text_keeps mid sink sink' (text_as c.args.what c.in-Ok.program) c.print_of.result c.print_of.ensures.ends c.print_of.ensures.grows))

pub returns-in-Err-clause-carries : goal.returns-in-Err-clause-carries
returns-in-Err-clause-carries g c = λ told read held reads.
    let name = c.args.name.now in
    let old = g.D.Depot.seen c.args.depot.now in
    let new = g.D.Depot.seen c.program_in.new.depot in
    let sink = g.S.Sink.seen c.args.out.now in
    let P : Ending → ℕ → Type 0 = λ ending files.
    Carries (text_reading read told name (text_as c.args.what)) ending files (outside old sink) (outside new sink) in
    before_files P c.before_files-in-Err.result c.in-Err.ending c.before_files-in-Err.ensures.ending c.before_files-in-Err.ensures.files
    (carries_stopped (source_read read told name) (λ source. known (carried_out (printing (text_as c.args.what source))))
    old new sink c.program_in.ensures.reads c.in-Err.ending (c.in-Err.ensures.gives told read held reads))

pub returns-in-Err-clause-keeps : goal.returns-in-Err-clause-keeps
returns-in-Err-clause-keeps g c =
    let old = g.D.Depot.seen c.args.depot.now in
    let new = g.D.Depot.seen c.program_in.new.depot in
    let sink = g.S.Sink.seen c.args.out.now in
    let P : Ending → ℕ → Type 0 = λ ending files. Keeps ending files (outside old sink) (outside new sink) in
    before_files P c.before_files-in-Err.result c.in-Err.ending c.before_files-in-Err.ensures.ending c.before_files-in-Err.ensures.files
    (keeps_stopped c.in-Err.ending old new sink c.in-Err.ensures.stops c.in-Err.ensures.read_fault c.program_in.ensures.reads)

pub returns-in-Ok-clause-faultless : goal.returns-in-Ok-clause-faultless
returns-in-Ok-clause-faultless g c =
    subst (λ (ending : Ending). ¬ IsFaulted ending) (sym c.before_files.ensures.ending)
    (print_faultless (text_as c.args.what c.in-Ok.program) c.print_of.result
    (g.S.Sink.seen c.args.out.now) (g.S.Sink.seen c.print_of.new.out) c.print_of.ensures.ends)

pub returns-in-Err-clause-faultless : goal.returns-in-Err-clause-faultless
returns-in-Err-clause-faultless g c =
    subst (λ (ending : Ending). ¬ IsFaulted ending) (sym c.before_files-in-Err.ensures.ending)
    (reading_faultless c.in-Err.ending c.in-Err.ensures.stops)
