use Rattle.std.proofs.Common.{List, ℕ, ◌∙◌, ap}
use Rattle.flame_outside.specs.Files.{with_file}
use Rattle.flame_top.specs.TraceAnswers.{text_of}
use Rattle.flame_top.proofs.FileAndLine.{put_keeps, put_unread}
use Rattle.flame_top.proofs.TraceEndings.{trace_put_stops, trace_stands, trace_keeps, trace_unread}
use Rattle.flame_top.proofs.traces.write_trace.Goals as goal

pub returns-in-Err-clause-stands : goal.returns-in-Err-clause-stands
returns-in-Err-clause-stands g c =
    trace_put_stops c.args.program.now.model c.args.to.now (text_of c.args.written.now) c.args.written.now.fault
    c.in-Err.ending
    (g.D.Depot.seen c.args.depot.now) (g.D.Depot.seen c.put_file.new.depot) (g.S.Sink.seen c.args.out.now)
    c.in-Err.ensures.stops c.in-Err.ensures.others

pub returns-in-Err-clause-keeps : goal.returns-in-Err-clause-keeps
returns-in-Err-clause-keeps g c =
    put_keeps c.args.to.now c.in-Err.ending
    (g.D.Depot.seen c.args.depot.now) (g.D.Depot.seen c.put_file.new.depot) (g.S.Sink.seen c.args.out.now)
    c.in-Err.ensures.stops c.in-Err.ensures.puts

pub returns-in-Err-clause-read : goal.returns-in-Err-clause-read
returns-in-Err-clause-read g c =
    put_unread c.args.to.now c.in-Err.ending
    (g.D.Depot.seen c.args.depot.now) (g.D.Depot.seen c.put_file.new.depot) c.in-Err.ensures.stops

pub returns-clause-stands : goal.returns-clause-stands
returns-clause-stands g c =
    let depot = g.D.Depot.seen c.args.depot.now in
    let depot' = g.D.Depot.seen c.put_file.new.depot in
    trace_stands c.args.program.now.model c.args.to.now (text_of c.args.written.now)
    depot depot' (g.S.Sink.seen c.args.out.now) (g.S.Sink.seen c.end_trace.new.out)
    (c.in_default.ensures.ok ∙ ap (λ (bytes : List ℕ). with_file c.args.to.now bytes depot.files) c.bytes.ensures)
    c.in_default.ensures.puts c.args.written.now.fault c.end_trace.result c.end_trace.ensures.ends

pub returns-clause-keeps : goal.returns-clause-keeps
returns-clause-keeps g c =
    trace_keeps c.args.program.now.model c.args.written.now.events
    (g.D.Depot.seen c.args.depot.now) (g.D.Depot.seen c.put_file.new.depot)
    (g.S.Sink.seen c.args.out.now) (g.S.Sink.seen c.end_trace.new.out)
    c.in_default.ensures.puts c.end_trace.ensures.grows c.args.written.now.fault c.end_trace.result c.end_trace.ensures.ends

pub returns-clause-read : goal.returns-clause-read
returns-clause-read g c =
    trace_unread c.args.program.now.model c.args.written.now.events
    (g.S.Sink.seen c.args.out.now) (g.S.Sink.seen c.end_trace.new.out)
    c.args.written.now.fault c.end_trace.result c.end_trace.ensures.ends
