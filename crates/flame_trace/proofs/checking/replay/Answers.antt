-- What line 1 says.
use Rattle.std.proofs.Common.{◌≡◌, arith, sym, ap, ◌∙◌}
use Rattle.std.specs.Prelude.{pos}
use Rattle.std.proofs.lemmas.Int.{ints}
use Rattle.std.proofs.lemmas.Result.{IfOk-weaker}
use Rattle.flame_events.specs.CoreStates.{opening_core}
use Rattle.flame_core.specs.SeenCores.{Seen, round_in}
use Rattle.flame_trace.specs.TraceLines.{parts}
use Rattle.flame_trace.specs.TraceSteps.{onward}
use Rattle.flame_trace.specs.TraceVerdicts.{next_number, verdict}
use Rattle.flame_trace.proofs.Beginnings.{other-start, starts-here}
use Rattle.flame_trace.proofs.HeadLines.{head_of-line}
use Rattle.flame_trace.proofs.checking.replay.Goals as goal

pub returns-then-from : goal.returns-then-from
returns-then-from c =
    sym
    (other-start c.args.program.now c.args.start.now c.args.bytes.now c.in-Some.line.now c.in-Some.rest.now
    c.in-Some-head_of.head c.in-Some.ensures.parts (sym c.in-Some-head_of.ensures)
    (λ same. c.if-from.true (omega (arith, ints, c.from.ensures, c.from-2.ensures))))

pub begun-requires-clause-some : goal.begun-requires-clause-some
begun-requires-clause-some c =
    (head_of-line c.in-Some.line.now c.in-Some-head_of.head (sym c.in-Some-head_of.ensures)).within.some

pub returns : goal.returns
returns c =
    let next : pos c.in-Some-head_of.head.iteration ≡ next_number c.args.start.now =
    omega (arith, ints, c.from.ensures, c.from-2.ensures) in
    let program = c.args.program.now in
    let start = c.args.start.now in
    let bytes = c.args.bytes.now in
    let line = c.in-Some.line.now in
    let rest = c.in-Some.rest.now in
    let head = c.in-Some-head_of.head in
    let core = c.in_ok-core.core in
    let begun : Seen = record {
      source = program;
      world = start.world;
      iteration = next_number start;
      fuel = head.fuel;
      pieces = head.pieces;
      core = opening_core program.model start.world.agents;
    } in
    let begins : core ≡ begun = c.in_ok-core.ensures in
    let here : verdict program start bytes ≡ onward (round_in begun) begun.pieces begun.core 0 (parts rest) =
    starts-here program start bytes line rest head c.in-Some.ensures.parts (sym c.in-Some-head_of.ensures) next in
    let e : onward (round_in core) core.pieces core.core 0 (parts rest) ≡ verdict program start bytes =
    ap (λ (s : Seen). onward (round_in s) s.pieces s.core 0 (parts rest)) begins ∙ sym here in
    IfOk-weaker c.follow.result (λ found. found ≡ onward (round_in core) core.pieces core.core 0 (parts rest))
    (λ found. found ≡ verdict program start bytes) (λ found is. is ∙ e) c.follow.ensures
