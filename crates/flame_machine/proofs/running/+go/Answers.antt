use mir.Syntax.{w32}
use mir.Val.{SFits}
use Rattle.std.proofs.Common.{rules, refl, sym, ap, ◌∙◌, subst, ◌≡◌, ◌+◌, ◌<◌, ◌≤◌, ◌-◌, List, length, take, drop, arith}
use Rattle.std.specs.Prelude.{[], reverse}
use borrow.Rule.Slice.PartMut.{mid_of, put_mid, mid_len, same_len_mid}
use Rattle.std.proofs.lemmas.Int.{to_z-of_z}
use Rattle.std.proofs.lemmas.Result.{IfOk-weaker}
use Rattle.std.proofs.lemmas.Slice.{take-put_mid_below}
use Rattle.flame_code.specs.Machine.{returned}
use Rattle.flame_code.specs.InputRows.{rows_of}
use Rattle.flame_code.specs.Meanings.{Runs, last}
use Rattle.flame_code.specs.declared.instrs.Instr.{Instr}
use Rattle.flame_machine.specs.declared.endings.Called.{Called}
use Rattle.flame_machine.specs.declared.frames.Frame.{Frame}
use Rattle.flame_machine.specs.MachineFrames.{held, Framed, framed, config}
use Rattle.flame_machine.specs.Running.{place_of, IsRest, Ready, unused, Finishes, CallEnds}
use Rattle.flame_machine.specs.MachineSteps.{seen, told}
use Rattle.flame_machine.proofs.Stacks.{take_take, as_tall}
use Rattle.flame_machine.proofs.Places.{place_of-all, all_rest, ready_within, some_left, place_behind, rest_behind, place_from, rest_from}
use Rattle.flame_machine.proofs.Going.{on_within, on_fuel, on_ready, on_left, on_comes, unseen, helper_begins, helper_ready, blind_adds, filled_with, call_ends, behind_call, ends_as, arm_there, arm_less, arm_faults, arm_falls, arm_ready, arm_comes}
use Rattle.flame_machine.proofs.running.+go.Goals as goal

pub go-steps-init : goal.go-steps-init
go-steps-init g t c =
    let code = c.args.code.now in
    let feeds = g.F.Feed.feeds c.args.feed.now in
    let at : place_of code c.instrs-instrs.result.now ≡ 0 = ap (place_of code) c.instrs-instrs.ensures.same ∙ place_of-all code in
    let begins : framed (held c.begin-frame.result c.args.cells.now) c.args.locals.now c.args.memory.now ≡ unused (length c.args.cells.now) c.args.locals.now c.args.memory.now c.args.fuel =
    ap (λ (f : Frame). framed (held f c.args.cells.now) c.args.locals.now c.args.memory.now) c.begin-frame.ensures in
    let low = ap (λ (f : Frame). f.height) c.begin-frame.ensures in
    let all = ap (λ (f : Frame). f.fuel) c.begin-frame.ensures in
    record {
      rests = subst (IsRest code) (sym c.instrs-instrs.ensures.same) (all_rest code);
      fits = omega (arith, low);
      ready = subst (λ k. Ready code k (framed (held c.begin-frame.result c.args.cells.now) c.args.locals.now c.args.memory.now) (told code.widths c.args.added.now) feeds) (sym at)
          (subst (λ (x : Framed). Ready code 0 x (told code.widths c.args.added.now) feeds) (sym begins) c.requires.ready);
      less = omega (arith, all);
      quiet = λ _. refl {a = c.args.added.now};
      rows = refl {a = rows_of feeds};
      others = refl {a = drop (length code.widths.inputs) feeds};
      comes = λ e runs.
          subst (λ (x : Framed). Runs c.args.given.now c.args.helpers.now.routines code (config 0 x (told code.widths c.args.added.now) (seen code.widths feeds)) e) begins
          (subst (λ k. Runs c.args.given.now c.args.helpers.now.routines code
          (config k (framed (held c.begin-frame.result c.args.cells.now) c.args.locals.now c.args.memory.now) (told code.widths c.args.added.now) (seen code.widths feeds)) e) at runs);
    }

pub go-steps-smaller-in-On : goal.go-steps-smaller-in-On
go-steps-smaller-in-On g t c =
    let some = some_left c.args.code.now c.steps.rest.now (ready_within c.args.code.now (place_of c.args.code.now c.steps.rest.now) (framed (held c.steps.frame c.steps.cells) c.steps.locals c.steps.memory) (told c.args.code.now.widths c.steps.added) (g.F.Feed.feeds c.steps.feed) c.instrs-instrs.ensures.valid c.steps.invariant.ready) in
    on_left c.args.given.now c.args.helpers.now.routines c.args.code.now c.instrs-instrs.ensures.valid (place_of c.args.code.now c.steps.rest.now) ((place_of c.args.code.now c.steps.rest.now) + 1)
    (framed (held c.steps.frame c.steps.cells) c.steps.locals c.steps.memory) (framed (held c.turn.new.frame c.turn.new.cells) c.turn.new.locals c.turn.new.memory) (told c.args.code.now.widths c.steps.added) (told c.args.code.now.widths c.turn.new.added) (g.F.Feed.feeds c.steps.feed) (g.F.Feed.feeds c.turn.new.feed) c.steps.invariant.ready c.in-On.ensures.does
    (place_of c.args.code.now c.behind_first-rest.result.now) (place_behind c.args.code.now c.steps.rest.now c.steps.invariant.rests c.behind_first-rest.result.now c.behind_first-rest.ensures some)

pub go-steps-preserved-in-On : goal.go-steps-preserved-in-On
go-steps-preserved-in-On g t c =
    let some = some_left c.args.code.now c.steps.rest.now (ready_within c.args.code.now (place_of c.args.code.now c.steps.rest.now) (framed (held c.steps.frame c.steps.cells) c.steps.locals c.steps.memory) (told c.args.code.now.widths c.steps.added) (g.F.Feed.feeds c.steps.feed) c.instrs-instrs.ensures.valid c.steps.invariant.ready) in
    let long : length c.turn.new.locals ≡ length c.steps.locals = omega arith in
    let wide : length c.turn.new.cells ≡ length c.steps.cells = omega arith in
    record {
      rests = rest_behind c.args.code.now c.steps.rest.now c.steps.invariant.rests c.behind_first-rest.result.now c.behind_first-rest.ensures some;
      fits = c.turn.ensures.fits;
      ready = on_ready c.args.given.now c.args.helpers.now.routines c.args.code.now c.instrs-instrs.ensures.valid (place_of c.args.code.now c.steps.rest.now) ((place_of c.args.code.now c.steps.rest.now) + 1)
          (framed (held c.steps.frame c.steps.cells) c.steps.locals c.steps.memory) (framed (held c.turn.new.frame c.turn.new.cells) c.turn.new.locals c.turn.new.memory) (told c.args.code.now.widths c.steps.added) (told c.args.code.now.widths c.turn.new.added) (g.F.Feed.feeds c.steps.feed) (g.F.Feed.feeds c.turn.new.feed) c.steps.invariant.ready c.in-On.ensures.does
          (place_of c.args.code.now c.behind_first-rest.result.now) (place_behind c.args.code.now c.steps.rest.now c.steps.invariant.rests c.behind_first-rest.result.now c.behind_first-rest.ensures some) long wide c.turn.ensures.rows;
      less =
          let less = on_fuel c.args.given.now c.args.helpers.now.routines c.args.code.now c.instrs-instrs.ensures.valid (place_of c.args.code.now c.steps.rest.now) ((place_of c.args.code.now c.steps.rest.now) + 1)
          (framed (held c.steps.frame c.steps.cells) c.steps.locals c.steps.memory) (framed (held c.turn.new.frame c.turn.new.cells) c.turn.new.locals c.turn.new.memory) (told c.args.code.now.widths c.steps.added) (told c.args.code.now.widths c.turn.new.added) (g.F.Feed.feeds c.steps.feed) (g.F.Feed.feeds c.turn.new.feed) c.steps.invariant.ready c.in-On.ensures.does in
          omega (arith, c.steps.invariant.less);
      quiet = λ nothing. c.turn.ensures.quiet nothing ∙ c.steps.invariant.quiet nothing;
      rows = c.turn.ensures.rows ∙ c.steps.invariant.rows;
      others = c.turn.ensures.others ∙ c.steps.invariant.others;
      comes = λ e runs. c.steps.invariant.comes e (on_comes c.args.given.now c.args.helpers.now.routines c.args.code.now c.instrs-instrs.ensures.valid (place_of c.args.code.now c.steps.rest.now) ((place_of c.args.code.now c.steps.rest.now) + 1)
          (framed (held c.steps.frame c.steps.cells) c.steps.locals c.steps.memory) (framed (held c.turn.new.frame c.turn.new.cells) c.turn.new.locals c.turn.new.memory) (told c.args.code.now.widths c.steps.added) (told c.args.code.now.widths c.turn.new.added) (g.F.Feed.feeds c.steps.feed) (g.F.Feed.feeds c.turn.new.feed) c.steps.invariant.ready c.in-On.ensures.does
          (place_of c.args.code.now c.behind_first-rest.result.now) (place_behind c.args.code.now c.steps.rest.now c.steps.invariant.rests c.behind_first-rest.result.now c.behind_first-rest.ensures some) e runs);
    }

pub go-steps-smaller-in-To : goal.go-steps-smaller-in-To
go-steps-smaller-in-To g t c =
    let start = c.starting_at-rest.ensures ∙ ap (drop c.in-To.place) c.instrs-instrs.ensures.same in
    let within = on_within c.args.given.now c.args.helpers.now.routines c.args.code.now c.instrs-instrs.ensures.valid (place_of c.args.code.now c.steps.rest.now) c.in-To.place
    (framed (held c.steps.frame c.steps.cells) c.steps.locals c.steps.memory) (framed (held c.turn.new.frame c.turn.new.cells) c.turn.new.locals c.turn.new.memory) (told c.args.code.now.widths c.steps.added) (told c.args.code.now.widths c.turn.new.added) (g.F.Feed.feeds c.steps.feed) (g.F.Feed.feeds c.turn.new.feed) c.steps.invariant.ready c.in-To.ensures.does in
    on_left c.args.given.now c.args.helpers.now.routines c.args.code.now c.instrs-instrs.ensures.valid (place_of c.args.code.now c.steps.rest.now) c.in-To.place
    (framed (held c.steps.frame c.steps.cells) c.steps.locals c.steps.memory) (framed (held c.turn.new.frame c.turn.new.cells) c.turn.new.locals c.turn.new.memory) (told c.args.code.now.widths c.steps.added) (told c.args.code.now.widths c.turn.new.added) (g.F.Feed.feeds c.steps.feed) (g.F.Feed.feeds c.turn.new.feed) c.steps.invariant.ready c.in-To.ensures.does
    (place_of c.args.code.now c.starting_at-rest.result.now) (place_from c.args.code.now c.starting_at-rest.result.now c.in-To.place start within)

pub go-steps-preserved-in-To : goal.go-steps-preserved-in-To
go-steps-preserved-in-To g t c =
    let start = c.starting_at-rest.ensures ∙ ap (drop c.in-To.place) c.instrs-instrs.ensures.same in
    let within = on_within c.args.given.now c.args.helpers.now.routines c.args.code.now c.instrs-instrs.ensures.valid (place_of c.args.code.now c.steps.rest.now) c.in-To.place
    (framed (held c.steps.frame c.steps.cells) c.steps.locals c.steps.memory) (framed (held c.turn.new.frame c.turn.new.cells) c.turn.new.locals c.turn.new.memory) (told c.args.code.now.widths c.steps.added) (told c.args.code.now.widths c.turn.new.added) (g.F.Feed.feeds c.steps.feed) (g.F.Feed.feeds c.turn.new.feed) c.steps.invariant.ready c.in-To.ensures.does in
    let long : length c.turn.new.locals ≡ length c.steps.locals = omega arith in
    let wide : length c.turn.new.cells ≡ length c.steps.cells = omega arith in
    record {
      rests = rest_from c.args.code.now c.starting_at-rest.result.now c.in-To.place start within;
      fits = c.turn.ensures.fits;
      ready = on_ready c.args.given.now c.args.helpers.now.routines c.args.code.now c.instrs-instrs.ensures.valid (place_of c.args.code.now c.steps.rest.now) c.in-To.place
          (framed (held c.steps.frame c.steps.cells) c.steps.locals c.steps.memory) (framed (held c.turn.new.frame c.turn.new.cells) c.turn.new.locals c.turn.new.memory) (told c.args.code.now.widths c.steps.added) (told c.args.code.now.widths c.turn.new.added) (g.F.Feed.feeds c.steps.feed) (g.F.Feed.feeds c.turn.new.feed) c.steps.invariant.ready c.in-To.ensures.does
          (place_of c.args.code.now c.starting_at-rest.result.now) (place_from c.args.code.now c.starting_at-rest.result.now c.in-To.place start within) long wide c.turn.ensures.rows;
      less =
          let less = on_fuel c.args.given.now c.args.helpers.now.routines c.args.code.now c.instrs-instrs.ensures.valid (place_of c.args.code.now c.steps.rest.now) c.in-To.place
          (framed (held c.steps.frame c.steps.cells) c.steps.locals c.steps.memory) (framed (held c.turn.new.frame c.turn.new.cells) c.turn.new.locals c.turn.new.memory) (told c.args.code.now.widths c.steps.added) (told c.args.code.now.widths c.turn.new.added) (g.F.Feed.feeds c.steps.feed) (g.F.Feed.feeds c.turn.new.feed) c.steps.invariant.ready c.in-To.ensures.does in
          omega (arith, c.steps.invariant.less);
      quiet = λ nothing. c.turn.ensures.quiet nothing ∙ c.steps.invariant.quiet nothing;
      rows = c.turn.ensures.rows ∙ c.steps.invariant.rows;
      others = c.turn.ensures.others ∙ c.steps.invariant.others;
      comes = λ e runs. c.steps.invariant.comes e (on_comes c.args.given.now c.args.helpers.now.routines c.args.code.now c.instrs-instrs.ensures.valid (place_of c.args.code.now c.steps.rest.now) c.in-To.place
          (framed (held c.steps.frame c.steps.cells) c.steps.locals c.steps.memory) (framed (held c.turn.new.frame c.turn.new.cells) c.turn.new.locals c.turn.new.memory) (told c.args.code.now.widths c.steps.added) (told c.args.code.now.widths c.turn.new.added) (g.F.Feed.feeds c.steps.feed) (g.F.Feed.feeds c.turn.new.feed) c.steps.invariant.ready c.in-To.ensures.does
          (place_of c.args.code.now c.starting_at-rest.result.now) (place_from c.args.code.now c.starting_at-rest.result.now c.in-To.place start within) e runs);
    }

pub go-behind_first-rest-requires : goal.go-behind_first-rest-requires
go-behind_first-rest-requires g t c =
    let some = some_left c.args.code.now c.steps.rest.now (ready_within c.args.code.now (place_of c.args.code.now c.steps.rest.now) (framed (held c.steps.frame c.steps.cells) c.steps.locals c.steps.memory) (told c.args.code.now.widths c.steps.added) (g.F.Feed.feeds c.steps.feed) c.instrs-instrs.ensures.valid c.steps.invariant.ready) in
    some

pub go-starting_at-rest-requires : goal.go-starting_at-rest-requires
go-starting_at-rest-requires g t c =
    let within = on_within c.args.given.now c.args.helpers.now.routines c.args.code.now c.instrs-instrs.ensures.valid (place_of c.args.code.now c.steps.rest.now) c.in-To.place
    (framed (held c.steps.frame c.steps.cells) c.steps.locals c.steps.memory) (framed (held c.turn.new.frame c.turn.new.cells) c.turn.new.locals c.turn.new.memory) (told c.args.code.now.widths c.steps.added) (told c.args.code.now.widths c.turn.new.added) (g.F.Feed.feeds c.steps.feed) (g.F.Feed.feeds c.turn.new.feed) c.steps.invariant.ready c.in-To.ensures.does in
    subst (λ (l : List Instr). c.in-To.place < length l) (sym c.instrs-instrs.ensures.same) within

pub go-returns-in-Ended-clause-runs : goal.go-returns-in-Ended-clause-runs
go-returns-in-Ended-clause-runs g t c =
    let fits : SFits w32 c.in-Ended.value = search rules in
    let runs = Runs c.args.given.now c.args.helpers.now.routines c.args.code.now
    (config 0 (unused (length c.args.cells.now) c.args.locals.now c.args.memory.now c.args.fuel) (told c.args.code.now.widths c.args.added.now) (seen c.args.code.now.widths (g.F.Feed.feeds c.args.feed.now))) in
    record {
      place = (place_of c.args.code.now c.steps.rest.now);
      frame = (framed (held c.turn.new.frame c.turn.new.cells) c.turn.new.locals c.turn.new.memory);
      runs =
          subst (λ v. runs (returned v (config (place_of c.args.code.now c.steps.rest.now) (record (framed (held c.turn.new.frame c.turn.new.cells) c.turn.new.locals c.turn.new.memory) { fuel = c.fuel.result }) (told c.args.code.now.widths c.turn.new.added) (seen c.args.code.now.widths (g.F.Feed.feeds c.turn.new.feed)))))
          (sym (to_z-of_z w32 c.in-Ended.value fits))
          (subst (λ k. runs (returned c.in-Ended.value (config (place_of c.args.code.now c.steps.rest.now) (record (framed (held c.turn.new.frame c.turn.new.cells) c.turn.new.locals c.turn.new.memory) { fuel = k }) (told c.args.code.now.widths c.turn.new.added) (seen c.args.code.now.widths (g.F.Feed.feeds c.turn.new.feed)))))
          (sym c.fuel.ensures)
          (c.steps.invariant.comes _ (last c.in-Ended.ensures.does)));
    }

pub go-returns-in-Faulted-clause-runs : goal.go-returns-in-Faulted-clause-runs
go-returns-in-Faulted-clause-runs g t c = record { place = 0; frame = (framed (held c.turn.new.frame c.turn.new.cells) c.turn.new.locals c.turn.new.memory); runs = c.steps.invariant.comes _ (last c.in-Faulted.ensures.does) }

pub go-lent-base-requires : goal.go-lent-base-requires
go-lent-base-requires g t c =
    let tall = as_tall c.turn.new.frame c.turn.new.cells c.turn.ensures.fits in
    let few : c.in-Calls.count ≤ c.turn.new.frame.height = subst (λ k. c.in-Calls.count ≤ k) tall c.in-Calls.ensures.does.1 in
    let room : c.turn.new.frame.height < length c.turn.new.cells = subst (λ k. k < length c.turn.new.cells) tall c.in-Calls.ensures.does.2 in
    record { count = few; room = room }

pub go-call-requires : goal.go-call-requires
go-call-requires g t c κs within =
    let there = arm_there c.args.given.now c.args.helpers.now c.requires.among c.args.code.now c.instrs-instrs.ensures.valid c.requires.suits.calls
    (place_of c.args.code.now c.steps.rest.now) (framed (held c.steps.frame c.steps.cells) c.steps.locals c.steps.memory) (framed (held c.turn.new.frame c.turn.new.cells) c.turn.new.locals c.turn.new.memory) (told c.args.code.now.widths c.steps.added) (told c.args.code.now.widths c.turn.new.added) (g.F.Feed.feeds c.steps.feed) (g.F.Feed.feeds c.turn.new.feed) c.steps.invariant.ready c.in-Calls.helper c.in-Calls.count c.in-Calls.ensures.does.0 in
    let less = arm_less c.args.given.now c.args.helpers.now c.requires.among c.args.code.now c.instrs-instrs.ensures.valid c.requires.suits.calls
    (place_of c.args.code.now c.steps.rest.now) (framed (held c.steps.frame c.steps.cells) c.steps.locals c.steps.memory) (framed (held c.turn.new.frame c.turn.new.cells) c.turn.new.locals c.turn.new.memory) (told c.args.code.now.widths c.steps.added) (told c.args.code.now.widths c.turn.new.added) (g.F.Feed.feeds c.steps.feed) (g.F.Feed.feeds c.turn.new.feed) c.steps.invariant.ready c.in-Calls.helper c.in-Calls.count c.in-Calls.ensures.does.0 in
    let paid : c.fuel-in-Calls.result ≡ c.turn.new.frame.fuel = c.fuel-in-Calls.ensures in
    let before = c.steps.invariant.less in
    let alike = c.requires.suits.alike in
    let args : c.in-Calls.count ≤ length (mid_of c.lent-base.result (length c.lent-base.new.cells - c.lent-base.result) c.lent-base.new.cells) =
    omega (arith, c.lent-base.ensures.within, mid_len c.lent-base.result (length c.lent-base.new.cells) c.lent-base.new.cells (omega arith)) in
    search rules

pub go-steps-smaller : goal.go-steps-smaller
go-steps-smaller g t c =
    let some = some_left c.args.code.now c.steps.rest.now (ready_within c.args.code.now (place_of c.args.code.now c.steps.rest.now) (framed (held c.steps.frame c.steps.cells) c.steps.locals c.steps.memory) (told c.args.code.now.widths c.steps.added) (g.F.Feed.feeds c.steps.feed) c.instrs-instrs.ensures.valid c.steps.invariant.ready) in
    let here = place_behind c.args.code.now c.steps.rest.now c.steps.invariant.rests c.behind_first-rest-in-Returned.result.now c.behind_first-rest-in-Returned.ensures some in
    let fits : SFits w32 c.in-Returned.value = search rules in
    let is = rw (to_z-of_z w32 c.in-Returned.value fits) at c.resumed-frame.ensures in
    let below = take-put_mid_below c.lent-base.result (length c.lent-base.new.cells - c.lent-base.result) c.lent-base.new.cells c.call.new.cells c.lent-base.result (omega arith) (omega (arith, c.lent-base.ensures.within)) in
    let wide : length c.turn.new.cells ≡ length c.steps.cells = omega arith in
    let long : length (put_mid c.lent-base.result (length c.lent-base.new.cells - c.lent-base.result) c.lent-base.new.cells c.call.new.cells) ≡ length c.turn.new.cells =
    same_len_mid c.lent-base.result (length c.lent-base.new.cells - c.lent-base.result) c.lent-base.new.cells c.call.new.cells c.call.auto.cells ∙ c.lent-base.auto.cells in
    let pushed = behind_call c.resumed-frame.result c.lent-base.new.cells (put_mid c.lent-base.result (length c.lent-base.new.cells - c.lent-base.result) c.lent-base.new.cells c.call.new.cells) c.turn.new.locals c.turn.new.memory (held c.turn.new.frame c.turn.new.cells).stack c.lent-base.result c.in-Returned.fuel (length c.turn.new.cells) c.in-Calls.count c.in-Returned.value
    is below long (c.lent-base.ensures.behind c.in-Returned.value) in
    let paid : c.fuel-in-Calls.result ≡ c.turn.new.frame.fuel = c.fuel-in-Calls.ensures in
    let fell = rw c.in-Returned.is at c.in_ok-value-in-Calls.ensures.fell in
    arm_falls c.args.given.now c.args.helpers.now c.requires.among c.args.code.now c.instrs-instrs.ensures.valid c.requires.suits.calls
    (place_of c.args.code.now c.steps.rest.now) (framed (held c.steps.frame c.steps.cells) c.steps.locals c.steps.memory) (framed (held c.turn.new.frame c.turn.new.cells) c.turn.new.locals c.turn.new.memory) (told c.args.code.now.widths c.steps.added) (told c.args.code.now.widths c.turn.new.added) (g.F.Feed.feeds c.steps.feed) (g.F.Feed.feeds c.turn.new.feed) c.steps.invariant.ready c.in-Calls.helper c.in-Calls.count c.in-Calls.ensures.does.0
    (framed (held c.resumed-frame.result (put_mid c.lent-base.result (length c.lent-base.new.cells - c.lent-base.result) c.lent-base.new.cells c.call.new.cells)) c.turn.new.locals c.turn.new.memory) c.in-Returned.value c.in-Returned.fuel (told c.args.code.now.widths c.call.new.added) (g.F.Feed.feeds c.call.new.feed)
    pushed (ap (told c.args.code.now.widths) c.call.ensures.quiet) c.call.ensures.feeds (place_of c.args.code.now c.behind_first-rest-in-Returned.result.now) here
    (omega (arith, fell, paid))

pub go-steps-preserved : goal.go-steps-preserved
go-steps-preserved g t c =
    let some = some_left c.args.code.now c.steps.rest.now (ready_within c.args.code.now (place_of c.args.code.now c.steps.rest.now) (framed (held c.steps.frame c.steps.cells) c.steps.locals c.steps.memory) (told c.args.code.now.widths c.steps.added) (g.F.Feed.feeds c.steps.feed) c.instrs-instrs.ensures.valid c.steps.invariant.ready) in
    let here = place_behind c.args.code.now c.steps.rest.now c.steps.invariant.rests c.behind_first-rest-in-Returned.result.now c.behind_first-rest-in-Returned.ensures some in
    let fits : SFits w32 c.in-Returned.value = search rules in
    let is = rw (to_z-of_z w32 c.in-Returned.value fits) at c.resumed-frame.ensures in
    let below = take-put_mid_below c.lent-base.result (length c.lent-base.new.cells - c.lent-base.result) c.lent-base.new.cells c.call.new.cells c.lent-base.result (omega arith) (omega (arith, c.lent-base.ensures.within)) in
    let wide : length c.turn.new.cells ≡ length c.steps.cells = omega arith in
    let long : length (put_mid c.lent-base.result (length c.lent-base.new.cells - c.lent-base.result) c.lent-base.new.cells c.call.new.cells) ≡ length c.turn.new.cells =
    same_len_mid c.lent-base.result (length c.lent-base.new.cells - c.lent-base.result) c.lent-base.new.cells c.call.new.cells c.call.auto.cells ∙ c.lent-base.auto.cells in
    let pushed = behind_call c.resumed-frame.result c.lent-base.new.cells (put_mid c.lent-base.result (length c.lent-base.new.cells - c.lent-base.result) c.lent-base.new.cells c.call.new.cells) c.turn.new.locals c.turn.new.memory (held c.turn.new.frame c.turn.new.cells).stack c.lent-base.result c.in-Returned.fuel (length c.turn.new.cells) c.in-Calls.count c.in-Returned.value
    is below long (c.lent-base.ensures.behind c.in-Returned.value) in
    let paid : c.fuel-in-Calls.result ≡ c.turn.new.frame.fuel = c.fuel-in-Calls.ensures in
    let fell = rw c.in-Returned.is at c.in_ok-value-in-Calls.ensures.fell in
    let row : take c.in-Calls.count (mid_of c.lent-base.result (length c.lent-base.new.cells - c.lent-base.result) c.lent-base.new.cells) ≡ reverse (take c.in-Calls.count (held c.turn.new.frame c.turn.new.cells).stack) =
    take_take (drop c.lent-base.result c.lent-base.new.cells) c.in-Calls.count (length c.lent-base.new.cells - c.lent-base.result) (omega (arith, c.lent-base.ensures.within)) ∙ c.lent-base.ensures.args in
    let ends = ends_as c.args.given.now c.args.helpers.now.routines c.in-Calls.helper _ _ _ _ _ _ row paid c.in-Returned.is c.in_ok-value-in-Calls.ensures.ends in
    let same_locals : length c.turn.new.locals ≡ length c.steps.locals = omega arith in
    let height = ap (λ (f : Frame). f.height) is in
    let left = ap (λ (f : Frame). f.fuel) is in
    record {
      rests = rest_behind c.args.code.now c.steps.rest.now c.steps.invariant.rests c.behind_first-rest-in-Returned.result.now c.behind_first-rest-in-Returned.ensures some;
      fits = omega (arith, height, long, c.lent-base.ensures.within, c.lent-base.auto.cells);
      ready = arm_ready c.args.given.now c.args.helpers.now c.requires.among c.args.code.now c.instrs-instrs.ensures.valid c.requires.suits.calls
          (place_of c.args.code.now c.steps.rest.now) (framed (held c.steps.frame c.steps.cells) c.steps.locals c.steps.memory) (framed (held c.turn.new.frame c.turn.new.cells) c.turn.new.locals c.turn.new.memory) (told c.args.code.now.widths c.steps.added) (told c.args.code.now.widths c.turn.new.added) (g.F.Feed.feeds c.steps.feed) (g.F.Feed.feeds c.turn.new.feed) c.steps.invariant.ready c.in-Calls.helper c.in-Calls.count c.in-Calls.ensures.does.0
          (framed (held c.resumed-frame.result (put_mid c.lent-base.result (length c.lent-base.new.cells - c.lent-base.result) c.lent-base.new.cells c.call.new.cells)) c.turn.new.locals c.turn.new.memory) c.in-Returned.value c.in-Returned.fuel (told c.args.code.now.widths c.call.new.added) (g.F.Feed.feeds c.call.new.feed)
          pushed (ap (told c.args.code.now.widths) c.call.ensures.quiet) c.call.ensures.feeds (place_of c.args.code.now c.behind_first-rest-in-Returned.result.now) here
          same_locals wide c.turn.ensures.rows;
      less =
          let less = arm_less c.args.given.now c.args.helpers.now c.requires.among c.args.code.now c.instrs-instrs.ensures.valid c.requires.suits.calls
          (place_of c.args.code.now c.steps.rest.now) (framed (held c.steps.frame c.steps.cells) c.steps.locals c.steps.memory) (framed (held c.turn.new.frame c.turn.new.cells) c.turn.new.locals c.turn.new.memory) (told c.args.code.now.widths c.steps.added) (told c.args.code.now.widths c.turn.new.added) (g.F.Feed.feeds c.steps.feed) (g.F.Feed.feeds c.turn.new.feed) c.steps.invariant.ready c.in-Calls.helper c.in-Calls.count c.in-Calls.ensures.does.0 in
          omega (arith, left, fell, paid, c.steps.invariant.less);
      quiet = λ nothing. c.call.ensures.quiet ∙ c.turn.ensures.quiet nothing ∙ c.steps.invariant.quiet nothing;
      rows = ap rows_of c.call.ensures.feeds ∙ c.turn.ensures.rows ∙ c.steps.invariant.rows;
      others = ap (drop (length c.args.code.now.widths.inputs)) c.call.ensures.feeds ∙ c.turn.ensures.others ∙ c.steps.invariant.others;
      comes = λ e runs. c.steps.invariant.comes e (arm_comes c.args.given.now c.args.helpers.now c.requires.among c.args.code.now c.instrs-instrs.ensures.valid c.requires.suits.calls
          (place_of c.args.code.now c.steps.rest.now) (framed (held c.steps.frame c.steps.cells) c.steps.locals c.steps.memory) (framed (held c.turn.new.frame c.turn.new.cells) c.turn.new.locals c.turn.new.memory) (told c.args.code.now.widths c.steps.added) (told c.args.code.now.widths c.turn.new.added) (g.F.Feed.feeds c.steps.feed) (g.F.Feed.feeds c.turn.new.feed) c.steps.invariant.ready c.in-Calls.helper c.in-Calls.count c.in-Calls.ensures.does.0
          (framed (held c.resumed-frame.result (put_mid c.lent-base.result (length c.lent-base.new.cells - c.lent-base.result) c.lent-base.new.cells c.call.new.cells)) c.turn.new.locals c.turn.new.memory) c.in-Returned.value c.in-Returned.fuel (told c.args.code.now.widths c.call.new.added) (g.F.Feed.feeds c.call.new.feed)
          pushed (ap (told c.args.code.now.widths) c.call.ensures.quiet) c.call.ensures.feeds (place_of c.args.code.now c.behind_first-rest-in-Returned.result.now) here ends e runs);
    }

pub go-behind_first-rest-requires-in-Returned : goal.go-behind_first-rest-requires-in-Returned
go-behind_first-rest-requires-in-Returned g t c =
    let some = some_left c.args.code.now c.steps.rest.now (ready_within c.args.code.now (place_of c.args.code.now c.steps.rest.now) (framed (held c.steps.frame c.steps.cells) c.steps.locals c.steps.memory) (told c.args.code.now.widths c.steps.added) (g.F.Feed.feeds c.steps.feed) c.instrs-instrs.ensures.valid c.steps.invariant.ready) in
    some

pub go-returns-in-Faulted-2-clause-runs : goal.go-returns-in-Faulted-2-clause-runs
go-returns-in-Faulted-2-clause-runs g t c =
    let paid : c.fuel-in-Calls.result ≡ c.turn.new.frame.fuel = c.fuel-in-Calls.ensures in
    let row : take c.in-Calls.count (mid_of c.lent-base.result (length c.lent-base.new.cells - c.lent-base.result) c.lent-base.new.cells) ≡ reverse (take c.in-Calls.count (held c.turn.new.frame c.turn.new.cells).stack) =
    take_take (drop c.lent-base.result c.lent-base.new.cells) c.in-Calls.count (length c.lent-base.new.cells - c.lent-base.result) (omega (arith, c.lent-base.ensures.within)) ∙ c.lent-base.ensures.args in
    let ends = ends_as c.args.given.now c.args.helpers.now.routines c.in-Calls.helper _ _ _ _ _ _ row paid c.in-Faulted-2.is c.in_ok-value-in-Calls.ensures.ends in
    record {
      place = 0;
      frame = (framed (held c.turn.new.frame c.turn.new.cells) c.turn.new.locals c.turn.new.memory);
      runs = c.steps.invariant.comes _ (arm_faults c.args.given.now c.args.helpers.now c.requires.among c.args.code.now c.instrs-instrs.ensures.valid c.requires.suits.calls
          (place_of c.args.code.now c.steps.rest.now) (framed (held c.steps.frame c.steps.cells) c.steps.locals c.steps.memory) (framed (held c.turn.new.frame c.turn.new.cells) c.turn.new.locals c.turn.new.memory) (told c.args.code.now.widths c.steps.added) (told c.args.code.now.widths c.turn.new.added) (g.F.Feed.feeds c.steps.feed) (g.F.Feed.feeds c.turn.new.feed) c.steps.invariant.ready c.in-Calls.helper c.in-Calls.count c.in-Calls.ensures.does.0 c.in-Faulted-2.fault ends);
    }

pub opened-go-requires : goal.opened-go-requires
opened-go-requires g t c κs within =
    let filled = filled_with c.args.code.now c.args.cells.now c.split_at_mut-locals.result.0.now c.args.count c.args.locals (omega arith) c.requires.least
    (c.split_at_mut-locals.ensures.front ∙ c.clear.ensures) in
    let long : length c.clear.new.cells ≡ length c.args.cells.now = omega arith in
    let ready = helper_ready c.args.code.now (take c.args.count c.args.cells.now) c.split_at_mut-locals.result.0.now [] (length c.split_at_mut-locals.result.1.now) c.args.fuel c.args.added.now (g.F.Feed.feeds c.args.feed.now)
    filled refl c.requires.blind (omega (arith, c.split_at_mut-locals.ensures.back_len, long, c.requires.room)) in
    search rules

pub opened-returns-clause-ends : goal.opened-returns-clause-ends
opened-returns-clause-ends g t c =
    let code = c.args.code.now in
    let filled = filled_with c.args.code.now c.args.cells.now c.split_at_mut-locals.result.0.now c.args.count c.args.locals (omega arith) c.requires.least
    (c.split_at_mut-locals.ensures.front ∙ c.clear.ensures) in
    let from = config 0 (unused (length c.split_at_mut-locals.result.1.now) c.split_at_mut-locals.result.0.now [] c.args.fuel) (told code.widths c.args.added.now) (seen code.widths (g.F.Feed.feeds c.args.feed.now)) in
    let begins = helper_begins code (take c.args.count c.args.cells.now) c.split_at_mut-locals.result.0.now [] (length c.split_at_mut-locals.result.1.now) c.args.fuel c.args.added.now (g.F.Feed.feeds c.args.feed.now) filled refl c.requires.blind in
    IfOk-weaker c.go.result
    (λ (x : Called). Finishes c.args.given.now c.args.helpers.now.routines code from x c.go.new.memory (told code.widths c.go.new.added) (seen code.widths (g.F.Feed.feeds c.go.new.feed)))
    (λ (x : Called). CallEnds c.args.given.now c.args.helpers.now.routines code (take c.args.count c.args.cells.now) c.args.fuel x)
    (λ called finishes. call_ends c.args.given.now c.args.helpers.now.routines code (take c.args.count c.args.cells.now) c.args.fuel from called c.go.new.memory
    (told code.widths c.go.new.added) (seen code.widths (g.F.Feed.feeds c.go.new.feed)) begins finishes)
    c.go.ensures.runs

pub opened-returns-clause-quiet : goal.opened-returns-clause-quiet
opened-returns-clause-quiet g t c = c.go.ensures.quiet (blind_adds c.args.code.now c.requires.blind)

pub opened-returns-clause-feeds : goal.opened-returns-clause-feeds
opened-returns-clause-feeds g t c = unseen c.args.code.now (g.F.Feed.feeds c.args.feed.now) (g.F.Feed.feeds c.go.new.feed) c.requires.blind c.go.ensures.others
