use mir.Syntax.{w32}
use mir.Val.{SFits}
use Rattle.std.proofs.Common.{rules, refl, sym, ap, ◌∙◌, subst, ◌≡◌, ◌++◌, length, take, drop, List, arith}
use Rattle.std.proofs.Math.Seq.{take-append_seam}
use Rattle.std.specs.Prelude.{ℤ}
use Rattle.std.proofs.lemmas.Int.{to_z-of_z}
use Rattle.flame_code.specs.Machine.{Given, Config}
use Rattle.flame_code.specs.Meanings.{Runs, begun, outcome_of}
use Rattle.flame_code.specs.Routines.{locals_of}
use Rattle.flame_machine.specs.MachineFrames.{Additions, config}
use Rattle.flame_machine.specs.Running.{Ready, unused, end_of}
use Rattle.flame_machine.specs.MachineSteps.{seen, told}
use Rattle.flame_machine.proofs.Arms.{told-nothing, told-whole}
use Rattle.flame_machine.proofs.Going.{code_begins, code_ready}
use Rattle.flame_machine.proofs.Zeros.{none_filled}
use Rattle.flame_machine.proofs.rooms.run_on.Goals as goal

pub go-requires-clause-ready : goal.go-requires-clause-ready
go-requires-clause-ready g c =
    let code = c.args.code.now in
    let locals = c.as_mut_slice.result.now in
    let room = length c.as_mut_slice-2.result.now in
    let memory = c.as_mut_slice-3.result.now in
    let feeds = g.F.Feed.feeds c.args.feed.now in
    let filled = c.as_mut_slice.ensures.value ∙ c.in_ok-begin.ensures.locals ∙ sym (none_filled (locals_of code.instrs)) in
    let wide = ap length c.as_mut_slice-3.ensures.value ∙ ap length c.in_ok-begin.ensures.numbers ∙ c.requires.entry.memory in
    let enough = ap length c.as_mut_slice-2.ensures.value in
    subst (λ (x : Additions). Ready code 0 (unused room locals memory c.args.fuel) x feeds)
    (sym (ap (told code.widths) c.clear.ensures ∙ told-nothing code.widths))
    (code_ready code locals memory room c.args.fuel feeds c.requires.entry.rows filled wide (omega (arith, enough, c.in_ok-begin.ensures.room)))

pub returns-clause-ran : goal.returns-clause-ran
returns-clause-ran g c =
    let code = c.args.code.now in
    let locals = c.as_mut_slice.result.now in
    let room = length c.as_mut_slice-2.result.now in
    let memory = c.as_mut_slice-3.result.now in
    let feeds = g.F.Feed.feeds c.args.feed.now in
    let after = seen code.widths (g.F.Feed.feeds c.go.new.feed) in
    let finishes = c.in_ok-called.ensures.runs in
    let frame = finishes.frame in
    let numbers = c.begin.new.self.numbers in
    let size : numbers.len ≡ length c.go.new.memory = omega (arith, c.as_mut_slice-3.ensures.len, c.go.auto.memory) in
    let rest = drop (length c.go.new.memory) numbers.items in
    let left = c.as_slice.result.now in
    let written : left ≡ c.go.new.memory =
    c.as_slice.ensures.value ∙ ap (λ n. take n (c.go.new.memory ++ rest)) size ∙ take-append_seam c.go.new.memory rest in
    let end = end_of finishes.place frame c.in_ok-called.called left c.go.new.added after in
    let whole = told-whole code.widths c.clear.new.self c.go.new.added c.clear.ensures c.go.ensures.quiet in
    let filled = c.as_mut_slice.ensures.value ∙ c.in_ok-begin.ensures.locals ∙ sym (none_filled (locals_of code.instrs)) in
    let begins =
    ap (λ (x : Additions). config 0 (unused room locals memory c.args.fuel) x (seen code.widths feeds)) (ap (told code.widths) c.clear.ensures ∙ told-nothing code.widths)
    ∙ code_begins code locals memory room c.args.fuel feeds c.requires.entry.rows filled
    ∙ ap (λ (m : List ℤ). begun m feeds c.args.fuel) (c.as_mut_slice-3.ensures.value ∙ c.in_ok-begin.ensures.numbers) in
    let fits : SFits w32 c.args.iteration = search rules in
    let given =
    c.of-given.ensures
    ∙ ap (λ i. let whole : Given = record { constants = c.args.constants.now; iteration = i } in whole) (to_z-of_z w32 c.args.iteration fits) in
    record {
      outcome = outcome_of end;
      holds = record {
        end = end;
        runs =
            subst (λ (x : Given). Runs x c.args.helpers.now.routines code (begun c.args.memory.now feeds c.args.fuel) end) given
            (subst (λ (x : Config). Runs c.of-given.result c.args.helpers.now.routines code x end) begins
            (subst (λ (x : Additions). Runs c.of-given.result c.args.helpers.now.routines code
            (config 0 (unused room locals memory c.args.fuel) (told code.widths c.clear.new.self) (seen code.widths feeds))
            (end_of finishes.place frame c.in_ok-called.called left x after)) whole
            (subst (λ (l : List ℤ). Runs c.of-given.result c.args.helpers.now.routines code
            (config 0 (unused room locals memory c.args.fuel) (told code.widths c.clear.new.self) (seen code.widths feeds))
            (end_of finishes.place frame c.in_ok-called.called l (told code.widths c.go.new.added) after)) (sym written) finishes.runs)));
        same = refl;
      };
      ends = c.in_ok-ending.ensures.ends finishes.place frame after;
      messages = c.in_ok-ending.ensures.sent finishes.place frame after;
      births = c.in_ok-ending.ensures.born finishes.place frame after;
    }
