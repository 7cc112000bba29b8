-- Functions are opened, one after another.
use Rattle.std.proofs.Common.{◌≡◌, ◌+◌, ℕ, List, drop, get_or, refl, sym, ap, ◌∙◌}
use Rattle.std.proofs.lemmas.List.{drop_more}
use Rattle.flame_core.specs.SeenCores.{round_in}
use Rattle.flame_flow.specs.Goings.{with_one_opened, with_opened}
use Rattle.flame_flow.specs.KeptGoings.{going_of}
use Rattle.flame_flow.proofs.Tellings.{gone_none, gone_on, gone_round, gone_pieces}
use Rattle.flame_flow.proofs.goings.open_all.Goals as goal

pub loop-function-init : goal.loop-function-init
loop-function-init c = record { on = gone_none c.args.going.now.told; rest = refl }

pub loop-function-preserved : goal.loop-function-preserved
loop-function-preserved c =
    let first = c.args.going.now.told in
    let going = c.loop-function.going in
    let old = c.loop-function.invariant in
    let k = c.loop-function.function-index in
    let functions = c.args.functions.now in
    let ranks = c.args.ranks.now in
    let f = get_or functions k 0 in
    let round = gone_round first going.told old.on in
    let pieces = gone_pieces first going.told old.on in
    let is : going_of c.open.new.going ≡ with_one_opened (round_in first.seen) first.seen.pieces ranks f (going_of going) =
    c.in_ok-open.ensures.ok ∙ (λ i. with_one_opened (round i) (pieces i) ranks f (going_of going)) in
    record {
      on = gone_on first going.told c.open.new.going.told old.on c.in_ok-open.ensures.on;
      rest =
          ap (with_opened (round_in first.seen) first.seen.pieces ranks (drop (k + 1) functions)) is
          ∙ sym (ap (λ (l : List ℕ). with_opened (round_in first.seen) first.seen.pieces ranks l (going_of going)) (drop_more functions k 0 c.loop-function-test.true))
          ∙ old.rest;
    }

pub returns-in_err-open-clause-on : goal.returns-in_err-open-clause-on
returns-in_err-open-clause-on c =
    gone_on c.args.going.now.told c.loop-function.going.told c.open.new.going.told c.loop-function.invariant.on c.in_err-open.ensures.on
