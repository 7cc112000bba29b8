use Rattle.std.proofs.Common.{◌≡◌, ◌+◌, ◌-◌, ◌*◌, ◌/◌, ◌<◌, ◌∷◌, ◌++◌, ◌∙◌, [], length, take, ap, arith}
use Rattle.std.proofs.lemmas.List.{length-take-le}
use Rattle.flame_lanes.proofs.LastRuns.{last_place, last-place-before, last-place-below, runs-more, runs-over}
use Rattle.flame_lanes.proofs.tasks.cut_rows.Goals as goal

pub loop-rest-preserved : goal.loop-rest-preserved
loop-rest-preserved c =
    let kept = c.loop-rest.invariant in
    let size = c.in-Some.others / c.args.pieces + 1 in
    let rest = c.loop-rest.rest in
    let front = c.split_off.new.self.items in
    let at = last_place (length rest.items) size in
    let more : size < length rest.items = omega (arith, c.loop-rest-test.true, c.len-in-loop-rest.ensures, rest.ok.0) in
    let before : 0 < at = last-place-before (length rest.items) size (omega arith) more in
    let below : at < length rest.items = last-place-below (length rest.items) size kept.some in
    let same : c.len-in-loop-rest-2.result ≡ length rest.items =
    omega (arith, c.len-in-loop-rest-2.ensures, rest.ok.0) in
    let is : (c.len-in-loop-rest-2.result - 1) / size * size ≡ at = ap (λ n. last_place n size) same in
    let long : length front ≡ at =
    ap length c.in_ok-run.ensures.items ∙ ap (λ n. length (take n rest.items)) is
    ∙ length-take-le at rest.items (omega (arith, below)) in
    record {
      whole =
          runs-more c.args.pieces size rest.items front c.in_ok-run.run'.items c.loop-rest.runs.items
          c.push.new.self.items _ _ (omega arith) kept.some kept.few is c.in_ok-run.ensures.items c.in_ok-run.ensures.tail
          (c.in_ok-push.ensures.items ∙ ap (λ run. c.loop-rest.runs.items ++ run ∷ []) c.of.ensures) kept.whole;
      some = omega (arith, long, before);
      few = omega (arith, long, below, kept.few);
    }

pub returns : goal.returns
returns c =
    let kept = c.loop-rest.invariant in
    c.reverse.ensures.items
    ∙ runs-over c.args.pieces (c.in-Some.others / c.args.pieces + 1) c.loop-rest.rest.items c.loop-rest.runs.items
    c.push-2.new.self.items _ (omega (arith, c.requires)) kept.some
    (omega (arith, c.loop-rest-test.false, c.len-in-loop-rest.ensures, c.loop-rest.rest.ok.0))
    (c.in_ok-push-2.ensures.items ∙ ap (λ run. c.loop-rest.runs.items ++ run ∷ []) c.of-2.ensures) kept.whole
