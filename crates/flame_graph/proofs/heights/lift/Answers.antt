-- One successor more.
use Rattle.std.proofs.Common.{◌≡◌, ◌+◌, ◌<◌, length, take, get_or, set, ap, sym, ◌∙◌, arith, max, true, ⊎_elim}
use Rattle.std.specs.Prelude.{◌==◌, ◌||◌}
use Rattle.std.proofs.lemmas.Bool.{eq-eqb, ne_eqb, cases_eq}
use Rattle.std.proofs.lemmas.List.{length-set, get_or-set_same, get_or-set_other}
use Rattle.std.proofs.lemmas.List.Folds.{list_any_more}
use Rattle.flame_spec.specs.Below.{is_in}
use Rattle.flame_graph.specs.Heights.{lifted}
use Rattle.std.proofs.Math.Bool.{or-false}
use Rattle.flame_graph.proofs.Reaching.{lifted_or}
use Rattle.flame_graph.proofs.heights.lift.Goals as goal

pub loop-successor-preserved : goal.loop-successor-preserved
loop-successor-preserved c = λ g l.
    let ts = c.args.successors.now in
    let i = c.loop-successor.successor-index in
    let hs = c.loop-successor.heights in
    let t = get_or ts i 0 in
    let height = c.args.height in
    let old = get_or c.args.heights.now g 0 in
    let bound : t < length c.args.heights.now = c.requires i 0 c.loop-successor-test.true in
    let within : t < length hs = omega (arith, bound, c.loop-successor.auto.heights) in
    let at : g < length hs = omega (arith, l, length-set hs t c.max.result) in
    let more : is_in g (take (i + 1) ts) ≡ (is_in g (take i ts) || (t == g)) = list_any_more (λ x. x == g) ts i 0 c.loop-successor-test.true in
    ⊎_elim
    (λ e. ap (λ k. get_or (set hs t c.max.result) k 0) (sym e) ∙ get_or-set_same hs t c.max.result 0 within ∙ c.max.ensures
    ∙ ap (λ x. max x height) (ap (λ k. get_or hs k 0) e ∙ c.loop-successor.invariant g at)
    ∙ lifted_or height (is_in g (take i ts)) true old
    ∙ ap (λ b. lifted height b old) (sym (more ∙ ap (λ b. is_in g (take i ts) || b) (eq-eqb t g e))))
    (λ e. get_or-set_other hs t g c.max.result 0 (λ q. e (sym q)) ∙ c.loop-successor.invariant g at
    ∙ ap (λ b. lifted height b old) (sym (more ∙ ap (λ b. is_in g (take i ts) || b) (ne_eqb t g e) ∙ or-false (is_in g (take i ts)))))
    (cases_eq t g)
