-- The round is turned to the place of its least member.
use Rattle.std.proofs.Common.{◌≡◌, ◌-◌, arith, sym, ap, ◌∙◌, length, take, drop}
use Rattle.std.specs.Prelude.{◌==◌}
use Rattle.std.specs.List.{position_or_len}
use Rattle.std.specs.Vec.{vec_len}
use Rattle.std.proofs.lemmas.Bool.{eqb-false}
use Rattle.std.proofs.lemmas.List.{take_rest}
use Rattle.flame_graph.proofs.Walking.{begun_is}
use Rattle.flame_graph.proofs.cycle.begin_with_least.Goals as goal

pub returns : goal.returns
returns c =
    let place : c.place_of-place.result ≡ position_or_len (λ f. f == c.least_in-least.result) c.args.round.now.items = c.place_of-place.ensures.place ∙ ap (λ xs. position_or_len (λ f. f == c.least_in-least.result) xs) c.deref-2.ensures.value in
    c.rotate_left.ensures.items
    ∙ begun_is c.args.round.now.items (take (length c.deref.result.now - 1) (drop 1 c.deref.result.now)) c.index.result.now c.least_in-least.result c.place_of-place.result (omega (arith, eqb-false (vec_len c.args.round.now) 0 (sym c.is_empty.ensures ∙ c.if-is_empty.false))) c.index.ensures (take_rest c.deref.result.now 1 ∙ ap (drop 1) c.deref.ensures.value) c.least_in-least.ensures place
