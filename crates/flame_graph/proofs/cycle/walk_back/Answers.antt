-- The code's way back is that of the definition.
use Rattle.std.proofs.Common.{◌≡◌, ℕ, List, [], ◌+◌, Option, length, ap, sym, ◌∙◌, subst, arith, IfOk}
use Rattle.flame_spec.specs.ModelOrder.{walk_back}
use Rattle.flame_graph.specs.Graph.{follows}
use Rattle.flame_graph.specs.Backs.{back_from}
use Rattle.flame_graph.proofs.Walking.{back_within, backs_are, steps_back}
use Rattle.flame_graph.proofs.cycle.walk_back.Goals as goal

pub walk-requires-clause-within : goal.walk-requires-clause-within
walk-requires-clause-within c = λ g f e.
    let n = length c.args.lists.now in
    let backs = c.in_ok-backs.backs.items in
    let same = c.deref.ensures.value in
    omega (arith, back_within n (follows c.args.lists.now) c.args.waiting.now backs c.in_ok-backs.ensures g f (sym (ap (λ bs. back_from bs g) same) ∙ e), c.in_ok-backs.ensures.len, ap (length {A = Option ℕ}) same)

pub returns : goal.returns
returns c =
    let lists = c.args.lists.now in
    let n = length lists in
    let ws = c.args.waiting.now in
    let backs = c.in_ok-backs.backs.items in
    let start = c.args.start in
    let P : List ℕ → Type 0 = λ xs. IfOk c.walk.result (λ round. round.items ≡ xs) in
    subst P (
    ap (λ bs. walk_back (length bs + 1) (back_from bs) [] start) c.deref.ensures.value
    ∙ ap (λ k. walk_back (k + 1) (back_from backs) [] start) c.in_ok-backs.ensures.len
    ∙ ap (λ back. walk_back (n + 1) back [] start) (λ j g. (backs_are lists ws backs c.requires.ascending c.in_ok-backs.ensures g ∙ steps_back n (follows lists) ws c.requires.waiting g) j)
    ) c.walk.ensures
