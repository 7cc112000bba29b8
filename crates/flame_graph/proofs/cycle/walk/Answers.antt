-- One step more.
use Rattle.std.proofs.Common.{◌≡◌, ℕ, [], ◌∷◌, ◌++◌, ◌+◌, ◌-◌, List, true, false, length, set, ap, sym, ◌∙◌, subst, arith, IfOk}
use Rattle.std.proofs.lemmas.List.{get_or_read}
use Rattle.flame_spec.specs.Below.{is_in}
use Rattle.flame_spec.specs.ModelOrder.{walk_back, from_there, repeated_part}
use Rattle.flame_graph.specs.Backs.{back_from, AreSeen}
use Rattle.flame_graph.proofs.Walking.{walk_more, walk_repeats, seen_more}
use Rattle.flame_graph.proofs.cycle.walk.Goals as goal

pub returns-then-index : goal.returns-then-index
returns-then-index c =
    let m = length c.args.backs.now + 1 in
    let back = back_from c.args.backs.now in
    let i = c.loop-turn.invariant in
    let path = c.loop-turn.path.items in
    let f = c.loop-turn.node in
    let mark = get_or_read c.loop-turn.seen.items f c.index.result.now (omega (arith, i.inside, i.seen.len)) c.index.ensures false in
    let there : is_in f path ≡ true = sym (i.seen.at f i.inside) ∙ sym mark ∙ c.if-index.true in
    let P : List ℕ → Type 0 = λ xs. IfOk c.repeat_from.result (λ round. round.items ≡ xs) in
    subst P (ap (λ xs. repeated_part xs f) c.deref.ensures.value ∙ sym (i.rest ∙ walk_repeats m back path f c.loop-turn._turn c.loop-turn-test.true there)) c.repeat_from.ensures

pub returns-in-None : goal.returns-in-None
returns-in-None c =
    let m = length c.args.backs.now + 1 in
    let back = back_from c.args.backs.now in
    let i = c.loop-turn.invariant in
    let path = c.loop-turn.path.items in
    let f = c.loop-turn.node in
    let mark = get_or_read c.loop-turn.seen.items f c.index.result.now (omega (arith, i.inside, i.seen.len)) c.index.ensures false in
    let new : is_in f path ≡ false = sym (i.seen.at f i.inside) ∙ sym mark ∙ c.if-index.false in
    c.new.ensures.items ∙ sym (i.rest ∙ walk_more m back path f c.loop-turn._turn c.loop-turn-test.true new ∙ ap (λ o. from_there o (walk_back (m - (c.loop-turn._turn + 1)) back (path ++ f ∷ []))) (sym c.in-None.ensures))

pub loop-turn-preserved : goal.loop-turn-preserved
loop-turn-preserved c =
    let n = length c.args.backs.now in
    let m = n + 1 in
    let back = back_from c.args.backs.now in
    let i = c.loop-turn.invariant in
    let path = c.loop-turn.path.items in
    let f = c.loop-turn.node in
    let mark = get_or_read c.loop-turn.seen.items f c.index.result.now (omega (arith, i.inside, i.seen.len)) c.index.ensures false in
    let new : is_in f path ≡ false = sym (i.seen.at f i.inside) ∙ sym mark ∙ c.if-index.false in
    let pushed : c.push.new.self.items ≡ path ++ f ∷ [] = c.in_ok-push.ensures.items in
    let P : List ℕ → Type 0 = λ xs. AreSeen n xs (set c.loop-turn.seen.items f true) in
    record {
      seen = subst P (sym pushed) (seen_more n path f c.loop-turn.seen.items i.inside i.seen);
      inside = c.requires.within f c.in-Some.before (sym c.in-Some.ensures);
      rest = i.rest ∙ walk_more m back path f c.loop-turn._turn c.loop-turn-test.true new
          ∙ ap (λ o. from_there o (walk_back (m - (c.loop-turn._turn + 1)) back (path ++ f ∷ []))) (sym c.in-Some.ensures)
          ∙ ap (λ xs. walk_back (m - (c.loop-turn._turn + 1)) back xs c.in-Some.before) (sym pushed);
    }
