-- One source more.
use Rattle.std.proofs.Common.{◌≡◌, [], ◌<◌, length, get_or, set, take, ap, sym, ◌∙◌, arith, true, refl, ⊎_elim, ◌+◌}
use Rattle.std.specs.Prelude.{◌==◌, ◌||◌}
use Rattle.std.proofs.Math.Bool.{or-false}
use Rattle.std.proofs.lemmas.Bool.{eq-eqb, ne_eqb, cases_eq}
use Rattle.std.proofs.lemmas.List.{get_or-set_same, get_or-set_other, get_or_default, length-set}
use Rattle.std.proofs.lemmas.List.Folds.{list_any_more, list_any_at}
use Rattle.flame_spec.specs.Below.{is_in}
use Rattle.flame_graph.specs.Marks.{marked, marked_where}
use Rattle.flame_graph.proofs.Marking.{marked_or}
use Rattle.flame_depend.proofs.links.mark_all.Goals as goal

pub bounds-lists-source : goal.bounds-lists-source
bounds-lists-source c =
    let source = get_or c.args.sources.now c.loop-source.source-index 0 in
    let there = list_any_at (λ x. x == source) c.args.sources.now c.loop-source.source-index 0 c.loop-source-test.true (eq-eqb source source refl) in
    omega (arith, c.requires source there, c.loop-source.auto.lists)

pub loop-source-preserved : goal.loop-source-preserved
loop-source-preserved c = λ f l.
    let i = c.loop-source.source-index in
    let sources = c.args.sources.now in
    let lists = c.loop-source.lists in
    let source = get_or sources i 0 in
    let function = c.args.function in
    let old = get_or c.args.lists.now f [] in
    let there = list_any_at (λ x. x == source) sources i 0 c.loop-source-test.true (eq-eqb source source refl) in
    let bound : source < length lists = omega (arith, c.requires source there, c.loop-source.auto.lists) in
    let at : f < length lists = omega (arith, l, length-set lists source c.mark.new.self) in
    let more : is_in f (take (i + 1) sources) ≡ (is_in f (take i sources) || (source == f)) = list_any_more (λ x. x == f) sources i 0 c.loop-source-test.true in
    ⊎_elim
    (λ e. ap (λ k. get_or (set lists source c.mark.new.self) k []) (sym e)
    ∙ get_or-set_same lists source c.mark.new.self [] bound
    ∙ c.in_ok-mark.ensures
    ∙ ap (marked function) (get_or_default lists source c.index-lists-source.result [] bound ∙ ap (λ k. get_or lists k []) e ∙ c.loop-source.invariant f at)
    ∙ marked_or function (is_in f (take i sources)) true old
    ∙ ap (λ b. marked_where function b old) (sym (more ∙ ap (λ b. is_in f (take i sources) || b) (eq-eqb source f e))))
    (λ e. get_or-set_other lists source f c.mark.new.self [] (λ q. e (sym q)) ∙ c.loop-source.invariant f at
    ∙ ap (λ b. marked_where function b old) (sym (more ∙ ap (λ b. is_in f (take i sources) || b) (ne_eqb source f e) ∙ or-false (is_in f (take i sources)))))
    (cases_eq source f)
