-- One node more.
use Rattle.std.proofs.Common.{◌≡◌, ℕ, ◌+◌, ◌<◌, List, Option, length, get_or, not, ap, sym, ◌∙◌, subst, arith, true, false, refl}
use Rattle.std.specs.Prelude.{◌&&◌}
use Rattle.std.specs.List.{All}
use Rattle.std.proofs.Math.Bool.{and-true, and-false}
use Rattle.std.proofs.lemmas.Bool.{eq-eqb, ne_eqb}
use Rattle.flame_rows.proofs.Lists.{take-written}
use Rattle.flame_spec.specs.Below.{is_in}
use Rattle.flame_graph.specs.Graph.{follows, waits}
use Rattle.flame_graph.specs.Backs.{pointed, ArePointing, back_from}
use Rattle.flame_graph.proofs.Counting.{below_all, in_passing}
use Rattle.flame_graph.proofs.Following.{list_is}
use Rattle.flame_graph.proofs.Walking.{pointing_more, pointed_none}
use Rattle.flame_graph.proofs.cycle.point_back.Goals as goal
use Rattle.flame_graph.proofs.cycle.point_back.Goals.{then-open-ne0, else-open-ne0}

pub point-requires : goal.point-requires
point-requires c =
    let n = length c.args.lists.now in
    let before = follows c.args.lists.now in
    let list = list_is c.args.lists.now c.loop-f.f c.index-lists-f.result c.numbers.result.now c.requires.ascending (omega (arith, c.loop-f-test.true, c.requires.same)) c.index-lists-f.is c.numbers.ensures in
    let P : List ℕ → Type 0 = All (λ g. g < n) in
    λ k d l. omega (arith, subst P (sym list) (below_all (before c.loop-f.f) n) k d l, c.deref_mut.ensures.len, c.loop-f.invariant.len)

pub loop-f-preserved : goal.loop-f-preserved
loop-f-preserved c =
    let n = length c.args.lists.now in
    let before = follows c.args.lists.now in
    let ws = c.args.waiting.now in
    let f = c.loop-f.f in
    let below : f < n = omega (arith, c.loop-f-test.true, c.requires.same) in
    let P : List (Option ℕ) → Type 0 = ArePointing (f + 1) n before ws in
    elim c.if-open-ne0.branch [
      | then-open-ne0 w ↦
          let list = list_is c.args.lists.now f w.index-lists-f.result w.numbers.result.now c.requires.ascending below w.index-lists-f.is w.numbers.ensures in
          let items = w.deref_mut.ensures.value in
          let same : length w.point.new.backs ≡ length c.loop-f.backs.items = w.point.auto.backs ∙ ap (length {A = Option ℕ}) items in
          let lent = take-written w.point.new.backs c.loop-f.backs.items c.loop-f.backs.len same (omega arith) in
          let waiting : waits ws f ≡ true = ap not (ne_eqb (get_or ws f 0) 0 w.if-open-ne0.true) in
          let more = pointing_more f n before ws c.loop-f.backs.items w.point.new.backs c.loop-f.invariant same
          (λ g l. w.point.ensures g (omega (arith, l, ap (length {A = Option ℕ}) items, c.loop-f.invariant.len))
          ∙ ap (λ xs. pointed f (is_in g w.numbers.result.now) (back_from xs g)) items
          ∙ ap (λ b. pointed f b (back_from c.loop-f.backs.items g)) (ap (is_in g) list ∙ in_passing (before f) n g l ∙ sym (ap (λ b. before f g && b) waiting ∙ and-true (before f g)))) in
          subst P (sym (ap (λ v. v.items) w.backs-is ∙ lent)) more
      | else-open-ne0 w ↦
          let shut : waits ws f ≡ false = ap not (eq-eqb (get_or ws f 0) 0 w.if-open-ne0.false) in
          let more = pointing_more f n before ws c.loop-f.backs.items c.loop-f.backs.items c.loop-f.invariant refl
          (λ g l. sym (ap (λ b. pointed f b (back_from c.loop-f.backs.items g)) (ap (λ b. before f g && b) shut ∙ and-false (before f g)) ∙ pointed_none f (back_from c.loop-f.backs.items g))) in
          subst P (sym (ap (λ v. v.items) w.backs-is)) more
    ]
