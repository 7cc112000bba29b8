use Rattle.std.proofs.Common.{◌≡◌, ◌∙◌, [], ◌∷◌, List, ap, sym, arith, length, refl}
use Rattle.std.specs.Vec.Iter.{into_iter_items}
use Rattle.flame_spec.specs.declared.outcomes.Born.{Born}
use Rattle.flame_world.specs.AgentRuns.{births_of}
use Rattle.flame_world.specs.Fields.{joined}
use Rattle.flame_field.specs.KeptGatherings.{bag_of, bags_of}
use Rattle.flame_field.proofs.Gathered.{bag-in_order}
use Rattle.flame_field.proofs.Joining.{joined-birth, joined-nothing}
use Rattle.flame_round.proofs.closing.borne.Goals as goal

none_left : {X : Type 0} (xs : List X) → length xs ≡ 0 → xs ≡ []
none_left [] none = refl
none_left (x ∷ xs) none = absurd (omega (arith, none))

pub loop-birth-preserved : goal.loop-birth-preserved
loop-birth-preserved c =
    let rest = into_iter_items c.next.new.self in
    let birth = c.in-Some.birth in
    let old = c.loop-birth.invariant in
    let steps = c.in-Some.ensures.steps in
    record {
      counted = omega (arith, steps.1, ap length steps.0, old.counted);
      joins =
          ap (joined (births_of rest)) c.in_ok-bear_one.ensures
          ∙ sym (joined-birth birth rest (bags_of c.loop-birth.born))
          ∙ ap (λ (list : List Born). joined (births_of list) (bags_of c.loop-birth.born)) (sym steps.0)
          ∙ old.joins;
    }

pub returns : goal.returns
returns c =
    let old = c.loop-birth.invariant in
    let births = into_iter_items c.loop-birth.birth-iterator in
    let none : births ≡ [] = none_left births (sym old.counted ∙ c.in-None.ensures.steps.0) in
    sym (joined-nothing bag_of bag-in_order (births_of []) (λ n. refl) c.loop-birth.born.items)
    ∙ ap (λ (list : List Born). joined (births_of list) (bags_of c.loop-birth.born)) (sym none)
    ∙ old.joins
