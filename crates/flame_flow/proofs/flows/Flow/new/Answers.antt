-- A flow begins.
use Rattle.std.proofs.Common.{◌≡◌, ℕ, List, [], sym, ap, ◌∙◌, subst}
use Rattle.std.specs.Prelude.{not}
use Rattle.std.specs.List.{list_all}
use Rattle.flame_spec.specs.declared.outcomes.Source.{Source}
use Rattle.flame_spec.specs.Before.{function_count}
use Rattle.flame_events.specs.declared.events.Event.{Event}
use Rattle.flame_events.specs.EventBounds.{is_of_piece}
use Rattle.flame_flow.specs.Goings.{GoesOn}
use Rattle.flame_flow.specs.KeptGoings.{going_of}
use Rattle.flame_flow.specs.KeptWays.{IsWaysOf}
use Rattle.flame_flow.specs.QuietCores.{AreLeft, IsQuiet}
use Rattle.flame_flow.specs.ToldCores.{ToldCore, told_on}
use Rattle.flame_flow.proofs.Left.{left_quiet}
use Rattle.flame_flow.proofs.Tellings.{gone_grown, grown_source}
use Rattle.flame_flow.proofs.flows.Flow.new.Goals as goal

pub invariant_of-result : goal.invariant_of-result
invariant_of-result c =
    let told = c.new-told.result in
    let going = c.begin_all.new.going in
    let on = c.in_ok-begin_all.ensures.on in
    let same = grown_source told going.told (gone_grown told going.told on) in
    let began = ap (λ (t : ToldCore). t.seen.source) c.new-told.ensures in
    let is = c.program-program.ensures.source ∙ sym (same ∙ began) in
    record {
      ways_are = subst (λ (s : Source). IsWaysOf s.model c.in_ok-ways.ways) is c.in_ok-ways.ensures;
      long = c.in_ok-begun.ensures.long ∙ c.functions.ensures ∙ ap (λ (s : Source). function_count s.model) is;
      over = λ e. c.in_ok-begin_all.ensures.over;
      goes = λ e. subst (λ (s : Source). GoesOn s.model c.in_ok-begun.begun.items [] [] (going_of going)) (sym same)
          (c.in_ok-begin_all.ensures.goes c.in_ok-begun.begun.items c.in_ok-begun.ensures.zero);
    }

pub returns-clause-kinds : goal.returns-clause-kinds
returns-clause-kinds c =
    let on = c.in_ok-begin_all.ensures.on in
    let came : c.begin_all.new.going.told.history ≡ on.more =
    ap (λ (t : ToldCore). t.history) (on.left ∙ ap (told_on on.more) c.new-told.ensures) in
    ap (list_all (λ (e : Event). not (is_of_piece e))) came ∙ on.kinds

pub returns-clause-quiet : goal.returns-clause-quiet
returns-clause-quiet c =
    let told = c.new-told.result in
    let going = c.begin_all.new.going in
    let same = grown_source told going.told (gone_grown told going.told c.in_ok-begin_all.ensures.on) in
    let left = (c.in_ok-begin_all.ensures.goes c.in_ok-begun.begun.items c.in_ok-begun.ensures.zero).left in
    subst (λ (s : Source). IsQuiet s.model going.told.seen.core) (sym same)
    (left_quiet told.seen.source.model going.told.seen.core
    (subst (λ (over : List ℕ). AreLeft told.seen.source.model over [] [] going.told.seen.core) c.in_ok-begin_all.ensures.over left))
