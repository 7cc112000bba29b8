-- Functions are shut until none may be over.
use Rattle.std.proofs.Common.{◌≡◌, ◌++◌, ◌∷◌, ◌<◌, [], List, ℕ, map, ap, sym, ◌∙◌, subst}
use Rattle.std.proofs.lemmas.List.{append-nil}
use Rattle.flame_spec.specs.declared.models.Model.{Model}
use Rattle.flame_spec.specs.declared.outcomes.Source.{Source}
use Rattle.flame_flow.specs.Goings.{AreWaysOf, GoesOn, work_left}
use Rattle.flame_flow.specs.KeptGoings.{going_of}
use Rattle.flame_flow.proofs.Bringing.{shut_on, shut_lessens}
use Rattle.flame_flow.proofs.Tellings.{gone_none, gone_on, gone_grown, grown_source}
use Rattle.flame_flow.proofs.goings.shut_all.Goals as goal

pub functions-init : goal.functions-init
functions-init c = record { on = gone_none c.args.going.now.told; goes = λ begun goes. goes }

pub functions-preserved : goal.functions-preserved
functions-preserved c =
    let first = c.args.going.now.told in
    let going = c.functions.going in
    let ways = c.args.ways.now in
    let next = map (λ list. list.items) ways.next.items in
    let old = c.functions.invariant in
    let f = c.in-Some.function in
    let over : going.over.items ≡ c.pop.new.self.items ++ f ∷ [] = c.in-Some.ensures.items in
    let same : going.told.seen.source.model ≡ first.seen.source.model = ap (λ (s : Source). s.model) (grown_source first going.told (gone_grown first going.told old.on)) in
    record {
      on = gone_on first going.told c.shut.new.going.told old.on c.in_ok-shut-in-Some.ensures.on;
      goes = λ begun goes.
          subst (λ (m : Model). GoesOn m begun [] [] (going_of c.shut.new.going)) same
          (shut_on going.told ways.ranks.items next begun f going.due c.pop.new.self.items (going_of c.shut.new.going)
          c.in_ok-shut-in-Some.ensures.told (subst (λ (m : Model). AreWaysOf m ways.ranks.items next) (sym same) c.requires) c.in_ok-shut-in-Some.ensures.ok
          (subst (λ (m : Model). GoesOn m begun [] [] (record { core = going.told.seen.core; due = going.due; over = c.pop.new.self.items ++ f ∷ [] })) (sym same)
          (subst (λ (l : List ℕ). GoesOn first.seen.source.model begun [] [] (record { core = going.told.seen.core; due = going.due; over = l })) over
          (old.goes begun goes))));
    }

pub functions-smaller : goal.functions-smaller
functions-smaller c =
    let going = c.functions.going in
    let ways = c.args.ways.now in
    let next = map (λ list. list.items) ways.next.items in
    let f = c.in-Some.function in
    let over : going.over.items ≡ c.pop.new.self.items ++ f ∷ [] = c.in-Some.ensures.items in
    subst (λ (l : List ℕ). work_left (going_of c.shut.new.going) < work_left (record { core = going.told.seen.core; due = going.due; over = l })) (sym over)
    (shut_lessens going.told ways.ranks.items next f going.due c.pop.new.self.items (going_of c.shut.new.going) c.in_ok-shut-in-Some.ensures.told c.in_ok-shut-in-Some.ensures.ok)

pub returns-in_err-shut-in-Some-clause-on : goal.returns-in_err-shut-in-Some-clause-on
returns-in_err-shut-in-Some-clause-on c =
    gone_on c.args.going.now.told c.functions.going.told c.shut.new.going.told c.functions.invariant.on c.in_err-shut-in-Some.ensures.on

pub returns-in-None-clause-goes : goal.returns-in-None-clause-goes
returns-in-None-clause-goes c = λ begun goes.
    let going = c.functions.going in
    subst (λ (l : List ℕ). GoesOn c.args.going.now.told.seen.source.model begun [] [] (record { core = going.told.seen.core; due = going.due; over = l }))
    (c.in-None.ensures.items ∙ append-nil c.pop.new.self.items)
    (c.functions.invariant.goes begun goes)
