-- A piece is settled.
use Rattle.std.proofs.Common.{◌≡◌, ◌++◌, ◌∷◌, [], List, ℕ, map, sym, ◌∙◌, subst}
use Rattle.flame_spec.specs.declared.outcomes.Source.{Source}
use Rattle.flame_spec.specs.Accepted.{IsAccepted}
use Rattle.flame_world.specs.Shares.{piece_of}
use Rattle.flame_flow.specs.Goings.{AreWaysOf, GoesOn}
use Rattle.flame_flow.specs.KeptGoings.{going_of}
use Rattle.flame_flow.proofs.Bringing.{brought_goes}
use Rattle.flame_flow.proofs.Tellings.{gone_grown, grown_on, grown_source}
use Rattle.flame_flow.proofs.goings.settle.Goals as goal

pub shut_all-requires : goal.shut_all-requires
shut_all-requires c =
    let told = c.args.going.now.told in
    let ways = c.args.ways.now in
    subst (λ (s : Source). AreWaysOf s.model ways.ranks.items (map (λ list. list.items) ways.next.items))
    (sym (grown_source told c.run_whole.new.told c.in_ok-run_whole.ensures.on)) c.requires.ways

pub returns-in_err-push-clause-grown : goal.returns-in_err-push-clause-grown
returns-in_err-push-clause-grown c = c.in_ok-run_whole.ensures.on

pub returns-in_err-shut_all-clause-grown : goal.returns-in_err-shut_all-clause-grown
returns-in_err-shut_all-clause-grown c =
    let told = c.args.going.now.told in
    grown_on told c.run_whole.new.told c.shut_all.new.going.told c.in_ok-run_whole.ensures.on
    (gone_grown c.run_whole.new.told c.shut_all.new.going.told c.in_err-shut_all.ensures.on)

pub returns-clause-grown : goal.returns-clause-grown
returns-clause-grown c =
    let told = c.args.going.now.told in
    grown_on told c.run_whole.new.told c.shut_all.new.going.told c.in_ok-run_whole.ensures.on
    (gone_grown c.run_whole.new.told c.shut_all.new.going.told c.in_ok-shut_all.ensures.on)

pub returns-clause-settled : goal.returns-clause-settled
returns-clause-settled c = record {
  ran = c.run_whole.new.told;
  whole = c.in_ok-run_whole.ensures.ok;
  on = c.in_ok-shut_all.ensures.on;
}

pub returns-clause-goes : goal.returns-clause-goes
returns-clause-goes c = λ begun was goes.
    let going = c.args.going.now in
    let told = going.told in
    let ran = c.run_whole.new.told in
    let share = c.args.share in
    let due = going.due in
    let same = grown_source told ran c.in_ok-run_whole.ensures.on in
    let pushed : c.push.new.self.items ≡ (piece_of share).function ∷ [] =
    c.in_ok-push.ensures.items ∙ (λ i. c.requires.over i ++ (c.piece.ensures i).function ∷ []) in
    subst (λ (s : Source). GoesOn s.model begun [] [] (going_of c.shut_all.new.going)) same
    (c.in_ok-shut_all.ensures.goes begun
    (subst (λ (s : Source). GoesOn s.model begun [] [] (record { core = ran.seen.core; due = due; over = c.push.new.self.items })) (sym same)
    (subst (λ (l : List ℕ). GoesOn told.seen.source.model begun [] [] (record { core = ran.seen.core; due = due; over = l })) (sym pushed)
    (brought_goes told ran share begun due c.program-program.ensures.told
    (subst IsAccepted c.program-program.ensures.source c.source-source.ensures.accepted) c.in_ok-run_whole.ensures.ok was
    (subst (λ (l : List ℕ). GoesOn told.seen.source.model begun [] [] (record { core = told.seen.core; due = due; over = l })) c.requires.over goes)))))
