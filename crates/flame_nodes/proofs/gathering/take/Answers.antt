use Rattle.std.proofs.Common.{◌∙◌, List, Some, ap, arith, subst, sym}
use Rattle.std.specs.List.{All}
use Rattle.flame_world.specs.declared.shares.Share.{Share}
use Rattle.flame_nodes.specs.GatheredShares.{IsFirst}
use Rattle.flame_nodes.specs.NodeWork.{IsFirstPlace, IsOf}
use Rattle.flame_nodes.proofs.FirstShares.{first-there, first-without, none-first}
use Rattle.flame_nodes.proofs.gathering.take.Goals as goal

pub returns-in-Some-clause-first : goal.returns-in-Some-clause-first
returns-in-Some-clause-first c own first =
    let fits = IsOf c.args.terms c.args.piece.now in
    let shares = c.args.arrived.now.items in
    let at : IsFirstPlace fits shares c.in-Some.place =
    subst (λ (list : List Share). IsFirstPlace fits list c.in-Some.place) c.as_slice.ensures.value c.in-Some.ensures in
    ap Some
    (c.remove.ensures.value
    ∙ first-there fits shares c.in-Some.place own c.remove.result at.fits (λ k d below. at.none_before k d (omega arith) below) first)

pub returns-in-Some-clause-others : goal.returns-in-Some-clause-others
returns-in-Some-clause-others c other apart own first =
    let fits = IsOf c.args.terms c.args.piece.now in
    let shares = c.args.arrived.now.items in
    let at : IsFirstPlace fits shares c.in-Some.place =
    subst (λ (list : List Share). IsFirstPlace fits list c.in-Some.place) c.as_slice.ensures.value c.in-Some.ensures in
    subst (λ (list : List Share). IsFirst (IsOf c.args.terms other) list own) (sym c.remove.ensures.items)
    (first-without (IsOf c.args.terms other) shares c.in-Some.place own
    (λ d its. apart (sym its.piece_is ∙ (at.fits d).piece_is)) first)

pub returns-in-None-clause-first : goal.returns-in-None-clause-first
returns-in-None-clause-first c own first =
    absurd (none-first (IsOf c.args.terms c.args.piece.now) c.args.arrived.now.items own
    (λ k d there. subst (λ (list : List Share). All (λ share. IsOf c.args.terms c.args.piece.now share → ⊥) list) c.as_slice.ensures.value c.in-None.ensures k d there)
    first)
