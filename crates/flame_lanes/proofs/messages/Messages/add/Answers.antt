use Rattle.std.proofs.Common.{◌≡◌, ℕ, arith, false, List, set, subst, sym, ap, ◌∙◌}
use Rattle.flame_spec.specs.Below.{is_in}
use Rattle.flame_lanes.specs.ListedMessages.{HavePlaces}
use Rattle.flame_lanes.proofs.Listed.{have-more, have-room, with_message-found}
use Rattle.flame_lanes.proofs.messages.Messages.add.Goals as goal

pub returns-then-is_some-clause-ok : goal.returns-then-is_some-clause-ok
returns-then-is_some-clause-ok c =
    with_message-found c.args.message c.args.self.now c.find.result c.find.ensures.some (sym c.is_some.ensures ∙ c.if-is_some.true)

pub invariant_of-self : goal.invariant_of-self
invariant_of-self c =
    have-room c.self.inside.listed.items c.self.inside.places.items c.make_room.new.places.items c.self.invariant c.make_room.ensures.kept

pub invariant_of-self-in_err-push : goal.invariant_of-self-in_err-push
invariant_of-self-in_err-push c =
    let places = c.make_room.new.places.items in
    subst (λ (l : List ℕ). HavePlaces l places) (sym c.in_err-push.ensures.items)
    (have-room c.self.inside.listed.items c.self.inside.places.items places c.self.invariant c.make_room.ensures.kept)

pub invariant_of-self-2 : goal.invariant_of-self-2
invariant_of-self-2 c =
    let listed = c.self.inside.listed.items in
    let places = c.make_room.new.places.items in
    let new : is_in c.args.message listed ≡ false =
    ap (is_in c.args.message) c.self.view_is
    ∙ c.find.ensures.none (sym c.is_some.ensures ∙ c.if-is_some.false) in
    subst (λ (l : List ℕ). HavePlaces l (set places c.args.message c.in_ok-place.place)) (sym c.in_ok-push.ensures.items)
    (have-more listed places c.args.message c.in_ok-place.place
    (have-room listed c.self.inside.places.items places c.self.invariant c.make_room.ensures.kept) new
    (omega (arith, c.in_ok-place.ensures, c.len.ensures, c.self.inside.listed.ok.0)) c.in_ok-make_room.ensures.room)
