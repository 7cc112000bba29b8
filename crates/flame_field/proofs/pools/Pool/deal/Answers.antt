use Rattle.std.proofs.Common.{◌∙◌, map, sym, ap}
use Rattle.flame_field.specs.declared.gatherings.Gathering.{Gathering}
use Rattle.flame_field.proofs.Dealing.{all_chose}
use Rattle.flame_field.proofs.Written.{on_err}
use Rattle.flame_field.proofs.pools.Pool.deal.Goals as goal

pub returns-in_err-make_places-clause-dealt : goal.returns-in_err-make_places-clause-dealt
returns-in_err-make_places-clause-dealt c choose is dealt = c.in_err-make_places.ensures.dealt choose dealt

pub returns-then-is_free-clause-dealt : goal.returns-then-is_free-clause-dealt
returns-then-is_free-clause-dealt c choose is dealt =
    let fresh = c.make_places.new.self.fresh.rows.items in
    c.move_all.ensures.dealt choose
    (all_chose choose c.in-Some.choice fresh c.args.choices.now
    (is ∙ sym (ap (λ (own : Gathering). map choose own.rows.items) c.in_ok-make_places.ensures.fresh)) c.in-Some.ensures.all)
    (c.in_ok-make_places.ensures.dealt choose dealt)

pub returns-in_err-part-clause-dealt : goal.returns-in_err-part-clause-dealt
returns-in_err-part-clause-dealt c choose is dealt =
    c.in_err-part.ensures.dealt choose
    (is ∙ sym (ap (λ (own : Gathering). map choose own.rows.items) c.in_ok-make_places.ensures.fresh))
    (c.in_ok-make_places.ensures.dealt choose dealt)

pub returns-clause-dealt : goal.returns-clause-dealt
returns-clause-dealt c choose is dealt =
    c.in_ok-part.ensures.dealt choose
    (is ∙ sym (ap (λ (own : Gathering). map choose own.rows.items) c.in_ok-make_places.ensures.fresh))
    (c.in_ok-make_places.ensures.dealt choose dealt)

pub returns-in_err-part-clause-none : goal.returns-in_err-part-clause-none
returns-in_err-part-clause-none c =
    on_err c.from_residual-in_err-part.result (c.in_err-part.ensures.none ∙ c.in_ok-make_places.ensures.fresh)
