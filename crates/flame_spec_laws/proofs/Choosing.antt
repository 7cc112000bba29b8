-- What is chosen is the first function that may be taken.
use Rattle.flame_spec.specs.Functions.{functions}
use Rattle.flame_spec.specs.Choice.{may_take, choice, is_chosen}
use Rattle.flame_spec.specs.ViewLaws.{ChoiceIsFirst, FirstIsChosen, NoChoiceWhereNone, TakersKeepCounts}
use Rattle.flame_spec_laws.proofs.FirstPlace.{position-first, position-passes, position-earlier, position-stands}
use Rattle.flame_spec_laws.proofs.FirstPlace.{position-None}
use Rattle.flame_spec.proofs.Viewed.{count_of-filter}

pub choice_is_first : ChoiceIsFirst
choice_is_first model agent state memory iteration function chosen =
    let may = may_take model.units agent state memory iteration in
    let there = position-stands may (functions model) function chosen in
    record {
      place = there.0;
      stands = there.1;
      holds = position-passes may (functions model) function there.0 chosen there.1;
      earlier =
          λ number other less stands. position-earlier may (functions model) function number other chosen less stands;
    }

pub first_is_chosen : FirstIsChosen
first_is_chosen model agent state memory iteration function first =
    position-first (may_take model.units agent state memory iteration) (functions model) function
    first.place first.stands first.holds first.earlier

pub no_choice_where_none : NoChoiceWhereNone
no_choice_where_none model agent state memory iteration number other none stands =
    position-None (may_take model.units agent state memory iteration) (functions model) number other none stands

pub takers_keep_counts : TakersKeepCounts
takers_keep_counts model agent state function iteration resting memory =
    count_of-filter (λ row. is_chosen function (choice model agent state row iteration)) resting memory
