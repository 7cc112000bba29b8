use Rattle.flame_spec.proofs.Viewed.{view_keeps_counts, view_ascends, view_goes_by_key, view_ties_by_content}
use Rattle.flame_spec.proofs.Viewed.{view_is_the_one, plain_view_is_board}
use Rattle.flame_spec_laws.proofs.view_laws.views.Goals as goal

pub returns-clause-counts : goal.returns-clause-counts
returns-clause-counts c = view_keeps_counts

pub returns-clause-ascends : goal.returns-clause-ascends
returns-clause-ascends c = view_ascends

pub returns-clause-key : goal.returns-clause-key
returns-clause-key c = view_goes_by_key

pub returns-clause-ties : goal.returns-clause-ties
returns-clause-ties c = view_ties_by_content

pub returns-clause-one : goal.returns-clause-one
returns-clause-one c = view_is_the_one

pub returns-clause-plain : goal.returns-clause-plain
returns-clause-plain c = plain_view_is_board
