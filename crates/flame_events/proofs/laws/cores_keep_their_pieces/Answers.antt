use Rattle.flame_events.proofs.KeptCores.{pieces_are_few_and_filled, unrun_pieces_are_fresh, parts_are_kept_until_all_ran, boards_gather_what_is_handed_in}
use Rattle.flame_events.proofs.laws.cores_keep_their_pieces.Goals as goal

pub returns-clause-few : goal.returns-clause-few
returns-clause-few c = pieces_are_few_and_filled

pub returns-clause-fresh : goal.returns-clause-fresh
returns-clause-fresh c = unrun_pieces_are_fresh

pub returns-clause-kept : goal.returns-clause-kept
returns-clause-kept c = parts_are_kept_until_all_ran

pub returns-clause-gathers : goal.returns-clause-gathers
returns-clause-gathers c = boards_gather_what_is_handed_in
