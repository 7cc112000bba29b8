use Rattle.flame_outside.proofs.FrameLemmas.{whole_is_a_front, nothing_done, parts_join, frames_go_on, failures_stay, calm_fails_not}
use Rattle.flame_outside.proofs.laws.frames.Goals as goal

pub returns-clause-nothing : goal.returns-clause-nothing
returns-clause-nothing c = nothing_done

pub returns-clause-join : goal.returns-clause-join
returns-clause-join c = parts_join

pub returns-clause-go_on : goal.returns-clause-go_on
returns-clause-go_on c = frames_go_on

pub returns-clause-failures : goal.returns-clause-failures
returns-clause-failures c = failures_stay

pub returns-clause-calm : goal.returns-clause-calm
returns-clause-calm c = calm_fails_not

pub returns-clause-front : goal.returns-clause-front
returns-clause-front c = whole_is_a_front
