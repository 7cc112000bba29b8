-- What each step of the order keeps holds of the whole order.
use Rattle.flame_spec.proofs.Orders.{order_is_order, order_takes, ready_taken, left_steps_back, none_left_over}
use Rattle.flame_spec.proofs.Orders.{all_ordered}
use Rattle.flame_spec.specs.ModelOrder.{order}
use Rattle.std.proofs.Common.{take}
use Rattle.std.specs.Prelude.{slice_index}
use Rattle.flame_spec_laws.proofs.order_laws.orders.Goals as goal

pub returns-clause-functions : goal.returns-clause-functions
returns-clause-functions c = λ n before place l. (order_is_order n before).below place l

pub returns-clause-once : goal.returns-clause-once
returns-clause-once c = λ n before. (order_is_order n before).once

pub returns-clause-after : goal.returns-clause-after
returns-clause-after c =
    λ n before place f l q b. ready_taken n before (take place (order n before)) (slice_index (order n before) place)
    ((order_is_order n before).ready place l) f q b

pub returns-clause-first : goal.returns-clause-first
returns-clause-first c = λ n before place l. order_takes n before place l

pub returns-clause-whole : goal.returns-clause-whole
returns-clause-whole c = λ n before. (none_left_over n before, all_ordered n before)

pub returns-clause-left : goal.returns-clause-left
returns-clause-left c = λ n before g l h. let s = left_steps_back n before g l h in (s.0, s.1.0, s.1.1, s.1.2, s.1.3)
