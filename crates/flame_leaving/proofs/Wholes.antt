-- What parts leave, as one value.
use Rattle.std.proofs.Common.{◌∙◌, List, sym, ap, arith}
use Rattle.flame_rows.specs.Bags.{ascending, merge}
use Rattle.flame_world.specs.AgentRuns.{messages_of, births_of}
use Rattle.flame_spec.specs.declared.outcomes.Sent.{Sent}
use Rattle.flame_spec.specs.declared.outcomes.Born.{Born}
use Rattle.flame_leaving.specs.WholeLaws.{LeavingsAddUp, least_of}
use Rattle.flame_leaving.proofs.LeastFaults.{fault_is_the_least}
use Rattle.flame_leaving.proofs.Totals.{agents_add_up, survivors_merge, messages_merge, births_merge}

pub leavings_add_up : LeavingsAddUp
leavings_add_up iteration function run ones twos all one two whole together left right both = record {
  ran = omega (arith, both.ran, agents_add_up ones twos all together, left.ran, right.ran);
  survivors = ap ascending both.survivors ∙ survivors_merge run ones twos all together
      ∙ sym (λ i. merge (ascending (left.survivors i)) (ascending (right.survivors i)));
  sent = λ m. ap (λ (sent : List Sent). ascending (messages_of sent m)) both.sent ∙ messages_merge run m ones twos all together
      ∙ sym (λ i. merge (ascending (messages_of (left.sent i) m)) (ascending (messages_of (right.sent i) m)));
  born = λ a. ap (λ (born : List Born). ascending (births_of born a)) both.born ∙ births_merge run a ones twos all together
      ∙ sym (λ i. merge (ascending (births_of (left.born i) a)) (ascending (births_of (right.born i) a)));
  fault = both.fault ∙ fault_is_the_least iteration function run ones twos all together
      ∙ sym (λ i. least_of (left.fault i) (right.fault i));
}
