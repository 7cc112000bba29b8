-- Which piece is next.
use Rattle.std.proofs.Common.{◌≡◌, ℕ, List, Option, Some, None, sym, ap, ◌∙◌, subst}
use Rattle.std.specs.Prelude.{slice_index}
use Rattle.flame_spec.specs.declared.outcomes.Source.{Source}
use Rattle.flame_spec.specs.ModelOrder.{model_order}
use Rattle.flame_flow.specs.FlowStates.{next_piece, is_rank_below}
use Rattle.flame_flow.specs.SeenFlows.{SeenFlow}
use Rattle.flame_flow.proofs.FlowSteps.{nothing_next, something_next, unwanted_next}
use Rattle.flame_flow.proofs.flows.Flow.next.Goals as goal

pub returns-in-None : goal.returns-in-None
returns-in-None c = λ long.
    let f = c.self.inside in
    let seen = f.going.told.seen in
    let marks = (c.self.invariant.goes (ap (λ (s : SeenFlow). s.short) c.self.view_is ∙ long)).marks in
    let none : Option (ℕ × ℕ) = None in
    let due = sym c.in-None.ensures in
    subst (λ (s : SeenFlow). none ≡ next_piece s.seen.source.model s.begun s.seen.core) c.self.view_is
    (sym (nothing_next seen.source.model f.begun.items f.going.due seen.core marks due))

pub returns-then-not-is_below : goal.returns-then-not-is_below
returns-then-not-is_below c = λ long.
    let f = c.self.inside in
    let seen = f.going.told.seen in
    let marks = (c.self.invariant.goes (ap (λ (s : SeenFlow). s.short) c.self.view_is ∙ long)).marks in
    let none : Option (ℕ × ℕ) = None in
    let rank = c.in-Some.rank in
    let due = sym c.in-Some.ensures in
    let above = ap (λ (o : Option ℕ). is_rank_below o rank) (sym c.least_fault-least.ensures) ∙ sym c.if-not-is_below.ensures in
    subst (λ (s : SeenFlow). none ≡ next_piece s.seen.source.model s.begun s.seen.core) c.self.view_is
    (sym (unwanted_next seen.source.model f.begun.items f.going.due seen.core marks rank due above))

pub returns-else-not-is_below : goal.returns-else-not-is_below
returns-else-not-is_below c = λ long.
    let f = c.self.inside in
    let seen = f.going.told.seen in
    let marks = (c.self.invariant.goes (ap (λ (s : SeenFlow). s.short) c.self.view_is ∙ long)).marks in
    let rank = c.in-Some.rank in
    let due = sym c.in-Some.ensures in
    let below = ap (λ (o : Option ℕ). is_rank_below o rank) (sym c.least_fault-least.ensures) ∙ sym c.if-not-is_below.ensures in
    let function = c.number_at-function.result in
    let at : function ≡ slice_index (model_order seen.source.model) rank =
    c.number_at-function.ensures
    ∙ ap (λ (l : List ℕ). slice_index l rank) (c.items-order.ensures ∙ c.plan.ensures.order ∙ ap (λ (s : Source). model_order s.model) c.program-program.ensures.source) in
    let piece : c.number_at-piece.result ≡ slice_index f.begun.items function =
    c.number_at-piece.ensures ∙ ap (λ (l : List ℕ). slice_index l function) c.as_slice-begun.ensures.value in
    let pair : ℕ → ℕ × ℕ = λ k. (function, k) in
    subst (λ (s : SeenFlow). Some (pair c.number_at-piece.result) ≡ next_piece s.seen.source.model s.begun s.seen.core) c.self.view_is
    (ap (λ k. Some (pair k)) piece
    ∙ sym (something_next seen.source.model f.begun.items f.going.due seen.core marks rank function due at below))
