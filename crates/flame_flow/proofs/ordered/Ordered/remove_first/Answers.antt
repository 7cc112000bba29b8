-- The least goes.
use Rattle.std.proofs.Common.{ℕ, ◌<◌, List, drop, length, subst, sym, ap, ◌∙◌}
use Rattle.flame_flow.proofs.Places.{taken_first}
use Rattle.flame_flow.proofs.ordered.Ordered.remove_first.Goals as goal

pub returns : goal.returns
returns c =
    taken_first c.pop_first-least.result c.self.inside.numbers.keys c.pop_first-least.new.self.keys
    (subst (λ (l : List ℕ). 0 < length l) (sym c.self.view_is) c.requires) c.pop_first-least.ensures.variant c.pop_first-least.ensures.removal
    ∙ ap (drop 1) c.self.view_is
