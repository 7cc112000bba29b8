use Rattle.std.proofs.Common.{ℕ, List, get_or, arith, ap, sym, ◌∙◌}
use Rattle.std.specs.Prelude.{option_map, unwrap_or}
use Rattle.std.specs.List.{sum_by}
use Rattle.flame_pieces.specs.Waiting.{Waiting, open_times}
use Rattle.flame_pieces.proofs.waits.Waits.count.Goals as goal

pub returns-in-Some : goal.returns-in-Some
returns-in-Some c =
    ap (λ o. unwrap_or (option_map (λ n. n.now) o) 0) (sym c.in-Some.is)
    ∙ c.get.ensures.lookup.4 (omega arith) 0
    ∙ ap (λ (counts : List ℕ). get_or counts c.args.waiter 0) c.deref.ensures.value
    ∙ c.self.invariant.counted c.args.waiter
    ∙ ap (λ (v : Waiting). sum_by (open_times c.args.waiter) v.things) c.self.view_is

pub returns-in-None : goal.returns-in-None
returns-in-None c =
    ap (λ o. unwrap_or (option_map (λ n. n.now) o) 0) (sym c.in-None.is)
    ∙ c.get.ensures.lookup.4 (omega arith) 0
    ∙ ap (λ (counts : List ℕ). get_or counts c.args.waiter 0) c.deref.ensures.value
    ∙ c.self.invariant.counted c.args.waiter
    ∙ ap (λ (v : Waiting). sum_by (open_times c.args.waiter) v.things) c.self.view_is
