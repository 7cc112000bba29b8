-- The least goes.
use Rattle.std.proofs.Common.{◌≡◌, ℕ, List, [], subst}
use Rattle.std.specs.Prelude.{MatchOption}
use Rattle.flame_graph.specs.Ready.{IsFirstOf}
use Rattle.flame_graph.proofs.ReadySets.{taken_is}
use Rattle.flame_graph.proofs.ready.Ready.take.Goals as goal

pub returns : goal.returns
returns c =
    let P : List ℕ → Type 0 = λ fs. MatchOption c.pop_first.result (fs ≡ []) (λ f. IsFirstOf fs f c.pop_first.new.self.keys) in
    subst P c.self.view_is (taken_is c.pop_first.result c.self.inside.nodes c.pop_first.new.self c.pop_first.ensures.variant c.pop_first.ensures.member c.pop_first.ensures.least c.pop_first.ensures.updates)
