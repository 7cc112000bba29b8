-- The view that all share is this agent's too.
use Rattle.std.proofs.Common.{◌∷◌, ◌++◌, [], List, ap, ◌∙◌}
use Rattle.std.specs.Prelude.{ℤ, option_map}
use Rattle.flame_code.specs.Feeds.{not_begun}
use Rattle.flame_agent.proofs.views.push_shared_or_own.Goals as goal

pub returns-in_ok-push-in-Some : goal.returns-in_ok-push-in-Some
returns-in_ok-push-in-Some c =
    let view = c.in-Some.view.now in
    record {
      view = view;
      is = c.requires view (ap (option_map (λ view. view.now)) c.in-Some.is) c.args.memory.now;
      fed = c.in_ok-push-in-Some.ensures.ok ∙ ap (λ (rows : List (List ℤ)). c.args.views.now ++ not_begun rows ∷ []) c.shared.ensures;
    }
