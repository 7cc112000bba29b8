-- A number joins those in order.
use Rattle.std.proofs.Common.{ap, ◌∙◌}
use Rattle.flame_flow.specs.BegunPieces.{with_number}
use Rattle.flame_flow.proofs.Places.{key_inserted}
use Rattle.flame_flow.proofs.ordered.Ordered.insert.Goals as goal

pub returns-clause-ok : goal.returns-clause-ok
returns-clause-ok c =
    c.in_ok-insert.ensures.keys ∙ key_inserted c.self.inside.numbers.keys c.args.number ∙ ap (with_number c.args.number) c.self.view_is
