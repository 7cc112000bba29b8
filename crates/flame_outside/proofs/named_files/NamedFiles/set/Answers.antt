-- The value at the new key is the file of its name.
use Rattle.std.proofs.Common.{◌∙◌}
use Rattle.std.specs.FinMap as map
use Rattle.flame_outside.proofs.StoredLemmas.{stored-insert}
use Rattle.flame_outside.proofs.named_files.NamedFiles.set.Goals as goal

pub returns-clause-ok : goal.returns-clause-ok
returns-clause-ok c =
    stored-insert c.self.inside.entries c.insert.new.self _ _ c.in_ok-insert.ensures.updates
    ∙ (λ i. map.insert (c.self.view_is i) (c.in_ok-key.ensures.ok i) (c.in_ok-value.ensures.items i))
