use Rattle.std.proofs.Common.{◌∙◌, ap}
use Rattle.std.specs.Option.{is_some}
use Rattle.flame_name_sets.proofs.Tables.{is_some-look}
use Rattle.flame_names.proofs.lengths.Lengths.has.Goals as goal

pub returns : goal.returns
returns c = c.is_some.ensures ∙ ap is_some c.of.ensures ∙ is_some-look c.args.name.now c.args.self.now
