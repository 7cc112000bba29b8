use Rattle.std.proofs.Common.{◌∙◌, ap, length}
use Rattle.std.specs.Prelude.{not, ◌==◌}
use Rattle.std.specs.Str.{bytes_eq}
use Rattle.flame_lookup.proofs.Kept.{has_numbers}
use Rattle.flame_lookup.proofs.functions.Functions.names.Goals as goal

pub returns : goal.returns
returns c =
    ap not c.is_empty.ensures
    ∙ ap (λ numbers. not (length numbers == 0)) c.numbers.ensures
    ∙ has_numbers (λ place. bytes_eq c.args.name.now place.function.name) 0 c.args.self.now
