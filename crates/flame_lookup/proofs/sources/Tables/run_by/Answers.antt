use Rattle.std.proofs.Common.{◌∙◌, ap, sym, codes}
use Rattle.std.specs.Str.{bytes_eq}
use Rattle.flame_spec.specs.Functions.{functions}
use Rattle.flame_lookup.proofs.Places.{none_of_idle}
use Rattle.flame_lookup.proofs.sources.Tables.run_by.Goals as goal

pub returns-then-eq : goal.returns-then-eq
returns-then-eq c =
    sym
    (none_of_idle c.args.function.now.def.now.name (functions c.args.self.now.model)
    (ap (λ text. bytes_eq text (codes "idle")) (sym c.as_str-name.ensures) ∙ sym c.eq.ensures ∙ c.if-eq.true))
