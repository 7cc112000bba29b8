-- The texts that are printed of a source.
use Rattle.std.specs.Prelude.{ℕ, List}
use Rattle.flame_spec.specs.declared.outcomes.Source.{Source}
use Rattle.flame_report.specs.GraphTexts.{graph_lines}
use Rattle.flame_report.specs.CodeTexts.{code_lines}
use Rattle.flame_top.specs.OrderReports.{accepted_line}
use Rattle.flame_top.specs.declared.texts.TextOf.{TextOf}
use Rattle.flame_top.specs.declared.texts.TextOf.TheVariants.{Counts, Graph, Code}

-- that text of a source [own]
abbrev pub text_as : TextOf → Source → List ℕ
text_as Counts source = accepted_line source.model
text_as Graph source = graph_lines source.model
text_as Code source = code_lines source
