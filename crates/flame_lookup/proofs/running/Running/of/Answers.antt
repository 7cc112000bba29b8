use Rattle.std.proofs.Common.{◌∙◌, ap}
use Rattle.std.specs.Str.{bytes_eq}
use Rattle.flame_spec.specs.Lists.{numbered_where}
use Rattle.flame_lookup.proofs.running.Running.of.Goals as goal

pub invariant_of-result : goal.invariant_of-result
invariant_of-result c = record {
  memory = c.requires;
  inputs = λ word. c.in_ok-inputs.ensures word ∙ ap (numbered_where (λ input. bytes_eq input.message word)) c.items.ensures;
  outputs = λ word. c.in_ok-outputs.ensures word ∙ ap (numbered_where (λ output. bytes_eq output word)) c.items-2.ensures;
}
