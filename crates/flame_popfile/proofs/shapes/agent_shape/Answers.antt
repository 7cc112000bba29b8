use Rattle.std.proofs.Common.{◌++◌, ◌∙◌, codes, ap, ap₂, append_assoc}
use Rattle.flame_popfile.specs.RowTexts.{with_commas, variable_texts}
use Rattle.flame_popfile.proofs.shapes.agent_shape.Goals as goal

pub returns : goal.returns
returns c row =
    let name = c.args.agent.now.name in
    let head = codes "\",\"memory\":{" in
    let written = with_commas (variable_texts c.args.agent.now.memory row) ++ codes "}" in
    ap₂ (λ head variables. (head ++ (with_commas (variable_texts variables row) ++ codes "}")) ++ codes "}")
    c.in_ok-head.ensures c.items-variables.ensures
    ∙ ap (λ l. codes "{\"name\":\"" ++ l)
    (append_assoc (name ++ head) written (codes "}") ∙ append_assoc name head (written ++ codes "}"))
