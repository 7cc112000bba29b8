-- What is seen of a runner by nodes.
use Rattle.std.specs.Prelude.{ℕ, List, Option}
use Rattle.flame_nodes.specs.declared.runners.Nodes.{Nodes}

-- what each calls just before it runs a piece [own]
abbrev pub gate_of : {G : Type 0} → Nodes G → G
gate_of runner = runner.gate.now

-- how many nodes [own]
abbrev pub count_of : {G : Type 0} → Nodes G → ℕ
count_of runner = runner.nodes

-- the name of the variable by which agents are parted, where one is given [own]
abbrev pub name_of : {G : Type 0} → Nodes G → Option (List ℕ)
name_of runner = runner.by
