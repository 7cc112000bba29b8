-- How the names of a model are written in function files.
use Rattle.std.specs.Prelude.{ℕ, List, ◌++◌, codes}
use Rattle.flame_ops.specs.Ascii.{capitals}
use Rattle.flame_lookup.specs.declared.forms.Form.{Form}
use Rattle.flame_lookup.specs.declared.forms.Form.TheVariants.{Same, Capitals, Get, Set, AddMessage, AddAgent, Row}

-- the name, written in this way [FLAME User Manual]
abbrev pub written : Form → List ℕ → List ℕ
written Same name = name
written Capitals name = capitals name
written Get name = codes "get_" ++ name
written Set name = codes "set_" ++ name
written AddMessage name = codes "add_" ++ (name ++ codes "_message")
written AddAgent name = codes "add_" ++ (name ++ codes "_agent")
written Row name = name ++ codes "_message"
