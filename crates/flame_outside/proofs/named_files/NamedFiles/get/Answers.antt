-- What the map has at the text is the file of that name.
use Rattle.std.proofs.Common.{ap, ◌∙◌, sym, option_map, ℕ, rules}
use Rattle.std.specs.Prelude.{Vec}
use Rattle.std.specs.FinMap as map
use Rattle.std.specs.declared.alloc.Global.{Global}
use Rattle.flame_outside.proofs.StoredLemmas.{get-stored}
use Rattle.flame_outside.proofs.named_files.NamedFiles.get.Goals as goal

pub returns-in-Some : goal.returns-in-Some
returns-in-Some c =
    let found = ap (option_map (λ (b : Vec ℕ Global). b.items)) c.get.ensures.value
    ∙ sym (get-stored c.self.inside.entries c.args.name.now)
    ∙ (λ i. map.get (c.self.view_is i) c.args.name.now) in
    search rules

pub returns-in-None : goal.returns-in-None
returns-in-None c =
    let found = ap (option_map (λ (b : Vec ℕ Global). b.items)) c.get.ensures.value
    ∙ sym (get-stored c.self.inside.entries c.args.name.now)
    ∙ (λ i. map.get (c.self.view_is i) c.args.name.now) in
    search rules
