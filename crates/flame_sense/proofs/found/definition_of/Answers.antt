use Rattle.std.proofs.Common.{◌∙◌, ap, sym, find, option_map, ◌&&◌}
use Rattle.std.specs.Str.{bytes_eq}
use Rattle.flame_spec.specs.Definitions.{definition}
use Rattle.flame_sense.specs.StandsFor.{is_wanted}
use Rattle.flame_sense.proofs.Searches.{defined_here, defined_later, wanted_alike}
use Rattle.flame_sense.proofs.found.definition_of.Goals as goal

pub returns-in-Some-clause-found : goal.returns-in-Some-clause-found
returns-in-Some-clause-found c =
    let found = sym (ap (option_map (λ def. def.now)) c.in-Some.is) ∙ c.definition_in.ensures.found
    ∙ ap (find (λ def. bytes_eq def.name c.args.name.now && is_wanted c.args.wanted (definition 0 def))) c.items.ensures
    ∙ wanted_alike c.args.wanted c.args.name.now c.loop-file.file c.index-units-file.result.functions in
    sym (c.loop-file.invariant
    ∙ defined_here (λ d. bytes_eq d.name c.args.name.now && is_wanted c.args.wanted d) c.args.units.now c.loop-file.file
    c.index-units-file.result c.in-Some.def.now c.loop-file-test.true c.index-units-file.is found)

pub loop-file-preserved : goal.loop-file-preserved
loop-file-preserved c =
    let none = sym (ap (option_map (λ def. def.now)) c.in-None.is) ∙ c.definition_in.ensures.found
    ∙ ap (find (λ def. bytes_eq def.name c.args.name.now && is_wanted c.args.wanted (definition 0 def))) c.items.ensures
    ∙ wanted_alike c.args.wanted c.args.name.now c.loop-file.file c.index-units-file.result.functions in
    c.loop-file.invariant
    ∙ defined_later (λ d. bytes_eq d.name c.args.name.now && is_wanted c.args.wanted d) c.args.units.now c.loop-file.file
    c.index-units-file.result c.loop-file-test.true c.index-units-file.is none
