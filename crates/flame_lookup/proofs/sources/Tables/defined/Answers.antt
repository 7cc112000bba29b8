use Rattle.std.proofs.Common.{◌∙◌, ap, sym, find, option_map}
use Rattle.std.specs.Str.{bytes_eq}
use Rattle.flame_spec.specs.Definitions.{definitions, is_for}
use Rattle.flame_lookup.specs.WordsFound.{helper_found}
use Rattle.flame_lookup.proofs.Firsts.{find_numbered}
use Rattle.flame_lookup.proofs.sources.Tables.defined.Goals as goal

pub returns-in-Some : goal.returns-in-Some
returns-in-Some c =
    let name = c.as_str.result.now in
    let ds = definitions c.self.inside.units.now in
    ap (option_map (λ h. h.1))
    (ap (option_map helper_found) (sym c.in-Some.is ∙ c.look.ensures) ∙ c.self.invariant.named name)
    ∙ find_numbered (λ d. bytes_eq d.name name) 0 ds
    ∙ ap (λ text. find (λ d. bytes_eq d.name text) ds) c.as_str.ensures
    ∙ ap (λ sources. find (is_for c.args.function.now) (definitions sources.units)) c.self.view_is

pub returns-in-None : goal.returns-in-None
returns-in-None c =
    let name = c.as_str.result.now in
    let ds = definitions c.self.inside.units.now in
    ap (option_map (λ h. h.1))
    (ap (option_map helper_found) (sym c.in-None.is ∙ c.look.ensures) ∙ c.self.invariant.named name)
    ∙ find_numbered (λ d. bytes_eq d.name name) 0 ds
    ∙ ap (λ text. find (λ d. bytes_eq d.name text) ds) c.as_str.ensures
    ∙ ap (λ sources. find (is_for c.args.function.now) (definitions sources.units)) c.self.view_is
