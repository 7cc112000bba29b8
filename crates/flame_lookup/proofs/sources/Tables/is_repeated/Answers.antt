use Rattle.std.proofs.Common.{◌≡◌, ◌∙◌, ap, sym, map, option_map}
use Rattle.flame_spec.specs.Definitions.{Definition, definitions}
use Rattle.flame_spec.specs.KnownNames.{is_among}
use Rattle.flame_lookup.specs.Sources.{Sources, names_before}
use Rattle.flame_lookup.specs.WordsFound.{definition_found, helper_found}
use Rattle.flame_lookup.proofs.Firsts.{found_below, named_before, seen_as}
use Rattle.flame_lookup.proofs.sources.Tables.is_repeated.Goals as goal

pub returns-in-Some : goal.returns-in-Some
returns-in-Some c = λ d there.
    let ds = definitions c.self.inside.units.now in
    let all = c.as_slice-all.result.now in
    let this = c.index-all-number.result in
    let name = c.as_str.result.now in
    let shown =
    ap (map definition_found) c.as_slice-all.ensures.value ∙ c.self.invariant.all ∙ ap (λ (sources : Sources). definitions sources.units) c.self.view_is in
    let seen = sym there ∙ seen_as definition_found all (definitions c.args.self.now.units) c.args.number this shown c.requires c.index-all-number.is in
    let same : d ≡ definition_found this = cc in
    let named : name ≡ d.name = c.as_str.ensures ∙ ap (λ (e : Definition). e.name) (sym same) in
    ap (found_below c.args.number)
    (ap (option_map helper_found) (sym c.in-Some.is ∙ c.look.ensures) ∙ c.self.invariant.named name)
    ∙ named_before (λ (e : Definition). e.name) name ds c.args.number
    ∙ ap (λ text. is_among text (names_before c.args.number ds)) named
    ∙ ap (λ (sources : Sources). is_among d.name (names_before c.args.number (definitions sources.units))) c.self.view_is

pub returns-in-None : goal.returns-in-None
returns-in-None c = λ d there.
    let ds = definitions c.self.inside.units.now in
    let all = c.as_slice-all.result.now in
    let this = c.index-all-number.result in
    let name = c.as_str.result.now in
    let shown =
    ap (map definition_found) c.as_slice-all.ensures.value ∙ c.self.invariant.all ∙ ap (λ (sources : Sources). definitions sources.units) c.self.view_is in
    let seen = sym there ∙ seen_as definition_found all (definitions c.args.self.now.units) c.args.number this shown c.requires c.index-all-number.is in
    let same : d ≡ definition_found this = cc in
    let named : name ≡ d.name = c.as_str.ensures ∙ ap (λ (e : Definition). e.name) (sym same) in
    ap (found_below c.args.number)
    (ap (option_map helper_found) (sym c.in-None.is ∙ c.look.ensures) ∙ c.self.invariant.named name)
    ∙ named_before (λ (e : Definition). e.name) name ds c.args.number
    ∙ ap (λ text. is_among text (names_before c.args.number ds)) named
    ∙ ap (λ (sources : Sources). is_among d.name (names_before c.args.number (definitions sources.units))) c.self.view_is
