use Rattle.std.proofs.Common.{◌∙◌, ap, sym, option_map}
use Rattle.std.specs.Prelude.{is_some}
use Rattle.std.specs.Str.{bytes_eq}
use Rattle.flame_rows.proofs.Truths.{is_some-option_map}
use Rattle.flame_spec.specs.KnownNames.{is_among}
use Rattle.flame_lookup.specs.WordsFound.{item_found}
use Rattle.flame_lookup.proofs.Firsts.{is_some-numbered, among_turned}
use Rattle.flame_lookup.proofs.running.Running.is_output.Goals as goal

pub returns : goal.returns
returns c =
    let name = c.as_str.result.now in
    let outputs = c.self.inside.place.function.now.outputs in
    c.is_some.ensures
    ∙ sym (is_some-option_map item_found c.look.result)
    ∙ ap is_some (ap (option_map item_found) c.look.ensures ∙ c.self.invariant.outputs name)
    ∙ is_some-numbered (λ output. bytes_eq output name) 0 outputs
    ∙ among_turned name outputs
    ∙ ap (λ word. is_among word outputs) c.as_str.ensures
    ∙ ap (λ place. is_among c.args.message.now.name place.function.outputs) c.self.view_is
