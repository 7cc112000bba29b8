use Rattle.std.proofs.Common.{sym, ap, ◌∙◌, w32, rules, SFits}
use Rattle.std.proofs.lemmas.Int.{to_z-of_z}
use Rattle.flame_core.specs.SeenCores.{Seen}
use Rattle.flame_core.proofs.cores.Core.starts_from.Goals as goal

pub returns : goal.returns
returns c =
    let is = c.self.view_is in
    let own : SFits w32 c.self.inside.iteration = search rules in
    let other : SFits w32 c.args.iteration = search rules in (
      λ yes.
          let same = c.same.ensures.0 yes in
          record {
            source_is = sym same.source ∙ ap (λ (s : Seen). s.source) is;
            world_is = sym same.world ∙ ap (λ (s : Seen). s.world) is;
            iteration_is = sym (to_z-of_z w32 c.args.iteration other) ∙ sym same.iteration ∙ to_z-of_z w32 c.self.inside.iteration own ∙ ap (λ (s : Seen). s.iteration) is;
            fuel_is = sym same.fuel ∙ ap (λ (s : Seen). s.fuel) is;
            pieces_is = sym same.pieces ∙ ap (λ (s : Seen). s.pieces) is;
          },
      λ began.
          c.same.ensures.1
          (record {
            source = ap (λ (s : Seen). s.source) is ∙ sym began.source_is;
            world = ap (λ (s : Seen). s.world) is ∙ sym began.world_is;
            iteration = to_z-of_z w32 c.self.inside.iteration own ∙ ap (λ (s : Seen). s.iteration) is ∙ sym began.iteration_is ∙ sym (to_z-of_z w32 c.args.iteration other);
            fuel = ap (λ (s : Seen). s.fuel) is ∙ sym began.fuel_is;
            pieces = ap (λ (s : Seen). s.pieces) is ∙ sym began.pieces_is;
          }),
    )
