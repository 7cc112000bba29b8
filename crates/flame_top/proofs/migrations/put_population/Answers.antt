use Rattle.std.proofs.Common.{◌≡◌, ℕ, List, rules, ◌∙◌, ap, subst, ℤ, w32, FitsSigned}
use Rattle.std.specs.Prelude.{OnOk}
use Rattle.std.proofs.lemmas.Int.{to_z-of_z}
use Rattle.flame_outside.specs.Files.{with_file}
use Rattle.flame_spec.specs.declared.outcomes.Source.{Source}
use Rattle.flame_popfile.specs.IterationTexts.{text}
use Rattle.flame_popfile.specs.declared.formats.Format.TheVariants.{Two}
use Rattle.flame_world.specs.declared.worlds.Boards.{Boards}
use Rattle.flame_top.specs.OrderReports.{no_boards}
use Rattle.flame_top.proofs.migrations.put_population.Goals as goal

pub returns-clause-ok : goal.returns-clause-ok
returns-clause-ok g c =
    let fits : FitsSigned w32 c.args.start.now.itno = search rules in
    let source = c.args.program.now in
    let start = c.args.start.now in
    let same =
    c.bytes-2.ensures
    ∙ c.in_ok-bytes.ensures
    ∙ ap (λ (itno : ℤ). text source.model Two itno start.world c.in_ok-boards.boards) (to_z-of_z w32 start.itno fits)
    ∙ ap (λ (boards : Boards). text source.model Two start.itno start.world boards)
    (c.in_ok-boards.ensures ∙ ap (λ (s : Source). no_boards s.model) c.source.ensures.same) in
    subst
    (λ (bytes : List ℕ). OnOk c.put_file.result ((g.D.Depot.seen c.put_file.new.depot).files ≡ with_file c.args.name.now bytes (g.D.Depot.seen c.args.depot.now).files))
    same c.put_file.ensures.ok
