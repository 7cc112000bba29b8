-- What was written reads back, in each version.
use Rattle.std.proofs.Common.{◌≡◌, ℕ, List, [], length, true, None, codes, ap, ap₂, ◌∙◌}
use Rattle.std.specs.Prelude.{ℤ, pos, int_le, ◌+ℤ◌, if◌then◌else◌}
use Rattle.std.proofs.lemmas.Bool.{and_parts}
use Rattle.flame_rows.proofs.Lists.{append-nils}
use Rattle.serde_json.specs.Read.{read}
use Rattle.flame_ops.specs.Integers.{is_int}
use Rattle.flame_spec.specs.declared.models.Model.{Model}
use Rattle.flame_spec.specs.Paths.{root, at_key}
use Rattle.flame_meaning.specs.RangeLaws.{IsInt}
use Rattle.flame_world.specs.WorldLaws.{IsWorldOf}
use Rattle.flame_world.specs.declared.worlds.World.{World}
use Rattle.flame_world.specs.declared.worlds.Boards.{Boards}
use Rattle.flame_popfile.specs.declared.formats.Format.{Format}
use Rattle.flame_popfile.specs.declared.formats.Format.TheVariants.{One, Two}
use Rattle.flame_popfile.specs.declared.faults.PopKind.TheVariants.{IterationLimit}
use Rattle.flame_popfile.specs.declared.starts.Start.{Start}
use Rattle.flame_popfile.specs.PopulationParts.{refused, is_itno, number_of, members_of}
use Rattle.flame_popfile.specs.PopulationFaults.{environment_faults, population_faults, states_faults}
use Rattle.flame_popfile.specs.PopulationAgents.{constants_of, agents_of}
use Rattle.flame_popfile.specs.PopulationStarts.{start_of}
use Rattle.flame_popfile.specs.IterationTexts.{text}
use Rattle.flame_popfile.specs.WrittenLaws.{WrittenReadsBack}
use Rattle.flame_popfile.proofs.NameSearches.{types_numbered}
use Rattle.flame_popfile.proofs.PopulationValues.{list_of, int_value, agent_values, environment_value, states_value, population_value}
use Rattle.flame_popfile.proofs.WrittenPopulations.{text_read}
use Rattle.flame_popfile.proofs.DifferentNames.{HasDifferentNames, different_names, plain_model}
use Rattle.flame_popfile.proofs.ReadRows.{number_back, number_clear, row_back, row_clear, constants_clear, constants_back}
use Rattle.flame_popfile.proofs.ClearMembers.{agents_clear}
use Rattle.flame_popfile.proofs.ReadAgents.{agents_back}

-- ---- no faults

environment_clear :
    (model : Model) (format : Format) (world : World) (path : List ℕ)
    → HasDifferentNames model
    → IsWorldOf model world
    → environment_faults format model.constants path (environment_value format model.constants world.constants) ≡ []
environment_clear model One world path apart is =
    constants_clear model.constants path world.constants apart.constants is.ints
environment_clear model Two world path apart is =
    row_clear (length model.constants) path world.constants is.count is.ints

limit_clear :
    (turns : ℕ) (path : List ℕ) (itno : ℤ)
    → IsInt itno
    → int_le (itno +ℤ pos turns) (pos 2147483647) ≡ true
    → (if int_le (number_of (int_value itno) +ℤ pos turns) (pos 2147483647) then []
    else refused IterationLimit path)
    ≡ []
limit_clear turns path itno int within =
    ap (λ z. if int_le (z +ℤ pos turns) (pos 2147483647) then [] else refused IterationLimit path)
    (number_back itno int)
    ∙ ap (λ b. if b then [] else refused IterationLimit path) within

states_clear :
    (model : Model) (format : Format) (itno : ℤ) (world : World) (boards : Boards) (turns : ℕ) (path : List ℕ)
    → HasDifferentNames model
    → is_itno itno ≡ true
    → IsInt itno
    → IsWorldOf model world
    → int_le (itno +ℤ pos turns) (pos 2147483647) ≡ true
    → states_faults model turns path (states_value model format itno world boards) ≡ []
states_clear model One itno world boards turns path apart number int is within =
    append-nils _ _ (number_clear is_itno (at_key path (codes "itno")) itno number)
    (append-nils _ _
    (append-nils _ _
    (environment_clear model One world (at_key path (codes "environment")) apart is)
    (agents_clear One model.agents world.agents (at_key path (codes "agents")) apart.types
    (types_numbered model.agents apart.types) apart.memories is.agents))
    (limit_clear turns (at_key path (codes "itno")) itno int within))
states_clear model Two itno world boards turns path apart number int is within =
    append-nils _ _ (number_clear is_itno (at_key path (codes "itno")) itno number)
    (append-nils _ _
    (append-nils _ _
    (environment_clear model Two world (at_key path (codes "environment")) apart is)
    (agents_clear Two model.agents world.agents (at_key path (codes "agents")) apart.types
    (types_numbered model.agents apart.types) apart.memories is.agents))
    (limit_clear turns (at_key path (codes "itno")) itno int within))

population_clear :
    (model : Model) (format : Format) (itno : ℤ) (world : World) (boards : Boards) (turns : ℕ)
    → HasDifferentNames model
    → is_itno itno ≡ true
    → IsInt itno
    → IsWorldOf model world
    → int_le (itno +ℤ pos turns) (pos 2147483647) ≡ true
    → population_faults model turns (population_value model format itno world boards) ≡ []
population_clear model One itno world boards turns apart number int is within =
    states_clear model One itno world boards turns (at_key root (codes "states")) apart number int is within
population_clear model Two itno world boards turns apart number int is within =
    states_clear model Two itno world boards turns (at_key root (codes "states")) apart number int is within

-- ---- the start

environment_back :
    (model : Model) (format : Format) (world : World)
    → HasDifferentNames model
    → IsWorldOf model world
    → constants_of format model.constants (environment_value format model.constants world.constants) ≡ world.constants
environment_back model One world apart is =
    constants_back model.constants world.constants apart.constants is.count is.ints
environment_back model Two world apart is = row_back (length model.constants) world.constants is.ints

start_made :
    (model : Model) (format : Format) (itno : ℤ) (world : World)
    → HasDifferentNames model
    → IsInt itno
    → IsWorldOf model world
    → Path Start
    (record {
      itno = number_of (int_value itno);
      world = record {
        constants = constants_of format model.constants (environment_value format model.constants world.constants);
        agents = agents_of format model.agents (members_of (list_of (agent_values format model.agents world.agents)));
      };
    })
    (record { itno = itno; world = world })
start_made model format itno world apart int is =
    let made : ℤ → World → Start = λ n w. record { itno = n; world = w } in
    let of_parts : List ℤ → List (List (List ℤ)) → World = λ c a. record { constants = c; agents = a } in
    ap₂ made (number_back itno int)
    (ap₂ of_parts (environment_back model format world apart is)
    (agents_back format model.agents world.agents (types_numbered model.agents apart.types) apart.memories is.agents))

start_back :
    (model : Model) (format : Format) (itno : ℤ) (world : World) (boards : Boards)
    → HasDifferentNames model
    → IsInt itno
    → IsWorldOf model world
    → start_of model (population_value model format itno world boards) ≡ record { itno = itno; world = world }
start_back model One itno world boards apart int is = start_made model One itno world apart int is
start_back model Two itno world boards apart int is = start_made model Two itno world apart int is

-- ---- the law

pub written_reads_back : WrittenReadsBack
written_reads_back source format itno world boards accepted number is are =
    let model = source.model in
    let int : IsInt itno = (and_parts (int_le (pos 0) itno) (is_int itno) number).1 in
    let apart = different_names model accepted.named in
    let bytes = text model format itno world boards in
    let back = text_read model format itno world boards (plain_model model accepted.formed) int is are in
    record {
      value = population_value model format itno world boards;
      is_read = ap (λ b. if b then read bytes else None) back.utf8 ∙ back.read_is;
      holds = λ turns within. (
        population_clear model format itno world boards turns apart number int is within,
        start_back model format itno world boards apart int is,
      );
    }
