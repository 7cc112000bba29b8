-- The text of an iteration in both versions, and the line that tells of it.
use Rattle.std.specs.Prelude.{ℕ, ℤ, List, [], ◌∷◌, map, length, codes, decimal}
use Rattle.std.specs.Fmt.{signed_decimal}
use Rattle.std.specs.List.{concat, sum_by}
use Rattle.flame_spec.specs.declared.models.Model.{Model}
use Rattle.flame_spec.specs.declared.models.AgentType.{AgentType}
use Rattle.flame_spec.specs.declared.models.MessageType.{MessageType}
use Rattle.flame_world.specs.declared.worlds.World.{World}
use Rattle.flame_world.specs.declared.worlds.Boards.{Boards}
use Rattle.flame_popfile.specs.declared.formats.Format.{Format}
use Rattle.flame_popfile.specs.declared.formats.Format.TheVariants.{One, Two}
use Rattle.flame_popfile.specs.RowTexts.{with_commas, numbers_text, constant_texts, agent_texts, board_texts, bag_texts}

-- ---- the whole

-- what stands before the agents [FLAME User Manual; 2: own]
abbrev pub head_text : Model → Format → ℤ → World → List ℕ
head_text model One itno world =
    concat (
    codes "{\"states\":{\"itno\":"
    ∷ signed_decimal itno
    ∷ codes ",\"environment\":{"
    ∷ with_commas (constant_texts model.constants world.constants)
    ∷ codes "},\"agents\":["
    ∷ []
    )
head_text model Two itno world =
    concat (
    codes "{\"states\":{\"version\":2,\"itno\":"
    ∷ signed_decimal itno
    ∷ codes ",\"environment\":["
    ∷ numbers_text world.constants
    ∷ codes "],\"agents\":["
    ∷ []
    )

-- the agents of these types [FLAME User Manual; 2: own]
abbrev pub all_agent_texts : Format → List AgentType → List (List (List ℤ)) → List (List ℕ)
all_agent_texts One types bags = agent_texts types bags
all_agent_texts Two types bags = bag_texts (map (λ type. type.name) types) bags

-- the boards of these messages [FLAME User Manual; 2: own]
abbrev pub all_board_texts : Format → List MessageType → List (List (List ℤ)) → List (List ℕ)
all_board_texts One messages bags = board_texts messages bags
all_board_texts Two messages bags = bag_texts (map (λ message. message.name) messages) bags

-- the text of an iteration in a version [FLAME User Manual; 2: own]
abbrev pub text : Model → Format → ℤ → World → Boards → List ℕ
text model format itno world boards =
    concat (
    head_text model format itno world
    ∷ with_commas (all_agent_texts format model.agents world.agents)
    ∷ codes "],\"boards\":["
    ∷ with_commas (all_board_texts format model.messages boards.boards)
    ∷ codes "]}}\n"
    ∷ []
    )

-- ---- the line

-- how many rows the bags have together [own]
abbrev pub rows_in : List (List (List ℤ)) → ℕ
rows_in bags = sum_by (λ bag. length bag) bags

-- the line of an iteration: its number, how many agents there are and how many messages [own]
abbrev pub line : ℤ → World → Boards → List ℕ
line itno world boards =
    concat (
    codes "iteration "
    ∷ signed_decimal itno
    ∷ codes " agents "
    ∷ decimal (rows_in world.agents)
    ∷ codes " messages "
    ∷ decimal (rows_in boards.boards)
    ∷ codes "\n"
    ∷ []
    )
