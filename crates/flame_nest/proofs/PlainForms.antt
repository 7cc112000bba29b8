-- Models and plain files are flat as they stand.
use Rattle.std.proofs.Common.{◌≡◌, List, [], ◌∷◌, ◌++◌, map, codes, refl, sym, ap, ◌∙◌, true}
use Rattle.std.specs.Prelude.{◌&&◌}
use Rattle.std.specs.List.{filter, list_all}
use Rattle.std.proofs.lemmas.Slice.Eq.{bytes_eq-Decides}
use Rattle.std.proofs.lemmas.List.{append-nil}
use Rattle.std.proofs.lemmas.Bool.{and_parts}
use Rattle.flame_rows.proofs.Lists.{filter-all}
use Rattle.flame_spec.specs.declared.models.Model.{Model}
use Rattle.flame_spec.specs.declared.models.Variable.{Variable}
use Rattle.flame_spec.specs.declared.models.MessageType.{MessageType}
use Rattle.flame_spec.specs.declared.models.AgentType.{AgentType}
use Rattle.flame_spec.specs.declared.wide.Wide.{Wide}
use Rattle.flame_spec.specs.declared.wide.WideVariable.{WideVariable}
use Rattle.flame_spec.specs.declared.wide.WideMessage.{WideMessage}
use Rattle.flame_spec.specs.declared.wide.WideAgent.{WideAgent}
use Rattle.flame_nest.specs.FlatModels.{single, flat, flat_message, flat_agent, new_behind}
use Rattle.flame_nest.specs.NestFaults.{is_int}
use Rattle.flame_nest.specs.FlatLaws.{are_int, IsPlain}
use Rattle.flame_spec.specs.PlainFiles.{int_variable, int_message, int_agent, as_file}

-- ---- models

ints : (variables : List Variable) → are_int (map int_variable variables) ≡ true
ints [] = refl
ints (v ∷ variables) = ints variables

ints_messages : (messages : List MessageType)
    → list_all (λ message. are_int message.variables) (map int_message messages) ≡ true
ints_messages [] = refl
ints_messages (m ∷ messages) =
    ap (λ b. b && list_all (λ message. are_int message.variables) (map int_message messages)) (ints m.variables)
    ∙ ints_messages messages

ints_agents : (agents : List AgentType) → list_all (λ agent. are_int agent.memory) (map int_agent agents) ≡ true
ints_agents [] = refl
ints_agents (a ∷ agents) =
    ap (λ b. b && list_all (λ agent. are_int agent.memory) (map int_agent agents)) (ints a.memory) ∙ ints_agents agents

pub model_plain : (model : Model) → IsPlain (as_file model)
model_plain model = record {
  types = refl;
  messages = ints_messages model.messages;
  agents = ints_agents model.agents;
  nested = refl;
}

back : (variables : List Variable) → map single (map int_variable variables) ≡ variables
back [] = refl
back (v ∷ variables) = ap (λ l. v ∷ l) (back variables)

back_messages : (messages : List MessageType) → map (flat_message []) (map int_message messages) ≡ messages
back_messages [] = refl
back_messages (m ∷ messages) = λ i. record { name = m.name; variables = back m.variables i } ∷ back_messages messages i

back_agents : (agents : List AgentType) → map (flat_agent []) (map int_agent agents) ≡ agents
back_agents [] = refl
back_agents (a ∷ agents) =
    λ i. record { name = a.name; memory = back a.memory i; functions = a.functions } ∷ back_agents agents i

pub model_flat : (model : Model) → flat (as_file model ∷ []) ≡ model
model_flat model =
    let constants = append-nil model.constants in
    let files = filter-all model.files in
    let units = append-nil model.units in
    let messages = ap (map (flat_message [])) (filter-all (map int_message model.messages)) ∙ back_messages model.messages in
    let agents = ap (map (flat_agent [])) (append-nil (map int_agent model.agents)) ∙ back_agents model.agents in
    λ i.
    record { constants = constants i; files = files i; units = units i; messages = messages i; agents = agents i }

-- ---- plain files

again : (variables : List WideVariable)
    → are_int variables ≡ true → map int_variable (map single variables) ≡ variables
again [] h = refl
again (v ∷ variables) h =
    let kind = (bytes_eq-Decides v.kind (codes "int")).0 (and_parts (is_int v.kind) (are_int variables) h).0 in
    let rest = again variables (and_parts (is_int v.kind) (are_int variables) h).1 in
    λ i. record { name = v.name; kind = sym kind i; length = v.length } ∷ rest i

again_messages : (messages : List WideMessage)
    → list_all (λ message. are_int message.variables) messages ≡ true
    → map int_message (map (flat_message []) messages) ≡ messages
again_messages [] h = refl
again_messages (m ∷ messages) h =
    let all = list_all (λ message. are_int message.variables) messages in
    let first = again m.variables (and_parts (are_int m.variables) all h).0 in
    let rest = again_messages messages (and_parts (are_int m.variables) all h).1 in
    λ i. record { name = m.name; variables = first i } ∷ rest i

again_agents : (agents : List WideAgent)
    → list_all (λ agent. are_int agent.memory) agents ≡ true
    → map int_agent (map (flat_agent []) agents) ≡ agents
again_agents [] h = refl
again_agents (a ∷ agents) h =
    let all = list_all (λ agent. are_int agent.memory) agents in
    let first = again a.memory (and_parts (are_int a.memory) all h).0 in
    let rest = again_agents agents (and_parts (are_int a.memory) all h).1 in
    λ i. record { name = a.name; memory = first i; functions = a.functions } ∷ rest i

pub plain_flat : (wide : Wide) → IsPlain wide → as_file (flat (wide ∷ [])) ≡ wide
plain_flat wide plain =
    let none : new_behind (λ type. type.name) [] wide.types ≡ [] = ap (new_behind (λ type. type.name) []) plain.types in
    let constants = append-nil wide.constants in
    let files = filter-all wide.files in
    let units = append-nil wide.units in
    let messages =
    ap (λ types. map int_message (map (flat_message types) (filter (λ m. true) wide.messages))) none
    ∙ ap (λ l. map int_message (map (flat_message []) l)) (filter-all wide.messages)
    ∙ again_messages wide.messages plain.messages in
    let agents =
    ap (λ types. map int_agent (map (flat_agent types) (wide.agents ++ []))) none
    ∙ ap (λ l. map int_agent (map (flat_agent []) l)) (append-nil wide.agents)
    ∙ again_agents wide.agents plain.agents in
    λ i.
    record {
      constants = constants i;
      files = files i;
      units = units i;
      types = sym plain.types i;
      messages = messages i;
      agents = agents i;
      nested = sym plain.nested i;
    }
