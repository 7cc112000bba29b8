-- The text of a population is read as its value.
use Rattle.std.proofs.Common.{◌≡◌, ℕ, ◌≤◌, List, [], ◌∷◌, ◌++◌, Some, codes, refl, sym, ap, ◌∙◌, append_assoc, arith, true}
use Rattle.std.specs.Prelude.{ℤ, pos}
use Rattle.std.specs.List.{AllZip, concat}
use Rattle.std.specs.Fmt.{signed_decimal}
use Rattle.std.specs.Str.{is_utf8}
use Rattle.std.proofs.lemmas.Fmt.{decimal_digit}
use Rattle.json.specs.Print.{quoted, escape_byte}
use Rattle.serde_json.specs.Data.{Data}
use Rattle.serde_json.specs.Read.{read}
use Rattle.flame_spec.specs.declared.models.Model.{Model}
use Rattle.flame_world.specs.declared.worlds.World.{World}
use Rattle.flame_world.specs.declared.worlds.Boards.{Boards}
use Rattle.flame_meaning.specs.RangeLaws.{IsInt}
use Rattle.flame_world.specs.WorldLaws.{IsWorldOf, AreBoardsOf}
use Rattle.flame_popfile.specs.declared.formats.Format.{Format}
use Rattle.flame_popfile.specs.declared.formats.Format.TheVariants.{One, Two}
use Rattle.flame_popfile.specs.RowTexts.{with_commas, numbers_text, row_text, constant_texts}
use Rattle.flame_popfile.specs.IterationTexts.{all_agent_texts, all_board_texts, text}
use Rattle.flame_popfile.proofs.PopulationValues.{object_of, list_of, int_value, agent_values, message_values, environment_value, state_pairs, population_value}
use Rattle.flame_popfile.proofs.PopulationValues.{constant_pairs}
use Rattle.flame_popfile.proofs.WrittenNames.{states_plain, version_plain, itno_plain, environment_plain, agents_plain, boards_plain}
use Rattle.flame_popfile.proofs.WrittenForms.{Writes, WritesMember, writes_list, writes_object, list_text, read_line, line_utf8}
use Rattle.flame_popfile.proofs.WrittenForms.{object_text as members_text}
use Rattle.flame_popfile.proofs.WrittenRows.{writes_int, writes_row, writes_constants}
use Rattle.flame_popfile.proofs.WrittenMembers.{IsPlainModel, respelled, keyed, writes_agents, writes_boards}

abbrev state_texts : List ℕ → List ℕ → List ℕ → List ℕ → List (List ℕ)
state_texts itno environment agents boards =
    (quoted (codes "itno") ++ 58 ∷ itno)
    ∷ (quoted (codes "environment") ++ 58 ∷ environment)
    ∷ (quoted (codes "agents") ++ 58 ∷ 91 ∷ (agents ++ 93 ∷ []))
    ∷ (quoted (codes "boards") ++ 58 ∷ 91 ∷ (boards ++ 93 ∷ []))
    ∷ []

abbrev whole_text : List (List ℕ) → List ℕ
whole_text states = members_text ((quoted (codes "states") ++ 58 ∷ members_text states) ∷ [])

-- a text and what follows it, and behind a comma the rest
comma_then :
    (key text : List ℕ) (close : ℕ) (rest end : List ℕ)
    → ((key ++ (text ++ close ∷ [])) ++ 44 ∷ rest) ++ end ≡ key ++ (text ++ close ∷ 44 ∷ (rest ++ end))
comma_then key text close rest end =
    append_assoc (key ++ (text ++ close ∷ [])) (44 ∷ rest) end
    ∙ append_assoc key (text ++ close ∷ []) (44 ∷ (rest ++ end))
    ∙ ap (λ s. key ++ s) (append_assoc text (close ∷ []) (44 ∷ (rest ++ end)))

closed :
    (key text : List ℕ) (close : ℕ) (end : List ℕ)
    → (key ++ (text ++ close ∷ [])) ++ end ≡ key ++ (text ++ close ∷ end)
closed key text close end =
    append_assoc key (text ++ close ∷ []) end ∙ ap (λ s. key ++ s) (append_assoc text (close ∷ []) end)

-- the states with these before the number, the constants, the agents and the boards
states_spelled :
    (first itno second constants : List ℕ) (close : ℕ) (third agents fourth boards end : List ℕ)
    → ((first ++ itno)
    ++ 44
    ∷ ((second ++ (constants ++ close ∷ []))
    ++ 44 ∷ ((third ++ (agents ++ 93 ∷ [])) ++ 44 ∷ (fourth ++ (boards ++ 93 ∷ [])))))
    ++ end
    ≡ first
    ++ (itno
    ++ 44
    ∷ (second
    ++ (constants ++ close ∷ 44 ∷ (third ++ (agents ++ 93 ∷ 44 ∷ (fourth ++ (boards ++ 93 ∷ end)))))))
states_spelled first itno second constants close third agents fourth boards end =
    let last = fourth ++ (boards ++ 93 ∷ []) in
    let later = (third ++ (agents ++ 93 ∷ [])) ++ 44 ∷ last in
    let rest = (second ++ (constants ++ close ∷ [])) ++ 44 ∷ later in
    append_assoc (first ++ itno) (44 ∷ rest) end
    ∙ append_assoc first itno (44 ∷ (rest ++ end))
    ∙ ap (λ s. first ++ (itno ++ 44 ∷ s))
    (comma_then second constants close later end
    ∙ ap (λ s. second ++ (constants ++ close ∷ 44 ∷ s))
    (comma_then third agents 93 last end
    ∙ ap (λ s. third ++ (agents ++ 93 ∷ 44 ∷ s)) (closed fourth boards 93 end)))

objects_close : (text : List ℕ) → ((text ++ 125 ∷ []) ++ 125 ∷ []) ++ 10 ∷ [] ≡ text ++ 125 ∷ 125 ∷ 10 ∷ []
objects_close text =
    ap (λ s. s ++ 10 ∷ []) (append_assoc text (125 ∷ []) (125 ∷ []))
    ∙ append_assoc text (125 ∷ 125 ∷ []) (10 ∷ [])

head_spelled :
    (itno between constants behind more : List ℕ)
    → (itno ++ (between ++ (constants ++ behind))) ++ more ≡ itno ++ (between ++ (constants ++ (behind ++ more)))
head_spelled itno between constants behind more =
    append_assoc itno (between ++ (constants ++ behind)) more
    ∙ ap (λ s. itno ++ s)
    (append_assoc between (constants ++ behind) more
    ∙ ap (λ s. between ++ s) (append_assoc constants behind more))

abbrev behind_colon : List ℕ → List ℕ → List ℕ
behind_colon key more = quoted key ++ 58 ∷ more

one_spelled :
    (itno constants agents boards : List ℕ)
    → whole_text (state_texts itno (123 ∷ (constants ++ 125 ∷ [])) agents boards) ++ 10 ∷ []
    ≡ concat (
    concat (
    codes "{\"states\":{\"itno\":" ∷ itno ∷ codes ",\"environment\":{" ∷ constants ∷ codes "},\"agents\":[" ∷ []
    )
    ∷ agents
    ∷ codes "],\"boards\":["
    ∷ boards
    ∷ codes "]}}\n"
    ∷ []
    )
unfolding escape_byte
one_spelled itno constants agents boards =
    let more = agents ++ (codes "],\"boards\":[" ++ (boards ++ codes "]}}\n")) in
    ap (λ s. codes "{\"states\":{" ++ s)
    (objects_close (with_commas (state_texts itno (123 ∷ (constants ++ 125 ∷ [])) agents boards))
    ∙ states_spelled (behind_colon (codes "itno") []) itno (behind_colon (codes "environment") (123 ∷ [])) constants 125
    (behind_colon (codes "agents") (91 ∷ [])) agents (behind_colon (codes "boards") (91 ∷ [])) boards
    (125 ∷ 125 ∷ 10 ∷ []))
    ∙ sym
    (ap (λ s. codes "{\"states\":{\"itno\":" ++ s)
    (head_spelled itno (codes ",\"environment\":{") constants (codes "},\"agents\":[") more))

two_spelled :
    (itno constants agents boards : List ℕ)
    → whole_text
    ((quoted (codes "version") ++ 58 ∷ 50 ∷ []) ∷ state_texts itno (91 ∷ (constants ++ 93 ∷ [])) agents boards)
    ++ 10 ∷ []
    ≡ concat (
    concat (
    codes "{\"states\":{\"version\":2,\"itno\":"
    ∷ itno
    ∷ codes ",\"environment\":["
    ∷ constants
    ∷ codes "],\"agents\":["
    ∷ []
    )
    ∷ agents
    ∷ codes "],\"boards\":["
    ∷ boards
    ∷ codes "]}}\n"
    ∷ []
    )
unfolding escape_byte
two_spelled itno constants agents boards =
    let more = agents ++ (codes "],\"boards\":[" ++ (boards ++ codes "]}}\n")) in
    ap (λ s. codes "{\"states\":{\"version\":2," ++ s)
    (objects_close (with_commas (state_texts itno (91 ∷ (constants ++ 93 ∷ [])) agents boards))
    ∙ states_spelled (behind_colon (codes "itno") []) itno (behind_colon (codes "environment") (91 ∷ [])) constants 93
    (behind_colon (codes "agents") (91 ∷ [])) agents (behind_colon (codes "boards") (91 ∷ [])) boards
    (125 ∷ 125 ∷ 10 ∷ []))
    ∙ sym
    (ap (λ s. codes "{\"states\":{\"version\":2,\"itno\":" ++ s)
    (head_spelled itno (codes ",\"environment\":[") constants (codes "],\"agents\":[") more))

writes_states :
    (model : Model) (format : Format) (itno : ℤ) (world : World) (boards : Boards) (environment : List ℕ)
    → IsPlainModel model
    → IsInt itno
    → IsWorldOf model world
    → AreBoardsOf model boards
    → Writes 6 environment (environment_value format model.constants world.constants)
    → AllZip (WritesMember 6)
    (state_texts (signed_decimal itno) environment (with_commas (all_agent_texts format model.agents world.agents))
    (with_commas (all_board_texts format model.messages boards.boards)))
    (state_pairs model format itno world boards)
writes_states model format itno world boards environment plain int is are env = (
  keyed 6 (codes "itno") (signed_decimal itno) (int_value itno) itno_plain (writes_int 6 itno int),
  (
    keyed 6 (codes "environment") environment (environment_value format model.constants world.constants)
        environment_plain env,
    (
      keyed 6 (codes "agents") (list_text (all_agent_texts format model.agents world.agents))
          (list_of (agent_values format model.agents world.agents)) agents_plain
          (writes_list 5 (all_agent_texts format model.agents world.agents)
          (agent_values format model.agents world.agents)
          (writes_agents format model.agents world.agents plain.agents is.agents)),
      (
        keyed 6 (codes "boards") (list_text (all_board_texts format model.messages boards.boards))
            (list_of (message_values format model.messages boards.boards)) boards_plain
            (writes_list 5 (all_board_texts format model.messages boards.boards)
            (message_values format model.messages boards.boards)
            (writes_boards format model.messages boards.boards plain.messages are)),
        tt,
      ),
    ),
  ),
)

writes_whole :
    (states : List (List ℕ)) (pairs : List (List ℕ × Data))
    → AllZip (WritesMember 6) states pairs
    → Writes 8 (whole_text states) (object_of ((codes "states", object_of pairs) ∷ []))
writes_whole states pairs all =
    writes_object 7 ((quoted (codes "states") ++ 58 ∷ members_text states) ∷ [])
    ((codes "states", object_of pairs) ∷ []) (
      keyed 7 (codes "states") (members_text states) (object_of pairs) states_plain (writes_object 6 states pairs all),
      tt,
    )

-- the text of an iteration is UTF-8, and is read as its value
pub record IsReadAs (bytes : List ℕ) (value : Data) : Type 0 where
  pub utf8 : is_utf8 bytes ≡ true
  pub read_is : read bytes ≡ Some value

read_as :
    (deep : ℕ) (before bytes : List ℕ) (value : Data)
    → before ++ 10 ∷ [] ≡ bytes → deep ≤ 127 → Writes deep before value → IsReadAs bytes value
read_as deep before bytes value e within w = record {
  utf8 = ap is_utf8 (sym e) ∙ line_utf8 deep before value w;
  read_is = ap read (sym e) ∙ read_line deep before value w within;
}

pub text_read :
    (model : Model) (format : Format) (itno : ℤ) (world : World) (boards : Boards)
    → IsPlainModel model
    → IsInt itno
    → IsWorldOf model world
    → AreBoardsOf model boards
    → IsReadAs (text model format itno world boards) (population_value model format itno world boards)
text_read model One itno world boards plain int is are =
    let constants = constant_texts model.constants world.constants in
    let pairs = constant_pairs model.constants world.constants in
    let agents = with_commas (all_agent_texts One model.agents world.agents) in
    let messages = with_commas (all_board_texts One model.messages boards.boards) in
    let states = state_texts (signed_decimal itno) (members_text constants) agents messages in
    read_as 8 (whole_text states) (text model One itno world boards) (population_value model One itno world boards)
    (one_spelled (signed_decimal itno) (with_commas constants) agents messages)
    (omega arith)
    (writes_whole states (state_pairs model One itno world boards)
    (writes_states model One itno world boards (members_text constants) plain int is are
    (writes_object 5 constants pairs (writes_constants 5 model.constants world.constants plain.constants is.ints))))
text_read model Two itno world boards plain int is are =
    let environment = row_text world.constants in
    let agents = with_commas (all_agent_texts Two model.agents world.agents) in
    let messages = with_commas (all_board_texts Two model.messages boards.boards) in
    let states = state_texts (signed_decimal itno) environment agents messages in
    let version = quoted (codes "version") ++ 58 ∷ 50 ∷ [] in
    read_as 8 (whole_text (version ∷ states)) (text model Two itno world boards)
    (population_value model Two itno world boards)
    (two_spelled (signed_decimal itno) (numbers_text world.constants) agents messages)
    (omega arith)
    (writes_whole (version ∷ states) ((codes "version", int_value (pos 2)) ∷ state_pairs model Two itno world boards) (
      keyed 6 (codes "version") (50 ∷ []) (int_value (pos 2)) version_plain
          (respelled 6 (signed_decimal (pos 2)) (50 ∷ []) (int_value (pos 2)) (decimal_digit 2 (omega arith))
          (writes_int 6 (pos 2) refl)),
      writes_states model Two itno world boards environment plain int is are (writes_row 5 world.constants is.ints),
    ))
