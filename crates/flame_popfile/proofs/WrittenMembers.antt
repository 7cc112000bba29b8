-- The texts of agents, bags and boards are read as their values.
use Rattle.std.proofs.Common.{◌≡◌, ℕ, suc, List, [], ◌∷◌, ◌++◌, map, codes, refl, ap, ◌∙◌, append_assoc, arith}
use Rattle.std.specs.Prelude.{ℤ}
use Rattle.std.specs.List.{AllZip}
use Rattle.flame_rows.proofs.Lists.{AllZip-append}
use Rattle.json.specs.Print.{quoted, escape_byte}
use Rattle.serde_json.specs.Data.{Data, string}
use Rattle.flame_spec.specs.declared.models.Model.{Model}
use Rattle.flame_spec.specs.declared.models.AgentType.{AgentType}
use Rattle.flame_spec.specs.declared.models.MessageType.{MessageType}
use Rattle.flame_spec.specs.Columns.{width}
use Rattle.flame_meaning.specs.RangeLaws.{AreInts, Each}
use Rattle.flame_world.specs.WorldLaws.{IsRowOf, IsBagOf}
use Rattle.flame_popfile.specs.declared.formats.Format.{Format}
use Rattle.flame_popfile.specs.declared.formats.Format.TheVariants.{One, Two}
use Rattle.flame_popfile.specs.RowTexts.{with_commas, row_text, object_text, agent_text, agent_texts, board_text, bag_text}
use Rattle.flame_popfile.specs.IterationTexts.{all_agent_texts, all_board_texts, text}
use Rattle.flame_world.proofs.Eachs.{each_also}
use Rattle.flame_popfile.proofs.PopulationValues.{list_of, row_value, memory_value, named_value, agent_value, bag_value, board_value, agent_values, message_values}
use Rattle.flame_popfile.proofs.WrittenNames.{IsPlain, name_key_plain, memory_plain, rows_plain, messages_plain}
use Rattle.flame_popfile.proofs.WrittenForms.{Writes, WritesMember, writes_list, writes_object, writes_string, list_text}
use Rattle.flame_popfile.proofs.WrittenForms.{object_text as members_text}
use Rattle.flame_popfile.proofs.WrittenRows.{ArePlain, each_zip, writes_row, writes_memory}

-- an equal text
pub respelled :
    (deep : ℕ) (text same : List ℕ) (value : Data)
    → text ≡ same → Writes deep text value → Writes deep same value
respelled deep text same value e w = record {
  whole = w.whole;
  spelled = w.spelled ∙ e;
  sound = w.sound;
  shallow = w.shallow;
  same = w.same;
}

-- a member behind a key
pub keyed :
    (deep : ℕ) (key text : List ℕ) (value : Data)
    → IsPlain key → Writes deep text value → WritesMember deep (quoted key ++ 58 ∷ text) (key, value)
keyed deep key text value plain w = record { value_text = text; utf8 = plain.utf8; spelled = refl; writes = w }

-- ---- a name and what stands at one key more

abbrev named_members : List ℕ → List ℕ → List ℕ → List (List ℕ)
named_members name key content =
    (quoted (codes "name") ++ 58 ∷ quoted name) ∷ (quoted key ++ 58 ∷ content) ∷ []

named_spelled :
    (name key content : List ℕ)
    → IsPlain name
    → members_text (named_members name key content)
    ≡ 123 ∷ (quoted (codes "name") ++ 58 ∷ 34 ∷ (name ++ 34 ∷ 44 ∷ (quoted key ++ 58 ∷ (content ++ 125 ∷ []))))
named_spelled name key content plain =
    ap
    (λ s. 123
    ∷ (((quoted (codes "name") ++ 58 ∷ 34 ∷ (s ++ 34 ∷ [])) ++ 44 ∷ (quoted key ++ 58 ∷ content)) ++ 125 ∷ []))
    plain.same
    ∙ ap (λ s. 123 ∷ s) (simp append_assoc)

writes_named_value :
    (deep : ℕ) (name key content : List ℕ) (value : Data)
    → IsPlain name
    → IsPlain key
    → Writes deep content value
    → Writes (suc deep)
    (123 ∷ (quoted (codes "name") ++ 58 ∷ 34 ∷ (name ++ 34 ∷ 44 ∷ (quoted key ++ 58 ∷ (content ++ 125 ∷ [])))))
    (named_value name key value)
writes_named_value deep name key content value name_plain key_plain w =
    respelled (suc deep) (members_text (named_members name key content)) _ (named_value name key value)
    (named_spelled name key content name_plain)
    (writes_object deep (named_members name key content) ((codes "name", string name) ∷ (key, value) ∷ []) (
      keyed deep (codes "name") (quoted name) (string name) name_key_plain (writes_string deep name name_plain.utf8),
      (keyed deep key content value key_plain w, tt),
    ))

-- an agent
writes_agent :
    (deep : ℕ) (type : AgentType) (row : List ℤ)
    → IsPlain type.name
    → ArePlain type.memory
    → IsRowOf (width type.memory) row
    → Writes (suc (suc (suc deep))) (agent_text type row) (agent_value type row)
unfolding escape_byte
writes_agent deep type row plain variables is =
    writes_named_value (suc (suc deep)) type.name (codes "memory") (object_text type.memory row)
    (memory_value type.memory row) plain memory_plain
    (writes_memory deep type.memory row variables (omega (arith, is.0)) is.1)

bracketed :
    (inside end : List ℕ) → (91 ∷ (inside ++ 93 ∷ [])) ++ end ≡ 91 ∷ (inside ++ 93 ∷ end)
bracketed inside end = ap (λ s. 91 ∷ s) (append_assoc inside (93 ∷ []) end)

-- a bag
writes_bag :
    (deep : ℕ) (name : List ℕ) (bag : List (List ℤ))
    → IsPlain name
    → Each AreInts bag
    → Writes (suc (suc (suc deep))) (bag_text name bag) (bag_value name bag)
unfolding escape_byte
writes_bag deep name bag plain ints =
    respelled (suc (suc (suc deep))) _ (bag_text name bag) (bag_value name bag)
    (ap (λ s. 123 ∷ (quoted (codes "name") ++ 58 ∷ 34 ∷ (name ++ 34 ∷ 44 ∷ (quoted (codes "rows") ++ 58 ∷ s))))
    (bracketed (with_commas (map row_text bag)) (125 ∷ [])))
    (writes_named_value (suc (suc deep)) name (codes "rows") (list_text (map row_text bag))
    (list_of (map row_value bag)) plain rows_plain
    (writes_list (suc deep) (map row_text bag) (map row_value bag)
    (each_zip AreInts (Writes (suc deep)) row_text row_value (writes_row deep) bag ints)))

-- a board
writes_board :
    (deep : ℕ) (message : MessageType) (bag : List (List ℤ))
    → IsPlain message.name
    → ArePlain message.variables
    → Each (IsRowOf (width message.variables)) bag
    → Writes (suc (suc (suc (suc deep)))) (board_text message bag) (board_value message bag)
unfolding escape_byte
writes_board deep message bag plain variables rows =
    let three = suc (suc (suc deep)) in
    let object = object_text message.variables in
    respelled (suc three) _ (board_text message bag) (board_value message bag)
    (ap
    (λ s. 123
    ∷ (quoted (codes "name") ++ 58 ∷ 34 ∷ (message.name ++ 34 ∷ 44 ∷ (quoted (codes "messages") ++ 58 ∷ s))))
    (bracketed (with_commas (map object bag)) (125 ∷ [])))
    (writes_named_value three message.name (codes "messages") (list_text (map object bag))
    (list_of (map (memory_value message.variables) bag))
    plain messages_plain
    (writes_list (suc (suc deep)) (map object bag) (map (memory_value message.variables) bag)
    (each_zip (IsRowOf (width message.variables)) (Writes (suc (suc deep))) object (memory_value message.variables)
    (λ row is. writes_memory deep message.variables row variables (omega (arith, is.0)) is.1) bag rows)))

-- ---- models whose names are plain

pub record IsPlainType (type : AgentType) : Type 0 where
  pub name : IsPlain type.name
  pub memory : ArePlain type.memory

pub record IsPlainMessage (message : MessageType) : Type 0 where
  pub name : IsPlain message.name
  pub variables : ArePlain message.variables

pub record IsPlainModel (model : Model) : Type 0 where
  pub constants : Each IsPlain model.constants
  pub agents : Each IsPlainType model.agents
  pub messages : Each IsPlainMessage model.messages

-- ---- all agents, and all boards

rows_ints : (wide : ℕ) (bag : List (List ℤ)) → Each (IsRowOf wide) bag → Each AreInts bag
rows_ints wide bag rows = each_also (IsRowOf wide) AreInts (λ row is. is.1) bag rows

pub writes_agents :
    (format : Format) (types : List AgentType) (bags : List (List (List ℤ)))
    → Each IsPlainType types
    → AllZip (λ type bag. IsBagOf (width type.memory) bag) types bags
    → AllZip (Writes 5) (all_agent_texts format types bags) (agent_values format types bags)
writes_agents One [] [] plain all = tt
writes_agents One [] (bag ∷ bags) plain all = absurd all
writes_agents One (type ∷ types) [] plain all = absurd all
writes_agents One (type ∷ types) (bag ∷ bags) plain all =
    let first = plain.0 in
    (AllZip-append (Writes 5) (map (agent_text type) bag) (map (agent_value type) bag) (agent_texts types bags) (agent_values One types bags))
    (each_zip (IsRowOf (width type.memory)) (Writes 5) (agent_text type) (agent_value type)
    (λ row is. writes_agent 2 type row first.name first.memory is) bag all.0.1)
    (writes_agents One types bags plain.1 all.1)
writes_agents Two [] [] plain all = tt
writes_agents Two [] (bag ∷ bags) plain all = absurd all
writes_agents Two (type ∷ types) [] plain all = absurd all
writes_agents Two (type ∷ types) (bag ∷ bags) plain all =
    let first = plain.0 in (
      writes_bag 2 type.name bag first.name (rows_ints (width type.memory) bag all.0.1),
      writes_agents Two types bags plain.1 all.1,
    )

pub writes_boards :
    (format : Format) (messages : List MessageType) (bags : List (List (List ℤ)))
    → Each IsPlainMessage messages
    → AllZip (λ message bag. IsBagOf (width message.variables) bag) messages bags
    → AllZip (Writes 5) (all_board_texts format messages bags) (message_values format messages bags)
writes_boards One [] [] plain all = tt
writes_boards One [] (bag ∷ bags) plain all = absurd all
writes_boards One (message ∷ messages) [] plain all = absurd all
writes_boards One (message ∷ messages) (bag ∷ bags) plain all =
    let first = plain.0 in (
      writes_board 1 message bag first.name first.variables all.0.1,
      writes_boards One messages bags plain.1 all.1,
    )
writes_boards Two [] [] plain all = tt
writes_boards Two [] (bag ∷ bags) plain all = absurd all
writes_boards Two (message ∷ messages) [] plain all = absurd all
writes_boards Two (message ∷ messages) (bag ∷ bags) plain all =
    let first = plain.0 in (
      writes_bag 2 message.name bag first.name (rows_ints (width message.variables) bag all.0.1),
      writes_boards Two messages bags plain.1 all.1,
    )
