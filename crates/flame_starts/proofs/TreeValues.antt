-- The values that serde_json reads of the trees of populations.
use Rattle.std.proofs.Common.{◌≡◌, ℕ, suc, ◌^◌, ◌<◌, ◌≤◌, List, [], ◌∷◌, ◌++◌, map, take, drop, length, Bool, true, false, Option, Some, None, option_map, option_and_then, IfSome, codes, refl, sym, ap, subst, ◌∙◌, arith, length-drop, append-nil}
use Rattle.std.specs.Prelude.{ℤ, pos, negsuc}
use Rattle.std.specs.Fmt.{signed_decimal}
use Rattle.std.specs.List.{AllZip}
use lib.Signed.{mag}
use Rattle.json.specs.Json as json
use Rattle.json.specs.Json.{Json}
use Rattle.json.specs.Lex.{tokens}
use Rattle.json.specs.Tree.{json_tokens, depth, items_depth, members_depth}
use Rattle.json.proofs.Printed.Trees.{value-json_tokens}
use Rattle.serde_json.specs.Data.{Data, number, string, array, object, Items, no_items, item, Members, no_members, put}
use Rattle.serde_json.specs.Find.{of_integer}
use Rattle.serde_json.specs.Read.{number_of, of_json, of_items, of_members, read, max_depth}
use Rattle.serde_json.specs.View.{items_of}
use Rattle.serde_json.proofs.Numbers.{number_of-decimal, number_of-negative}
use Rattle.flame_rows.proofs.Lists.{AllZip-append}
use Rattle.flame_spec.specs.declared.models.Model.{Model}
use Rattle.flame_spec.specs.declared.models.AgentType.{AgentType}
use Rattle.flame_spec.specs.declared.models.Variable.{Variable}
use Rattle.flame_spec.specs.Columns.{width, width_by, width_of}
use Rattle.flame_meaning.specs.RangeLaws.{IsInt, AreInts, Each}
use Rattle.flame_meaning.proofs.Eachs.{each_drop}
use Rattle.flame_world.proofs.Eachs.{all_each}
use Rattle.flame_tokens.specs.NumberTrees.{number_tree, items_tree, list_tree, row_tree}
use Rattle.flame_tokens.specs.MemberTrees.{members_tree, object_tree, variable_tree, variable_trees, memory_tree, named_tree, IsWide}
use Rattle.flame_tokens.specs.AgentTrees.{Listed, IsOfTypes, listed_tree, agents_tree}
use Rattle.flame_tokens.specs.BagTrees.{rows_tree, bag_tree, bag_trees, AreWide}
use Rattle.flame_tokens.specs.PassedTrees.{IsPlain, ArePlain, HavePlain, IsPassed}
use Rattle.flame_tokens.specs.PopulationTrees.{constant_trees, version_number, version_trees, is_two, itno_trees, environment_trees, boards_trees, Contents, states_trees, population_tree}
use Rattle.flame_tokens.specs.PopulationTrees.{IsItno, AreConstants, AreAgents, AreContents}
use Rattle.flame_popfile.specs.declared.formats.Format.{Format}
use Rattle.flame_popfile.specs.declared.formats.Format.TheVariants.{One, Two}
use Rattle.flame_popfile.proofs.PopulationValues.{object_of, list_of, int_value, row_value, variable_value, variable_pairs, memory_value, constant_pairs, named_value, agent_value, bag_value, environment_value}
use Rattle.flame_popfile.proofs.PutMembers.{put_all}
use Rattle.flame_popfile.proofs.WrittenRows.{each_zip, each_take, mag-IsInt}

-- the tree, nested no deeper than this, is read as the value
pub record Reads (deep : ℕ) (tree : Json) (value : Data) : Type 0 where
  pub same : of_json tree ≡ Some value
  pub shallow : depth tree ≤ deep

-- the same of a value behind its name
abbrev pub ReadsMember : ℕ → List ℕ × Json → List ℕ × Data → Type 0
ReadsMember deep tree pair = (tree.0 ≡ pair.0) × Reads deep tree.1 pair.1

-- ---- lists and objects

items_read :
    (deep : ℕ) (trees : List Json) (values : List Data)
    → AllZip (Reads deep) trees values → of_items (items_tree trees) ≡ Some (items_of values)
items_read deep [] [] all = refl
items_read deep [] (value ∷ values) all = absurd all
items_read deep (tree ∷ trees) [] all = absurd all
items_read deep (tree ∷ trees) (value ∷ values) all =
    ap (option_and_then (λ d. option_map (item d) (of_items (items_tree trees)))) all.0.same
    ∙ ap (option_map (item value)) (items_read deep trees values all.1)

items_shallow :
    (deep : ℕ) (trees : List Json) (values : List Data)
    → AllZip (Reads deep) trees values → items_depth (items_tree trees) ≤ deep
items_shallow deep [] [] all = omega arith
items_shallow deep [] (value ∷ values) all = absurd all
items_shallow deep (tree ∷ trees) [] all = absurd all
items_shallow deep (tree ∷ trees) (value ∷ values) all =
    omega (arith, all.0.shallow, items_shallow deep trees values all.1)

-- a list
pub reads_list :
    (deep : ℕ) (trees : List Json) (values : List Data)
    → AllZip (Reads deep) trees values → Reads (suc deep) (list_tree trees) (list_of values)
reads_list deep trees values all = record {
  same = ap (option_map array) (items_read deep trees values all);
  shallow = omega (arith, items_shallow deep trees values all);
}

members_read :
    (deep : ℕ) (trees : List (List ℕ × Json)) (pairs : List (List ℕ × Data)) (found : Members)
    → AllZip (ReadsMember deep) trees pairs → of_members (members_tree trees) found ≡ Some (put_all pairs found)
members_read deep [] [] found all = refl
members_read deep [] (pair ∷ pairs) found all = absurd all
members_read deep (tree ∷ trees) [] found all = absurd all
members_read deep (tree ∷ trees) (pair ∷ pairs) found all =
    ap (option_and_then (λ d. of_members (members_tree trees) (put tree.0 d found))) all.0.1.same
    ∙ ap (λ name. of_members (members_tree trees) (put name pair.1 found)) all.0.0
    ∙ members_read deep trees pairs (put pair.0 pair.1 found) all.1

members_shallow :
    (deep : ℕ) (trees : List (List ℕ × Json)) (pairs : List (List ℕ × Data))
    → AllZip (ReadsMember deep) trees pairs → members_depth (members_tree trees) ≤ deep
members_shallow deep [] [] all = omega arith
members_shallow deep [] (pair ∷ pairs) all = absurd all
members_shallow deep (tree ∷ trees) [] all = absurd all
members_shallow deep (tree ∷ trees) (pair ∷ pairs) all =
    omega (arith, all.0.1.shallow, members_shallow deep trees pairs all.1)

-- an object
pub reads_object :
    (deep : ℕ) (trees : List (List ℕ × Json)) (pairs : List (List ℕ × Data))
    → AllZip (ReadsMember deep) trees pairs → Reads (suc deep) (object_tree trees) (object_of pairs)
reads_object deep trees pairs all = record {
  same = ap (option_map object) (members_read deep trees pairs no_members all);
  shallow = omega (arith, members_shallow deep trees pairs all);
}

-- ---- numbers and rows

number_read : (z : ℤ) → mag z < 2 ^ 63 → number_of (signed_decimal z) ≡ Some (of_integer z)
number_read (pos n) h = number_of-decimal n (omega arith)
number_read (negsuc n) h = number_of-negative n (omega arith)

pub reads_int : (deep : ℕ) (z : ℤ) → IsInt z → Reads deep (number_tree z) (int_value z)
reads_int deep z h = record { same = ap (option_map number) (number_read z (mag-IsInt z h)); shallow = omega arith }

pub reads_row : (deep : ℕ) (row : List ℤ) → AreInts row → Reads (suc deep) (row_tree row) (row_value row)
reads_row deep row ints =
    reads_list deep (map number_tree row) (map int_value row)
    (each_zip IsInt (Reads deep) number_tree int_value (reads_int deep) row ints)

-- ---- memories and agents

reads_variable :
    (deep : ℕ) (wide : Option ℕ) (row : List ℤ)
    → width_by wide ≤ length row → AreInts row → Reads (suc deep) (variable_tree wide row) (variable_value wide row)
reads_variable deep None [] enough ints = absurd (omega arith)
reads_variable deep None (z ∷ row) enough ints = reads_int (suc deep) z ints.0
reads_variable deep (Some wide) row enough ints = reads_row deep (take wide row) (each_take IsInt wide row ints)

reads_variables :
    (deep : ℕ) (variables : List Variable) (row : List ℤ)
    → width variables ≤ length row
    → AreInts row
    → AllZip (ReadsMember (suc deep)) (variable_trees variables row) (variable_pairs variables row)
reads_variables deep [] row enough ints = tt
reads_variables deep (variable ∷ variables) row enough ints =
    let wide = width_of variable in (
      (refl, reads_variable deep variable.length row (omega arith) ints),
      reads_variables deep variables (drop wide row) (omega (arith, length-drop wide row)) (each_drop IsInt wide row ints),
    )

reads_named :
    (deep : ℕ) (name other : List ℕ) (inside : Json) (value : Data)
    → Reads deep inside value → Reads (suc deep) (named_tree name other inside) (named_value name other value)
reads_named deep name other inside value reads =
    reads_object deep ((codes "name", json.string name) ∷ (other, inside) ∷ [])
    ((codes "name", string name) ∷ (other, value) ∷ [])
    ((refl, record { same = refl; shallow = omega arith }), ((refl, reads), tt))

-- the value of an agent
abbrev pub listed_value : Listed → Data
listed_value listed = agent_value listed.type listed.row

reads_listed :
    (types : List AgentType) (deep : ℕ) (listed : Listed)
    → IsOfTypes types listed → Reads (suc (suc (suc deep))) (listed_tree listed) (listed_value listed)
reads_listed types deep listed is =
    let variables = listed.type.memory in
    reads_named (suc (suc deep)) listed.type.name (codes "memory") (memory_tree variables listed.row)
    (memory_value variables listed.row)
    (reads_object (suc deep) (variable_trees variables listed.row) (variable_pairs variables listed.row)
    (reads_variables deep variables listed.row (omega (arith, is.wide.count)) (all_each IsInt listed.row is.wide.ints)))

reads_agents :
    (types : List AgentType) (deep : ℕ) (all : List Listed)
    → Each (IsOfTypes types) all
    → Reads (suc (suc (suc (suc deep)))) (agents_tree all) (list_of (map listed_value all))
reads_agents types deep all are =
    reads_list (suc (suc (suc deep))) (map listed_tree all) (map listed_value all)
    (each_zip (IsOfTypes types) (Reads (suc (suc (suc deep)))) listed_tree listed_value (reads_listed types deep) all are)

-- the members for types with these rows
abbrev pub bag_values : List AgentType → List (List (List ℤ)) → List Data
bag_values [] dealt = []
bag_values (type ∷ types) [] = []
bag_values (type ∷ types) (rows ∷ dealt) = bag_value type.name rows ∷ bag_values types dealt

reads_bag :
    (deep : ℕ) (type : AgentType) (rows : List (List ℤ))
    → AreWide type rows → Reads (suc (suc (suc deep))) (bag_tree type rows) (bag_value type.name rows)
reads_bag deep type rows are =
    let wide = width type.memory in
    reads_named (suc (suc deep)) type.name (codes "rows") (rows_tree rows) (list_of (map row_value rows))
    (reads_list (suc deep) (map row_tree rows) (map row_value rows)
    (each_zip (IsWide wide) (Reads (suc deep)) row_tree row_value
    (λ row is. reads_row deep row (all_each IsInt row is.ints)) rows (all_each (IsWide wide) rows are)))

reads_bags :
    (deep : ℕ) (types : List AgentType) (dealt : List (List (List ℤ)))
    → AllZip AreWide types dealt
    → AllZip (Reads (suc (suc (suc deep)))) (bag_trees types dealt) (bag_values types dealt)
reads_bags deep [] dealt are = tt
reads_bags deep (type ∷ types) [] are = tt
reads_bags deep (type ∷ types) (rows ∷ dealt) are =
    (reads_bag deep type rows are.0, reads_bags deep types dealt are.1)

-- the value of the agents
abbrev pub agents_value :
    (two : Bool) (types : List AgentType) (tree : Json) (dealt : List (List (List ℤ)))
    → AreAgents two types tree dealt → Data
agents_value false types tree dealt are = list_of (map listed_value are.all)
agents_value true types tree dealt are = list_of (bag_values types dealt)

reads_agents_in :
    (two : Bool) (types : List AgentType) (tree : Json) (dealt : List (List (List ℤ)))
    → (are : AreAgents two types tree dealt)
    → Reads 5 tree (agents_value two types tree dealt are)
reads_agents_in false types tree dealt are =
    subst (λ (t : Json). Reads 5 t (list_of (map listed_value are.all))) (sym are.tree_is)
    (reads_agents types 1 are.all (all_each (IsOfTypes types) are.all are.known))
reads_agents_in true types tree dealt are =
    subst (λ (t : Json). Reads 5 t (list_of (bag_values types dealt))) (sym are.tree_is)
    (reads_list 4 (bag_trees types dealt) (bag_values types dealt) (reads_bags 1 types dealt are.wide))

-- ---- values that are passed over

-- the tree is read as some value
pub record IsRead (tree : Json) : Type 0 where
  pub value : Data
  pub same : of_json tree ≡ Some value

record AreRead (trees : json.Items) : Type 0 where
  values : Items
  same : of_items trees ≡ Some values

record HaveRead (trees : json.Members) (found : Members) : Type 0 where
  values : Members
  same : of_members trees found ≡ Some values

mutual
  -- all that may be passed over is read as some value
  pub plain_read : (tree : Json) → IsPlain tree → IsRead tree
  plain_read json.null is = absurd is
  plain_read (json.boolean b) is = absurd is
  plain_read (json.number text) is = record {
    value = int_value is.number;
    same =
        ap (λ s. option_map number (number_of s)) is.same
        ∙ ap (option_map number) (number_read is.number (mag-IsInt is.number is.int));
  }
  plain_read (json.string text) is = record { value = string text; same = refl }
  plain_read (json.array trees) are =
      let read = plain_items trees are in
      record { value = array read.values; same = ap (option_map array) read.same }
  plain_read (json.object trees) are =
      let read = plain_members trees no_members are in
      record { value = object read.values; same = ap (option_map object) read.same }

  plain_items : (trees : json.Items) → ArePlain trees → AreRead trees
  plain_items json.no_items are = record { values = no_items; same = refl }
  plain_items (json.item tree trees) are =
      let first = plain_read tree are.0 in
      let rest = plain_items trees are.1 in
      record {
        values = item first.value rest.values;
        same =
            ap (option_and_then (λ d. option_map (item d) (of_items trees))) first.same
            ∙ ap (option_map (item first.value)) rest.same;
      }

  plain_members : (trees : json.Members) (found : Members) → HavePlain trees → HaveRead trees found
  plain_members json.no_members found are = record { values = found; same = refl }
  plain_members (json.member name tree trees) found are =
      let first = plain_read tree are.0 in
      let rest = plain_members trees (put name first.value found) are.1 in
      record {
        values = rest.values;
        same = ap (option_and_then (λ d. of_members trees (put name d found))) first.same ∙ rest.same;
      }

-- the value of the boards, where they stand there
abbrev pub boards_value : (boards : Option Json) → IfSome boards (IsPassed 5) → Option Data
boards_value None is = None
boards_value (Some tree) is = Some (plain_read tree is.plain).value

-- ---- the whole

reads_constants :
    (deep : ℕ) (names : List (List ℕ)) (values : List ℤ)
    → AreInts values → AllZip (ReadsMember deep) (constant_trees names values) (constant_pairs names values)
reads_constants deep [] values ints = tt
reads_constants deep (name ∷ names) [] ints = tt
reads_constants deep (name ∷ names) (value ∷ values) ints =
    ((refl, reads_int deep value ints.0), reads_constants deep names values ints.1)

-- version 2, or version 1
abbrev pub format_by : Bool → Format
format_by false = One
format_by true = Two

-- what stands at a name, where it stands there
abbrev pub pairs_at : List ℕ → Option Data → List (List ℕ × Data)
pairs_at name None = []
pairs_at name (Some value) = (name, value) ∷ []

-- the number of the version
abbrev pub version_value : Bool → Data
version_value two = int_value (version_number two)

-- the states of these values
abbrev pub states_value : Option Bool → Option ℤ → Option Data → Data → Option Data → Data
states_value version itno environment agents boards =
    object_of
    (pairs_at (codes "version") (option_map version_value version)
    ++ (pairs_at (codes "itno") (option_map int_value itno)
    ++ (pairs_at (codes "environment") environment
    ++ (codes "agents", agents) ∷ pairs_at (codes "boards") boards)))

reads_version :
    (version : Option Bool)
    → AllZip (ReadsMember 5) (version_trees version) (pairs_at (codes "version") (option_map version_value version))
reads_version None = tt
reads_version (Some false) = ((refl, reads_int 5 (pos 1) refl), tt)
reads_version (Some true) = ((refl, reads_int 5 (pos 2) refl), tt)

reads_itno :
    (itno : Option ℤ)
    → IfSome itno IsItno
    → AllZip (ReadsMember 5) (itno_trees itno) (pairs_at (codes "itno") (option_map int_value itno))
reads_itno None is = tt
reads_itno (Some itno) is = ((refl, reads_int 5 itno is.int), tt)

-- the environment, where it stands there
abbrev pub environment_data : Bool → List (List ℕ) → Option (List ℤ) → Option Data
environment_data two names constants = option_map (environment_value (format_by two) names) constants

reads_environment :
    (two : Bool) (names : List (List ℕ)) (constants : Option (List ℤ))
    → IfSome constants (AreConstants names)
    → AllZip (ReadsMember 5) (environment_trees two names constants)
    (pairs_at (codes "environment") (environment_data two names constants))
reads_environment two names None are = tt
reads_environment false names (Some values) are = (
  (
    refl,
    reads_object 4 (constant_trees names values) (constant_pairs names values)
        (reads_constants 4 names values (all_each IsInt values are.ints)),
  ),
  tt,
)
reads_environment true names (Some values) are = ((refl, reads_row 4 values (all_each IsInt values are.ints)), tt)

reads_boards :
    (boards : Option Json) (is : IfSome boards (IsPassed 5))
    → AllZip (ReadsMember 5) (boards_trees boards) (pairs_at (codes "boards") (boards_value boards is))
reads_boards None is = tt
reads_boards (Some tree) is =
    ((refl, record { same = (plain_read tree is.plain).same; shallow = is.shallow }), tt)

-- the states that the contents are
abbrev pub states_of :
    (model : Model) (contents : Contents) (itno : Option ℤ) (constants : Option (List ℤ))
    (dealt : List (List (List ℤ)))
    → AreContents model contents itno constants dealt → Data
states_of model contents itno constants dealt are =
    let two = is_two contents.version in
    states_value contents.version itno (environment_data two model.constants constants)
    (agents_value two model.agents contents.agents dealt are.agents_are)
    (boards_value contents.boards are.boards_are)

-- the population of these states
abbrev pub population_value : Data → Data
population_value states = object_of ((codes "states", states) ∷ [])

reads_population :
    (model : Model) (contents : Contents) (itno : Option ℤ) (constants : Option (List ℤ))
    (dealt : List (List (List ℤ)))
    → (are : AreContents model contents itno constants dealt)
    → Reads 7 (population_tree model.constants contents itno constants)
    (population_value (states_of model contents itno constants dealt are))
reads_population model contents itno constants dealt are =
    let names = model.constants in
    let version = contents.version in
    let two = is_two version in
    let agents = agents_value two model.agents contents.agents dealt are.agents_are in
    let boards = boards_value contents.boards are.boards_are in
    let last_trees = (codes "agents", contents.agents) ∷ boards_trees contents.boards in
    let last_pairs = (codes "agents", agents) ∷ pairs_at (codes "boards") boards in
    let third_trees = environment_trees two names constants ++ last_trees in
    let third_pairs = pairs_at (codes "environment") (environment_data two names constants) ++ last_pairs in
    let second_trees = itno_trees itno ++ third_trees in
    let second_pairs = pairs_at (codes "itno") (option_map int_value itno) ++ third_pairs in
    reads_object 6 ((codes "states", object_tree (states_trees names contents itno constants)) ∷ [])
    ((codes "states", states_of model contents itno constants dealt are) ∷ []) (
      (
        refl,
        reads_object 5 (version_trees version ++ second_trees)
            (pairs_at (codes "version") (option_map version_value version) ++ second_pairs)
            (AllZip-append (ReadsMember 5) (version_trees version)
            (pairs_at (codes "version") (option_map version_value version)) second_trees second_pairs
            (reads_version version)
            (AllZip-append (ReadsMember 5) (itno_trees itno) (pairs_at (codes "itno") (option_map int_value itno))
            third_trees third_pairs
            (reads_itno itno are.itno_is)
            (AllZip-append (ReadsMember 5) (environment_trees two names constants)
            (pairs_at (codes "environment") (environment_data two names constants)) last_trees last_pairs
            (reads_environment two names constants are.constants_are) (
              (refl, reads_agents_in two model.agents contents.agents dealt are.agents_are),
              reads_boards contents.boards are.boards_are,
            )))),
      ),
      tt,
    )

read_as :
    (text : List ℕ) (deep : ℕ) (tree : Json) (value : Data)
    → tokens text ≡ json_tokens tree → Reads deep tree value → deep ≤ max_depth → read text ≡ Some value
read_as text deep tree value is reads within =
    ap (λ ts. option_and_then of_json (option_and_then (λ p. json.if_last p.0 p.1) (json.value max_depth ts)))
    (is ∙ sym (append-nil (json_tokens tree)))
    ∙ ap (λ r. option_and_then of_json (option_and_then (λ p. json.if_last p.0 p.1) r))
    (value-json_tokens tree max_depth [] (let h = reads.shallow in omega arith))
    ∙ reads.same

-- a text with the tokens of a population is read as its value
pub population_read :
    (text : List ℕ) (model : Model) (contents : Contents) (itno : Option ℤ) (constants : Option (List ℤ))
    (dealt : List (List (List ℤ)))
    → tokens text ≡ json_tokens (population_tree model.constants contents itno constants)
    → (are : AreContents model contents itno constants dealt)
    → read text ≡ Some (population_value (states_of model contents itno constants dealt are))
population_read text model contents itno constants dealt is are =
    read_as text 7 (population_tree model.constants contents itno constants)
    (population_value (states_of model contents itno constants dealt are)) is
    (reads_population model contents itno constants dealt are) (omega arith)
