-- What a value without shape faults stands for is well formed.
use Rattle.std.proofs.Common.{◌≡◌, ℕ, zero, suc, ◌+◌, ◌<◌, List, [], ◌∷◌, ◌++◌, map, Bool, true, false, cond, refl, sym, ap, ◌∙◌, subst, arith, rules, codes}
use Rattle.std.proofs.Common.{Option, Some, None, not, ◌&&◌}
use Rattle.std.specs.Prelude.{ℤ, pos, negsuc, unsigned_abs, is_some, is_none, unwrap_or, option_map, option_and_then, int_le}
use Rattle.std.specs.List.{list_all}
use Rattle.std.specs.Option.{option_map_or}
use Rattle.std.specs.Str.{bytes_eq}
use Rattle.std.proofs.lemmas.Bool.{and_parts, and_from}
use Rattle.flame_rows.proofs.Lists.{append-is_nil_left, append-is_nil_right}
use Rattle.serde_json.specs.Data.{Data, null, boolean, number, string, array, object, depth}
use Rattle.serde_json.specs.Find.{as_null, as_str}
use Rattle.flame_ops.specs.declared.integers.Op.{Op}
use Rattle.flame_ops.specs.declared.integers.Op.TheVariants.{Eq}
use Rattle.flame_ops.specs.Integers.{is_int}
use Rattle.flame_spec.specs.declared.conditions.Condition.{Condition, fold-Condition, the_lemmas}
use Rattle.flame_spec.specs.declared.conditions.Condition.{Compare as comparison, And as conjunction}
use Rattle.flame_spec.specs.declared.conditions.Condition.{Or as disjunction, Not as negation, Time as timing}
use Rattle.flame_spec.specs.declared.conditions.Operand.{Operand}
use Rattle.flame_spec.specs.declared.conditions.Operand.TheVariants.{Number, Agent, Message}
use Rattle.flame_spec.specs.Steps.{◌>>=◌, only_where}
use Rattle.flame_spec.specs.Json.{kept}
use Rattle.flame_spec.specs.Lists.{each_from}
use Rattle.flame_spec.specs.Names.{is_name, is_filled}
use Rattle.flame_spec.specs.Paths.{root, at_key, at_number}
use Rattle.flame_spec.specs.WellFormed.{is_positive_int, is_comparison, is_well_formed_operand, is_well_formed_phase}
use Rattle.flame_spec.specs.WellFormed.{well_formed_step, is_well_formed_filter, is_well_formed_condition, is_well_formed_sort}
use Rattle.flame_spec.specs.WellFormed.{is_array_length, is_well_formed_unit, is_well_formed_variable, is_well_formed_message, is_well_formed_input}
use Rattle.flame_spec.specs.WellFormed.{is_well_formed_function, is_well_formed_agent, is_well_formed}
use Rattle.flame_xmml.specs.declared.faults.Shape.{Shape}
use Rattle.flame_xmml.specs.declared.faults.Want.{Want}
use Rattle.flame_xmml.specs.declared.words.Connective.{Connective}
use Rattle.flame_xmml.specs.declared.words.Connective.TheVariants.{Compare, And, Or}
use Rattle.flame_xmml.specs.ValueParts.{part, has, is_object, members, wanted, leaf, required, optional, object_faults, list_faults}
use Rattle.flame_xmml.specs.Wants.{name_of, filled_of, int_of, positive_of, length_of, held, whole_of, either, after_prefix, name_after}
use Rattle.flame_xmml.specs.Wants.{agent_named, message_named, number_named, operand_of, phase_of, connective_of, connective_named}
use Rattle.flame_xmml.specs.ConditionShapes.{side_of, time_of, sides_of, condition_of, condition_faults}
use Rattle.flame_xmml.specs.ConditionShapes.{sides_keys, time_keys}
use Rattle.flame_xmml.specs.ShapeFaults.{constant_faults, variable_faults, unit_faults, environment_faults, row_faults, sort_faults}
use Rattle.flame_xmml.specs.ShapeFaults.{input_faults, output_faults, function_faults, agent_faults, xmodel_faults, shape_faults}
use Rattle.flame_xmml.specs.ShapeFaults.{typed_keys, variable_keys, unit_keys, environment_keys, row_keys, sort_keys, input_keys}
use Rattle.flame_xmml.specs.ShapeFaults.{output_keys, function_keys, agent_keys, xmodel_keys, plain}
use Rattle.flame_xmml.specs.LeafShapes.{file_faults, int_faults}
use Rattle.flame_xmml.specs.Models.{name_at, filled, period_at, length_at, list_at, there, variable_of, unit_of, message_of}
use Rattle.flame_xmml.specs.Models.{sort_of, input_of, function_of, agent_of, model_of}
use Rattle.flame_xmml.proofs.Layers.{part-depth, condition_faults-open, condition_of-open}

-- ---- lists and tests

-- what is there passes
abbrev pub passes : {X : Type 0} → (X → Bool) → Option X → Bool
passes test o = option_map_or test o true

passes-or : {X : Type 0} (test : X → Bool) (o : Option X) (d : X) → passes test o ≡ true → test d ≡ true → test (unwrap_or o d) ≡ true
passes-or test None d here other = other
passes-or test (Some x) d here other = here

passes-there : {X : Type 0} (test : X → Bool) (o : Option X) (d : X) → passes test o ≡ true → is_some o ≡ true → test (unwrap_or o d) ≡ true
passes-there test None d here is = cc
passes-there test (Some x) d here is = here

passes-kept : (test : List ℕ → Bool) (o : Option (List ℕ)) → passes test (option_and_then (kept test) o) ≡ true
passes-kept test None = refl
passes-kept test (Some text) =
    elim (test text) as (λ b. test text ≡ b → passes test (cond b (Some text) None) ≡ true) [
      | true ↦ λ e. e
      | false ↦ λ e. refl
    ] refl

passes-map : {X Y : Type 0} (f : X → Y) (test : Y → Bool) (o : Option X) → passes (λ x. test (f x)) o ≡ true → passes test (option_map f o) ≡ true
passes-map f test None here = refl
passes-map f test (Some x) here = here

passes-either : {X : Type 0} (test : X → Bool) (a b : Option X) → passes test a ≡ true → passes test b ≡ true → passes test (either a b) ≡ true
passes-either test None b here other = other
passes-either test (Some x) b here other = here

-- ---- parts of values

pub object-is : (faults : List ℕ → Data → List Shape) (path : List ℕ) (value : Data)
    → object_faults faults path value ≡ [] → faults path value ≡ []
object-is faults path value none =
    elim (is_object value) as (λ b. cond b (faults path value) (wanted Want.Object path) ≡ [] → faults path value ≡ []) [
      | true ↦ λ e. e
      | false ↦ λ e. cc
    ] none

pub leaf-is : {X : Type 0} (want : Want) (read : Data → Option X) (path : List ℕ) (value : Data)
    → leaf want read path value ≡ [] → is_some (read value) ≡ true
leaf-is want read path value none =
    elim (is_some (read value)) as (λ b. cond b [] (wanted want path) ≡ [] → b ≡ true) [
      | true ↦ λ e. refl
      | false ↦ λ e. cc
    ] none

pub name-is : (want : Want) (path key : List ℕ) (value : Data)
    → leaf want name_of path (part key value) ≡ [] → is_name (name_at key value) ≡ true
name-is want path key value none =
    passes-there is_name (name_of (part key value)) [] (passes-kept is_name (as_str (part key value))) (leaf-is want name_of path (part key value) none)

pub filled-is : (want : Want) (path : List ℕ) (value : Data)
    → leaf want filled_of path value ≡ [] → is_filled (filled value) ≡ true
filled-is want path value none =
    passes-there is_filled (filled_of value) [] (passes-kept is_filled (as_str value)) (leaf-is want filled_of path value none)

pub optional-is : (faults : List ℕ → Data → List Shape) (key path : List ℕ) (value : Data)
    → optional faults key path value ≡ [] → has key value ≡ true → faults (at_key path key) (part key value) ≡ []
optional-is faults key path value none is =
    sym (ap (λ b. cond b (faults (at_key path key) (part key value)) []) is) ∙ none

-- what stands at a key that may be missing passes
there-is : {X : Type 0} (faults : List ℕ → Data → List Shape) (read : Data → X) (test : X → Bool)
    → ((path : List ℕ) (value : Data) → faults path value ≡ [] → test (read value) ≡ true)
    → (key path : List ℕ) (value : Data)
    → optional faults key path value ≡ []
    → passes test (option_map read (there key value)) ≡ true
there-is faults read test each key path value none =
    elim (has key value) as (λ b.
    cond b (faults (at_key path key) (part key value)) [] ≡ []
    → passes test (option_map read (cond b (Some (part key value)) None)) ≡ true) [
      | true ↦ λ e. each (at_key path key) (part key value) e
      | false ↦ λ e. refl
    ] none

all-are : {X : Type 0} (faults : ℕ → Data → List Shape) (read : Data → X) (test : X → Bool)
    → ((i : ℕ) (value : Data) → faults i value ≡ [] → test (read value) ≡ true)
    → (i : ℕ) (values : List Data)
    → each_from faults i values ≡ []
    → list_all test (map read values) ≡ true
all-are faults read test each i [] none = refl
all-are faults read test each i (value ∷ values) none =
    and_from _ _ (each i value (append-is_nil_left _ _ none)) (all-are faults read test each (i + 1) values (append-is_nil_right (faults i value) _ none))

-- the members of a list pass
list-is : {X : Type 0} (faults : List ℕ → Data → List Shape) (read : Data → X) (test : X → Bool)
    → ((path : List ℕ) (value : Data) → faults path value ≡ [] → test (read value) ≡ true)
    → (path : List ℕ) (value : Data)
    → list_faults faults path value ≡ []
    → list_all test (map read (unwrap_or (members value) [])) ≡ true
list-is faults read test each path value none = by (members value) none
  where
    by : (o : Option (List Data))
        → option_map_or (λ values. each_from (λ number value. faults (at_number path number) value) 0 values) o (wanted Want.List path) ≡ []
        → list_all test (map read (unwrap_or o [])) ≡ true
    by None e = cc
    by (Some values) e = all-are (λ number value. faults (at_number path number) value) read test (λ i value. each (at_number path i) value) 0 values e

pub no_members : (value : Data) → is_none (as_null value) ≡ false → members value ≡ None
no_members null e = refl
no_members (boolean b) e = cc
no_members (number n) e = cc
no_members (string s) e = cc
no_members (array items) e = cc
no_members (object entries) e = cc

pub is_null : (value : Data) → is_none (as_null value) ≡ false → value ≡ null
is_null null e = refl
is_null (boolean b) e = cc
is_null (number n) e = cc
is_null (string s) e = cc
is_null (array items) e = cc
is_null (object entries) e = cc

-- the members of a list that may be missing pass
pub list_at-is : {X : Type 0} (faults : List ℕ → Data → List Shape) (read : Data → X) (test : X → Bool)
    → ((path : List ℕ) (value : Data) → faults path value ≡ [] → test (read value) ≡ true)
    → (key path : List ℕ) (value : Data)
    → optional (list_faults faults) key path value ≡ []
    → list_all test (list_at read key value) ≡ true
list_at-is faults read test each key path value none = by (has key value) refl
  where
    by : (b : Bool) → has key value ≡ b → list_all test (list_at read key value) ≡ true
    by true e = list-is faults read test each (at_key path key) (part key value) (optional-is (list_faults faults) key path value none e)
    by false e = ap (λ o. list_all test (map read (unwrap_or o []))) (no_members (part key value) e)

-- ---- numbers

passes-held : (z : ℤ) → passes is_int (held z) ≡ true
passes-held z =
    elim (is_int z) as (λ b. is_int z ≡ b → passes is_int (cond b (Some z) None) ≡ true) [
      | true ↦ λ e. e
      | false ↦ λ e. refl
    ] refl

passes-int : (value : Data) → passes is_int (int_of value) ≡ true
passes-int value = by (whole_of value)
  where
    by : (o : Option ℤ) → passes is_int (option_and_then held o) ≡ true
    by None = refl
    by (Some z) = passes-held z

-- the number, where a test passes
abbrev passed_on : ℤ → Bool → Option ℤ
passed_on z b = only_where b >>= (λ u. Some z)

positive-among : (o : Option ℤ) → passes is_int o ≡ true → passes is_positive_int (o >>= (λ z. passed_on z (int_le (pos 1) z))) ≡ true
positive-among None e = refl
positive-among (Some z) e =
    elim (int_le (pos 1) z) as (λ b. int_le (pos 1) z ≡ b → passes is_positive_int (passed_on z b) ≡ true) [
      | true ↦ λ f. and_from _ _ f (and_parts _ _ e).1
      | false ↦ λ f. refl
    ] refl

passes-positive : (value : Data) → passes is_positive_int (positive_of value) ≡ true
passes-positive value = positive-among (int_of value) (passes-int value)

period-is : (want : Want) (path : List ℕ) (value : Data)
    → leaf want positive_of path (part (codes "period") value) ≡ [] → is_positive_int (period_at value) ≡ true
period-is want path value none =
    passes-there is_positive_int (positive_of (part (codes "period") value)) (pos 1) (passes-positive (part (codes "period") value))
    (leaf-is want positive_of path (part (codes "period") value) none)

-- ---- operands

number-formed : (value : Data) → passes is_well_formed_operand (number_named value) ≡ true
number-formed value = passes-map (λ z. Number z) is_well_formed_operand (int_of value) (passes-int value)

name_after-formed : (prefix text : List ℕ) → passes is_name (name_after prefix text) ≡ true
name_after-formed prefix text = passes-kept is_name (after_prefix prefix text)

agent-formed : (text : List ℕ) → passes is_well_formed_operand (agent_named text) ≡ true
agent-formed text =
    passes-map (λ name. Agent name) is_well_formed_operand (name_after (codes "a.") text) (name_after-formed (codes "a.") text)

message-formed : (text : List ℕ) → passes is_well_formed_operand (message_named text) ≡ true
message-formed text =
    passes-map (λ name. Message name) is_well_formed_operand (name_after (codes "m.") text) (name_after-formed (codes "m.") text)

operand-formed : (value : Data) → passes is_well_formed_operand (operand_of value) ≡ true
operand-formed value =
    passes-either is_well_formed_operand (number_named value) _ (number-formed value) (by (as_str value))
  where
    by : (o : Option (List ℕ))
        → passes is_well_formed_operand (option_and_then (λ text. either (agent_named text) (message_named text)) o) ≡ true
    by None = refl
    by (Some text) = passes-either is_well_formed_operand (agent_named text) (message_named text) (agent-formed text) (message-formed text)

side-formed : (value : Data) → is_well_formed_operand (side_of value) ≡ true
side-formed value =
    passes-or is_well_formed_operand (operand_of (part (codes "value") value)) (Number (pos 0)) (operand-formed (part (codes "value") value)) refl

phase-formed : (value : Data) → passes is_well_formed_phase (phase_of value) ≡ true
phase-formed value =
    passes-either is_well_formed_phase (number_named value) _
    (passes-map (λ z. Number z) is_well_formed_phase (int_of value) (passes-int value))
    (by (as_str value))
  where
    by : (o : Option (List ℕ)) → passes is_well_formed_phase (option_and_then agent_named o) ≡ true
    by None = refl
    by (Some text) =
        passes-map (λ name. Agent name) is_well_formed_phase (name_after (codes "a.") text) (name_after-formed (codes "a.") text)

-- ---- operators

-- a connective compares by an operator that does
abbrev compares_well : Connective → Bool
compares_well (Compare op) = is_comparison op
compares_well And = true
compares_well Or = true

chosen : (b : Bool) (one other : Option Connective)
    → passes compares_well one ≡ true → passes compares_well other ≡ true → passes compares_well (cond b one other) ≡ true
chosen true one other e f = e
chosen false one other e f = f

connective-formed : (text : List ℕ) → passes compares_well (connective_named text) ≡ true
connective-formed text =
    chosen (bytes_eq text (codes "EQ")) _ _ refl
    (chosen (bytes_eq text (codes "NEQ")) _ _ refl
    (chosen (bytes_eq text (codes "LT")) _ _ refl
    (chosen (bytes_eq text (codes "GT")) _ _ refl
    (chosen (bytes_eq text (codes "LEQ")) _ _ refl
    (chosen (bytes_eq text (codes "GEQ")) _ _ refl
    (chosen (bytes_eq text (codes "AND")) _ _ refl
    (chosen (bytes_eq text (codes "OR")) _ _ refl refl)))))))

passes-connective : (value : Data) → passes compares_well (connective_of value) ≡ true
passes-connective value = by (as_str value)
  where
    by : (o : Option (List ℕ)) → passes compares_well (option_and_then connective_named o) ≡ true
    by None = refl
    by (Some text) = connective-formed text

-- ---- conditions

-- a condition, or a filter, by whether a time condition may stand there
abbrev formed : Bool → Condition → Bool
formed timed = fold-Condition Bool (well_formed_step timed)

formed-Compare : (timed : Bool) (op : Op) (a b : Operand)
    → formed timed (comparison op a b) ≡ is_comparison op && (is_well_formed_operand a && is_well_formed_operand b)
formed-Compare timed op a b = search (rules, the_lemmas)

formed-And : (timed : Bool) (a b : Condition) → formed timed (conjunction a b) ≡ formed timed a && formed timed b
formed-And timed a b = search (rules, the_lemmas)

formed-Or : (timed : Bool) (a b : Condition) → formed timed (disjunction a b) ≡ formed timed a && formed timed b
formed-Or timed a b = search (rules, the_lemmas)

formed-Not : (timed : Bool) (a : Condition) → formed timed (negation a) ≡ formed timed a
formed-Not timed a = search (rules, the_lemmas)

formed-Time : (timed : Bool) (unit : List ℕ) (phase : Operand) (duration : ℤ)
    → formed timed (timing unit phase duration)
    ≡ timed && (is_name unit && (is_well_formed_phase phase && is_positive_int duration))
formed-Time timed unit phase duration = search (rules, the_lemmas)

timed-formed : (path : List ℕ) (value : Data) → object_faults time_keys path value ≡ [] → formed true (time_of value) ≡ true
timed-formed path value none =
    let keys = object-is time_keys path value none in
    formed-Time true _ _ _
    ∙ and_from _ _ (name-is _ _ (codes "period") value (append-is_nil_left _ _ (append-is_nil_left _ _ keys)))
    (and_from _ _
    (passes-or is_well_formed_phase (phase_of (part (codes "phase") value)) (Number (pos 0)) (phase-formed (part (codes "phase") value)) refl)
    (passes-or is_positive_int (positive_of (part (codes "duration") value)) (pos 1) (passes-positive (part (codes "duration") value)) refl))

-- the condition of a value, where those at its keys are well formed
sides-formed :
    (timed : Bool) (value : Data) (inner : List ℕ → Condition) (faults : List ℕ → List ℕ → List Shape) (path : List ℕ) (o : Option Connective)
    → is_some o ≡ true
    → passes compares_well o ≡ true
    → sides_keys o value faults path ≡ []
    → ((key path : List ℕ) → faults key path ≡ [] → formed timed (inner key) ≡ true)
    → formed timed (sides_of (unwrap_or o (Compare Eq)) inner value) ≡ true
sides-formed timed value inner faults path None is well none each = cc
sides-formed timed value inner faults path (Some (Compare op)) is well none each =
    formed-Compare timed op _ _
    ∙ and_from _ _ well (and_from _ _ (side-formed (part (codes "lhs") value)) (side-formed (part (codes "rhs") value)))
sides-formed timed value inner faults path (Some And) is well none each =
    formed-And timed _ _
    ∙ and_from _ _ (each (codes "lhs") _ (append-is_nil_left _ _ none)) (each (codes "rhs") _ (append-is_nil_right (faults (codes "lhs") _) _ none))
sides-formed timed value inner faults path (Some Or) is well none each =
    formed-Or timed _ _
    ∙ and_from _ _ (each (codes "lhs") _ (append-is_nil_left _ _ none)) (each (codes "rhs") _ (append-is_nil_right (faults (codes "lhs") _) _ none))

-- one level of a condition, where the conditions at its keys are well formed
module _ (in_filter : Bool) (path : List ℕ) (value : Data) where
  -- the faults of the condition at a key, at a path
  abbrev inner : List ℕ → List ℕ → List Shape
  inner key there = condition_faults in_filter there (part key value)

  -- conditions at keys are well formed where they have no faults
  abbrev AreFormed : Type 0
  AreFormed = (key there : List ℕ) → inner key there ≡ [] → formed (not in_filter) (condition_of (part key value)) ≡ true

  timed-level : (b : Bool) → in_filter ≡ b
      → cond b (wanted Want.Condition (at_key path (codes "time"))) (object_faults time_keys (at_key path (codes "time")) (part (codes "time") value)) ≡ []
      → formed (not in_filter) (time_of (part (codes "time") value)) ≡ true
  timed-level true e clear = cc
  timed-level false e clear =
      ap (λ b. formed (not b) (time_of (part (codes "time") value))) e
      ∙ timed-formed (at_key path (codes "time")) (part (codes "time") value) clear

  operated-level : AreFormed
      → leaf Want.Op connective_of (at_key path (codes "op")) (part (codes "op") value)
      ++ sides_keys (connective_of (part (codes "op") value)) value inner path
      ≡ []
      → formed (not in_filter) (sides_of (unwrap_or (connective_of (part (codes "op") value)) (Compare Eq)) (λ key. condition_of (part key value)) value)
      ≡ true
  operated-level below clear =
      sides-formed (not in_filter) value (λ key. condition_of (part key value)) inner path (connective_of (part (codes "op") value))
      (leaf-is Want.Op connective_of (at_key path (codes "op")) (part (codes "op") value) (append-is_nil_left _ _ clear))
      (passes-connective (part (codes "op") value))
      (append-is_nil_right (leaf Want.Op connective_of (at_key path (codes "op")) (part (codes "op") value)) _ clear)
      below

  level-formed : (o : Bool) → is_object value ≡ o
      → (a b : Bool)
      → (is_object value ≡ true → AreFormed)
      → cond (not o) (wanted Want.Condition path)
      (cond a (inner (codes "not") (at_key path (codes "not")))
      (cond b (cond in_filter (wanted Want.Condition (at_key path (codes "time"))) (object_faults time_keys (at_key path (codes "time")) (part (codes "time") value)))
      (leaf Want.Op connective_of (at_key path (codes "op")) (part (codes "op") value)
      ++ sides_keys (connective_of (part (codes "op") value)) value inner path)))
      ≡ []
      → formed (not in_filter)
      (cond a (negation (condition_of (part (codes "not") value)))
      (cond b (time_of (part (codes "time") value))
      (sides_of (unwrap_or (connective_of (part (codes "op") value)) (Compare Eq)) (λ key. condition_of (part key value)) value)))
      ≡ true
  level-formed false is a b below clear = cc
  level-formed true is true b below clear = formed-Not (not in_filter) _ ∙ below is (codes "not") _ clear
  level-formed true is false true below clear = timed-level in_filter refl clear
  level-formed true is false false below clear = operated-level (below is) clear

condition-formed : (n : ℕ) (in_filter : Bool) (path : List ℕ) (value : Data)
    → depth value < n → condition_faults in_filter path value ≡ [] → formed (not in_filter) (condition_of value) ≡ true
condition-formed zero in_filter path value few none = absurd (omega arith)
condition-formed (suc n) in_filter path value few none =
    ap (formed (not in_filter)) (condition_of-open value)
    ∙ level-formed in_filter path value (is_object value) refl (has (codes "not") value) (has (codes "time") value)
    (λ is key there clear.
    let less : depth (part key value) < depth value = part-depth key value is in
    condition-formed n in_filter there (part key value) (omega arith) clear)
    (sym (condition_faults-open in_filter path value) ∙ none)

-- ---- objects

passes-length : (value : Data) → passes is_array_length (length_of value) ≡ true
passes-length value = by (int_of value)
  where
    by : (o : Option ℤ)
        → passes is_array_length
        (o >>= (λ z. only_where (int_le (pos 1) z && int_le z (pos 1000)) >>= (λ u. Some (unsigned_abs z))))
        ≡ true
    by None = refl
    by (Some (pos n)) =
        elim (int_le (pos 1) (pos n) && int_le (pos n) (pos 1000)) as (λ b.
        (int_le (pos 1) (pos n) && int_le (pos n) (pos 1000)) ≡ b
        → passes is_array_length (only_where b >>= (λ u. Some (unsigned_abs (pos n))))
        ≡ true) [
          | true ↦ λ e. e
          | false ↦ λ e. refl
        ] refl
    by (Some (negsuc n)) = refl

-- the length of an array, if there is one
pub length-formed : (value : Data) → passes is_array_length (length_at value) ≡ true
length-formed value = passes-length (part (codes "length") value)

variable-formed : (path : List ℕ) (value : Data)
    → variable_faults int_faults path value ≡ [] → is_well_formed_variable (variable_of value) ≡ true
variable-formed path value none =
    let typed = append-is_nil_left _ _ (object-is (variable_keys int_faults) path value none) in
    and_from _ _ (name-is _ _ (codes "name") value (append-is_nil_right _ _ typed)) (length-formed value)

constant-formed : (path : List ℕ) (value : Data) → constant_faults path value ≡ [] → is_name (name_at (codes "name") value) ≡ true
constant-formed path value none =
    let keys = object-is (typed_keys int_faults) path value none in
    name-is _ _ (codes "name") value (append-is_nil_right _ _ keys)

pub file-formed : (path : List ℕ) (value : Data) → file_faults path value ≡ [] → is_filled (filled value) ≡ true
file-formed path value none = filled-is _ path value none

unit-formed : (path : List ℕ) (value : Data) → unit_faults path value ≡ [] → is_well_formed_unit (unit_of value) ≡ true
unit-formed path value none =
    let keys = object-is unit_keys path value none in
    let names = append-is_nil_left _ _ keys in
    and_from _ _ (name-is _ _ (codes "name") value (append-is_nil_left _ _ names))
    (and_from _ _ (name-is _ _ (codes "unit") value (append-is_nil_right _ _ names)) (period-is _ _ value (append-is_nil_right _ _ keys)))

message_type-formed : (path : List ℕ) (value : Data)
    → row_faults plain.variable path value ≡ [] → is_well_formed_message (message_of value) ≡ true
message_type-formed path value none =
    let keys = object-is (row_keys plain.variable) path value none in
    and_from _ _ (name-is _ _ (codes "name") value (append-is_nil_left _ _ keys))
    (list_at-is plain.variable variable_of is_well_formed_variable variable-formed (codes "variables") path value (append-is_nil_right _ _ keys))

sort-formed : (path : List ℕ) (value : Data) → sort_faults path value ≡ [] → is_well_formed_sort (sort_of value) ≡ true
sort-formed path value none =
    let keys = object-is sort_keys path value none in
    name-is _ _ (codes "key") value (append-is_nil_left _ _ keys)

filter-formed : (path : List ℕ) (value : Data) → condition_faults true path value ≡ [] → is_well_formed_filter (condition_of value) ≡ true
filter-formed path value none = condition-formed (suc (depth value)) true path value (omega arith) none

whole-formed : (path : List ℕ) (value : Data) → condition_faults false path value ≡ [] → is_well_formed_condition (condition_of value) ≡ true
whole-formed path value none = condition-formed (suc (depth value)) false path value (omega arith) none

input-formed : (path : List ℕ) (value : Data) → input_faults path value ≡ [] → is_well_formed_input (input_of value) ≡ true
input-formed path value none =
    let keys = object-is input_keys path value none in
    let front = append-is_nil_left _ _ keys in
    and_from _ _ (name-is _ _ (codes "messageName") value (append-is_nil_left _ _ (append-is_nil_left _ _ front)))
    (and_from _ _
    (there-is (condition_faults true) condition_of is_well_formed_filter filter-formed (codes "filter") path value (append-is_nil_right _ _ front))
    (there-is sort_faults sort_of is_well_formed_sort sort-formed (codes "sort") path value (append-is_nil_right _ _ keys)))

output-formed : (path : List ℕ) (value : Data) → output_faults path value ≡ [] → is_name (name_at (codes "messageName") value) ≡ true
output-formed path value none =
    let keys = object-is output_keys path value none in
    name-is _ _ (codes "messageName") value keys

pub function-formed : (path : List ℕ) (value : Data) → function_faults path value ≡ [] → is_well_formed_function (function_of value) ≡ true
function-formed path value none =
    let keys = object-is function_keys path value none in
    let to_inputs = append-is_nil_left _ _ keys in
    let to_condition = append-is_nil_left _ _ to_inputs in
    let to_next = append-is_nil_left _ _ to_condition in
    let to_current = append-is_nil_left _ _ to_next in
    and_from _ _ (name-is _ _ (codes "name") value (append-is_nil_left _ _ to_current))
    (and_from _ _ (filled-is _ _ (part (codes "currentState") value) (append-is_nil_right _ _ to_current))
    (and_from _ _ (filled-is _ _ (part (codes "nextState") value) (append-is_nil_right _ _ to_next))
    (and_from _ _
    (there-is (condition_faults false) condition_of is_well_formed_condition whole-formed (codes "condition") path value (append-is_nil_right _ _ to_condition))
    (and_from _ _
    (list_at-is input_faults input_of is_well_formed_input input-formed (codes "inputs") path value (append-is_nil_right _ _ to_inputs))
    (list_at-is output_faults (name_at (codes "messageName")) is_name output-formed (codes "outputs") path value (append-is_nil_right _ _ keys))))))

agent_type-formed : (path : List ℕ) (value : Data)
    → agent_faults plain.variable path value ≡ [] → is_well_formed_agent (agent_of value) ≡ true
agent_type-formed path value none =
    let keys = object-is (agent_keys plain.variable) path value none in
    let front = append-is_nil_left _ _ keys in
    and_from _ _ (name-is _ _ (codes "name") value (append-is_nil_left _ _ front))
    (and_from _ _
    (list_at-is plain.variable variable_of is_well_formed_variable variable-formed (codes "memory") path value (append-is_nil_right _ _ front))
    (list_at-is function_faults function_of is_well_formed_function function-formed (codes "functions") path value (append-is_nil_right _ _ keys)))

-- what an environment stands for
pub record IsFormed (value : Data) : Type 0 where
  pub constants : list_all is_name (list_at (name_at (codes "name")) (codes "constants") value) ≡ true
  pub files : list_all is_filled (list_at filled (codes "functionFiles") value) ≡ true
  pub units : list_all is_well_formed_unit (list_at unit_of (codes "timeUnits") value) ≡ true

environment-formed : (types : List ℕ → Data → List Shape) (path : List ℕ) (value : Data)
    → environment_faults types path value ≡ [] → IsFormed value
environment-formed types path value none =
    let to_units = append-is_nil_left _ _ (object-is (environment_keys types) path value none) in
    let to_files = append-is_nil_left _ _ to_units in
    record {
      constants = list_at-is constant_faults (name_at (codes "name")) is_name constant-formed (codes "constants") path value (append-is_nil_left _ _ to_files);
      files = list_at-is file_faults filled is_filled file-formed (codes "functionFiles") path value (append-is_nil_right _ _ to_files);
      units = list_at-is unit_faults unit_of is_well_formed_unit unit-formed (codes "timeUnits") path value (append-is_nil_right _ _ to_units);
    }

nothing-formed : IsFormed null
nothing-formed = record { constants = refl; files = refl; units = refl }

pub environment_at-formed : (types : List ℕ → Data → List Shape) (path : List ℕ) (value : Data)
    → optional (environment_faults types) (codes "environment") path value ≡ []
    → IsFormed (part (codes "environment") value)
environment_at-formed types path value none = by (has (codes "environment") value) refl
  where
    by : (b : Bool) → has (codes "environment") value ≡ b → IsFormed (part (codes "environment") value)
    by true e = environment-formed types _ (part (codes "environment") value) (optional-is (environment_faults types) (codes "environment") path value none e)
    by false e = subst IsFormed (sym (is_null (part (codes "environment") value) e)) nothing-formed

-- a value without shape faults stands for a model that is well formed
pub model-formed : (value : Data) → shape_faults value ≡ [] → is_well_formed (model_of value) ≡ true
model-formed value none =
    let whole = part (codes "xmodel") value in
    let path = at_key root (codes "xmodel") in
    let keys = object-is (xmodel_keys plain) path whole (object-is (required (xmodel_faults plain) (codes "xmodel")) root value none) in
    let to_agents = append-is_nil_left _ _ keys in
    let to_messages = append-is_nil_left _ _ to_agents in
    let environment = environment_at-formed plain.types path whole (append-is_nil_left _ _ to_messages) in
    and_from _ _ environment.constants
    (and_from _ _ environment.files
    (and_from _ _ environment.units
    (and_from _ _
    (list_at-is (row_faults plain.variable) message_of is_well_formed_message message_type-formed (codes "messages") path whole (append-is_nil_right _ _ to_messages))
    (list_at-is (agent_faults plain.variable) agent_of is_well_formed_agent agent_type-formed (codes "agents") path whole (append-is_nil_right _ _ to_agents)))))
