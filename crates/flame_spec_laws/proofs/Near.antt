-- Columns of arrays where no width is a fault.
use Rattle.std.proofs.Common.{◌≡◌, ℕ, suc, ◌+◌, ◌≤◌, Bool, true, false, List, [], ◌∷◌, ◌++◌, take, length}
use Rattle.std.proofs.Common.{codes, Option, Some, None, cond, refl, ap, sym, ◌∙◌, subst, arith}
use Rattle.std.specs.Prelude.{nat_lt, ◌&&◌, slice_get, is_some}
use Rattle.std.specs.Str.{bytes_eq}
use Rattle.std.proofs.lemmas.Bool.{ltb-false}
use Rattle.flame_rows.proofs.Lists.{append-is_nil_right}
use Rattle.flame_spec.specs.declared.faults.NameKind.TheVariants.{TooWide}
use Rattle.flame_spec.specs.declared.models.Model.{Model}
use Rattle.flame_spec.specs.declared.models.Variable.{Variable}
use Rattle.flame_spec.specs.declared.models.MessageType.{MessageType}
use Rattle.flame_spec.specs.declared.models.AgentType.{AgentType}
use Rattle.flame_spec.specs.Columns.{width_by, width_of, width, is_array, columned_from}
use Rattle.flame_spec.specs.KnownNames.{message_names}
use Rattle.flame_spec.specs.Paths.{at_key, at_number}
use Rattle.flame_spec.specs.MessageFaults.{is_too_wide, width_faults, apart_faults}
use Rattle.flame_spec.specs.NameFaults.{name_faults}
use Rattle.flame_spec.proofs.FaultTests.{name_fault_where-none}
use Rattle.flame_spec_laws.specs.ArrayWidths.{AreNear}
use Rattle.flame_spec_laws.proofs.NameKnowledge.{each_none}
use Rattle.flame_spec_laws.proofs.UsedKnown.{xmodel, parts_none}
use Rattle.flame_spec_laws.proofs.Members.{memory_path, memory_none}

-- each array ends in time, behind columns before all of them
abbrev Ends : ℕ → List Variable → Type 0
Ends before variables =
    (k : ℕ) (variable : Variable)
    → slice_get variables k ≡ Some variable
    → is_array variable ≡ true
    → (before + width (take k variables)) + width_of variable ≤ 4096

lone : (o : Option ℕ) → is_some o ≡ false → width_by o ≡ 1
lone None is = refl
lone (Some length) is = cc

in_time : (earlier : List Variable) (variable : Variable) (path : List ℕ)
    → width_faults earlier path variable ≡ []
    → is_array variable ≡ true
    → width earlier + width_of variable ≤ 4096
in_time earlier variable path none is =
    let test : is_too_wide earlier variable ≡ false = name_fault_where-none _ TooWide _ _ none in
    let small : nat_lt 4096 (width earlier + width_of variable) ≡ false
    = sym (ap (λ b. b && nat_lt 4096 (width earlier + width_of variable)) is) ∙ test in
    ltb-false _ _ small

-- the next variable ends in time, or takes one column
one_more : (before n : ℕ) (variable : Variable) (b : Bool)
    → is_array variable ≡ b
    → (is_array variable ≡ true → (before + 0) + width_of variable ≤ 4096)
    → before ≤ n + 4095
    → before + width_of variable ≤ (n + 1) + 4095
one_more before n variable true is ends small = let end = ends is in omega arith
one_more before n variable false is ends small =
    let one : width_of variable ≡ 1 = lone variable.length is in
    omega arith

all_wide : (before n : ℕ) (variables : List Variable)
    → Ends before variables
    → before ≤ n + 4095
    → before + width variables ≤ (n + length variables) + 4095
all_wide before n [] ends small = omega arith
all_wide before n (variable ∷ variables) ends small =
    let next = one_more before n variable (is_array variable) refl (ends 0 variable refl) small in
    let rest = all_wide (before + width_of variable) (n + 1) variables
    (λ k other at is. let end = ends (suc k) other at is in omega arith) next in
    omega arith

-- what is found stands behind as many columns as are said
stands : (passes : Variable → Bool) (from : ℕ) (variables : List Variable) (found : ℕ × Variable)
    → columned_from passes from variables ≡ Some found
    → (k : ℕ) × ((slice_get variables k ≡ Some found.1) × (found.0 ≡ from + width (take k variables)))
stands passes from [] found is = cc
stands passes from (variable ∷ variables) found is =
    by_test (passes variable) is (stands passes (from + width_of variable) variables found)
  where
    by_test : (b : Bool)
        → cond b (Some (from, variable)) (columned_from passes (from + width_of variable) variables) ≡ Some found
        → (columned_from passes (from + width_of variable) variables ≡ Some found
        → (k : ℕ) × ((slice_get variables k ≡ Some found.1)
        × (found.0 ≡ (from + width_of variable) + width (take k variables))))
        → (k : ℕ) × ((slice_get (variable ∷ variables) k ≡ Some found.1)
        × (found.0 ≡ from + width (take k (variable ∷ variables))))
    by_test true here later =
        let same : (from, variable) ≡ found = cc in
        let column : from ≡ found.0 = ap (λ f. f.0) same in
        (0, (ap (λ f. Some f.1) same, omega arith))
    by_test false here later =
        let there = later here in
        let column : found.0 ≡ (from + width_of variable) + width (take there.0 variables) = there.1.1 in
        (suc there.0, (there.1.0, omega arith))

behind : (earlier : List Variable) (variable : Variable)
    → (slice_get (earlier ++ variable ∷ []) (length earlier) ≡ Some variable)
    × (width (earlier ++ variable ∷ []) ≡ width (take (length earlier) (earlier ++ variable ∷ [])) + width_of variable)
behind [] variable = (refl, omega arith)
behind (first ∷ earlier) variable =
    let (at, same) = behind earlier variable in
    (at, omega arith)

near :
    (variables : List Variable)
    → ((k : ℕ) (variable : Variable)
    → slice_get variables k ≡ Some variable
    → is_array variable ≡ true
    → width (take k variables) + width_of variable ≤ 4096)
    → AreNear variables
near variables each = record {
  arrays = each;
  columns = λ name found there is.
      let place = stands (λ variable. bytes_eq variable.name name) 0 variables found there in
      let column : found.0 ≡ 0 + width (take place.0 variables) = place.1.1 in
      let end = ends place.0 found.1 place.1.0 is in
      omega arith;
  last = λ earlier variable shape is.
      let (at, same) = behind earlier variable in
      let end = subst (λ vs. Ends 0 vs) shape ends (length earlier) variable at is in
      let all : width variables ≡ width (earlier ++ variable ∷ []) = ap width shape in
      omega arith;
  whole = let all = all_wide 0 0 variables ends (omega arith) in omega arith;
}
  where
    ends : Ends 0 variables
    ends k variable at is = let end = each k variable at is in omega arith

pub memory_near :
    (model : Model) (i : ℕ) (type : AgentType)
    → name_faults model ≡ []
    → slice_get model.agents i ≡ Some type
    → AreNear type.memory
memory_near model i type none at =
    near type.memory
    (λ k variable there is.
    in_time (take k type.memory) variable (at_number (memory_path i) k)
    (append-is_nil_right _ _ (each_none _ 0 type.memory k variable k (memory_none model i type none at) there (omega arith))) is)

-- where the variables of a message stand
abbrev variables_path : ℕ → List ℕ
variables_path i = at_key (at_number (at_key xmodel (codes "messages")) i) (codes "variables")

pub message_near :
    (model : Model) (i : ℕ) (message : MessageType)
    → name_faults model ≡ []
    → slice_get model.messages i ≡ Some message
    → AreNear message.variables
message_near model i message none at =
    let of_message = each_none _ 0 model.messages i message i (parts_none model none).messages at (omega arith) in
    let of_variables =
    append-is_nil_right (apart_faults (message_names (take i model.messages)) _ message.name) _ of_message in
    near message.variables
    (λ k variable there is.
    in_time (take k message.variables) variable (at_number (variables_path i) k)
    (append-is_nil_right _ _ (each_none _ 0 message.variables k variable k of_variables there (omega arith))) is)
