-- A condition opened by one layer.
use Rattle.std.proofs.Common.{◌≡◌, ℕ, max, ◌<◌, ◌≤◌, List, Bool, true, false, Option, Some, None, cond, refl}
use Rattle.std.proofs.Common.{ap, ◌∙◌, codes, arith}
use Rattle.std.specs.Prelude.{unwrap_or}
use Rattle.std.specs.Ordering.{nat_cmp, match_ordering}
use Rattle.std.specs.Cmp.Lexicographic.{slice_cmp}
use Rattle.std.specs.declared.cmp.Ordering.TheVariants.{Less, Equal, Greater}
use Rattle.serde_json.specs.Data.{Data, null, boolean, number, string, array, object, Members, no_members, member}
use Rattle.serde_json.specs.Data.{depth, members_depth}
use Rattle.serde_json.specs.Find.{get_member}
use Rattle.flame_spec.specs.declared.conditions.Condition.{Not as negation}
use Rattle.flame_xmml.specs.declared.faults.Want.TheVariants.{Condition as ConditionWant}
use Rattle.flame_xmml.specs.ValueParts.{part, has, is_object, object_of, wanted, required}
use Rattle.flame_xmml.specs.ConditionShapes.{by_keys, at_keys, condition_keys, condition_faults, condition_parts}
use Rattle.flame_xmml.specs.ConditionShapes.{no_condition, condition_of, time_faults, time_of, operation_faults}
use Rattle.flame_xmml.specs.ConditionShapes.{operation_of}

-- what a key gives is what the value there gives
at_keys-part :
    {X : Type 0} (step : Data → (List ℕ → X) → X) (none : X)
    → none ≡ step null (λ key. none)
    → (entries : Members) (key : List ℕ)
    → at_keys step none entries key ≡ by_keys step none (unwrap_or (get_member key entries) null)
at_keys-part step none empty no_members key = empty
at_keys-part {X = X} step none empty (member name value entries) key =
    let more = at_keys-part step none empty entries key in
    let rest : Option Data = get_member key entries in
    let elsewhere : X = at_keys step none entries key in
    elim (slice_cmp nat_cmp key name) as (λ o.
    match_ordering o elsewhere (by_keys step none value) elsewhere
    ≡ by_keys step none (unwrap_or (match_ordering o rest (Some value) rest) null))
    [ Less ↦ more | Equal ↦ refl | Greater ↦ more ]

-- a value gives what the step says of the values at its keys
by_keys-part :
    {X : Type 0} (step : Data → (List ℕ → X) → X) (none : X)
    → none ≡ step null (λ key. none)
    → (value : Data) → by_keys step none value ≡ step value (λ key. by_keys step none (part key value))
by_keys-part step none empty null = ap (λ x. step null (λ key. x)) empty
by_keys-part step none empty (boolean b) = ap (λ x. step (boolean b) (λ key. x)) empty
by_keys-part step none empty (number n) = ap (λ x. step (number n) (λ key. x)) empty
by_keys-part step none empty (string s) = ap (λ x. step (string s) (λ key. x)) empty
by_keys-part step none empty (array ds) = ap (λ x. step (array ds) (λ key. x)) empty
by_keys-part step none empty (object entries) =
    ap (step (object entries)) (λ i key. at_keys-part step none empty entries key i)

pub condition_faults-open :
    (in_filter : Bool) (path : List ℕ) (value : Data)
    → condition_faults in_filter path value
    ≡ condition_keys in_filter value (λ key inner. condition_faults in_filter inner (part key value)) path
condition_faults-open in_filter path value =
    ap (λ faults. faults path) (by_keys-part (condition_keys in_filter) (wanted ConditionWant) refl value)

pub condition_of-open :
    (value : Data) → condition_of value ≡ condition_parts value (λ key. condition_of (part key value))
condition_of-open value = by_keys-part condition_parts no_condition refl value

part_depth :
    (entries : Members) (key : List ℕ) → depth (unwrap_or (get_member key entries) null) ≤ members_depth entries
part_depth no_members key = omega arith
part_depth (member name value entries) key =
    let more = part_depth entries key in
    let rest : Option Data = get_member key entries in
    elim (slice_cmp nat_cmp key name) as (λ o.
    depth (unwrap_or (match_ordering o rest (Some value) rest) null) ≤ max (depth value) (members_depth entries))
    [ Less ↦ omega arith | Equal ↦ omega arith | Greater ↦ omega arith ]

-- what stands in an object is less deep
pub part-depth : (key : List ℕ) (value : Data) → is_object value ≡ true → depth (part key value) < depth value
part-depth key null other = cc
part-depth key (boolean b) other = cc
part-depth key (number n) other = cc
part-depth key (string s) other = cc
part-depth key (array ds) other = cc
part-depth key (object entries) is = omega (arith, part_depth entries key)

-- ---- where the value is an object

pub found-whole : (found whole : Data) → Some found ≡ object_of whole → (is_object whole ≡ true) × (found ≡ whole)
found-whole found whole is =
    elim (is_object whole) as (λ b. (Some found ≡ cond b (Some whole) None) → (b ≡ true) × (found ≡ whole))
    [ true ↦ λ same. (refl, cc) | false ↦ λ same. cc ] is

pub negated :
    (in_filter : Bool) (path : List ℕ) (found whole : Data)
    → Some found ≡ object_of whole
    → has (codes "not") found ≡ true
    → (condition_faults in_filter path whole ≡ required (condition_faults in_filter) (codes "not") path found)
    × (condition_of whole ≡ negation (condition_of (part (codes "not") found)))
negated in_filter path found whole is there =
    let opened = found-whole found whole is in
    let here : found ≡ whole = opened.1 in
    let object : is_object whole ≡ true = opened.0 in
    let there' : has (codes "not") whole ≡ true = rw here at there in (
      condition_faults-open in_filter path whole ∙ rw (object, there', here) refl,
      condition_of-open whole ∙ rw (there', here) refl,
    )

pub timed :
    (in_filter : Bool) (path : List ℕ) (found whole : Data)
    → Some found ≡ object_of whole
    → has (codes "not") found ≡ false
    → has (codes "time") found ≡ true
    → (condition_faults in_filter path whole ≡ required (time_faults in_filter) (codes "time") path found)
    × (condition_of whole ≡ time_of (part (codes "time") found))
timed in_filter path found whole is no_not there =
    let opened = found-whole found whole is in
    let here : found ≡ whole = opened.1 in
    let object : is_object whole ≡ true = opened.0 in
    let no_not' : has (codes "not") whole ≡ false = rw here at no_not in
    let there' : has (codes "time") whole ≡ true = rw here at there in (
      condition_faults-open in_filter path whole ∙ rw (object, no_not', there', here) refl,
      condition_of-open whole ∙ rw (no_not', there', here) refl,
    )

pub operated :
    (in_filter : Bool) (path : List ℕ) (found whole : Data)
    → Some found ≡ object_of whole
    → has (codes "not") found ≡ false
    → has (codes "time") found ≡ false
    → (condition_faults in_filter path whole ≡ operation_faults in_filter path found)
    × (condition_of whole ≡ operation_of found)
operated in_filter path found whole is no_not no_time =
    let opened = found-whole found whole is in
    let here : found ≡ whole = opened.1 in
    let object : is_object whole ≡ true = opened.0 in
    let no_not' : has (codes "not") whole ≡ false = rw here at no_not in
    let no_time' : has (codes "time") whole ≡ false = rw here at no_time in (
      condition_faults-open in_filter path whole ∙ rw (object, no_not', no_time', here) refl,
      condition_of-open whole ∙ rw (no_not', no_time', here) refl,
    )
