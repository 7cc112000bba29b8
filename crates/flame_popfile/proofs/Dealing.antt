-- Agents that are dealt out to their types.
use Rattle.std.proofs.Common.{◌≡◌, ℕ, suc, ◌+◌, ◌<◌, List, [], ◌∷◌, ◌++◌, length, get_or, map, refl, ap, ap₂, sym, ◌∙◌, subst, arith, add-zero}
use Rattle.std.proofs.Common.{Bool, true, false, cond, Option, Some, None, append-nil}
use Rattle.std.specs.Prelude.{ℤ, ◌==◌, slice_get, slice_set, slice_index_or, option_and_then, replicate, Vec, if◌then◌else◌}
use Rattle.std.specs.Global.{Global}
use Rattle.std.specs.Option.{option_map_or}
use Rattle.std.proofs.lemmas.Bool.{eqb-true, eqb-false}
use Rattle.std.proofs.lemmas.List.{flat_map_more, length-replicate, get_or-replicate, length-map, length-set}
use Rattle.std.proofs.lemmas.Option.{slice_get_within}
use Rattle.serde_json.specs.Data.{Data}
use Rattle.flame_rows.specs.Bags.{ascending}
use Rattle.flame_rows.proofs.Lists.{slice_index_or-map, slice_index_or-map_slice_set, slice_index_or-map_slice_set_other}
use Rattle.flame_spec.specs.declared.models.AgentType.{AgentType}
use Rattle.flame_spec.specs.Lists.{each_from}
use Rattle.flame_spec.proofs.Numbered.{numbered_from-stands}
use Rattle.flame_popfile.specs.declared.formats.Format.{Format}
use Rattle.flame_popfile.specs.PopulationFaults.{type_named, type_in, agent_parts, member_name_faults, content_faults}
use Rattle.flame_popfile.specs.PopulationParts.{name_in}
use Rattle.flame_popfile.specs.PopulationAgents.{agents_in, is_of_type, agents_of_type, agents_of}
use Rattle.flame_popfile.specs.DealtAgents.{AreDealt, AreAdded}

-- lists that are known number by number
numbered_lists :
    {X Y Z : Type 0} (g : Y → Z) (f : ℕ → X → Y) (none : Y) (i : ℕ) (xs : List X) (ys : List Y)
    → length ys ≡ length xs
    → ((n : ℕ) (x : X) → slice_get xs n ≡ Some x → get_or ys n none ≡ f (i + n) x)
    → map g ys ≡ each_from (λ n x. g (f n x) ∷ []) i xs
numbered_lists g f none i [] [] same at = refl
numbered_lists g f none i [] (y ∷ ys) same at = absurd (omega (arith, same))
numbered_lists g f none i (x ∷ xs) [] same at = absurd (omega (arith, same))
numbered_lists g f none i (x ∷ xs) (y ∷ ys) same at =
    let fewer : length ys ≡ length xs = omega (arith, same) in
    let head : y ≡ f i x = at 0 x refl ∙ ap (λ n. f n x) (add-zero i) in
    let tail =
    numbered_lists g f none (i + 1) xs ys fewer
    (λ n z there.
    let next : i + suc n ≡ i + 1 + n = omega arith in
    at (suc n) z there ∙ ap (λ m. f m z) next) in
    ap₂ (λ z zs. g z ∷ zs) head tail

-- the bags of what was dealt out are the agents of each type
pub bags_dealt :
    (format : Format) (types : List AgentType) (values : List Data) (dealt : List (List (List ℤ)))
    → AreDealt format types values dealt
    → map ascending dealt ≡ agents_of format types values
bags_dealt format types values dealt are =
    numbered_lists ascending (λ n (type : AgentType). agents_of_type format types values n type.memory) [] 0 types dealt
    are.count
    (λ n type there.
    let plain : n ≡ 0 + n = omega arith in
    are.agents n type there ∙ ap (λ m. agents_of_type format types values m type.memory) plain)

-- before any member nobody is dealt out
pub nobody_dealt :
    (format : Format) (types : List AgentType) → AreDealt format types [] (replicate (length types) [])
nobody_dealt format types = record {
  count = length-replicate (length types) [];
  agents = λ number type there. get_or-replicate (length types) number [] [] (slice_get_within types number type there);
}

-- one member more
pub dealt_more :
    (format : Format) (types : List AgentType) (values : List Data) (value : Data)
    (before after : List (List (List ℤ)))
    → AreDealt format types values before
    → AreAdded format types value before after
    → AreDealt format types (values ++ value ∷ []) after
dealt_more format types values value before after dealt added = record {
  count = added.count ∙ dealt.count;
  agents = λ number type there.
      let here : Data → List (List ℤ) =
      λ one. if is_of_type types number one then agents_in format type.memory one else [] in
      added.agents number type there
      ∙ ap (λ rows. rows ++ here value) (dealt.agents number type there)
      ∙ flat_map_more here [] values value;
}

-- ---- the type that a member names

-- the type that is found has its number
pub type_stands :
    (types : List AgentType) (value : Data) (number : ℕ) (type : AgentType)
    → type_in types value ≡ Some (number, type)
    → slice_get types number ≡ Some type
type_stands types value number type found = named (name_in value) found
  where
    named :
        (name : Option (List ℕ))
        → option_and_then (type_named types) name ≡ Some (number, type)
        → slice_get types number ≡ Some type
    named None e = cc
    named (Some name) e =
        let at = numbered_from-stands _ 0 types (number, type) e in
        let same : number ≡ at.0 = omega (arith, at.1) in
        ap (slice_get types) same ∙ at.2

pub type_within :
    (types : List AgentType) (value : Data) (found : ℕ × AgentType)
    → type_in types value ≡ Some found
    → found.0 < length types
type_within types value found is = slice_get_within types found.0 found.1 (type_stands types value found.0 found.1 is)

-- what stands in a member whose type is found
pub parts_found :
    (format : Format) (types : List AgentType) (earlier : List (List ℕ)) (path : List ℕ) (value : Data)
    (found : ℕ × AgentType)
    → type_in types value ≡ Some found
    → agent_parts format types earlier path value
    ≡ member_name_faults types earlier path value ++ content_faults format found.1 path value
parts_found format types earlier path value found is =
    ap
    (λ (o : Option (ℕ × AgentType)). member_name_faults types earlier path value
    ++ option_map_or (λ (one : ℕ × AgentType). content_faults format one.1 path value) o [])
    is

-- ---- a member's agents were added to those of its type

-- the rows in a vector
abbrev items_of : Vec (List ℤ) Global → List (List ℤ)
items_of rows = rows.items

pub added_at :
    (format : Format) (types : List AgentType) (value : Data) (dealt : List (Vec (List ℤ) Global)) (place : ℕ)
    (type : AgentType) (old new : Vec (List ℤ) Global)
    → length dealt ≡ length types
    → type_in types value ≡ Some (place, type)
    → old ≡ get_or dealt place old
    → new.items ≡ old.items ++ agents_in format type.memory value
    → AreAdded format types value (map (λ (rows : Vec (List ℤ) Global). rows.items) dealt)
    (map (λ (rows : Vec (List ℤ) Global). rows.items) (slice_set dealt place new))
added_at format types value dealt place type old new same_count found was becomes = record {
  count =
      length-map (slice_set dealt place new) items_of ∙ length-set dealt place new ∙ sym (length-map dealt items_of);
  agents = λ number other there.
      at_number number other there (place == number) refl
      ∙ sym
      (ap
      (λ (o : Option (ℕ × AgentType)). slice_index_or (map items_of dealt) number []
      ++ (if option_map_or (λ (one : ℕ × AgentType). one.0 == number) o false
      then agents_in format other.memory value else []))
      found);
}
  where
    here : slice_get types place ≡ Some type
    here = type_stands types value place type found

    within : place < length dealt
    within = omega (arith, slice_get_within types place type here, same_count)

    at_place :
        (other : AgentType) → type ≡ other
        → slice_index_or (map items_of (slice_set dealt place new)) place []
        ≡ slice_index_or (map items_of dealt) place [] ++ agents_in format other.memory value
    at_place other same =
        slice_index_or-map_slice_set items_of [] dealt place new within
        ∙ becomes
        ∙ ap₂ (λ l (t : AgentType). l ++ agents_in format t.memory value) (sym (slice_index_or-map items_of [] dealt place old within was)) same

    at_number :
        (number : ℕ) (other : AgentType) → slice_get types number ≡ Some other
        → (b : Bool) → (place == number) ≡ b
        → slice_index_or (map items_of (slice_set dealt place new)) number []
        ≡ slice_index_or (map items_of dealt) number [] ++ cond b (agents_in format other.memory value) []
    at_number number other there true e =
        let same : place ≡ number = eqb-true place number e in
        let type_same : type ≡ other = cc (here, there, ap (slice_get types) same) in
        subst
        (λ n. slice_index_or (map items_of (slice_set dealt place new)) n []
        ≡ slice_index_or (map items_of dealt) n [] ++ agents_in format other.memory value)
        same (at_place other type_same)
    at_number number other there false e =
        slice_index_or-map_slice_set_other items_of [] dealt place number new (eqb-false place number e)
        ∙ sym (append-nil (slice_index_or (map items_of dealt) number []))
