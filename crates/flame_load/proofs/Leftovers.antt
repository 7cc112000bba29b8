-- What is left of a reading, once its first inputs were read, and failures in its parts.
use Rattle.std.proofs.Common.{◌≡◌, inl, inr, ℕ, List, Result, Ok, Err, refl, sym, ap, ◌∙◌, subst, arith}
use Rattle.std.specs.Prelude.{Contains}
use Rattle.std.specs.Result.{IsErrAnd}
use Rattle.std.proofs.lemmas.List.Elements.{Contains-append_left, Contains-append_right, Contains-append_cases}
use Rattle.flame_load.specs.declared.faults.LoadFail.{LoadFail}
use Rattle.flame_load.specs.declared.faults.LoadFail.TheVariants.{RefusedModel, Refused, ReadFault, NoMemory}
use Rattle.flame_load.specs.InputReads.{Reading, known, inputs_behind, answer_behind, ◌>>=◌}
use Rattle.flame_load.specs.LoadRefusals.{Refusal}
use Rattle.flame_load.specs.LoadAnswers.{Stops, Gives}
use Rattle.flame_load.specs.RestsOfReadings.{IsRestOf}

-- ---- what is left

-- all is left of all
pub rest_same : {R X : Type 0} (whole : Reading R X) → IsRestOf whole whole
rest_same whole = record { inputs = λ name there. there; answer = refl }

-- what is left of what is left is left of all
pub rest_join : {R X : Type 0} (whole mid rest : Reading R X) → IsRestOf whole mid → IsRestOf mid rest → IsRestOf whole rest
rest_join whole mid rest first last = record {
  inputs = λ name there. first.inputs name (last.inputs name there);
  answer = first.answer ∙ last.answer;
}

-- behind first inputs that give x, what comes behind x is left
pub rest_behind :
    {R X Y : Type 0} (reading : Reading R X) (next : X → Reading R Y) (x : X)
    → reading.answer ≡ Ok x
    → IsRestOf (reading >>= next) (next x)
unfolding ◌>>=◌
rest_behind reading next x given = record {
  inputs = λ name there.
      Contains-append_right reading.inputs (inputs_behind reading.answer next) name
      (subst (λ answer. Contains (inputs_behind answer next) name) (sym given) there);
  answer = ap (λ answer. answer_behind answer next) given;
}

-- what is left of the first inputs is left of them with what comes behind them
pub rest_inside :
    {R X Y : Type 0} (whole rest : Reading R X) (next : X → Reading R Y)
    → IsRestOf whole rest
    → IsRestOf (whole >>= next) (rest >>= next)
unfolding ◌>>=◌
rest_inside whole rest next left = record {
  inputs = λ name there. elim (Contains-append_cases rest.inputs (inputs_behind rest.answer next) name there) [
    | inl first ↦ Contains-append_left whole.inputs (inputs_behind whole.answer next) name (left.inputs name first)
    | inr behind ↦ Contains-append_right whole.inputs (inputs_behind whole.answer next) name
        (subst (λ answer. Contains (inputs_behind answer next) name) (sym left.answer) behind)
  ];
  answer = ap (λ answer. answer_behind answer next) left.answer;
}

-- nothing is read where what comes behind is known
none_behind : {R X Y : Type 0} (answer : Result X R) (f : X → Y) (name : List ℕ) → Contains (inputs_behind answer (λ x. known (f x))) name → ⊥
none_behind (Ok x) f name there = omega (arith, there.1)
none_behind (Err refusal) f name there = omega (arith, there.1)

inputs_known :
    {R X Y : Type 0} (reading : Reading R X) (f : X → Y) (name : List ℕ)
    → Contains (reading >>= (λ x. known (f x))).inputs name
    → Contains reading.inputs name
unfolding ◌>>=◌
inputs_known reading f name there =
    elim (Contains-append_cases reading.inputs (inputs_behind reading.answer (λ x. known (f x))) name there) [
      | inl first ↦ first
      | inr behind ↦ absurd (none_behind reading.answer f name behind)
    ]

-- what is known of all that is given, where it is the same, is left of it
pub rest_known :
    {R X : Type 0} (reading : Reading R X) (f : X → X)
    → ((x : X) → f x ≡ x)
    → IsRestOf reading (reading >>= (λ x. known (f x)))
unfolding ◌>>=◌
rest_known {R = R} {X = X} reading f same = record { inputs = λ name there. inputs_known reading f name there; answer = go reading.answer }
  where
    go : (answer : Result X R) → answer ≡ answer_behind answer (λ x. known (f x))
    go (Ok x) = ap Ok (sym (same x))
    go (Err refusal) = refl

-- what is known in two steps is known in one
pub rest_once :
    {R X Y Z : Type 0} (reading : Reading R X) (f : X → Y) (g : Y → Z) (h : X → Z)
    → ((x : X) → g (f x) ≡ h x)
    → IsRestOf ((reading >>= (λ x. known (f x))) >>= (λ y. known (g y))) (reading >>= (λ x. known (h x)))
unfolding ◌>>=◌
rest_once {R = R} {X = X} reading f g h same = record {
  inputs = λ name there.
      Contains-append_left (reading >>= (λ x. known (f x))).inputs _ name
      (Contains-append_left reading.inputs _ name (inputs_known reading h name there));
  answer = go reading.answer;
}
  where
    go : (answer : Result X R) → answer_behind (answer_behind answer (λ x. known (f x))) (λ y. known (g y)) ≡ answer_behind answer (λ x. known (h x))
    go (Ok x) = ap Ok (same x)
    go (Err refusal) = refl

-- ---- failures

-- a failure in the first inputs is one of the whole
pub stops_first :
    {X Y : Type 0} (fail : LoadFail) (reading : Reading Refusal X) (next : X → Reading Refusal Y)
    → Stops fail reading
    → Stops fail (reading >>= next)
unfolding ◌>>=◌
stops_first (RefusedModel fault model) reading next stops = ap (λ answer. answer_behind answer next) stops
stops_first (Refused fault) reading next stops = ap (λ answer. answer_behind answer next) stops
stops_first (ReadFault name) reading next stops =
    Contains-append_left reading.inputs (inputs_behind reading.answer next) name stops
stops_first NoMemory reading next stops = tt

-- a failure in what is left is one of the whole
pub stops_rest :
    {X : Type 0} (fail : LoadFail) (whole rest : Reading Refusal X) → IsRestOf whole rest → Stops fail rest → Stops fail whole
stops_rest (RefusedModel fault model) whole rest left stops = left.answer ∙ stops
stops_rest (Refused fault) whole rest left stops = left.answer ∙ stops
stops_rest (ReadFault name) whole rest left stops = left.inputs name stops
stops_rest NoMemory whole rest left stops = tt

-- a failure of the first inputs that is passed on
pub passes_first :
    {X Y Z : Type 0} (view : Z → Y) (fail : LoadFail) (result : Result Z LoadFail) (reading : Reading Refusal X) (next : X → Reading Refusal Y)
    → IsErrAnd result (λ passed. passed ≡ fail)
    → Stops fail reading
    → Gives view result (reading >>= next)
passes_first view fail (Ok z) reading next passed stops = absurd passed
passes_first view fail (Err passed) reading next same stops =
    subst (λ other. Stops other (reading >>= next)) (sym same) (stops_first fail reading next stops)

-- ---- answers

-- what the rest gives is given by the whole
pub gives_rest :
    {X Y : Type 0} (view : X → Y) (result : Result X LoadFail) (whole rest : Reading Refusal Y)
    → IsRestOf whole rest
    → Gives view result rest
    → Gives view result whole
gives_rest view (Ok x) whole rest left given = left.answer ∙ given
gives_rest view (Err fail) whole rest left given = stops_rest fail whole rest left given

-- what is given behind x, which the first inputs give, is given by the whole
pub gives_behind :
    {X Y Z : Type 0} (view : Z → Y) (result : Result Z LoadFail) (reading : Reading Refusal X) (next : X → Reading Refusal Y) (x : X)
    → reading.answer ≡ Ok x
    → Gives view result (next x)
    → Gives view result (reading >>= next)
gives_behind view result reading next x given behind =
    gives_rest view result (reading >>= next) (next x) (rest_behind reading next x given) behind

-- where the whole gives y, the first inputs give an x, behind which y is given
pub given_by_both :
    {R X Y : Type 0} (reading : Reading R X) (next : X → Reading R Y) (y : Y)
    → (reading >>= next).answer ≡ Ok y
    → (x : X) × (reading.answer ≡ Ok x) × ((next x).answer ≡ Ok y)
unfolding ◌>>=◌
given_by_both {R = R} {X = X} reading next y = go reading.answer refl
  where
    go :
        (answer : Result X R)
        → reading.answer ≡ answer
        → answer_behind answer next ≡ Ok y
        → (x : X) × (reading.answer ≡ Ok x) × ((next x).answer ≡ Ok y)
    go (Ok x) is given = (x, is, given)
    go (Err refusal) is given = absurd (cc)
