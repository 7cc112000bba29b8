-- Assignments by an operator.
use Rattle.std.proofs.Common.{◌≡◌, ℕ, List, sym, ap, ◌∙◌, Option, Some, None, option_map}
use Rattle.std.specs.Prelude.{ℤ, Result, Ok}
use Rattle.flame_ops.specs.declared.integers.Op.{Op}
use Rattle.flame_ops.specs.Integers.{applied}
use Rattle.flame_spec.specs.Conditions.{number_at}
use Rattle.flame_spec.specs.declared.faults.Fault.{Fault}
use Rattle.flame_spec.specs.Trees.{Indexed, Assigned}
use Rattle.flame_meaning.specs.Scenes.{Scene, Progress, named, array_named, element_column}
use Rattle.flame_meaning.specs.Expressions.{at_line, value_of}
use Rattle.flame_meaning.specs.Ends.{End, went_on, with_value}
use Rattle.flame_meaning.specs.Statements.{by_value, set_column, set_name, with_column, element_changed, name_changed}
use Rattle.flame_sense.specs.declared.scene.Scene as code
use Rattle.flame_sense.specs.declared.scene.Open.{Open}
use Rattle.flame_sense.specs.declared.scene.Open.TheVariants.{Nothing}
use Rattle.flame_sense.specs.StandsFor.{within_reach, scene_seen}
use Rattle.flame_sense.proofs.Givens.{named_anywhere}

-- what follows the value of an operator and an element
abbrev pub changing : Op → Assigned → Progress → ℕ → ℤ → Progress → End
changing op a s column v t =
    with_value (at_line a.op_line (applied op (number_at s.memory column) v)) (λ w. went_on (set_column column w t))

pub element_changes :
    (place : Indexed) (op : Op) (a : Assigned) (scene : Scene) (s : Progress) (i : ℤ) (near : ℕ) (end : End)
    → Ok i ≡ value_of place.index scene s
    → Some near ≡ option_map within_reach (element_column (array_named a.name scene s) i)
    → ((column : ℕ) → near ≡ within_reach column → by_value a.value scene s (changing op a s column) ≡ end)
    → element_changed place op a scene s ≡ end
element_changes place op a scene s i near end index there k =
    ap (λ r. with_value r (λ j.
    with_column place.line (element_column (array_named a.name scene s) j) (λ column.
    by_value a.value scene s (changing op a s column)))) (sym index)
    ∙ by_column (element_column (array_named a.name scene s) i) there
  where
    by_column :
        (o : Option ℕ)
        → Some near ≡ option_map within_reach o
        → with_column place.line o (λ column. by_value a.value scene s (changing op a s column)) ≡ end
    by_column None e = cc
    by_column (Some column) e = let same : near ≡ within_reach column = cc in k column same

-- an element, as the program changes it
pub element_changed_so :
    (place : Indexed) (op : Op) (a : Assigned) (scene : Scene) (s u : Progress) (i : ℤ) (near : ℕ) (r : Result ℤ Fault)
    (left right first second : ℤ) (end : End)
    → Ok i ≡ value_of place.index scene s
    → Some near ≡ option_map within_reach (element_column (array_named a.name scene s) i)
    → ((go : ℤ → Progress → End) → by_value a.value scene s go ≡ with_value r (λ v. go v u))
    → r ≡ Ok right
    → ((column : ℕ) → near ≡ within_reach column → left ≡ number_at s.memory column)
    → first ≡ left
    → second ≡ right
    → ((column : ℕ) → near ≡ within_reach column
    → with_value (at_line a.op_line (applied op first second)) (λ w. went_on (set_column column w u)) ≡ end)
    → element_changed place op a scene s ≡ end
element_changed_so place op a scene s u i near r left right first second end index there value is stands lefts rights stores =
    element_changes place op a scene s i near end index there (λ column close.
    value (changing op a s column)
    ∙ ap (λ x. with_value x (λ v. changing op a s column v u)) is
    ∙ ap (λ x. with_value (at_line a.op_line (applied op x right)) (λ w. went_on (set_column column w u)))
    (sym (lefts ∙ stands column close))
    ∙ ap (λ y. with_value (at_line a.op_line (applied op first y)) (λ w. went_on (set_column column w u))) (sym rights)
    ∙ stores column close)

-- a name, as the program changes it
pub name_changed_so :
    (op : Op) (a : Assigned) (scene : code.Scene) (open_loops : Open) (s u : Progress) (r : Result ℤ Fault) (shown : List ℕ)
    (left right first second : ℤ) (end : End)
    → ((go : ℤ → Progress → End) → by_value a.value (scene_seen scene open_loops) s go ≡ with_value r (λ v. go v u))
    → r ≡ Ok right
    → shown ≡ a.name
    → left ≡ named shown (scene_seen scene Nothing) s
    → first ≡ left
    → second ≡ right
    → with_value (at_line a.op_line (applied op first second)) (λ w. went_on (set_name shown w (scene_seen scene Nothing) u))
    ≡ end
    → name_changed op a (scene_seen scene open_loops) s ≡ end
name_changed_so op a scene open_loops s u r shown left right first second end value is same reads lefts rights stores =
    let there : Scene = scene_seen scene open_loops in
    let go : ℤ → Progress → End = λ v t. with_value (at_line a.op_line (applied op (named a.name there s) v)) (λ w. went_on (set_name a.name w there t)) in
    value go
    ∙ ap (λ x. with_value x (λ v. go v u)) is
    ∙ ap (λ n. with_value (at_line a.op_line (applied op (named n there s) right)) (λ w. went_on (set_name n w there u))) (sym same)
    ∙ ap (λ x. with_value (at_line a.op_line (applied op x right)) (λ w. went_on (set_name shown w there u)))
    (sym (lefts ∙ reads ∙ named_anywhere shown scene Nothing open_loops s))
    ∙ ap (λ y. with_value (at_line a.op_line (applied op first y)) (λ w. went_on (set_name shown w there u))) (sym rights)
    ∙ stores
