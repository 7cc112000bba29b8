-- One statement after another, scopes and loops, as the program runs them.
use mir.Syntax.{w32}
use mir.Val.{SFits, to_z, of_z}
use Rattle.std.proofs.lemmas.Int.{to_z-of_z}
use Rattle.std.proofs.Common.{◌≡◌, ◌≢◌, ℕ, ◌+◌, ◌<◌, ◌≤◌, List, ◌∷◌, length, drop, get_or, refl, sym, ap, ◌∙◌, subst, Bool, true, false, Option, Some, None, option_map, rules, Bor, ◌⊎◌, inl, inr}
use Rattle.std.specs.Prelude.{ℤ, pos, IfNone, map, not}
use Rattle.std.specs.Ordering.{int_eq}
use Rattle.std.specs.Option.{option_copied}
use Rattle.std.proofs.lemmas.Bool.Decides.{Decides-int_eq}
use Rattle.std.proofs.lemmas.List.{at_drop_more}
use Rattle.flame_spec.specs.declared.trees.Stmt.{Stmt}
use Rattle.flame_spec.specs.declared.trees.Expr.{Expr}
use Rattle.flame_spec.specs.Trees.{Expression, Statements, Assigned}
use Rattle.flame_spec.specs.Seen.{expression, statements}
use Rattle.flame_sense.specs.declared.ending.Ending.{Ending}
use Rattle.flame_sense.specs.declared.ending.Ending.TheVariants.{WentOn, Broke, Continued, Returned, Faulted}
use Rattle.flame_sense.specs.declared.scene.Scene as code
use Rattle.flame_sense.specs.declared.scene.Open.{Open, the_lemmas}
use Rattle.flame_sense.specs.declared.scene.Open.TheVariants.{Over}
use Rattle.flame_meaning.specs.Scenes.{Scene, Progress, Current}
use Rattle.flame_meaning.specs.Expressions.{holds}
use Rattle.flame_meaning.specs.Ends.{End, on_to, outside, leave, as_scope}
use Rattle.flame_meaning.specs.Loops.{turn, each_row}
use Rattle.flame_meaning.specs.Statements.{test_value, step_of, inside, meanings}
use Rattle.flame_meaning.specs.Kept.{Leaves}
use Rattle.flame_sense.specs.StandsFor.{currents, scene_seen, end_of, after}
use Rattle.flame_meaning.proofs.Turns.{Falls, Fall, body_falls, calls_fall, step_falls, whole}
use Rattle.flame_sense.proofs.Turning.{stands_at}

-- ---- scopes

left_end : (e : Ending) (n : ℕ) (s : Progress) → leave n (end_of e s) ≡ end_of e (outside n s)
left_end WentOn n s = refl
left_end Broke n s = refl
left_end Continued n s = refl
left_end (Returned v) n s = refl
left_end (Faulted fault) n s = refl

pub scope_end :
    (run : Progress → End) (s t u : Progress) (e : Ending) (n : ℕ)
    → n ≡ length s.locals
    → run s ≡ end_of e t
    → u ≡ outside n t
    → as_scope run s ≡ end_of e u
scope_end run s t u e n depth h left =
    ap (leave (length s.locals)) h
    ∙ left_end e (length s.locals) t
    ∙ ap (λ k. end_of e (outside k t)) (sym depth)
    ∙ ap (end_of e) (sym left)

-- what does not go on ends what follows
pub stopped : (e : Ending) (s : Progress) (go : Progress → End) → e ≢ WentOn → on_to (end_of e s) go ≡ end_of e s
stopped WentOn s go h = absurd (h refl)
stopped Broke s go h = refl
stopped Continued s go h = refl
stopped (Returned v) s go h = refl
stopped (Faulted fault) s go h = refl

-- ---- fuel

pub block_falls :
    (body : Statements) (scene : Scene) (s t : Progress) (e : Ending)
    → Fall scene.answers
    → as_scope (meanings body scene) s ≡ end_of e t
    → (e ≡ WentOn) ⊎ (e ≡ Continued)
    → t.fuel ≤ s.fuel
block_falls body scene s t e fall h g =
    let falls : Leaves Falls s (end_of e t) = subst (Leaves Falls s) h (body_falls body scene s fall) in
    by_case g falls
  where
    by_case : (e ≡ WentOn) ⊎ (e ≡ Continued) → Leaves Falls s (end_of e t) → t.fuel ≤ s.fuel
    by_case (inl w) falls = let Left : Ending → Type 0 = λ x. Leaves Falls s (end_of x t) in subst Left w falls
    by_case (inr w) falls = let Left : Ending → Type 0 = λ x. Leaves Falls s (end_of x t) in subst Left w falls

-- ---- branches

-- ---- message loops

-- the body of a message loop at a row
abbrev pub over_row : List Stmt → Scene → Current → Progress → End
over_row body scene current = as_scope (meanings (statements body) (inside current scene))

pub scene_inside :
    (scene : code.Scene) (message : ℕ) (row : Bor (List ℤ)) (outer : Bor Open)
    → scene_seen scene (Over message row outer) ≡ inside (stands_at message row) (scene_seen scene outer.now)
scene_inside scene message row outer =
    let e : currents (Over message row outer) ≡ stands_at message row ∷ currents outer.now =
    search (rules, the_lemmas) in
    ap (λ l. record (scene_seen scene outer.now) { open_loops = l }) e

-- ---- tests

-- a number that is not 0, as the program tests it
pub nonzero_holds : (v : ℤ) → SFits w32 v → of_z w32 v ≢ 0 → holds v ≡ true
nonzero_holds v f h = by_test (int_eq v (pos 0)) (Decides-int_eq v (pos 0)).0
  where
    by_test : (b : Bool) → (b ≡ true → v ≡ pos 0) → not b ≡ true
    by_test true g = absurd (h (ap (of_z w32) (g refl)))
    by_test false g = refl

pub zero_fails : (v : ℤ) → SFits w32 v → of_z w32 v ≡ 0 → holds v ≡ false
zero_fails v f e = ap holds (sym (to_z-of_z w32 v f) ∙ ap (to_z w32) e)

-- a turn over a row, where the program has the row at the front of the open loops
pub row_turn :
    (line : ℕ) (body : List Stmt) (scene : code.Scene) (message : ℕ) (rows : List (Bor (List ℤ))) (i : ℕ)
    (row : Bor (List ℤ)) (outer : Bor Open) (s : Progress) (o : Option Ending) (t : Progress)
    → i < length rows
    → row ≡ get_or rows i row
    → ((next : Progress → End)
    → turn line (as_scope (meanings (statements body) (scene_seen scene (Over message row outer)))) next s ≡ after o next t)
    → each_row line (over_row body (scene_seen scene outer.now)) (map (stands_at message) (drop i rows)) s
    ≡ after o (each_row line (over_row body (scene_seen scene outer.now)) (map (stands_at message) (drop (i + 1) rows))) t
row_turn line body scene message rows i row outer s o t h is means =
    let rest : Progress → End = each_row line (over_row body (scene_seen scene outer.now)) (map (stands_at message) (drop (i + 1) rows)) in
    at_drop_more (λ l. each_row line (over_row body (scene_seen scene outer.now)) (map (stands_at message) l) s) rows i row h
    ∙ ap (λ r. turn line (over_row body (scene_seen scene outer.now) (stands_at message r)) rest s) (sym is)
    ∙ ap (λ inner. turn line (as_scope (meanings (statements body) inner)) rest s) (sym (scene_inside scene message row outer))
    ∙ means rest

-- ---- `for`

-- what a `for` does inside its scope
abbrev pub begun : ℕ → List Stmt → Option Expression → Option Assigned → List Stmt → Scene → Progress → End
begun line first test step body scene t =
    on_to (meanings (statements first) scene t) (whole line (test_value test scene) (statements body) step scene)

pub copied_test : (test : Option (Bor Expr)) → option_map (λ e. expression e.now) test ≡ option_map expression (option_copied test)
copied_test None = refl
copied_test (Some e) = refl

-- ---- steps and turns

pub if_none_more : {T : Type 0} (o : Option T) (P Q : Type 0) → (P → Q) → IfNone o P → IfNone o Q
if_none_more None P Q k h = k h
if_none_more (Some x) P Q k h = h

pub step_left :
    (step : Option Assigned) (scene : Scene) (s t : Progress) (e : Ending)
    → Fall scene.answers
    → step_of step scene s ≡ end_of e t
    → e ≡ WentOn
    → t.fuel ≤ s.fuel
step_left step scene s t e fall h g =
    subst (Leaves Falls s) (h ∙ ap (λ x. end_of x t) g) (step_falls step scene s fall)

-- the calls that the program makes
pub scene_falls : (scene : code.Scene) (open_loops : Open) → Fall (scene_seen scene open_loops).answers
scene_falls scene open_loops = calls_fall scene.left _ _ _ _
