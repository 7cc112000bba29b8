-- Which names the locals have after a statement.
use Rattle.std.proofs.Common.{◌≡◌, ℕ, zero, suc, ◌-◌, List, [], ◌∷◌, ◌++◌, length, drop, refl, sym, ap, ◌∙◌, Bool}
use Rattle.std.proofs.Common.{true, false, cond, Option, Some, None, arith, append_assoc, subst}
use Rattle.std.specs.Prelude.{ℤ, pos, Result, Ok, Err, is_some}
use Rattle.std.specs.Str.{bytes_eq}
use Rattle.std.proofs.Math.Seq.{drop-append_seam}
use Rattle.std.proofs.lemmas.List.{length-map, length-append}
use Rattle.flame_ops.specs.declared.integers.Op.{Op}
use Rattle.flame_ops.specs.Integers.{applied}
use Rattle.flame_spec.specs.declared.faults.Fault.{Fault}
use Rattle.flame_spec.specs.declared.models.Variable.{Variable}
use Rattle.flame_spec.specs.CallFaults.{Deed, sets, sends, bears, calls, deed_of}
use Rattle.flame_spec.specs.Conditions.{number_at}
use Rattle.flame_spec.specs.Definitions.{Definition, helper_named}
use Rattle.flame_spec.specs.LookUps.{memory_named}
use Rattle.flame_spec.specs.Scopes.{memory_at}
use Rattle.flame_spec.specs.Trees.{Expression, Stored, plain, called, Indexed, Declared, Assigned}
use Rattle.flame_spec.specs.Trees.{Statement, empty, declare, assign, call, block, branch, while, for, do_while}
use Rattle.flame_spec.specs.Trees.{loop_over, return, break, continue}
use Rattle.flame_spec.specs.Trees.{Statements, no_more, also, Arms, no_arms, arm}
use Rattle.flame_meaning.specs.Scenes.{Scene, Progress, Local, Current, Gave, gave, failed, local_value, named}
use Rattle.flame_meaning.specs.Scenes.{array_named, element_column}
use Rattle.flame_meaning.specs.Expressions.{at_line, holds, bad_index, value_of, values_of}
use Rattle.flame_meaning.specs.Ends.{End, went_on, broke, continued, returned, faulted, no_fuel, with_value}
use Rattle.flame_meaning.specs.Ends.{with_values, after_call, on_to, outside, leave, as_scope}
use Rattle.flame_meaning.specs.Loops.{pay_from, after_turn, turn, turns, each_row}
use Rattle.flame_meaning.specs.Statements.{helped, by_value, by_initial, declarations, set_local, set_found, set_name}
use Rattle.flame_meaning.specs.Statements.{with_local, with_column, assigned_by, assignment, done, test_value}
use Rattle.flame_meaning.specs.Statements.{step_of, loop_currents, inside, meaning, meanings, first_arm}
use Rattle.flame_meaning.specs.Kept.{Leaves}
use Rattle.flame_meaning.specs.Agreement.{names_of}

-- the locals have the same names
pub record Same (s t : Progress) : Type 0 where
  pub same : names_of t.locals ≡ names_of s.locals

-- names, newer ones before older ones
pub record Behind (old new : List (List ℕ)) : Type 0 where
  pub newer : List (List ℕ)
  pub stands : new ≡ newer ++ old

behind_all : (old new : List (List ℕ)) → new ≡ old → Behind old new
behind_all old new e = record { newer = []; stands = e }

behind_more : (a b c : List (List ℕ)) → Behind a b → Behind b c → Behind a c
behind_more a b c ab bc = record {
  newer = bc.newer ++ ab.newer;
  stands = bc.stands ∙ ap (λ l. bc.newer ++ l) ab.stands ∙ sym (append_assoc bc.newer ab.newer a);
}

-- the names once these items are declared
abbrev pub names_with : List (List ℕ) → List Declared → List (List ℕ)
names_with old [] = old
names_with old (item ∷ items) = names_with (item.name ∷ old) items

-- the names after a statement, and after statements
abbrev pub names_after : List (List ℕ) → Statement → List (List ℕ)
names_after old (declare items) = names_with old items
names_after old _ = old

abbrev pub names_after_all : List (List ℕ) → Statements → List (List ℕ)
names_after_all old no_more = old
names_after_all old (also x xs) = names_after_all (names_after old x) xs

-- where it went on the names are these, and where it jumped they stand behind newer ones
abbrev pub Ends : List (List ℕ) → List (List ℕ) → End → Type 0
Ends old new (went_on t) = names_of t.locals ≡ new
Ends old new (broke t) = Behind old (names_of t.locals)
Ends old new (continued t) = Behind old (names_of t.locals)
Ends old new (returned v t) = Behind old (names_of t.locals)
Ends old new (faulted fault) = Unit {0}

-- ---- what follows ends

-- what holds of each fault holds of a value's end
module _ (P : End → Type 0) (of_fault : (fault : Fault) → P (faulted fault)) where
  pub valued : (r : Result ℤ Fault) (go : ℤ → End) → ((v : ℤ) → P (go v)) → P (with_value r go)
  valued (Ok v) go k = k v
  valued (Err fault) go k = of_fault fault

  pub all_valued : (r : Result (List ℤ) Fault) (go : List ℤ → End) → ((vs : List ℤ) → P (go vs)) → P (with_values r go)
  all_valued (Ok vs) go k = k vs
  all_valued (Err fault) go k = of_fault fault

  pub by_column : (line : ℕ) (o : Option ℕ) (go : ℕ → End) → ((k : ℕ) → P (go k)) → P (with_column line o go)
  by_column line None go k = of_fault (bad_index line)
  by_column line (Some column) go k = k column

  pub given_names :
      (s : Progress) (g : Gave) (go : ℤ → Progress → End)
      → ((v : ℤ) (t : Progress) → Same s t → P (go v t))
      → P (after_call g s go)
  given_names s (gave v fuel) go k = k v _ (record { same = refl })
  given_names s (failed fault) go k = of_fault fault

  pub helped_names :
      (found : Option (ℕ × Definition)) (line : ℕ) (values : List ℤ) (scene : Scene) (s : Progress)
      (go : ℤ → Progress → End)
      → ((v : ℤ) (t : Progress) → Same s t → P (go v t))
      → P (helped found line values scene s go)
  helped_names None line values scene s go k = k (pos 0) s (record { same = refl })
  helped_names (Some found) line values scene s go k = given_names s (scene.answers line found.1 values s.fuel) go k

  pub value_names :
      (value : Stored) (scene : Scene) (s : Progress) (go : ℤ → Progress → End)
      → ((v : ℤ) (t : Progress) → Same s t → P (go v t))
      → P (by_value value scene s go)
  value_names (plain e) scene s go k = valued (value_of e scene s) _ (λ v. k v s (record { same = refl }))
  value_names (called line word arguments) scene s go k =
      all_valued (values_of arguments scene s) _
      (λ values. helped_names (helper_named scene.context.helpers word) line values scene s go k)

  pub initial_names :
      (value : Option Stored) (scene : Scene) (s : Progress) (go : ℤ → Progress → End)
      → ((v : ℤ) (t : Progress) → Same s t → P (go v t))
      → P (by_initial value scene s go)
  initial_names None scene s go k = k (pos 0) s (record { same = refl })
  initial_names (Some value) scene s go k = value_names value scene s go k

-- begun with newer names
later : (old between new : List (List ℕ)) (e : End) → Behind old between → Ends between new e → Ends old new e
later old between new (went_on t) b h = h
later old between new (broke t) b h = behind_more old between (names_of t.locals) b h
later old between new (continued t) b h = behind_more old between (names_of t.locals) b h
later old between new (returned v t) b h = behind_more old between (names_of t.locals) b h
later old between new (faulted fault) b h = tt

onward :
    (old between new : List (List ℕ)) (e : End) (go : Progress → End)
    → Ends old between e
    → ((t : Progress) → names_of t.locals ≡ between → Ends old new (go t))
    → Ends old new (on_to e go)
onward old between new (went_on t) go h k = k t h
onward old between new (broke t) go h k = h
onward old between new (continued t) go h k = h
onward old between new (returned v t) go h k = h
onward old between new (faulted fault) go h k = tt

-- what leaves the names as they were
leaves_ends : (s : Progress) (e : End) → Leaves Same s e → Ends (names_of s.locals) (names_of s.locals) e
leaves_ends s (went_on t) h = h.same
leaves_ends s (broke t) h = behind_all _ _ h.same
leaves_ends s (continued t) h = behind_all _ _ h.same
leaves_ends s (returned v t) h = behind_all _ _ h.same
leaves_ends s (faulted fault) h = tt

-- ---- scopes

map-drop : (n : ℕ) (locals : List Local) → names_of (drop n locals) ≡ drop n (names_of locals)
map-drop zero locals = refl
map-drop (suc n) [] = refl
map-drop (suc n) (x ∷ locals) = map-drop n locals

-- the names that were there remain
pub outside_names : (s t : Progress) → Behind (names_of s.locals) (names_of t.locals) → Same s (outside (length s.locals) t)
outside_names s t b =
    let long : length t.locals - length s.locals ≡ length b.newer =
    omega (
      arith,
      length-map t.locals (λ (x : Local). x.name),
      length-map s.locals (λ (x : Local). x.name),
      ap length b.stands,
      length-append b.newer (names_of s.locals),
    ) in
    record {
      same = map-drop (length t.locals - length s.locals) t.locals
          ∙ ap (λ k. drop k (names_of t.locals)) long
          ∙ ap (drop (length b.newer)) b.stands
          ∙ drop-append_seam b.newer (names_of s.locals);
    }

pub left :
    (s : Progress) (new : List (List ℕ)) (e : End)
    → Behind (names_of s.locals) new
    → Ends (names_of s.locals) new e
    → Leaves Same s (leave (length s.locals) e)
left s new (went_on t) b h = outside_names s t (record { newer = b.newer; stands = h ∙ b.stands })
left s new (broke t) b h = outside_names s t h
left s new (continued t) b h = outside_names s t h
left s new (returned v t) b h = outside_names s t h
left s new (faulted fault) b h = tt

behind_items : (old : List (List ℕ)) (items : List Declared) → Behind old (names_with old items)
behind_items old [] = behind_all old old refl
behind_items old (item ∷ items) =
    behind_more old (item.name ∷ old) _ (record { newer = item.name ∷ []; stands = refl }) (behind_items (item.name ∷ old) items)

behind_statement : (old : List (List ℕ)) (x : Statement) → Behind old (names_after old x)
behind_statement old (declare items) = behind_items old items
behind_statement old empty = behind_all old old refl
behind_statement old (assign a) = behind_all old old refl
behind_statement old (call line word arguments) = behind_all old old refl
behind_statement old (block body) = behind_all old old refl
behind_statement old (branch tests otherwise) = behind_all old old refl
behind_statement old (while line test body) = behind_all old old refl
behind_statement old (for line first test step body) = behind_all old old refl
behind_statement old (do_while line body test) = behind_all old old refl
behind_statement old (loop_over line word body end_line end_word) = behind_all old old refl
behind_statement old (return e) = behind_all old old refl
behind_statement old (break line) = behind_all old old refl
behind_statement old (continue line) = behind_all old old refl

pub behind_statements : (old : List (List ℕ)) (xs : Statements) → Behind old (names_after_all old xs)
behind_statements old no_more = behind_all old old refl
behind_statements old (also x xs) =
    behind_more old (names_after old x) _ (behind_statement old x) (behind_statements (names_after old x) xs)

-- ---- declarations and assignments

pub declared_names :
    (items : List Declared) (scene : Scene) (s : Progress)
    → Ends (names_of s.locals) (names_with (names_of s.locals) items) (declarations items scene s)
declared_names [] scene s = refl
declared_names (item ∷ items) scene s =
    initial_names (Ends (names_of s.locals) (names_with (names_of s.locals) (item ∷ items))) (λ fault. tt) item.value scene s
    (λ v t. declarations items scene (with_local item.name v t))
    (λ v t h. go v t h (declared_names items scene (with_local item.name v t)))
  where
    go :
        (v : ℤ) (t : Progress)
        → Same s t
        → Ends (item.name ∷ names_of t.locals) (names_with (item.name ∷ names_of t.locals) items) (declarations items scene (with_local item.name v t))
        → Ends (names_of s.locals) (names_with (names_of s.locals) (item ∷ items)) (declarations items scene (with_local item.name v t))
    go v t h more =
        later (names_of s.locals) (item.name ∷ names_of s.locals) (names_with (names_of s.locals) (item ∷ items))
        (declarations items scene (with_local item.name v t))
        (record { newer = item.name ∷ []; stands = refl })
        (subst (λ l. Ends (item.name ∷ l) (names_with (item.name ∷ l) items) (declarations items scene (with_local item.name v t))) h.same more)

pub set_names : (word : List ℕ) (v : ℤ) (locals : List Local) → names_of (set_local word v locals) ≡ names_of locals
set_names word v [] = refl
set_names word v (x ∷ locals) = by_test (bytes_eq x.name word) (set_names word v locals)
  where
    by_test :
        (b : Bool)
        → names_of (set_local word v locals) ≡ names_of locals
        → names_of (cond b (record { name = x.name; value = v } ∷ locals) (x ∷ set_local word v locals)) ≡ x.name ∷ names_of locals
    by_test true e = refl
    by_test false e = ap (λ l. x.name ∷ l) e

found_names : (found : Option (ℕ × Variable)) (v : ℤ) (s : Progress) → Same s (set_found found v s)
found_names None v s = record { same = refl }
found_names (Some found) v s = record { same = refl }

pub name_names : (word : List ℕ) (v : ℤ) (scene : Scene) (s : Progress) → Same s (set_name word v scene s)
name_names word v scene s = by_place (is_some (local_value word s.locals))
  where
    by_place :
        (b : Bool)
        → Same s (cond b (record s { locals = set_local word v s.locals })
        (set_found (memory_named (memory_at scene.context) word) v s))
    by_place true = record { same = set_names word v s.locals }
    by_place false = found_names (memory_named (memory_at scene.context) word) v s

joined : (s t u : Progress) → Same s t → Same t u → Same s u
joined s t u h g = record { same = g.same ∙ h.same }

form_names :
    (place : Option Indexed) (op : Option Op) (a : Assigned) (scene : Scene) (s : Progress)
    → Leaves Same s (assigned_by place op a scene s)
form_names None None a scene s =
    value_names (Leaves Same s) (λ fault. tt) a.value scene s _
    (λ v t h. joined s t _ h (name_names a.name v scene t))
form_names None (Some op) a scene s =
    value_names (Leaves Same s) (λ fault. tt) a.value scene s _
    (λ v t h. valued (Leaves Same s) (λ fault. tt) (at_line a.op_line (applied op (named a.name scene s) v)) _
    (λ w. joined s t _ h (name_names a.name w scene t)))
form_names (Some place) None a scene s =
    valued (Leaves Same s) (λ fault. tt) (value_of place.index scene s) _
    (λ i. value_names (Leaves Same s) (λ fault. tt) a.value scene s _
    (λ v t h. by_column (Leaves Same s) (λ fault. tt) place.line (element_column (array_named a.name scene s) i) _
    (λ column. record { same = h.same })))
form_names (Some place) (Some op) a scene s =
    valued (Leaves Same s) (λ fault. tt) (value_of place.index scene s) _
    (λ i. by_column (Leaves Same s) (λ fault. tt) place.line (element_column (array_named a.name scene s) i) _
    (λ column. value_names (Leaves Same s) (λ fault. tt) a.value scene s _
    (λ v t h. valued (Leaves Same s) (λ fault. tt) (at_line a.op_line (applied op (number_at s.memory column) v)) _
    (λ w. record { same = h.same }))))

pub assigned_names : (a : Assigned) (scene : Scene) (s : Progress) → Leaves Same s (assignment a scene s)
assigned_names a scene s = form_names a.subscript a.op a scene s

pub step_names : (step : Option Assigned) (scene : Scene) (s : Progress) → Leaves Same s (step_of step scene s)
step_names None scene s = record { same = refl }
step_names (Some a) scene s = assigned_names a scene s

-- ---- call statements

done_names : (o : Option Deed) (line : ℕ) (values : List ℤ) (scene : Scene) (s : Progress) → Leaves Same s (done o line values scene s)
done_names None line values scene s = record { same = refl }
done_names (Some (sets column variable)) line values scene s = record { same = refl }
done_names (Some (sends number message)) line values scene s = record { same = refl }
done_names (Some (bears number type)) line values scene s = record { same = refl }
done_names (Some (calls number helper)) line values scene s =
    given_names (Leaves Same s) (λ fault. tt) s (scene.answers line helper values s.fuel) _ (λ v t h. h)

-- ---- loops

-- begun with the same names
from : (s t : Progress) (e : End) → Same s t → Leaves Same t e → Leaves Same s e
from s t (went_on u) h g = joined s t u h g
from s t (broke u) h g = joined s t u h g
from s t (continued u) h g = joined s t u h g
from s t (returned v u) h g = joined s t u h g
from s t (faulted fault) h g = tt

also_then :
    (s : Progress) (e : End) (go : Progress → End)
    → Leaves Same s e
    → ((t : Progress) → Leaves Same t (go t))
    → Leaves Same s (on_to e go)
also_then s (went_on t) go h k = from s t (go t) h (k t)
also_then s (broke t) go h k = h
also_then s (continued t) go h k = h
also_then s (returned v t) go h k = h
also_then s (faulted fault) go h k = tt

turn_end :
    (s : Progress) (e : End) (next : Progress → End)
    → Leaves Same s e
    → ((t : Progress) → Leaves Same t (next t))
    → Leaves Same s (after_turn e next)
turn_end s (went_on t) next h k = from s t (next t) h (k t)
turn_end s (broke t) next h k = h
turn_end s (continued t) next h k = from s t (next t) h (k t)
turn_end s (returned v t) next h k = h
turn_end s (faulted fault) next h k = h

pay_names :
    (fuel line : ℕ) (s : Progress) (go : Progress → End)
    → ((t : Progress) → Leaves Same t (go t))
    → Leaves Same s (pay_from fuel line s go)
pay_names zero line s go k = tt
pay_names (suc fuel) line s go k =
    let t : Progress = record s { fuel = fuel } in from s t (go t) (record { same = refl }) (k t)

turn_names :
    (line : ℕ) (body next : Progress → End)
    → ((s : Progress) → Leaves Same s (body s))
    → ((s : Progress) → Leaves Same s (next s))
    → (s : Progress) → Leaves Same s (turn line body next s)
turn_names line body next b k s =
    pay_names s.fuel line s (λ t. after_turn (body t) next) (λ t. turn_end t (body t) next (b t) k)

either_end : (s : Progress) (b : Bool) (e f : End) → Leaves Same s e → Leaves Same s f → Leaves Same s (cond b e f)
either_end s true e f h g = h
either_end s false e f h g = g

turns_names :
    (n line : ℕ) (test : Progress → Result ℤ Fault) (body step : Progress → End)
    → ((s : Progress) → Leaves Same s (body s))
    → ((s : Progress) → Leaves Same s (step s))
    → (s : Progress) → Leaves Same s (turns n line test body step s)
turns_names zero line test body step b k s =
    valued (Leaves Same s) (λ fault. tt) (test s) (λ v. cond (holds v) (faulted (no_fuel line)) (went_on s))
    (λ v. either_end s (holds v) (faulted (no_fuel line)) (went_on s) tt (record { same = refl }))
turns_names (suc n) line test body step b k s =
    let next : Progress → End = λ t. on_to (step t) (turns n line test body step) in
    valued (Leaves Same s) (λ fault. tt) (test s) (λ v. cond (holds v) (turn line body next s) (went_on s))
    (λ v. either_end s (holds v) (turn line body next s) (went_on s)
    (turn_names line body next b
    (λ t. also_then t (step t) (turns n line test body step) (k t) (turns_names n line test body step b k)) s)
    (record { same = refl }))

rows_names :
    (line : ℕ) (body : Current → Progress → End) (rows : List Current)
    → ((current : Current) (s : Progress) → Leaves Same s (body current s))
    → (s : Progress) → Leaves Same s (each_row line body rows s)
rows_names line body [] b s = record { same = refl }
rows_names line body (current ∷ more) b s =
    turn_names line (body current) (each_row line body more) (b current) (rows_names line body more b) s

-- ---- statements

-- the names after these statements are those that they declare
abbrev pub AllNamed : Statements → Scene → Type 0
AllNamed body scene =
    (t : Progress) → Ends (names_of t.locals) (names_after_all (names_of t.locals) body) (meanings body scene t)

scoped_names :
    (body : Statements) (scene : Scene)
    → AllNamed body scene
    → (s : Progress) → Leaves Same s (as_scope (meanings body scene) s)
scoped_names body scene k s =
    left s (names_after_all (names_of s.locals) body) (meanings body scene s)
    (behind_statements (names_of s.locals) body) (k s)

for_names :
    (line : ℕ) (first : Statements) (test : Option Expression) (step : Option Assigned) (body : Statements) (scene : Scene)
    → AllNamed first scene
    → AllNamed body scene
    → (s : Progress) → Leaves Same s (meaning (for line first test step body) scene s)
for_names line first test step body scene k b s =
    left s (names_after_all (names_of s.locals) first) _
    (behind_statements (names_of s.locals) first)
    (onward (names_of s.locals) (names_after_all (names_of s.locals) first) (names_after_all (names_of s.locals) first)
    (meanings first scene s) _ (k s)
    (λ t e. later (names_of s.locals) (names_after_all (names_of s.locals) first) (names_after_all (names_of s.locals) first)
    (turns t.fuel line (test_value test scene) (as_scope (meanings body scene)) (step_of step scene) t)
    (behind_statements (names_of s.locals) first)
    (subst (λ l. Ends l l (turns t.fuel line (test_value test scene) (as_scope (meanings body scene)) (step_of step scene) t)) e
    (leaves_ends t (turns t.fuel line (test_value test scene) (as_scope (meanings body scene)) (step_of step scene) t)
    (turns_names t.fuel line (test_value test scene) (as_scope (meanings body scene)) (step_of step scene)
    (scoped_names body scene b) (step_names step scene) t)))))

mutual
  pub statement_names : (x : Statement) (scene : Scene) (s : Progress) → Ends (names_of s.locals) (names_after (names_of s.locals) x) (meaning x scene s)
  statement_names empty scene s = refl
  statement_names (declare items) scene s = declared_names items scene s
  statement_names (assign a) scene s = leaves_ends s (assignment a scene s) (assigned_names a scene s)
  statement_names (call line word arguments) scene s =
      all_valued (Ends (names_of s.locals) (names_of s.locals)) (λ fault. tt) (values_of arguments scene s) _
      (λ values. leaves_ends s (done (deed_of scene.context word) line values scene s)
      (done_names (deed_of scene.context word) line values scene s))
  statement_names (block body) scene s = leaves_ends s (as_scope (meanings body scene) s) (scoped_names body scene (λ t. statements_names body scene t) s)
  statement_names (branch tests otherwise) scene s =
      leaves_ends s (first_arm tests (as_scope (meanings otherwise scene)) scene s)
      (arms_names tests (as_scope (meanings otherwise scene)) scene s (scoped_names otherwise scene (λ t. statements_names otherwise scene t)))
  statement_names (while line test body) scene s =
      leaves_ends s (turns s.fuel line (test_value (Some test) scene) (as_scope (meanings body scene)) (step_of None scene) s)
      (turns_names s.fuel line (test_value (Some test) scene) (as_scope (meanings body scene)) (step_of None scene)
      (scoped_names body scene (λ t. statements_names body scene t)) (step_names None scene) s)
  statement_names (for line first test step body) scene s =
      leaves_ends s (meaning (for line first test step body) scene s) (for_names line first test step body scene
      (λ t. statements_names first scene t) (λ t. statements_names body scene t) s)
  statement_names (do_while line body test) scene s =
      leaves_ends s (meaning (do_while line body test) scene s)
      (turn_names line (as_scope (meanings body scene)) _ (scoped_names body scene (λ t. statements_names body scene t))
      (λ t. turns_names t.fuel line (test_value (Some test) scene) (as_scope (meanings body scene)) (step_of None scene)
      (scoped_names body scene (λ t. statements_names body scene t)) (step_names None scene) t) s)
  statement_names (loop_over line word body end_line end_word) scene s =
      leaves_ends s (meaning (loop_over line word body end_line end_word) scene s)
      (rows_names line _ (loop_currents word scene)
      (λ current. scoped_names body (inside current scene) (λ t. statements_names body (inside current scene) t)) s)
  statement_names (return v) scene s =
      valued (Ends (names_of s.locals) (names_of s.locals)) (λ fault. tt) (value_of v scene s) _
      (λ w. behind_all (names_of s.locals) (names_of s.locals) refl)
  statement_names (break line) scene s = behind_all (names_of s.locals) (names_of s.locals) refl
  statement_names (continue line) scene s = behind_all (names_of s.locals) (names_of s.locals) refl

  pub statements_names : (xs : Statements) (scene : Scene) (s : Progress) → Ends (names_of s.locals) (names_after_all (names_of s.locals) xs) (meanings xs scene s)
  statements_names no_more scene s = refl
  statements_names (also x xs) scene s =
      onward (names_of s.locals) (names_after (names_of s.locals) x) (names_after_all (names_of s.locals) (also x xs))
      (meaning x scene s) (meanings xs scene) (statement_names x scene s)
      (λ t e. later (names_of s.locals) (names_after (names_of s.locals) x) (names_after_all (names_of s.locals) (also x xs))
      (meanings xs scene t) (behind_statement (names_of s.locals) x)
      (subst (λ l. Ends l (names_after_all l xs) (meanings xs scene t)) e (statements_names xs scene t)))

  arms_names :
      (tests : Arms) (otherwise : Progress → End) (scene : Scene) (s : Progress)
      → ((t : Progress) → Leaves Same t (otherwise t))
      → Leaves Same s (first_arm tests otherwise scene s)
  arms_names no_arms otherwise scene s k = k s
  arms_names (arm test body more) otherwise scene s k =
      valued (Leaves Same s) (λ fault. tt) (value_of test scene s) _
      (λ v. either_end s (holds v) (as_scope (meanings body scene) s) (first_arm more otherwise scene s)
      (scoped_names body scene (λ t. statements_names body scene t) s)
      (arms_names more otherwise scene s k))

pub body_names : (body : Statements) (scene : Scene) (s : Progress) → Leaves Same s (as_scope (meanings body scene) s)
body_names body scene s = scoped_names body scene (statements_names body scene) s
