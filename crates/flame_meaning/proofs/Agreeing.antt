-- Where the progress agrees with what a place sees.
use Rattle.std.proofs.Common.{◌≡◌, ℕ, zero, suc, ◌+◌, Bool, true, false, ◌||◌, cond, List, [], ◌∷◌, map, true≢false}
use Rattle.std.proofs.Common.{Contains, Some, None, IsTrue, refl, sym, ap, ◌∙◌, subst, arith}
use Rattle.std.specs.Prelude.{ℤ, pos, is_some}
use Rattle.std.specs.List.{list_any}
use Rattle.std.specs.Str.{bytes_eq}
use Rattle.std.proofs.lemmas.Bool.{or_parts}
use Rattle.flame_rows.proofs.Bytes.{bytes_eq-true, bytes_eq-same}
use Rattle.flame_rows.proofs.Lists.{append-is_nil_left, append-is_nil_right}
use Rattle.flame_rows.proofs.Truths.{is_some-false}
use Rattle.flame_ops.specs.Ascii.{capitals}
use Rattle.flame_spec.specs.declared.models.Model.{Model}
use Rattle.flame_spec.specs.declared.models.MessageType.{MessageType}
use Rattle.flame_spec.specs.declared.outcomes.Source.{Source}
use Rattle.flame_spec.specs.declared.faults.CheckKind.TheVariants.{Redeclared}
use Rattle.flame_spec.specs.declared.trees.Parameter.{Parameter}
use Rattle.flame_spec.specs.Definitions.{Definition}
use Rattle.flame_spec.specs.Functions.{Place}
use Rattle.flame_spec.specs.HelperFaults.{helper_context}
use Rattle.flame_spec.specs.KnownNames.{is_among}
use Rattle.flame_spec.specs.Lists.{numbered_from, numbered_where}
use Rattle.flame_spec.specs.LookUps.{message_looped}
use Rattle.flame_spec.specs.Scopes.{Context, over_message, over_none, Sight, at_entry, after_parameters, after_name, names_seen, input_found}
use Rattle.flame_spec.specs.Scopes.{after_items, after, after_all, in_value_of, in_loop, messages_at, given_at}
use Rattle.flame_spec.specs.Scopes.{is_local}
use Rattle.flame_spec.specs.Scopes.{in_scope as scoped}
use Rattle.flame_spec.specs.StatementFaults.{is_taken, declared_faults, item_faults, items_faults}
use Rattle.flame_spec.specs.StatementFaults.{parameters_faults, statement_faults, statements_faults, opened}
use Rattle.flame_spec.specs.Trees.{Declared}
use Rattle.flame_spec.specs.Trees.{Statement, empty, declare, assign, call, block, branch, while, for, do_while}
use Rattle.flame_spec.specs.Trees.{loop_over, return, break, continue}
use Rattle.flame_spec.specs.Trees.{Statements, no_more, also}
use Rattle.flame_spec.proofs.FaultTests.{fault_where-none}
use Rattle.flame_spec.proofs.Numbered.{numbered_from-passes}
use Rattle.flame_meaning.specs.Scenes.{Scene, Local, Progress, Current, Calls}
use Rattle.flame_meaning.specs.Ends.{End, went_on, broke, continued, returned, faulted, as_scope}
use Rattle.flame_meaning.specs.Statements.{with_local, rows_of, currents_over, loop_currents, inside}
use Rattle.flame_meaning.specs.Statements.{meaning, meanings}
use Rattle.flame_meaning.specs.HelperCalls.{parameter_locals, helper_scene, entered}
use Rattle.flame_meaning.specs.Kept.{Leaves}
use Rattle.flame_meaning.specs.Outcomes.{start, scene_of, message_named}
use Rattle.flame_meaning.specs.Agreement.{names_of, LoopsStand, no_loops, plain_loop, message_loop, Agrees}
use Rattle.flame_meaning.specs.AcceptedMeaning.{place_in, WentOnAgrees, EndAgrees}
use Rattle.flame_meaning.proofs.Naming.{Same, Ends, names_with, names_after, names_after_all, statement_names}
use Rattle.flame_meaning.proofs.Naming.{statements_names, body_names}

-- ---- lists without members

-- ---- names that are new

-- to no local that is seen the model gives a meaning
abbrev pub IsFresh : Context → Sight → Type 0
IsFresh place sight = (word : List ℕ) → IsTrue (is_local sight word) → given_at place word ≡ None

fresh_name :
    (place : Context) (sight : Sight) (line : ℕ) (word : List ℕ)
    → IsFresh place sight
    → declared_faults place sight line word ≡ []
    → IsFresh place (after_name sight word)
fresh_name place sight line word fresh none other local = by_name (bytes_eq other word) refl local
  where
    new : given_at place word ≡ None
    new =
        is_some-false (given_at place word)
        (or_parts (is_among word sight.scope) (is_some (given_at place word))
        (fault_where-none (is_taken place sight word) place Redeclared line word none)).1

    by_name :
        (b : Bool)
        → bytes_eq other word ≡ b
        → (b || is_among other sight.scope) || list_any (is_among other) sight.outer ≡ true
        → given_at place other ≡ None
    by_name true e l = ap (given_at place) (bytes_eq-true other word e) ∙ new
    by_name false e l = fresh other l

fresh_items :
    (place : Context) (sight : Sight) (items : List Declared)
    → IsFresh place sight
    → items_faults place sight items ≡ []
    → IsFresh place (after_items sight items)
fresh_items place sight [] fresh none = fresh
fresh_items place sight (item ∷ items) fresh none =
    fresh_items place (after_name sight item.name) items
    (fresh_name place sight item.line item.name fresh
    (append-is_nil_left _ _ (append-is_nil_left (item_faults place sight item) _ none)))
    (append-is_nil_right (item_faults place sight item) _ none)

fresh_parameters :
    (place : Context) (sight : Sight) (parameters : List Parameter)
    → IsFresh place sight
    → parameters_faults place sight parameters ≡ []
    → IsFresh place (after_parameters sight parameters)
fresh_parameters place sight [] fresh none = fresh
fresh_parameters place sight (parameter ∷ parameters) fresh none =
    fresh_parameters place (after_name sight parameter.name) parameters
    (fresh_name place sight parameter.line parameter.name fresh (append-is_nil_left _ _ none))
    (append-is_nil_right (declared_faults place sight parameter.line parameter.name) _ none)

fresh_statement :
    (place : Context) (sight : Sight) (x : Statement)
    → IsFresh place sight
    → statement_faults place sight x ≡ []
    → IsFresh place (after sight x)
fresh_statement place sight (declare items) fresh none = fresh_items place sight items fresh none
fresh_statement place sight empty fresh none = fresh
fresh_statement place sight (assign a) fresh none = fresh
fresh_statement place sight (call line word arguments) fresh none = fresh
fresh_statement place sight (block body) fresh none = fresh
fresh_statement place sight (branch tests otherwise) fresh none = fresh
fresh_statement place sight (while line test body) fresh none = fresh
fresh_statement place sight (for line first test step body) fresh none = fresh
fresh_statement place sight (do_while line body test) fresh none = fresh
fresh_statement place sight (loop_over line word body end_line end_word) fresh none = fresh
fresh_statement place sight (return e) fresh none = fresh
fresh_statement place sight (break line) fresh none = fresh
fresh_statement place sight (continue line) fresh none = fresh

fresh_statements :
    (place : Context) (sight : Sight) (xs : Statements)
    → IsFresh place sight
    → statements_faults place sight xs ≡ []
    → IsFresh place (after_all sight xs)
fresh_statements place sight no_more fresh none = fresh
fresh_statements place sight (also x xs) fresh none =
    fresh_statements place (after sight x) xs
    (fresh_statement place sight x fresh (append-is_nil_left _ _ none))
    (append-is_nil_right (statement_faults place sight x) _ none)

-- ---- what is seen afterwards

-- the same loops, and these names
record Sees (before after : Sight) (seen : List (List ℕ)) : Type 0 where
  names : names_seen after ≡ seen
  loops : after.loops ≡ before.loops

sees_items : (sight : Sight) (items : List Declared) → Sees sight (after_items sight items) (names_with (names_seen sight) items)
sees_items sight [] = record { names = refl; loops = refl }
sees_items sight (item ∷ items) =
    let more = sees_items (after_name sight item.name) items in
    record { names = more.names; loops = more.loops }

sees_statement : (sight : Sight) (x : Statement) → Sees sight (after sight x) (names_after (names_seen sight) x)
sees_statement sight (declare items) = sees_items sight items
sees_statement sight empty = record { names = refl; loops = refl }
sees_statement sight (assign a) = record { names = refl; loops = refl }
sees_statement sight (call line word arguments) = record { names = refl; loops = refl }
sees_statement sight (block body) = record { names = refl; loops = refl }
sees_statement sight (branch tests otherwise) = record { names = refl; loops = refl }
sees_statement sight (while line test body) = record { names = refl; loops = refl }
sees_statement sight (for line first test step body) = record { names = refl; loops = refl }
sees_statement sight (do_while line body test) = record { names = refl; loops = refl }
sees_statement sight (loop_over line word body end_line end_word) = record { names = refl; loops = refl }
sees_statement sight (return e) = record { names = refl; loops = refl }
sees_statement sight (break line) = record { names = refl; loops = refl }
sees_statement sight (continue line) = record { names = refl; loops = refl }

sees_statements : (sight : Sight) (xs : Statements) → Sees sight (after_all sight xs) (names_after_all (names_seen sight) xs)
sees_statements sight no_more = record { names = refl; loops = refl }
sees_statements sight (also x xs) =
    let first = sees_statement sight x in
    let more = sees_statements (after sight x) xs in
    record {
      names = more.names ∙ ap (λ l. names_after_all l xs) first.names;
      loops = more.loops ∙ first.loops;
    }

-- ---- agreement

agreed :
    (place : Context) (before after : Sight) (scene : Scene) (s : Progress) (names : List (List ℕ)) (e : End)
    → Agrees place before scene s
    → Sees before after names
    → IsFresh place after
    → Ends (names_of s.locals) names e
    → WentOnAgrees place after scene e
agreed place before after scene s names (went_on t) a sees fresh h = record {
  there = a.there;
  names = h ∙ sym sees.names;
  fresh = fresh;
  loops = subst (λ l. LoopsStand (messages_at place) l scene.open_loops) (sym sees.loops) a.loops;
}
agreed place before after scene s names (broke t) a sees fresh h = tt
agreed place before after scene s names (continued t) a sees fresh h = tt
agreed place before after scene s names (returned v t) a sees fresh h = tt
agreed place before after scene s names (faulted fault) a sees fresh h = tt

pub statement_agrees :
    (place : Context) (sight : Sight) (scene : Scene) (s : Progress) (x : Statement)
    → Agrees place sight scene s
    → statement_faults place sight x ≡ []
    → WentOnAgrees place (after sight x) scene (meaning x scene s)
statement_agrees place sight scene s x a none =
    agreed place sight (after sight x) scene s (names_after (names_of s.locals) x) (meaning x scene s) a
    (subst (λ l. Sees sight (after sight x) (names_after l x)) (sym a.names) (sees_statement sight x))
    (fresh_statement place sight x a.fresh none)
    (statement_names x scene s)

pub statements_agree :
    (place : Context) (sight : Sight) (scene : Scene) (s : Progress) (xs : Statements)
    → Agrees place sight scene s
    → statements_faults place sight xs ≡ []
    → WentOnAgrees place (after_all sight xs) scene (meanings xs scene s)
statements_agree place sight scene s xs a none =
    agreed place sight (after_all sight xs) scene s (names_after_all (names_of s.locals) xs) (meanings xs scene s) a
    (subst (λ l. Sees sight (after_all sight xs) (names_after_all l xs)) (sym a.names) (sees_statements sight xs))
    (fresh_statements place sight xs a.fresh none)
    (statements_names xs scene s)

same_agrees : (place : Context) (sight : Sight) (scene : Scene) (s t : Progress) → Agrees place sight scene s → Same s t → Agrees place sight scene t
same_agrees place sight scene s t a h = record { there = a.there; names = h.same ∙ a.names; fresh = a.fresh; loops = a.loops }

pub end_agrees :
    (place : Context) (sight : Sight) (scene : Scene) (s : Progress) (e : End)
    → Agrees place sight scene s
    → Leaves Same s e
    → EndAgrees place sight scene e
end_agrees place sight scene s (went_on t) a h = same_agrees place sight scene s t a h
end_agrees place sight scene s (broke t) a h = same_agrees place sight scene s t a h
end_agrees place sight scene s (continued t) a h = same_agrees place sight scene s t a h
end_agrees place sight scene s (returned v t) a h = same_agrees place sight scene s t a h
end_agrees place sight scene s (faulted fault) a h = tt

pub scope_agrees :
    (place : Context) (sight : Sight) (scene : Scene) (s : Progress) (body : Statements)
    → Agrees place sight scene s
    → EndAgrees place sight scene (as_scope (meanings body scene) s)
scope_agrees place sight scene s body a = end_agrees place sight scene s (as_scope (meanings body scene) s) a (body_names body scene s)

pub item_agrees :
    (place : Context) (sight : Sight) (scene : Scene) (s : Progress) (item : Declared) (v : ℤ)
    → Agrees place sight scene s
    → item_faults place sight item ≡ []
    → Agrees place (after_name sight item.name) scene (with_local item.name v s)
item_agrees place sight scene s item v a none = record {
  there = a.there;
  names = ap (λ l. item.name ∷ l) a.names;
  fresh = fresh_name place sight item.line item.name a.fresh (append-is_nil_left _ _ none);
  loops = a.loops;
}

-- ---- places inside

inner_fresh : (place : Context) (sight : Sight) → IsFresh place sight → IsFresh place (scoped sight)
inner_fresh place sight fresh word local = fresh word local

pub inside_agree :
    (place : Context) (sight : Sight) (scene : Scene) (s : Progress) (name : List ℕ)
    → Agrees place sight scene s
    → Agrees place (scoped sight) scene s
    × Agrees place (in_loop over_none sight) scene s
    × Agrees place (in_value_of name sight) scene s
inside_agree place sight scene s name a = (
  record { there = a.there; names = a.names; fresh = inner_fresh place sight a.fresh; loops = a.loops },
  record {
    there = a.there;
    names = a.names;
    fresh = inner_fresh place sight a.fresh;
    loops = plain_loop sight.loops scene.open_loops a.loops;
  },
  record { there = a.there; names = a.names; fresh = a.fresh; loops = a.loops },
)

-- ---- loops over messages

-- what passes a weaker test than another and passes that one first of all has its number
first_number :
    {X : Type 0} (p q : X → Bool) (i : ℕ) (xs : List X) (found : ℕ × X)
    → numbered_from p i xs ≡ Some found
    → ((x : X) → q x ≡ true → p x ≡ true)
    → q found.1 ≡ true
    → numbered_from q i xs ≡ Some found
first_number p q i [] found e weaker passes = cc
first_number {X} p q i (x ∷ xs) found e weaker passes =
    by_tests (p x) (q x) refl refl e (λ f. first_number p q (i + 1) xs found f weaker passes)
  where
    by_tests :
        (b c : Bool)
        → p x ≡ b
        → q x ≡ c
        → cond b (Some (i, x)) (numbered_from p (i + 1) xs) ≡ Some found
        → (numbered_from p (i + 1) xs ≡ Some found → numbered_from q (i + 1) xs ≡ Some found)
        → cond c (Some (i, x)) (numbered_from q (i + 1) xs) ≡ Some found
    by_tests true true e f g later = g
    by_tests true false e f g later =
        let pair : (i, x) ≡ found = cc in
        absurd (true≢false (sym passes ∙ sym (ap (λ r. q r.1) pair) ∙ f))
    by_tests false true e f g later = absurd (true≢false (sym (weaker x f) ∙ e))
    by_tests false false e f g later = later g

-- what is found by a test of names is the first of its name
pub named_first :
    (test : List ℕ → Bool) (messages : List MessageType) (found : ℕ × MessageType)
    → numbered_where (λ m. test m.name) messages ≡ Some found
    → message_named messages found.1.name ≡ Some found
named_first test messages found e =
    first_number (λ m. test m.name) (λ m. bytes_eq m.name found.1.name) 0 messages found e
    (λ x same. ap test (bytes_eq-true x.name found.1.name same) ∙ numbered_from-passes (λ m. test m.name) 0 messages found e)
    (bytes_eq-same found.1.name found.1.name refl)

-- each turn stands at a row of the message
turn_stands :
    (number : ℕ) (rows : List (List ℤ)) (current : Current)
    → Contains (map (λ row. record { message = number; row = row }) rows) current
    → current.message ≡ number
turn_stands number [] current (k, below, at) = absurd (omega arith)
turn_stands number (row ∷ rows) current (zero, below, at) = sym (ap (λ (c : Current). c.message) at)
turn_stands number (row ∷ rows) current (suc k, below, at) = turn_stands number rows current (k, omega arith, at)

pub turn_agrees :
    (place : Context) (sight : Sight) (scene : Scene) (s : Progress) (word : List ℕ) (found : ℕ × MessageType)
    (current : Current)
    → Agrees place sight scene s
    → message_looped (messages_at place) word ≡ Some found
    → Contains (loop_currents word scene) current
    → Agrees place (in_loop (opened (Some found)) sight) (inside current scene) s
turn_agrees place sight scene s word found current a looped c = record {
  there = a.there;
  names = a.names;
  fresh = inner_fresh place sight a.fresh;
  loops = subst (λ (n : ℕ). LoopsStand (messages_at place) (over_message found.1.name ∷ sight.loops) (record { message = n; row = current.row } ∷ scene.open_loops))
      (sym stands)
      (message_loop found.1.name found.0 found.1 current.row sight.loops scene.open_loops
      (named_first (λ n. bytes_eq (capitals n) word) (messages_at place) found looped) a.loops);
}
  where
    same : message_looped (messages_at scene.context) word ≡ Some found
    same = ap (λ (at : Context). message_looped (messages_at at) word) a.there ∙ looped

    stands : current.message ≡ found.0
    stands =
        turn_stands found.0 (rows_of (input_found scene.context.runs (Some found)) scene) current
        (subst (λ o. Contains (currents_over o scene) current) same c)

-- ---- the start

no_name : (word : List ℕ) → IsTrue (is_local at_entry word) → ⊥
no_name word local = cc

pub function_begins :
    (source : Source) (place : Place) (number : ℕ) (memory : List ℤ) (readings : List (List (List ℤ)))
    (constants : List ℤ) (iteration : ℤ) (fuel : ℕ)
    → Agrees
    (place_in source.model source.units place number)
    at_entry
    (scene_of source place readings constants iteration)
    (start memory fuel)
function_begins source place number memory readings constants iteration fuel = record {
  there = refl;
  names = refl;
  fresh = λ word local. absurd (no_name word local);
  loops = no_loops;
}

sees_parameters :
    (sight : Sight) (parameters : List Parameter) (values : List ℤ) (locals : List Local)
    → names_of locals ≡ names_seen sight
    → Sees sight (after_parameters sight parameters) (names_of (parameter_locals parameters values locals))
sees_parameters sight [] values locals e = record { names = sym e; loops = refl }
sees_parameters sight (parameter ∷ more) [] locals e =
    let rest = sees_parameters (after_name sight parameter.name) more []
    (record { name = parameter.name; value = pos 0 } ∷ locals) (ap (λ l. parameter.name ∷ l) e) in
    record { names = rest.names; loops = rest.loops }
sees_parameters sight (parameter ∷ more) (v ∷ values) locals e =
    let rest = sees_parameters (after_name sight parameter.name) more values
    (record { name = parameter.name; value = v } ∷ locals) (ap (λ l. parameter.name ∷ l) e) in
    record { names = rest.names; loops = rest.loops }

pub helper_begins :
    (model : Model) (hs : List Definition) (d : Definition) (values constants : List ℤ) (iteration : ℤ) (calls : Calls)
    (fuel : ℕ)
    → parameters_faults (helper_context model hs d) at_entry d.parameters ≡ []
    → Agrees
    (helper_context model hs d)
    (after_parameters at_entry d.parameters)
    (helper_scene model hs constants iteration calls)
    (entered d.parameters values fuel)
helper_begins model hs d values constants iteration calls fuel none =
    let sees = sees_parameters at_entry d.parameters values [] refl in
    record {
      there = refl;
      names = sym sees.names;
      fresh = fresh_parameters (helper_context model hs d) at_entry d.parameters (λ word local. absurd (no_name word local)) none;
      loops = subst (λ l. LoopsStand [] l []) (sym sees.loops) no_loops;
    }
