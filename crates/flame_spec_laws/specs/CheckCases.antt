-- The check faults of some small function files, worked by hand. Each body is given line by line. [own]
use Rattle.std.specs.Prelude.{◌≡◌, ℕ, ◌+◌, pos, List, [], ◌∷◌, ◌++◌, codes, Some, None}
use Rattle.flame_ops.specs.declared.integers.Op.TheVariants.{Add, Sub, Lt}
use Rattle.flame_spec.specs.declared.trees.SignKind.TheVariants.{Minus}
use Rattle.flame_spec.specs.declared.trees.Expr as tree
use Rattle.flame_spec.specs.declared.trees.Stmt as form
use Rattle.flame_spec.specs.declared.trees.Value.TheVariants.{Plain}
use Rattle.flame_spec.specs.declared.faults.CheckFault.{CheckFault}
use Rattle.flame_spec.specs.declared.faults.CheckKind.TheVariants.{MissingFunction, DefinedTwice, UnknownName}
use Rattle.flame_spec.specs.declared.faults.CheckKind.TheVariants.{Redeclared, UnknownCall}
use Rattle.flame_spec.specs.declared.faults.CheckKind.TheVariants.{WrongCount, NotOutput, NotInput, OutsideLoop}
use Rattle.flame_spec.specs.declared.faults.CheckKind.TheVariants.{NestedSame}
use Rattle.flame_spec.specs.declared.faults.CheckKind.TheVariants.{LoopMismatch, StrayBreak, ReadOnly}
use Rattle.flame_spec.specs.Trees.{number, name, field, get, signed, chain, all_of, any_of, link, no_links, plain}
use Rattle.flame_spec.specs.Trees.{Statement, declare, block, branch, while, for, do_while, loop_over, return, break}
use Rattle.flame_spec.specs.Trees.{continue}
use Rattle.flame_spec.specs.Trees.{arm, no_arms}
use Rattle.flame_spec.specs.Seen.{expressions_of, statements_of}
use Rattle.flame_spec.specs.Definitions.{Definition}
use Rattle.flame_spec.specs.Scopes.{Context, at_entry}
use Rattle.flame_spec.specs.StatementFaults.{statements_faults}
use Rattle.flame_spec.specs.CheckFaults.{faults_of, check_faults}
use Rattle.flame_spec_laws.specs.SmallModels.{fly, bird, birds, lone_model, lone_file}
use Rattle.flame_spec_laws.specs.SmallTrees.{local, set, calls, found_in, found}

-- where `fly` is checked, with no helpers
abbrev pub fly_there : Context
fly_there = record {
  model = birds;
  helpers = [];
  runs = Some (record { agent = 0; type = bird; function = fly });
  file = 0;
}

-- the faults of a body of `fly` with these statements
abbrev pub faults_in : List Statement → List CheckFault
faults_in body =
    statements_faults (fly_there) at_entry (statements_of body)

-- the faults of a body of `fly` with these statements
abbrev pub FaultsOf : List Statement → List CheckFault → Type 0
FaultsOf body faults = faults_in body ≡ faults

-- ---- names

-- 1: int a = 1;  2: a = ENERGY + LIMIT + iteration_loop;  3: b = c;  4: LIMIT = c;  5: iteration_loop = 1;
-- 6: ENERGY = energy;
abbrev pub names_body : List Statement
names_body =
    local 1 (codes "a") (Some (number (pos 1)))
    ∷ set 2 (codes "a") (chain (name 2 (codes "ENERGY")) (link Add 2 (name 2 (codes "LIMIT"))
    (link Add 2 (name 2 (codes "iteration_loop")) no_links)))
    ∷ set 3 (codes "b") (name 3 (codes "c"))
    ∷ set 4 (codes "LIMIT") (name 4 (codes "c"))
    ∷ set 5 (codes "iteration_loop") (number (pos 1))
    ∷ set 6 (codes "ENERGY") (name 6 (codes "energy"))
    ∷ []

-- a name that is assigned comes before its value
abbrev pub NamesCase : Type 0
NamesCase = FaultsOf names_body (
    found UnknownName 3 (codes "b")
    ∷ found UnknownName 3 (codes "c")
    ∷ found ReadOnly 4 (codes "LIMIT")
    ∷ found UnknownName 4 (codes "c")
    ∷ found ReadOnly 5 (codes "iteration_loop")
    ∷ found UnknownName 6 (codes "energy")
    ∷ [])

-- ---- expressions

-- 1: return -a && b - c || d;  2: return f + iteration_loop;
abbrev pub expressions_body : List Statement
expressions_body =
    return (any_of (expressions_of (
    all_of (expressions_of (
    signed (record { kind = Minus; line = 1 } ∷ []) (name 1 (codes "a"))
    ∷ chain (name 1 (codes "b")) (link Sub 1 (name 1 (codes "c")) no_links)
    ∷ []))
    ∷ name 1 (codes "d")
    ∷ [])))
    ∷ return (chain (name 2 (codes "f")) (link Add 2 (name 2 (codes "iteration_loop")) no_links))
    ∷ []

-- each part of an expression, from left to right
abbrev pub ExpressionsCase : Type 0
ExpressionsCase = FaultsOf expressions_body (
    found UnknownName 1 (codes "a")
    ∷ found UnknownName 1 (codes "b")
    ∷ found UnknownName 1 (codes "c")
    ∷ found UnknownName 1 (codes "d")
    ∷ found UnknownName 2 (codes "f")
    ∷ [])

-- ---- declarations

-- 1: int a = a;  2: int a = b;  3: int ENERGY = ENERGY;  4: int LIMIT;  5: int iteration_loop;
-- 6: { int a = a; }  7: { int a; int b = a; }  8: return b;  9: { int c = a; }  10: int d = 1, e = d, d;
abbrev pub items_body : List Statement
items_body =
    local 1 (codes "a") (Some (name 1 (codes "a")))
    ∷ local 2 (codes "a") (Some (name 2 (codes "b")))
    ∷ local 3 (codes "ENERGY") (Some (name 3 (codes "ENERGY")))
    ∷ local 4 (codes "LIMIT") None
    ∷ local 5 (codes "iteration_loop") None
    ∷ block (statements_of (local 6 (codes "a") (Some (name 6 (codes "a"))) ∷ []))
    ∷ block (statements_of (local 7 (codes "a") None ∷ local 7 (codes "b") (Some (name 7 (codes "a"))) ∷ []))
    ∷ return (name 8 (codes "b"))
    ∷ block (statements_of (local 9 (codes "c") (Some (name 9 (codes "a"))) ∷ []))
    ∷ declare (
    record { line = 10; name = codes "d"; value = Some (plain (number (pos 1))) }
    ∷ record { line = 10; name = codes "e"; value = Some (plain (name 10 (codes "d"))) }
    ∷ record { line = 10; name = codes "d"; value = None }
    ∷ [])
    ∷ []

-- an item comes before its value, in which its name stands for nothing; a scope may declare a name of an outer one
-- again
abbrev pub ItemsCase : Type 0
ItemsCase = FaultsOf items_body (
    found UnknownName 1 (codes "a")
    ∷ found Redeclared 2 (codes "a")
    ∷ found UnknownName 2 (codes "b")
    ∷ found Redeclared 3 (codes "ENERGY")
    ∷ found UnknownName 3 (codes "ENERGY")
    ∷ found Redeclared 4 (codes "LIMIT")
    ∷ found Redeclared 5 (codes "iteration_loop")
    ∷ found UnknownName 6 (codes "a")
    ∷ found UnknownName 8 (codes "b")
    ∷ found Redeclared 10 (codes "d")
    ∷ [])

-- ---- calls

-- 1: set_energy(get_energy());  2: set_energy();  3: set_ENERGY(b);  4: add_signal_message(1, 2);
-- 5: add_location_message(1, b);  6: add_Egg_agent(1);  7: add_Nest_agent(get_warmth());
abbrev pub calls_body : List Statement
calls_body =
    calls 1 (codes "set_energy") (get 1 (codes "get_energy") ∷ [])
    ∷ calls 2 (codes "set_energy") []
    ∷ calls 3 (codes "set_ENERGY") (name 3 (codes "b") ∷ [])
    ∷ calls 4 (codes "add_signal_message") (number (pos 1) ∷ number (pos 2) ∷ [])
    ∷ calls 5 (codes "add_location_message") (number (pos 1) ∷ name 5 (codes "b") ∷ [])
    ∷ calls 6 (codes "add_Egg_agent") (number (pos 1) ∷ [])
    ∷ calls 7 (codes "add_Nest_agent") (get 7 (codes "get_warmth") ∷ [])
    ∷ []

-- a call comes before its arguments, and the number of the arguments before the output
abbrev pub CallsCase : Type 0
CallsCase = FaultsOf calls_body (
    found WrongCount 2 (codes "set_energy")
    ∷ found UnknownCall 3 (codes "set_ENERGY")
    ∷ found UnknownName 3 (codes "b")
    ∷ found WrongCount 5 (codes "add_location_message")
    ∷ found NotOutput 5 (codes "add_location_message")
    ∷ found UnknownName 5 (codes "b")
    ∷ found UnknownCall 7 (codes "add_Nest_agent")
    ∷ found UnknownCall 7 (codes "get_warmth")
    ∷ [])

-- ---- message loops

-- START_word_MESSAGE_LOOP statements FINISH_end_word_MESSAGE_LOOP
abbrev pub over : ℕ → List ℕ → List Statement → ℕ → List ℕ → Statement
over line word body end_line end_word = loop_over line word (statements_of body) end_line end_word

-- `return word->variable;`
abbrev pub reads : ℕ → List ℕ → List ℕ → Statement
reads line word variable = return (field line word variable)

-- 1: START of LOCATION  2: location_message->x  3: signal_message->c  4: nest_message->x  5: FINISH of LOCATION
-- 6: START of SIGNAL  7: START of SIGNAL  8: FINISH of SIGNAL  9: signal_message->b, b  10: FINISH of LOCATION
abbrev pub loops_body : List Statement
loops_body =
    over 1 (codes "LOCATION") (
    reads 2 (codes "location_message") (codes "x")
    ∷ reads 3 (codes "signal_message") (codes "c")
    ∷ reads 4 (codes "nest_message") (codes "x")
    ∷ []) 5 (codes "LOCATION")
    ∷ over 6 (codes "SIGNAL") (
    over 7 (codes "SIGNAL") [] 8 (codes "SIGNAL")
    ∷ reads 9 (codes "signal_message") (codes "b")
    ∷ return (name 9 (codes "b"))
    ∷ []) 10 (codes "LOCATION")
    ∷ []

-- START comes before the body, and FINISH after it
abbrev pub LoopsCase : Type 0
LoopsCase = FaultsOf loops_body (
    found OutsideLoop 3 (codes "signal_message")
    ∷ found UnknownName 3 (codes "c")
    ∷ found UnknownName 4 (codes "nest_message")
    ∷ found NotInput 6 (codes "SIGNAL")
    ∷ found NotInput 7 (codes "SIGNAL")
    ∷ found NestedSame 7 (codes "SIGNAL")
    ∷ found UnknownName 9 (codes "b")
    ∷ found LoopMismatch 10 (codes "LOCATION")
    ∷ [])

-- 1: START of NEST  2: break;  3: location_message->x  4: FINISH of LOCATION  5: START of location
-- 6: FINISH of location  7: break;  8: continue;  9: { while (a) continue; break; }
abbrev pub unknown_loop_body : List Statement
unknown_loop_body =
    over 1 (codes "NEST") (break 2 ∷ reads 3 (codes "location_message") (codes "x") ∷ []) 4 (codes "LOCATION")
    ∷ over 5 (codes "location") [] 6 (codes "location")
    ∷ break 7
    ∷ continue 8
    ∷ block (statements_of (while 9 (name 9 (codes "a")) (statements_of (continue 9 ∷ [])) ∷ break 9 ∷ []))
    ∷ []

-- a loop over no message is a loop for `break`, and none for a message
abbrev pub UnknownLoopCase : Type 0
UnknownLoopCase = FaultsOf unknown_loop_body (
    found UnknownName 1 (codes "NEST")
    ∷ found OutsideLoop 3 (codes "location_message")
    ∷ found LoopMismatch 4 (codes "LOCATION")
    ∷ found UnknownName 5 (codes "location")
    ∷ found StrayBreak 7 (codes "break")
    ∷ found StrayBreak 8 (codes "continue")
    ∷ found UnknownName 9 (codes "a")
    ∷ found StrayBreak 9 (codes "break")
    ∷ [])

-- ---- scopes

-- 1: for (int i = a;  2: i < b;  3: i = c) { int i = d; i = e; }  4: i = 1;
-- 5: do { int j; j = f;  6: break; } while (j);
abbrev pub turns_body : List Statement
turns_body =
    for 1 (statements_of (local 1 (codes "i") (Some (name 1 (codes "a"))) ∷ []))
    (Some (chain (name 2 (codes "i")) (link Lt 2 (name 2 (codes "b")) no_links)))
    (Some (record {
      line = 3;
      name = codes "i";
      subscript = None;
      op = None;
      op_line = 3;
      value = plain (name 3 (codes "c"));
    }))
    (statements_of (local 3 (codes "i") (Some (name 3 (codes "d"))) ∷ set 3 (codes "i") (name 3 (codes "e")) ∷ []))
    ∷ set 4 (codes "i") (number (pos 1))
    ∷ do_while 5 (statements_of (local 5 (codes "j") None ∷ set 5 (codes "j") (name 5 (codes "f")) ∷ break 6 ∷ []))
    (name 6 (codes "j"))
    ∷ []

-- a `for` goes from its first statement to its test, step and body, all in its scope; a `do` from its body to its test,
-- which stands outside the body's scope
abbrev pub TurnsCase : Type 0
TurnsCase = FaultsOf turns_body (
    found UnknownName 1 (codes "a")
    ∷ found UnknownName 2 (codes "b")
    ∷ found UnknownName 3 (codes "c")
    ∷ found UnknownName 3 (codes "d")
    ∷ found UnknownName 3 (codes "e")
    ∷ found UnknownName 4 (codes "i")
    ∷ found UnknownName 5 (codes "f")
    ∷ found UnknownName 6 (codes "j")
    ∷ [])

-- 1: if (a) { int k; break; }  2: else if (k) { k = 1; }  3: else { int k; k = b; }  4: k = 1;
abbrev pub branches_body : List Statement
branches_body =
    branch
    (arm (name 1 (codes "a")) (statements_of (local 1 (codes "k") None ∷ break 1 ∷ []))
    (arm (name 2 (codes "k")) (statements_of (set 2 (codes "k") (number (pos 1)) ∷ [])) no_arms))
    (statements_of (local 3 (codes "k") None ∷ set 3 (codes "k") (name 3 (codes "b")) ∷ []))
    ∷ set 4 (codes "k") (number (pos 1))
    ∷ []

-- each test comes before its body, and each body is a scope; an `if` is no loop
abbrev pub BranchesCase : Type 0
BranchesCase = FaultsOf branches_body (
    found UnknownName 1 (codes "a")
    ∷ found StrayBreak 1 (codes "break")
    ∷ found UnknownName 2 (codes "k")
    ∷ found UnknownName 2 (codes "k")
    ∷ found UnknownName 3 (codes "b")
    ∷ found UnknownName 4 (codes "k")
    ∷ [])

-- ---- files

-- a C function whose body is `return z;` on the next line
abbrev pub returning : ℕ → ℕ → List ℕ → Definition
returning file line word =
    record {
      file = file;
      line = line;
      name = word;
      parameters = [];
      body = statements_of (return (name (line + 1) (codes "z")) ∷ []);
    }

-- in a.c: 1: int fly() {  2: return z; }  3: int nest() {  4: return z; }
-- in b.c: 1: int idle() {  2: return z; }  3: int idle() {  4: return z; }  5: int fly() {  6: return z; }
abbrev pub birds_files : List Definition
birds_files =
    returning 0 1 (codes "fly")
    ∷ returning 0 3 (codes "nest")
    ∷ returning 1 1 (codes "idle")
    ∷ returning 1 3 (codes "idle")
    ∷ returning 1 5 (codes "fly")
    ∷ []

-- functions defined twice, then missing functions, then bodies: each once for each function of the model with its name,
-- and none for `idle` and for a name that is not in the model
abbrev pub FilesCase : Type 0
FilesCase =
    faults_of birds birds_files
    ≡ found_in 1 DefinedTwice 3 (codes "idle")
    ∷ found_in 1 DefinedTwice 5 (codes "fly")
    ∷ found_in 0 MissingFunction 0 (codes "hatch")
    ∷ found_in 0 UnknownName 2 (codes "z")
    ∷ found_in 0 UnknownName 2 (codes "z")
    ∷ found_in 1 UnknownName 6 (codes "z")
    ∷ found_in 1 UnknownName 6 (codes "z")
    ∷ []

-- without C functions each function of the model but `idle` is missing, also one of the same name as an earlier one
abbrev pub NoFilesCase : Type 0
NoFilesCase =
    faults_of birds []
    ≡ found_in 0 MissingFunction 0 (codes "fly")
    ∷ found_in 0 MissingFunction 0 (codes "fly")
    ∷ found_in 0 MissingFunction 0 (codes "hatch")
    ∷ []

-- ---- files of one function

-- 1: int f() {  2:     add_location_message(1);  3: }
abbrev pub LoneCallCase : Type 0
LoneCallCase =
    check_faults lone_model (lone_file (form.Call 2 (codes "add_location_message") (tree.Number (pos 1) ∷ []) ∷ []))
    ≡ found NotOutput 2 (codes "add_location_message") ∷ []

-- in f.c: 1: int f() { }; in a second file: 1: int f() {  2: break; }
abbrev pub TwoFilesCase : Type 0
TwoFilesCase =
    check_faults lone_model (lone_file [] ++ lone_file (form.Break 2 ∷ []))
    ≡ found_in 1 DefinedTwice 1 (codes "f")
    ∷ found_in 1 StrayBreak 2 (codes "break")
    ∷ []

-- `int a = e;` on line 1
abbrev pub int_a : tree.Expr → form.Stmt
int_a e = form.Declare (record { line = 1; name = codes "a"; value = Some (Plain e) } ∷ [])

-- 1: int f() { int a = a; return 0; }
abbrev pub OwnNameCase : Type 0
OwnNameCase =
    check_faults lone_model (lone_file (int_a (tree.Name 1 (codes "a")) ∷ form.Return (tree.Number (pos 0)) ∷ []))
    ≡ found UnknownName 1 (codes "a") ∷ []

-- 1: int f() { int a = 1; { int a = a; } return 0; }
abbrev pub OwnNameInsideCase : Type 0
OwnNameInsideCase =
    check_faults lone_model (lone_file (int_a (tree.Number (pos 1))
    ∷ form.Block (int_a (tree.Name 1 (codes "a")) ∷ [])
    ∷ form.Return (tree.Number (pos 0)) ∷ []))
    ≡ found UnknownName 1 (codes "a") ∷ []
