-- The check faults of function files with helpers, worked by hand. Each function is given line by line. [own]
use Rattle.std.specs.Prelude.{◌≡◌, ℕ, pos, List, [], ◌∷◌, codes, map, Some, None}
use Rattle.flame_ops.specs.declared.integers.Op.TheVariants.{Add}
use Rattle.flame_spec.specs.declared.trees.Parameter.{Parameter}
use Rattle.flame_spec.specs.declared.faults.CheckFault.{CheckFault}
use Rattle.flame_spec.specs.declared.faults.CheckKind.TheVariants.{UnknownName, UnknownCall, WrongCount, Redeclared}
use Rattle.flame_spec.specs.declared.faults.CheckKind.TheVariants.{NeedsIndex}
use Rattle.flame_spec.specs.declared.faults.CheckKind.TheVariants.{DefinedTwice, HasParameters, Recursive}
use Rattle.flame_spec.specs.Trees.{Expression, number, name, field, get, chain, link, no_links, called}
use Rattle.flame_spec.specs.Trees.{Statement, declare, assign, block, loop_over, return}
use Rattle.flame_spec.specs.Seen.{expressions_of, statements_of}
use Rattle.flame_spec.specs.Definitions.{Definition}
use Rattle.flame_spec.specs.CheckFaults.{faults_of}
use Rattle.flame_spec_laws.specs.SmallTrees.{local, calls, found}
use Rattle.flame_spec_laws.specs.ArrayCases.{herd}

-- a C function of these parameters, all on its line
abbrev pub c_function : ℕ → List ℕ → List (List ℕ) → List Statement → Definition
c_function line word names body =
    record {
      file = 0;
      line = line;
      name = word;
      parameters = map parameter names;
      body = statements_of body;
    }
  where
    parameter : List ℕ → Parameter
    parameter given = record { line = line; name = given }

-- the faults of `graze` with this body on the lines behind 1, and of these helpers
abbrev pub HerdFaults : List Statement → List Definition → List CheckFault → Type 0
HerdFaults body helpers faults = faults_of herd (c_function 1 (codes "graze") [] body ∷ helpers) ≡ faults

-- `word = called(arguments);`
abbrev pub set_called : ℕ → List ℕ → List ℕ → List Expression → Statement
set_called line word helper arguments =
    assign (record {
      line = line;
      name = word;
      subscript = None;
      op = None;
      op_line = line;
      value = called line helper (expressions_of arguments);
    })

-- `int word = called(arguments);`
abbrev pub local_called : ℕ → List ℕ → List ℕ → List Expression → Statement
local_called line word helper arguments =
    declare (record { line = line; name = word; value = Some (called line helper (expressions_of arguments)) } ∷ [])

-- ---- parameters

-- 10: int half(int a, int LIMIT, int a) {  11: int a;  12: { int a; }  13: return N + a; }
-- 14: int N(int N) {  15: return N; }
abbrev pub parameters_helpers : List Definition
parameters_helpers =
    c_function 10 (codes "half") (codes "a" ∷ codes "LIMIT" ∷ codes "a" ∷ []) (
    local 11 (codes "a") None
    ∷ block (statements_of (local 12 (codes "a") None ∷ []))
    ∷ return (chain (name 13 (codes "N")) (link Add 13 (name 13 (codes "a")) no_links))
    ∷ [])
    ∷ c_function 14 (codes "N") (codes "N" ∷ []) (return (name 15 (codes "N")) ∷ [])
    ∷ []

-- parameters stand in the scope of the body's block; names of the memory are free there, and stand for nothing else
abbrev pub ParametersCase : Type 0
ParametersCase = HerdFaults [] parameters_helpers (
    found Redeclared 10 (codes "LIMIT")
    ∷ found Redeclared 10 (codes "a")
    ∷ found Redeclared 11 (codes "a")
    ∷ found UnknownName 13 (codes "N")
    ∷ [])

-- ---- what a helper does not do

-- 10: int half(int a) {  11: return get_n();  12: set_n(1);  13: add_trail_message(q, a);  14: START of TRAIL
-- 15: trail_message->x  16: FINISH of TRAIL  17: add_Cow_agent(a);  18: twice(a, a);  19: iteration_loop = LIMIT;
-- 20: int twice(int a) {  21: return a; }
abbrev pub alone_helpers : List Definition
alone_helpers =
    c_function 10 (codes "half") (codes "a" ∷ []) (
    return (get 11 (codes "get_n"))
    ∷ calls 12 (codes "set_n") (number (pos 1) ∷ [])
    ∷ calls 13 (codes "add_trail_message") (name 13 (codes "q") ∷ name 13 (codes "a") ∷ [])
    ∷ loop_over 14 (codes "TRAIL") (statements_of (
    return (field 15 (codes "trail_message") (codes "x"))
    ∷ [])) 16 (codes "TRAIL")
    ∷ calls 17 (codes "add_Cow_agent") (name 17 (codes "a") ∷ [])
    ∷ calls 18 (codes "twice") (name 18 (codes "a") ∷ name 18 (codes "a") ∷ [])
    ∷ return (name 19 (codes "LIMIT"))
    ∷ [])
    ∷ c_function 20 (codes "twice") (codes "a" ∷ []) (return (name 21 (codes "a")) ∷ [])
    ∷ []

-- a helper has no form of the memory, of messages and of births
abbrev pub AloneCase : Type 0
AloneCase = HerdFaults [] alone_helpers (
    found UnknownCall 11 (codes "get_n")
    ∷ found UnknownCall 12 (codes "set_n")
    ∷ found UnknownCall 13 (codes "add_trail_message")
    ∷ found UnknownName 13 (codes "q")
    ∷ found UnknownName 14 (codes "TRAIL")
    ∷ found UnknownName 15 (codes "trail_message")
    ∷ found UnknownCall 17 (codes "add_Cow_agent")
    ∷ found WrongCount 18 (codes "twice")
    ∷ [])

-- ---- calls of helpers

-- 1: int graze() {  2: both(1);  3: int a = half(a);  4: N = none(q);  5: half(H);  6: N = both(N, 2);  7: half(); }
abbrev pub calling_body : List Statement
calling_body =
    calls 2 (codes "both") (number (pos 1) ∷ [])
    ∷ local_called 3 (codes "a") (codes "half") (name 3 (codes "a") ∷ [])
    ∷ set_called 4 (codes "N") (codes "none") (name 4 (codes "q") ∷ [])
    ∷ calls 5 (codes "half") (name 5 (codes "H") ∷ [])
    ∷ set_called 6 (codes "N") (codes "both") (name 6 (codes "N") ∷ number (pos 2) ∷ [])
    ∷ calls 7 (codes "half") []
    ∷ []

-- 10: int half(int a) { }  11: int both(int a, int b) { }
abbrev pub called_helpers : List Definition
called_helpers =
    c_function 10 (codes "half") (codes "a" ∷ []) []
    ∷ c_function 11 (codes "both") (codes "a" ∷ codes "b" ∷ []) []
    ∷ []

-- a call has as many arguments as the helper has parameters, and in the value of an item its own name stands for
-- nothing
abbrev pub CallingCase : Type 0
CallingCase = HerdFaults calling_body called_helpers (
    found WrongCount 2 (codes "both")
    ∷ found UnknownName 3 (codes "a")
    ∷ found UnknownCall 4 (codes "none")
    ∷ found UnknownName 4 (codes "q")
    ∷ found NeedsIndex 5 (codes "H")
    ∷ found WrongCount 7 (codes "half")
    ∷ [])

-- ---- functions of the model with parameters

-- 1: int graze(int a) {  2: return b; }  3: int graze(int a) { }  4: int idle(int a) {  5: return b; }
abbrev pub HavingCase : Type 0
HavingCase =
    faults_of herd (
    c_function 1 (codes "graze") (codes "a" ∷ []) (return (name 2 (codes "b")) ∷ [])
    ∷ c_function 3 (codes "graze") (codes "a" ∷ []) []
    ∷ c_function 4 (codes "idle") (codes "a" ∷ []) (return (name 5 (codes "b")) ∷ [])
    ∷ [])
    ≡ found DefinedTwice 3 (codes "graze")
    ∷ found HasParameters 1 (codes "graze")
    ∷ found HasParameters 3 (codes "graze")
    ∷ found UnknownName 2 (codes "b")
    ∷ found UnknownName 5 (codes "b")
    ∷ []

-- ---- helpers that call each other

-- `int word(int a) { other(a); }`
abbrev pub caller : ℕ → List ℕ → List ℕ → Definition
caller line word other = c_function line word (codes "a" ∷ []) (calls line other (name line (codes "a") ∷ []) ∷ [])

-- 2: int b(int a) { c(a); }  3: int c(int a) { b(a); }
abbrev pub RoundCase : Type 0
RoundCase =
    HerdFaults [] (caller 2 (codes "b") (codes "c") ∷ caller 3 (codes "c") (codes "b") ∷ [])
    (found Recursive 2 (codes "b -> c -> b") ∷ [])

-- a helper that calls itself, in what it stores
abbrev pub SelfCase : Type 0
SelfCase =
    HerdFaults [] (
    c_function 2 (codes "b") (codes "a" ∷ []) (set_called 3 (codes "a") (codes "b") (name 3 (codes "a") ∷ []) ∷ [])
    ∷ []) (found Recursive 2 (codes "b -> b") ∷ [])

-- 2: int t(int a) { x(a); }  3: int y(int a) { z(a); }  4: int z(int a) { x(a); }  5: int x(int a) { y(a); }
-- t calls into a cycle of three, which begins with the first of them
abbrev pub TailCase : Type 0
TailCase =
    HerdFaults [] (
    caller 2 (codes "t") (codes "x")
    ∷ caller 3 (codes "y") (codes "z")
    ∷ caller 4 (codes "z") (codes "x")
    ∷ caller 5 (codes "x") (codes "y")
    ∷ []) (found Recursive 3 (codes "y -> z -> x -> y") ∷ [])

-- 2: int t(int a) { x(a); }  3: int x(int a) { }: calls that end have no fault
abbrev pub EndingCase : Type 0
EndingCase =
    HerdFaults [] (caller 2 (codes "t") (codes "x") ∷ c_function 3 (codes "x") (codes "a" ∷ []) [] ∷ []) []
