-- The check faults of function files with arrays, worked by hand. Each body is given line by line. [own]
use Rattle.std.specs.Prelude.{◌≡◌, ℕ, pos, List, [], ◌∷◌, codes, Some, None}
use Rattle.flame_ops.specs.declared.integers.Op.TheVariants.{Add}
use Rattle.flame_spec.specs.declared.models.Model.{Model}
use Rattle.flame_spec.specs.declared.models.Variable.{Variable}
use Rattle.flame_spec.specs.declared.models.AgentType.{AgentType}
use Rattle.flame_spec.specs.declared.models.Function.{Function}
use Rattle.flame_spec.specs.declared.faults.CheckFault.{CheckFault}
use Rattle.flame_spec.specs.declared.faults.CheckKind.TheVariants.{UnknownName, WrongCount, ReadOnly}
use Rattle.flame_spec.specs.declared.faults.CheckKind.TheVariants.{NotArray, NeedsIndex, WrongLength}
use Rattle.flame_spec.specs.Trees.{Expression, number, name, field, get, at, field_at, chain, link, no_links, plain}
use Rattle.flame_spec.specs.Trees.{Statement, assign, loop_over, return}
use Rattle.flame_spec.specs.Seen.{statements_of}
use Rattle.flame_spec.specs.Scopes.{Context, at_entry}
use Rattle.flame_spec.specs.StatementFaults.{statements_faults}
use Rattle.flame_spec_laws.specs.SmallModels.{variable, function}
use Rattle.flame_spec_laws.specs.SmallTrees.{local, set, calls, found}

-- ---- a model

-- an array of this length
abbrev pub array : List ℕ → ℕ → Variable
array word length = record { name = word; length = Some length }

-- it reads trail and adds trail
abbrev pub graze : Function
graze = function (codes "graze") (codes "s") (codes "t") (codes "trail" ∷ []) (codes "trail" ∷ [])

-- the type Cow(n, h of 3, p of 2)
abbrev pub cow : AgentType
cow = record {
  name = codes "Cow";
  memory = variable (codes "n") ∷ array (codes "h") 3 ∷ array (codes "p") 2 ∷ [];
  functions = graze ∷ [];
}

-- the constant limit, the message trail(x, y of 3), and the type Cow
abbrev pub herd : Model
herd = record {
  constants = codes "limit" ∷ [];
  files = codes "cow.c" ∷ [];
  units = [];
  messages = record { name = codes "trail"; variables = variable (codes "x") ∷ array (codes "y") 3 ∷ [] } ∷ [];
  agents = cow ∷ [];
}

-- where `graze` is checked, with no helpers
abbrev pub graze_there : Context
graze_there = record {
  model = herd;
  helpers = [];
  runs = Some (record { agent = 0; type = cow; function = graze });
  file = 0;
}

-- the faults of a body of `graze` with these statements
abbrev pub GrazeFaults : List Statement → List CheckFault → Type 0
GrazeFaults body faults = statements_faults graze_there at_entry (statements_of body) ≡ faults

-- `word[index]`
abbrev pub element : ℕ → List ℕ → Expression → Expression
element line word index = at line word line index

-- `word[index] = e;`
abbrev pub set_element : ℕ → List ℕ → Expression → Expression → Statement
set_element line word index e =
    assign (record {
      line = line;
      name = word;
      subscript = Some (record { line = line; index = index });
      op = None;
      op_line = line;
      value = plain e;
    })

-- ---- arrays of the memory

-- 1: return H;  2: return H[0] + N[1];  3: H = 1;  4: N[0] = H;  5: return get_h();  6: set_h(1);  7: int a = a[0];
-- 8: LIMIT[q] = 1;  9: H[P[N]] = N;
abbrev pub elements_body : List Statement
elements_body =
    return (name 1 (codes "H"))
    ∷ return (chain (element 2 (codes "H") (number (pos 0)))
    (link Add 2 (element 2 (codes "N") (number (pos 1))) no_links))
    ∷ set 3 (codes "H") (number (pos 1))
    ∷ set_element 4 (codes "N") (number (pos 0)) (name 4 (codes "H"))
    ∷ return (get 5 (codes "get_h"))
    ∷ calls 6 (codes "set_h") (number (pos 1) ∷ [])
    ∷ local 7 (codes "a") (Some (element 7 (codes "a") (number (pos 0))))
    ∷ set_element 8 (codes "LIMIT") (name 8 (codes "q")) (number (pos 1))
    ∷ set_element 9 (codes "H") (element 9 (codes "P") (name 9 (codes "N"))) (name 9 (codes "N"))
    ∷ []

-- an array stands with an index, and nothing else does; the index comes before the value
abbrev pub ElementsCase : Type 0
ElementsCase = GrazeFaults elements_body (
    found NeedsIndex 1 (codes "H")
    ∷ found NotArray 2 (codes "N")
    ∷ found NeedsIndex 3 (codes "H")
    ∷ found NotArray 4 (codes "N")
    ∷ found NeedsIndex 4 (codes "H")
    ∷ found NeedsIndex 5 (codes "get_h")
    ∷ found NeedsIndex 6 (codes "set_h")
    ∷ found WrongLength 6 (codes "set_h")
    ∷ found UnknownName 7 (codes "a")
    ∷ found NotArray 7 (codes "a")
    ∷ found ReadOnly 8 (codes "LIMIT")
    ∷ found NotArray 8 (codes "LIMIT")
    ∷ found UnknownName 8 (codes "q")
    ∷ [])

-- ---- arrays of messages

-- 1: START of TRAIL  2: trail_message->y  3: trail_message->x[0]  4: trail_message->y[q]  5: trail_message->y[N]
-- 6: FINISH of TRAIL
abbrev pub rows_body : List Statement
rows_body =
    loop_over 1 (codes "TRAIL") (statements_of (
    return (field 2 (codes "trail_message") (codes "y"))
    ∷ return (field_at 3 (codes "trail_message") (codes "x") 3 (number (pos 0)))
    ∷ return (field_at 4 (codes "trail_message") (codes "y") 4 (name 4 (codes "q")))
    ∷ return (field_at 5 (codes "trail_message") (codes "y") 5 (name 5 (codes "N")))
    ∷ [])) 6 (codes "TRAIL")
    ∷ []

-- the fault has the name of the message's variable
abbrev pub RowsCase : Type 0
RowsCase = GrazeFaults rows_body (
    found NeedsIndex 2 (codes "y")
    ∷ found NotArray 3 (codes "x")
    ∷ found UnknownName 4 (codes "q")
    ∷ [])

-- ---- arguments

-- `add_trail_message(arguments);`
abbrev pub adds_trail : ℕ → List Expression → Statement
adds_trail line arguments = calls line (codes "add_trail_message") arguments

-- 1: .(N, H);  2: .(N, P);  3: .(H, N);  4: .(1, H[0]);  5: .(1, get_h());  6: .(H);  7: .(1, q);
-- 8: add_Cow_agent(1, H, P);  9: START of TRAIL  10: .(1, trail_message->y);  11: FINISH of TRAIL
abbrev pub arguments_body : List Statement
arguments_body =
    adds_trail 1 (name 1 (codes "N") ∷ name 1 (codes "H") ∷ [])
    ∷ adds_trail 2 (name 2 (codes "N") ∷ name 2 (codes "P") ∷ [])
    ∷ adds_trail 3 (name 3 (codes "H") ∷ name 3 (codes "N") ∷ [])
    ∷ adds_trail 4 (number (pos 1) ∷ element 4 (codes "H") (number (pos 0)) ∷ [])
    ∷ adds_trail 5 (number (pos 1) ∷ get 5 (codes "get_h") ∷ [])
    ∷ adds_trail 6 (name 6 (codes "H") ∷ [])
    ∷ adds_trail 7 (number (pos 1) ∷ name 7 (codes "q") ∷ [])
    ∷ calls 8 (codes "add_Cow_agent") (number (pos 1) ∷ name 8 (codes "H") ∷ name 8 (codes "P") ∷ [])
    ∷ loop_over 9 (codes "TRAIL") (statements_of (
    adds_trail 10 (number (pos 1) ∷ field 10 (codes "trail_message") (codes "y") ∷ [])
    ∷ [])) 11 (codes "TRAIL")
    ∷ []

-- an argument for an array is an array of its length, of the memory or of a message; the fault has the call's word
abbrev pub ArgumentsCase : Type 0
ArgumentsCase = GrazeFaults arguments_body (
    found WrongLength 2 (codes "add_trail_message")
    ∷ found NeedsIndex 3 (codes "H")
    ∷ found WrongLength 3 (codes "add_trail_message")
    ∷ found WrongLength 4 (codes "add_trail_message")
    ∷ found WrongLength 5 (codes "add_trail_message")
    ∷ found WrongCount 6 (codes "add_trail_message")
    ∷ found NeedsIndex 6 (codes "H")
    ∷ found UnknownName 7 (codes "q")
    ∷ found WrongLength 7 (codes "add_trail_message")
    ∷ [])
