-- Helpers whose calls go in a cycle, and helpers whose calls are too deep.
use Rattle.std.specs.Prelude.{ℕ, ◌+◌, List, [], ◌∷◌, ◌++◌, length, codes, Bool, false, ◌||◌, nat_lt}
use Rattle.std.specs.Prelude.{Option, Some, None, slice_get, reverse, ◌==◌}
use Rattle.flame_spec.specs.declared.models.Model.{Model}
use Rattle.flame_spec.specs.declared.faults.CheckFault.{CheckFault}
use Rattle.flame_spec.specs.declared.faults.CheckKind.{CheckKind}
use Rattle.flame_spec.specs.declared.faults.CheckKind.TheVariants.{Recursive, DeepCalls}
use Rattle.flame_spec.specs.Below.{first_below}
use Rattle.flame_spec.specs.CallFaults.{Deed, calls, called_by, deed_of}
use Rattle.flame_spec.specs.Definitions.{Definition, helper_named}
use Rattle.flame_spec.specs.Layers.{layer}
use Rattle.flame_spec.specs.ModelOrder.{first_left, step_back, walk_back, from_there, begun_with_least}
use Rattle.flame_spec.specs.Scopes.{Context}
use Rattle.flame_spec.specs.Trees.{Stored, plain, called, Declared, Assigned}
use Rattle.flame_spec.specs.Trees.{Statement, empty, declare, assign, call, block, branch, while, for, do_while, loop_over, return, break, continue}
use Rattle.flame_spec.specs.Trees.{Statements, no_more, also, Arms, no_arms, arm}

-- ---- who calls whom

-- this is a call of the helper of this number [own]
abbrev pub is_call_of : ℕ → Option Deed → Bool
is_call_of number (Some (calls other helper)) = other == number
is_call_of number _ = false

-- what is stored is what the helper returns [own]
abbrev pub stored_calls : Context → ℕ → Stored → Bool
stored_calls context number (plain e) = false
stored_calls context number (called line word arguments) = is_call_of number (called_by (helper_named context.helpers word))

-- what an item stores, if it does, is what the helper returns [own]
abbrev pub optional_calls : Context → ℕ → Option Stored → Bool
optional_calls context number None = false
optional_calls context number (Some value) = stored_calls context number value

-- one of the items stores what the helper returns [own]
abbrev pub items_call : Context → ℕ → List Declared → Bool
items_call context number [] = false
items_call context number (item ∷ items) = optional_calls context number item.value || items_call context number items

-- an assignment that may be missing stores what the helper returns [own]
abbrev pub step_calls : Context → ℕ → Option Assigned → Bool
step_calls context number None = false
step_calls context number (Some a) = stored_calls context number a.value

abbrev mutual
  -- the statement has a call of the helper of this number [own]
  pub statement_calls : Context → ℕ → Statement → Bool
  statement_calls context number empty = false
  statement_calls context number (declare items) = items_call context number items
  statement_calls context number (assign a) = stored_calls context number a.value
  statement_calls context number (call line word arguments) = is_call_of number (deed_of context word)
  statement_calls context number (block body) = statements_call context number body
  statement_calls context number (branch arms otherwise) =
      arms_call context number arms || statements_call context number otherwise
  statement_calls context number (while line test body) = statements_call context number body
  statement_calls context number (for line first test step body) =
      statements_call context number first || step_calls context number step || statements_call context number body
  statement_calls context number (do_while line body test) = statements_call context number body
  statement_calls context number (loop_over line word body end_line end_word) = statements_call context number body
  statement_calls context number (return e) = false
  statement_calls context number (break line) = false
  statement_calls context number (continue line) = false

  -- one of the statements has such a call [own]
  pub statements_call : Context → ℕ → Statements → Bool
  statements_call context number no_more = false
  statements_call context number (also statement statements) =
      statement_calls context number statement || statements_call context number statements

  -- one of the bodies has such a call [own]
  pub arms_call : Context → ℕ → Arms → Bool
  arms_call context number no_arms = false
  arms_call context number (arm test body arms) = statements_call context number body || arms_call context number arms

-- where a helper's body stands [own]
abbrev pub helper_context : Model → List Definition → Definition → Context
helper_context model hs d = record { model = model; helpers = hs; runs = None; file = d.file }

-- the caller, where there is one, has a call of the helper of this number [own]
abbrev pub caller_calls : Model → List Definition → ℕ → Option Definition → Bool
caller_calls model hs number None = false
caller_calls model hs number (Some d) = statements_call (helper_context model hs d) number d.body

-- the helper of number h is called by that of number g [own]
abbrev pub is_called_by : Model → List Definition → ℕ → ℕ → Bool
is_called_by model hs h g = caller_calls model hs h (slice_get hs g)

-- ---- cycles

-- the part of a path that repeats, from caller to called helper, begun with its first helper in source order; the path
-- goes from g, and from each helper to the first one that it calls of those that are left over, when again and again
-- each helper is taken all of whose called helpers are taken [own]
abbrev pub call_cycle_from : ℕ → (ℕ → ℕ → Bool) → ℕ → List ℕ
call_cycle_from n before g = begun_with_least (reverse (walk_back (n + 1) (step_back n before) [] g))

-- the cycle of calls that is met from the first helper that is left over, where there is one [own]
abbrev pub call_cycle : ℕ → (ℕ → ℕ → Bool) → List ℕ
call_cycle n before = from_there (first_left n before) (call_cycle_from n before)

-- the name of the helper, where there is one [own]
abbrev pub name_in : Option Definition → List ℕ
name_in None = []
name_in (Some d) = d.name

-- the names of these helpers, with ` -> ` behind each [own]
abbrev pub arrows : List Definition → List ℕ → List ℕ
arrows hs [] = []
arrows hs (h ∷ more) = name_in (slice_get hs h) ++ (codes " -> " ++ arrows hs more)

-- the cycle written out, with its first helper again at its end [own]
abbrev pub cycle_text : List Definition → List ℕ → List ℕ
cycle_text hs [] = []
cycle_text hs (h ∷ more) = arrows hs (h ∷ more) ++ name_in (slice_get hs h)

-- a fault at the helper, where there is one, with this name [own]
abbrev pub fault_at : CheckKind → List ℕ → Option Definition → List CheckFault
fault_at kind name None = []
fault_at kind name (Some d) = record { kind = kind; file = d.file; line = d.line; name = name } ∷ []

-- the fault of this cycle, which stands at its first helper [own]
abbrev pub recursive_at : List Definition → List ℕ → List CheckFault
recursive_at hs [] = []
recursive_at hs (h ∷ more) = fault_at Recursive (cycle_text hs (h ∷ more)) (slice_get hs h)

-- a cycle of calls: at most one fault [own]
abbrev pub recursive_faults : Model → List Definition → List CheckFault
recursive_faults model hs = recursive_at hs (call_cycle (length hs) (is_called_by model hs))

-- ---- depth

-- how many levels of calls the helper has, its own counted: 1 without calls of helpers, else 1 more than the greatest of
-- those that it calls; where calls go in a cycle it says nothing [own]
abbrev pub call_height : Model → List Definition → ℕ → ℕ
call_height model hs h = layer (length hs) (is_called_by model hs) h + 1

-- how deep calls of helpers may go [own]
abbrev pub deepest_calls : ℕ
deepest_calls = 64

-- the first helper whose calls are too deep [own]
abbrev pub first_deep : Model → List Definition → Option ℕ
first_deep model hs = first_below (λ h. nat_lt deepest_calls (call_height model hs h)) (length hs)

-- the fault of this helper, if there is one [own]
abbrev pub deep_at : List Definition → Option ℕ → List CheckFault
deep_at hs None = []
deep_at hs (Some h) = fault_at DeepCalls (name_in (slice_get hs h)) (slice_get hs h)

-- calls of helpers that are too deep: at most one fault [own]
abbrev pub deep_faults : Model → List Definition → List CheckFault
deep_faults model hs = deep_at hs (first_deep model hs)
