-- What a place has round it is kept where scopes and loops begin and where names are declared.
use Rattle.std.proofs.Common.{◌≡◌, ℕ, ◌<◌, List, [], ◌∷◌, map, Option, Some, None, Bool, true, false, refl, sym, ap}
use Rattle.std.proofs.Common.{◌∙◌, arith}
use Rattle.std.specs.Prelude.{◌==◌, ◌||◌, not, length, slice_get, option_map, is_some, nat_lt}
use Rattle.std.specs.List.{list_any}
use Rattle.std.specs.Str.{bytes_eq}
use Rattle.std.proofs.lemmas.Bool.Decides.{Decides-eqb}
use Rattle.std.proofs.lemmas.Option.{slice_get-map, slice_get_within}
use Rattle.std.proofs.lemmas.Slice.Eq.{bytes_eq-Decides}
use Rattle.std.proofs.lemmas.Bool.{lt-ltb, or_parts, not-false, or_right}
use Rattle.flame_rows.proofs.Lists.{append-is_nil_left, append-is_nil_right}
use Rattle.flame_rows.proofs.Truths.{is_some-false}
use Rattle.flame_spec.specs.declared.models.Input.{Input}
use Rattle.flame_spec.specs.declared.models.MessageType.{MessageType}
use Rattle.flame_spec.specs.declared.models.Model.{Model}
use Rattle.flame_spec.specs.declared.trees.Parameter.{Parameter}
use Rattle.flame_spec.specs.Functions.{Place}
use Rattle.flame_spec.specs.KnownNames.{is_among}
use Rattle.flame_spec.specs.Lists.{numbered_where}
use Rattle.flame_spec.specs.Scopes.{Context, Sight, over_message, over_none, at_entry, in_scope, in_loop, in_value_of}
use Rattle.flame_spec.specs.Scopes.{after_name, after_items, after_parameters, given_at, is_local, is_outside}
use Rattle.flame_spec.specs.Scopes.{is_open_over, input_in, input_found}
use Rattle.flame_spec.specs.StatementFaults.{is_taken, declared_faults, item_faults, items_faults, parameters_faults}
use Rattle.flame_spec.specs.StatementFaults.{optional_stored_faults}
use Rattle.flame_spec.specs.StatementFaults.{is_input, opened, start_faults}
use Rattle.flame_spec.specs.ExpressionFaults.{fault_where}
use Rattle.flame_spec.specs.Trees.{Declared}
use Rattle.flame_spec.proofs.FaultTests.{fault_where-none}
use Rattle.flame_body.specs.WordSlots.{number_found}
use Rattle.flame_body.specs.FunctionBodies.{widths_in, input_width}
use Rattle.flame_body.specs.FitLaws.{Suits}
use Rattle.flame_body.specs.BodyFits.{Around, at_beginning, in_plain_loop, in_input_loop, is_inside}
use Rattle.flame_body.proofs.Columned.{never, numbered-at, same-number}

-- what a place has round it suits what it sees; it is inside an input only where a loop over its message is open; and
-- it is in a loop where one is open
pub record Stands (context : Context) (sight : Sight) (around : Around) : Type 0 where
  pub suits : Suits context sight around
  pub opened : (message : MessageType) (n : ℕ) (input : Input) → input_in context.runs message ≡ Some (n, input)
      → is_inside n around ≡ true → is_open_over sight message ≡ true
  pub looped : around.in_loop ≡ not (is_outside sight.loops)

-- ---- inputs

-- an input goes by the name of its message
same-input :
    (runs : Option Place) (one two : MessageType) → one.name ≡ two.name → input_in runs one ≡ input_in runs two
same-input None one two h = refl
same-input (Some place) one two h =
    ap (λ name. numbered_where (λ input. bytes_eq input.message name) place.function.inputs) h

-- an input is over messages of one name
same-message :
    (runs : Option Place) (one two : MessageType) (n : ℕ) (a b : Input)
    → input_in runs one ≡ Some (n, a)
    → input_in runs two ≡ Some (n, b)
    → one.name ≡ two.name
same-message None one two n a b h g = absurd (cc)
same-message (Some place) one two n a b h g =
    let inputs = place.function.inputs in
    let left = numbered-at (λ input. bytes_eq input.message one.name) 0 inputs n a h in
    let right = numbered-at (λ input. bytes_eq input.message two.name) 0 inputs n b g in
    let places : left.place ≡ right.place = omega (arith, left.number, right.number) in
    let found : Some a ≡ Some b = sym left.there ∙ ap (slice_get inputs) places ∙ right.there in
    let same : a ≡ b = cc in
    let first : a.message ≡ one.name = (bytes_eq-Decides a.message one.name).0 left.passes_it in
    let second : b.message ≡ two.name = (bytes_eq-Decides b.message two.name).0 right.passes_it in
    sym first ∙ ap (λ input. input.message) same ∙ second

-- an input is among those of its function
pub input-number :
    (model : Model) (runs : Option Place) (message : MessageType) (n : ℕ) (input : Input)
    → input_in runs message ≡ Some (n, input)
    → n < length (widths_in model runs).inputs
input-number model None message n input h = absurd (cc)
input-number model (Some place) message n input h =
    let inputs = place.function.inputs in
    let at = numbered-at (λ other. bytes_eq other.message message.name) 0 inputs n input h in
    let within : at.place < length (map (input_width model) inputs) =
    slice_get_within (map (input_width model) inputs) at.place (input_width model input)
    (slice_get-map (input_width model) inputs at.place ∙ ap (option_map (input_width model)) at.there) in
    omega (arith, at.number)

-- ---- scopes and loops

-- at the beginning of a function
pub stands-at-entry :
    (context : Context) → Stands context at_entry (at_beginning (widths_in context.model context.runs))
stands-at-entry context = record {
  suits = record {
    widths = refl;
    fresh = λ word seen. never seen;
    inputs = λ message entered. never entered;
    inside = λ message n input entered is. never entered;
  };
  opened = λ message n input is inside. never inside;
  looped = refl;
}

-- at the beginning of a scope
pub stands-in-scope :
    (context : Context) (sight : Sight) (around : Around)
    → Stands context sight around
    → Stands context (in_scope sight) around
stands-in-scope context sight around s = record {
  suits = record {
    widths = s.suits.widths;
    fresh = s.suits.fresh;
    inputs = s.suits.inputs;
    inside = s.suits.inside;
  };
  opened = s.opened;
  looped = s.looped;
}

-- in the value of an item
pub suits-in-value :
    (context : Context) (sight : Sight) (around : Around) (name : List ℕ)
    → Suits context sight around
    → Suits context (in_value_of name sight) around
suits-in-value context sight around name s = record {
  widths = s.widths;
  fresh = s.fresh;
  inputs = s.inputs;
  inside = s.inside;
}

-- in a loop over no message
pub stands-in-plain :
    (context : Context) (sight : Sight) (around : Around)
    → Stands context sight around
    → Stands context (in_loop over_none sight) (in_plain_loop around)
stands-in-plain context sight around s = record {
  suits = record {
    widths = s.suits.widths;
    fresh = s.suits.fresh;
    inputs = s.suits.inputs;
    inside = s.suits.inside;
  };
  opened = s.opened;
  looped = refl;
}

-- once a loop over this message is open, of which there is an input, each loop is over an input
over-inputs :
    (context : Context) (sight : Sight) (around : Around) (m : MessageType) (n : ℕ) (input : Input)
    → input_in context.runs m ≡ Some (n, input)
    → Suits context sight around
    → (message : MessageType)
    → is_open_over (in_loop (over_message m.name) sight) message ≡ true
    → is_some (input_in context.runs message) ≡ true
over-inputs context sight around m n input is s message entered = by_name (bytes_eq m.name message.name) refl entered
  where
    by_name :
        (b : Bool)
        → bytes_eq m.name message.name ≡ b
        → (b || is_open_over sight message) ≡ true
        → is_some (input_in context.runs message) ≡ true
    by_name true same entered =
        let name : m.name ≡ message.name = (bytes_eq-Decides m.name message.name).0 same in
        ap is_some (sym (same-input context.runs m message name) ∙ is)
    by_name false other entered = s.inputs message entered

-- and is inside its input
over-inside :
    (context : Context) (sight : Sight) (around : Around) (m : MessageType) (n : ℕ) (input : Input)
    → input_in context.runs m ≡ Some (n, input)
    → Suits context sight around
    → (message : MessageType) (k : ℕ) (other : Input)
    → is_open_over (in_loop (over_message m.name) sight) message ≡ true
    → input_in context.runs message ≡ Some (k, other)
    → is_inside k (in_input_loop n around) ≡ true
over-inside context sight around m n input is s message k other entered found =
    by_name (bytes_eq m.name message.name) refl entered
  where
    by_name :
        (b : Bool)
        → bytes_eq m.name message.name ≡ b
        → (b || is_open_over sight message) ≡ true
        → ((n == k) || is_inside k around) ≡ true
    by_name true same entered =
        let name : m.name ≡ message.name = (bytes_eq-Decides m.name message.name).0 same in
        let number : n ≡ k =
        same-number (n, input) (k, other) (sym is ∙ same-input context.runs m message name ∙ found) in
        ap (λ b. b || is_inside k around) ((Decides-eqb n k).1 number)
    by_name false another entered = or_right (n == k) (is_inside k around) (s.inside message k other entered found)

-- and the place is inside no other input
over-opened :
    (context : Context) (sight : Sight) (around : Around) (m : MessageType) (n : ℕ) (input : Input)
    → input_in context.runs m ≡ Some (n, input)
    → Stands context sight around
    → (message : MessageType) (k : ℕ) (other : Input)
    → input_in context.runs message ≡ Some (k, other)
    → is_inside k (in_input_loop n around) ≡ true
    → is_open_over (in_loop (over_message m.name) sight) message ≡ true
over-opened context sight around m n input is s message k other found inside = by_number (n == k) refl inside
  where
    by_number :
        (b : Bool)
        → (n == k) ≡ b
        → (b || is_inside k around) ≡ true
        → (bytes_eq m.name message.name || is_open_over sight message) ≡ true
    by_number true same inside =
        let number : n ≡ k = (Decides-eqb n k).0 same in
        let name : m.name ≡ message.name =
        same-message context.runs m message n input other is (found ∙ ap (λ i. Some (i, other)) (sym number)) in
        ap (λ b. b || is_open_over sight message) ((bytes_eq-Decides m.name message.name).1 name)
    by_number false another inside =
        or_right (bytes_eq m.name message.name) (is_open_over sight message) (s.opened message k other found inside)

-- in a loop over a message of which there is an input
pub stands-in-input :
    (context : Context) (sight : Sight) (around : Around) (m : MessageType) (n : ℕ) (input : Input)
    → input_in context.runs m ≡ Some (n, input)
    → Stands context sight around
    → Stands context (in_loop (over_message m.name) sight) (in_input_loop n around)
stands-in-input context sight around m n input is s = record {
  suits = record {
    widths = s.suits.widths;
    fresh = s.suits.fresh;
    inputs = over-inputs context sight around m n input is s.suits;
    inside = over-inside context sight around m n input is s.suits;
  };
  opened = over-opened context sight around m n input is s;
  looped = refl;
}

-- ---- names that are declared

-- the model gives nothing to a name that is declared
fresh-name :
    (context : Context) (sight : Sight) (line : ℕ) (name : List ℕ)
    → declared_faults context sight line name ≡ []
    → given_at context name ≡ None
fresh-name context sight line name none =
    is_some-false (given_at context name)
    (or_parts (is_among name sight.scope) (is_some (given_at context name)) (fault_where-none (is_taken context sight name) context _ line name none)).1

-- nor to any local, once the name is declared
suits-fresh :
    (context : Context) (sight : Sight) (around : Around) (name : List ℕ)
    → given_at context name ≡ None
    → Suits context sight around
    → (word : List ℕ)
    → is_local (after_name sight name) word ≡ true
    → given_at context word ≡ None
suits-fresh context sight around name none s word seen = by_name (bytes_eq word name) refl seen
  where
    by_name :
        (b : Bool)
        → bytes_eq word name ≡ b
        → ((b || is_among word sight.scope) || list_any (is_among word) sight.outer) ≡ true
        → given_at context word ≡ None
    by_name true same seen = ap (given_at context) ((bytes_eq-Decides word name).0 same) ∙ none
    by_name false other seen = s.fresh word seen

-- once a name is declared, what suited suits
pub suits-after :
    (context : Context) (sight : Sight) (around : Around) (line : ℕ) (name : List ℕ)
    → declared_faults context sight line name ≡ []
    → Suits context sight around
    → Suits context (after_name sight name) around
suits-after context sight around line name none s = record {
  widths = s.widths;
  fresh = suits-fresh context sight around name (fresh-name context sight line name none) s;
  inputs = s.inputs;
  inside = s.inside;
}

-- once a name is declared
stands-after :
    (context : Context) (sight : Sight) (around : Around) (line : ℕ) (name : List ℕ)
    → declared_faults context sight line name ≡ []
    → Stands context sight around
    → Stands context (after_name sight name) around
stands-after context sight around line name none s = record {
  suits = suits-after context sight around line name none s.suits;
  opened = s.opened;
  looped = s.looped;
}

-- once parameters are declared
pub stands-after-parameters :
    (context : Context) (sight : Sight) (around : Around) (parameters : List Parameter)
    → Stands context sight around
    → parameters_faults context sight parameters ≡ []
    → Stands context (after_parameters sight parameters) around
stands-after-parameters context sight around [] s none = s
stands-after-parameters context sight around (p ∷ ps) s none =
    let front = declared_faults context sight p.line p.name in
    let behind = parameters_faults context (after_name sight p.name) ps in
    stands-after-parameters context (after_name sight p.name) around ps
    (stands-after context sight around p.line p.name (append-is_nil_left front behind none) s)
    (append-is_nil_right front behind none)

-- the first item of a declaration may have its name
pub name-declared :
    (context : Context) (sight : Sight) (item : Declared) (items : List Declared)
    → items_faults context sight (item ∷ items) ≡ []
    → declared_faults context sight item.line item.name ≡ []
name-declared context sight item items none =
    append-is_nil_left (declared_faults context sight item.line item.name)
    (optional_stored_faults context (in_value_of item.name sight) item.value)
    (append-is_nil_left (item_faults context sight item) (items_faults context (after_name sight item.name) items) none)

-- once the items of a declaration are declared
pub stands-after-items :
    (context : Context) (sight : Sight) (around : Around) (items : List Declared)
    → Stands context sight around
    → items_faults context sight items ≡ []
    → Stands context (after_items sight items) around
stands-after-items context sight around [] s none = s
stands-after-items context sight around (item ∷ items) s none =
    stands-after-items context (after_name sight item.name) around items
    (stands-after context sight around item.line item.name (name-declared context sight item items none) s)
    (append-is_nil_right (item_faults context sight item) (items_faults context (after_name sight item.name) items) none)

-- ---- message loops

-- the loop is over an input of the function, and stands in no other loop over it
pub record LoopStands (context : Context) (sight : Sight) (around : Around) (found : Option (ℕ × MessageType))
    : Type 0 where
  pub number : ℕ
  pub is : number_found (input_found context.runs found) ≡ number
  pub within : nat_lt number (length around.widths.inputs) ≡ true
  pub outside : is_inside number around ≡ false
  pub stands : Stands context (in_loop (opened found) sight) (in_input_loop number around)

-- there is an input of the message
input-there :
    (runs : Option Place) (message : MessageType)
    → is_input runs message ≡ true
    → (found : ℕ × Input) × (input_in runs message ≡ Some found)
input-there None message h = absurd (cc)
input-there (Some place) message h = by_input (input_in (Some place) message) refl h
  where
    by_input :
        (found : Option (ℕ × Input))
        → input_in (Some place) message ≡ found
        → is_some found ≡ true
        → (f : ℕ × Input) × (input_in (Some place) message ≡ Some f)
    by_input (Some f) is some = (f, is)
    by_input None is some = absurd (cc)

-- a loop over a message that is in no loop over it is not inside its input
not-inside :
    (context : Context) (sight : Sight) (around : Around) (m : MessageType) (n : ℕ) (input : Input)
    → Stands context sight around
    → input_in context.runs m ≡ Some (n, input)
    → is_open_over sight m ≡ false
    → is_inside n around ≡ false
not-inside context sight around m n input s is closed = by_test (is_inside n around) refl
  where
    by_test : (b : Bool) → is_inside n around ≡ b → is_inside n around ≡ false
    by_test true inside = never (sym closed ∙ s.opened m n input is inside)
    by_test false outside = outside

-- a loop with a START without faults
pub loop-stands :
    (context : Context) (sight : Sight) (around : Around) (found : Option (ℕ × MessageType)) (line : ℕ) (word : List ℕ)
    → Stands context sight around
    → start_faults context sight found line word ≡ []
    → LoopStands context sight around found
loop-stands context sight around None line word s none = absurd (cc)
loop-stands context sight around (Some m) line word s none =
    let strange = fault_where (not (is_input context.runs m.1)) context _ line word in
    let nested = fault_where (is_open_over sight m.1) context _ line word in
    let input = input-there context.runs m.1
    (not-false (is_input context.runs m.1)
    (fault_where-none (not (is_input context.runs m.1)) context _ line word (append-is_nil_left strange nested none))) in
    let closed : is_open_over sight m.1 ≡ false =
    fault_where-none (is_open_over sight m.1) context _ line word (append-is_nil_right strange nested none) in
    let count : length around.widths.inputs ≡ length (widths_in context.model context.runs).inputs =
    ap (λ w. length w.inputs) s.suits.widths in
    let below : input.0.0 < length (widths_in context.model context.runs).inputs =
    input-number context.model context.runs m.1 input.0.0 input.0.1 input.1 in
    record {
      number = input.0.0;
      is = ap number_found input.1;
      within = lt-ltb _ _ (omega arith);
      outside = not-inside context sight around m.1 input.0.0 input.0.1 s input.1 closed;
      stands = stands-in-input context sight around m.1 input.0.0 input.0.1 input.1 s;
    }
