-- What names stand for where they have no fault.
use Rattle.std.proofs.Common.{◌≡◌, ℕ, List, [], ◌∷◌, Option, Some, None, IsTrue, IsFalse}
use Rattle.std.proofs.lemmas.Bool.{not-false}
use Rattle.flame_rows.proofs.Lists.{append-is_nil_left, append-is_nil_right}
use Rattle.flame_spec.specs.declared.trees.Parameter.{Parameter}
use Rattle.flame_spec.specs.declared.faults.CheckKind.TheVariants.{UnknownName, NeedsIndex, NotArray, ReadOnly}
use Rattle.flame_spec.specs.declared.faults.CheckKind.TheVariants.{Redeclared}
use Rattle.flame_spec.specs.Trees.{Expression, name, Indexed, Declared, Assigned, Statements}
use Rattle.flame_spec.specs.Trees.{at as element}
use Rattle.flame_spec.specs.Scopes.{Context, Sight}
use Rattle.flame_spec.specs.ExpressionFaults.{names_array, expression_faults}
use Rattle.flame_spec.specs.StatementFaults.{subscript_faults, assignment_faults, stored_faults, items_faults}
use Rattle.flame_spec.proofs.FaultTests.{fault_where-none}
use Rattle.flame_spec_laws.specs.CheckLaws.{IsReadable, IsAssignable, IsNew}
use Rattle.flame_spec_laws.specs.BodyParts.{defining}
use Rattle.flame_spec_laws.proofs.NoFaults.{part_faults}
use Rattle.flame_spec_laws.proofs.Sights.{readable, assignable, new}

pub name_read :
    (at : Context) (sight : Sight) (line : ℕ) (word : List ℕ)
    → expression_faults at sight (name line word) ≡ []
    → IsReadable at sight word × IsFalse (names_array at word)
name_read at sight line word none =
    (readable at sight line word (append-is_nil_left _ _ none), fault_where-none _ at NeedsIndex line word (append-is_nil_right _ _ none))

pub name_indexed :
    (at : Context) (sight : Sight) (line : ℕ) (word : List ℕ) (index_line : ℕ) (index : Expression)
    → expression_faults at sight (element line word index_line index) ≡ []
    → IsReadable at sight word × IsTrue (names_array at word)
name_indexed at sight line word index_line index none =
    let both = append-is_nil_left _ _ none in (
      readable at sight line word (append-is_nil_left _ _ both),
      not-false _ (fault_where-none _ at NotArray line word (append-is_nil_right _ _ both)),
    )

bare :
    (at : Context) (sight : Sight) (line : ℕ) (word : List ℕ) (o : Option Indexed)
    → subscript_faults at sight line word o ≡ []
    → o ≡ None
    → IsFalse (names_array at word)
bare at sight line word None clear is = fault_where-none _ at NeedsIndex line word clear
bare at sight line word (Some subscript) clear is = cc

indexed :
    (at : Context) (sight : Sight) (line : ℕ) (word : List ℕ) (o : Option Indexed) (subscript : Indexed)
    → subscript_faults at sight line word o ≡ []
    → o ≡ Some subscript
    → IsTrue (names_array at word)
indexed at sight line word None subscript clear is = cc
indexed at sight line word (Some other) subscript clear is =
    not-false _ (fault_where-none _ at NotArray line word (append-is_nil_left _ _ clear))

pub name_assigned :
    (at : Context) (sight : Sight) (a : Assigned)
    → assignment_faults at sight a ≡ []
    → IsAssignable at sight a.name
    × (a.subscript ≡ None → IsFalse (names_array at a.name))
    × ((subscript : Indexed) → a.subscript ≡ Some subscript → IsTrue (names_array at a.name))
name_assigned at sight a none =
    let place = append-is_nil_left _ (stored_faults at sight a.value) none in
    let names = append-is_nil_left _ (subscript_faults at sight a.line a.name a.subscript) place in
    let clear = append-is_nil_right _ (subscript_faults at sight a.line a.name a.subscript) place in (
      assignable at sight a.name
          (not-false _ (fault_where-none _ at UnknownName a.line a.name (append-is_nil_left _ _ names)))
          (fault_where-none _ at ReadOnly a.line a.name (append-is_nil_right _ _ names)),
      bare at sight a.line a.name a.subscript clear,
      λ subscript. indexed at sight a.line a.name a.subscript subscript clear,
    )

pub name_declared :
    (at : Context) (sight : Sight) (item : Declared) (items : List Declared)
    → items_faults at sight (item ∷ items) ≡ []
    → IsNew at sight item.name
name_declared at sight item items none =
    new at sight item.name
    (fault_where-none _ at Redeclared item.line item.name (append-is_nil_left _ _ (append-is_nil_left _ _ none)))

pub parameter_declared :
    (at : Context) (sight : Sight) (parameter : Parameter) (parameters : List Parameter) (body : Statements)
    → part_faults at (defining (parameter ∷ parameters) body) sight ≡ []
    → IsNew at sight parameter.name
parameter_declared at sight parameter parameters body none =
    new at sight parameter.name
    (fault_where-none _ at Redeclared parameter.line parameter.name (append-is_nil_left _ _ (append-is_nil_left _ _ none)))
