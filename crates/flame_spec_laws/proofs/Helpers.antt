-- What helpers do not do.
use Rattle.std.proofs.Common.{◌≡◌, ℕ, true, List, [], Contains, Option, Some, None, IsTrue, ◌⊎◌, inl, inr, refl, true≢false}
use Rattle.std.proofs.Common.{ap, sym, ◌∙◌, subst, arith}
use Rattle.flame_spec.specs.declared.models.Variable.{Variable}
use Rattle.flame_spec.specs.declared.models.MessageType.{MessageType}
use Rattle.flame_spec.specs.Functions.{Place}
use Rattle.flame_spec.specs.LookUps.{Given}
use Rattle.flame_spec.specs.Trees.{Expressions, Indexed, Assigned}
use Rattle.flame_spec.specs.Scopes.{Context, Sight, memory_in, memory_at, messages_in, messages_at, given_at, is_local}
use Rattle.flame_spec.specs.ExpressionFaults.{gives_array, names_array}
use Rattle.flame_spec_laws.specs.CheckLaws.{Means, names_local, names_memory, names_constant, names_iteration, IsMemory}
use Rattle.flame_spec_laws.specs.CheckLaws.{IsAssignable, IsHelperCall, IsCall, stores_value, sends_output, bears_agent}
use Rattle.flame_spec_laws.specs.CheckLaws.{calls_helper}
use Rattle.flame_spec_laws.specs.HelperLaws.{MeansAside, aside_local, aside_constant, aside_iteration}
use Rattle.flame_spec_laws.proofs.LookedUp.{Gives, of_memory, of_constant, of_iteration, gives}

no_member : {X : Type 0} (x : X) → Contains [] x → ⊥
no_member x (k, below, at) = omega arith

-- an array is a memory variable
array_memory : (at : Context) (word : List ℕ) → names_array at word ≡ true → IsMemory at word
array_memory at word array = by_given (given_at at word) refl
  where
    by_given : (o : Option Given) → given_at at word ≡ o → IsMemory at word
    by_given None e = absurd (true≢false (sym array ∙ ap gives_array e))
    by_given (Some g) e = by_kind (gives at word g e)
      where
        by_kind : Gives at word g → IsMemory at word
        by_kind (of_memory column variable is c same) = (variable, c, same)
        by_kind (of_constant number name is c same) =
            absurd (true≢false (sym array ∙ ap gives_array (e ∙ ap Some is)))
        by_kind (of_iteration is same) = absurd (true≢false (sym array ∙ ap gives_array (e ∙ ap Some is)))

module _ (at : Context) (alone : at.runs ≡ None) where
  pub no_memory : (variable : Variable) → Contains (memory_at at) variable → ⊥
  no_memory variable c = no_member variable (subst (λ vs. Contains vs variable) (ap memory_in alone) c)

  pub no_message : (message : MessageType) → Contains (messages_at at) message → ⊥
  no_message message c =
      no_member message (subst (λ ms. Contains ms message) (ap (λ o. messages_in o at.model) alone) c)

  pub no_array : (word : List ℕ) → names_array at word ≡ true → ⊥
  no_array word array = let (variable, c, same) = array_memory at word array in no_memory variable c

  no_place : (place : Place) → at.runs ≡ Some place → ⊥
  no_place place runs = by_ends (sym alone ∙ runs)
    where
      by_ends : None ≡ Some place → ⊥
      by_ends e = cc

  pub aside : (sight : Sight) (word : List ℕ) → Means at sight word → MeansAside at sight word
  aside sight word (names_local e) = aside_local e
  aside sight word (names_memory variable c same) = absurd (no_memory variable c)
  aside sight word (names_constant name c same) = aside_constant name c same
  aside sight word (names_iteration same) = aside_iteration same

  pub assigns_local :
      (sight : Sight) (a : Assigned)
      → IsAssignable at sight a.name
      → ((subscript : Indexed) → a.subscript ≡ Some subscript → IsTrue (names_array at a.name))
      → IsTrue (is_local sight a.name) × (a.subscript ≡ None)
  assigns_local sight a is arrays = (by_kind is.stands, by_subscript a.subscript refl)
    where
      by_kind : IsTrue (is_local sight a.name) ⊎ IsMemory at a.name → IsTrue (is_local sight a.name)
      by_kind (inl e) = e
      by_kind (inr (variable, c, same)) = absurd (no_memory variable c)

      by_subscript : (o : Option Indexed) → a.subscript ≡ o → o ≡ None
      by_subscript None e = refl
      by_subscript (Some subscript) e = absurd (no_array a.name (arrays subscript e))

  pub only_helpers : (word : List ℕ) (arguments : Expressions) → IsCall at word arguments
      → IsHelperCall at word arguments
  only_helpers word arguments (stores_value variable c same single counted) = absurd (no_memory variable c)
  only_helpers word arguments (sends_output place message runs c same counted output) = absurd (no_place place runs)
  only_helpers word arguments (bears_agent place type runs c same counted) = absurd (no_place place runs)
  only_helpers word arguments (calls_helper is) = is
