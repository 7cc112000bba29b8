-- What words and loops stand for where tests found no fault.
use Rattle.std.proofs.Common.{◌≡◌, ◌≢◌, ℕ, true, false, not, ◌||◌, List, [], ◌∷◌, Contains, Some, IsTrue, ◌⊎◌, inl, inr, true≢false}
use Rattle.std.proofs.Common.{refl, ap, sym, ◌∙◌, subst}
use Rattle.std.specs.Prelude.{is_some}
use Rattle.std.specs.Str.{bytes_eq}
use Rattle.std.proofs.lemmas.Bool.{not-true, not-false, or_cases, or_parts, and_parts}
use Rattle.flame_rows.proofs.Bytes.{bytes_eq-true, bytes_eq-same}
use Rattle.flame_rows.proofs.Truths.{is_some-false, is_some-true}
use Rattle.flame_spec.specs.declared.models.MessageType.{MessageType}
use Rattle.flame_spec.specs.declared.faults.CheckKind.TheVariants.{UnknownName}
use Rattle.flame_spec.specs.KnownNames.{is_among}
use Rattle.flame_spec.specs.LookUps.{Given, constant, iteration}
use Rattle.flame_spec.specs.Scopes.{Context, Loop, over_message, over_none, Sight, given_at}
use Rattle.flame_spec.specs.Scopes.{is_local, is_name_of, is_visible, is_over, is_open_over, is_outside}
use Rattle.flame_spec.specs.ExpressionFaults.{unknown_faults}
use Rattle.flame_spec.specs.StatementFaults.{is_only_read, is_read_only, is_taken}
use Rattle.flame_spec.proofs.FaultTests.{fault_where-none}
use Rattle.flame_spec_laws.specs.CheckLaws.{Means, names_local, names_memory, names_constant, names_iteration, IsReadable}
use Rattle.flame_spec_laws.specs.CheckLaws.{IsMemory, IsAssignable, IsNew}
use Rattle.flame_spec_laws.proofs.Found.{list_any-found, list_any-at}
use Rattle.flame_spec_laws.proofs.LookedUp.{Gives, of_memory, of_constant, of_iteration, gives}

-- ---- names

-- a word that is visible means something
pub means : (at : Context) (sight : Sight) (word : List ℕ) → is_visible at sight word ≡ true → Means at sight word
means at sight word seen =
    by_kind
    (or_cases (is_some (given_at at word)) (is_local sight word) (and_parts (not (is_name_of sight.own word)) _ seen).1)
  where
    by_given : (g : Given) → Gives at word g → Means at sight word
    by_given g (of_memory column variable is c same) = names_memory variable c same
    by_given g (of_constant number name is c same) = names_constant name c same
    by_given g (of_iteration is same) = names_iteration same

    by_kind : (is_some (given_at at word) ≡ true) ⊎ (is_local sight word ≡ true) → Means at sight word
    by_kind (inl e) = let (g, found) = is_some-true (given_at at word) e in by_given g (gives at word g found)
    by_kind (inr e) = names_local e

-- a word that is visible is not the name of the item in whose value it stands
pub not_own : (at : Context) (sight : Sight) (word : List ℕ) → is_visible at sight word ≡ true → sight.own ≢ Some word
not_own at sight word seen own =
    let hidden : is_name_of sight.own word ≡ true = ap (λ o. is_name_of o word) own ∙ bytes_eq-same word word refl in
    let shown : is_name_of sight.own word ≡ false
    = not-true (is_name_of sight.own word)
    (and_parts _ (is_some (given_at at word) || is_local sight word) seen).0 in
    true≢false (sym hidden ∙ shown)

pub readable :
    (at : Context) (sight : Sight) (line : ℕ) (word : List ℕ)
    → unknown_faults at sight line word ≡ []
    → IsReadable at sight word
readable at sight line word none =
    let seen : is_visible at sight word ≡ true = not-false _ (fault_where-none _ at UnknownName line word none) in
    record { means = means at sight word seen; other = not_own at sight word seen }

-- a word that is visible and not only read may be assigned to
pub assignable :
    (at : Context) (sight : Sight) (word : List ℕ)
    → is_visible at sight word ≡ true
    → is_read_only at word ≡ false
    → IsAssignable at sight word
assignable at sight word seen free = record {
  stands = by_kind
      (or_cases (is_some (given_at at word)) (is_local sight word)
      (and_parts (not (is_name_of sight.own word)) _ seen).1);
  no_constant = no_constant;
  no_iteration = no_iteration;
}
  where
    no_constant : (number : ℕ) → given_at at word ≢ Some (constant number)
    no_constant number e = true≢false (sym (ap is_only_read e) ∙ free)

    no_iteration : given_at at word ≢ Some iteration
    no_iteration e = true≢false (sym (ap is_only_read e) ∙ free)

    by_given : (g : Given) → given_at at word ≡ Some g → Gives at word g → IsMemory at word
    by_given g found (of_memory column variable is c same) = (variable, c, same)
    by_given g found (of_constant number name is c same) = absurd (no_constant number (found ∙ ap Some is))
    by_given g found (of_iteration is same) = absurd (no_iteration (found ∙ ap Some is))

    by_kind :
        (is_some (given_at at word) ≡ true) ⊎ (is_local sight word ≡ true)
        → IsTrue (is_local sight word) ⊎ IsMemory at word
    by_kind (inl e) =
        let (g, found) = is_some-true (given_at at word) e in
        inr (by_given g found (gives at word g found))
    by_kind (inr e) = inl e

-- a word that is not taken is new
pub new : (at : Context) (sight : Sight) (word : List ℕ) → is_taken at sight word ≡ false → IsNew at sight word
new at sight word free = record {
  scope = λ c.
      true≢false
      (sym (list_any-at (bytes_eq word) sight.scope word c (bytes_eq-same word word refl))
      ∙ (or_parts (is_among word sight.scope) (is_some (given_at at word)) free).0);
  given = is_some-false (given_at at word) (or_parts (is_among word sight.scope) (is_some (given_at at word)) free).1;
}

-- ---- loops

-- a loop over the message is among those that are open
pub open_over :
    (sight : Sight) (message : MessageType)
    → is_open_over sight message ≡ true
    → Contains sight.loops (over_message message.name)
open_over sight message any = by_loop (list_any-found (is_over message) sight.loops any)
  where
    by_loop :
        (loop : Loop) × Contains sight.loops loop × (is_over message loop ≡ true)
        → Contains sight.loops (over_message message.name)
    by_loop (over_message name, c, e) =
        let same : name ≡ message.name = bytes_eq-true name message.name e in
        subst (λ n. Contains sight.loops (over_message n)) same c
    by_loop (over_none, c, e) = cc

-- a loop over the message that is among those that are open is found
pub over_open :
    (sight : Sight) (message : MessageType)
    → Contains sight.loops (over_message message.name)
    → is_open_over sight message ≡ true
over_open sight message c =
    list_any-at (is_over message) sight.loops (over_message message.name) c
    (bytes_eq-same message.name message.name refl)

-- where a loop is open there are loops
pub within : (loops : List Loop) → is_outside loops ≡ false → loops ≢ []
within [] e empty = cc
within (loop ∷ loops) e empty = by_ends empty
  where
    by_ends : loop ∷ loops ≡ [] → ⊥
    by_ends f = cc
