-- What look-ups find.
use Rattle.std.proofs.Common.{◌≡◌, ℕ, ◌+◌, Bool, true, false, cond, List, [], ◌∷◌, codes, Contains, Option, Some, None}
use Rattle.std.proofs.Common.{refl, ap, sym, ◌∙◌, subst}
use Rattle.std.specs.Str.{bytes_eq}
use Rattle.flame_rows.proofs.Bytes.{bytes_eq-true}
use Rattle.flame_spec.specs.declared.models.Variable.{Variable}
use Rattle.flame_ops.specs.Ascii.{capitals}
use Rattle.flame_spec.specs.Lists.{numbered_from}
use Rattle.flame_spec.specs.Columns.{width_of, columned_from}
use Rattle.flame_spec.specs.LookUps.{Given, in_memory, constant, iteration, is_iteration, memory_named, constant_named}
use Rattle.flame_spec.specs.LookUps.{given_by}
use Rattle.flame_spec.specs.LookUps.{given_beside}
use Rattle.flame_spec.specs.Scopes.{Context, memory_at, given_at}
use Rattle.flame_spec_laws.proofs.Found.{Contains-head, Contains-later}

-- ---- options

-- ---- lists

pub numbered-found :
    {X : Type 0} (p : X → Bool) (i : ℕ) (xs : List X) (found : ℕ × X)
    → numbered_from p i xs ≡ Some found
    → Contains xs found.1 × (p found.1 ≡ true)
numbered-found p i [] found e = cc
numbered-found {X} p i (x ∷ xs) found e = by_head (p x) refl e (numbered-found p (i + 1) xs found)
  where
    by_head :
        (b : Bool)
        → p x ≡ b
        → cond b (Some (i, x)) (numbered_from p (i + 1) xs) ≡ Some found
        → (numbered_from p (i + 1) xs ≡ Some found → Contains xs found.1 × (p found.1 ≡ true))
        → Contains (x ∷ xs) found.1 × (p found.1 ≡ true)
    by_head true holds e' later =
        let pair : (i, x) ≡ found = cc in
        let same : x ≡ found.1 = ap (λ q. q.1) pair in
        (subst (λ z. Contains (x ∷ xs) z) same (Contains-head x xs), sym (ap p same) ∙ holds)
    by_head false fails e' later =
        let (c, holds) = later e' in
        (Contains-later x xs found.1 c, holds)

pub columned-found :
    (p : Variable → Bool) (i : ℕ) (xs : List Variable) (found : ℕ × Variable)
    → columned_from p i xs ≡ Some found
    → Contains xs found.1 × (p found.1 ≡ true)
columned-found p i [] found e = cc
columned-found p i (x ∷ xs) found e = by_head (p x) refl e (columned-found p (i + width_of x) xs found)
  where
    by_head :
        (b : Bool)
        → p x ≡ b
        → cond b (Some (i, x)) (columned_from p (i + width_of x) xs) ≡ Some found
        → (columned_from p (i + width_of x) xs ≡ Some found → Contains xs found.1 × (p found.1 ≡ true))
        → Contains (x ∷ xs) found.1 × (p found.1 ≡ true)
    by_head true holds e' later =
        let pair : (i, x) ≡ found = cc in
        let same : x ≡ found.1 = ap (λ q. q.1) pair in
        (subst (λ z. Contains (x ∷ xs) z) same (Contains-head x xs), sym (ap p same) ∙ holds)
    by_head false fails e' later =
        let (c, holds) = later e' in
        (Contains-later x xs found.1 c, holds)

-- ---- what the model gives

-- where the model gives this to the word
pub data Gives (at : Context) (word : List ℕ) (g : Given) : Type 0 where
  of_memory :
      (column : ℕ) (variable : Variable)
      → g ≡ in_memory column variable
      → Contains (memory_at at) variable
      → word ≡ capitals variable.name
      → Gives at word g
  of_constant :
      (number : ℕ) (name : List ℕ)
      → g ≡ constant number
      → Contains at.model.constants name
      → word ≡ capitals name
      → Gives at word g
  of_iteration : g ≡ iteration → word ≡ codes "iteration_loop" → Gives at word g

pub gives : (at : Context) (word : List ℕ) (g : Given) → given_at at word ≡ Some g → Gives at word g
gives at word g given = by_memory (memory_named (memory_at at) word) refl given
  where
    by_constant :
        (o : Option (ℕ × List ℕ))
        → constant_named at.model.constants word ≡ o
        → given_beside o word ≡ Some g
        → Gives at word g
    by_constant (Some found) e e' =
        let (c, same) = numbered-found (λ name. bytes_eq (capitals name) word) 0 at.model.constants found e in
        let is : constant found.0 ≡ g = cc in
        of_constant found.0 found.1 (sym is) c (sym (bytes_eq-true (capitals found.1) word same))
    by_constant None e e' = by_iteration (is_iteration word) refl e'
      where
        by_iteration : (b : Bool) → is_iteration word ≡ b → cond b (Some iteration) None ≡ Some g → Gives at word g
        by_iteration true holds f =
            let is : iteration ≡ g = cc in
            of_iteration (sym is) (sym (bytes_eq-true (codes "iteration_loop") word holds))
        by_iteration false fails f = cc

    by_memory :
        (o : Option (ℕ × Variable))
        → memory_named (memory_at at) word ≡ o
        → given_by o at.model.constants word ≡ Some g
        → Gives at word g
    by_memory (Some found) e e' =
        let (c, same) = columned-found (λ variable. bytes_eq (capitals variable.name) word) 0 (memory_at at) found e in
        let is : in_memory found.0 found.1 ≡ g = cc in
        of_memory found.0 found.1 (sym is) c (sym (bytes_eq-true (capitals found.1.name) word same))
    by_memory None e e' = by_constant (constant_named at.model.constants word) refl e'
