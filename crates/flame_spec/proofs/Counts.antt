-- What is counted has few members.
use Rattle.std.proofs.Common.{◌<◌, ◌^◌, List, length, IsTrue, ◌≡◌, ℕ, ◌+◌, ◌∷◌, arith, true, false, Bool, not, cond, []}
use Rattle.std.specs.List.{list_all, position_or_len}
use Rattle.std.proofs.lemmas.Bool.{ltb-true, and_parts, false≢true}
use Rattle.std.specs.Prelude.{◌==◌, ◌||◌}
use Rattle.flame_spec.specs.declared.models.Model.{Model}
use Rattle.flame_spec.specs.Functions.{functions}
use Rattle.flame_spec.specs.Counted.{is_numbered, is_counted_message, is_counted_agent, is_counted}
use Rattle.flame_spec.specs.Below.{is_in}

-- there is a number for each member
pub few : {X : Type 0} (members : List X) → IsTrue (is_numbered members) → length members < 2 ^ 32
few members h = ltb-true _ _ h

-- what the test of a model says of each of its lists
pub record HasFew (model : Model) : Type 0 where
  pub constants : IsTrue (is_numbered model.constants)
  pub files : IsTrue (is_numbered model.files)
  pub units : IsTrue (is_numbered model.units)
  pub messages : IsTrue (is_numbered model.messages)
  pub each_message : IsTrue (list_all is_counted_message model.messages)
  pub agents : IsTrue (is_numbered model.agents)
  pub each_agent : IsTrue (list_all is_counted_agent model.agents)
  pub functions : IsTrue (is_numbered (functions model))

pub has_few : (model : Model) → IsTrue (is_counted model) → HasFew model
has_few model h =
    let a = and_parts _ _ h in
    let b = and_parts _ _ a.1 in
    let c = and_parts _ _ b.1 in
    let d = and_parts _ _ c.1 in
    let e = and_parts _ _ d.1 in
    let f = and_parts _ _ e.1 in
    let g = and_parts _ _ f.1 in
    record {
      constants = a.0;
      files = b.0;
      units = c.0;
      messages = d.0;
      each_message = e.0;
      agents = f.0;
      each_agent = g.0;
      functions = g.1;
    }

pub position_or_len-is_in : (g : ℕ) (xs : List ℕ) → is_in g xs ≡ true → position_or_len (λ f. f == g) xs < length xs
position_or_len-is_in g [] h = absurd (false≢true h)
position_or_len-is_in g (x ∷ xs) h = go (x == g) h (position_or_len-is_in g xs)
  where
    go : (b : Bool) → (b || is_in g xs) ≡ true → (is_in g xs ≡ true → position_or_len (λ f. f == g) xs < length xs) → cond (not b) (1 + position_or_len (λ f. f == g) xs) 0 < length (x ∷ xs)
    go true h rest = omega arith
    go false h rest = omega (arith, rest h)
