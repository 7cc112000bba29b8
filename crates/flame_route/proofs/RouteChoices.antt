-- The routes of the first functions of a type.
use Rattle.std.proofs.Common.{◌≡◌, ℕ, zero, suc, ◌+◌, List, [], ◌∷◌, ◌++◌, length, map, take, drop, Bool, true, false, cond, Some, refl, sym, ap, ◌∙◌, arith, append_assoc, subst}
use Rattle.std.specs.Prelude.{slice_get, option_map}
use Rattle.std.specs.List.{AllZip}
use Rattle.std.specs.Str.{bytes_eq}
use Rattle.std.proofs.lemmas.List.{length-append}
use Rattle.std.proofs.lemmas.Option.{slice_get-map}
use Rattle.std.proofs.lemmas.Slice.Eq.{bytes_eq-Decides}
use Rattle.flame_rows.proofs.Lists.{drop-there, slice_get-behind}
use Rattle.flame_spec.specs.declared.models.AgentType.{AgentType}
use Rattle.flame_spec.specs.declared.models.Function.{Function}
use Rattle.flame_spec.specs.declared.models.Model.{Model}
use Rattle.flame_spec.specs.Functions.{at_type}
use Rattle.flame_spec.specs.States.{states}
use Rattle.flame_route.specs.declared.routes.Route.{Route}
use Rattle.flame_route.specs.ModelRoutes.{IsRouteOf}
use Rattle.flame_route.specs.TypeRoutes.{numbers_out, AreTaken, AreTypeRoutes}
use Rattle.flame_route.proofs.Places.{zip-taken, of-either}

-- at first there are none
pub none-taken :
    (model : Model) (agent : ℕ) (type : AgentType) (first : ℕ) (under : List ℕ → List ℕ)
    → ((state : List ℕ) → under state ≡ [])
    → AreTaken model agent type first 0 [] under
none-taken model agent type first under none = record {
  each = tt;
  count = refl;
  choices = λ j function route there given. absurd (cc);
  rest = λ state.
      let same : first + 0 ≡ first = omega arith in
      ap (λ ns. ns ++ numbers_out (first + 0) type.functions state) (none state)
      ∙ ap (λ n. numbers_out n type.functions state) same;
}

module _ (model : Model) (agent : ℕ) (type : AgentType) (first i : ℕ) (routes : List Route) (under : List ℕ → List ℕ)
    (function : Function) (route : Route) (after : List ℕ → List ℕ)
    (at : slice_get type.functions i ≡ Some function)
    (so : AreTaken model agent type first i routes under)
    (is : IsRouteOf model (at_type agent type function) route)
    (choice : route.choice ≡ length (under function.current))
    (noted : (state : List ℕ)
    → after state ≡ cond (bytes_eq function.current state) (under state ++ (first + i) ∷ []) (under state)) where
  behind : List ℕ → List ℕ
  behind state = numbers_out (first + i + 1) (drop (suc i) type.functions) state

  opened : (state : List ℕ)
      → under state ++ cond (bytes_eq function.current state) ((first + i) ∷ behind state) (behind state)
      ≡ numbers_out first type.functions state
  unfolding behind
  opened state =
      sym (ap (λ fs. under state ++ numbers_out (first + i) fs state) (drop-there type.functions i function at))
      ∙ so.rest state

  own-choice : slice_get (numbers_out first type.functions function.current) route.choice ≡ Some (first + i)
  own-choice =
      let state = function.current in
      let self : bytes_eq state state ≡ true = (bytes_eq-Decides state state).1 refl in
      sym (ap (λ ns. slice_get ns route.choice) (opened state))
      ∙ ap (λ b. slice_get (under state ++ cond b ((first + i) ∷ behind state) (behind state)) route.choice) self
      ∙ ap (slice_get (under state ++ (first + i) ∷ behind state)) choice
      ∙ slice_get-behind (under state) (first + i) (behind state)

  more-rest : (state : List ℕ)
      → after state ++ numbers_out (first + (i + 1)) (drop (i + 1) type.functions) state
      ≡ numbers_out first type.functions state
  unfolding behind
  more-rest state =
      let next : i + 1 ≡ suc i = omega arith in
      let number : first + (i + 1) ≡ first + i + 1 = omega arith in
      ap (λ ns. ns ++ numbers_out (first + (i + 1)) (drop (i + 1) type.functions) state) (noted state)
      ∙ ap (λ n. cond (bytes_eq function.current state) (under state ++ (first + i) ∷ []) (under state) ++ numbers_out n (drop (i + 1) type.functions) state) number
      ∙ ap (λ n. cond (bytes_eq function.current state) (under state ++ (first + i) ∷ []) (under state) ++ numbers_out (first + i + 1) (drop n type.functions) state) next
      ∙ by-test (bytes_eq function.current state)
      ∙ opened state
    where
      by-test :
          (b : Bool)
          → cond b (under state ++ (first + i) ∷ []) (under state) ++ behind state
          ≡ under state ++ cond b ((first + i) ∷ behind state) (behind state)
      by-test true = append_assoc (under state) ((first + i) ∷ []) (behind state)
      by-test false = refl

  more-choices :
      (j : ℕ) (other : Function) (given : Route)
      → slice_get type.functions j ≡ Some other
      → slice_get (routes ++ route ∷ []) j ≡ Some given
      → slice_get (numbers_out first type.functions other.current) given.choice ≡ Some (first + j)
  more-choices j other given there known =
      of-either _ routes (route ∷ []) j given known
      (λ early. so.choices j other given there early)
      (λ k e late. last k e late)
    where
      last :
          (k : ℕ) → j ≡ length routes + k → slice_get (route ∷ []) k ≡ Some given
          → slice_get (numbers_out first type.functions other.current) given.choice ≡ Some (first + j)
      last zero e late =
          let here : j ≡ i = omega (arith, e, so.count) in
          let same : route ≡ given = cc in
          let functions : Some function ≡ Some other = sym at ∙ ap (slice_get type.functions) (sym here) ∙ there in
          let function-here : function ≡ other = cc in
          ap (λ (r : Route). slice_get (numbers_out first type.functions other.current) r.choice) (sym same)
          ∙ ap (λ (f : Function). slice_get (numbers_out first type.functions f.current) route.choice) (sym function-here)
          ∙ own-choice ∙ ap (λ n. Some (first + n)) (sym here)
      last (suc k) e late = absurd (cc)

  -- one function more
  pub one-function-more : AreTaken model agent type first (i + 1) (routes ++ route ∷ []) after
  one-function-more = record {
    each = zip-taken (IsRouteOf model) (map (at_type agent type) type.functions) i routes (at_type agent type function) route
        (slice_get-map (at_type agent type) type.functions i ∙ ap (option_map (at_type agent type)) at) so.each is;
    count = length-append routes (route ∷ []) ∙ ap (λ n. n + 1) so.count;
    choices = more-choices;
    rest = more-rest;
  }

-- those of all functions of the type
pub all-functions :
    (model : Model) (agent : ℕ) (type : AgentType) (first : ℕ) (routes : List Route) (under : List ℕ → List ℕ)
    (leaving : List (List ℕ))
    → AreTaken model agent type first (length type.functions) routes under
    → leaving ≡ map under (states type.functions)
    → AreTypeRoutes model agent type first routes leaving
all-functions model agent type first routes under leaving so given = record {
  each = subst (λ places. AllZip (IsRouteOf model) places routes) (taken-whole type.functions) so.each;
  choices = so.choices;
  lists = given ∙ ap (λ f. map f (states type.functions)) (λ k state. under-all state k);
}
  where
    taken-whole :
        (functions : List Function)
        → take (length functions) (map (at_type agent type) functions) ≡ map (at_type agent type) functions
    taken-whole [] = refl
    taken-whole (function ∷ functions) = ap (λ places. at_type agent type function ∷ places) (taken-whole functions)

    none-behind : (ns : List ℕ) → ns ≡ ns ++ []
    none-behind [] = refl
    none-behind (n ∷ ns) = ap (λ ms. n ∷ ms) (none-behind ns)

    dropped-whole : (functions : List Function) → drop (length functions) functions ≡ []
    dropped-whole [] = refl
    dropped-whole (function ∷ functions) = dropped-whole functions

    under-all : (state : List ℕ) → under state ≡ numbers_out first type.functions state
    under-all state =
        none-behind (under state)
        ∙ sym (ap (λ fs. under state ++ numbers_out (first + length type.functions) fs state) (dropped-whole type.functions))
        ∙ so.rest state
