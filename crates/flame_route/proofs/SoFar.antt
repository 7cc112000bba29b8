-- The routes of the functions of the first types of a model.
use Rattle.std.proofs.Common.{◌≡◌, ℕ, zero, suc, ◌+◌, List, [], ◌∷◌, ◌++◌, length, map, take, Some, refl, sym, ap, ◌∙◌, subst, arith}
use Rattle.std.specs.Prelude.{slice_get}
use Rattle.std.specs.List.{AllZip}
use Rattle.std.proofs.lemmas.Option.{slice_get_within}
use Rattle.std.proofs.lemmas.List.{length-append}
use Rattle.std.proofs.lemmas.Slice.Zip.{AllZip-long}
use Rattle.flame_rows.proofs.Lists.{AllZip-append}
use Rattle.flame_spec.specs.declared.models.AgentType.{AgentType}
use Rattle.flame_spec.specs.declared.models.Function.{Function}
use Rattle.flame_spec.specs.declared.models.Model.{Model}
use Rattle.flame_spec.specs.Choice.{functions_out}
use Rattle.flame_spec.specs.Functions.{Place, at_type, functions_from}
use Rattle.flame_spec.specs.States.{states}
use Rattle.flame_route.specs.declared.routes.Route.{Route}
use Rattle.flame_route.specs.declared.routes.Routes.{Routes}
use Rattle.flame_route.specs.ModelRoutes.{ReadsEach, ReadMessages, IsRouteOf, AreRoutesOf, start_place}
use Rattle.flame_route.specs.TypeRoutes.{ReadsAll, numbers_out, AreTypeRoutes}
use Rattle.flame_route.proofs.Places.{of-either, ComesFrom, comes-from}
use Rattle.flame_route.proofs.Numbers.{numbers-of-type, functions-more}

-- those of the first i types
pub record AreSoFar (model : Model) (i : ℕ) (routes : List Route) (leaving : List (List (List ℕ))) : Type 0 where
  pub each : AllZip (IsRouteOf model) (functions_from 0 (take i model.agents)) routes
  pub choices : (n : ℕ) (place : Place) (route : Route)
      → slice_get (functions_from 0 (take i model.agents)) n ≡ Some place
      → slice_get routes n ≡ Some route
      → slice_get (functions_out model place.agent place.function.current) route.choice ≡ Some n
  pub count : length leaving ≡ i
  pub lists : (agent : ℕ) (type : AgentType) (out : List (List ℕ))
      → slice_get model.agents agent ≡ Some type
      → slice_get leaving agent ≡ Some out
      → out ≡ map (functions_out model agent) (states type.functions)

module _ (model : Model) (i : ℕ) (type : AgentType) (routes : List Route) (leaving : List (List (List ℕ)))
    (own : List Route) (out : List (List ℕ)) (at : slice_get model.agents i ≡ Some type)
    (far : AreSoFar model i routes leaving) (mine : AreTypeRoutes model i type (length routes) own out) where
  abbrev before : List Place
  before = functions_from 0 (take i model.agents)

  abbrev places : List Place
  places = map (at_type i type) type.functions

  grown : functions_from 0 (take (i + 1) model.agents) ≡ before ++ places
  grown =
      let next : i + 1 ≡ suc i = omega arith in
      let same : 0 + i ≡ i = omega arith in
      ap (λ n. functions_from 0 (take n model.agents)) next
      ∙ functions-more 0 i model.agents type at
      ∙ ap (λ n. before ++ map (at_type n type) type.functions) same

  many : length before ≡ length routes
  many = (sym (AllZip-long (IsRouteOf model) before routes far.each))

  out-here : (state : List ℕ) → numbers_out (length routes) type.functions state ≡ functions_out model i state
  out-here state =
      let same : i ≡ 0 + i = omega arith in
      let none : 0 + length before ≡ length routes = omega (arith, many) in
      sym (numbers-of-type i 0 i 0 model.agents type state same at ∙ ap (λ n. numbers_out n type.functions state) none)

  -- the choice of a function of this type
  own-choice :
      (n j k : ℕ) (place : Place) (route : Route)
      → n ≡ length before + j → n ≡ length routes + k
      → slice_get places j ≡ Some place
      → slice_get own k ≡ Some route
      → slice_get (functions_out model place.agent place.function.current) route.choice ≡ Some n
  own-choice n j k place route e f there given =
      let from : ComesFrom (at_type i type) type.functions j place = comes-from (at_type i type) type.functions j place there in
      let same : k ≡ j = omega (arith, e, f, many) in
      let choice = mine.choices j from.item route from.there (ap (slice_get own) (sym same) ∙ given) in
      let number : length routes + j ≡ n = omega (arith, e, many) in
      let here : slice_get (functions_out model i from.item.current) route.choice ≡ Some n =
      ap (λ ns. slice_get ns route.choice) (sym (out-here from.item.current)) ∙ choice ∙ ap (λ m. Some m) number in
      subst (λ (p : Place). slice_get (functions_out model p.agent p.function.current) route.choice ≡ Some n) from.same here

  more-choices :
      (n : ℕ) (place : Place) (route : Route)
      → slice_get (before ++ places) n ≡ Some place
      → slice_get (routes ++ own) n ≡ Some route
      → slice_get (functions_out model place.agent place.function.current) route.choice ≡ Some n
  more-choices n place route there given =
      of-either _ before places n place there
      (λ early. of-either _ routes own n route given
      (λ known. far.choices n place route early known)
      (λ k f late. absurd (omega (arith, f, many, slice_get_within before n place early))))
      (λ j e late. of-either _ routes own n route given
      (λ known. absurd (omega (arith, e, many, slice_get_within routes n route known)))
      (λ k f own-there. own-choice n j k place route e f late own-there))

  same-lists : map (numbers_out (length routes) type.functions) (states type.functions) ≡ map (functions_out model i) (states type.functions)
  same-lists = ap (λ f. map f (states type.functions)) (λ k state. out-here state k)

  more-leaving :
      (agent : ℕ) (kind : AgentType) (lists : List (List ℕ))
      → slice_get model.agents agent ≡ Some kind
      → slice_get (leaving ++ out ∷ []) agent ≡ Some lists
      → lists ≡ map (functions_out model agent) (states kind.functions)
  more-leaving agent kind lists there given =
      of-either _ leaving (out ∷ []) agent lists given
      (λ early. far.lists agent kind lists there early)
      (λ j e late. last j e late)
    where
      last :
          (j : ℕ) → agent ≡ length leaving + j → slice_get (out ∷ []) j ≡ Some lists
          → lists ≡ map (functions_out model agent) (states kind.functions)
      last zero e late =
          let here : agent ≡ i = omega (arith, e, far.count) in
          let same : out ≡ lists = cc in
          let kinds : Some type ≡ Some kind = sym at ∙ ap (slice_get model.agents) (sym here) ∙ there in
          let kind-here : type ≡ kind = cc in
          sym same ∙ mine.lists ∙ same-lists
          ∙ ap (λ (k : AgentType). map (functions_out model i) (states k.functions)) kind-here
          ∙ ap (λ a. map (functions_out model a) (states kind.functions)) (sym here)
      last (suc j) e late = absurd (cc)

  -- one type more
  pub one-type-more : AreSoFar model (i + 1) (routes ++ own) (leaving ++ out ∷ [])
  one-type-more = record {
    each = subst (λ ps. AllZip (IsRouteOf model) ps (routes ++ own)) (sym grown)
        (AllZip-append (IsRouteOf model) before routes places own far.each mine.each);
    choices = λ n place route there given. more-choices n place route (ap (λ ps. slice_get ps n) (sym grown) ∙ there) given;
    count = length-append leaving (out ∷ []) ∙ ap (λ n. n + 1) far.count;
    lists = more-leaving;
  }

-- those of all types
pub all-types :
    (model : Model) (routes : Routes)
    → AreSoFar model (length model.agents) routes.routes routes.leaving
    → routes.starts ≡ map start_place model.agents
    → AreRoutesOf model routes
all-types model routes far starts =
    let all = taken-whole model.agents in
    record {
      each = subst (λ types. AllZip (IsRouteOf model) (functions_from 0 types) routes.routes) all far.each;
      choices = λ n place route there given. far.choices n place route (ap (λ types. slice_get (functions_from 0 types) n) all ∙ there) given;
      leaving = (far.count, far.lists);
      starts = starts;
    }
  where
    taken-whole : (types : List AgentType) → take (length types) types ≡ types
    taken-whole [] = refl
    taken-whole (type ∷ types) = ap (λ ts. type ∷ ts) (taken-whole types)

-- those of no type
pub none-so-far : (model : Model) → AreSoFar model 0 [] []
none-so-far model = record {
  each = tt;
  choices = λ n place route there given. absurd (cc);
  count = refl;
  lists = λ agent type out there given. absurd (cc);
}

-- where a function of a type stands among those of all types
record Placed (a : ℕ) (types : List AgentType) (function : Function) : Type 0 where
  number : ℕ
  place : Place
  here : slice_get (functions_from a types) number ≡ Some place
  same : place.function ≡ function

within :
    (a : ℕ) (type : AgentType) (own : List Function) (rest : List Place) (k : ℕ) (f : Function)
    → slice_get own k ≡ Some f
    → slice_get (map (at_type a type) own ++ rest) k ≡ Some (at_type a type f)
within a type [] rest k f at = absurd (cc)
within a type (g ∷ own) rest zero f at = let same : g ≡ f = cc in ap (λ (h : Function). Some (at_type a type h)) same
within a type (g ∷ own) rest (suc k) f at = within a type own rest k f at

behind :
    (xs ys : List Place) (n : ℕ) (place : Place)
    → slice_get ys n ≡ Some place → (m : ℕ) × (slice_get (xs ++ ys) m ≡ Some place)
behind [] ys n place at = (n, at)
behind (x ∷ xs) ys n place at = let more = behind xs ys n place at in (suc more.0, more.1)

placed :
    (a i : ℕ) (types : List AgentType) (type : AgentType) (function : Function) (j : ℕ)
    → slice_get types i ≡ Some type → slice_get type.functions j ≡ Some function → Placed a types function
placed a i [] type function j at there = absurd (cc)
placed a zero (t ∷ ts) type function j at there =
    let same : t ≡ type = cc in
    record {
      number = j;
      place = at_type a t function;
      here = within a t t.functions (functions_from (a + 1) ts) j function (ap (λ (k : AgentType). slice_get k.functions j) same ∙ there);
      same = refl;
    }
placed a (suc i) (t ∷ ts) type function j at there =
    let more = placed (a + 1) i ts type function j at there in
    let found = behind (map (at_type a t) t.functions) (functions_from (a + 1) ts) more.number more.place more.here in
    record { number = found.0; place = more.place; here = found.1; same = more.same }

-- the inputs of a type's functions are among those of the model
pub read-all :
    (model : Model) (i : ℕ) (type : AgentType)
    → ReadMessages model → slice_get model.agents i ≡ Some type → ReadsAll model type.functions
read-all model i type reads at j function there =
    let found = placed 0 i model.agents type function j at there in
    subst (ReadsEach model) found.same (reads found.number found.place found.here)
