-- Tables of states, one function more.
use Rattle.std.proofs.Common.{◌≡◌, ℕ, ◌+◌, ◌<◌, List, [], ◌∷◌, ◌++◌, take, set, refl, sym, ap, ◌∙◌, true, false, Bool, Some, cond, ⊎_elim}
use Rattle.std.specs.Prelude.{◌==◌, ◌&&◌, ◌||◌, slice_get}
use Rattle.std.specs.Str.{bytes_eq}
use Rattle.std.proofs.Math.Bool.{or-false}
use Rattle.std.proofs.lemmas.Bool.{eq-eqb, ne_eqb, cases_eq}
use Rattle.std.proofs.lemmas.List.{length-set}
use Rattle.flame_rows.proofs.Lists.{slice_get-set_same, slice_get-set_other}
use Rattle.flame_spec.specs.Functions.{Place}
use Rattle.flame_spec.specs.Below.{is_in}
use Rattle.flame_depend.specs.FunctionTables.{Table, listed}
use Rattle.flame_depend.specs.Links.{enters_at, listed_at, AreEntering}
use Rattle.flame_depend.proofs.Gets.{some_within, test_more, noted}

pub entering_more : (types : ℕ) (ps : List Place) (tables : List Table) (i : ℕ) (p : Place) (old new : Table)
    → AreEntering types (take i ps) tables
    → slice_get ps i ≡ Some p
    → slice_get tables p.agent ≡ Some old
    → ((q : List ℕ) → listed new q ≡ cond (bytes_eq q p.function.next) (listed old q ++ i ∷ []) (listed old q))
    → AreEntering types (take (i + 1) ps) (set tables p.agent new)
entering_more types ps tables i p old new so_far here was now = record {
  len = length-set tables p.agent new ∙ so_far.len;
  at = λ agent l q f. ⊎_elim (same agent l q f) (other agent l q f) (cases_eq p.agent agent);
}
  where
    and_false : (b : Bool) → (b && false) ≡ false
    and_false true = refl
    and_false false = refl

    same : (agent : ℕ) → agent < types → (q : List ℕ) (f : ℕ) → p.agent ≡ agent → is_in f (listed_at (slice_get (set tables p.agent new) agent) q) ≡ enters_at (slice_get (take (i + 1) ps) f) agent q
    same agent l q f e =
        let before : is_in f (listed old q) ≡ enters_at (slice_get (take i ps) f) agent q = ap (λ o. is_in f (listed_at o q)) (sym (ap (slice_get tables) (sym e) ∙ was)) ∙ so_far.at agent l q f in
        ap (λ k. is_in f (listed_at (slice_get (set tables p.agent new) k) q)) (sym e)
        ∙ ap (λ o. is_in f (listed_at o q)) (slice_get-set_same tables p.agent new (some_within tables p.agent old was).0)
        ∙ ap (is_in f) (now q)
        ∙ noted f i (bytes_eq q p.function.next) (listed old q)
        ∙ ap (λ b. b || ((i == f) && bytes_eq q p.function.next)) before
        ∙ ap (λ b. enters_at (slice_get (take i ps) f) agent q || ((i == f) && (b && bytes_eq q p.function.next))) (sym (eq-eqb p.agent agent e))
        ∙ test_more (λ o. enters_at o agent q) refl ps i p f here

    other : (agent : ℕ) → agent < types → (q : List ℕ) (f : ℕ) → (p.agent ≡ agent → ⊥) → is_in f (listed_at (slice_get (set tables p.agent new) agent) q) ≡ enters_at (slice_get (take (i + 1) ps) f) agent q
    other agent l q f e =
        let none : ((i == f) && ((p.agent == agent) && bytes_eq q p.function.next)) ≡ false = ap (λ b. (i == f) && (b && bytes_eq q p.function.next)) (ne_eqb p.agent agent e) ∙ and_false (i == f) in
        ap (λ o. is_in f (listed_at o q)) (slice_get-set_other tables p.agent agent new e)
        ∙ so_far.at agent l q f
        ∙ sym (ap (λ b. enters_at (slice_get (take i ps) f) agent q || b) none ∙ or-false (enters_at (slice_get (take i ps) f) agent q))
        ∙ test_more (λ o. enters_at o agent q) refl ps i p f here
