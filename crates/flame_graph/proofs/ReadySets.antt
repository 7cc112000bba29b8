-- Sets of numbers, read by their lists.
use Rattle.std.proofs.Common.{◌≡◌, ℕ, ◌<◌, List, [], ◌∷◌, length, refl, sym, ap, ◌∙◌, arith, true, false, Bool, not, Some, None, Option, cond, ⊎_elim}
use Rattle.std.specs.Prelude.{◌==◌, ◌&&◌, ◌||◌, ◌↔◌, IsSome, IfSome, IsTrue, MatchOption}
use Rattle.std.specs.Ordering.{nat_cmp, is_eq}
use Rattle.std.specs.declared.cmp.Ordering.TheVariants.{Less, Equal, Greater}
use Rattle.std.specs.Cmp.{nat_cmp_is}
use Rattle.std.specs.List.{list_any}
use Rattle.std.specs.BTreeSet.{BTreeSet, contains, IsLowerBound, UpdatesBy, btree_set_len}
use Rattle.std.proofs.lemmas.Bool.{eq-eqb, ne_eqb, cases_order, false≢true}
use Rattle.std.proofs.lemmas.Map.Keys.{le_from_not_gt}
use Rattle.flame_rows.proofs.Truths.{eqb-sym}
use Rattle.flame_spec.specs.Below.{is_in}
use Rattle.flame_graph.specs.Ready.{IsFirstOf}

is_eq_same : (a b : ℕ) → is_eq (nat_cmp a b) ≡ (a == b)
is_eq_same a b = ⊎_elim
    (λ e. ap is_eq (sym (nat_cmp_is a b Equal e)) ∙ sym (eq-eqb a b e))
    (λ s. ⊎_elim
    (λ l. ap is_eq (sym (nat_cmp_is a b Less l)) ∙ sym (ne_eqb a b (λ q. absurd (omega (arith, l, q)))))
    (λ l. ap is_eq (sym (nat_cmp_is a b Greater l)) ∙ sym (ne_eqb a b (λ q. absurd (omega (arith, l, q)))))
    s)
    (cases_order a b)

pub contains_is : (s : BTreeSet ℕ) (q : ℕ) → contains nat_cmp s q ≡ is_in q s.keys
contains_is s q = ap (λ test. list_any test s.keys) (λ i k. (is_eq_same q k ∙ eqb-sym q k) i)

pub cond_or : (b x : Bool) → cond b true x ≡ (x || b)
cond_or true true = refl
cond_or true false = refl
cond_or false true = refl
cond_or false false = refl

cond_and : (b x : Bool) → cond b false x ≡ (x && not b)
cond_and true true = refl
cond_and true false = refl
cond_and false true = refl
cond_and false false = refl

pub added_is : (s n : BTreeSet ℕ) (f : ℕ) → UpdatesBy nat_cmp (nat_cmp f) s n true → (g : ℕ) → is_in g n.keys ≡ (is_in g s.keys || (f == g))
added_is s n f u g =
    sym (contains_is n g) ∙ u.0 g ∙ ap (λ b. cond b true (contains nat_cmp s g)) (is_eq_same f g)
    ∙ cond_or (f == g) (contains nat_cmp s g) ∙ ap (λ b. b || (f == g)) (contains_is s g)

removed_is : (s n : BTreeSet ℕ) (f : ℕ) → UpdatesBy nat_cmp (nat_cmp f) s n false → (g : ℕ) → is_in g n.keys ≡ (is_in g s.keys && not (f == g))
removed_is s n f u g =
    sym (contains_is n g) ∙ u.0 g ∙ ap (λ b. cond b false (contains nat_cmp s g)) (is_eq_same f g)
    ∙ cond_and (f == g) (contains nat_cmp s g) ∙ ap (λ b. b && not (f == g)) (contains_is s g)

no_keys : (xs : List ℕ) → (0 < length xs → ⊥) → xs ≡ []
no_keys [] h = refl
no_keys (x ∷ xs) h = absurd (h (omega arith))

pub taken_is : (r : Option ℕ) (s n : BTreeSet ℕ) → IsSome r ↔ (0 < btree_set_len s) → IfSome r (λ k. IsTrue (contains nat_cmp s k)) → IfSome r (IsLowerBound nat_cmp s) → IfSome r (λ k. UpdatesBy nat_cmp (nat_cmp k) s n false) → MatchOption r (s.keys ≡ []) (λ f. IsFirstOf s.keys f n.keys)
taken_is None s n v m l u = no_keys s.keys (λ h. let some : false ≡ true = v.1 h in absurd (false≢true some))
taken_is (Some f) s n v m l u = record {
  there = sym (contains_is s f) ∙ m;
  least = λ g h. le_from_not_gt f g (l g (contains_is s g ∙ h));
  others = removed_is s n f u;
}
