-- The lists of successors are what stands before what.
use Rattle.std.proofs.Common.{◌≡◌, ℕ, ◌<◌, ◌≤◌, List, [], length, get_or, refl, sym, ap, ◌∙◌, true, false, ⊎_elim}
use Rattle.std.specs.Prelude.{◌&&◌}
use Rattle.std.proofs.lemmas.Bool.{cases_lt, lt-ltb, le-ltb, false≢true}
use Rattle.std.proofs.lemmas.List.{get_or_past, get_or_read}
use Rattle.flame_spec.specs.Below.{all_below, is_in}
use Rattle.flame_spec.proofs.FirstBelow.{is_in-all_below}
use Rattle.flame_spec.proofs.Orders.{Relation}
use Rattle.flame_graph.specs.Graph.{AreSuccessors, follows, AreAscending}

follows_at : (n : ℕ) (before : Relation) (lists : List (List ℕ)) → ((f g : ℕ) → n ≤ g → before f g ≡ false) → AreSuccessors n before lists → (f g : ℕ) → follows lists f g ≡ before f g
follows_at n before lists past a f g = ap (is_in g) (a.at f) ∙ is_in-all_below (before f) n g ∙ ⊎_elim
    (λ l. ap (λ b. b && before f g) (lt-ltb g n l))
    (λ l. ap (λ b. b && before f g) (le-ltb g n l) ∙ sym (past f g l))
    (cases_lt g n)

-- where nothing stands before what is past the last node, the lists say what stands before what
pub follows_is : (n : ℕ) (before : Relation) (lists : List (List ℕ)) → ((f g : ℕ) → n ≤ g → before f g ≡ false) → AreSuccessors n before lists → follows lists ≡ before
follows_is n before lists past a = λ j f g. (follows_at n before lists past a f g) j

pub ascending_is : (n : ℕ) (before : Relation) (lists : List (List ℕ)) → ((f g : ℕ) → n ≤ g → before f g ≡ false) → AreSuccessors n before lists → AreAscending lists
ascending_is n before lists past a = record {
  len = refl;
  at = λ f. a.at f ∙ ap (λ b. all_below (b f) n) (sym (follows_is n before lists past a)) ∙ ap (all_below (follows lists f)) (sym a.len);
}

-- a list that is read is that of its node
pub list_is : (lists : List (List ℕ)) (i : ℕ) (x numbers : List ℕ) → AreAscending lists → i < length lists → x ≡ get_or lists i x → numbers ≡ x → numbers ≡ all_below (follows lists i) (length lists)
list_is lists i x numbers a l e q = q ∙ get_or_read lists i x l e [] ∙ a.at i

-- what stands before another has a list
pub follows_inside : (lists : List (List ℕ)) (p g : ℕ) → follows lists p g ≡ true → p < length lists
follows_inside lists p g h = ⊎_elim (λ l. l) (λ l. absurd (false≢true (sym (ap (is_in g) (get_or_past lists p [] l)) ∙ h))) (cases_lt p (length lists))
