-- Without a function left over, layers rise along a chain, and so no chain comes round.
use Rattle.std.proofs.Common.{◌≡◌, ℕ, ◌<◌, List, [], ◌∷◌, ◌++◌, subst, None}
use Rattle.std.proofs.Math.Nat.{lt_irrefl, lt_trans}
use Rattle.flame_spec.specs.ModelOrder.{first_left}
use Rattle.flame_spec.specs.Layers.{layer}
use Rattle.flame_spec_laws.specs.OrderLaws.{IsChain, IsRound, AreFunctions}
use Rattle.flame_spec.proofs.Orders.{Relation}
use Rattle.flame_spec.proofs.Heights.{layer_rises}

chain_rises :
    (n : ℕ) (before : Relation)
    → first_left n before ≡ None
    → (front : List ℕ) (f last : ℕ)
    → f < n
    → AreFunctions n (front ++ last ∷ [])
    → IsChain before (f ∷ front ++ last ∷ [])
    → layer n before f < layer n before last
chain_rises n before none [] f last p below chain = layer_rises n before none f last p below.0 chain.0
chain_rises n before none (g ∷ front) f last p below chain =
    lt_trans
    (layer_rises n before none f g p below.0 chain.0)
    (chain_rises n before none front g last below.0 below.1 chain.1)

last_below : (n : ℕ) (front : List ℕ) (last : ℕ) → AreFunctions n (front ++ last ∷ []) → last < n
last_below n [] last below = below.0
last_below n (g ∷ front) last below = last_below n front last below.1

no_round :
    (n : ℕ) (before : Relation) (front : List ℕ) (last : ℕ)
    → AreFunctions n (front ++ last ∷ [])
    → IsChain before (last ∷ front ++ last ∷ [])
    → first_left n before ≡ None
    → ⊥
no_round n before front last below chain none =
    lt_irrefl (layer n before last)
    (chain_rises n before none front last last (last_below n front last below) below chain)

pub round_leaves_over :
    (n : ℕ) (before : Relation) (functions : List ℕ)
    → AreFunctions n functions
    → IsRound before functions
    → first_left n before ≡ None
    → ⊥
round_leaves_over n before functions below round none =
    no_round n before round.front round.last
    (subst (AreFunctions n) round.ends below)
    (subst (λ fs. IsChain before (round.last ∷ fs)) round.ends round.closes)
    none
