-- The pieces of nodes: they have all agents, and each can be run where all of these can.
use Rattle.std.proofs.Common.{◌≡◌, ◌<◌, ℕ, zero, suc, ◌+◌, Bool, true, false, cond, List, [], ◌∷◌, ◌++◌, length, Some, refl, sym, ap, ◌∙◌, arith, append-nil}
use Rattle.std.specs.Prelude.{ℤ, ◌==◌, slice_get}
use Rattle.std.specs.List.{All, flat_map}
use Rattle.std.proofs.lemmas.Bool.{eq-eqb, eqb-true}
use Rattle.std.proofs.lemmas.List.Elements.{All-cons, All-head, All-nil, All-tail}
use Rattle.flame_rows.specs.Bags.{ascending, weigh}
use Rattle.flame_rows.proofs.BagLaws.{weigh-append, weigh-ascending}
use Rattle.flame_spec.specs.declared.models.Model.{Model}
use Rattle.flame_spec.specs.Columns.{width}
use Rattle.flame_spec.specs.Functions.{functions}
use Rattle.flame_spec.specs.Lists.{each_from}
use Rattle.flame_round.specs.KeptRounds.{FitsRun}
use Rattle.flame_share.specs.NumberedPieces.{numbered_piece}
use Rattle.flame_share.specs.PieceFits.{FitsPiece}
use Rattle.flame_world.specs.declared.pieces.Piece.{Piece}
use Rattle.flame_world.specs.WorldFits.{AreWide}
use Rattle.flame_nodes.specs.NodePieces.{agents_in, node_pieces, piece_for}
use Rattle.flame_nodes.proofs.Totals.{Rows, Weight}

-- ---- whose they are, and what they have

pieces-own : (function from : ℕ) (bags : List Rows) → All (λ (piece : Piece). piece.function ≡ function) (each_from (piece_for function) from bags)
pieces-own function from [] = All-nil (λ (piece : Piece). piece.function ≡ function)
pieces-own function from ([] ∷ bags) = pieces-own function (from + 1) bags
pieces-own function from ((agent ∷ agents) ∷ bags) =
    All-cons (λ (piece : Piece). piece.function ≡ function) (numbered_piece function from (agent ∷ agents))
    (each_from (piece_for function) (from + 1) bags) refl (pieces-own function (from + 1) bags)

pub are-own : (function : ℕ) (bags : List Rows) → All (λ (piece : Piece). piece.function ≡ function) (node_pieces function bags)
are-own function bags = pieces-own function 0 bags

pieces-weigh : (weight : Weight) (function from : ℕ) (bags : List Rows)
    → weigh weight (agents_in (each_from (piece_for function) from bags)) ≡ weigh weight (flat_map (λ bag. bag) bags)
pieces-weigh weight function from [] = refl
pieces-weigh weight function from ([] ∷ bags) = pieces-weigh weight function (from + 1) bags
pieces-weigh weight function from ((agent ∷ agents) ∷ bags) =
    weigh-append weight (agent ∷ agents) (agents_in (each_from (piece_for function) (from + 1) bags))
    ∙ ap (λ n. weigh weight (agent ∷ agents) + n) (pieces-weigh weight function (from + 1) bags)
    ∙ sym (weigh-append weight (agent ∷ agents) (flat_map (λ bag. bag) bags))

pub agents-weigh : (weight : Weight) (function : ℕ) (bags : List Rows)
    → weigh weight (agents_in (node_pieces function bags)) ≡ weigh weight (flat_map (λ bag. bag) bags)
agents-weigh weight function bags = pieces-weigh weight function 0 bags

-- ---- how wide they are

-- one for each row of another width
abbrev odd : ℕ → Weight
odd wide row = cond (length row == wide) 0 1

wide-none : (wide : ℕ) (rows : Rows) → AreWide wide rows → weigh (odd wide) rows ≡ 0
wide-none wide [] all = refl
wide-none wide (row ∷ rows) all =
    let here : odd wide row ≡ 0 = ap (λ b. cond b 0 1) (eq-eqb (length row) wide all.0) in
    omega (arith, here, wide-none wide rows all.1)

none-wide : (wide : ℕ) (rows : Rows) → weigh (odd wide) rows ≡ 0 → AreWide wide rows
none-wide wide [] none = tt
none-wide wide (row ∷ rows) none =
    let here : odd wide row ≡ 0 = omega (arith, none) in
    let rest : weigh (odd wide) rows ≡ 0 = omega (arith, none) in
    (by (length row == wide) refl here, none-wide wide rows rest)
  where
    by : (b : Bool) → (length row == wide) ≡ b → odd wide row ≡ 0 → length row ≡ wide
    by true is here = eqb-true (length row) wide is
    by false is here =
        let one : odd wide row ≡ 1 = ap (λ b. cond b 0 1) is in
        absurd (omega (arith, one, here))

-- what holds of rows in order holds of them as they stand
pub wide-ascending : (wide : ℕ) (rows : Rows) → AreWide wide (ascending rows) → AreWide wide rows
wide-ascending wide rows all = none-wide wide rows (sym (weigh-ascending (odd wide) rows) ∙ wide-none wide (ascending rows) all)

-- ---- that they can be run

module _ (model : Model) (function : ℕ) (constants : List ℤ) (boards : List Rows) (takers : Rows)
    (fits : FitsRun model function constants boards takers) where
  none-fit : (pieces : List Piece) → All (λ (piece : Piece). piece.function ≡ function) pieces
      → weigh (odd (width fits.place.type.memory)) (agents_in pieces) ≡ 0 → All (FitsPiece model constants boards) pieces
  none-fit [] own none = All-nil (FitsPiece model constants boards)
  none-fit (piece ∷ pieces) own none =
      let both = weigh-append (odd (width fits.place.type.memory)) piece.agents (agents_in pieces) in
      let mine = All-head (λ (piece : Piece). piece.function ≡ function) piece pieces own in
      All-cons (FitsPiece model constants boards) piece pieces
      (record {
        place = fits.place;
        there = ap (slice_get (functions model)) mine ∙ fits.there;
        memories = none-wide (width fits.place.type.memory) piece.agents (omega (arith, both, none));
        known = fits.known;
        wide = fits.wide;
      })
      (none-fit pieces (All-tail (λ (piece : Piece). piece.function ≡ function) piece pieces own) (omega (arith, both, none)))

  pub all-fit : (pieces : List Piece) → All (λ (piece : Piece). piece.function ≡ function) pieces
      → ((weight : Weight) → weigh weight (agents_in pieces) ≡ weigh weight takers)
      → All (FitsPiece model constants boards) pieces
  all-fit pieces own same =
      none-fit pieces own
      (same (odd (width fits.place.type.memory)) ∙ wide-none (width fits.place.type.memory) takers fits.memories)

-- ---- one node more

pub piece-none : (function node : ℕ) (agents : Rows) → length agents ≡ 0 → piece_for function node agents ≡ []
piece-none function node [] none = refl
piece-none function node (agent ∷ agents) none = absurd (omega (arith, none))

-- ---- the nodes one after another: of the bags that are left, that of this node comes next

module _ (function : ℕ) (all found : List Piece) (bags rest : List Rows) (node next : ℕ) (agents : Rows)
    (is : bags ≡ agents ∷ rest) (on : next ≡ node + 1)
    (so_far : found ++ each_from (piece_for function) node bags ≡ all) where
  -- nobody is there
  pub node-empty : length agents ≡ 0 → found ++ each_from (piece_for function) next rest ≡ all
  node-empty none =
      (λ i. found ++ (sym (piece-none function node agents none) i ++ each_from (piece_for function) (on i) rest))
      ∙ ap (λ (left : List Rows). found ++ each_from (piece_for function) node left) (sym is)
      ∙ so_far

-- no node is left
pub node-over : (function : ℕ) (all found : List Piece) (bags : List Rows) (node : ℕ) → length bags ≡ 0
    → found ++ each_from (piece_for function) node bags ≡ all → found ≡ all
node-over function all found [] node none so_far = sym (append-nil found) ∙ so_far
node-over function all found (bag ∷ bags) node none so_far = absurd (omega (arith, none))
