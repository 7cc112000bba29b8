-- The first of the shares that arrived, and what is left of them once another was taken out.
use Rattle.std.proofs.Common.{◌≡◌, ℕ, zero, suc, ◌<◌, List, [], ◌∷◌, ◌++◌, take, drop, inl, inr, sym, ap, subst, arith}
use Rattle.std.specs.Prelude.{◌⊎◌, slice_index_or}
use Rattle.std.specs.List.{All}
use Rattle.flame_world.specs.declared.pieces.Piece.{Piece}
use Rattle.flame_world.specs.declared.shares.Share.{Share}
use Rattle.flame_world.specs.Shares.{piece_of}
use Rattle.flame_nodes.specs.GatheredShares.{DifferInNumber, IsFirst, IsFirstThatFits}
use Rattle.flame_nodes.specs.NodeWork.{KeepsOthers, StaysFirst}

-- ---- where it stands

-- where none fits there is no first
pub none-first : (Fits : Share → Type 0) (shares : List Share) (own : Share) → All (λ share. Fits share → ⊥) shares → IsFirst Fits shares own → ⊥
none-first Fits [] own none first = first
none-first Fits (share ∷ shares) own none first = by (none-first Fits shares own (λ k d below. none (suc k) d (omega arith))) first
  where
    by : (IsFirst Fits shares own → ⊥) → ((Fits share × (share ≡ own)) ⊎ ((Fits share → ⊥) × IsFirst Fits shares own)) → ⊥
    by rest (inl here) = none 0 share (omega arith) here.0
    by rest (inr later) = rest later.1

-- the first stands in the first place
pub first-there : (Fits : Share → Type 0) (shares : List Share) (place : ℕ) (own other : Share)
    → ((d : Share) → Fits (slice_index_or shares place d))
    → ((k : ℕ) (d : Share) → k < place → Fits (slice_index_or shares k d) → ⊥)
    → IsFirst Fits shares own → slice_index_or shares place other ≡ own
first-there Fits [] place own other fits before first = absurd first
first-there Fits (share ∷ shares) zero own other fits before first = by first
  where
    by : ((Fits share × (share ≡ own)) ⊎ ((Fits share → ⊥) × IsFirst Fits shares own)) → share ≡ own
    by (inl here) = here.1
    by (inr later) = absurd (later.0 (fits share))
first-there Fits (share ∷ shares) (suc place) own other fits before first =
    by (first-there Fits shares place own other fits (λ k d below. before (suc k) d (omega arith))) first
  where
    by : (IsFirst Fits shares own → slice_index_or shares place other ≡ own)
        → ((Fits share × (share ≡ own)) ⊎ ((Fits share → ⊥) × IsFirst Fits shares own)) → slice_index_or shares place other ≡ own
    by rest (inl here) = absurd (before 0 share (omega arith) here.0)
    by rest (inr later) = rest later.1

-- it stays the first where one is taken out that does not fit
pub first-without : (Fits : Share → Type 0) (shares : List Share) (place : ℕ) (own : Share)
    → ((d : Share) → Fits (slice_index_or shares place d) → ⊥)
    → IsFirst Fits shares own → IsFirst Fits (take place shares ++ drop (suc place) shares) own
first-without Fits [] place own apart first = absurd first
first-without Fits (share ∷ shares) zero own apart first = by first
  where
    by : ((Fits share × (share ≡ own)) ⊎ ((Fits share → ⊥) × IsFirst Fits shares own)) → IsFirst Fits shares own
    by (inl here) = absurd (apart share here.0)
    by (inr later) = later.1
first-without Fits (share ∷ shares) (suc place) own apart first = by (first-without Fits shares place own apart) first
  where
    by : (IsFirst Fits shares own → IsFirst Fits (take place shares ++ drop (suc place) shares) own)
        → ((Fits share × (share ≡ own)) ⊎ ((Fits share → ⊥) × IsFirst Fits shares own))
        → (Fits share × (share ≡ own)) ⊎ ((Fits share → ⊥) × IsFirst Fits (take place shares ++ drop (suc place) shares) own)
    by rest (inl here) = inl here
    by rest (inr later) = inr (later.0, rest later.1)

-- ---- piece by piece

module _ (Fits : Piece → Share → Type 0) (arrived : List Share) (piece : Piece) (pieces : List Piece) where
  pub others-differ : DifferInNumber (piece ∷ pieces) → DifferInNumber pieces
  others-differ differ = λ i j d below there. differ (suc i) (suc j) d (omega arith) (omega arith)

  pub others-stay : (before after : List Share) → DifferInNumber (piece ∷ pieces) → KeepsOthers Fits piece before after
      → All (λ other. StaysFirst (Fits other) arrived before) (piece ∷ pieces)
      → All (λ other. StaysFirst (Fits other) arrived after) pieces
  others-stay before after differ others stay =
      λ k d there own first.
      others (slice_index_or pieces k d)
      (λ same. differ 0 (suc k) d (omega arith) (omega arith) (ap (λ (one : Piece). one.number) (sym same))) own
      (stay (suc k) d (omega arith) own first)

  pub kept-first : (before : List Share) (share : Share) → piece_of share ≡ piece → StaysFirst (Fits piece) arrived before
      → IsFirstThatFits (Fits piece) before share → IsFirstThatFits (Fits (piece_of share)) arrived share
  kept-first before share is stays first =
      λ own fits. first own (stays own (subst (λ (one : Piece). IsFirst (Fits one) arrived own) is fits))
