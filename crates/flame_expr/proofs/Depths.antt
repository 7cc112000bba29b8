-- The nesting of tokens, one by one.
use Rattle.std.proofs.Common.{◌≡◌, ◌⊎◌, inl, inr, ℕ, zero, suc, ◌+◌, ◌<◌, ◌≤◌, List, [], ◌∷◌, length, drop, take, refl, sym, ap, ◌∙◌, subst, arith, Bool, false, add-one}
use Rattle.std.proofs.lemmas.Bool.{cases_lt}
use Rattle.std.specs.Prelude.{if◌then◌else◌}
use Rattle.flame_lex.specs.declared.token.Token.{Token}
use Rattle.flame_expr.specs.declared.lexemes.Lexeme.{Lexeme}
use Rattle.flame_expr.specs.declared.lexemes.Lexeme.TheVariants.{Nothing}
use Rattle.flame_expr.specs.Lexemes.{first}
use Rattle.flame_expr.specs.Nesting.{opens, closes, count_of, Fits, NestsWithin, IsTooDeep}

-- one token more
count_step : (f : Lexeme → Bool) (tokens : List Token) (k : ℕ) → f Nothing ≡ false → count_of f (take (suc k) tokens) ≡ count_of f (take k tokens) + (if f (first (drop k tokens)) then 1 else 0)
count_step f [] zero n = rw n refl
count_step f [] (suc k) n = rw n refl
count_step f (token ∷ tokens) zero n = omega arith
count_step f (token ∷ tokens) (suc k) n = let i = count_step f tokens k n in omega (arith, i)

-- what holds before a token, as counts
pub record DepthOn (tokens : List Token) (k opened closed : ℕ) : Type 0 where
  pub opened_are : opened ≡ count_of opens (take k tokens)
  pub closed_are : closed ≡ count_of closes (take k tokens)
  pub before : (j : ℕ) → j ≤ k → Fits 64 tokens j

fits_zero : (tokens : List Token) (j : ℕ) → j ≤ 0 → Fits 64 tokens j
fits_zero tokens zero h = omega arith
fits_zero tokens (suc j) h = absurd (omega arith)

pub depth_begin : (tokens : List Token) → DepthOn tokens 0 0 0
depth_begin tokens = record { opened_are = refl; closed_are = refl; before = fits_zero tokens }

at_or_before : (tokens : List Token) (k : ℕ) → ((j : ℕ) → j ≤ k → Fits 64 tokens j) → Fits 64 tokens (k + 1) → (j : ℕ) → j ≤ k + 1 → Fits 64 tokens j
at_or_before tokens k b f j h = elim (cases_lt k j) [
  | inl i ↦ subst (Fits 64 tokens) (omega (arith, i, h)) f
  | inr i ↦ b j i
]

pub depth_step : (tokens : List Token) (k opened closed o c : ℕ) → DepthOn tokens k opened closed → o ≡ opened +
    (if opens (first (drop k tokens)) then 1 else 0) → c ≡ closed + (if closes (first (drop k tokens)) then 1 else 0) → o ≤ c + 64 → DepthOn tokens
    (k + 1) o c
depth_step tokens k opened closed o c d p q f =
    let a = count_step opens tokens k refl in
    let b = count_step closes tokens k refl in
    let u : o ≡ count_of opens (take (k + 1) tokens) = p ∙ ap (λ n. n + (if opens (first (drop k tokens)) then 1 else 0)) d.opened_are ∙ sym a ∙ ap (λ n. count_of opens (take n tokens)) (sym (add-one k)) in
    let v : c ≡ count_of closes (take (k + 1) tokens) = q ∙ ap (λ n. n + (if closes (first (drop k tokens)) then 1 else 0)) d.closed_are ∙ sym b ∙ ap (λ n. count_of closes (take n tokens)) (sym (add-one k)) in
    record { opened_are = u; closed_are = v; before = at_or_before tokens k d.before (omega (arith, u, v, f)) }

pub depth_exceeds : (tokens : List Token) (k opened closed o c : ℕ) → k < length tokens → DepthOn tokens k opened closed → o ≡ opened +
    (if opens (first (drop k tokens)) then 1 else 0) → c ≡ closed + (if closes (first (drop k tokens)) then 1 else 0) → c + 64 < o → IsTooDeep 64 tokens
    k
depth_exceeds tokens k opened closed o c l d p q f =
    let a = count_step opens tokens k refl in
    let b = count_step closes tokens k refl in
    let u : o ≡ count_of opens (take (k + 1) tokens) = p ∙ ap (λ n. n + (if opens (first (drop k tokens)) then 1 else 0)) d.opened_are ∙ sym a ∙ ap (λ n. count_of opens (take n tokens)) (sym (add-one k)) in
    let v : c ≡ count_of closes (take (k + 1) tokens) = q ∙ ap (λ n. n + (if closes (first (drop k tokens)) then 1 else 0)) d.closed_are ∙ sym b ∙ ap (λ n. count_of closes (take n tokens)) (sym (add-one k)) in
    record { within = l; before = d.before; exceeds = λ g. absurd (omega (arith, u, v, f, g)) }

take_all : (tokens : List Token) (k : ℕ) → length tokens ≤ k → take k tokens ≡ take (length tokens) tokens
take_all [] zero h = refl
take_all [] (suc k) h = refl
take_all (token ∷ tokens) zero h = absurd (omega arith)
take_all (token ∷ tokens) (suc k) h = ap (λ ts. token ∷ ts) (take_all tokens k (omega (arith, h)))

pub depth_all : (tokens : List Token) (opened closed : ℕ) → DepthOn tokens (length tokens) opened closed → NestsWithin 64 tokens
depth_all tokens opened closed d k = elim (cases_lt (length tokens) k) [
  | inl i ↦ (let e : take k tokens ≡ take (length tokens) tokens = take_all tokens k (omega (arith, i)) in let f = d.before (length tokens) (omega arith) in
      let x = ap (count_of opens) e in let y = ap (count_of closes) e in omega (arith, x, y, f))
  | inr i ↦ d.before k i
]

-- the first token that is too deep, or none
abbrev Decided : List Token → Type 0
Decided tokens = NestsWithin 64 tokens ⊎ ((n : ℕ) × IsTooDeep 64 tokens n)

abbrev one_if : Bool → ℕ
one_if b = if b then 1 else 0

decide : (f : ℕ) (tokens : List Token) (k opened closed : ℕ) → k + f ≡ length tokens → DepthOn tokens k opened closed → Decided tokens
decide zero tokens k opened closed e d = inl (depth_all tokens opened closed (subst (λ n. DepthOn tokens n opened closed) (omega (arith, e)) d))
decide (suc f) tokens k opened closed e d =
    let o = opened + one_if (opens (first (drop k tokens))) in
    let c = closed + one_if (closes (first (drop k tokens))) in
    elim (cases_lt (c + 64) o) [
      | inl i ↦ inr (k, depth_exceeds tokens k opened closed o c (omega (arith, e)) d refl refl i)
      | inr i ↦ decide f tokens (k + 1) o c (omega (arith, e)) (depth_step tokens k opened closed o c d refl refl i)
    ]

pub depth_decided : (tokens : List Token) → NestsWithin 64 tokens ⊎ ((n : ℕ) × IsTooDeep 64 tokens n)
depth_decided tokens = decide (length tokens) tokens 0 0 0 (omega arith) (depth_begin tokens)
