-- Start states are the states that no function enters.
use Rattle.std.proofs.Common.{◌≡◌, ℕ, List, [], ◌∷◌, refl, sym, ap, ◌∙◌, true, false, Bool, not, cond}
use Rattle.std.specs.Prelude.{◌&&◌, ◌||◌, filter}
use Rattle.std.specs.Str.{bytes_eq}
use Rattle.std.proofs.lemmas.Bool.{and_parts, and_from, not-true}
use Rattle.std.proofs.lemmas.Slice.Eq.{bytes_eq-Decides}
use Rattle.flame_spec.specs.declared.models.Function.{Function}
use Rattle.flame_spec.specs.KnownNames.{is_among}
use Rattle.flame_spec.specs.States.{is_entered, states, start_states}

pub is_among-filter : (test : List ℕ → Bool) (texts : List (List ℕ)) (text : List ℕ) → is_among text (filter test texts) ≡ (is_among text texts && test text)
is_among-filter test [] text = refl
is_among-filter test (t ∷ texts) text = go (test t) refl (bytes_eq text t) refl (is_among-filter test texts text)
  where
    same : bytes_eq text t ≡ true → test text ≡ test t
    same e = ap test ((bytes_eq-Decides text t).0 e)

    or_with : (a b : Bool) → b ≡ true → true ≡ ((true || a) && b)
    or_with a b h = sym h

    without : (a b : Bool) → b ≡ false → (a && b) ≡ ((true || a) && b)
    without true b h = refl
    without false b h = sym h

    go : (b : Bool) → test t ≡ b → (e : Bool) → bytes_eq text t ≡ e → is_among text (filter test texts) ≡ (is_among text texts && test text) → is_among text (cond b (t ∷ filter test texts) (filter test texts)) ≡ ((bytes_eq text t || is_among text texts) && test text)
    go true p true q rest = ap (λ x. x || is_among text (filter test texts)) q ∙ sym (same q ∙ p) ∙ ap (λ x. (x || is_among text texts) && test text) (sym q)
    go true p false q rest = ap (λ x. x || is_among text (filter test texts)) q ∙ rest ∙ ap (λ x. (x || is_among text texts) && test text) (sym q)
    go false p true q rest = rest ∙ without (is_among text texts) (test text) (same q ∙ p) ∙ ap (λ x. (x || is_among text texts) && test text) (sym q)
    go false p false q rest = rest ∙ ap (λ x. (x || is_among text texts) && test text) (sym q)

pub start_parts : (functions : List Function) (state : List ℕ) → is_among state (start_states functions) ≡ true → (is_among state (states functions) ≡ true) × (is_entered functions state ≡ false)
start_parts functions state h =
    let parts = and_parts (is_among state (states functions)) (not (is_entered functions state)) (sym (is_among-filter (λ s. not (is_entered functions s)) (states functions) state) ∙ h) in
    (parts.0, not-true (is_entered functions state) parts.1)

pub start_from : (functions : List Function) (state : List ℕ) → (is_among state (states functions) ≡ true) × (is_entered functions state ≡ false) → is_among state (start_states functions) ≡ true
start_from functions state h = is_among-filter (λ s. not (is_entered functions s)) (states functions) state ∙ and_from (is_among state (states functions)) (not (is_entered functions state)) h.0 (ap not h.1)
