-- Names that are equal in capitals.
use Rattle.std.proofs.Common.{◌≡◌, ℕ, List, [], ◌∷◌, map, refl, ap, Bool, true, false, true≢false, not}
use Rattle.std.specs.Prelude.{◌||◌, ◌&&◌}
use Rattle.std.specs.Str.{bytes_eq}
use Rattle.flame_ops.specs.Ascii.{capitals}
use Rattle.flame_spec.specs.Capitals.{clashes}
use Rattle.flame_spec.specs.KnownNames.{is_among}

alike_step : (same there alike rest more : Bool)
    → (same || there) ≡ false → (there ≡ false → rest ≡ more) → ((not same && alike) || rest) ≡ (alike || more)
alike_step true there alike rest more h f = absurd (true≢false h)
alike_step false there alike rest more h f = ap (λ b. alike || b) (f h)

-- a name that is new is equal in capitals to another one where its capitals are there
pub clashes-new : (name : List ℕ) (names : List (List ℕ))
    → is_among name names ≡ false → clashes name names ≡ is_among (capitals name) (map capitals names)
clashes-new name [] h = refl
clashes-new name (other ∷ names) h =
    alike_step
    (bytes_eq name other)
    (is_among name names)
    (bytes_eq (capitals name) (capitals other))
    (clashes name names)
    (is_among (capitals name) (map capitals names))
    h
    (clashes-new name names)
