-- Ends and lanes, one after another.
use Rattle.std.proofs.Common.{◌≡◌, ℕ, zero, suc, ◌+◌, ◌<◌, List, [], ◌∷◌, ◌++◌, map, length, get_or, ◌⊎◌, inl, inr, refl, sym, ap, ◌∙◌, subst, arith}
use Rattle.std.specs.List.{All, AllZip, Contains, range_with_len}
use Rattle.std.proofs.lemmas.List.{map-append}
use Rattle.crossbeam_channel.specs.Ends.{sends_on, receives_on}
use Rattle.flame_rows.proofs.Lists.{AllZip-append, cons-parts}
use Rattle.flame_board.specs.declared.lanes.End.{End}
use Rattle.flame_board.specs.declared.lanes.Lane.{Lane}
use Rattle.flame_board.specs.SeenLanes.{AreEndsOf, IsEndOf}

-- ---- all ends

-- one more of each
pub ends-more : (ends : List End) (lanes : List Lane) (end : End) (lane : Lane)
    → AreEndsOf ends lanes → IsEndOf end lane → AreEndsOf (ends ++ end ∷ []) (lanes ++ lane ∷ [])
ends-more ends lanes end lane all one =
    map-append (λ (e : End). receives_on e.receiver) ends (end ∷ [])
    ∙ (λ i. all i ++ one i ∷ [])
    ∙ sym (map-append (λ (l : Lane). sends_on l.sender) lanes (lane ∷ []))

-- the first of each
pub ends-first : (ends rest : List End) (lanes left : List Lane) (end : End) (lane : Lane)
    → AreEndsOf ends lanes → ends ≡ end ∷ rest → lanes ≡ lane ∷ left → IsEndOf end lane × AreEndsOf rest left
ends-first ends rest lanes left end lane all is too =
    cons-parts (receives_on end.receiver) (sends_on lane.sender) (map (λ (e : End). receives_on e.receiver) rest)
    (map (λ (l : Lane). sends_on l.sender) left)
    (sym (ap (map (λ (e : End). receives_on e.receiver)) is) ∙ all ∙ ap (map (λ (l : Lane). sends_on l.sender)) too)

-- where one of the lists has ended, no lane is left
pub none-left : (ends : List End) (lanes : List Lane)
    → AreEndsOf ends lanes → (length ends ≡ 0) ⊎ (length lanes ≡ 0) → lanes ≡ []
none-left ends [] all over = refl
none-left [] (lane ∷ lanes) all over = absurd (cc)
none-left (end ∷ ends) (lane ∷ lanes) all over =
    elim over [ inl none ↦ absurd (omega (arith, none)) | inr none ↦ absurd (omega (arith, none)) ]

-- ---- each lane

pub contains-map : {X Y : Type 0} (f : X → Y) (xs : List X) (k : ℕ) (d : X) → k < length xs → Contains (map f xs) (f (get_or xs k d))
contains-map f [] k d less = absurd (omega (arith, less))
contains-map f (x ∷ xs) zero d less = (0, omega arith, refl)
contains-map f (x ∷ xs) (suc k) d less =
    let rest = contains-map f xs k d (omega (arith, less)) in (suc rest.0, omega (arith, rest.1), rest.2)

-- each lane has its end among them
pub ends-each : (ends : List End) (lanes : List Lane) → AreEndsOf ends lanes
    → All (λ (lane : Lane). Contains (map (λ (e : End). receives_on e.receiver) ends) (sends_on lane.sender)) lanes
ends-each ends lanes all k d less =
    subst (λ channels. Contains channels (sends_on (get_or lanes k d).sender)) (sym all)
    (contains-map (λ (l : Lane). sends_on l.sender) lanes k d less)

-- ---- numbers

range-more : (from n : ℕ) → range_with_len from (suc n) ≡ range_with_len from n ++ (from + n) ∷ []
range-more from zero = λ i. same i ∷ []
  where
    same : from ≡ from + 0
    same = omega arith
range-more from (suc n) =
    (λ i. from ∷ range-more (from + 1) n i) ∙ (λ i. from ∷ (range_with_len (from + 1) n ++ same i ∷ []))
  where
    same : (from + 1) + n ≡ from + suc n
    same = omega arith

-- one more stands in its number
pub AllZip-next : (R : ℕ → Lane → Type 0) (n : ℕ) (lanes : List Lane) (lane : Lane)
    → AllZip R (range_with_len 0 n) lanes → R n lane → AllZip R (range_with_len 0 (n + 1)) (lanes ++ lane ∷ [])
AllZip-next R n lanes lane all one =
    let next : n + 1 ≡ suc n = omega arith in
    let last : 0 + n ≡ n = omega arith in
    let more : range_with_len 0 (n + 1) ≡ range_with_len 0 n ++ n ∷ [] =
    ap (range_with_len 0) next ∙ range-more 0 n ∙ (λ i. range_with_len 0 n ++ last i ∷ []) in
    subst (λ numbers. AllZip R numbers (lanes ++ lane ∷ [])) (sym more)
    (AllZip-append R (range_with_len 0 n) lanes (n ∷ []) (lane ∷ []) all (one, tt))
