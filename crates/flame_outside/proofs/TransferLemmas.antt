-- What reads and writes moved so far.
use Rattle.std.proofs.Common.{◌≡◌, ℕ, ◌+◌, ◌-◌, List, ◌++◌, Option, sym, ap, subst, ◌∙◌, length, take, drop}
use Rattle.std.proofs.Math.Seq.{take-add}
use Rattle.std.proofs.lemmas.List.{take_rest}
use Rattle.std.specs.Io.{StartsWith}
use Rattle.std.specs.Io.KnownBytes.{Appends, Consumes, Keeps}
use Rattle.std.proofs.KnownBytes.{Appends-trans, Appends-kept, Consumes-trans, Consumes-kept, starts_with_rest}

-- after the next bytes were taken too
pub Appends-more :
    (old mid new : Option (List ℕ)) (bytes : List ℕ) (done taken next : ℕ)
    → next ≡ done + taken
    → Appends old mid (take done bytes)
    → Appends mid new (take taken (take (length bytes - done) (drop done bytes)))
    → Appends old new (take next bytes)
Appends-more old mid new bytes done taken next is before now =
    subst (Appends old new)
    (ap (λ rest. take done bytes ++ take taken rest) (take_rest bytes done)
    ∙ sym (take-add done taken bytes)
    ∙ ap (λ n. take n bytes) (sym is))
    (Appends-trans old mid new _ _ before now)

-- after a write that took nothing
pub Appends-same :
    (old mid new : Option (List ℕ)) (bytes : List ℕ) (done next : ℕ)
    → next ≡ done
    → Appends old mid (take done bytes)
    → Keeps mid new
    → Appends old new (take next bytes)
Appends-same old mid new bytes done next is before keeps =
    subst (Appends old new) (ap (λ n. take n bytes) (sym is)) (Appends-kept old mid new _ before keeps)

-- after the next bytes were read too
pub Consumes-more :
    (old mid new : Option (List ℕ)) (before now : List ℕ)
    → StartsWith now before
    → Consumes old mid before
    → Consumes mid new (drop (length before) now)
    → Consumes old new now
Consumes-more old mid new before now starts first second =
    subst (Consumes old new) (sym (starts_with_rest now before starts)) (Consumes-trans old mid new _ _ first second)

-- after a read that gave nothing
pub Consumes-same :
    (old mid new : Option (List ℕ)) (before now : List ℕ)
    → now ≡ before
    → Consumes old mid before
    → Keeps mid new
    → Consumes old new now
Consumes-same old mid new before now is first keeps =
    subst (Consumes old new) (sym is) (Consumes-kept old mid new before first keeps)
