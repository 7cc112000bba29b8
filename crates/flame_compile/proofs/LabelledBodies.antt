-- The code of a body that fits is valid.
use Rattle.std.proofs.Common.{◌≡◌, ◌+◌, ◌-◌, ◌&&◌, true, false, List, [], ◌∷◌, ◌++◌, length, Some, refl, ap, subst, arith, length-append, append_assoc}
use Rattle.std.specs.Prelude.{pos, slice_get}
use Rattle.std.specs.Option.{option_map_or}
use Rattle.std.proofs.lemmas.Bool.{and_from}
use Rattle.flame_spec.specs.declared.outcomes.Widths.{Widths}
use Rattle.flame_body.specs.declared.slots.SlotStmt.{SlotStmt}
use Rattle.flame_body.specs.BodyFits.{at_beginning, tree_fits}
use Rattle.flame_code.specs.declared.instrs.Instr.{Instr}
use Rattle.flame_code.specs.declared.instrs.Instr.TheVariants.{Push, Return}
use Rattle.flame_code.specs.Labels.{starts_fit, is_return, ends_fit, all_fit}
use Rattle.flame_code.specs.Validity.{IsValid}
use Rattle.flame_code.proofs.Labelling.{labels_valid}
use Rattle.flame_compile.specs.Emit.{statements, emitted}
use Rattle.flame_compile.proofs.Labelled.{label, routine, LiesAt, lies_begin, found_right, fit_append, Labelled, no_needs, plain, joined, narrowed}
use Rattle.flame_compile.proofs.LabelledExpressions.{IsSound}
use Rattle.flame_compile.proofs.LabelledStatements.{statements_labelled}

-- at the beginning of a body no loop is open
sound_beginning : (w : Widths) → IsSound (at_beginning w)
sound_beginning w = record { known = λ k e. absurd (let bad : false ≡ true = e in cc) }

-- the statements, and the 0 behind them, which is returned
begun_labelled :
    (w : Widths) (tree : List SlotStmt)
    → tree_fits w tree ≡ true
    → Labelled no_needs w 0
    ((statements tree).code (statements tree).size (statements tree).size 0 ++ Push (pos 0) ∷ []) (label 0 [])
    (label 1 []) []
begun_labelled w tree tree_fit =
    let end = (statements tree).size in
    let all_of = narrowed no_needs
    (statements_labelled tree (at_beginning w) (sound_beginning w) end end end 0 (omega arith) tree_fit)
    (λ instrs all needs open_. absurd (let bad : false ≡ true = open_ in cc)) in
    joined all_of
    (plain no_needs w (0 + length ((statements tree).code end end 0)) (Push (pos 0)) 0 1 [] refl (omega arith)
    (omega arith) refl refl)

-- code with `Return` behind it, where its labels end with one value on the stack
returned_valid :
    (w : Widths) (is : List Instr)
    → Labelled no_needs w 0 is (label 0 []) (label 1 []) [] → IsValid (routine w (is ++ Return ∷ []))
returned_valid w is x =
    let whole = is ++ Return ∷ [] in
    let all = x.labels ++ label 1 [] ∷ [] in
    let lies : LiesAt all 0 x.labels = lies_begin x.labels (label 1 [] ∷ []) in
    let end : length x.labels + 0 ≡ 0 + length is = omega (arith, x.long) in
    let exit : slice_get all (0 + length is) ≡ Some (label 1 []) =
    subst (λ k. slice_get all k ≡ Some (label 1 [])) end (found_right x.labels (label 1 [] ∷ []) 0 (label 1 []) refl) in
    let last : length is + 0 ≡ length whole - 1 = omega (arith, length-append is (Return ∷ [])) in
    let ends : slice_get whole (length whole - 1) ≡ Some Return =
    subst (λ k. slice_get whole k ≡ Some Return) last (found_right is (Return ∷ []) 0 Return refl) in
    labels_valid (routine w whole) all
    (and_from (starts_fit (slice_get all 0)) (ends_fit whole && all_fit (routine w whole) all 0 whole all)
    (ap starts_fit (x.begins all lies exit))
    (and_from (ends_fit whole) (all_fit (routine w whole) all 0 whole all)
    (ap (λ o. option_map_or is_return o false) ends)
    (fit_append (routine w whole) all 0 is (Return ∷ []) x.labels (label 1 [] ∷ []) x.long
    (x.fits whole all (lies_begin is (Return ∷ [])) lies exit tt) refl)))

-- the code of a body that fits is valid
pub emitted_valid :
    (w : Widths) (tree : List SlotStmt)
    → tree_fits w tree ≡ true → IsValid (record { instrs = emitted tree; widths = w })
emitted_valid w tree tree_fit =
    let size = (statements tree).size in
    let front = (statements tree).code size size 0 in
    subst (λ is. IsValid (routine w is)) (append_assoc front (Push (pos 0) ∷ []) (Return ∷ []))
    (returned_valid w (front ++ Push (pos 0) ∷ []) (begun_labelled w tree tree_fit))
