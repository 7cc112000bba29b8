-- Pieces are written one behind another.
use Rattle.std.proofs.Common.{◌≡◌, ℕ, suc, ◌+◌, List, [], ◌∷◌, ◌++◌, ◌-◌, length, drop, take, get_or, ◌<◌, ◌≤◌, refl, sym, ap, ◌∙◌, append_assoc, length-append, append-nil, arith}
use Rattle.std.specs.Prelude.{ℤ}
use Rattle.std.proofs.Math.ListN.{drop_of_length-le}
use Rattle.std.proofs.lemmas.List.{at_drop_more, take_more}
use Rattle.flame_spec.specs.declared.trees.Sign.{Sign}
use Rattle.flame_code.specs.declared.instrs.Instr.{Instr}
use Rattle.flame_code.specs.declared.instrs.Instr.TheVariants.{Push, Jump}
use Rattle.flame_compile.specs.Pieces.{Piece, row, one, both, in_order, placed, written}
use Rattle.flame_compile.specs.Emit.{sign_code, signs_code, each_column, tested_size, tested}

pub written_one : (i : Instr) (c : List Instr) → c ++ i ∷ [] ≡ written (one i) c
unfolding written
written_one i c = refl

pub written_none : (c : List Instr) → c ≡ written (row []) c
unfolding written
written_none c = sym (append-nil c)

pub written_both : (a b : Piece) (c : List Instr) → written b (written a c) ≡ written (both a b) c
unfolding written
written_both a b c =
    let front = a.code (length c) in
    ap (λ n. (c ++ front) ++ b.code n) (length-append c front)
    ∙ append_assoc c front (b.code (length c + length front))

-- a row of instructions, one by one
pub written_row : (i : Instr) (is c : List Instr) → written (row is) (written (one i) c) ≡ written (row (i ∷ is)) c
unfolding written
written_row i is c = append_assoc c (i ∷ []) is

-- two pieces of which the second stands behind the first
pub two_written : (a b whole : Piece) (c c1 c2 : List Instr)
    → c1 ≡ written a c
    → c2 ≡ written b c1
    → both a b ≡ whole
    → c2 ≡ written whole c
two_written a b whole c c1 c2 first second is =
    second ∙ ap (written b) first ∙ written_both a b c ∙ ap (λ x. written x c) is

-- ---- pieces of a list

-- pieces written in order
abbrev pub all_written : List Piece → List Instr → List Instr
all_written [] c = c
all_written (piece ∷ pieces) c = all_written pieces (written piece c)

pub written_in_order : (pieces : List Piece) (c : List Instr) → all_written pieces c ≡ written (in_order pieces) c
written_in_order [] c = written_none c
written_in_order (piece ∷ pieces) c =
    written_in_order pieces (written piece c) ∙ written_both piece (in_order pieces) c

-- the pieces of a list from place i on: the first of them, and then those behind it
pub written_more : {A : Type 0} (whole : List A → Piece) (piece : A → Piece)
    → ((x : A) (xs : List A) → whole (x ∷ xs) ≡ both (piece x) (whole xs))
    → (xs : List A) (i : ℕ) (x : A) (c : List Instr)
    → i < length xs
    → x ≡ get_or xs i x
    → written (whole (drop i xs)) c ≡ written (whole (drop (i + 1) xs)) (written (piece x) c)
written_more whole piece by xs i x c within is =
    ap (λ l. written l c) (at_drop_more whole xs i x within ∙ by (get_or xs i x) (drop (i + 1) xs))
    ∙ sym (written_both (piece (get_or xs i x)) (whole (drop (i + 1) xs)) c)
    ∙ ap (λ y. written (whole (drop (i + 1) xs)) (written (piece y) c)) (sym is)

-- at the list's end nothing is left to write
pub written_done : {A : Type 0} (whole : List A → Piece)
    → whole [] ≡ row []
    → (xs : List A) (i : ℕ) (c : List Instr)
    → length xs ≤ i
    → c ≡ written (whole (drop i xs)) c
written_done whole by xs i c le =
    written_none c ∙ ap (λ l. written l c) (sym by) ∙ ap (λ l. written (whole l) c) (sym (drop_of_length-le xs le))

-- ---- pieces in order, one by one

pub wrote_2 : (p q : Piece) (c c1 c2 : List Instr)
    → c1 ≡ written p c → c2 ≡ written q c1 → c2 ≡ written (in_order (p ∷ q ∷ [])) c
wrote_2 p q c c1 c2 e1 e2 = e2 ∙ ap (written q) e1 ∙ written_in_order (p ∷ q ∷ []) c

pub wrote_3 : (p q r : Piece) (c c1 c2 c3 : List Instr)
    → c1 ≡ written p c → c2 ≡ written q c1 → c3 ≡ written r c2 → c3 ≡ written (in_order (p ∷ q ∷ r ∷ [])) c
wrote_3 p q r c c1 c2 c3 e1 e2 e3 =
    e3 ∙ ap (written r) (e2 ∙ ap (written q) e1) ∙ written_in_order (p ∷ q ∷ r ∷ []) c

pub wrote_4 : (p q r s : Piece) (c c1 c2 c3 c4 : List Instr)
    → c1 ≡ written p c → c2 ≡ written q c1 → c3 ≡ written r c2 → c4 ≡ written s c3
    → c4 ≡ written (in_order (p ∷ q ∷ r ∷ s ∷ [])) c
wrote_4 p q r s c c1 c2 c3 c4 e1 e2 e3 e4 =
    e4 ∙ ap (written s) (e3 ∙ ap (written r) (e2 ∙ ap (written q) e1)) ∙ written_in_order (p ∷ q ∷ r ∷ s ∷ []) c

pub wrote_5 : (p q r s t : Piece) (c c1 c2 c3 c4 c5 : List Instr)
    → c1 ≡ written p c → c2 ≡ written q c1 → c3 ≡ written r c2 → c4 ≡ written s c3 → c5 ≡ written t c4
    → c5 ≡ written (in_order (p ∷ q ∷ r ∷ s ∷ t ∷ [])) c
wrote_5 p q r s t c c1 c2 c3 c4 c5 e1 e2 e3 e4 e5 =
    e5 ∙ ap (written t) (e4 ∙ ap (written s) (e3 ∙ ap (written r) (e2 ∙ ap (written q) e1)))
    ∙ written_in_order (p ∷ q ∷ r ∷ s ∷ t ∷ []) c

pub wrote_7 : (p q r s t u v : Piece) (c c1 c2 c3 c4 c5 c6 c7 : List Instr)
    → c1 ≡ written p c → c2 ≡ written q c1 → c3 ≡ written r c2 → c4 ≡ written s c3 → c5 ≡ written t c4
    → c6 ≡ written u c5 → c7 ≡ written v c6
    → c7 ≡ written (in_order (p ∷ q ∷ r ∷ s ∷ t ∷ u ∷ v ∷ [])) c
wrote_7 p q r s t u v c c1 c2 c3 c4 c5 c6 c7 e1 e2 e3 e4 e5 e6 e7 =
    e7 ∙ ap (written v) (e6 ∙ ap (written u)
    (e5 ∙ ap (written t) (e4 ∙ ap (written s) (e3 ∙ ap (written r) (e2 ∙ ap (written q) e1)))))
    ∙ written_in_order (p ∷ q ∷ r ∷ s ∷ t ∷ u ∷ v ∷ []) c

-- ---- `&&` and `||`

pub choice_written : (jump : ℕ → Instr) (a b : ℤ) (parts : List Piece) (to e : ℕ) (c c1 c2 c3 c4 : List Instr)
    → to ≡ length c + tested_size parts + 2
    → e ≡ length c + tested_size parts + 3
    → c1 ≡ written (tested (jump to) parts) c
    → c2 ≡ written (one (Push a)) c1
    → c3 ≡ written (one (Jump e)) c2
    → c4 ≡ written (one (Push b)) c3
    → c4 ≡ written (placed (tested_size parts + 3) (λ p. in_order (tested (jump (p + tested_size parts + 2)) parts
    ∷ one (Push a) ∷ one (Jump (p + tested_size parts + 3)) ∷ one (Push b) ∷ []))) c
unfolding written
choice_written jump a b parts to e c c1 c2 c3 c4 to_is e_is e1 e2 e3 e4 =
    wrote_4 (tested (jump to) parts) (one (Push a)) (one (Jump e)) (one (Push b)) c c1 c2 c3 c4 e1 e2 e3 e4
    ∙ ap (λ n. written (in_order (tested (jump n) parts ∷ one (Push a) ∷ one (Jump e) ∷ one (Push b) ∷ [])) c) to_is
    ∙ ap (λ n. written (in_order (tested (jump (length c + tested_size parts + 2)) parts
    ∷ one (Push a) ∷ one (Jump n) ∷ one (Push b) ∷ [])) c) e_is

-- ---- signs

signs_last : (signs : List Sign) (sign : Sign)
    → signs_code (signs ++ sign ∷ []) ≡ sign_code sign.kind sign.line ++ signs_code signs
signs_last [] sign = sym (append-nil (sign_code sign.kind sign.line))
signs_last (s ∷ signs) sign =
    ap (λ l. l ++ sign_code s.kind s.line) (signs_last signs sign)
    ∙ append_assoc (sign_code sign.kind sign.line) (signs_code signs) (sign_code s.kind s.line)

-- the last of the first signs, and then those before it
pub signs_more : (signs : List Sign) (i : ℕ) (d : Sign) (c : List Instr)
    → i < length signs
    → written (row (signs_code (take (i + 1) signs))) c
    ≡ written (row (signs_code (take i signs)))
    (written (row (sign_code (get_or signs i d).kind (get_or signs i d).line)) c)
unfolding written
signs_more signs i d c within =
    let sign = get_or signs i d in
    ap (λ l. c ++ signs_code l) (take_more signs i d within)
    ∙ ap (λ l. c ++ l) (signs_last (take i signs) sign)
    ∙ sym (append_assoc c (sign_code sign.kind sign.line) (signs_code (take i signs)))

-- ---- columns

columns_next : (load : ℕ → Instr) (first rest : ℕ) (c : List Instr)
    → written (row (each_column load first (suc rest))) c
    ≡ written (row (each_column load (first + 1) rest)) (written (one (load first)) c)
columns_next load first rest c = sym (written_row (load first) (each_column load (first + 1) rest) c)

-- one column, and then those behind it
pub columns_more : (load : ℕ → Instr) (first place count : ℕ) (c : List Instr)
    → place < count
    → written (row (each_column load (first + place) (count - place))) c
    ≡ written (row (each_column load (first + (place + 1)) (count - (place + 1))))
    (written (one (load (first + place))) c)
columns_more load first place count c within =
    let more : count - place ≡ suc (count - (place + 1)) = omega arith in
    let next : first + place + 1 ≡ first + (place + 1) = omega arith in
    ap (λ n. written (row (each_column load (first + place) n)) c) more
    ∙ columns_next load (first + place) (count - (place + 1)) c
    ∙ ap (λ n. written (row (each_column load n (count - (place + 1)))) (written (one (load (first + place))) c)) next
