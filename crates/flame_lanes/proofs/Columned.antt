-- Lanes by board and by worker.
use Rattle.std.proofs.Common.{◌≡◌, ℕ, zero, suc, ◌+◌, ◌<◌, List, [], ◌∷◌, ◌++◌, Vec, map, length, set, get_or, sym, ap, ◌∙◌, subst, arith, append-nil, append_assoc, length-append}
use Rattle.std.specs.Global.{Global}
use Rattle.std.specs.List.{All}
use Rattle.std.proofs.lemmas.List.Elements.{All-cons, All-head, All-tail}
use Rattle.std.proofs.lemmas.List.{nil_from_length}
use Rattle.flame_board.specs.declared.lanes.Lane.{Lane}
use Rattle.flame_lanes.specs.LaneColumns.{AreColumns, AreLongerBy, AreNone}

abbrev Columns : Type 0
Columns = List (Vec Lane Global)

-- ---- a lane more in each column

-- the first columns have a lane more each, and the others are the same
abbrev pub AreBegun : Columns → List Lane → Columns → Type 0
AreBegun columns [] longers = columns ≡ longers
AreBegun (column ∷ columns) (lane ∷ lanes) (longer ∷ longers) =
    (longer.items ≡ column.items ++ lane ∷ []) × AreBegun columns lanes longers
AreBegun [] (lane ∷ lanes) longers = ⊥
AreBegun (column ∷ columns) (lane ∷ lanes) [] = ⊥

pub begun-length : (columns : Columns) (lanes : List Lane) (longers : Columns)
    → AreBegun columns lanes longers → length columns ≡ length longers
begun-length columns [] longers all = ap length all
begun-length (column ∷ columns) (lane ∷ lanes) (longer ∷ longers) all = ap suc (begun-length columns lanes longers all.1)
begun-length [] (lane ∷ lanes) longers all = absurd all
begun-length (column ∷ columns) (lane ∷ lanes) [] all = absurd all

pub begun-all : (columns : Columns) (lanes : List Lane) (longers : Columns)
    → AreBegun columns lanes longers → length lanes ≡ length columns → AreLongerBy columns lanes longers
begun-all [] [] longers all long = subst (AreLongerBy [] []) all tt
begun-all (column ∷ columns) [] longers all long = absurd (omega (arith, long))
begun-all (column ∷ columns) (lane ∷ lanes) (longer ∷ longers) all long =
    (all.0, begun-all columns lanes longers all.1 (omega (arith, long)))
begun-all [] (lane ∷ lanes) longers all long = absurd all
begun-all (column ∷ columns) (lane ∷ lanes) [] all long = absurd all

-- what comes next is the same in both
pub begun-next : (columns : Columns) (lanes : List Lane) (longers : Columns) (place : ℕ) (own : Vec Lane Global)
    → AreBegun columns lanes longers → length lanes ≡ place → place < length columns
    → get_or columns place own ≡ get_or longers place own
begun-next columns [] longers place own all long less = ap (λ (l : Columns). get_or l place own) all
begun-next (column ∷ columns) (lane ∷ lanes) (longer ∷ longers) zero own all long less = absurd (omega (arith, long))
begun-next (column ∷ columns) (lane ∷ lanes) (longer ∷ longers) (suc place) own all long less =
    begun-next columns lanes longers place own all.1 (omega (arith, long)) (omega (arith, less))
begun-next [] (lane ∷ lanes) longers place own all long less = absurd all
begun-next (column ∷ columns) (lane ∷ lanes) [] place own all long less = absurd all

-- the next column has a lane more, too
pub begun-more : (columns : Columns) (lanes : List Lane) (longers : Columns) (place : ℕ) (lane : Lane) (own longer : Vec Lane Global)
    → AreBegun columns lanes longers → length lanes ≡ place → place < length longers
    → own ≡ get_or longers place own → longer.items ≡ own.items ++ lane ∷ []
    → AreBegun columns (lanes ++ lane ∷ []) (set longers place longer)
begun-more [] [] [] place lane own longer all long less at is = absurd (omega (arith, less))
begun-more [] [] (other ∷ longers) place lane own longer all long less at is = absurd (cc)
begun-more (column ∷ columns) [] [] place lane own longer all long less at is = absurd (cc)
begun-more (column ∷ columns) [] (other ∷ longers) zero lane own longer all long less at is =
    let same : own ≡ column = cc in
    let others : columns ≡ longers = cc in
    (is ∙ ap (λ (v : Vec Lane Global). v.items ++ lane ∷ []) same, others)
begun-more (column ∷ columns) [] (other ∷ longers) (suc place) lane own longer all long less at is = absurd (omega (arith, long))
begun-more (column ∷ columns) (first ∷ lanes) (other ∷ longers) zero lane own longer all long less at is =
    absurd (omega (arith, long))
begun-more (column ∷ columns) (first ∷ lanes) (other ∷ longers) (suc place) lane own longer all long less at is =
    (all.0, begun-more columns lanes longers place lane own longer all.1 (omega (arith, long)) (omega (arith, less)) at is)
begun-more [] (first ∷ lanes) longers place lane own longer all long less at is = absurd all
begun-more (column ∷ columns) (first ∷ lanes) [] place lane own longer all long less at is = absurd all

-- the next column had a lane more, too
pub begun-taken : (columns : Columns) (lanes : List Lane) (longers : Columns) (place : ℕ) (lane : Lane) (own shorter : Vec Lane Global)
    → AreBegun columns lanes longers → length lanes ≡ place → place < length columns
    → own ≡ get_or columns place own → own.items ≡ shorter.items ++ lane ∷ []
    → AreBegun (set columns place shorter) (lanes ++ lane ∷ []) longers
begun-taken [] [] longers place lane own shorter all long less at is = absurd (omega (arith, less))
begun-taken (column ∷ columns) [] [] place lane own shorter all long less at is = absurd (cc)
begun-taken (column ∷ columns) [] (other ∷ longers) zero lane own shorter all long less at is =
    let same : other ≡ own = cc in
    let others : columns ≡ longers = cc in
    (ap (λ (v : Vec Lane Global). v.items) same ∙ is, others)
begun-taken (column ∷ columns) [] (other ∷ longers) (suc place) lane own shorter all long less at is =
    absurd (omega (arith, long))
begun-taken (column ∷ columns) (first ∷ lanes) (other ∷ longers) zero lane own shorter all long less at is =
    absurd (omega (arith, long))
begun-taken (column ∷ columns) (first ∷ lanes) (other ∷ longers) (suc place) lane own shorter all long less at is =
    (all.0, begun-taken columns lanes longers place lane own shorter all.1 (omega (arith, long)) (omega (arith, less)) at is)
begun-taken [] (first ∷ lanes) longers place lane own shorter all long less at is = absurd all
begun-taken (column ∷ columns) (first ∷ lanes) [] place lane own shorter all long less at is = absurd all

-- ---- how long the columns are

-- each was one shorter
pub longer-left : (columns : Columns) (lanes : List Lane) (longers : Columns) (all n m : ℕ)
    → AreLongerBy columns lanes longers → m ≡ n + 1
    → All (λ (column : Vec Lane Global). length column.items + n ≡ all) longers
    → All (λ (column : Vec Lane Global). length column.items + m ≡ all) columns
longer-left [] [] [] all n m longer next long = λ k d less. absurd (omega (arith, less))
longer-left (column ∷ columns) (lane ∷ lanes) (first ∷ longers) all n m longer next long =
    All-cons (λ (v : Vec Lane Global). length v.items + m ≡ all) column columns here
    (longer-left columns lanes longers all n m longer.1 next
    (All-tail (λ (v : Vec Lane Global). length v.items + n ≡ all) first longers long))
  where
    here : length column.items + m ≡ all
    here =
        let one : length first.items + n ≡ all = All-head (λ (v : Vec Lane Global). length v.items + n ≡ all) first longers long in
        omega (arith, one, next, ap (length {A = Lane}) longer.0, length-append column.items (lane ∷ []))
longer-left [] [] (first ∷ longers) all n m longer next long = absurd longer
longer-left [] (lane ∷ lanes) longers all n m longer next long = absurd longer
longer-left (column ∷ columns) [] longers all n m longer next long = absurd longer
longer-left (column ∷ columns) (lane ∷ lanes) [] all n m longer next long = absurd longer

-- the place of the next lane of a row is that of a column
pub row-place : (done rest left row : List Lane) (lane : Lane) (columns longers : Columns) (place : ℕ)
    → done ++ rest ≡ row → rest ≡ lane ∷ left → length row ≡ length columns → AreBegun columns done longers
    → place ≡ length done → place < length longers
row-place done rest left row lane columns longers place whole next long begun at = omega (
  arith,
  at,
  long,
  ap (length {A = Lane}) whole,
  length-append done rest,
  ap (length {A = Lane}) next,
  begun-length columns done longers begun,
)

-- ---- none

pub none-more : (columns : Columns) (column : Vec Lane Global) → AreNone columns → column.items ≡ [] → AreNone (columns ++ column ∷ [])
none-more [] column all none = (none, tt)
none-more (own ∷ columns) column all none = (all.0, none-more columns column all.1 none)

-- no lane is left
pub none-left : (columns : Columns) (n all : ℕ)
    → All (λ (column : Vec Lane Global). length column.items + n ≡ all) columns → n ≡ all → AreNone columns
none-left [] n all long over = tt
none-left (column ∷ columns) n all long over =
    let P : Vec Lane Global → Type 0 = λ v. length v.items + n ≡ all in
    let here : length column.items + n ≡ all = All-head P column columns long in
    (nil_from_length column.items (omega (arith, here, over)), none-left columns n all (All-tail P column columns long) over)

-- ---- rows

-- a row is dealt
pub dealt : (before : List (List Lane)) (row : List Lane) (columns shorter all : Columns)
    → ((rows : List (List Lane)) → AreColumns rows columns → AreColumns (before ++ rows) all)
    → AreLongerBy shorter row columns
    → (rows : List (List Lane)) → AreColumns rows shorter → AreColumns ((before ++ row ∷ []) ++ rows) all
dealt before row columns shorter all so_far longer rows are =
    subst (λ (z : List (List Lane)). AreColumns z all) (sym (append_assoc before (row ∷ []) rows))
    (so_far (row ∷ rows) (shorter, are, longer))

-- all rows are dealt
pub dealt-all : (rows : List (List Lane)) (columns all : Columns)
    → ((others : List (List Lane)) → AreColumns others columns → AreColumns (rows ++ others) all)
    → AreNone columns → AreColumns rows all
dealt-all rows columns all so_far none =
    subst (λ (z : List (List Lane)). AreColumns z all) (append-nil rows) (so_far [] none)

-- ---- tests of what is mapped

pub All-unmapped : {X Y : Type 0} (P : Y → Type 0) (f : X → Y) (xs : List X) → All P (map f xs) → All (λ x. P (f x)) xs
All-unmapped P f [] all = λ k d less. absurd (omega (arith, less))
All-unmapped P f (x ∷ xs) all =
    All-cons (λ x. P (f x)) x xs (All-head P (f x) (map f xs) all) (All-unmapped P f xs (All-tail P (f x) (map f xs) all))

-- nothing follows
pub ends-here : {X : Type 0} (done rest all : List X) → done ++ rest ≡ all → length rest ≡ 0 → done ≡ all
ends-here done [] all whole none = sym (append-nil done) ∙ whole
ends-here done (x ∷ rest) all whole none = absurd (omega (arith, none))
