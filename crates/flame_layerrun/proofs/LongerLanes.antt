-- Lanes by which more was handed in.
use Rattle.std.proofs.Common.{◌≡◌, ℕ, zero, suc, ◌+◌, ◌<◌, true, false, cond, List, [], ◌∷◌, ◌++◌, length, get_or, set, Some, refl, sym, ap, ◌∙◌, subst, arith}
use Rattle.std.specs.Prelude.{ℤ, ◌==◌, slice_get}
use Rattle.std.specs.List.{Contains}
use Rattle.std.proofs.lemmas.Bool.{eq-eqb, ne_eqb}
use Rattle.flame_rows.specs.Bags.{weigh}
use Rattle.flame_world.specs.declared.pieces.Part.{Part}
use Rattle.flame_board.specs.declared.boards.Board.{Board}
use Rattle.flame_board.specs.declared.lanes.Lane.{Lane}
use Rattle.flame_board.specs.LaneParts.{weigh_parts}
use Rattle.flame_board.specs.SeenBoards.{IsLaneOf}
use Rattle.flame_board.specs.SeenLanes.{IsSameLane, parts_of}
use Rattle.flame_board.proofs.Weights.{weigh_parts-append}
use Rattle.flame_layerrun.specs.LayerWork.{AreLonger, AreOwn, weigh_of_type}

same-lane : (lane : Lane) → IsSameLane lane lane
same-lane lane = record { number = refl; dues = refl; channel = refl }

same-both : (one two three : Lane) → IsSameLane one two → IsSameLane two three → IsSameLane one three
same-both one two three g h = record {
  number = h.number ∙ g.number;
  dues = h.dues ∙ g.dues;
  channel = h.channel ∙ g.channel;
}

-- nothing more
pub longer-none : (more : ℕ → (List ℤ → ℕ) → ℕ) (messages : List ℕ) (lanes : List Lane)
    → ((place message : ℕ) → slice_get messages place ≡ Some message → (weight : List ℤ → ℕ) → more message weight ≡ 0)
    → length messages ≡ length lanes → AreLonger more messages lanes lanes
longer-none more [] [] none long = tt
longer-none more [] (lane ∷ lanes) none long = absurd (omega (arith, long))
longer-none more (message ∷ messages) [] none long = absurd (omega (arith, long))
longer-none more (message ∷ messages) (lane ∷ lanes) none long = (
  same-lane lane,
  (λ weight. omega (arith, none 0 message refl weight)),
  longer-none more messages lanes (λ place other at. none (suc place) other at) (omega (arith, long)),
)

-- so much, and then so much more
pub longer-both : (one two all : ℕ → (List ℤ → ℕ) → ℕ)
    → ((message : ℕ) (weight : List ℤ → ℕ) → all message weight ≡ one message weight + two message weight)
    → (messages : List ℕ) (olds mids news : List Lane)
    → AreLonger one messages olds mids → AreLonger two messages mids news → AreLonger all messages olds news
longer-both one two all sum [] [] [] [] g h = tt
longer-both one two all sum [] [] [] (new ∷ news) g h = absurd h
longer-both one two all sum [] [] (mid ∷ mids) news g h = absurd g
longer-both one two all sum [] (old ∷ olds) mids news g h = absurd g
longer-both one two all sum (message ∷ messages) [] mids news g h = absurd g
longer-both one two all sum (message ∷ messages) (old ∷ olds) [] news g h = absurd g
longer-both one two all sum (message ∷ messages) (old ∷ olds) (mid ∷ mids) [] g h = absurd h
longer-both one two all sum (message ∷ messages) (old ∷ olds) (mid ∷ mids) (new ∷ news) g h = (
  same-both old mid new g.0 h.0,
  (λ weight. omega (arith, g.1 weight, h.1 weight, sum message weight)),
  longer-both one two all sum messages olds mids news g.2 h.2,
)

-- told in another way
pub longer-told : (one other : ℕ → (List ℤ → ℕ) → ℕ) → ((message : ℕ) (weight : List ℤ → ℕ) → one message weight ≡ other message weight)
    → (messages : List ℕ) (olds news : List Lane) → AreLonger one messages olds news → AreLonger other messages olds news
longer-told one other same messages olds news g =
    subst (λ (more : ℕ → (List ℤ → ℕ) → ℕ). AreLonger more messages olds news) (λ i message weight. same message weight i) g

-- as many as before
pub longer-length : (more : ℕ → (List ℤ → ℕ) → ℕ) (messages : List ℕ) (olds news : List Lane)
    → AreLonger more messages olds news → length messages ≡ length news
longer-length more [] [] [] g = refl
longer-length more [] [] (new ∷ news) g = absurd g
longer-length more [] (old ∷ olds) news g = absurd g
longer-length more (message ∷ messages) [] news g = absurd g
longer-length more (message ∷ messages) (old ∷ olds) [] g = absurd g
longer-length more (message ∷ messages) (old ∷ olds) (new ∷ news) g = ap suc (longer-length more messages olds news g.2)

-- of the same boards
pub longer-own : (more : ℕ → (List ℤ → ℕ) → ℕ) (messages : List ℕ) (boards : List Board) (olds news : List Lane)
    → AreLonger more messages olds news → AreOwn boards olds → AreOwn boards news
longer-own more [] boards [] [] g own = own
longer-own more [] boards [] (new ∷ news) g own = absurd g
longer-own more [] boards (old ∷ olds) news g own = absurd g
longer-own more (message ∷ messages) boards [] news g own = absurd g
longer-own more (message ∷ messages) boards (old ∷ olds) [] g own = absurd g
longer-own more (message ∷ messages) [] (old ∷ olds) (new ∷ news) g own = absurd own
longer-own more (message ∷ messages) (board ∷ boards) (old ∷ olds) (new ∷ news) g own =
    (subst (Contains _) (sym g.0.channel) own.0, longer-own more messages boards olds news g.2 own.1)

-- ---- a lane of each board

pub own-length : (boards : List Board) (lanes : List Lane) → AreOwn boards lanes → length boards ≡ length lanes
own-length [] [] own = refl
own-length [] (lane ∷ lanes) own = absurd own
own-length (board ∷ boards) [] own = absurd own
own-length (board ∷ boards) (lane ∷ lanes) own = ap suc (own-length boards lanes own.1)

pub own-at : (boards : List Board) (lanes : List Lane) (place : ℕ) (board : Board) (lane : Lane)
    → AreOwn boards lanes → place < length lanes
    → IsLaneOf (get_or boards place board) (get_or lanes place lane)
own-at [] [] place board lane own less = absurd (omega (arith, less))
own-at [] (l ∷ lanes) place board lane own less = absurd own
own-at (b ∷ boards) [] place board lane own less = absurd own
own-at (b ∷ boards) (l ∷ lanes) zero board lane own less = own.0
own-at (b ∷ boards) (l ∷ lanes) (suc place) board lane own less = own-at boards lanes place board lane own.1 (omega (arith, less))

-- ---- one part more

-- what a part weighs for its message, and for another
own-weight : (part : Part) (message : ℕ) (weight : List ℤ → ℕ) → part.message ≡ message
    → weigh_of_type (part ∷ []) message weight ≡ weigh weight part.rows
own-weight part message weight same =
    let e : weigh_of_type (part ∷ []) message weight ≡ weigh weight part.rows + 0 =
    ap (λ b. cond b (weigh weight part.rows) 0 + 0) (eq-eqb part.message message same) in
    omega (arith, e)

no-weight : (part : Part) (message : ℕ) (weight : List ℤ → ℕ) → (part.message ≡ message → ⊥)
    → weigh_of_type (part ∷ []) message weight ≡ 0
no-weight part message weight apart =
    let e : weigh_of_type (part ∷ []) message weight ≡ 0 + 0 =
    ap (λ b. cond b (weigh weight part.rows) 0 + 0) (ne_eqb part.message message apart) in
    omega (arith, e)

pub longer-part : (part : Part) (messages : List ℕ) (lanes : List Lane) (place : ℕ) (lane new : Lane)
    → slice_get messages place ≡ Some part.message
    → ((other : ℕ) → slice_get messages other ≡ Some part.message → other ≡ place)
    → length messages ≡ length lanes
    → IsSameLane (get_or lanes place lane) new
    → parts_of new ≡ parts_of (get_or lanes place lane) ++ part ∷ []
    → AreLonger (weigh_of_type (part ∷ [])) messages lanes (set lanes place new)
longer-part part [] lanes place lane new at only long same more = absurd (cc)
longer-part part (message ∷ messages) [] place lane new at only long same more = absurd (omega (arith, long))
longer-part part (message ∷ messages) (old ∷ olds) zero lane new at only long same more =
    let is : part.message ≡ message = cc in
    let heavy : (weight : List ℤ → ℕ) → weigh_parts weight (parts_of new) ≡ weigh_parts weight (parts_of old) + weigh_of_type (part ∷ []) message weight =
    λ weight.
    let e = ap (weigh_parts weight) more ∙ weigh_parts-append weight (parts_of old) (part ∷ []) in
    let one : weigh_parts weight (part ∷ []) ≡ weigh weight part.rows + 0 = refl in
    omega (arith, e, one, own-weight part message weight is) in (
      same,
      heavy,
      longer-none (weigh_of_type (part ∷ [])) messages olds
          (λ place other there weight. no-weight part other weight (λ other_is.
          absurd (omega (arith, only (suc place) (there ∙ ap Some (sym other_is))))))
          (omega (arith, long)),
    )
longer-part part (message ∷ messages) (old ∷ olds) (suc place) lane new at only long same more =
    let none : (weight : List ℤ → ℕ) → weigh_of_type (part ∷ []) message weight ≡ 0 =
    λ weight. no-weight part message weight (λ is. absurd (omega (arith, only 0 (ap Some (sym is))))) in (
      same-lane old,
      (λ weight. omega (arith, none weight)),
      longer-part part messages olds place lane new at
          (λ other there. omega (arith, only (suc other) there))
          (omega (arith, long)) same more,
    )

pub weigh_of_type-append : (parts more : List Part) (message : ℕ) (weight : List ℤ → ℕ)
    → weigh_of_type (parts ++ more) message weight ≡ weigh_of_type parts message weight + weigh_of_type more message weight
weigh_of_type-append [] more message weight = omega arith
weigh_of_type-append (part ∷ parts) more message weight = omega (arith, weigh_of_type-append parts more message weight)
