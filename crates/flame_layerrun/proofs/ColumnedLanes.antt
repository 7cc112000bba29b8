-- The lanes of a layer, which workers fill row by row, column by column.
use Rattle.std.proofs.Common.{◌≡◌, ℕ, zero, suc, ◌+◌, cond, List, [], ◌∷◌, ◌++◌, Vec, map, length, get_or, Some, refl, sym, ap, ◌∙◌, subst, arith}
use Rattle.std.specs.Prelude.{slice_get}
use Rattle.std.specs.Global.{Global}
use Rattle.std.specs.List.{All, AllZip, Contains, flat_map}
use Rattle.std.proofs.lemmas.Bool.{eq-eqb, ne_eqb}
use Rattle.std.proofs.lemmas.List.{map-append}
use Rattle.std.proofs.lemmas.List.Elements.{All-cons, All-head, All-nil, All-same, All-tail}
use Rattle.crossbeam_channel.specs.Ends.{sends_on}
use Rattle.flame_world.specs.Fields.{Field}
use Rattle.flame_world.specs.Iterations.{Round}
use Rattle.flame_events.proofs.Weights.{Weight}
use Rattle.flame_board.specs.declared.boards.Board.{Board}
use Rattle.flame_board.specs.declared.lanes.Lane.{Lane}
use Rattle.flame_board.specs.SeenBoards.{AreLanesOf, IsLaneOf}
use Rattle.flame_board.specs.SeenLanes.{weigh_lanes}
use Rattle.flame_board.proofs.EndLists.{contains-map}
use Rattle.flame_board.proofs.Weights.{weigh_lanes-lane}
use Rattle.flame_lanes.specs.declared.jobs.Done.{Done}
use Rattle.flame_lanes.specs.declared.jobs.Job.{Job}
use Rattle.flame_lanes.specs.declared.tasks.Task.{Task}
use Rattle.flame_lanes.specs.LaneColumns.{AreColumns, AreLongerBy, AreNone}
use Rattle.flame_lanes.specs.LayerBoards.{TakeFrom, weigh_columns}
use Rattle.flame_layerrun.specs.LayerWork.{AreDone, AreLonger, AreOwn, weigh_all_sent}
use Rattle.flame_layerrun.proofs.LongerLanes.{longer-length}

abbrev Column : Type 0
Column = Vec Lane Global

abbrev Columns : Type 0
Columns = List Column

-- ---- one row more

longers-length : (columns longers : Columns) (row : List Lane) → AreLongerBy columns row longers → length columns ≡ length longers
longers-length [] [] [] by_row = refl
longers-length [] (longer ∷ longers) [] by_row = absurd by_row
longers-length [] longers (lane ∷ row) by_row = absurd by_row
longers-length (column ∷ columns) longers [] by_row = absurd by_row
longers-length (column ∷ columns) [] (lane ∷ row) by_row = absurd by_row
longers-length (column ∷ columns) (longer ∷ longers) (lane ∷ row) by_row = omega (arith, longers-length columns longers row by_row.1)

-- ---- what is filled

-- each column has the same lanes still, and by them so much more was handed in
abbrev pub AreFilled : (ℕ → Weight → ℕ) → List ℕ → Columns → Columns → Type 0
AreFilled more [] [] [] = Unit {0}
AreFilled more (message ∷ messages) (old ∷ olds) (new ∷ news) =
    (map (λ (lane : Lane). sends_on lane.sender) new.items ≡ map (λ (lane : Lane). sends_on lane.sender) old.items)
    × ((weight : Weight) → weigh_lanes weight new.items ≡ weigh_lanes weight old.items + more message weight)
    × AreFilled more messages olds news
AreFilled _ _ _ _ = ⊥

none-filled : (messages : List ℕ) (olds news : Columns) → length olds ≡ length messages → length news ≡ length messages
    → AreNone olds → AreNone news → AreFilled (λ message weight. 0) messages olds news
none-filled [] [] [] many count old new = tt
none-filled [] [] (column ∷ news) many count old new = absurd (omega (arith, count))
none-filled [] (column ∷ olds) news many count old new = absurd (omega (arith, many))
none-filled (message ∷ messages) [] news many count old new = absurd (omega (arith, many))
none-filled (message ∷ messages) (column ∷ olds) [] many count old new = absurd (omega (arith, count))
none-filled (message ∷ messages) (one ∷ olds) (other ∷ news) many count old new = (
  ap (map (λ (lane : Lane). sends_on lane.sender)) (new.0 ∙ sym old.0),
  λ weight. ap (weigh_lanes weight) (new.0 ∙ sym old.0) ∙ omega arith,
  none-filled messages olds news (omega (arith, many)) (omega (arith, count)) old.1 new.1,
)

filled-more : (more own : ℕ → Weight → ℕ) (messages : List ℕ) (olds news : Columns) (row others : List Lane) (longers longest : Columns)
    → AreFilled more messages olds news
    → AreLonger own messages row others
    → AreLongerBy olds row longers
    → AreLongerBy news others longest
    → AreFilled (λ message weight. more message weight + own message weight) messages longers longest
filled-more more own [] [] [] [] [] [] [] filled rows old new = tt
filled-more more own (message ∷ messages) (one ∷ olds) (other ∷ news) (lane ∷ row) (next ∷ others) (longer ∷ longers) (last ∷ longest) filled rows old new = (
  ap (map (λ (l : Lane). sends_on l.sender)) new.0 ∙ map-append (λ (l : Lane). sends_on l.sender) other.items (next ∷ [])
      ∙ (λ i. filled.0 i ++ rows.0.channel i ∷ [])
      ∙ sym (ap (map (λ (l : Lane). sends_on l.sender)) old.0 ∙ map-append (λ (l : Lane). sends_on l.sender) one.items (lane ∷ [])),
  λ weight. omega (
    arith,
    ap (weigh_lanes weight) new.0,
    ap (weigh_lanes weight) old.0,
    weigh_lanes-lane weight other.items next,
    weigh_lanes-lane weight one.items lane,
    filled.1 weight,
    rows.1 weight,
  ),
  filled-more more own messages olds news row others longers longest filled.2 rows.2 old.1 new.1,
)
filled-more more own (message ∷ messages) (one ∷ olds) (other ∷ news) (lane ∷ row) (next ∷ others) (longer ∷ longers) [] filled rows old new = absurd new
filled-more more own (message ∷ messages) (one ∷ olds) (other ∷ news) (lane ∷ row) (next ∷ others) [] longest filled rows old new = absurd old
filled-more more own (message ∷ messages) (one ∷ olds) (other ∷ news) (lane ∷ row) [] longers longest filled rows old new = absurd rows
filled-more more own (message ∷ messages) (one ∷ olds) (other ∷ news) [] others longers longest filled rows old new = absurd rows
filled-more more own (message ∷ messages) (one ∷ olds) [] row others longers longest filled rows old new = absurd filled
filled-more more own (message ∷ messages) [] news row others longers longest filled rows old new = absurd filled
filled-more more own [] (one ∷ olds) news row others longers longest filled rows old new = absurd filled
filled-more more own [] [] (other ∷ news) row others longers longest filled rows old new = absurd filled
filled-more more own [] [] [] (lane ∷ row) others longers longest filled rows old new = absurd rows
filled-more more own [] [] [] [] (next ∷ others) longers longest filled rows old new = absurd rows
filled-more more own [] [] [] [] [] (longer ∷ longers) longest filled rows old new = absurd old
filled-more more own [] [] [] [] [] [] (last ∷ longest) filled rows old new = absurd new

-- ---- jobs that are done

module _ (round : Round) (read : Field) where
  -- what the messages of these jobs weigh
  abbrev pub weigh_jobs : List Job → ℕ → Weight → ℕ
  weigh_jobs [] message weight = 0
  weigh_jobs (job ∷ jobs) message weight = weigh_jobs jobs message weight + weigh_all_sent round read job.tasks message weight

  pub jobs-filled : (messages : List ℕ) (jobs : List Job) (dones : List Done) (olds news : Columns)
      → AreDone round read messages jobs dones
      → AreColumns (map (λ (job : Job). job.lanes) jobs) olds
      → AreColumns (map (λ (done : Done). done.lanes) dones) news
      → length olds ≡ length messages → length news ≡ length messages
      → AreFilled (weigh_jobs jobs) messages olds news
  jobs-filled messages [] [] olds news are old new many count = none-filled messages olds news many count old new
  jobs-filled messages [] (done ∷ dones) olds news are old new many count = absurd are
  jobs-filled messages (job ∷ jobs) [] olds news are old new many count = absurd are
  jobs-filled messages (job ∷ jobs) (done ∷ dones) olds news are old new many count =
      filled-more (weigh_jobs jobs) (weigh_all_sent round read job.tasks) messages old.0 new.0 job.lanes done.lanes olds news
      (jobs-filled messages jobs dones old.0 new.0 are.1 old.1 new.1
      (longers-length old.0 olds job.lanes old.2 ∙ many) (longers-length new.0 news done.lanes new.2 ∙ count))
      are.0.lanes old.2 new.2

  pub dones-wide : (messages : List ℕ) (jobs : List Job) (dones : List Done) → AreDone round read messages jobs dones
      → All (λ (done : Done). length done.lanes ≡ length messages) dones
  dones-wide messages [] [] are = All-nil (λ (done : Done). length done.lanes ≡ length messages)
  dones-wide messages [] (done ∷ dones) are = absurd are
  dones-wide messages (job ∷ jobs) [] are = absurd are
  dones-wide messages (job ∷ jobs) (done ∷ dones) are =
      All-cons (λ (done : Done). length done.lanes ≡ length messages) done dones
      ((sym (longer-length (weigh_all_sent round read job.tasks) messages job.lanes done.lanes are.0.lanes)))
      (dones-wide messages jobs dones are.1)

  all_sent-append : (one other : List Task) (message : ℕ) (weight : Weight)
      → weigh_all_sent round read (one ++ other) message weight
      ≡ weigh_all_sent round read one message weight + weigh_all_sent round read other message weight
  all_sent-append [] other message weight = omega arith
  all_sent-append (task ∷ one) other message weight = omega (arith, all_sent-append one other message weight)

  pub jobs-tasks : (jobs : List Job) (message : ℕ) (weight : Weight)
      → weigh_jobs jobs message weight ≡ weigh_all_sent round read (flat_map (λ (job : Job). job.tasks) jobs) message weight
  jobs-tasks [] message weight = refl
  jobs-tasks (job ∷ jobs) message weight =
      omega (
        arith,
        jobs-tasks jobs message weight,
        all_sent-append job.tasks (flat_map (λ (job : Job). job.tasks) jobs) message weight,
      )

-- ---- what boards take

pub still-taken : (more : ℕ → Weight → ℕ) (messages : List ℕ) (boards : List Board) (olds news : Columns)
    → AreFilled more messages olds news → TakeFrom boards olds → TakeFrom boards news
still-taken more [] boards [] [] filled take = take
still-taken more (message ∷ messages) [] (one ∷ olds) (other ∷ news) filled take = absurd take
still-taken more (message ∷ messages) (board ∷ boards) (one ∷ olds) (other ∷ news) filled take =
    (take.0 ∙ sym filled.0, still-taken more messages boards olds news filled.2 take.1)
still-taken more [] boards [] (other ∷ news) filled take = absurd filled
still-taken more [] boards (one ∷ olds) news filled take = absurd filled
still-taken more (message ∷ messages) boards [] news filled take = absurd filled
still-taken more (message ∷ messages) boards (one ∷ olds) [] filled take = absurd filled

-- nothing was handed in for a message that is not here
none-handed : (messages : List ℕ) (columns : Columns) (message : ℕ) (weight : Weight)
    → ((place : ℕ) → slice_get messages place ≡ Some message → ⊥) → weigh_columns messages columns message weight ≡ 0
none-handed [] columns message weight out = refl
none-handed (own ∷ messages) [] message weight out = refl
none-handed (own ∷ messages) (column ∷ columns) message weight out =
    let here = ap (λ b. cond b (weigh_lanes weight column.items) 0) (ne_eqb own message (λ same. out 0 (ap Some same))) in
    let rest = none-handed messages columns message weight (λ place at. out (suc place) at) in
    omega (arith, here, rest)

abbrev pub IsOnce : List ℕ → Type 0
IsOnce messages = (one other message : ℕ) → slice_get messages one ≡ Some message → slice_get messages other ≡ Some message → one ≡ other

-- nothing was handed in by these before
abbrev pub AreFresh : List Board → Columns → Type 0
AreFresh boards columns = AllZip (λ board (column : Column). (weight : Weight) → weigh_lanes weight column.items ≡ 0) boards columns

pub once-handed : (more : ℕ → Weight → ℕ) (messages : List ℕ) (boards : List Board) (olds news : Columns) (place message : ℕ) (weight : Weight)
    → AreFilled more messages olds news → AreFresh boards olds → IsOnce messages → slice_get messages place ≡ Some message
    → weigh_columns messages news message weight ≡ more message weight
once-handed more [] boards olds news place message weight filled fresh once at = absurd (cc)
once-handed more (own ∷ messages) boards [] news place message weight filled fresh once at = absurd filled
once-handed more (own ∷ messages) boards (one ∷ olds) [] place message weight filled fresh once at = absurd filled
once-handed more (own ∷ messages) [] (one ∷ olds) (other ∷ news) place message weight filled fresh once at = absurd fresh
once-handed more (own ∷ messages) (board ∷ boards) (one ∷ olds) (other ∷ news) zero message weight filled fresh once at =
    let same : own ≡ message = cc in
    let here = ap (λ b. cond b (weigh_lanes weight other.items) 0) (eq-eqb own message same) in
    let rest = none-handed messages news message weight (λ place there. let zero_is : 0 ≡ suc place = once 0 (suc place) message at there in omega (arith, zero_is)) in
    omega (arith, here, rest, filled.1 weight, fresh.0 weight, ap (λ m. more m weight) same)
once-handed more (own ∷ messages) (board ∷ boards) (one ∷ olds) (other ∷ news) (suc place) message weight filled fresh once at =
    let here = ap (λ b. cond b (weigh_lanes weight other.items) 0)
    (ne_eqb own message (λ same. let zero_is : 0 ≡ suc place = once 0 (suc place) message (ap Some same) at in omega (arith, zero_is))) in
    let rest = once-handed more messages boards olds news place message weight filled.2 fresh.1
    (λ p q m there too. let next : suc p ≡ suc q = once (suc p) (suc q) m there too in omega (arith, next)) at in
    omega (arith, here, rest)

pub never-handed : (messages : List ℕ) (columns : Columns) (message : ℕ) (weight : Weight)
    → ((place : ℕ) → slice_get messages place ≡ Some message → ⊥) → weigh_columns messages columns message weight ≡ 0
never-handed = none-handed

-- ---- rows of lanes

-- each lane of each column is one of its board
abbrev HaveLanes : List Board → Columns → Type 0
HaveLanes boards columns = AllZip (λ board (column : Column). All (IsLaneOf board) column.items) boards columns

all-lanes : (board : Board) (lanes : List Lane) → AreLanesOf board lanes → All (IsLaneOf board) lanes
all-lanes board lanes all k d less =
    subst (λ channels. Contains channels (sends_on (get_or lanes k d).sender)) (sym all)
    (contains-map (λ (l : Lane). sends_on l.sender) lanes k d less)

pub taken-lanes : (boards : List Board) (columns : Columns) → TakeFrom boards columns → HaveLanes boards columns
taken-lanes [] [] take = tt
taken-lanes [] (column ∷ columns) take = absurd take
taken-lanes (board ∷ boards) [] take = absurd take
taken-lanes (board ∷ boards) (column ∷ columns) take =
    (all-lanes board column.items take.0, taken-lanes boards columns take.1)

-- each row of such columns has a lane of each board
own-row : (boards : List Board) (columns longers : Columns) (row : List Lane) → AreLongerBy columns row longers → HaveLanes boards longers
    → AreOwn boards row × HaveLanes boards columns × (length row ≡ length boards)
own-row [] [] [] [] by_row have = (tt, tt, refl)
own-row (board ∷ boards) (column ∷ columns) (longer ∷ longers) (lane ∷ row) by_row have =
    let rest = own-row boards columns longers row by_row.1 have.1 in
    let all : All (IsLaneOf board) (column.items ++ lane ∷ []) = All-same (IsLaneOf board) (column.items ++ lane ∷ []) longer.items (sym by_row.0) have.0 in
    ((last board column.items lane all, rest.0), (front board column.items lane all, rest.1), omega (arith, rest.2))
  where
    last : (board : Board) (lanes : List Lane) (lane : Lane) → All (IsLaneOf board) (lanes ++ lane ∷ []) → IsLaneOf board lane
    last board [] lane all = All-head (IsLaneOf board) lane [] all
    last board (own ∷ lanes) lane all = last board lanes lane (All-tail (IsLaneOf board) own (lanes ++ lane ∷ []) all)

    front : (board : Board) (lanes : List Lane) (lane : Lane) → All (IsLaneOf board) (lanes ++ lane ∷ []) → All (IsLaneOf board) lanes
    front board [] lane all = All-nil (IsLaneOf board)
    front board (own ∷ lanes) lane all =
        All-cons (IsLaneOf board) own lanes (All-head (IsLaneOf board) own (lanes ++ lane ∷ []) all)
        (front board lanes lane (All-tail (IsLaneOf board) own (lanes ++ lane ∷ []) all))
own-row [] [] (longer ∷ longers) row by_row have = absurd have
own-row [] [] [] (lane ∷ row) by_row have = absurd by_row
own-row [] (column ∷ columns) (longer ∷ longers) row by_row have = absurd have
own-row [] (column ∷ columns) [] [] by_row have = absurd by_row
own-row [] (column ∷ columns) [] (lane ∷ row) by_row have = absurd by_row
own-row (board ∷ boards) columns [] row by_row have = absurd have
own-row (board ∷ boards) [] (longer ∷ longers) [] by_row have = absurd by_row
own-row (board ∷ boards) [] (longer ∷ longers) (lane ∷ row) by_row have = absurd by_row
own-row (board ∷ boards) (column ∷ columns) (longer ∷ longers) [] by_row have = absurd by_row

pub own-rows : (boards : List Board) (rows : List (List Lane)) (columns : Columns) → AreColumns rows columns → HaveLanes boards columns
    → All (λ row. AreOwn boards row × (length row ≡ length boards)) rows
own-rows boards [] columns are have = All-nil (λ row. AreOwn boards row × (length row ≡ length boards))
own-rows boards (row ∷ rows) columns are have =
    let here = own-row boards are.0 columns row are.2 have in
    All-cons (λ row. AreOwn boards row × (length row ≡ length boards)) row rows (here.0, here.2)
    (own-rows boards rows are.0 are.1 here.1)
