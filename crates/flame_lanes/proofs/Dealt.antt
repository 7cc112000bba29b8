-- Tasks that are dealt to loads.
use Rattle.std.proofs.Common.{◌≡◌, ℕ, zero, suc, ◌+◌, ◌<◌, cond, List, [], ◌∷◌, ◌++◌, Vec, length, set, get_or, refl, sym, ap, ◌∙◌, subst, arith, append_assoc}
use Rattle.std.specs.Prelude.{ℤ, ◌==◌}
use Rattle.std.specs.Global.{Global}
use Rattle.std.specs.List.{All, Contains, flat_map}
use Rattle.std.proofs.lemmas.List.Concat.{flat_map-append}
use Rattle.std.proofs.lemmas.List.Elements.{All-append, All-cons}
use Rattle.flame_rows.specs.Bags.{weigh}
use Rattle.flame_rows.proofs.BagLaws.{weigh-append}
use Rattle.flame_rows.proofs.Lists.{All-left, All-right}
use Rattle.flame_lanes.specs.declared.tasks.Task.{Task}
use Rattle.flame_lanes.specs.LaneTasks.{AreFrom, agents_at}

-- the tasks of all loads
abbrev pub tasks_in : List (Vec Task Global) → List Task
tasks_in loads = flat_map (λ load. load.items) loads

-- where one load has a task more, it stands among all
pub record HasPlace (before after : List Task) (task : Task) : Type 0 where
  pub front : List Task
  pub back : List Task
  pub old : before ≡ front ++ back
  pub new : after ≡ front ++ task ∷ back

pub has_place : (loads : List (Vec Task Global)) (place : ℕ) (own longer : Vec Task Global) (task : Task)
    → place < length loads → own ≡ get_or loads place own → longer.items ≡ own.items ++ task ∷ []
    → HasPlace (tasks_in loads) (tasks_in (set loads place longer)) task
has_place [] place own longer task less at is = absurd (omega (arith, less))
has_place (load ∷ loads) zero own longer task less at is = record {
  front = load.items;
  back = tasks_in loads;
  old = refl;
  new = ap (λ l. l ++ tasks_in loads) (is ∙ ap (λ (v : Vec Task Global). v.items ++ task ∷ []) at)
      ∙ append_assoc load.items (task ∷ []) (tasks_in loads);
}
has_place (load ∷ loads) (suc place) own longer task less at is =
    let rest = has_place loads place own longer task (omega (arith, less)) at is in
    record {
      front = load.items ++ rest.front;
      back = rest.back;
      old = ap (λ l. load.items ++ l) rest.old ∙ sym (append_assoc load.items rest.front rest.back);
      new = ap (λ l. load.items ++ l) rest.new ∙ sym (append_assoc load.items rest.front (task ∷ rest.back));
    }

-- ---- what holds of each

pub from-more : (all before after : List Task) (task : Task)
    → HasPlace before after task → AreFrom all before → Contains all task → AreFrom all after
from-more all before after task place old one =
    let P : Task → Type 0 = λ own. Contains all own in
    let both : All P (place.front ++ place.back) = subst (All P) place.old old in
    subst (All P) (sym place.new)
    (All-append P place.front (task ∷ place.back) (All-left P place.front place.back both)
    (All-cons P task place.back one (All-right P place.front place.back both)))

-- ---- what their agents weigh

module _ (place : ℕ) (weight : List ℤ → ℕ) where
  heavy-append : (tasks more : List Task)
      → weigh weight (agents_at place (tasks ++ more)) ≡ weigh weight (agents_at place tasks) + weigh weight (agents_at place more)
  heavy-append tasks more =
      ap (weigh weight) (flat_map-append (λ (task : Task). cond (task.place == place) task.agents []) tasks more)
      ∙ weigh-append weight (agents_at place tasks) (agents_at place more)

  heavy-first : (task : Task) (tasks : List Task)
      → weigh weight (agents_at place (task ∷ tasks))
      ≡ weigh weight (cond (task.place == place) task.agents []) + weigh weight (agents_at place tasks)
  heavy-first task tasks = weigh-append weight (cond (task.place == place) task.agents []) (agents_at place tasks)

  -- the first of those that are left goes to its load
  pub heavy-more : (before after left rest : List Task) (task : Task) (all : ℕ)
      → HasPlace before after task → left ≡ task ∷ rest
      → weigh weight (agents_at place before) + weigh weight (agents_at place left) ≡ all
      → weigh weight (agents_at place after) + weigh weight (agents_at place rest) ≡ all
  heavy-more before after left rest task all there first so_far = omega (
    arith,
    so_far,
    ap (λ (l : List Task). weigh weight (agents_at place l)) first,
    heavy-first task rest,
    ap (λ (l : List Task). weigh weight (agents_at place l)) there.old,
    heavy-append there.front there.back,
    ap (λ (l : List Task). weigh weight (agents_at place l)) there.new,
    heavy-append there.front (task ∷ there.back),
    heavy-first task there.back,
  )
