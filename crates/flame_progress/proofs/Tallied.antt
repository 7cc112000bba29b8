-- What is counted, as events come.
use Rattle.std.proofs.Common.{◌≡◌, ℕ, ◌<◌, Bool, true, false, List, length, sym, ap, ◌∙◌, subst, ⊎_elim, get_or-set_same, get_or-set_other}
use Rattle.std.specs.Prelude.{◌==◌, ◌||◌, slice_set, slice_index_or}
use Rattle.std.proofs.lemmas.Bool.{cases_eq, eq-eqb, ne_eqb}
use Rattle.std.proofs.lemmas.List.{length-map}
use Rattle.flame_spec.specs.declared.models.Model.{Model}
use Rattle.flame_spec.specs.Before.{before, function_count}
use Rattle.flame_spec.specs.Below.{is_in}
use Rattle.flame_events.specs.CoreStates.{Status, Waiting, is_shut, Core, status_of, is_frozen}
use Rattle.flame_events.specs.LegalEvents.{inputs_of, outputs_of}
use Rattle.flame_pieces.specs.FreeThings.{Tells}
use Rattle.flame_pieces.specs.Waiting as kinds
use Rattle.flame_pieces.specs.Waiting.{thing_at, with_done}
use Rattle.flame_pieces.specs.KeptStatuses.{status_of as kept_status}
use Rattle.flame_pieces.proofs.Freeing.{what_is_done_is_told}
use Rattle.flame_progress.specs.declared.counts.Counts.{Counts}
use Rattle.flame_progress.specs.declared.progress.Progress.{Progress}
use Rattle.flame_field.specs.KeptBoards.{is_board_frozen}
use Rattle.flame_progress.specs.KeptCores.{core_of, HasOutputsAt}
use Rattle.flame_progress.specs.KeptCounts.{Counted}
use Rattle.flame_progress.specs.Tallying.{Tallies, Came}

-- ---- what is told of others

pub tells_same : (things count : ℕ) (waits : ℕ → ℕ → Bool) (is_done other : ℕ → Bool) (waiting : kinds.Waiting)
    → ((thing : ℕ) → is_done thing ≡ other thing)
    → Tells things count waits is_done waiting → Tells things count waits other waiting
tells_same things count waits is_done other waiting same tells = record {
  long = tells.long;
  many = tells.many;
  who = tells.who;
  which = λ thing less. tells.which thing less ∙ same thing;
}

pub counted_kept : (model : Model) (core next : Core) (counts : Counts)
    → ((g : ℕ) → is_shut (status_of next g) ≡ is_shut (status_of core g)) → next.frozen ≡ core.frozen
    → Counted model core counts → Counted model next counts
counted_kept model core next counts same frozen counted = record {
  functions = tells_same (function_count model) (function_count model) (before model) (λ f. is_shut (status_of core f)) (λ f. is_shut (status_of next f))
      counts.functions (λ f. sym (same f)) counted.functions;
  inputs = tells_same (length model.messages) (function_count model) (λ m f. is_in m (inputs_of model f)) (is_frozen core) (is_frozen next)
      counts.inputs (λ m. ap (λ l. slice_index_or l m false) (sym frozen)) counted.inputs;
  outputs = tells_same (function_count model) (length model.messages) (λ f m. is_in m (outputs_of model f)) (λ f. is_shut (status_of core f)) (λ f. is_shut (status_of next f))
      counts.outputs (λ f. sym (same f)) counted.outputs;
}

pub counted_shut : (model : Model) (core next : Core) (counts : Counts) (f : ℕ) → f < function_count model
    → ((g : ℕ) → is_shut (status_of next g) ≡ ((g == f) || is_shut (status_of core g))) → next.frozen ≡ core.frozen
    → Counted model core counts
    → Counted model next (record counts { functions = with_done f counts.functions; outputs = with_done f counts.outputs })
counted_shut model core next counts f less shut frozen counted = record {
  functions = tells_same (function_count model) (function_count model) (before model)
      (λ g. (g == f) || is_shut (status_of core g)) (λ g. is_shut (status_of next g)) (with_done f counts.functions) (λ g. sym (shut g))
      (what_is_done_is_told (function_count model) (function_count model) (before model) (λ g. is_shut (status_of core g)) counts.functions f less counted.functions);
  inputs = tells_same (length model.messages) (function_count model) (λ m g. is_in m (inputs_of model g)) (is_frozen core) (is_frozen next)
      counts.inputs (λ m. ap (λ l. slice_index_or l m false) (sym frozen)) counted.inputs;
  outputs = tells_same (function_count model) (length model.messages) (λ g m. is_in m (outputs_of model g))
      (λ g. (g == f) || is_shut (status_of core g)) (λ g. is_shut (status_of next g)) (with_done f counts.outputs) (λ g. sym (shut g))
      (what_is_done_is_told (function_count model) (length model.messages) (λ g m. is_in m (outputs_of model g)) (λ g. is_shut (status_of core g)) counts.outputs f less counted.outputs);
}

pub counted_frozen : (model : Model) (core next : Core) (counts : Counts) (m : ℕ) → m < length model.messages
    → ((k : ℕ) → is_frozen next k ≡ ((k == m) || is_frozen core k)) → next.statuses ≡ core.statuses
    → Counted model core counts
    → Counted model next (record counts { inputs = with_done m counts.inputs })
counted_frozen model core next counts m less frozen same counted = record {
  functions = tells_same (function_count model) (function_count model) (before model) (λ f. is_shut (status_of core f)) (λ f. is_shut (status_of next f))
      counts.functions (λ f. ap (λ l. is_shut (slice_index_or l f Waiting)) (sym same)) counted.functions;
  inputs = tells_same (length model.messages) (function_count model) (λ k f. is_in k (inputs_of model f))
      (λ k. (k == m) || is_frozen core k) (is_frozen next) (with_done m counts.inputs) (λ k. sym (frozen k))
      (what_is_done_is_told (length model.messages) (function_count model) (λ k f. is_in k (inputs_of model f)) (is_frozen core) counts.inputs m less counted.inputs);
  outputs = tells_same (function_count model) (length model.messages) (λ f k. is_in k (outputs_of model f)) (λ f. is_shut (status_of core f)) (λ f. is_shut (status_of next f))
      counts.outputs (λ f. ap (λ l. is_shut (slice_index_or l f Waiting)) (sym same)) counted.outputs;
}

-- ---- the status of one function changes

-- a test passes as it did
pub status_kept : {A : Type 0} (F : Status → A) (statuses : List Status) (f : ℕ) (v : Status) → f < length statuses
    → F v ≡ F (slice_index_or statuses f Waiting)
    → (g : ℕ) → F (slice_index_or (slice_set statuses f v) g Waiting) ≡ F (slice_index_or statuses g Waiting)
status_kept F statuses f v less same g = ⊎_elim
    (λ (here : g ≡ f).
    ap (λ k. F (slice_index_or (slice_set statuses f v) k Waiting)) here
    ∙ ap F (get_or-set_same statuses f v Waiting less) ∙ same
    ∙ ap (λ k. F (slice_index_or statuses k Waiting)) (sym here))
    (λ (apart : g ≡ f → ⊥). ap F (get_or-set_other statuses f g v Waiting apart))
    (cases_eq g f)

pub status_shut : (statuses : List Status) (f : ℕ) (v : Status) → f < length statuses → is_shut v ≡ true
    → (g : ℕ) → is_shut (slice_index_or (slice_set statuses f v) g Waiting) ≡ ((g == f) || is_shut (slice_index_or statuses g Waiting))
status_shut statuses f v less shut g = ⊎_elim
    (λ (here : g ≡ f).
    ap (λ k. is_shut (slice_index_or (slice_set statuses f v) k Waiting)) here
    ∙ ap is_shut (get_or-set_same statuses f v Waiting less) ∙ shut
    ∙ ap (λ b. b || is_shut (slice_index_or statuses g Waiting)) (sym (eq-eqb g f here)))
    (λ (apart : g ≡ f → ⊥).
    ap is_shut (get_or-set_other statuses f g v Waiting apart)
    ∙ ap (λ b. b || is_shut (slice_index_or statuses g Waiting)) (sym (ne_eqb g f apart)))
    (cases_eq g f)

-- a board is marked
pub mark_set : (marks : List Bool) (m : ℕ) → m < length marks
    → (k : ℕ) → slice_index_or (slice_set marks m true) k false ≡ ((k == m) || slice_index_or marks k false)
mark_set marks m less k = ⊎_elim
    (λ (here : k ≡ m).
    ap (λ j. slice_index_or (slice_set marks m true) j false) here
    ∙ get_or-set_same marks m true false less
    ∙ ap (λ b. b || slice_index_or marks k false) (sym (eq-eqb k m here)))
    (λ (apart : k ≡ m → ⊥).
    get_or-set_other marks m k true false apart
    ∙ ap (λ b. b || slice_index_or marks k false) (sym (ne_eqb k m apart)))
    (cases_eq k m)

-- ---- what came is told of

pub came_as : (model : Model) (old new : Progress) (earlier counts : Counts) (next : Core)
    → core_of new ≡ next → length next.statuses ≡ length (core_of old).statuses → length next.frozen ≡ length (core_of old).frozen
    → ((f : ℕ) → HasOutputsAt new f (outputs_of model f))
    → Tallies model old earlier → Counted model next counts → Came model next new counts
came_as model old new earlier counts next is long marks outputs tallies counted = record {
  core = is;
  tallies = record {
    functions =
        sym (length-map new.statuses.items kept_status) ∙ ap (λ (c : Core). length c.statuses) is ∙ long
        ∙ length-map old.statuses.items kept_status ∙ tallies.functions;
    messages =
        sym (length-map new.field.boards.items is_board_frozen) ∙ ap (λ (c : Core). length c.frozen) is ∙ marks
        ∙ length-map old.field.boards.items is_board_frozen ∙ tallies.messages;
    outputs = outputs;
    once = tallies.once;
    counted = subst (λ (c : Core). Counted model c counts) (sym is) counted;
  };
}

pub came : (model : Model) (old new : Progress) (earlier counts : Counts) (next : Core)
    → core_of new ≡ next → length next.statuses ≡ length (core_of old).statuses → length next.frozen ≡ length (core_of old).frozen
    → ((f : ℕ) → HasOutputsAt old f (outputs_of model f) → HasOutputsAt new f (outputs_of model f))
    → Tallies model old earlier → Counted model next counts → Came model next new counts
came model old new earlier counts next is long marks outputs tallies counted =
    came_as model old new earlier counts next is long marks (λ f. outputs f (tallies.outputs f)) tallies counted
