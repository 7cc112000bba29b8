-- A name that was added was new.
use Rattle.std.proofs.Common.{◌≡◌, ◌∙◌, List, ℕ, Bool, true, false, cond, not, [], ◌∷◌, ◌++◌, ap, refl}
use Rattle.flame_spec.specs.KnownNames.{is_among}
use Rattle.flame_nest.specs.KindTables.{with_name}
use Rattle.flame_nest.proofs.noting.note_name.Goals as goal

pub returns : goal.returns
returns c =
    let there = c.args.there.now in
    c.in_ok-_added.ensures.after
    ∙ ap (λ b. cond b (there ++ c.as_str.result.now ∷ []) there) c.in_ok-_added.ensures.added
    ∙ by (is_among c.as_str.result.now there) (there ++ c.as_str.result.now ∷ []) there
    ∙ ap (with_name there) c.as_str.ensures
  where
    by : (b : Bool) (more same : List (List ℕ)) → cond (not b) more same ≡ cond b same more
    by true more same = refl
    by false more same = refl
