-- One text more.
use Rattle.std.proofs.Common.{ap, ◌∙◌, not, true, string_bytes}
use Rattle.std.specs.Prelude.{◌||◌}
use Rattle.std.specs.Str.{bytes_eq}
use Rattle.std.specs.HashSet.{contains_text}
use Rattle.std.proofs.lemmas.Map.Text.{hash_set_updates_text}
use Rattle.flame_graph.proofs.ReadySets.{cond_or}
use Rattle.flame_depend.proofs.starts.enter.Goals as goal

pub returns : goal.returns
returns c =
    let bytes = c.in_ok-copy.ensures.ok in
    let old = c.args.texts.now in
    record {
      added = c.in_ok-added.ensures.added ∙ ap not (ap (contains_text old) bytes);
      after = λ q. hash_set_updates_text (string_bytes c.in_ok-copy.copy) old c.insert.new.self true c.in_ok-added.ensures.updates q
          ∙ cond_or (bytes_eq (string_bytes c.in_ok-copy.copy) q) (contains_text old q)
          ∙ ap (λ t. contains_text old q || bytes_eq t q) bytes;
    }
