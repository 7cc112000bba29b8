-- What is known where the reading has come so far, or to the end.
use Rattle.std.proofs.Common.{◌≡◌, ℕ, ◌+◌, ◌*◌, ◌≤◌, List, [], length, map}
use Rattle.std.proofs.Common.{◌∙◌, ap, arith}
use Rattle.std.proofs.Common.{length-append}
use Rattle.std.specs.Option.{option_map, option_to_list}
use Rattle.std.proofs.lemmas.List.{append-nil, length-map}
use Rattle.flame_words.specs.declared.table.Command.{Command}
use Rattle.flame_words.specs.declared.table.Command.TheVariants.{Run, Check, Graph, Code, Trial, Migrate, Trace, Replay}
use Rattle.flame_words.specs.CommandTable.{flag_name, options, places}
use Rattle.flame_words.specs.WordRoles.{roles}
use Rattle.flame_words.specs.WordRoles.{options_among, positionals_among}
use Rattle.flame_words.specs.WordRoles.{givens_among}
use Rattle.flame_words.specs.UsageFaults.{lacking_option}
use Rattle.flame_words.specs.WordSteps.{Seen}
use Rattle.flame_words.specs.WordSteps.{IsRead}
use Rattle.flame_words.proofs.Suits.{words_suit-length}
use Rattle.flame_words.proofs.SpareOptions.{length-roles}
use Rattle.flame_words.proofs.Progress.{Follows}

-- where no word is left, all were read
pub read_to_end :
    (all : List (List ℕ)) (seen : Seen) (number : ℕ)
    → Follows all seen number []
    → IsRead (roles all) seen
read_to_end all seen number f =
    let whole : roles all ≡ f.earlier = f.split ∙ append-nil f.earlier in
    record {
      no_fault = f.clean;
      words_are = ap positionals_among whole ∙ f.words_are;
      givens_are = ap givens_among whole ∙ f.givens_are;
      lacking = ap lacking_option whole ∙ f.lacking;
      words_suit_places = f.words_suit_places;
      givens_suit = f.givens_suit;
    }

table_size : (command : Command) → length (places command) + 2 * length (options command) ≤ 14
table_size Run = omega arith
table_size Check = omega arith
table_size Graph = omega arith
table_size Code = omega arith
table_size Trial = omega arith
table_size Migrate = omega arith
table_size Trace = omega arith
table_size Replay = omega arith

-- words that were read without a fault are few
pub few_read :
    (all : List (List ℕ)) (seen : Seen) (number : ℕ) (rest : List (List ℕ))
    → Follows all seen number rest
    → number ≤ 15
few_read all seen number rest f =
    let parts = length-roles f.earlier in
    let words = words_suit-length (places seen.command) seen.words f.words_suit_places in
    let size = table_size seen.command in
    let named : length (options_among f.earlier)
    ≡ length seen.givens + length (option_to_list (option_map flag_name seen.pending)) =
    ap length f.options_are
    ∙ length-append (map (λ given. given.name) seen.givens) _
    ∙ ap
    (λ n. n + length (option_to_list (option_map flag_name seen.pending)))
    (length-map seen.givens (λ given. given.name)) in
    let same_words : length (positionals_among f.earlier) ≡ length seen.words = ap length f.words_are in
    let same_givens : length (givens_among f.earlier) ≡ length seen.givens = ap length f.givens_are in
    omega (arith, f.number_is, f.spare)
