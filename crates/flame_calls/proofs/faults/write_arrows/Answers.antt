-- One name more.
use Rattle.std.proofs.Common.{◌≡◌, ◌++◌, get_or, map, ap, ◌∙◌, string_bytes}
use Rattle.flame_lookup.specs.WordsFound.{definition_found}
use Rattle.flame_calls.proofs.Writing.{found_at, written_more}
use Rattle.flame_calls.proofs.faults.write_arrows.Goals as goal

pub loop-number-preserved : goal.loop-number-preserved
loop-number-preserved c =
    let helpers = c.args.helpers.now in
    let numbers = c.args.numbers.now in
    let i = c.loop-number.number-index in
    let helper = c.index-helpers-number.result in
    let old = string_bytes c.loop-number.text in
    let mid = string_bytes c.push_str.new.self in
    let named : mid ≡ old ++ helper.def.now.name = c.in_ok-push_str.ensures.bytes ∙ ap (λ name. old ++ name) c.as_str.ensures in
    written_more (map definition_found helpers) numbers i old mid (string_bytes c.push_str-in-loop-number.new.self) (definition_found helper)
    c.loop-number-test.true (found_at helpers (get_or numbers i 0) helper (c.requires i 0 c.loop-number-test.true) c.index-helpers-number.is)
    named c.in_ok-push_str-2.ensures.bytes
    ∙ c.loop-number.invariant
