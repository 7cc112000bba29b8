-- A define line read part by part: where a part is missing it says nothing.
use Rattle.std.proofs.Common.{◌≡◌, ℕ, true, false, Bool, List, drop, length, sym, ap, refl, ◌∙◌, Option, None}
use Rattle.std.specs.Prelude.{◌&&◌, take_while, if◌then◌else◌}
use Rattle.std.specs.Option.{option_map}
use Rattle.flame_ops.specs.Ascii.{begins_word, is_word_byte}
use Rattle.flame_lex.specs.declared.define.Define.{Define}
use Rattle.flame_lex.specs.ByteRuns.{first_is, is_space_or_tab, behind}
use Rattle.flame_lex.specs.DefineLines.{behind_name, definition, name_on, names_word, number_on}

not_taken : (t : Bool) (o : Option Define) → t ≡ false → None ≡ (if t then o else None)
not_taken t o h = rw h refl

nothing_taken : (t : Bool) (o : Option Define) → None ≡ o → None ≡ (if t then o else None)
nothing_taken true o h = h
nothing_taken false o h = refl

unsaid : (bytes : List ℕ) → names_word bytes ≡ false → None ≡ definition bytes
unsaid bytes h =
    not_taken (names_word bytes)
    (option_map (λ n. record { name = name_on bytes; value = n }) (number_on (behind is_space_or_tab (behind_name bytes))))
    h

behind_name-is :
    (bytes from_name name : List ℕ)
    → from_name ≡ behind is_space_or_tab bytes
    → name ≡ take_while is_word_byte from_name
    → drop (length name) from_name ≡ behind_name bytes
behind_name-is bytes from_name name from is =
    ap (λ n. drop (length n) from_name) is ∙ ap (behind is_word_byte) from

-- no space or tab stands at the front
pub no_space : (bytes : List ℕ) → first_is is_space_or_tab bytes ≡ false → None ≡ definition bytes
no_space bytes h =
    unsaid bytes
    (ap (λ t. t && first_is begins_word (behind is_space_or_tab bytes) && first_is is_space_or_tab (behind_name bytes)) h)

-- no word stands behind the spaces
pub no_word :
    (bytes from_name : List ℕ)
    → first_is is_space_or_tab bytes ≡ true
    → from_name ≡ behind is_space_or_tab bytes
    → first_is begins_word from_name ≡ false
    → None ≡ definition bytes
no_word bytes from_name h from k =
    let last = first_is is_space_or_tab (behind_name bytes) in
    unsaid bytes
    (ap (λ t. t && first_is begins_word (behind is_space_or_tab bytes) && last) h
    ∙ ap (λ l. first_is begins_word l && last) (sym from)
    ∙ ap (λ t. t && last) k)

-- no space or tab stands behind the word
pub no_second_space :
    (bytes from_name name : List ℕ)
    → first_is is_space_or_tab bytes ≡ true
    → from_name ≡ behind is_space_or_tab bytes
    → first_is begins_word from_name ≡ true
    → name ≡ take_while is_word_byte from_name
    → first_is is_space_or_tab (drop (length name) from_name) ≡ false
    → None ≡ definition bytes
no_second_space bytes from_name name h from k is m =
    let last = first_is is_space_or_tab (behind_name bytes) in
    unsaid bytes
    (ap (λ t. t && first_is begins_word (behind is_space_or_tab bytes) && last) h
    ∙ ap (λ l. first_is begins_word l && last) (sym from)
    ∙ ap (λ t. t && last) k
    ∙ ap (first_is is_space_or_tab) (sym (behind_name-is bytes from_name name from is))
    ∙ m)

-- no number stands behind the spaces
pub no_number :
    (bytes from_name name from_number : List ℕ)
    → from_name ≡ behind is_space_or_tab bytes
    → name ≡ take_while is_word_byte from_name
    → from_number ≡ behind is_space_or_tab (drop (length name) from_name)
    → None ≡ number_on from_number
    → None ≡ definition bytes
no_number bytes from_name name from_number from is rest none =
    let there : None ≡ number_on (behind is_space_or_tab (behind_name bytes)) =
    none ∙ ap number_on (rest ∙ ap (behind is_space_or_tab) (behind_name-is bytes from_name name from is)) in
    nothing_taken (names_word bytes)
    (option_map (λ n. record { name = name_on bytes; value = n }) (number_on (behind is_space_or_tab (behind_name bytes))))
    (ap (option_map (λ n. record { name = name_on bytes; value = n })) there)
