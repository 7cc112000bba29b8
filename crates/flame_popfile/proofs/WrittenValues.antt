-- Values whose text is read back.
use Rattle.std.proofs.Common.{◌≡◌, ℕ, ◌≤◌, List, [], ◌∷◌, ◌++◌, Bool, true, false, Some, option_map, option_and_then, IsUtf8, refl, sym, ap, ◌∙◌, append-nil}
use Rattle.std.specs.Prelude.{⊤}
use Rattle.std.specs.Str.{is_utf8}
use Rattle.std.proofs.lemmas.Str.{IsUtf8-append, IsUtf8-nil, is_utf8-from_IsUtf8}
use Rattle.json.specs.Json as json
use Rattle.json.specs.Print.{print, IsNumber, token_text, quoted}
use Rattle.json.specs.Tree.{json_tokens, HasNumbers, ItemsHaveNumbers, MembersHaveNumbers}
use Rattle.json.specs.Tree as tree
use Rattle.json.specs.Token as word
use Rattle.json.proofs.Printed.Trees.{value-json_tokens, ArePrintable-json_tokens}
use Rattle.json.proofs.Printed.Utf8.{IsUtf8-are_ascii, IsUtf8-quoted, IsUtf8-boolean}
use Rattle.serde_json.specs.Data.{Num, Data, null, boolean, number, string, array, object, Items, no_items, item, Members, no_members, member, put}
use Rattle.serde_json.specs.Read.{number_of, of_json, of_items, of_members, read, max_depth}
use Rattle.serde_json.specs.Written.{number_text, outline, items_outline, members_outline, comma_if, compact_text, items_text, members_text}
use Rattle.serde_json.proofs.Texts.{print-outline}
use Rattle.flame_popfile.proofs.WrittenTokens.{IsEnd, tokens_before}

-- what is printed of a tree is read as the tree
read_before :
    (j : json.Json) (end : List ℕ)
    → HasNumbers j → tree.depth j ≤ max_depth → IsEnd end → read (print (json_tokens j) ++ end) ≡ of_json j
read_before j end numbers shallow is =
    let whole = tokens_before end is (json_tokens j) (ArePrintable-json_tokens j numbers) in
    ap (λ ts. option_and_then of_json (option_and_then (λ p. json.if_last p.0 p.1) (json.value max_depth ts)))
    (whole ∙ sym (append-nil (json_tokens j)))
    ∙ ap (λ r. option_and_then of_json (option_and_then (λ p. json.if_last p.0 p.1) r))
    (value-json_tokens j max_depth [] shallow)

-- a number whose text is read as it
pub record IsReadNumber (n : Num) : Type 0 where
  pub same : number_of (number_text n) ≡ Some n
  pub is_number : IsNumber (number_text n)
  pub utf8 : IsUtf8 (number_text n)

-- a value whose parts are read as they are written
abbrev mutual
  pub IsSound : Data → Type 0
  IsSound null = ⊤
  IsSound (boolean b) = ⊤
  IsSound (number n) = IsReadNumber n
  IsSound (string s) = IsUtf8 s
  IsSound (array ds) = AreSound ds
  IsSound (object ms) = HasSound ms

  pub AreSound : Items → Type 0
  AreSound no_items = ⊤
  AreSound (item d ds) = IsSound d × AreSound ds

  pub HasSound : Members → Type 0
  HasSound no_members = ⊤
  HasSound (member k d ms) = IsUtf8 k × IsSound d × HasSound ms

-- the value as it is read: the members of each object are put in one after another
abbrev mutual
  pub settled : Data → Data
  settled null = null
  settled (boolean b) = boolean b
  settled (number n) = number n
  settled (string s) = string s
  settled (array ds) = array (items_settled ds)
  settled (object ms) = object (members_settled ms no_members)

  pub items_settled : Items → Items
  items_settled no_items = no_items
  items_settled (item d ds) = item (settled d) (items_settled ds)

  pub members_settled : Members → Members → Members
  members_settled no_members found = found
  members_settled (member k d ms) found = members_settled ms (put k (settled d) found)

mutual
  has_numbers : (d : Data) → IsSound d → HasNumbers (outline d)
  has_numbers null h = tt
  has_numbers (boolean b) h = tt
  has_numbers (number n) h = h.is_number
  has_numbers (string s) h = tt
  has_numbers (array ds) h = items_have_numbers ds h
  has_numbers (object ms) h = members_have_numbers ms h

  items_have_numbers : (ds : Items) → AreSound ds → ItemsHaveNumbers (items_outline ds)
  items_have_numbers no_items h = tt
  items_have_numbers (item d ds) h = (has_numbers d h.0, items_have_numbers ds h.1)

  members_have_numbers : (ms : Members) → HasSound ms → MembersHaveNumbers (members_outline ms)
  members_have_numbers no_members h = tt
  members_have_numbers (member k d ms) h = (has_numbers d h.1, members_have_numbers ms h.2)

mutual
  read_settled : (d : Data) → IsSound d → of_json (outline d) ≡ Some (settled d)
  read_settled null h = refl
  read_settled (boolean b) h = refl
  read_settled (number n) h = ap (option_map number) h.same
  read_settled (string s) h = refl
  read_settled (array ds) h = ap (option_map array) (read_items ds h)
  read_settled (object ms) h = ap (option_map object) (read_members ms no_members h)

  read_items : (ds : Items) → AreSound ds → of_items (items_outline ds) ≡ Some (items_settled ds)
  read_items no_items h = refl
  read_items (item d ds) h =
      ap (option_and_then (λ e. option_map (item e) (of_items (items_outline ds)))) (read_settled d h.0)
      ∙ ap (option_map (item (settled d))) (read_items ds h.1)

  read_members :
      (ms found : Members) → HasSound ms → of_members (members_outline ms) found ≡ Some (members_settled ms found)
  read_members no_members found h = refl
  read_members (member k d ms) found h =
      ap (option_and_then (λ e. of_members (members_outline ms) (put k e found))) (read_settled d h.1)
      ∙ read_members ms (put k (settled d) found) h.2

comma_utf8 : (later : Bool) → IsUtf8 (comma_if later)
comma_utf8 true = IsUtf8-are_ascii (44 ∷ []) refl
comma_utf8 false = IsUtf8-nil

mutual
  text_utf8 : (d : Data) → IsSound d → IsUtf8 (compact_text d)
  text_utf8 null h = IsUtf8-are_ascii (token_text word.null) refl
  text_utf8 (boolean b) h = IsUtf8-boolean b
  text_utf8 (number n) h = h.utf8
  text_utf8 (string s) h = IsUtf8-quoted s h
  text_utf8 (array ds) h =
      IsUtf8-append (91 ∷ []) (items_text false ds) (IsUtf8-are_ascii (91 ∷ []) refl) (items_utf8 false ds h)
  text_utf8 (object ms) h =
      IsUtf8-append (123 ∷ []) (members_text false ms) (IsUtf8-are_ascii (123 ∷ []) refl) (members_utf8 false ms h)

  items_utf8 : (later : Bool) (ds : Items) → AreSound ds → IsUtf8 (items_text later ds)
  items_utf8 later no_items h = IsUtf8-are_ascii (93 ∷ []) refl
  items_utf8 later (item d ds) h =
      IsUtf8-append (comma_if later) _ (comma_utf8 later)
      (IsUtf8-append (compact_text d) _ (text_utf8 d h.0) (items_utf8 true ds h.1))

  members_utf8 : (later : Bool) (ms : Members) → HasSound ms → IsUtf8 (members_text later ms)
  members_utf8 later no_members h = IsUtf8-are_ascii (125 ∷ []) refl
  members_utf8 later (member k d ms) h =
      let colon = IsUtf8-are_ascii (58 ∷ []) refl in
      IsUtf8-append (comma_if later) _ (comma_utf8 later)
      (IsUtf8-append (quoted k) _ (IsUtf8-quoted k h.0)
      (IsUtf8-append (58 ∷ []) _ colon
      (IsUtf8-append (compact_text d) _ (text_utf8 d h.1) (members_utf8 true ms h.2))))

-- the text of a value, before an end, is UTF-8
pub utf8_before : (d : Data) (end : List ℕ) → IsSound d → IsUtf8 end → is_utf8 (compact_text d ++ end) ≡ true
utf8_before d end h is =
    is_utf8-from_IsUtf8 (compact_text d ++ end) (IsUtf8-append (compact_text d) end (text_utf8 d h) is)

-- the text of a value, before an end, is read as the value
pub value_before :
    (d : Data) (end : List ℕ)
    → IsSound d → tree.depth (outline d) ≤ max_depth → IsEnd end → read (compact_text d ++ end) ≡ Some (settled d)
value_before d end h shallow is =
    ap (λ s. read (s ++ end)) (sym (print-outline d))
    ∙ read_before (outline d) end (has_numbers d h) shallow is
    ∙ read_settled d h
