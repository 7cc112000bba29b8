-- Texts that are read as values: numbers, names, lists and objects.
use Rattle.std.proofs.Common.{◌≡◌, ℕ, suc, ◌^◌, ◌≤◌, ◌<◌, List, [], ◌∷◌, ◌++◌, Bool, true, false, Some, decimal, IsUtf8, refl, sym, ap, ap₂, ◌∙◌, append_assoc, arith}
use Rattle.std.specs.Prelude.{ℤ, pos, negsuc}
use Rattle.std.specs.List.{AllZip}
use Rattle.std.specs.Fmt.{signed_decimal}
use Rattle.std.specs.Str.{is_utf8}
use Rattle.std.proofs.lemmas.Str.{IsUtf8-from_ascii}
use Rattle.std.proofs.lemmas.Fmt.{IsAscii-signed}
use lib.Signed.{mag}
use Rattle.json.specs.Print.{quoted}
use Rattle.json.specs.Tree as tree
use Rattle.json.proofs.Printed.Decimals.{IsNumber-signed_decimal}
use Rattle.json.proofs.Printed.Utf8.{IsUtf8-are_ascii}
use Rattle.serde_json.specs.Data.{Data, number, string, array, object, Items, no_items, item, Members, no_members, member, put}
use Rattle.serde_json.specs.Find.{of_integer}
use Rattle.serde_json.specs.Read.{read, max_depth}
use Rattle.serde_json.specs.View.{items_of}
use Rattle.serde_json.specs.Written.{outline, items_outline, members_outline, compact_text, items_text, members_text}
use Rattle.serde_json.proofs.Numbers.{number_of-decimal, number_of-negative}
use Rattle.flame_popfile.specs.RowTexts.{with_commas}
use Rattle.flame_popfile.specs.CommaTexts.{comma_where, behind}
use Rattle.flame_popfile.proofs.CommaLists.{behind_nothing}
use Rattle.flame_popfile.proofs.WrittenTokens.{line_feed_ends}
use Rattle.flame_popfile.proofs.WrittenValues.{IsReadNumber, IsSound, AreSound, HasSound, settled, items_settled, members_settled, utf8_before, value_before}
use Rattle.flame_popfile.proofs.PutMembers.{put_all}

-- the text is that of a tree, nested no deeper than this, which is read as the value
pub record Writes (deep : ℕ) (text : List ℕ) (value : Data) : Type 0 where
  pub whole : Data
  pub spelled : compact_text whole ≡ text
  pub sound : IsSound whole
  pub shallow : tree.depth (outline whole) ≤ deep
  pub same : settled whole ≡ value

-- the text of a member, its name before it
pub record WritesMember (deep : ℕ) (text : List ℕ) (pair : List ℕ × Data) : Type 0 where
  pub value_text : List ℕ
  pub utf8 : IsUtf8 pair.0
  pub spelled : quoted pair.0 ++ 58 ∷ value_text ≡ text
  pub writes : Writes deep value_text pair.1

-- before a line feed the text is read as the value
pub read_line :
    (deep : ℕ) (text : List ℕ) (value : Data)
    → Writes deep text value → deep ≤ max_depth → read (text ++ 10 ∷ []) ≡ Some value
read_line deep text value w within =
    ap (λ s. read (s ++ 10 ∷ [])) (sym w.spelled)
    ∙ value_before w.whole (10 ∷ []) w.sound (let h = w.shallow in omega arith) line_feed_ends
    ∙ ap Some w.same

-- and it is UTF-8
pub line_utf8 : (deep : ℕ) (text : List ℕ) (value : Data) → Writes deep text value → is_utf8 (text ++ 10 ∷ []) ≡ true
line_utf8 deep text value w =
    ap (λ s. is_utf8 (s ++ 10 ∷ [])) (sym w.spelled)
    ∙ utf8_before w.whole (10 ∷ []) w.sound (IsUtf8-are_ascii (10 ∷ []) refl)

-- ---- numbers and names

integer_read : (z : ℤ) → mag z < 2 ^ 63 → IsReadNumber (of_integer z)
integer_read (pos n) h = record {
  same = number_of-decimal n (omega arith);
  is_number = IsNumber-signed_decimal (pos n) h;
  utf8 = IsUtf8-from_ascii (decimal n) (IsAscii-signed (pos n) h);
}
integer_read (negsuc n) h = record {
  same = number_of-negative n (omega arith);
  is_number = IsNumber-signed_decimal (negsuc n) h;
  utf8 = IsUtf8-from_ascii (signed_decimal (negsuc n)) (IsAscii-signed (negsuc n) h);
}

integer_spelled : (z : ℤ) → compact_text (number (of_integer z)) ≡ signed_decimal z
integer_spelled (pos n) = refl
integer_spelled (negsuc n) = refl

-- a whole number
pub writes_integer : (deep : ℕ) (z : ℤ) → mag z < 2 ^ 63 → Writes deep (signed_decimal z) (number (of_integer z))
writes_integer deep z h = record {
  whole = number (of_integer z);
  spelled = integer_spelled z;
  sound = integer_read z h;
  shallow = omega arith;
  same = refl;
}

-- a text
pub writes_string : (deep : ℕ) (s : List ℕ) → IsUtf8 s → Writes deep (quoted s) (string s)
writes_string deep s h = record { whole = string s; spelled = refl; sound = h; shallow = omega arith; same = refl }

-- ---- lists

record WritesItems (deep : ℕ) (texts : List (List ℕ)) (values : List Data) : Type 0 where
  whole : Items
  spelled : (later : Bool) → items_text later whole ≡ behind later texts ++ 93 ∷ []
  sound : AreSound whole
  shallow : tree.items_depth (items_outline whole) ≤ deep
  same : items_settled whole ≡ items_of values

behind_text :
    (later : Bool) (x xs end : List ℕ)
    → comma_where later ++ (x ++ (xs ++ end)) ≡ (comma_where later ++ (x ++ xs)) ++ end
behind_text later x xs end =
    ap (λ l. comma_where later ++ l) (sym (append_assoc x xs end))
    ∙ sym (append_assoc (comma_where later) (x ++ xs) end)

writes_items :
    (deep : ℕ) (texts : List (List ℕ)) (values : List Data)
    → AllZip (Writes deep) texts values → WritesItems deep texts values
writes_items deep [] [] h = record {
  whole = no_items;
  spelled = λ later. refl;
  sound = tt;
  shallow = omega arith;
  same = refl;
}
writes_items deep [] (value ∷ values) h = absurd h
writes_items deep (text ∷ texts) [] h = absurd h
writes_items deep (text ∷ texts) (value ∷ values) h =
    let first = h.0 in
    let rest = writes_items deep texts values h.1 in
    let a = first.shallow in
    let b = rest.shallow in
    record {
      whole = item first.whole rest.whole;
      spelled = λ later.
          ap₂ (λ x xs. comma_where later ++ (x ++ xs)) first.spelled (rest.spelled true)
          ∙ behind_text later text (behind true texts) (93 ∷ []);
      sound = (first.sound, rest.sound);
      shallow = omega (arith, a, b);
      same = ap₂ item first.same rest.same;
    }

-- the text of a list
abbrev pub list_text : List (List ℕ) → List ℕ
list_text texts = 91 ∷ (with_commas texts ++ 93 ∷ [])

-- a list
pub writes_list :
    (deep : ℕ) (texts : List (List ℕ)) (values : List Data)
    → AllZip (Writes deep) texts values → Writes (suc deep) (list_text texts) (array (items_of values))
writes_list deep texts values h =
    let all = writes_items deep texts values h in
    let a = all.shallow in
    record {
      whole = array all.whole;
      spelled = ap (λ l. 91 ∷ l) (all.spelled false ∙ ap (λ l. l ++ 93 ∷ []) (behind_nothing texts));
      sound = all.sound;
      shallow = omega (arith, a);
      same = ap array all.same;
    }

-- ---- objects

record WritesMembers (deep : ℕ) (texts : List (List ℕ)) (pairs : List (List ℕ × Data)) : Type 0 where
  whole : Members
  spelled : (later : Bool) → members_text later whole ≡ behind later texts ++ 125 ∷ []
  sound : HasSound whole
  shallow : tree.members_depth (members_outline whole) ≤ deep
  same : (found : Members) → members_settled whole found ≡ put_all pairs found

named_behind :
    (later : Bool) (name value xs end : List ℕ)
    → comma_where later ++ (name ++ 58 ∷ (value ++ (xs ++ end)))
    ≡ (comma_where later ++ ((name ++ 58 ∷ value) ++ xs)) ++ end
named_behind later name value xs end =
    ap (λ l. comma_where later ++ l) (sym (append_assoc name (58 ∷ value) (xs ++ end)))
    ∙ behind_text later (name ++ 58 ∷ value) xs end

writes_members :
    (deep : ℕ) (texts : List (List ℕ)) (pairs : List (List ℕ × Data))
    → AllZip (WritesMember deep) texts pairs → WritesMembers deep texts pairs
writes_members deep [] [] h = record {
  whole = no_members;
  spelled = λ later. refl;
  sound = tt;
  shallow = omega arith;
  same = λ found. refl;
}
writes_members deep [] (pair ∷ pairs) h = absurd h
writes_members deep (text ∷ texts) [] h = absurd h
writes_members deep (text ∷ texts) (pair ∷ pairs) h =
    let first = h.0 in
    let value = first.writes in
    let rest = writes_members deep texts pairs h.1 in
    let a = value.shallow in
    let b = rest.shallow in
    record {
      whole = member pair.0 value.whole rest.whole;
      spelled = λ later.
          ap₂ (λ x xs. comma_where later ++ (quoted pair.0 ++ 58 ∷ (x ++ xs))) value.spelled (rest.spelled true)
          ∙ named_behind later (quoted pair.0) first.value_text (behind true texts) (125 ∷ [])
          ∙ ap (λ x. (comma_where later ++ (x ++ behind true texts)) ++ 125 ∷ []) first.spelled;
      sound = (first.utf8, value.sound, rest.sound);
      shallow = omega (arith, a, b);
      same = λ found.
          ap (λ d. members_settled rest.whole (put pair.0 d found)) value.same
          ∙ rest.same (put pair.0 pair.1 found);
    }

-- the text of an object
abbrev pub object_text : List (List ℕ) → List ℕ
object_text texts = 123 ∷ (with_commas texts ++ 125 ∷ [])

-- an object
pub writes_object :
    (deep : ℕ) (texts : List (List ℕ)) (pairs : List (List ℕ × Data))
    → AllZip (WritesMember deep) texts pairs → Writes (suc deep) (object_text texts) (object (put_all pairs no_members))
writes_object deep texts pairs h =
    let all = writes_members deep texts pairs h in
    let a = all.shallow in
    record {
      whole = object all.whole;
      spelled = ap (λ l. 123 ∷ l) (all.spelled false ∙ ap (λ l. l ++ 125 ∷ []) (behind_nothing texts));
      sound = all.sound;
      shallow = omega (arith, a);
      same = ap object (all.same no_members);
    }
