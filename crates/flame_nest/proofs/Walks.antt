-- What is known behind one file more.
use mathlib.Core.Bool.{or-false}
use Rattle.std.proofs.Common.{◌≡◌, ℕ, ◌+◌, ◌<◌, List, [], ◌∷◌, ◌++◌, length, take, get_or, map, refl, sym, ap, ◌∙◌, Bool, true, false, true≢false, cond, not}
use Rattle.std.specs.Prelude.{◌||◌, slice_get, unwrap_or}
use Rattle.std.specs.Str.{bytes_eq}
use Rattle.std.proofs.lemmas.Slice.Eq.{bytes_eq-Decides}
use Rattle.std.specs.List.{filter, flat_map, fold}
use Rattle.std.proofs.lemmas.List.{map-append, append-nil, take_more, get_or_default}
use Rattle.std.proofs.lemmas.Grind.{flat_map-append}
use Rattle.std.proofs.lemmas.Option.{unwrap_or-slice_get}
use Rattle.std.proofs.lemmas.List.Folds.{list_any-append}
use Rattle.flame_spec.specs.declared.wide.Wide.{Wide}
use Rattle.flame_spec.specs.declared.wide.DataType.{DataType}
use Rattle.flame_spec.specs.declared.wide.WideMessage.{WideMessage}
use Rattle.flame_spec.specs.KnownNames.{is_among}
use Rattle.flame_nest.specs.FlatModels.{joined_types, joined_messages, joined_files, with_new}
use Rattle.flame_nest.specs.NestFaults.{Given, given_by, Declaration, of_type, of_message, type_names, types_given, messages_given, file_faults, meant_by, types_faults, messages_faults, agents_faults}
use Rattle.flame_nest.specs.GivenTables.{GivenTable, given_in, with_declaration}
use Rattle.flame_nest.specs.KindTables.{with_name}
use Rattle.flame_nest.specs.FileWalks.{known_with, walk_faults}
use Rattle.flame_nest.proofs.Agreement.{given-fold}
use Rattle.flame_nest.proofs.Joins.{among-joined, joined_once-push, among-with_new}

-- what each of a list gives, one more
pub flat_map-more : {X Y : Type 0} (f : X → List Y) (xs : List X) (i : ℕ) (d item : X)
    → i < length xs
    → item ≡ get_or xs i d
    → flat_map f (take (i + 1) xs) ≡ flat_map f (take i xs) ++ f item
flat_map-more f xs i d item inside is =
    ap (flat_map f) (take_more xs i d inside ∙ ap (λ x. take i xs ++ x ∷ []) (sym is))
    ∙ flat_map-append f (take i xs) (item ∷ [])
    ∙ ap (λ l. flat_map f (take i xs) ++ l) (append-nil (f item))

pub map-flat_map : {X Y Z : Type 0} (g : Y → Z) (f : X → List Y) (xs : List X)
    → map g (flat_map f xs) ≡ flat_map (λ x. map g (f x)) xs
map-flat_map g f [] = refl
map-flat_map g f (x ∷ xs) =
    map-append g (f x) (flat_map f xs) ∙ ap (λ l. map g (f x) ++ l) (map-flat_map g f xs)

pub map-map : {X Y Z : Type 0} (g : Y → Z) (f : X → Y) (xs : List X) → map g (map f xs) ≡ map (λ x. g (f x)) xs
map-map g f [] = refl
map-map g f (x ∷ xs) = ap (λ l. g (f x) ∷ l) (map-map g f xs)

given_names : {X : Type 0} (declared : X → Declaration) (list_of : Wide → List X) (wides : List Wide)
    → map (λ d. d.name) (flat_map (λ wide. map declared (list_of wide)) wides)
    ≡ flat_map (λ wide. map (λ x. (declared x).name) (list_of wide)) wides
given_names declared list_of wides =
    map-flat_map (λ d. d.name) (λ wide. map declared (list_of wide)) wides
    ∙ ap
    (λ f. flat_map f wides)
    (λ i wide. map-map (λ d. d.name) declared (list_of wide) i)

-- a name is that of a data type that is known where it is given
pub types-known : (wides : List Wide) (kinds : List DataType) (given : Given) (name : List ℕ)
    → kinds ≡ joined_types wides
    → given ≡ given_by (types_given wides)
    → is_among name (type_names kinds) ≡ given.has name
types-known wides kinds given name k g =
    ap (λ l. is_among name (type_names l)) k
    ∙ among-joined (λ type. type.name) (λ wide. wide.types) name wides
    ∙ ap (is_among name) (sym (given_names of_type (λ wide. wide.types) wides))
    ∙ ap (λ x. x.has name) (sym g)

-- the same of messages
pub messages-known : (wides : List Wide) (given : Given) (name : List ℕ)
    → given ≡ given_by (messages_given wides)
    → is_among name (map (λ message. message.name) (joined_messages wides)) ≡ given.has name
messages-known wides given name g =
    among-joined (λ message. message.name) (λ wide. wide.messages) name wides
    ∙ ap (is_among name) (sym (given_names of_message (λ wide. wide.messages) wides))
    ∙ ap (λ x. x.has name) (sym g)

-- what is given behind one file more
pub given-more : (give : Wide → List Declaration) (wides : List Wide) (i : ℕ) (d wide : Wide) (table after : GivenTable)
    (more : List Declaration)
    → i < length wides
    → wide ≡ get_or wides i d
    → given_in table ≡ given_by (flat_map give (take i wides))
    → after ≡ fold with_declaration table more
    → more ≡ give wide
    → given_in after ≡ given_by (flat_map give (take (i + 1) wides))
given-more give wides i d wide table after more inside is known put same =
    ap given_in (put ∙ ap (fold with_declaration table) same)
    ∙ given-fold table (flat_map give (take i wides)) (give wide) known
    ∙ ap given_by (sym (flat_map-more give wides i d wide inside is))

-- the data types that are known behind one file more
pub kinds-more : (wides : List Wide) (i : ℕ) (d wide : Wide) (kinds after : List DataType)
    → i < length wides
    → wide ≡ get_or wides i d
    → kinds ≡ joined_types (take i wides)
    → after ≡ known_with kinds wide
    → after ≡ joined_types (take (i + 1) wides)
kinds-more wides i d wide kinds after inside is known put =
    put
    ∙ ap (λ l. known_with l wide) known
    ∙ sym (joined_once-push (λ type. type.name) (λ wide. wide.types) (take i wides) wide)
    ∙ ap joined_types (ap (λ x. take i wides ++ x ∷ []) is ∙ sym (take_more wides i d inside))

-- the messages that are kept behind one file more
pub kept-more : (wides : List Wide) (i : ℕ) (d wide : Wide) (given : Given) (kept after messages : List WideMessage)
    → i < length wides
    → wide ≡ get_or wides i d
    → given ≡ given_by (messages_given (take i wides))
    → kept ≡ joined_messages (take i wides)
    → messages ≡ wide.messages
    → after ≡ kept ++ filter (λ message. not (given.has message.name)) messages
    → after ≡ joined_messages (take (i + 1) wides)
kept-more wides i d wide given kept after messages inside is known done same put =
    let joined = joined_messages (take i wides) in
    put
    ∙ ap (λ l. l ++ filter (λ message. not (given.has message.name)) messages) done
    ∙ ap (λ l. joined ++ filter (λ message. not (given.has message.name)) l) same
    ∙ ap
    (λ f. joined ++ filter f wide.messages)
    (λ j message. not (sym (messages-known (take i wides) given message.name known) j))
    ∙ sym (joined_once-push (λ message. message.name) (λ wide. wide.messages) (take i wides) wide)
    ∙ ap joined_messages (ap (λ x. take i wides ++ x ∷ []) is ∙ sym (take_more wides i d inside))

walked : (file : List ℕ) (earlier : List Wide) (wide : Wide)
    → walk_faults file (given_by (types_given earlier)) (given_by (messages_given earlier)) (joined_types earlier) wide
    ≡ file_faults file earlier wide
walked file earlier wide =
    ap
    (λ known.
    types_faults file (given_by (types_given earlier)) (joined_types earlier) wide.types
    ++ (messages_faults file (given_by (messages_given earlier)) (meant_by known) wide.messages
    ++ agents_faults file (meant_by known) wide.agents))
    (sym (joined_once-push (λ type. type.name) (λ wide. wide.types) earlier wide))

-- the faults of a file, by what the walk knows
pub walk-is : (files : List (List ℕ)) (wides : List Wide) (i : ℕ) (d wide : Wide) (e file : List ℕ) (types messages : Given)
    (kinds : List DataType)
    → wide ≡ get_or wides i d
    → file ≡ get_or files i e
    → i < length files
    → types ≡ given_by (types_given (take i wides))
    → messages ≡ given_by (messages_given (take i wides))
    → kinds ≡ joined_types (take i wides)
    → walk_faults file types messages kinds wide
    ≡ file_faults (unwrap_or (slice_get files i) []) (take i wides) (get_or wides i d)
walk-is files wides i d wide e file types messages kinds w f inside t m k =
    let earlier = take i wides in
    ap (λ n. walk_faults n types messages kinds wide) (f ∙ get_or_default files i e [] inside ∙ sym (unwrap_or-slice_get files i []))
    ∙ ap (λ x. walk_faults (unwrap_or (slice_get files i) []) x messages kinds wide) t
    ∙ ap (λ x. walk_faults (unwrap_or (slice_get files i) []) (given_by (types_given earlier)) x kinds wide) m
    ∙ ap (λ x. walk_faults (unwrap_or (slice_get files i) []) (given_by (types_given earlier)) (given_by (messages_given earlier)) x wide) k
    ∙ walked (unwrap_or (slice_get files i) []) earlier wide
    ∙ ap (file_faults (unwrap_or (slice_get files i) []) earlier) w

map-own : {X : Type 0} (xs : List X) → map (λ x. x) xs ≡ xs
map-own [] = refl
map-own (x ∷ xs) = ap (λ l. x ∷ l) (map-own xs)

-- the function files that are kept behind one file more
pub files-more : (wides : List Wide) (i : ℕ) (d wide : Wide) (there joined after names : List (List ℕ))
    → i < length wides
    → wide ≡ get_or wides i d
    → joined ≡ joined_files (take i wides)
    → ((name : List ℕ) → is_among name there ≡ is_among name (joined_files (take i wides)))
    → names ≡ wide.files
    → after ≡ joined ++ filter (λ name. not (is_among name there)) names
    → after ≡ joined_files (take (i + 1) wides)
files-more wides i d wide there joined after names inside is done known same put =
    let earlier = joined_files (take i wides) in
    put
    ∙ ap (λ l. l ++ filter (λ name. not (is_among name there)) names) done
    ∙ ap (λ l. earlier ++ filter (λ name. not (is_among name there)) l) same
    ∙ ap (λ f. earlier ++ filter f wide.files) (λ j name. not (known name j))
    ∙ ap (λ l. earlier ++ filter (λ name. not (is_among name l)) wide.files) (sym (map-own earlier))
    ∙ sym (joined_once-push (λ name. name) (λ wide. wide.files) (take i wides) wide)
    ∙ ap joined_files (ap (λ x. take i wides ++ x ∷ []) is ∙ sym (take_more wides i d inside))

name_cases : (a b there : Bool) (rest : Bool)
    → (b ≡ true → there ≡ true → a ≡ true)
    → (cond there a (a || (b || false)) || rest) ≡ (a || (b || rest))
name_cases true b true rest h = refl
name_cases true b false rest h = refl
name_cases false false true rest h = refl
name_cases false false false rest h = refl
name_cases false true true rest h = absurd (true≢false (sym (h refl refl)))
name_cases false true false rest h = refl

among_choice : (name : List ℕ) (b : Bool) (xs ys : List (List ℕ))
    → is_among name (cond b xs ys) ≡ cond b (is_among name xs) (is_among name ys)
among_choice name true xs ys = refl
among_choice name false xs ys = refl

-- a name is among names and more of them
pub among-noted : (name : List ℕ) (there names : List (List ℕ))
    → is_among name (fold with_name there names) ≡ (is_among name there || is_among name names)
among-noted name there [] = (sym (or-false (is_among name there)))
among-noted name there (n ∷ names) =
    among-noted name (with_name there n) names
    ∙ ap
    (λ b. b || is_among name names)
    (among_choice name (is_among n there) there (there ++ n ∷ [])
    ∙ ap (cond (is_among n there) (is_among name there)) (list_any-append (bytes_eq name) there (n ∷ [])))
    ∙ name_cases
    (is_among name there)
    (bytes_eq name n)
    (is_among n there)
    (is_among name names)
    (λ same known. ap (λ x. is_among x there) ((bytes_eq-Decides name n).0 same) ∙ known)

-- the names of the function files behind one file more
pub there-more : (wides : List Wide) (i : ℕ) (d wide : Wide) (there after names : List (List ℕ)) (name : List ℕ)
    → i < length wides
    → wide ≡ get_or wides i d
    → is_among name there ≡ is_among name (joined_files (take i wides))
    → names ≡ wide.files
    → after ≡ fold with_name there names
    → is_among name after ≡ is_among name (joined_files (take (i + 1) wides))
there-more wides i d wide there after names name inside is known same put =
    let earlier = joined_files (take i wides) in
    ap (is_among name) (put ∙ ap (fold with_name there) same)
    ∙ among-noted name there wide.files
    ∙ ap (λ b. b || is_among name wide.files) known
    ∙ sym
    (ap (is_among name) (sym (map-own (with_new (λ name. name) earlier wide.files)))
    ∙ among-with_new (λ name. name) name earlier wide.files
    ∙ ap (λ l. is_among name l || is_among name (map (λ name. name) wide.files)) (map-own earlier)
    ∙ ap (λ l. is_among name earlier || is_among name l) (map-own wide.files))
    ∙ ap
    (is_among name)
    (sym (joined_once-push (λ name. name) (λ wide. wide.files) (take i wides) wide)
    ∙ ap joined_files (ap (λ x. take i wides ++ x ∷ []) is ∙ sym (take_more wides i d inside)))
