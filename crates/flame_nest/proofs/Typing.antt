-- Data types of a file, one after another.
use Rattle.std.proofs.Common.{◌≡◌, ℕ, ◌+◌, ◌<◌, List, [], ◌∷◌, ◌++◌, length, take, get_or, sym, ap, ◌∙◌, false, cond}
use Rattle.std.specs.Prelude.{◌||◌}
use Rattle.std.proofs.lemmas.List.{map_push, take_more}
use Rattle.std.proofs.lemmas.Bool.{or_parts}
use Rattle.flame_rows.proofs.Lists.{append-is_nil}
use Rattle.flame_spec.specs.declared.wide.DataType.{DataType}
use Rattle.flame_spec.specs.KnownNames.{is_among}
use Rattle.flame_nest.specs.declared.faults.NestKind.TheVariants.{Differs, TwiceType}
use Rattle.flame_nest.specs.NestFaults.{Given, Meant, meant_by, is_int, nest_where, type_names, type_faults, of_type}
use Rattle.flame_nest.specs.KindTables.{with_name}
use Rattle.flame_nest.proofs.Firsts.{none-false}

-- a data type without a fault has the name of no earlier one of its file
pub type_once : (file : List ℕ) (given : Given) (here : List (List ℕ)) (meant : Meant) (type : DataType)
    → type_faults file given here meant type ≡ [] → is_among type.name here ≡ false
type_once file given here meant type h =
    let behind = append-is_nil (nest_where (given.differs (of_type type)) Differs file type.name) _ h in
    let twice = append-is_nil (nest_where (is_int type.name || is_among type.name here) TwiceType file type.name) _ behind.1 in
    (or_parts (is_int type.name) (is_among type.name here) (none-false (is_int type.name || is_among type.name here) TwiceType file type.name twice.0)).1

-- the names of one data type more
pub here-more : (types : List DataType) (i : ℕ) (d item : DataType) (here : List (List ℕ))
    → i < length types
    → item ≡ get_or types i d
    → here ≡ type_names (take i types)
    → is_among item.name here ≡ false
    → with_name here item.name ≡ type_names (take (i + 1) types)
here-more types i d item here inside is e new =
    ap (λ b. cond b here (here ++ item.name ∷ [])) new
    ∙ ap (λ l. l ++ item.name ∷ []) e
    ∙ sym (map_push (λ type. type.name) (take i types) item)
    ∙ ap (λ x. type_names (take i types ++ x ∷ [])) is
    ∙ ap type_names (sym (take_more types i d inside))

-- the faults of one data type, by what the loop knows
pub member-is : (file : List ℕ) (given : Given) (here names : List (List ℕ)) (kinds known : List DataType) (item type : DataType)
    → here ≡ names
    → kinds ≡ known
    → item ≡ type
    → type_faults file given here (meant_by kinds) item ≡ type_faults file given names (meant_by known) type
member-is file given here names kinds known item type h k t =
    ap (λ l. type_faults file given l (meant_by kinds) item) h
    ∙ ap (λ l. type_faults file given names (meant_by l) item) k
    ∙ ap (type_faults file given names (meant_by known)) t
