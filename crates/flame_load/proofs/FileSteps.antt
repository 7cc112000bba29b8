-- Model files and function files, one after another.
use Rattle.std.proofs.Common.{◌≡◌, ℕ, suc, ◌+◌, ◌-◌, ◌<◌, ◌≤◌, true, false, List, [], ◌∷◌, ◌++◌, length, drop, get_or, Result, Ok, Err, refl, sym, ap, ◌∙◌, subst, cond, append-nil, append_assoc, arith}
use Rattle.std.specs.Prelude.{nat_le}
use Rattle.std.specs.Result.{IsErrAnd}
use Rattle.std.proofs.lemmas.Bool.{le-leb, lt-leb}
use Rattle.std.proofs.lemmas.List.{drop_more}
use Rattle.flame_outside.specs.Files.{Files}
use Rattle.flame_spec.specs.declared.trees.Unit as file
use Rattle.flame_spec.specs.declared.wide.Wide.{Wide}
use Rattle.flame_spec.specs.KnownNames.{is_among}
use Rattle.flame_load.specs.declared.faults.LoadFail.{LoadFail}
use Rattle.flame_load.specs.declared.faults.LoadFault.TheVariants.{TooMany}
use Rattle.flame_load.specs.declared.model_files.FilesRead.{FilesRead}
use Rattle.flame_load.specs.InputReads.{Reading, known, refused, ◌>>=◌}
use Rattle.flame_load.specs.LoadRefusals.{Refusal, of_files}
use Rattle.flame_load.specs.LoadAnswers.{Stops, Gives}
use Rattle.flame_load.specs.RestsOfReadings.{IsRestOf, Leaves, IsAdded, files_read}
use Rattle.flame_load.specs.ModelFileReads.{ModelFiles, and_file, most_files, with_all, with_name, wide_in, model_files}
use Rattle.flame_load.specs.FunctionFileReads.{unit_in, units_in}
use Rattle.flame_load.specs.TextReads.{Reader}
use Rattle.flame_load.proofs.Leftovers.{rest_behind, rest_inside, rest_known, rest_once, rest_join, stops_first, stops_rest}

-- ---- model files

abbrev pub With : Type 0
With = ModelFiles → List ℕ → Reading Refusal ModelFiles

-- once the file of a name was added, those of the names behind it are left
pub names_left :
    (with_one : With) (files more : ModelFiles) (names : List (List ℕ)) (name : List ℕ) (rest : List (List ℕ))
    → names ≡ name ∷ rest
    → (with_one files name).answer ≡ Ok more
    → IsRestOf (with_all with_one files names) (with_all with_one more rest)
names_left with_one files more names name rest same given =
    subst (λ ns. IsRestOf (with_all with_one files ns) (with_all with_one more rest)) (sym same)
    (rest_behind (with_one files name) (λ fs. with_all with_one fs rest) more given)

-- where the most files were read, a new name is one too many
pub is_too_many :
    (deep : ℕ) (told : Files) (files : ModelFiles) (name : List ℕ)
    → is_among name files.names ≡ false
    → nat_le most_files (length files.names) ≡ true
    → with_name (suc deep) told files name ≡ refused (of_files (TooMany name))
is_too_many deep told files name new full =
    let go_on = wide_in told name >>= (λ wide. with_all (with_name deep told) (and_file name wide files) wide.nested) in
    ap (λ b. cond b (known files) (cond (nat_le most_files (length files.names)) (refused (of_files (TooMany name))) go_on)) new
    ∙ ap (λ b. cond b (refused (of_files (TooMany name))) go_on) full

-- where more may be read, the file of a new name is read, and then its nested files
pub is_read :
    (deep : ℕ) (told : Files) (files : ModelFiles) (name : List ℕ)
    → is_among name files.names ≡ false
    → nat_le most_files (length files.names) ≡ false
    → with_name (suc deep) told files name
    ≡ wide_in told name >>= (λ wide. with_all (with_name deep told) (and_file name wide files) wide.nested)
is_read deep told files name new room =
    let go_on = wide_in told name >>= (λ wide. with_all (with_name deep told) (and_file name wide files) wide.nested) in
    ap (λ b. cond b (known files) (cond (nat_le most_files (length files.names)) (refused (of_files (TooMany name))) go_on)) new
    ∙ ap (λ b. cond b (refused (of_files (TooMany name))) go_on) room

-- ---- function files

-- the C functions behind those that were read
abbrev pub units_rest : Reader → Files → List file.Unit → List (List ℕ) → Reading Refusal (List file.Unit)
units_rest read told done names = units_in read told names >>= (λ more. known (done ++ more))

pub units_begin : (read : Reader) (told : Files) (names : List (List ℕ)) → IsRestOf (units_in read told names) (units_rest read told [] names)
units_begin read told names = rest_known (units_in read told names) (λ more. [] ++ more) (λ more. refl)

pub units_left :
    (read : Reader) (told : Files) (done : List file.Unit) (names : List (List ℕ)) (name : List ℕ)
    (rest : List (List ℕ)) (unit : file.Unit)
    → names ≡ name ∷ rest
    → (unit_in read told name).answer ≡ Ok unit
    → IsRestOf (units_rest read told done names) (units_rest read told (done ++ unit ∷ []) rest)
units_left read told done names name rest unit same given =
    let behind : file.Unit → Reading Refusal (List file.Unit) = λ u. units_in read told rest >>= (λ us. known (u ∷ us)) in
    let all : List file.Unit → Reading Refusal (List file.Unit) = λ more. known (done ++ more) in
    subst (λ ns. IsRestOf (units_rest read told done ns) (units_rest read told (done ++ unit ∷ []) rest)) (sym same)
    (rest_join ((unit_in read told name >>= behind) >>= all) (behind unit >>= all) (units_rest read told (done ++ unit ∷ []) rest)
    (rest_inside (unit_in read told name >>= behind) (behind unit) all (rest_behind (unit_in read told name) behind unit given))
    (rest_once (units_in read told rest) (λ us. unit ∷ us) (λ more. done ++ more) (λ us. (done ++ unit ∷ []) ++ us)
    (λ us. sym (append_assoc done (unit ∷ []) us))))

pub units_end :
    (read : Reader) (told : Files) (done : List file.Unit) (names : List (List ℕ))
    → names ≡ []
    → (units_rest read told done names).answer ≡ Ok done
unfolding ◌>>=◌
units_end read told done names none =
    ap (λ ns. (units_rest read told done ns).answer) none ∙ ap Ok (append-nil done)

-- ---- by their places

-- the names from a place on, by the name that stands there
at_place : (names : List (List ℕ)) (i : ℕ) (name : List ℕ) → i < length names → name ≡ get_or names i name → drop i names ≡ name ∷ drop (i + 1) names
at_place names i name inside is = drop_more names i name inside ∙ ap (λ n. n ∷ drop (i + 1) names) (sym is)

pub names_at :
    (with_one : With) (files more : ModelFiles) (names : List (List ℕ)) (i : ℕ) (name : List ℕ)
    → i < length names
    → name ≡ get_or names i name
    → (with_one files name).answer ≡ Ok more
    → IsRestOf (with_all with_one files (drop i names)) (with_all with_one more (drop (i + 1) names))
names_at with_one files more names i name inside is given =
    names_left with_one files more (drop i names) name (drop (i + 1) names) (at_place names i name inside is) given

pub names_stop :
    (fail : LoadFail) (with_one : With) (files : ModelFiles) (names : List (List ℕ)) (i : ℕ) (name : List ℕ)
    → i < length names
    → name ≡ get_or names i name
    → Stops fail (with_one files name)
    → Stops fail (with_all with_one files (drop i names))
names_stop fail with_one files names i name inside is stops =
    subst (λ ns. Stops fail (with_all with_one files ns)) (sym (at_place names i name inside is))
    (stops_first fail (with_one files name) (λ fs. with_all with_one fs (drop (i + 1) names)) stops)

pub units_at :
    (read : Reader) (told : Files) (done : List file.Unit) (names : List (List ℕ)) (i : ℕ) (name : List ℕ) (unit : file.Unit)
    → i < length names
    → name ≡ get_or names i name
    → (unit_in read told name).answer ≡ Ok unit
    → IsRestOf (units_rest read told done (drop i names)) (units_rest read told (done ++ unit ∷ []) (drop (i + 1) names))
units_at read told done names i name unit inside is given =
    units_left read told done (drop i names) name (drop (i + 1) names) unit (at_place names i name inside is) given

pub units_stop :
    (fail : LoadFail) (read : Reader) (told : Files) (done : List file.Unit) (names : List (List ℕ)) (i : ℕ) (name : List ℕ)
    → i < length names
    → name ≡ get_or names i name
    → Stops fail (unit_in read told name)
    → Stops fail (units_rest read told done (drop i names))
units_stop fail read told done names i name inside is stops =
    let all : List file.Unit → Reading Refusal (List file.Unit) = λ more. known (done ++ more) in
    let behind : file.Unit → Reading Refusal (List file.Unit) = λ unit. units_in read told (drop (i + 1) names) >>= (λ us. known (unit ∷ us)) in
    subst (λ ns. Stops fail (units_rest read told done ns)) (sym (at_place names i name inside is))
    (stops_first fail (unit_in read told name >>= behind) all (stops_first fail (unit_in read told name) behind stops))

-- a failure that is passed on, where the rest stops by it
pub leaves_by :
    {T : Type 0} (result : Result T LoadFail) (fail : LoadFail) (files : FilesRead) (whole rest : Reading Refusal ModelFiles)
    → IsErrAnd result (λ passed. passed ≡ fail)
    → IsRestOf whole rest
    → Stops fail rest
    → Leaves result files whole
leaves_by (Ok done) fail files whole rest passed left stops = absurd passed
leaves_by (Err passed) fail files whole rest same left stops =
    subst (λ other. Stops other whole) (sym same) (stops_rest fail whole rest left stops)

pub gives_by :
    {X Y : Type 0} (view : X → Y) (result : Result X LoadFail) (fail : LoadFail) (whole rest : Reading Refusal Y)
    → IsErrAnd result (λ passed. passed ≡ fail)
    → IsRestOf whole rest
    → Stops fail rest
    → Gives view result whole
gives_by view (Ok done) fail whole rest passed left stops = absurd passed
gives_by view (Err passed) fail whole rest same left stops =
    subst (λ other. Stops other whole) (sym same) (stops_rest fail whole rest left stops)

-- ---- a name, by how deep it may nest and how many files were read

pub is_too_many_at :
    (deep : ℕ) (told : Files) (files : ModelFiles) (name text : List ℕ)
    → 0 < deep
    → is_among name files.names ≡ false
    → 64 ≤ length files.names
    → text ≡ name
    → (with_name deep told files name).answer ≡ Err (of_files (TooMany text))
unfolding most_files
is_too_many_at deep told files name text more new full same =
    let step : suc (deep - 1) ≡ deep = omega (arith, more) in
    subst (λ d. (with_name d told files name).answer ≡ Err (of_files (TooMany text))) step
    (ap (λ r. r.answer) (is_too_many (deep - 1) told files name new (le-leb 64 (length files.names) full))
    ∙ ap (λ n. Err (of_files (TooMany n))) (sym same))

abbrev behind_file : ℕ → Files → ModelFiles → List ℕ → Wide → Reading Refusal ModelFiles
behind_file deep told files name wide = with_all (with_name deep told) (and_file name wide files) wide.nested

is_read_at :
    (deep : ℕ) (told : Files) (files : ModelFiles) (name : List ℕ)
    → 0 < deep
    → is_among name files.names ≡ false
    → length files.names < 64
    → with_name deep told files name ≡ wide_in told name >>= behind_file (deep - 1) told files name
unfolding most_files
is_read_at deep told files name more new room =
    let step : suc (deep - 1) ≡ deep = omega (arith, more) in
    subst (λ d. with_name d told files name ≡ wide_in told name >>= behind_file (deep - 1) told files name) step
    (is_read (deep - 1) told files name new (lt-leb 64 (length files.names) room))

pub stops_at_file :
    (fail : LoadFail) (deep : ℕ) (told : Files) (files : ModelFiles) (name : List ℕ)
    → 0 < deep
    → is_among name files.names ≡ false
    → length files.names < 64
    → Stops fail (wide_in told name)
    → Stops fail (with_name deep told files name)
stops_at_file fail deep told files name more new room stops =
    subst (Stops fail) (sym (is_read_at deep told files name more new room))
    (stops_first fail (wide_in told name) (behind_file (deep - 1) told files name) stops)

pub leaves_rest :
    {T : Type 0} (result : Result T LoadFail) (out : FilesRead) (whole rest : Reading Refusal ModelFiles)
    → IsRestOf whole rest
    → Leaves result out rest
    → Leaves result out whole
leaves_rest (Ok done) out whole rest left given = left.answer ∙ given
leaves_rest (Err fail) out whole rest left given = stops_rest fail whole rest left given

-- once the file was added, its nested files are left
pub nested_left :
    (deep : ℕ) (told : Files) (old new : FilesRead) (name : List ℕ) (nested names : List (List ℕ))
    → 0 < deep
    → is_among name (files_read old).names ≡ false
    → length (files_read old).names < 64
    → IsAdded told name old new nested
    → names ≡ nested
    → IsRestOf (with_name deep told (files_read old) name) (with_all (with_name (deep - 1) told) (files_read new) names)
nested_left deep told old new name nested names more unread room added same =
    let files = files_read old in
    let f = with_name (deep - 1) told in
    subst (λ whole. IsRestOf whole (with_all f (files_read new) names)) (sym (is_read_at deep told files name more unread room))
    (subst (λ fs. IsRestOf (wide_in told name >>= behind_file (deep - 1) told files name) (with_all f fs names)) (sym added.added)
    (subst (λ ns. IsRestOf (wide_in told name >>= behind_file (deep - 1) told files name) (with_all f (and_file name added.wide files) ns))
    (sym (same ∙ added.nests))
    (rest_behind (wide_in told name) (behind_file (deep - 1) told files name) added.wide added.given)))

-- where no file was read, those that come with a name are all from it on
pub root_files :
    (told : Files) (name : List ℕ) (names : List (List ℕ)) (wides : List Wide)
    → names ≡ []
    → wides ≡ []
    → with_name 65 told (record { names = names; wides = wides }) name ≡ model_files told name
unfolding most_files
root_files told name names wides no_names no_wides = λ i. with_name 65 told (record { names = no_names i; wides = no_wides i }) name
