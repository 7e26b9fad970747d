-- Names that stand once: compared with the names before them, or with those behind them.
use Rattle.std.proofs.Common.{◌≡◌, ◌∙◌, sym, ap, refl, ℕ, Bool, true, false, List, [], ◌∷◌, ◌++◌}
use Rattle.std.specs.Prelude.{◌||◌, ⊤}
use Rattle.std.specs.List.{list_any}
use Rattle.std.specs.Str.{bytes_eq}
use Rattle.std.proofs.lemmas.Bool.{or_parts, or_from}
use Rattle.std.specs.Str.{str_to_ascii_lowercase}
use Rattle.deb_control.specs.Fields.{FieldText, HaveDistinctNames, has_name, is_among}
use Rattle.std.proofs.lemmas.List.Folds.{list_any-append}

-- no field has one of these names, nor the name of a field before it
abbrev pub Apart : List (List ℕ) → List FieldText → Type 0
Apart names [] = ⊤
Apart names (field ∷ fields) = (is_among (str_to_ascii_lowercase field.name) names ≡ false) × Apart (names ++ str_to_ascii_lowercase field.name ∷ []) fields

-- none of the fields has one of these names
abbrev pub NoneAmong : List (List ℕ) → List FieldText → Type 0
NoneAmong names [] = ⊤
NoneAmong names (field ∷ fields) = (is_among (str_to_ascii_lowercase field.name) names ≡ false) × NoneAmong names fields

is_among-last : (field later : FieldText) (names : List (List ℕ)) → is_among (str_to_ascii_lowercase later.name) (names ++ str_to_ascii_lowercase field.name ∷ []) ≡ (is_among (str_to_ascii_lowercase later.name) names || has_name later.name field)
is_among-last field later names =
    list_any-append (λ other. bytes_eq other (str_to_ascii_lowercase later.name)) names (str_to_ascii_lowercase field.name ∷ [])
    ∙ ap (λ (b : Bool). is_among (str_to_ascii_lowercase later.name) names || b) (or_false (has_name later.name field))
  where
    or_false : (b : Bool) → (b || false) ≡ b
    or_false true = refl
    or_false false = refl

none_among_push : (names : List (List ℕ)) (field : FieldText) (fields : List FieldText) → NoneAmong names fields → list_any (λ later. has_name later.name field) fields ≡ false
    → NoneAmong (names ++ str_to_ascii_lowercase field.name ∷ []) fields
none_among_push names field [] none distinct = tt
none_among_push names field (later ∷ fields) none distinct =
    let parts : (has_name later.name field ≡ false) × (list_any (λ (other : FieldText). has_name other.name field) fields ≡ false) = or_parts _ _ distinct in
    (is_among-last field later names ∙ or_from _ _ none.0 parts.0, none_among_push names field fields none.1 parts.1)

none_among_split : (names : List (List ℕ)) (field : FieldText) (fields : List FieldText) → NoneAmong (names ++ str_to_ascii_lowercase field.name ∷ []) fields
    → NoneAmong names fields × (list_any (λ later. has_name later.name field) fields ≡ false)
none_among_split names field [] none = (tt, refl)
none_among_split names field (later ∷ fields) none =
    let parts : (is_among (str_to_ascii_lowercase later.name) names ≡ false) × (has_name later.name field ≡ false) = or_parts _ _ (sym (is_among-last field later names) ∙ none.0) in
    let behind : NoneAmong names fields × (list_any (λ (other : FieldText). has_name other.name field) fields ≡ false) = none_among_split names field fields none.1 in
    ((parts.0, behind.0), or_from _ _ parts.1 behind.1)

pub none_among_nil : (fields : List FieldText) → NoneAmong [] fields
none_among_nil [] = tt
none_among_nil (field ∷ fields) = (refl, none_among_nil fields)

pub apart_from : (names : List (List ℕ)) (fields : List FieldText) → NoneAmong names fields → HaveDistinctNames fields → Apart names fields
apart_from names [] none distinct = tt
apart_from names (field ∷ fields) none distinct =
    (none.0, apart_from (names ++ str_to_ascii_lowercase field.name ∷ []) fields (none_among_push names field fields none.1 distinct.0) distinct.1)

pub apart_to : (names : List (List ℕ)) (fields : List FieldText) → Apart names fields → NoneAmong names fields × HaveDistinctNames fields
apart_to names [] apart = (tt, tt)
apart_to names (field ∷ fields) apart =
    let behind : NoneAmong (names ++ str_to_ascii_lowercase field.name ∷ []) fields × HaveDistinctNames fields = apart_to (names ++ str_to_ascii_lowercase field.name ∷ []) fields apart.1 in
    let parts : NoneAmong names fields × (list_any (λ (later : FieldText). has_name later.name field) fields ≡ false) = none_among_split names field fields behind.0 in
    ((apart.0, parts.0), (parts.1, behind.1))
