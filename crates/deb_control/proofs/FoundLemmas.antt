-- A field of a reading is found by its name, since no other has it.
use Rattle.std.proofs.Common.{◌≡◌, ◌∙◌, sym, ap, refl, ℕ, Bool, true, false, ◌||◌, List, [], ◌∷◌, ◌++◌, Some, Ok}
use Rattle.std.specs.Prelude.{find}
use Rattle.std.specs.List.{list_any}
use Rattle.std.specs.Str.{bytes_eq}
use Rattle.std.proofs.lemmas.List.Folds.{list_any-append}
use Rattle.std.proofs.lemmas.Slice.Eq.{bytes_eq-Decides}
use Rattle.std.specs.Str.{str_to_ascii_lowercase}
use Rattle.deb_control.specs.Fields.{FieldText, has_name, field_named, reading_of, HaveDistinctNames}
use Rattle.deb_control.proofs.GrammarLemmas.{IsReading-from_reading_of}

none-behind : (a b c : Bool) → (a || (b || c)) ≡ false → b ≡ false
none-behind true b c e = cc
none-behind false true c e = cc
none-behind false false c e = refl

-- a field whose name stands once is the one that is found
found : (name : List ℕ) (before after : List FieldText) (field : FieldText) → str_to_ascii_lowercase name ≡ str_to_ascii_lowercase field.name
    → HaveDistinctNames (before ++ field ∷ after) → find (has_name name) (before ++ field ∷ after) ≡ Some field
found name [] after field same apart =
    let has : has_name name field ≡ true = (bytes_eq-Decides (str_to_ascii_lowercase field.name) (str_to_ascii_lowercase name)).1 (sym same) in
    rw has refl
found name (other ∷ before) after field same apart =
    let none : (list_any (λ later. has_name later.name other) before || (has_name field.name other || list_any (λ later. has_name later.name other) after)) ≡ false =
    sym (list_any-append (λ later. has_name later.name other) before (field ∷ after)) ∙ apart.0 in
    let lacks : has_name name other ≡ false = ap (bytes_eq (str_to_ascii_lowercase other.name)) same ∙ none-behind (list_any (λ later. has_name later.name other) before) _ _ none in
    rw lacks (found name before after field same apart.1)

pub found-named : (lines : List (List ℕ)) (before after : List FieldText) (field : FieldText) (name : List ℕ)
    → reading_of lines ≡ Ok (before ++ field ∷ after) → str_to_ascii_lowercase name ≡ str_to_ascii_lowercase field.name
    → field_named name (before ++ field ∷ after) ≡ Some field
unfolding field_named
found-named lines before after field name read same =
    found name before after field same (IsReading-from_reading_of lines (before ++ field ∷ after) read).names
