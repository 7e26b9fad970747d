-- The names that were read: the first few one by one, the later ones by a test.
use Rattle.std.proofs.Common.{◌≡◌, ◌∙◌, sym, ap, refl, ℕ, ◌<◌, ◌≤◌, Bool, true, false, cond, length, take, drop, List, [], ◌∷◌, ◌++◌, arith, Result, Ok, Err}
use Rattle.std.specs.Prelude.{◌||◌, not, IfErr}
use Rattle.std.specs.List.{list_any}
use Rattle.std.specs.Str.{bytes_eq}
use Rattle.std.proofs.lemmas.Bool.{or_left}
use Rattle.std.proofs.lemmas.List.{take-append-drop, take-map, drop_all, drop-append-le, length_push}
use Rattle.std.proofs.lemmas.List.Folds.{list_any-append}
use Rattle.std.specs.Str.{str_to_ascii_lowercase}
use Rattle.deb_control.specs.Fields.{FieldText, has_name, is_among, names_in, IsNameSet}

-- a name is among the names of fields where one of the fields has it
pub is_among-names_in : (name : List ℕ) (fields : List FieldText) → is_among (str_to_ascii_lowercase name) (names_in fields) ≡ list_any (has_name name) fields
is_among-names_in name [] = refl
is_among-names_in name (field ∷ fields) = ap (λ (b : Bool). has_name name field || b) (is_among-names_in name fields)

-- among the first few, or among the later ones
is_among-split : (few : ℕ) (name : List ℕ) (fields : List FieldText)
    → is_among (str_to_ascii_lowercase name) (names_in fields) ≡ (list_any (has_name name) (take few fields) || is_among (str_to_ascii_lowercase name) (drop few (names_in fields)))
is_among-split few name fields =
    ap (is_among (str_to_ascii_lowercase name)) (sym (take-append-drop few (names_in fields)))
    ∙ list_any-append (λ (other : List ℕ). bytes_eq other (str_to_ascii_lowercase name)) (take few (names_in fields)) (drop few (names_in fields))
    ∙ ap (λ (v : List (List ℕ)). is_among (str_to_ascii_lowercase name) v || is_among (str_to_ascii_lowercase name) (drop few (names_in fields))) (take-map (λ (field : FieldText). str_to_ascii_lowercase field.name) few fields)
    ∙ ap (λ (b : Bool). b || is_among (str_to_ascii_lowercase name) (drop few (names_in fields))) (is_among-names_in name (take few fields))

-- a name is among the first few names where one of the first few fields has it
pub is_among-take : (few : ℕ) (name : List ℕ) (fields : List FieldText) → is_among (str_to_ascii_lowercase name) (take few (names_in fields)) ≡ list_any (has_name name) (take few fields)
is_among-take few name fields =
    ap (is_among (str_to_ascii_lowercase name)) (take-map (λ (field : FieldText). str_to_ascii_lowercase field.name) few fields) ∙ is_among-names_in name (take few fields)

-- a name that is none of all is none of the first few
pub is_among-few : (few : ℕ) (name : List ℕ) (names : List (List ℕ)) → is_among name names ≡ false → is_among name (take few names) ≡ false
is_among-few few name names none =
    neither _ _
    (sym (list_any-append (λ (other : List ℕ). bytes_eq other name) (take few names) (drop few names))
    ∙ ap (is_among name) (take-append-drop few names) ∙ none)
  where
    neither : (a b : Bool) → (a || b) ≡ false → a ≡ false
    neither true b e = e
    neither false b e = refl

pub is_among-first : (few : ℕ) (name : List ℕ) (fields : List FieldText) → list_any (has_name name) (take few fields) ≡ true → is_among (str_to_ascii_lowercase name) (names_in fields) ≡ true
is_among-first few name fields first = is_among-split few name fields ∙ or_left _ _ first

pub is_among-later : (few : ℕ) (name : List ℕ) (fields : List FieldText) (test : List ℕ → Bool) → list_any (has_name name) (take few fields) ≡ false
    → IsNameSet test (drop few (names_in fields)) → test (str_to_ascii_lowercase name) ≡ is_among (str_to_ascii_lowercase name) (names_in fields)
is_among-later few name fields test first knows =
    knows (str_to_ascii_lowercase name)
    ∙ sym (is_among-split few name fields ∙ ap (λ (b : Bool). b || is_among (str_to_ascii_lowercase name) (drop few (names_in fields))) first)

-- while there are few names, the test knows of none
pub IsNameSet-few : (few : ℕ) (test : List ℕ → Bool) (names : List (List ℕ)) (name : List ℕ) → length names < few
    → IsNameSet test (drop few names) → IsNameSet test (drop few (names ++ name ∷ []))
IsNameSet-few few test names name fewer knows other =
    knows other
    ∙ ap (is_among other) (drop_all few names (omega arith))
    ∙ sym (ap (is_among other) (drop_all few (names ++ name ∷ []) (omega (arith, length_push names name))))

last_name : (other name : List ℕ) (names : List (List ℕ)) → is_among other (names ++ name ∷ []) ≡ cond (bytes_eq name other) true (is_among other names)
last_name other name names = list_any-append (λ (v : List ℕ). bytes_eq v other) names (name ∷ []) ∙ either (is_among other names) (bytes_eq name other)
  where
    either : (a b : Bool) → (a || (b || false)) ≡ cond b true a
    either true true = refl
    either true false = refl
    either false true = refl
    either false false = refl

-- past that, a test that has learned the new name knows it
pub IsNameSet-later : (few : ℕ) (old new : List ℕ → Bool) (names : List (List ℕ)) (name text : List ℕ) → few ≤ length names → text ≡ name
    → IsNameSet old (drop few names) → ((other : List ℕ) → new other ≡ cond (bytes_eq text other) true (old other)) → IsNameSet new (drop few (names ++ name ∷ []))
IsNameSet-later few old new names name text more is knows learned other =
    learned other
    ∙ ap (λ (v : List ℕ). cond (bytes_eq v other) true (old other)) is
    ∙ ap (λ (b : Bool). cond (bytes_eq name other) true b) (knows other)
    ∙ sym (ap (is_among other) (drop-append-le few names (name ∷ []) more) ∙ last_name other name (drop few names))

-- what holds holds where memory ran out
pub where-any : {T E : Type 0} {Q : Type 0} (r : Result T E) → Q → IfErr r (λ _. Q)
where-any (Ok x) q = tt
where-any (Err e) q = q

-- what holds holds where memory ran out, whatever a fault is asked
pub where-fault : {T E : Type 0} {Q : Type 0} (P : E → Type 0) (r : Result T E) → Q → IfErr r (λ fault. P fault → Q)
where-fault P (Ok x) q = tt
where-fault P (Err e) q = λ _. q

-- a name that was added was none of those before
pub was-new : (new among : Bool) → new ≡ not among → new ≡ true → among ≡ false
was-new new true is added = sym added ∙ is
was-new new false is added = refl
