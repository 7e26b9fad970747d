use Rattle.std.proofs.Common.{◌≡◌, Bool, true, false, ◌||◌, List, [], ◌∷◌, ℕ, refl, ap, sym, ◌∙◌}
use Rattle.std.specs.List.{list_any}
use Rattle.std.proofs.lemmas.List.Folds.{list_any-append}
use Rattle.sqlite_schema.specs.Names.{same_name}
use Rattle.sqlite_schema.specs.declared.schema.Index.{Index}
use Rattle.wb_sql.specs.Among.{names_either, is_office_name}
use Rattle.wb_sql.specs.Tables.{keys, record_order, record_take, source_name, binary_source, binary_name, state_order}
use Rattle.wb_sql.proofs.beside.is_office_name.Goals.{then-names_either, else-names_either}
use Rattle.wb_sql.proofs.beside.is_office_name.Goals as goal

abbrev other_indexes : List Index
other_indexes = record_order ∷ record_take ∷ source_name ∷ binary_source ∷ binary_name ∷ state_order ∷ []

abbrev is_any : List ℕ → List Index → Bool
is_any name = list_any (λ index. same_name index.name name)

-- the names are those of the tables, of the indexes of their keys and of their other indexes
three_parts : (name : List ℕ) → is_office_name name ≡ (names_either name || (is_any name keys || is_any name other_indexes))
three_parts name = ap (λ b. names_either name || b) (list_any-append (λ index. same_name index.name name) keys other_indexes)

-- one of the first two parts is true
one_of_two : (a b c : Bool) → (a || b) ≡ true → (a || b) ≡ (a || (b || c))
one_of_two true b c so = refl
one_of_two false true c so = refl
one_of_two false false c so = absurd (cc)

-- neither of the first two parts is
the_third : (a b c : Bool) → (a || b) ≡ false → c ≡ (a || (b || c))
the_third true b c so = absurd (cc)
the_third false true c so = absurd (cc)
the_third false false c so = refl

-- the value of the first two parts
left_is : (a b value : Bool) → a ≡ true → value ≡ true → value ≡ (a || b)
left_is a b value here is = is ∙ sym (ap (λ x. x || b) here)

right_is : (a b value : Bool) → a ≡ false → value ≡ b → value ≡ (a || b)
right_is a b value not_here is = is ∙ sym (ap (λ x. x || b) not_here)

pub returns-then-names_key : goal.returns-then-names_key
returns-then-names_key c =
    let name = c.args.name.now in
    let is : c.if-names_either.value ≡ (names_either name || is_any name keys) =
    elim c.if-names_either.branch [
      | then-names_either w ↦ left_is _ _ _ (sym c.names_either.ensures.value ∙ w.if-names_either.true) (w.value-is ∙ w.if-names_either.true)
      | else-names_either w ↦ right_is _ _ _ (sym c.names_either.ensures.value ∙ w.if-names_either.false) (w.value-is ∙ w.names_key.ensures.value)
    ] in
    record { value = is ∙ (one_of_two (names_either name) (is_any name keys) (is_any name other_indexes) (sym is ∙ c.if-names_key.true) ∙ sym (three_parts name)) }

pub returns-else-names_key : goal.returns-else-names_key
returns-else-names_key c =
    let name = c.args.name.now in
    let is : c.if-names_either.value ≡ (names_either name || is_any name keys) =
    elim c.if-names_either.branch [
      | then-names_either w ↦ left_is _ _ _ (sym c.names_either.ensures.value ∙ w.if-names_either.true) (w.value-is ∙ w.if-names_either.true)
      | else-names_either w ↦ right_is _ _ _ (sym c.names_either.ensures.value ∙ w.if-names_either.false) (w.value-is ∙ w.names_key.ensures.value)
    ] in
    record { value = c.names_index.ensures.value ∙ (the_third (names_either name) (is_any name keys) (is_any name other_indexes) (sym is ∙ c.if-names_key.false) ∙ sym (three_parts name)) }
