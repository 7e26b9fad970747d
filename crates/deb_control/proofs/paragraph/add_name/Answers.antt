use Rattle.std.proofs.Common.{◌≡◌, ◌≤◌, ◌<◌, ◌∙◌, sym, ap, arith, true, false, length, take, ℕ, List}
use Rattle.std.specs.Prelude.{not, string_bytes}
use Rattle.std.specs.List.{list_any}
use Rattle.std.specs.BTreeSet.{contains_text}
use Rattle.std.proofs.lemmas.Bool.{OnTrue_from}
use Rattle.std.proofs.lemmas.List.{length-map}
use Rattle.std.proofs.lemmas.Map.Text.{btree_set_updates_text}
use Rattle.std.specs.Str.{str_to_ascii_lowercase}
use Rattle.deb_control.specs.Fields.{FieldText, has_name, names_in}
use Rattle.deb_control.proofs.NameLemmas.{is_among-names_in, is_among-take, is_among-first, is_among-later, IsNameSet-few, IsNameSet-later, where-any}
use Rattle.deb_control.proofs.paragraph.add_name.Goals as goal

pub returns-then-fields-lt-COMPARED_NAMES-clause-value : goal.returns-then-fields-lt-COMPARED_NAMES-clause-value
returns-then-fields-lt-COMPARED_NAMES-clause-value c = ap not (c.is_name_of_any.ensures ∙ sym (is_among-names_in c.args.name.now c.args.fields.now))

pub returns-then-fields-lt-COMPARED_NAMES-clause-known : goal.returns-then-fields-lt-COMPARED_NAMES-clause-known
returns-then-fields-lt-COMPARED_NAMES-clause-known c =
    let fewer : length (names_in c.args.fields.now) < 32 = omega (arith, length-map c.args.fields.now (λ (field : FieldText). str_to_ascii_lowercase field.name)) in
    OnTrue_from _ _ (λ _. IsNameSet-few 32 (contains_text c.args.later.now) (names_in c.args.fields.now) (str_to_ascii_lowercase c.args.name.now) fewer c.requires)

pub returns-then-is_name_of_any-clause-value : goal.returns-then-is_name_of_any-clause-value
returns-then-is_name_of_any-clause-value c =
    let first : list_any (has_name c.args.name.now) (take 32 c.args.fields.now) ≡ true = sym c.is_name_of_any-2.ensures ∙ c.if-is_name_of_any.true in
    sym (ap not (is_among-first 32 c.args.name.now c.args.fields.now first))

pub returns-clause-value : goal.returns-clause-value
returns-clause-value c =
    let first : list_any (has_name c.args.name.now) (take 32 c.args.fields.now) ≡ false = sym c.is_name_of_any-2.ensures ∙ c.if-is_name_of_any.false in
    c.in_ok-new.ensures.added
    ∙ ap (λ (v : List ℕ). not (contains_text c.args.later.now v)) c.in_ok-lower_name.ensures
    ∙ ap not (is_among-later 32 c.args.name.now c.args.fields.now (contains_text c.args.later.now) first c.requires)

pub returns-clause-known : goal.returns-clause-known
returns-clause-known c =
    let more : 32 ≤ length (names_in c.args.fields.now) = omega (arith, length-map c.args.fields.now (λ (field : FieldText). str_to_ascii_lowercase field.name)) in
    OnTrue_from _ _ (λ _.
    IsNameSet-later 32 (contains_text c.args.later.now) (contains_text c.insert.new.self) (names_in c.args.fields.now) (str_to_ascii_lowercase c.args.name.now)
    (string_bytes c.in_ok-lower_name.field-0) more c.in_ok-lower_name.ensures c.requires
    (btree_set_updates_text (string_bytes c.in_ok-lower_name.field-0) c.args.later.now c.insert.new.self true c.in_ok-new.ensures.updates))

pub returns-in_err-lower_name-clause-memory : goal.returns-in_err-lower_name-clause-memory
returns-in_err-lower_name-clause-memory c =
    where-any _ (is_among-take 32 c.args.name.now c.args.fields.now ∙ sym c.is_name_of_any-2.ensures ∙ c.if-is_name_of_any.false)

pub returns-in_err-new-clause-memory : goal.returns-in_err-new-clause-memory
returns-in_err-new-clause-memory c =
    where-any _ (is_among-take 32 c.args.name.now c.args.fields.now ∙ sym c.is_name_of_any-2.ensures ∙ c.if-is_name_of_any.false)
