use Rattle.std.proofs.Common.{Bor, List, ℕ, ◌∙◌, sym, ap, rules, tests, option_map}
use Rattle.std.proofs.lemmas.Iterator.{YieldsList-from_slice}
use Rattle.std.proofs.lemmas.Iterator.Search.{find_from_yields_List}
use Rattle.httparse.specs.Borrowed.{header_parts}
use Rattle.httparse.specs.declared.borrowed.Header.{Header}
use Rattle.wb_streams.specs.Fields.{is_named}
use Rattle.wb_streams.proofs.FieldLemmas.{first_of-values_of}
use Rattle.wb_streams.proofs.fields.first_value.Goals as goal

pub returns-in_err-field : goal.returns-in_err-field
returns-in_err-field c =
    let found = find_from_yields_List (λ h. is_named c.args.name.now (header_parts h)) _ _ c.find.result c.find.ensures.ran (YieldsList-from_slice c.args.fields.now cc) (λ x b q k. search (rules, tests)) in
    let values = first_of-values_of c.args.name.now c.args.fields.now in
    record { value = ap (option_map (λ (v : Bor (List ℕ)). v.now)) c.from_residual.ensures ∙ sym (values ∙ ap (option_map (λ (h : Header). h.value.now)) (sym found ∙ ap (option_map (λ y. y.now)) c.in_err-field.was)) }

pub returns : goal.returns
returns c =
    let found = find_from_yields_List (λ h. is_named c.args.name.now (header_parts h)) _ _ c.find.result c.find.ensures.ran (YieldsList-from_slice c.args.fields.now cc) (λ x b q k. search (rules, tests)) in
    let values = first_of-values_of c.args.name.now c.args.fields.now in
    record { value = sym (values ∙ ap (option_map (λ (h : Header). h.value.now)) (sym found ∙ ap (option_map (λ y. y.now)) c.in_ok-field.was)) }
