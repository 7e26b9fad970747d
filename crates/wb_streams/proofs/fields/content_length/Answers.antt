use Rattle.std.proofs.Common.{◌∙◌, ◌≡◌, true, false, sym, rules, tests, map}
use Rattle.std.proofs.lemmas.Iterator.{YieldsList-from_slice}
use Rattle.std.proofs.lemmas.Iterator.Search.{all_from_yields_List}
use Rattle.httparse.specs.Borrowed.{header_parts}
use Rattle.wb_streams.specs.Fields.{agrees, content_length, is_same_number, values_of}
use Rattle.wb_streams.proofs.FieldLemmas.{first_is_digits, length_stated-none, length_stated-some, list_all-values_of}
use Rattle.wb_streams.proofs.fields.content_length.Goals as goal

pub returns-in_default : goal.returns-in_default
returns-in_default c =
    record { value = sym (length_stated-none (values_of content_length (map header_parts c.args.fields.now)) (sym c.in_default.ensures.value)) }

pub returns-then-not-all : goal.returns-then-not-all
returns-then-not-all c =
    let run = all_from_yields_List (λ h. agrees c.in-Some.first.now (header_parts h)) _ _ c.all.result c.all.ensures.ran (YieldsList-from_slice c.args.fields.now cc) (λ x b q k. search (rules, tests)) in
    let values = list_all-values_of (is_same_number c.in-Some.first.now) content_length c.args.fields.now in
    let no : c.all.result ≡ false = cc in
    record { value = sym (length_stated-some (values_of content_length (map header_parts c.args.fields.now)) c.in-Some.first.now false (sym c.in-Some.ensures.value) (values ∙ sym run ∙ no)) }

pub limited-requires : goal.limited-requires
limited-requires c =
    let run = all_from_yields_List (λ h. agrees c.in-Some.first.now (header_parts h)) _ _ c.all.result c.all.ensures.ran (YieldsList-from_slice c.args.fields.now cc) (λ x b q k. search (rules, tests)) in
    let values = list_all-values_of (is_same_number c.in-Some.first.now) content_length c.args.fields.now in
    let yes : c.all.result ≡ true = cc in
    first_is_digits (values_of content_length (map header_parts c.args.fields.now)) c.in-Some.first.now (sym c.in-Some.ensures.value) (values ∙ sym run ∙ yes)

pub returns : goal.returns
returns c =
    let run = all_from_yields_List (λ h. agrees c.in-Some.first.now (header_parts h)) _ _ c.all.result c.all.ensures.ran (YieldsList-from_slice c.args.fields.now cc) (λ x b q k. search (rules, tests)) in
    let values = list_all-values_of (is_same_number c.in-Some.first.now) content_length c.args.fields.now in
    let yes : c.all.result ≡ true = cc in
    record { value = c.limited.ensures.value ∙ sym (length_stated-some (values_of content_length (map header_parts c.args.fields.now)) c.in-Some.first.now true (sym c.in-Some.ensures.value) (values ∙ sym run ∙ yes)) }
