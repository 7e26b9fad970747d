use Rattle.std.proofs.Common.{◌∙◌, sym, rules, tests}
use Rattle.std.proofs.lemmas.Iterator.{YieldsList-from_slice}
use Rattle.std.proofs.lemmas.Iterator.Search.{any_from_yields_List}
use Rattle.httparse.specs.Borrowed.{header_parts}
use Rattle.wb_streams.specs.Fields.{is_of_page}
use Rattle.wb_streams.proofs.FieldLemmas.{list_any-map}
use Rattle.wb_streams.proofs.fields.is_from_browser.Goals as goal

pub returns : goal.returns
returns c = record {
  value = any_from_yields_List (λ h. is_of_page (header_parts h)) _ _ _ c.any.ensures.ran
      (YieldsList-from_slice c.args.fields.now cc) (λ x b q k. search (rules, tests))
      ∙ sym (list_any-map is_of_page header_parts c.args.fields.now);
}
