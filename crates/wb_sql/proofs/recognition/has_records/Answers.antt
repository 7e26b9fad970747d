use Rattle.std.proofs.Common.{◌≡◌, ℕ, [], ◌∷◌, map, refl, sym, ap, ap₂, ◌∙◌}
use Rattle.std.specs.Fmt.{digits}
use Rattle.sqlite_catalog.specs.Listing.{automatic}
use Rattle.wb_sql.specs.Tables.{source_record, record_order, record_take}
use Rattle.wb_sql.specs.Among.{index_at}
use Rattle.wb_sql.specs.Recognition.{indexes_of}
use Rattle.wb_sql.specs.Among.{indexes_on, treeless}
use Rattle.wb_sql.proofs.RecognitionLemmas.{indexed_by, indexes_of_found, found_of}
use Rattle.wb_sql.proofs.recognition.has_records.Goals as goal

pub returns-in_default : goal.returns-in_default
returns-in_default c = record { value = (λ no. absurd (cc), λ h. absurd (c.in_default.ensures.value _ (found_of c.args.schema.now source_record h.has))) }

pub returns-then-is_source_record : goal.returns-then-is_source_record
unfolding digits
returns-then-is_source_record c =
    let table = c.in-Some.table.now in
    let tree : ℕ = table.tree in
    let these : indexes_of tree (c.key_on.result ∷ (c.index_on.result ∷ (c.index_on-2.result ∷ []))) ≡ map (index_at 0 tree) (automatic source_record 0 (1 ∷ 2 ∷ []) 6 ∷ record_order ∷ record_take ∷ []) = (ap₂ ◌∷◌ (c.key_on.ensures.value tree) (ap₂ ◌∷◌ (c.index_on.ensures.value tree) (ap₂ ◌∷◌ (c.index_on-2.ensures.value tree) refl))) in
    let is = c.is_source_record.ensures.value.0 c.if-is_source_record.true in
    let at_slice = ap (λ indexes. map treeless (indexes_on tree indexes)) (sym c.as_slice.ensures) in
    record {
      value = (
        λ yes. indexed_by c.args.schema.now source_record table _ c.in-Some.ensures.value is (at_slice ∙ (c.are_indexes.ensures.value.0 yes ∙ these)),
        λ h. c.are_indexes.ensures.value.1 (sym at_slice ∙ (indexes_of_found c.args.schema.now source_record table _ c.in-Some.ensures.value h ∙ sym these)),
      );
    }
