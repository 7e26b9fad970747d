use Rattle.std.proofs.Common.{◌≡◌, ℕ, [], ◌∷◌, map, refl, sym, ap, ap₂, ◌∙◌}
use Rattle.std.specs.Fmt.{digits}
use Rattle.wb_sql.specs.Tables.{scratch_source, source_name}
use Rattle.wb_sql.specs.Among.{index_at}
use Rattle.wb_sql.specs.Recognition.{indexes_of}
use Rattle.wb_sql.specs.Among.{indexes_on, treeless}
use Rattle.wb_sql.proofs.RecognitionLemmas.{indexed_by, indexes_of_found, found_of}
use Rattle.wb_sql.proofs.recognition.has_sources.Goals as goal

pub returns-in_default : goal.returns-in_default
returns-in_default c = record { value = (λ no. absurd (cc), λ h. absurd (c.in_default.ensures.value _ (found_of c.args.schema.now scratch_source h.has))) }

pub returns-then-is_scratch_source : goal.returns-then-is_scratch_source
unfolding digits
returns-then-is_scratch_source c =
    let table = c.in-Some.table.now in
    let tree : ℕ = table.tree in
    let these : indexes_of tree (c.index_on.result ∷ []) ≡ map (index_at 0 tree) (source_name ∷ []) = (ap₂ ◌∷◌ (c.index_on.ensures.value tree) refl) in
    let is = c.is_scratch_source.ensures.value.0 c.if-is_scratch_source.true in
    let at_slice = ap (λ indexes. map treeless (indexes_on tree indexes)) (sym c.as_slice.ensures) in
    record {
      value = (
        λ yes. indexed_by c.args.schema.now scratch_source table _ c.in-Some.ensures.value is (at_slice ∙ (c.are_indexes.ensures.value.0 yes ∙ these)),
        λ h. c.are_indexes.ensures.value.1 (sym at_slice ∙ (indexes_of_found c.args.schema.now scratch_source table _ c.in-Some.ensures.value h ∙ sym these)),
      );
    }
