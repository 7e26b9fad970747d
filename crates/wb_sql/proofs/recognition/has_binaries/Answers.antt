use Rattle.std.proofs.Common.{◌≡◌, ℕ, [], ◌∷◌, map, refl, sym, ap, ap₂, ◌∙◌}
use Rattle.std.specs.Fmt.{digits}
use Rattle.wb_sql.specs.Tables.{scratch_binary, binary_source, binary_name}
use Rattle.wb_sql.specs.Among.{index_at}
use Rattle.wb_sql.specs.Recognition.{indexes_of}
use Rattle.wb_sql.specs.Among.{indexes_on, treeless}
use Rattle.wb_sql.proofs.RecognitionLemmas.{indexed_by, indexes_of_found, found_of}
use Rattle.wb_sql.proofs.recognition.has_binaries.Goals as goal

pub returns-in_default : goal.returns-in_default
returns-in_default c = record { value = (λ no. absurd (cc), λ h. absurd (c.in_default.ensures.value _ (found_of c.args.schema.now scratch_binary h.has))) }

pub returns-then-is_scratch_binary : goal.returns-then-is_scratch_binary
unfolding digits
returns-then-is_scratch_binary c =
    let table = c.in-Some.table.now in
    let tree : ℕ = table.tree in
    let these : indexes_of tree (c.index_on.result ∷ (c.index_on-2.result ∷ [])) ≡ map (index_at 0 tree) (binary_source ∷ binary_name ∷ []) = (ap₂ ◌∷◌ (c.index_on.ensures.value tree) (ap₂ ◌∷◌ (c.index_on-2.ensures.value tree) refl)) in
    let is = c.is_scratch_binary.ensures.value.0 c.if-is_scratch_binary.true in
    let at_slice = ap (λ indexes. map treeless (indexes_on tree indexes)) (sym c.as_slice.ensures) in
    record {
      value = (
        λ yes. indexed_by c.args.schema.now scratch_binary table _ c.in-Some.ensures.value is (at_slice ∙ (c.are_indexes.ensures.value.0 yes ∙ these)),
        λ h. c.are_indexes.ensures.value.1 (sym at_slice ∙ (indexes_of_found c.args.schema.now scratch_binary table _ c.in-Some.ensures.value h ∙ sym these)),
      );
    }
