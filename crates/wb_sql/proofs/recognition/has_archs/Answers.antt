use Rattle.std.proofs.Common.{◌≡◌, ℕ, [], ◌∷◌, map, refl, sym, ap, ap₂, ◌∙◌}
use Rattle.std.specs.Fmt.{digits}
use Rattle.sqlite_catalog.specs.Listing.{automatic}
use Rattle.wb_sql.specs.Tables.{arch}
use Rattle.wb_sql.specs.Among.{index_at}
use Rattle.wb_sql.specs.Recognition.{indexes_of}
use Rattle.wb_sql.specs.Among.{indexes_on, treeless}
use Rattle.wb_sql.proofs.RecognitionLemmas.{indexed_by, indexes_of_found, found_of}
use Rattle.wb_sql.proofs.recognition.has_archs.Goals as goal

pub returns-in_default : goal.returns-in_default
returns-in_default c = record { value = (λ no. absurd (cc), λ h. absurd (c.in_default.ensures.value _ (found_of c.args.schema.now arch h.has))) }

pub returns-then-is_arch : goal.returns-then-is_arch
unfolding digits
returns-then-is_arch c =
    let table = c.in-Some.table.now in
    let tree : ℕ = table.tree in
    let these : indexes_of tree (c.key_on.result ∷ []) ≡ map (index_at 0 tree) (automatic arch 0 (1 ∷ []) 2 ∷ []) = (ap₂ ◌∷◌ (c.key_on.ensures.value tree) refl) in
    let is = c.is_arch.ensures.value.0 c.if-is_arch.true in
    let at_slice = ap (λ indexes. map treeless (indexes_on tree indexes)) (sym c.as_slice.ensures) in
    record {
      value = (
        λ yes. indexed_by c.args.schema.now arch table _ c.in-Some.ensures.value is (at_slice ∙ (c.are_indexes.ensures.value.0 yes ∙ these)),
        λ h. c.are_indexes.ensures.value.1 (sym at_slice ∙ (indexes_of_found c.args.schema.now arch table _ c.in-Some.ensures.value h ∙ sym these)),
      );
    }
