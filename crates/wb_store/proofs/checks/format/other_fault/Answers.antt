use Rattle.std.proofs.Common.{refl, subst}
use Rattle.wb_sql.specs.Format.{HasFormatColumn}
use Rattle.wb_store.specs.Formats.{IsFaultOfFormats}
use Rattle.wb_store.proofs.FormatLemmas.{told_by_failure, told_by_rows}
use Rattle.wb_store.proofs.checks.format.other_fault.Goals as goal

pub returns-in-Ok : goal.returns-in-Ok
returns-in-Ok g c =
    let has = subst HasFormatColumn c.schema.ensures.value (c.if-not-has_format_column.ensures.value.0 refl) in
    let fault = c.fault_of_formats.result in
    record {
      tells = told_by_rows c.office_format.ensures refl has fault c.in-Ok.ensures.reads (subst (λ rows. IsFaultOfFormats rows fault) c.deref.ensures.value c.fault_of_formats.ensures.value);
    }

pub returns-in-Err : goal.returns-in-Err
returns-in-Err g c =
    let has = subst HasFormatColumn c.schema.ensures.value (c.if-not-has_format_column.ensures.value.0 refl) in
    record { tells = told_by_failure c.office_format.ensures refl has c.in-Err.fault c.in-Err.ensures.reads }
