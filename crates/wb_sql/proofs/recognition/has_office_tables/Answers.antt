use Rattle.std.proofs.Common.{sym, ◌∙◌}
use Rattle.wb_sql.proofs.RecognitionLemmas.{office_of}
use Rattle.wb_sql.proofs.recognition.has_office_tables.Goals.{then-has_own_tables, else-has_own_tables}
use Rattle.wb_sql.proofs.recognition.has_office_tables.Goals as goal

pub returns-then-are_unreferred : goal.returns-then-are_unreferred
returns-then-are_unreferred c =
    record {
      value = (
        λ yes. elim c.if-has_own_tables.branch [
          | then-has_own_tables w ↦
              let own = c.has_own_tables.ensures.value.0 w.if-has_own_tables.true in
              office_of c.args.schema.now own.0 own.1 (sym w.are_unreferred.ensures.value ∙ (sym w.value-is ∙ c.if-are_unreferred.true)) (sym c.are_quiet.ensures.value ∙ yes)
          | else-has_own_tables w ↦ absurd (cc)
        ],
        λ h. c.are_quiet.ensures.value ∙ h.quiet,
      );
    }
