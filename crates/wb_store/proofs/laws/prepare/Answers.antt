use Rattle.std.proofs.Common.{refl, subst, sym}
use Rattle.std.proofs.lemmas.Bool.{both_ways}
use Rattle.wb_sql.specs.Among.{HasOffice, LacksOffice}
use Rattle.wb_sql.specs.Upgrading.{HasFirstOffice}
use Rattle.wb_store.proofs.RefusalLemmas.{first_brought, found_office, made_and_tested, none_made, other_refused}
use Rattle.wb_store.proofs.laws.prepare.Goals as goal

pub returns-then-has_office_tables : goal.returns-then-has_office_tables
returns-then-has_office_tables g c =
    record { prepares = found_office c.check.result c.requires.idle (subst HasOffice c.schema.ensures.value (c.if-has_office_tables.ensures.value.0 refl)) c.check.ensures.checks }

pub returns-then-has_first_office_tables : goal.returns-then-has_first_office_tables
returns-then-has_first_office_tables g c =
    record { prepares = first_brought (subst HasFirstOffice c.schema-2.ensures.value (c.if-has_first_office_tables.ensures.value.0 refl)) c.bring_over.result c.bring_over.ensures.brings }

pub returns-then-not-lacks_office : goal.returns-then-not-lacks_office
returns-then-not-lacks_office g c =
    record {
      prepares = other_refused c.other_fault.result c.requires.idle (λ lacks. both_ways _ refl (c.if-not-lacks_office.ensures.value.1 (subst LacksOffice (sym c.schema-3.ensures.value) lacks)))
          (λ office. both_ways _ refl (c.if-has_office_tables.ensures.value.1 (subst HasOffice (sym c.schema.ensures.value) office)))
          (λ first. both_ways _ refl (c.if-has_first_office_tables.ensures.value.1 (subst HasFirstOffice (sym c.schema-2.ensures.value) first))) c.other_fault.ensures.tells;
    }

pub returns-in-Ok : goal.returns-in-Ok
returns-in-Ok g c =
    record {
      prepares = made_and_tested (subst LacksOffice c.schema-3.ensures.value (c.if-not-lacks_office.ensures.value.0 refl)) c.schema.ensures.live c.check-in-Ok.result c.in-Ok.ensures.makes
          c.check-in-Ok.ensures.checks;
    }

pub returns-in-Err : goal.returns-in-Err
returns-in-Err g c =
    record {
      prepares = none_made (subst LacksOffice c.schema-3.ensures.value (c.if-not-lacks_office.ensures.value.0 refl)) c.schema.ensures.live c.fault_of.ensures.value c.in-Err.ensures.makes;
    }
