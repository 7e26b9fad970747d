use Rattle.std.proofs.Common.{◌≡◌, Some, slice_get, length, refl, sym, subst, rules, arith}
use Rattle.std.proofs.lemmas.Grind.{common_steps}
use Rattle.std.proofs.lemmas.Option.{slice_get_read}
use Rattle.sqlite_schema.specs.Names.{table_named}
use Rattle.wb_sql.specs.Recognition.{IsAlone}
use Rattle.wb_sql.proofs.RecognitionLemmas.{found, alone_if_found}
use Rattle.wb_sql.proofs.beside.find_table.Goals as goal

pub returns-then-is_alone : goal.returns-then-is_alone
returns-then-is_alone c =
    let named : table_named c.args.schema.now c.args.name.now ≡ Some c.in_ok-at.at = search rules in
    let listed : slice_get c.args.schema.now.tables c.in_ok-at.at ≡ Some c.in_ok-table.table.now =
    slice_get_read c.args.schema.now.tables (length c.args.schema.now.tables) c.in_ok-at.at c.in_ok-table.table.now refl (grind (arith, common_steps)) (grind (arith, common_steps)) in
    let alone : IsAlone c.args.schema.now.tables c.in_ok-table.table.now.tree =
    subst (λ tables. IsAlone tables c.in_ok-table.table.now.tree) c.as_slice-tables.ensures (c.is_alone.ensures.value.0 c.if-is_alone.true) in
    record { value = found c.args.schema.now c.args.name.now c.in_ok-at.at c.in_ok-table.table.now named listed alone }

pub returns-else-is_alone : goal.returns-else-is_alone
returns-else-is_alone c =
    let named : table_named c.args.schema.now c.args.name.now ≡ Some c.in_ok-at.at = search rules in
    let listed : slice_get c.args.schema.now.tables c.in_ok-at.at ≡ Some c.in_ok-table.table.now =
    slice_get_read c.args.schema.now.tables (length c.args.schema.now.tables) c.in_ok-at.at c.in_ok-table.table.now refl (grind (arith, common_steps)) (grind (arith, common_steps)) in
    record {
      value = λ other f.
          let alone : IsAlone c.args.schema.now.tables c.in_ok-table.table.now.tree =
          alone_if_found c.args.schema.now c.args.name.now c.in_ok-at.at c.in_ok-table.table.now other named listed f in
          let yes = c.is_alone.ensures.value.1 (subst (λ tables. IsAlone tables c.in_ok-table.table.now.tree) (sym c.as_slice-tables.ensures) alone) in
          absurd (cc);
    }
