use Rattle.std.proofs.Common.{◌≡◌, ℕ, Bool, true, false, not, Option, None, Some, slice_get, option_and_then, is_some, codes, ap, sym, ◌∙◌}
use Rattle.std.proofs.lemmas.Bool.{and_right}
use Rattle.std.proofs.lemmas.Iterator.Adapters.{position_from-zero}
use Rattle.std.proofs.lemmas.List.Quantifiers.{position-Some}
use Rattle.std.proofs.lemmas.Option.{slice_get-get_or}
use Rattle.sqlite.specs.Does.{lacks_sequence}
use Rattle.sqlite.specs.Schema.{Schema}
use Rattle.sqlite_schema.specs.Names.{same_name, table_named}
use Rattle.wb_sql.specs.Tables.{office}
use Rattle.wb_sql.proofs.beside.has_sequence.Goals as goal

-- a schema with the table of the counts does not lack it
not_lacking : (schema : Schema) (place : Option ℕ) (there : Bool) → place ≡ table_named schema (codes "sqlite_sequence") → there ≡ is_some place → there ≡ true → there ≡ not (lacks_sequence schema)
not_lacking schema None there named is so = absurd (cc)
not_lacking schema (Some at) there named is so =
    let within = (position-Some (λ t. same_name t.name (codes "sqlite_sequence")) schema.tables at office (position_from-zero (λ t. same_name t.name (codes "sqlite_sequence")) schema.tables ∙ sym named)).0 in
    let found = ap (option_and_then (slice_get schema.tables)) (sym named) ∙ slice_get-get_or schema.tables at office within in
    let lacks : lacks_sequence schema ≡ false = and_right _ _ (ap (λ o. not (is_some o)) found) in
    so ∙ sym (ap not lacks)

pub returns-then-is_some : goal.returns-then-is_some
returns-then-is_some c = record { value = not_lacking c.args.schema.now c.table_named.result c.is_some.result c.table_named.ensures c.is_some.ensures c.if-is_some.true }
