-- The first field has the name, and one behind it has it too, or none has.
use Rattle.wb_streams.proofs.FieldLemmas.{only_of-first, only_of-second}
use Rattle.wb_streams.proofs.fields.+only_value.Goals as goal

pub returns-then-has_field : goal.returns-then-has_field
returns-then-has_field t c = record {
  value = only_of-second _ _ _ c.in-len1-up.len_at_least c.if-is_named.ensures.value c.if-has_field.ensures.value;
}

pub returns-else-has_field : goal.returns-else-has_field
returns-else-has_field t c = record {
  value = only_of-first _ _ _ c.in-len1-up.len_at_least c.if-is_named.ensures.value c.if-has_field.ensures.value;
}
