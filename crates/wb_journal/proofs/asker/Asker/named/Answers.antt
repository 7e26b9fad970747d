use Rattle.std.proofs.Common.{ap, ◌∙◌}
use Rattle.std.specs.Str.{is_utf8}
use Rattle.std.proofs.lemmas.Str.{is_utf8-from_IsUtf8}
use Rattle.wb_journal.proofs.AskerLemmas.{front-kept}
use Rattle.wb_journal.proofs.asker.Asker.named.Goals as goal

pub invariant_of-result : goal.invariant_of-result
invariant_of-result c = (
  c.if-length-gt-NAME_LIMIT.false,
  ap is_utf8 (front-kept c.args.name.now c.copy_from_slice.new.self _
      (c.copy_from_slice.ensures.after ∙ c.as_bytes.ensures.value))
      ∙ is_utf8-from_IsUtf8 c.args.name.now c.utf8.name,
)
