use Rattle.std.proofs.Common.{◌∙◌, sym, ap}
use Rattle.std.proofs.lemmas.Str.{is_utf8-from_IsUtf8}
use Rattle.serde_json.specs.Read.{read}
use Rattle.wb_api.proofs.Utf8Lemmas.{is_utf8-false, json_of-other, json_of-text}
use Rattle.wb_api.proofs.command.json_of.Goals as goal

pub returns-in_default-clause-value : goal.returns-in_default-clause-value
returns-in_default-clause-value c = sym (json_of-other c.args.bytes.now (is_utf8-false c.args.bytes.now c.in_default.ensures.cases.0))

pub returns-in-Ok-from_str-clause-value : goal.returns-in-Ok-from_str-clause-value
returns-in-Ok-from_str-clause-value c =
    let text = c.in-Ok.ensures.cases in
    sym (json_of-text c.args.bytes.now (is_utf8-from_IsUtf8 c.args.bytes.now text.1) ∙ ap read (sym text.0) ∙ c.in-Ok-from_str.ensures.ok)

pub returns-in-Ok-from_str-clause-text : goal.returns-in-Ok-from_str-clause-text
returns-in-Ok-from_str-clause-text c = is_utf8-from_IsUtf8 c.args.bytes.now c.in-Ok.ensures.cases.1

pub returns-then-is_memory-clause-memory : goal.returns-then-is_memory-clause-memory
returns-then-is_memory-clause-memory c = is_utf8-from_IsUtf8 c.args.bytes.now c.in-Ok.ensures.cases.1

pub returns-else-is_memory-clause-value : goal.returns-else-is_memory-clause-value
returns-else-is_memory-clause-value c =
    let text = c.in-Ok.ensures.cases in
    let other = c.in-Err.ensures.err (λ m. let yes = c.is_memory.ensures.1 m in cc (c.if-is_memory.false, yes)) in
    sym (json_of-text c.args.bytes.now (is_utf8-from_IsUtf8 c.args.bytes.now text.1) ∙ ap read (sym text.0) ∙ other)
