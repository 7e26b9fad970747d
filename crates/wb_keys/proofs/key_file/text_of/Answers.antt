-- What `from_utf8` tells, as a test.
use Rattle.std.proofs.lemmas.Str.{is_utf8-from_IsUtf8}
use Rattle.wb_keys.proofs.FileLemmas.{is_utf8-false}
use Rattle.wb_keys.proofs.key_file.text_of.Goals as goal

pub returns-in-Ok-clause-value : goal.returns-in-Ok-clause-value
returns-in-Ok-clause-value c =
    let told = c.in-Ok.ensures.cases in
    (told.0, is_utf8-from_IsUtf8 c.args.line.now told.1)

pub returns-in-Err-clause-refused : goal.returns-in-Err-clause-refused
returns-in-Err-clause-refused c = λ _. is_utf8-false c.args.line.now c.in-Err.ensures.cases.0
