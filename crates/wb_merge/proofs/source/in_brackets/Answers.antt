use Rattle.std.proofs.Common.{◌∙◌, sym, ap, lit<, None, Some, option_copied}
use Rattle.std.proofs.lemmas.Str.Pattern.{strip_prefix_char, strip_suffix_char}
use Rattle.wb_merge.proofs.SourceLemmas.{not_opened, opened}
use Rattle.wb_merge.proofs.source.in_brackets.Goals as goal

pub returns-in_err-strip_prefix : goal.returns-in_err-strip_prefix
returns-in_err-strip_prefix c =
    ap option_copied c.from_residual.ensures
    ∙ sym (not_opened c.args.text.now (strip_prefix_char 40 c.args.text.now None c.in_err-strip_prefix.ensures.cases (lit< tt)))

pub returns : goal.returns
returns c =
    opened c.args.text.now c.in_ok-strip_prefix.field-0.now c.strip_suffix.result
    (strip_prefix_char 40 c.args.text.now (Some c.in_ok-strip_prefix.field-0) c.in_ok-strip_prefix.ensures.cases (lit< tt))
    (strip_suffix_char 41 c.in_ok-strip_prefix.field-0.now c.strip_suffix.result c.strip_suffix.ensures.cases (lit< tt))
