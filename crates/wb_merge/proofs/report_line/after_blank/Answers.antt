use Rattle.std.proofs.Common.{lit<, None, Some}
use Rattle.std.proofs.lemmas.Str.Pattern.{strip_prefix_char}
use Rattle.deb_control.proofs.BlankLemmas.{AfterBlank, after_space, after_tab}
use Rattle.wb_merge.proofs.report_line.after_blank.Goals as goal

pub returns-in-Some : goal.returns-in-Some
returns-in-Some c =
    let is : AfterBlank c.args.text.now (Some c.in-Some.rest) =
    after_space c.args.text.now c.in-Some.rest (strip_prefix_char 32 c.args.text.now (Some c.in-Some.rest) c.in-Some.ensures.cases (lit< tt)) in
    record { none = is.none; some = is.some; rest = is.rest }

pub returns-in-None : goal.returns-in-None
returns-in-None c =
    let is : AfterBlank c.args.text.now c.strip_prefix-in-None.result =
    after_tab c.args.text.now c.strip_prefix-in-None.result
    (strip_prefix_char 32 c.args.text.now None c.in-None.ensures.cases (lit< tt))
    (strip_prefix_char 9 c.args.text.now c.strip_prefix-in-None.result c.strip_prefix-in-None.ensures.cases (lit< tt)) in
    record { none = is.none; some = is.some; rest = is.rest }
