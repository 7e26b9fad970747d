use Rattle.std.proofs.Common.{lit<, None, Some}
use Rattle.std.proofs.lemmas.Str.Pattern.{strip_suffix_char}
use Rattle.deb_control.proofs.BlankLemmas.{BeforeBlank, before_space, before_tab}
use Rattle.wb_merge.proofs.report_line.without_last_blank.Goals as goal

pub returns-in-Some : goal.returns-in-Some
returns-in-Some c =
    let is : BeforeBlank c.args.text.now (Some c.in-Some.rest) =
    before_space c.args.text.now c.in-Some.rest (strip_suffix_char 32 c.args.text.now (Some c.in-Some.rest) c.in-Some.ensures.cases (lit< tt)) in
    record { none = is.none; same = is.same; shorter = is.shorter }

pub returns-in-None : goal.returns-in-None
returns-in-None c =
    let is : BeforeBlank c.args.text.now c.strip_suffix-in-None.result =
    before_tab c.args.text.now c.strip_suffix-in-None.result
    (strip_suffix_char 32 c.args.text.now None c.in-None.ensures.cases (lit< tt))
    (strip_suffix_char 9 c.args.text.now c.strip_suffix-in-None.result c.strip_suffix-in-None.ensures.cases (lit< tt)) in
    record { none = is.none; same = is.same; shorter = is.shorter }
