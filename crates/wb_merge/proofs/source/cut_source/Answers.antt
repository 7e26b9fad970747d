use Rattle.std.proofs.Common.{refl, lit<, None}
use Rattle.std.proofs.lemmas.Str.Pattern.{split_once_first}
use Rattle.wb_merge.specs.Rows.{has_source_version}
use Rattle.wb_merge.proofs.SourceLemmas.{no_space}
use Rattle.wb_merge.proofs.source.cut_source.Goals as goal

pub returns-in-None-clause-rest : goal.returns-in-None-clause-rest
unfolding has_source_version
returns-in-None-clause-rest c =
    rw (no_space c.args.text.now (split_once_first 32 c.args.text.now None c.in-None.ensures.cases (lit< tt))) refl
