use Rattle.std.proofs.Common.{ap, option_map, sym}
use Rattle.wb_words.specs.Usages.{Usage}
use Rattle.wb_words.proofs.TreeLemmas.{invocation_in-unknown}
use Rattle.wb_words.proofs.laws.other_names_are_none.Goals as goal

pub returns : goal.returns
returns c = λ name others missing. invocation_in-unknown name others (sym (ap (option_map (λ (usage : Usage). usage.1)) missing))
