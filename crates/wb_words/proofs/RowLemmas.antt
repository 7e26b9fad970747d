-- What the getters of clap's matches read, by the rows of the matches.
use Rattle.clap.proofs.WalkLemmas.{first_value-rows, raw_values-rows}

pub ruleset row_laws = (first_value-rows, raw_values-rows)
