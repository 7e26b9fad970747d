use Rattle.std.proofs.Common.{bytes_eq}
use Rattle.std.proofs.lemmas.List.Filters.{dedup_is}
use Rattle.wb_store.proofs.packages.distinct_names_in.Goals as goal

pub returns-clause-value : goal.returns-clause-value
returns-clause-value c = (c.in_ok-names.names.items, c.in_ok-names.ensures.value, dedup_is bytes_eq _ _ c.dedup.ensures.filtered)
