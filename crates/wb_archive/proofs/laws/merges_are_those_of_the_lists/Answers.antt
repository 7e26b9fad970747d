use Rattle.wb_archive.specs.Merges.{BreaksFor}
use Rattle.wb_archive.proofs.MergeLemmas.{parts-are}
use Rattle.wb_archive.proofs.laws.merges_are_those_of_the_lists.Goals as goal

pub returns : goal.returns
returns g c = record {
  value = λ never sources parts.
      parts-are (g.R.ReadParagraphs.breaks sources) (BreaksFor g.R.ReadParagraphs.breaks parts) (never sources) (λ of fault broke. never broke.0.packages fault broke.3);
}
