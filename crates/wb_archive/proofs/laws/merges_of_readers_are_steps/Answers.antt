use Rattle.wb_archive.specs.Readers.{IsOfRead}
use Rattle.wb_archive.proofs.ReaderLemmas.{read-texts, texts-step}
use Rattle.wb_archive.proofs.laws.merges_of_readers_are_steps.Goals as goal

pub returns : goal.returns
returns g c = record { texts = read-texts g.R.Read.remaining; value = texts-step IsOfRead (λ _. IsOfRead) }
