use Rattle.wb_merge.proofs.SourceTextLemmas.{name-alone, name-with_version, source_text-is}
use Rattle.wb_merge.proofs.laws.source_texts_read_back.Goals as goal

pub returns-clause-plain : goal.returns-clause-plain
returns-clause-plain c = name-alone

pub returns-clause-versioned : goal.returns-clause-versioned
returns-clause-versioned c = name-with_version

pub returns-clause-only : goal.returns-clause-only
returns-clause-only c = source_text-is
