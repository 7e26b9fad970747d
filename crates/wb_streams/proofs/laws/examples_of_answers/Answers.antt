-- Phrases and answers at numbers and texts that are known compute.
use Rattle.std.proofs.Common.{refl}
use Rattle.std.specs.Fmt.{digits}
use Rattle.wb_streams.specs.Answers.{answer_bytes, parts_bytes, phrase_of}
use Rattle.wb_streams.proofs.laws.examples_of_answers.Goals as goal

pub returns : goal.returns
unfolding answer_bytes parts_bytes phrase_of digits
returns c = record { phrases = refl; none = refl; answer = refl; unauthorized = refl; without_phrase = refl }
