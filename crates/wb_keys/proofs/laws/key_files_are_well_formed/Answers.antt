use Rattle.wb_keys.specs.KeyFile.{line_by_hash}
use Rattle.wb_keys.proofs.SoundLemmas.{keys_of-sound}
use Rattle.wb_keys.proofs.laws.key_files_are_well_formed.Goals as goal

pub returns-clause-found : goal.returns-clause-found
unfolding line_by_hash
returns-clause-found c = λ file keys line is h. (keys_of-sound file keys is).found line h

pub returns-clause-names : goal.returns-clause-names
returns-clause-names c = λ file keys one other is h k e. (keys_of-sound file keys is).names one other h k e

pub returns-clause-rights : goal.returns-clause-rights
returns-clause-rights c = λ file keys line is h. (keys_of-sound file keys is).rights line h

pub returns-clause-anyone : goal.returns-clause-anyone
returns-clause-anyone c = λ file keys is. (keys_of-sound file keys is).anyone

pub returns-clause-limit : goal.returns-clause-limit
returns-clause-limit c = λ file keys is. (keys_of-sound file keys is).limit
