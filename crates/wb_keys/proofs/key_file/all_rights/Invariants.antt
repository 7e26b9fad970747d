use Rattle.std.proofs.Common.{◌≡◌, drop, map}
use Rattle.wb_keys.specs.KeyFile.{all_rights}
use Rattle.wb_keys.proofs.FileLemmas.{rights_after}
use Rattle.wb_keys.proofs.key_file.all_rights.Given as goal

abbrev pub invariant-loop-word : goal.invariant-loop-word
invariant-loop-word l =
    all_rights (map (λ w. w.now) l.words) ≡ rights_after l.rights
    (all_rights (map (λ w. w.now) (drop l.word-index l.words)))
