use Rattle.std.proofs.Common.{◌≡◌, length}
use denote.Text.{Utf8}
use denote.Shadow.{shadow}
use Rattle.std.proofs.Common.{eqb}
use Rattle.std.specs.List.{slice_split}
use Rattle.deb_relations.specs.Reader.{lists_of}
use Rattle.deb_relations.proofs.TurnLemmas.{onto}
use Rattle.deb_relations.specs.Reading.{lists_fault}
use Rattle.deb_relations.proofs.BegunLemmas.{HasProfile}
use Rattle.deb_relations.proofs.parse.read_profiles.Given as goal

abbrev pub invariant-loop-piece : goal.invariant-loop-piece
invariant-loop-piece l =
    shadow (Utf8 l.rest) × (onto l.made (lists_of (slice_split (λ b. eqb b 62) l.rest)) ≡ lists_of (slice_split (λ b. eqb b 62) l.text))
    × (lists_fault l.end (slice_split (λ b. eqb b 62) l.rest) ≡ lists_fault l.end (slice_split (λ b. eqb b 62) l.text))
    × HasProfile l.rest l.text

abbrev pub decreases-loop-piece : goal.decreases-loop-piece
decreases-loop-piece l = length l.rest
