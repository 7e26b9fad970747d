use Rattle.std.proofs.Common.{◌≡◌, length}
use denote.Text.{Utf8}
use denote.Shadow.{shadow}
use Rattle.std.proofs.Common.{eqb}
use Rattle.std.specs.List.{slice_split}
use Rattle.deb_relations.specs.Reader.{read_alternative}
use Rattle.deb_text.specs.Options.{all_some}
use Rattle.deb_relations.proofs.TurnLemmas.{onto}
use Rattle.deb_relations.specs.Reading.{first_fault, is_alternative, alternative_fault}
use Rattle.deb_relations.proofs.BegunLemmas.{IsBegun}
use Rattle.deb_relations.proofs.parse.read_group.Given as goal

abbrev pub invariant-loop-piece : goal.invariant-loop-piece
invariant-loop-piece l =
    shadow (Utf8 l.rest) × (onto l.made (all_some read_alternative (slice_split (λ b. eqb b 124) l.rest)) ≡ all_some read_alternative (slice_split (λ b. eqb b 124) l.text))
    × (first_fault is_alternative alternative_fault l.end (slice_split (λ b. eqb b 124) l.rest) ≡ first_fault is_alternative alternative_fault l.end (slice_split (λ b. eqb b 124) l.text))
    × IsBegun l.rest l.text

abbrev pub decreases-loop-piece : goal.decreases-loop-piece
decreases-loop-piece l = length l.rest
