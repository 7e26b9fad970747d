use Rattle.std.proofs.Common.{◌≡◌, length}
use denote.Text.{Utf8}
use denote.Shadow.{shadow}
use Rattle.deb_relations.specs.Grammar.{is_white, words}
use Rattle.deb_relations.specs.Reader.{term_of}
use Rattle.deb_text.specs.Options.{all_some}
use Rattle.deb_relations.proofs.FrontLemmas.{stops}
use Rattle.deb_relations.proofs.TurnLemmas.{onto}
use Rattle.deb_relations.proofs.BegunLemmas.{HasTerm}
use Rattle.deb_relations.proofs.parse.collect_terms.Given as goal

abbrev pub invariant-loop-rest : goal.invariant-loop-rest
invariant-loop-rest l =
    shadow (Utf8 l.rest) × stops is_white l.rest × (onto l.made (all_some (term_of l.kind) (words l.rest)) ≡ all_some (term_of l.kind) (words l.inside))
    × HasTerm l.kind l.rest l.inside

abbrev pub decreases-loop-rest : goal.decreases-loop-rest
decreases-loop-rest l = length l.rest
