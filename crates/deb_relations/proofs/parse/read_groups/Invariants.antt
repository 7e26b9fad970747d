use Rattle.std.proofs.Common.{◌≡◌, length}
use denote.Text.{Utf8}
use denote.Shadow.{shadow}
use Rattle.std.proofs.Common.{eqb, filter}
use Rattle.std.specs.List.{slice_split}
use Rattle.deb_relations.specs.Grammar.{is_not_blank}
use Rattle.deb_relations.specs.Reader.{read_group}
use Rattle.deb_text.specs.Options.{all_some}
use Rattle.deb_relations.proofs.TurnLemmas.{groups_behind}
use Rattle.deb_relations.specs.Reading.{first_fault, is_group_or_blank, group_fault}
use Rattle.deb_relations.proofs.BegunLemmas.{HasBegun}
use Rattle.deb_relations.proofs.parse.read_groups.Given as goal

abbrev pub invariant-loop-piece : goal.invariant-loop-piece
invariant-loop-piece l =
    shadow (Utf8 l.rest) × (groups_behind l.made (slice_split (λ b. eqb b 44) l.rest) ≡ all_some read_group (filter is_not_blank (slice_split (λ b. eqb b 44) l.text)))
    × (first_fault is_group_or_blank group_fault (length l.text) (slice_split (λ b. eqb b 44) l.rest) ≡ first_fault is_group_or_blank group_fault (length l.text) (slice_split (λ b. eqb b 44) l.text))
    × HasBegun l.rest l.text

abbrev pub decreases-loop-piece : goal.decreases-loop-piece
decreases-loop-piece l = length l.rest
