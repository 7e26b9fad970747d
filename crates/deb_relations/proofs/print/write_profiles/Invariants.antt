use Rattle.std.proofs.Common.{◌≡◌, ◌++◌, drop}
use Rattle.std.specs.String.{string_bytes}
use Rattle.deb_relations.specs.Printing.{profiles_text}
use Rattle.deb_relations.proofs.print.write_profiles.Given as goal

abbrev pub invariant-loop-terms : goal.invariant-loop-terms
invariant-loop-terms l =
    string_bytes l.out ++ profiles_text (drop l.terms-index l.lists) ≡ string_bytes l.initial.out ++ profiles_text l.lists
