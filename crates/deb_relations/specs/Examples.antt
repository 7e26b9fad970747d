-- What relations come to: what is left of a text for an architecture, and whether what is available satisfies it (Debian Policy 7.1).
use Rattle.std.specs.Prelude.{ℕ, Bool, List, [], ◌∷◌, codes, Option, None, Some, Result, Ok, Err}
use Rattle.deb_relations.specs.declared.arch.ArchWords.{ArchWords}
use Rattle.deb_relations.specs.declared.fault.RelationFault.{RelationFault}
use Rattle.deb_relations.specs.declared.relations.Alternative.{Alternative}
use Rattle.deb_relations.specs.Printing.{printed}
use Rattle.deb_relations.specs.Reading.{reading_of}
use Rattle.deb_relations.specs.Reduction.{reduced}
use Rattle.deb_relations.specs.Satisfaction.{Pairs, satisfied}

-- the architecture amd64 (Policy 11.1)
abbrev pub amd64 : ArchWords
amd64 = record { name = codes "amd64"; os = codes "linux"; cpu = codes "amd64" }

-- the architecture i386 (Policy 11.1)
abbrev pub i386 : ArchWords
i386 = record { name = codes "i386"; os = codes "linux"; cpu = codes "i386" }

-- the architecture hurd-i386 (Policy 11.1)
abbrev pub hurd_i386 : ArchWords
hurd_i386 = record { name = codes "hurd-i386"; os = codes "hurd"; cpu = codes "i386" }

-- what is left of what was read for an architecture, printed
abbrev pub left_of : ArchWords → Result (List (List Alternative)) RelationFault → Option (List ℕ)
left_of arch (Ok groups) = Some (printed (reduced arch groups))
left_of arch (Err fault) = None

-- what is left of a text of relations for an architecture, printed, if the text can be read
abbrev pub left_for : ArchWords → List ℕ → Option (List ℕ)
left_for arch text = left_of arch (reading_of text)

-- whether what was read is satisfied, if it could be read
abbrev pub is_met : Pairs → Result (List (List Alternative)) RelationFault → Option Bool
is_met pairs (Ok groups) = Some (satisfied pairs groups)
is_met pairs (Err fault) = None
