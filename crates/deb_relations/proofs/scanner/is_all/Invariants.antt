use Rattle.std.proofs.Common.{◌≡◌, drop}
use Rattle.std.specs.List.{list_all}
use Rattle.deb_relations.specs.Scanner.{test_of}
use Rattle.deb_relations.proofs.scanner.is_all.Given as goal

abbrev pub invariant-loop-byte : goal.invariant-loop-byte
invariant-loop-byte l = list_all (test_of l.class) (drop l.byte-index l.byte-items) ≡ list_all (test_of l.class) l.byte-items
