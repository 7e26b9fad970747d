-- Which words match an architecture (Debian Policy 11.1.1).
use Rattle.std.specs.Prelude.{ℕ, Bool, ◌||◌, List, ◌++◌, bytes_eq, codes}
use Rattle.deb_relations.specs.declared.arch.ArchWords.{ArchWords}

-- the name, `any`, `any-any`, the operating system and `-any`, `any-` and the processor (Policy 11.1.1, `any-any` this project's own)
unfoldable pub arch_matches : List ℕ → ArchWords → Bool
arch_matches word arch =
    bytes_eq word arch.name
    || (bytes_eq word (codes "any")
    || (bytes_eq word (codes "any-any")
    || (bytes_eq word (arch.os ++ codes "-any")
    || bytes_eq word (codes "any-" ++ arch.cpu))))
