use Rattle.std.proofs.Common.{◌≡◌, ◌++◌, map as each}
use Rattle.wb_office.proofs.named.found.pairs_with.Given as goal

abbrev pub invariant-loop-arch : goal.invariant-loop-arch
invariant-loop-arch l =
    l.pairs.items ++ each (λ arch. (l.builder, arch)) l.arch-iterator.rest.items ≡ each (λ arch. (l.builder, arch)) l.fn.archs.items
