-- The waits of a consistent office can be read again.
use Rattle.std.proofs.Common.{◌≡◌, ℕ, ◌≤◌, List, [], length, Option, Some, None, IfSome, inl, inr, refl, sym, ap, subst, ◌∙◌, arith}
use Rattle.std.specs.FinMap as finite
use Rattle.deb_relations.specs.declared.arch.ArchWords.{ArchWords}
use Rattle.deb_relations.specs.declared.relations.Alternative.{Alternative}
use Rattle.deb_relations.specs.Grammar.{Reads, is_not_blank}
use Rattle.deb_relations.specs.Printing.{printed}
use Rattle.deb_relations.specs.Reading.{reading_of}
use Rattle.deb_relations.specs.Reduction.{reduced}
use Rattle.deb_relations.proofs.ReadingLemmas.{reads-reading}
use Rattle.deb_relations.proofs.ReadBackLemmas.{reads-good, reduced-good, printed-reads}
use Rattle.deb_relations.proofs.ReducedLemmas.{reduced-again}
use Rattle.wb_states.specs.declared.record.Record.{Record}
use Rattle.wb_states.specs.Limits.{relations_limit}
use Rattle.wb_states.specs.Machine.{Machine, AreRelations, AreWaits, IsConsistent, IsRecord, arch_words}

nothing-read : Reads [] []
unfolding Reads is_not_blank
nothing-read = (omega arith, tt)

no-waits : (arch : ArchWords) (waits : List ℕ) → waits ≡ [] → AreRelations arch waits
unfolding reduced printed
no-waits arch waits e = record {
  relations = [];
  read = ap reading_of e ∙ reads-reading [] [] nothing-read;
  bare = refl;
  kept = sym e;
}

some-waits : (arch : ArchWords) (waits text : List ℕ) (relations : List (List Alternative)) → Reads text relations
    → waits ≡ printed (reduced arch relations) → length waits ≤ relations_limit → AreRelations arch waits
some-waits arch waits text relations r e l =
    let short : length (printed (reduced arch relations)) ≤ 65536 = omega (arith, l, ap length e) in
    let back : Reads (printed (reduced arch relations)) (reduced arch relations) =
    printed-reads (reduced arch relations) (reduced-good arch relations (reads-good text relations r)) short in
    record {
      relations = reduced arch relations;
      read = reads-reading waits (reduced arch relations) (subst (λ t. Reads t (reduced arch relations)) (sym e) back);
      bare = reduced-again arch arch relations;
      kept = sym e;
    }

are-relations : (arch : ArchWords) (waits : List ℕ) → AreWaits arch waits → length waits ≤ relations_limit → AreRelations arch waits
are-relations arch waits (inl e) l = no-waits arch waits e
are-relations arch waits (inr k) l = some-waits arch waits k.0 k.1.0 k.1.1.0 k.1.1.1 l

record-waits : (machine : Machine) (arch source : List ℕ) (current : Record) (o : Option Record) → IfSome o (IsRecord machine arch source)
    → o ≡ Some current → AreRelations (arch_words machine arch) current.waits
record-waits machine arch source current None h e = cc
record-waits machine arch source current (Some other) h e =
    let same : other ≡ current = cc in
    let at : IsRecord machine arch source current = subst (IsRecord machine arch source) same h in
    are-relations (arch_words machine arch) current.waits at.waits at.fields.waits.within

pub waits-read : (machine : Machine) (arch source : List ℕ) (current : Record) → IsConsistent machine
    → finite.get machine.records (arch, source) ≡ Some current → AreRelations (arch_words machine arch) current.waits
waits-read machine arch source current good e =
    record-waits machine arch source current (finite.get machine.records (arch, source)) (good.records arch source) e
