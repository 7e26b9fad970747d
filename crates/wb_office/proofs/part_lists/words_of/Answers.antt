use Rattle.std.proofs.Common.{◌∙◌, sym, Some}
use Rattle.wb_office.proofs.PartListLemmas.{words_here, words_next, words_none}
use Rattle.wb_office.proofs.part_lists.words_of.Goals as goal

pub returns-then-eq : goal.returns-then-eq
returns-then-eq c = record {
  value = λ machine are.
      (λ i. Some (record { os = c.in_ok-clone.ensures.cases.0 i; cpu = c.in_ok-clone.ensures.cases.1 i }))
      ∙ words_here c.args.arch.now c.args.archs.now c.loop-name.name-index c.loop-name-item.result c.loop-name-test.true c.loop-name-item.is
      (sym c.eq.ensures ∙ c.if-eq.true) c.loop-name.invariant machine are;
}

pub loop-name-preserved : goal.loop-name-preserved
loop-name-preserved c =
    words_next c.args.arch.now c.args.archs.now c.loop-name.name-index c.loop-name-item.result c.loop-name-test.true c.loop-name-item.is
    (sym c.eq.ensures ∙ c.if-eq.false) c.loop-name.invariant

pub returns : goal.returns
returns c = record {
  value = λ machine are. words_none c.args.arch.now c.args.archs.now c.loop-name.name-index c.loop-name-test.false c.loop-name.invariant machine are;
}
