use Rattle.std.proofs.Common.{◌∙◌, sym, ap, subst, arith}
use Rattle.std.specs.Prelude.{drop}
use Rattle.std.specs.List.{list_all}
use Rattle.deb_control.specs.Lines.{is_blank}
use Rattle.deb_control.specs.Pieces.{AddsLine, is_cut_line}
use Rattle.deb_control.specs.Source.{CutsIf}
use Rattle.deb_control.specs.declared.source.LineEnd.{LineEnd}
use Rattle.deb_control.proofs.LineReadLemmas.{read-ended, read-last, read-cut, read-full, dropped-more}
use Rattle.deb_control.proofs.source.BoundedReader.read_line.Goals as goal

pub returns-in-Ended-clause-value : goal.returns-in-Ended-clause-value
returns-in-Ended-clause-value g c =
    read-ended c.end_line.result _ _ c.append_line.new.text.items _ c.len-start.result c.loop-text.over _ _ _ c.loop-text.invariant.dropped
    (subst (λ (e : LineEnd). AddsLine e c.loop-text.text.items c.append_line.new.text.items c.loop-text.self c.append_line.new.self) c.in-Ended.is c.in_ok-append_line.ensures.value)
    c.loop-text.invariant.failed
    (subst (λ (e : LineEnd). CutsIf (is_cut_line e) c.loop-text.self c.append_line.new.self) c.in-Ended.is c.in_ok-append_line.ensures.failed)
    c.end_line.ensures.value

pub returns-in-Last-clause-value : goal.returns-in-Last-clause-value
returns-in-Last-clause-value g c =
    read-last c.end_last.result _ _ c.append_line.new.text.items _ c.len-start.result c.loop-text.over _ _ _ c.loop-text.invariant.dropped
    (subst (λ (e : LineEnd). AddsLine e c.loop-text.text.items c.append_line.new.text.items c.loop-text.self c.append_line.new.self) c.in-Last.is c.in_ok-append_line.ensures.value)
    (omega (arith, c.len-start.ensures, c.requires))
    c.loop-text.invariant.failed
    (subst (λ (e : LineEnd). CutsIf (is_cut_line e) c.loop-text.self c.append_line.new.self) c.in-Last.is c.in_ok-append_line.ensures.failed)
    c.end_last.ensures.value

pub returns-in-Cut-clause-value : goal.returns-in-Cut-clause-value
returns-in-Cut-clause-value g c =
    read-cut c.end_cut.result _ _ c.append_line.new.text.items c.len-start.result c.loop-text.over _ _ _ c.loop-text.invariant.dropped
    (subst (λ (e : LineEnd). AddsLine e c.loop-text.text.items c.append_line.new.text.items c.loop-text.self c.append_line.new.self) c.in-Cut.is c.in_ok-append_line.ensures.value)
    (omega (arith, c.len-start.ensures, c.requires))
    c.loop-text.invariant.failed
    (subst (λ (e : LineEnd). CutsIf (is_cut_line e) c.loop-text.self c.append_line.new.self) c.in-Cut.is c.in_ok-append_line.ensures.failed)
    (rw c.deref.ensures.value at c.end_cut.ensures.value)

pub returns-then-not-is_blank_from-clause-value : goal.returns-then-not-is_blank_from-clause-value
returns-then-not-is_blank_from-clause-value g c =
    read-full _ _ c.append_line.new.text.items c.len-start.result c.loop-text.over _ _ _ c.loop-text.invariant.dropped
    (subst (λ (e : LineEnd). AddsLine e c.loop-text.text.items c.append_line.new.text.items c.loop-text.self c.append_line.new.self) c.in-Full.is c.in_ok-append_line.ensures.value)
    (ap (λ v. list_all is_blank (drop c.len-start.result v)) (sym c.deref-in-Full.ensures.value) ∙ sym c.is_blank_from.ensures ∙ c.if-not-is_blank_from.true)

pub loop-text-preserved : goal.loop-text-preserved
loop-text-preserved g c = record {
  dropped =
      dropped-more _ _ c.append_line.new.text.items _ c.len-start.result c.loop-text.over _ _ _ c.loop-text.invariant.dropped
      (subst (λ (e : LineEnd). AddsLine e c.loop-text.text.items c.append_line.new.text.items c.loop-text.self c.append_line.new.self) c.in-Full.is c.in_ok-append_line.ensures.value)
      (ap (λ v. list_all is_blank (drop c.len-start.result v)) (sym c.deref-in-Full.ensures.value) ∙ sym c.is_blank_from.ensures ∙ c.if-not-is_blank_from.false) c.truncate.ensures.items;
  failed =
      subst (λ (e : LineEnd). CutsIf (is_cut_line e) c.loop-text.self c.append_line.new.self) c.in-Full.is c.in_ok-append_line.ensures.failed ∙ c.loop-text.invariant.failed;
}
