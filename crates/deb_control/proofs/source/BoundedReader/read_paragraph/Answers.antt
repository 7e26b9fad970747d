use Rattle.std.proofs.Common.{◌<◌, subst, arith, length}
use Rattle.deb_control.specs.Pieces.{ReadsLine}
use Rattle.deb_control.specs.declared.source.LineRead.{LineRead}
use Rattle.deb_control.proofs.ParagraphReadLemmas.{so-far-line, so-far-separator, run-failed, run-large, run-ended, run-last, empty-text}
use Rattle.deb_control.proofs.source.BoundedReader.read_paragraph.Goals as goal

pub returns-in-Failed-clause-value : goal.returns-in-Failed-clause-value
returns-in-Failed-clause-value g c =
    run-failed c.loop-text.text.items c.read_line.new.text.items _ c.loop-text.self _ c.loop-text.invariant
    (subst (λ (e : LineRead). ReadsLine e c.loop-text.text.items c.read_line.new.text.items c.loop-text.self c.read_line.new.self) c.in-Failed.is c.in_ok-read_line.ensures.value)

pub returns-in-Long-clause-value : goal.returns-in-Long-clause-value
returns-in-Long-clause-value g c =
    run-large c.loop-text.text.items c.read_line.new.text.items _ c.loop-text.self _ c.loop-text.invariant
    (subst (λ (e : LineRead). ReadsLine e c.loop-text.text.items c.read_line.new.text.items c.loop-text.self c.read_line.new.self) c.in-Long.is c.in_ok-read_line.ensures.value)

pub returns-in-End-clause-value : goal.returns-in-End-clause-value
returns-in-End-clause-value g c =
    run-last c.loop-text.text.items c.read_line.new.text c.paragraph_of.result _ c.loop-text.self _ c.loop-text.invariant
    (subst (λ (e : LineRead). ReadsLine e c.loop-text.text.items c.read_line.new.text.items c.loop-text.self c.read_line.new.self) c.in-End.is c.in_ok-read_line.ensures.value)
    c.paragraph_of.ensures.none c.paragraph_of.ensures.some

pub returns-then-not-is_empty-clause-value : goal.returns-then-not-is_empty-clause-value
returns-then-not-is_empty-clause-value g c =
    let some : 0 < length c.read_line.new.text.items = grind (arith, c.is_empty.ensures, c.if-not-is_empty.true, c.read_line.new.text.ok.0) in
    run-ended c.loop-text.text.items c.read_line.new.text _ c.loop-text.self _ c.loop-text.invariant
    (subst (λ (e : LineRead). ReadsLine e c.loop-text.text.items c.read_line.new.text.items c.loop-text.self c.read_line.new.self) c.in-Separator.is c.in_ok-read_line.ensures.value) some

pub loop-text-preserved-else-not-is_empty : goal.loop-text-preserved-else-not-is_empty
loop-text-preserved-else-not-is_empty g c =
    so-far-separator c.loop-text.text.items c.read_line.new.text.items _ c.loop-text.self _ c.loop-text.invariant
    (subst (λ (e : LineRead). ReadsLine e c.loop-text.text.items c.read_line.new.text.items c.loop-text.self c.read_line.new.self) c.in-Separator.is c.in_ok-read_line.ensures.value)
    (empty-text c.read_line.new.text.items (grind (arith, c.is_empty.ensures, c.if-not-is_empty.false, c.read_line.new.text.ok.0)))

pub loop-text-preserved : goal.loop-text-preserved
loop-text-preserved g c =
    so-far-line c.loop-text.text.items c.read_line.new.text.items _ c.loop-text.self _ c.loop-text.invariant
    (subst (λ (e : LineRead). ReadsLine e c.loop-text.text.items c.read_line.new.text.items c.loop-text.self c.read_line.new.self) c.in-Whole.is c.in_ok-read_line.ensures.value)
