use Rattle.std.proofs.Common.{◌++◌, List, ℕ, ap}
use Rattle.wb_states.specs.declared.arch.OsCpu.{OsCpu}
use Rattle.wb_office.proofs.KnownLemmas.{copied_all, copied_next}
use Rattle.wb_office.proofs.known.copied.Goals as goal

pub loop-name-init : goal.loop-name-init
loop-name-init c = ap (λ (l : List (List ℕ × OsCpu)). l ++ c.args.archs.now) c.new-copy.ensures.items

pub loop-name-preserved : goal.loop-name-preserved
loop-name-preserved c =
    copied_next c.args.archs.now c.loop-name.name-index c.loop-name-item.result _ c.loop-name-test.true c.loop-name-item.is
    (λ i. (c.in_ok-clone.ensures.cases i, record { os = c.in_ok-clone-2.ensures.cases.0 i; cpu = c.in_ok-clone-2.ensures.cases.1 i })) c.loop-name.copy.items c.push.new.self.items c.in_ok-push.ensures.items c.loop-name.invariant

pub returns : goal.returns
returns c = record { value = copied_all c.args.archs.now c.loop-name.copy.items c.loop-name.name-index c.loop-name-test.false c.loop-name.invariant }
