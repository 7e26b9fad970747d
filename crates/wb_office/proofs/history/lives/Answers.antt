use Rattle.std.proofs.Common.{◌≡◌, ◌+◌, List, length, subst, sym}
use Rattle.wb_office.specs.declared.history.Found.{Found}
use Rattle.wb_office.specs.History.{AreLivedInTurn}
use Rattle.wb_office.proofs.HistoryLemmas.{lived_in_turn}
use Rattle.wb_office.proofs.history.lives.Goals as goal

pub returns : goal.returns
returns g c =
    let all = c.live_all-files in
    let hands_back = g.P.Power.hands_back in
    let start = g.P.Power.cuts_left c.args.power.now in
    let left = g.P.Power.cuts_left all.new.power in
    let in_turn = subst (λ (found : List Found). AreLivedInTurn g.D.Disk hands_back c.args.files c.args.power.now c.args.lives.now found all.result all.new.power) (sym c.from.ensures) all.ensures.in_turn in
    record {
      in_turn = in_turn;
      lived = lived_in_turn g.D.Disk hands_back c.args.files c.args.power.now c.args.lives.now c.from.result all.result all.new.power in_turn;
      cut = subst (λ (found : List Found). start ≡ left + length found) (sym c.from.ensures) all.ensures.cut;
      refused = tt;
    }
