use Rattle.std.proofs.Common.{◌+◌, ◌++◌, [], ◌∷◌, inl, inr, List, Bool, ap, refl, subst, sym, ◌∙◌, length, arith}
use Rattle.std.proofs.lemmas.List.{append_assoc, append-nil, drop_all, length-append}
use Rattle.wb_states.specs.declared.command.Command.{Command}
use Rattle.wb_office.specs.declared.history.Found.{Found}
use Rattle.wb_office.specs.History.{AreLivedInTurn, IsLivedOnce}
use Rattle.wb_office.proofs.WrittenRowLemmas.{left_of}
use Rattle.wb_office.proofs.history.live_all.Goals as goal

pub returns-then-not-goes_on : goal.returns-then-not-goes_on
returns-then-not-goes_on g c =
    let D = g.D.Disk in
    let hands_back = g.P.Power.hands_back in
    let before = c.loop-commands in
    let commands = c.commands-item.result in
    let once = c.live_once-one in
    let one = once.result.0 in
    let left = left_of c.args.lives.now before.commands-index commands c.loop-commands-test.true c.commands-item.is in
    let life = subst (λ (commands : List Command). IsLivedOnce D hands_back before.current before.power commands one once.result.2 once.result.1 once.new.power) c.as_slice.ensures once.ensures.lived in
    let ends = subst (λ (goes_on : Bool). IsLivedOnce D hands_back before.current before.power commands one goes_on once.result.1 once.new.power) c.if-not-goes_on.true life in
    let whole = before.invariant.rest (one ∷ []) once.result.1 once.new.power
    (subst (λ (lives : List (List Command)). AreLivedInTurn D hands_back before.current before.power lives (one ∷ []) once.result.1 once.new.power) (sym left) (inl (ends, refl))) in
    record {
      in_turn = subst (λ (found : List Found). AreLivedInTurn D hands_back c.args.files c.args.power.now c.args.lives.now found once.result.1 once.new.power) (sym c.keep.ensures.added) whole;
      cut =
          let count = ap length c.keep.ensures.added ∙ length-append before.found.items (one ∷ []) ∙ ap (λ n. n + 1) before.invariant.count in
          omega (arith, before.invariant.cuts, once.ensures.cut, count);
    }

pub loop-commands-preserved : goal.loop-commands-preserved
loop-commands-preserved g c =
    let D = g.D.Disk in
    let hands_back = g.P.Power.hands_back in
    let before = c.loop-commands in
    let commands = c.commands-item.result in
    let once = c.live_once-one in
    let one = once.result.0 in
    let left = left_of c.args.lives.now before.commands-index commands c.loop-commands-test.true c.commands-item.is in
    record {
      log = once.ensures.usable.0;
      db = once.ensures.usable.1;
      room = omega (arith, c.keep.ensures.length, c.keep.ensures.room, before.invariant.room);
      cuts = omega (arith, before.invariant.cuts, once.ensures.cut);
      count = ap length c.keep.ensures.added ∙ length-append before.found.items (one ∷ []) ∙ ap (λ n. n + 1) before.invariant.count;
      rest = λ more back after later.
          let life = subst (λ (commands : List Command). IsLivedOnce D hands_back before.current before.power commands one once.result.2 once.result.1 once.new.power) c.as_slice.ensures once.ensures.lived in
          let goes = subst (λ (goes_on : Bool). IsLivedOnce D hands_back before.current before.power commands one goes_on once.result.1 once.new.power) c.if-not-goes_on.false life in
          let whole = before.invariant.rest (one ∷ more) back after
          (subst (λ (lives : List (List Command)). AreLivedInTurn D hands_back before.current before.power lives (one ∷ more) back after) (sym left)
          (inr (once.result.1, once.new.power, goes, later))) in
          subst (λ (found : List Found). AreLivedInTurn D hands_back c.args.files c.args.power.now c.args.lives.now found back after)
          (sym (append_assoc before.found.items (one ∷ []) more) ∙ ap (λ (found : List Found). found ++ more) (sym c.keep.ensures.added)) whole;
    }

pub returns : goal.returns
returns g c =
    let D = g.D.Disk in
    let hands_back = g.P.Power.hands_back in
    let before = c.loop-commands in
    let whole = before.invariant.rest [] before.current before.power
    (subst (λ (lives : List (List Command)). AreLivedInTurn D hands_back before.current before.power lives [] before.current before.power)
    (sym (drop_all before.commands-index c.args.lives.now c.loop-commands-test.false)) (refl, refl)) in
    record {
      in_turn = subst (λ (found : List Found). AreLivedInTurn D hands_back c.args.files c.args.power.now c.args.lives.now found before.current before.power)
          (append-nil before.found.items) whole;
      cut = before.invariant.cuts ∙ ap (λ n. g.P.Power.cuts_left before.power + n) (sym before.invariant.count);
    }
