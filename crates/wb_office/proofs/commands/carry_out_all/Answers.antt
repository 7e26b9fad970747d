use Rattle.std.proofs.Common.{◌+◌, ◌++◌, [], ◌∷◌, List, ap, refl, subst, sym, ◌∙◌, drop, arith}
use Rattle.std.proofs.lemmas.List.{append_assoc, append-nil, drop_all}
use Rattle.wb_states.specs.declared.command.Command.{Command}
use Rattle.wb_office.proofs.WrittenRowLemmas.{left_of}
use Rattle.wb_office.specs.Asked.{AreAsked, IsLedThrough}
use Rattle.wb_office.specs.Lives.{Outcome}
use Rattle.wb_office.proofs.commands.carry_out_all.Goals as goal

pub loop-command-preserved : goal.loop-command-preserved
loop-command-preserved g c =
    let before = c.loop-command in
    let command = c.command-item.result in
    let outcome = c.apply-outcome.result in
    let rest = drop (before.command-index + 1) c.args.commands.now in
    let left = left_of c.args.commands.now before.command-index command c.loop-command-test.true c.command-item.is in
    record {
      room = omega (arith, c.keep.ensures.length, c.keep.ensures.room, before.invariant.room);
      rest = λ more new later.
          let whole = before.invariant.rest (outcome ∷ more) new
          (subst (λ (all : List Command). AreAsked g.S.Store all (outcome ∷ more) before.office new) (sym left) (c.apply-outcome.new.self, c.apply-outcome.ensures.applies, later)) in
          subst (λ (all : List Outcome). IsLedThrough g.S.Store c.args.commands.now c.args.outcomes.now.items all c.args.office.now new)
          (sym (append_assoc before.outcomes.items (outcome ∷ []) more) ∙ ap (λ (all : List Outcome). all ++ more) (sym c.keep.ensures.added)) whole;
    }

pub returns : goal.returns
returns g c =
    let before = c.loop-command in
    let whole = before.invariant.rest [] before.office
    (subst (λ (left : List Command). AreAsked g.S.Store left [] before.office before.office) (sym (drop_all before.command-index c.args.commands.now c.loop-command-test.false)) refl) in
    record {
      leads = subst (λ (all : List Outcome). IsLedThrough g.S.Store c.args.commands.now c.args.outcomes.now.items all c.args.office.now before.office)
          (append-nil before.outcomes.items) whole;
    }
