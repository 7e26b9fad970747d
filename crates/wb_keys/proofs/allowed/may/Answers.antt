-- What is allowed by who holds a take number is what a state says of who holds it.
use Rattle.std.proofs.Common.{ap, ◌∙◌}
use Rattle.wb_keys.specs.Rights.{allows, rights_named}
use Rattle.wb_keys.proofs.RightLemmas.{needed-machine}
use Rattle.wb_keys.proofs.allowed.may.Goals as goal

pub returns-clause-machine : goal.returns-clause-machine
returns-clause-machine c = λ machine same. c.is_allowed.ensures
    ∙ ap (λ holder. allows (rights_named c.args.rights) holder c.args.command.now) same

pub returns-clause-needed : goal.returns-clause-needed
returns-clause-needed c = λ machine same. c.is_allowed.ensures
    ∙ (ap (λ holder. allows (rights_named c.args.rights) holder c.args.command.now) same
    ∙ needed-machine (rights_named c.args.rights) machine c.args.command.now)
