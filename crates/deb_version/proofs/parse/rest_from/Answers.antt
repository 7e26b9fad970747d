use Rattle.std.proofs.Common.{sym, ◌∙◌, ap, drop}
use Rattle.std.proofs.lemmas.List.{take_rest}
use Rattle.deb_version.proofs.CutLemmas.{rest_of-drop}
use Rattle.deb_version.proofs.parse.rest_from.Goals as goal

pub returns : goal.returns
returns c = take_rest c.args.text.now c.args.start ∙ ap (λ n. drop n c.args.text.now) c.requires.place ∙ sym (rest_of-drop c.args.text.now)
