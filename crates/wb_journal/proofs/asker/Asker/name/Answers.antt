use Rattle.std.proofs.Common.{List, ℕ, Bor, ap, ◌∙◌}
use Rattle.std.specs.Option.{option_map}
use Rattle.wb_journal.proofs.AskerLemmas.{name-read}
use Rattle.wb_journal.proofs.asker.Asker.name.Goals as goal

pub returns-in-Some : goal.returns-in-Some
returns-in-Some c = record {
  value = ap (option_map (λ (name : Bor (List ℕ)). name.now)) c.ok.ensures.value
      ∙ name-read _ c.self.inside.bytes c.in-Some.length c.self.inside.length c.from_utf8.result c.in-Some.is
      c.self.invariant c.from_utf8.ensures.cases
      ∙ c.self.view_is;
}
