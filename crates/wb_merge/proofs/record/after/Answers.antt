use Rattle.std.proofs.Common.{◌≡◌, ◌∙◌, rules, ap}
use Rattle.std.specs.Option.{option_copied}
use Rattle.wb_merge.specs.Merge.{listed_record}
use Rattle.wb_merge.proofs.FoundLemmas.{listed-given}
use Rattle.wb_merge.proofs.record.after.Goals.{in-Some-current+in_ok-is_met-in-Some-current+in_ok-made-in-Some-current, in-None+in_ok-made-in-None}
use Rattle.wb_merge.proofs.record.after.Goals as goal

pub returns-clause-value : goal.returns-clause-value
returns-clause-value c = elim c.match-current.branch [
  | in-Some-current+in_ok-is_met-in-Some-current+in_ok-made-in-Some-current w ↦
      let new : c.match-current.made ≡ listed_record c.in-Some.listed.now (option_copied c.built-built.result) c.args.listing.now.available w.in-Some-current.current.now =
      w.made-is
      ∙ w.in_ok-made-in-Some-current.ensures.value
      ∙ listed-given c.in-Some.listed.now (option_copied c.built-built.result) w.available.result.now w.in_ok-is_met-in-Some-current.is_met
      w.in-Some-current.current.now w.in_ok-is_met-in-Some-current.ensures.value
      ∙ ap (λ available. listed_record c.in-Some.listed.now (option_copied c.built-built.result) available w.in-Some-current.current.now) w.available.ensures.value in
      search rules
  | in-None+in_ok-made-in-None w ↦ search rules
]
