use Rattle.std.proofs.Common.{◌∷◌, []}
use Rattle.wb_rows.proofs.write.record_values.Goals as goal

pub returns : goal.returns
returns c = record {
  value =
      λ i. c.text_value.ensures i ∷ c.text_value-2.ensures i ∷ c.state_value.ensures i ∷ c.version_value.ensures i
      ∷ c.text_value-3.ensures i ∷ c.text_value-4.ensures i ∷ c.flag_value.ensures i ∷ c.rebuild_value.ensures i
      ∷ c.optional_text_value.ensures i ∷ c.take_value.ensures i ∷ c.text_value-5.ensures i ∷ c.optional_text_value-2.ensures i
      ∷ c.text_value-6.ensures i ∷ c.text_value-7.ensures i ∷ c.build_priority_value.ensures i ∷ c.rank_value.ensures i ∷ [];
}
