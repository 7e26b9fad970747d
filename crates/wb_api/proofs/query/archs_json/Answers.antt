use Rattle.wb_api.proofs.QueryLemmas.{archs_written}
use Rattle.wb_api.proofs.query.archs_json.Goals as goal

pub returns : goal.returns
returns c = record {
  value =
      archs_written c.args.accepted _ _ _ _ c.args.archs.now c.in_ok-out.ensures.value c.in_ok-push_str.ensures.bytes
      c.in_ok-write_archs.ensures.ok c.in_ok-push_str-2.ensures.bytes;
}
