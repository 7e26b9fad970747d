use Rattle.wb_api.proofs.QueryLemmas.{builders_written}
use Rattle.wb_api.proofs.query.builders_json.Goals as goal

pub returns : goal.returns
returns c = record {
  value =
      builders_written c.args.accepted _ _ _ _ c.args.pairs.now c.in_ok-out.ensures.value c.in_ok-push_str.ensures.bytes
      c.in_ok-write_pairs.ensures.ok c.in_ok-push_str-2.ensures.bytes;
}
