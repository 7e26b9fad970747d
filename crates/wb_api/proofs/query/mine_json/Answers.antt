use Rattle.wb_api.proofs.QueryLemmas.{mine_written}
use Rattle.wb_api.proofs.query.mine_json.Goals as goal

pub returns : goal.returns
returns c = record {
  value = mine_written c.args.builder.now _ _ _ _ c.args.rows.now c.in_ok-out.ensures.value c.in_ok-push_str.ensures.bytes
      c.in_ok-write_records.ensures.ok c.in_ok-push_str-2.ensures.bytes;
}
