-- Bytes after which nothing plays a part are a request that has come.
use Rattle.std.proofs.Common.{refl, rules, subst}
use Rattle.wb_api.specs.Coming.{IsSettledWith}
use Rattle.wb_serve.proofs.connection.Connection.add.Goals as goal

pub returns-in-Whole : goal.returns-in-Whole
returns-in-Whole c = record {
  value = (
    search rules,
    refl,
    subst (IsSettledWith c.args.service.now) c.as_slice.ensures.value (c.in-Whole.ensures.whole refl),
  );
}
