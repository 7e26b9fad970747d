use Rattle.std.proofs.Common.{◌∙◌}
use Rattle.deb_relations.proofs.ScannerLemmas.{ends-at}
use Rattle.deb_relations.proofs.scanner.split_leading.Goals as goal

pub split_at-requires : goal.split_at-requires
split_at-requires c =
    (ends-at c.args.class c.as_bytes.result.now c.args.text.now c.front_len-len.result c.as_bytes.ensures.value c.utf8.text c.front_len-len.ensures.inside c.front_len-len.ensures.passed c.front_len-len.ensures.stopped).place

pub returns-clause-front : goal.returns-clause-front
returns-clause-front c =
    c.split_at.ensures.front
    ∙ (ends-at c.args.class c.as_bytes.result.now c.args.text.now c.front_len-len.result c.as_bytes.ensures.value c.utf8.text c.front_len-len.ensures.inside c.front_len-len.ensures.passed c.front_len-len.ensures.stopped).front

pub returns-clause-back : goal.returns-clause-back
returns-clause-back c =
    c.split_at.ensures.back
    ∙ (ends-at c.args.class c.as_bytes.result.now c.args.text.now c.front_len-len.result c.as_bytes.ensures.value c.utf8.text c.front_len-len.ensures.inside c.front_len-len.ensures.passed c.front_len-len.ensures.stopped).back
