use Rattle.wb_api.proofs.OneLineLemmas.{reply_text-one, refusal_text-one}
use Rattle.wb_api.proofs.QueryLineLemmas.{query_text-one}
use Rattle.wb_api.proofs.laws.answers_are_one_line.Goals as goal

pub returns-clause-reply : goal.returns-clause-reply
returns-clause-reply c = reply_text-one

pub returns-clause-refusal : goal.returns-clause-refusal
returns-clause-refusal c = refusal_text-one

pub returns-clause-query : goal.returns-clause-query
returns-clause-query c = query_text-one
