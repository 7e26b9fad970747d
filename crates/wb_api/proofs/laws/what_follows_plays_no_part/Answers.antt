use Rattle.wb_api.proofs.LawLemmas.{asked-means_more, refused-means_more}
use Rattle.wb_api.proofs.laws.what_follows_plays_no_part.Goals as goal

pub returns : goal.returns
returns c = record {
  asked = asked-means_more;
  refused = λ lists input more fault whole good means. refused-means_more lists input more fault whole good means;
}
